-- What the tactics leave open of `live::count_marks`.
use Rattle.std.proofs.Common.{refl, sym, true≢false}
use Rattle.marks.specs.Marks.{apart_before, apart_from}
use Rattle.live.proofs.Passes.{pass_then}
use Rattle.live.proofs.count_marks.Goals as goal

-- a row that both passes let through
pub returns : goal.returns
returns c =
    let a = c.args in
    let p = pass_then a.l a.y.now a.numbers.now a.heavy a.known.now a.z.now a.shape a.room
    (apart_before a.l a.heavy a.z.now) a.marks.now _ c.ahead.ensures.0 (apart_from a.l a.heavy a.z.now) _
    c.back.ensures in (
      refl,
      λ row vs own light path far through. (
        λ e. true≢false (sym e),
        λ e. p.through row vs own light path far through,
      ),
    )
