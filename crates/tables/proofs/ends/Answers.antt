-- Where the block's losses ended, a row under the table has a block that can have its sum. Rests on Ending.antt.
use Rattle.std.proofs.Common.{◌≡◌, ℕ, ◌+◌, ◌*◌, ◌≤◌, get_or, sym, subst, arith}
use Rattle.lines.specs.Lines.{values}
use Rattle.blocks.specs.Blocks.{Ended}
use Rattle.tables.proofs.Coming.{fits}
use Rattle.tables.proofs.Ending.{ended}
use Rattle.tables.proofs.ends.Goals as goal

pub can_end-requires : goal.can_end-requires
can_end-requires c =
    let a = c.args in
    let p = c.requires in
    let f = fits p.0 p.1.1.0 in
    let inside = p.1.1.0.inside a.h p.1.1.1.1.0 in
    let i = c.from.ensures in (
      (p.0.is_legal, (p.0.bits, f.short)),
      (
        p.1.0,
        (
          p.1.1.0.placed,
          (
            (omega (arith, i, inside), p.1.1.1.1.1),
            (
              omega (arith, i, inside, p.0.count),
              subst (λ (k : ℕ). get_or a.numbers.now k 0 ≤ a.l.l2 * a.l.nc) (sym i)
                  (p.0.blocks (get_or a.heavy.block a.h 0) inside),
            ),
          ),
        ),
      ),
    )

pub returns : goal.returns
returns c x sent u =
    let a = c.args in
    let none : get_or a.t.left a.h 0 ≡ 0 = omega arith in
    c.can_end.ensures (values a.l x)
    (subst
    (λ (k : ℕ). Ended a.l a.y.now a.numbers.now a.t.cells a.row.now k (get_or a.heavy.end a.h 0) (a.j + 1) (values a.l x))
    (sym c.from.ensures)
    (ended c.requires.0 sent c.requires.1.1.0 u a.h c.requires.1.1.1.1.0 none))
