-- What the tactics leave open of `vt::mend_bits`.
use Rattle.std.proofs.Common.{◌≡◌, ◌+◌, ◌%◌, ◌∷◌, ◌++◌, ℕ, List, length, take, drop, add-zero, arith}
use Rattle.vt.specs.Ones.{ones}
use Rattle.vt.specs.Sum.{total}
use Rattle.vt.proofs.Mending.{puts, starts-mended}
use Rattle.vt.proofs.Totals.{put_adds}
use Rattle.vt.proofs.mend_bits.Goals as goal

pub returns : goal.returns
returns c =
    let a = c.args in
    let y : List ℕ = a.bits.now in
    let l = c.lacking-t in
    let p = c.find_place-p in
    let m : length y + 1 + 1 ≡ length y + 2 = omega arith in
    let e : (total 1 y + l.result) % (length y + 2) ≡ a.s =
    rw (c.weigh-w.ensures.0, m) at l.ensures.1 in
    let x : List ℕ = take p.result.at y ++ (p.result.bit ∷ drop p.result.at y) in
    let g : total 1 x ≡ total 1 y + l.result =
    put_adds p.result.at p.result.bit l.result (0 + p.result.at + 1) y p.ensures.0.0 (omega arith)
    (rw (add-zero (ones (drop p.result.at y))) at p.ensures.1) in
    let k = puts p.result.at p.result.bit l.result a.s y c.requires.0.0 p.ensures.0.1 g e in
    starts-mended (length y + 1) a.s y x (drop (length y + 1) a.out.now) c.put_in.new.out k c.put_in.ensures
