-- What the tactics leave open of `vt::move_on`.
use Rattle.std.proofs.Common.{◌≡◌, ◌+◌, ℕ, List, get_or, refl, arith}
use Rattle.std.proofs.Math.ListN.{get_or-eq_default}
use Rattle.bits.specs.Bits.{AllBytes}
use Rattle.bits.proofs.Packing.{bytes_of_each}
use Rattle.vt.proofs.Moving.{moved_next, moved_all}
use Rattle.vt.proofs.move_on.Goals as goal

pub loop-i-preserved : goal.loop-i-preserved
loop-i-preserved c =
    let a = c.args in
    let p = c.loop-i in
    let s : List ℕ = a.s.now in
    let b : AllBytes s = bytes_of_each s (λ j. omega (arith, c.type_inv.s j)) in
    record {
      inside = omega arith;
      written = moved_next s a.out.now a.from a.count c.requires.0.0 c.requires.1.1 b p.out p.i _
          (omega arith) (omega arith) refl p.invariant.written;
    }

pub returns-then-last-count : goal.returns-then-last-count
returns-then-last-count c =
    let a = c.args in
    let p = c.loop-i in
    let s : List ℕ = a.s.now in
    let b : AllBytes s = bytes_of_each s (λ j. omega (arith, c.type_inv.s j)) in
    let e : c.max-last.result ≡ p.i = omega arith in
    let z : get_or s p.i 0 ≡ 0 = get_or-eq_default s 0 (omega arith) in
    moved_all s a.out.now a.from a.count c.requires.0.0 c.requires.1.1 _ (p.i + 1)
    c.requires.0.1.0 (omega arith)
    (rw e (moved_next s a.out.now a.from a.count c.requires.0.0 c.requires.1.1 b p.out p.i _
    (omega arith) (omega arith) (omega (arith, z)) p.invariant.written))

pub returns-else-last-count : goal.returns-else-last-count
returns-else-last-count c =
    let a = c.args in
    let p = c.loop-i in
    moved_all a.s.now a.out.now a.from a.count c.requires.0.0 c.requires.1.1 _ p.i
    c.requires.0.1.0 (omega arith) p.invariant.written
