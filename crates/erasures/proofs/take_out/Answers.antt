use Rattle.std.proofs.Common.{ℕ, suc, ◌≡◌, ◌+◌, ◌-◌, ◌<◌, length, get_or, refl, ◌∙◌, arith}
use Rattle.std.proofs.Math.ListN.{length-set}
use Rattle.std.specs.Int.Bits.{bit_xor, xor_lt}
use Rattle.field.specs.Field.{Element, power, times}
use Rattle.field.proofs.Times.{times_element}
use Rattle.erasures.specs.Erasures.{without}
use Rattle.erasures.proofs.Erasures.{set-each}
use Rattle.erasures.proofs.take_out.Goals as goal

pub loop-i-preserved : goal.loop-i-preserved
loop-i-preserved c =
    let a = c.args in
    let p = c.requires in
    let o = c.loop-i in
    let i : ℕ = o.i in
    let v : ℕ = bit_xor (get_or a.s i 0) c.shift.result in
    let e : suc (i - 1) ≡ i = omega arith in
    let low : i - 1 < length o.out = omega arith in
    let new : v ≡ without a.nc a.c (get_or a.s (i - 1) 0) (get_or a.s (suc (i - 1)) 0) =
    rw (e, c.shift.ensures) refl
    in
    let product : Element a.nc (times a.nc (power a.nc a.c) (get_or a.s (i - 1) 0)) =
    times_element a.nc p.0.1 p.0.2 (power a.nc a.c) (get_or a.s (i - 1) 0) (p.1.2 (i - 1))
    in
    let element : Element a.nc v = rw c.shift.ensures (xor_lt a.nc (get_or a.s i 0) _ (p.1.2 i) product) in
    record {
      long = length-set o.out (i - 1) v ∙ o.invariant.long;
      elements = set-each (λ (k x : ℕ). Element a.nc x) o.out (i - 1) v low (λ k n. o.invariant.elements k) element;
      taken = set-each (λ (k x : ℕ). suc k < i + 1 → x ≡ without a.nc a.c (get_or a.s k 0) (get_or a.s (suc k) 0))
          o.out (i - 1) v low (λ k n l. o.invariant.taken k (omega arith)) (λ l. new);
    }
