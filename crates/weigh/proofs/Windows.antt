-- What the tables of a string tell of a window of it. Rests on the laws of the crate windows. Assumes nothing.
use Prim.Native.Nat.{ℕ, ◌+◌, ◌-◌, ◌*◌, ◌≤◌}
use mathlib.Core.Path.{◌≡◌, ap, ◌∙◌}
use mathlib.Core.List.{List}
use native.Mathlib.Nat.{mul-le-mul_left}
use native.Mathlib.Omega.{arith}
use lib.ListN.{length, get_or, take, drop, length-drop}
use lib.Seq.{get_or-drop, length-take-le}
use Rattle.bits.specs.Bits.{AllBits}
use Rattle.bits.proofs.Laws.{bits-take, bits-drop}
use Rattle.vt.specs.Ones.{ones}
use Rattle.vt.specs.Sum.{total}
use Rattle.vt.proofs.Totals.{ones-length}
use Rattle.windows.specs.Windows.{Tables}
use Rattle.windows.proofs.Windows.{tables-later, total_on}
use Rattle.weigh.proofs.Weights.{total-small}

-- what stands in the tables at both ends of the w bits from place p on
pub record Looked (y : List ℕ) (p w t0 tw c0 cw : ℕ) : Type 0 where
  pub counts_rise : c0 ≤ cw
  pub totals_rise : t0 ≤ tw
  pub count : cw - c0 ≡ ones (take w (drop p y))
  pub product : p * (cw - c0) ≤ p * w
  pub below : p * (cw - c0) ≤ tw - t0
  pub positions : tw - t0 - p * (cw - c0) ≡ total 1 (take w (drop p y))
  pub count_small : cw - c0 ≤ w
  pub positions-small : tw - t0 - p * (cw - c0) ≤ w * w

pub looked : (y : List ℕ) (p w : ℕ) (totals counts : List ℕ) → AllBits y → p + w ≤ length y → Tables y 0 totals counts
    → Looked y p w (get_or totals p 0) (get_or totals (p + w) 0) (get_or counts p 0) (get_or counts (p + w) 0)
looked y p w totals counts b h t =
    let x = take w (drop p y) in
    let l = tables-later y 0 p totals counts (omega arith) t in
    let room : w ≤ length (drop p y) = omega (arith, length-drop p y) in
    let z : p + 0 ≡ p = omega arith in
    let s : 0 + p + 1 ≡ p + 1 = omega arith in
    let t0 : get_or (drop p totals) 0 0 ≡ get_or totals p 0 = get_or-drop p totals 0 0 ∙ ap (λ (k : ℕ). get_or totals k 0) z in
    let c0 : get_or (drop p counts) 0 0 ≡ get_or counts p 0 = get_or-drop p counts 0 0 ∙ ap (λ (k : ℕ). get_or counts k 0) z in
    let high = l.total-at w room in
    let many = l.count_at w room in
    let k : get_or counts (p + w) 0 - get_or counts p 0 ≡ ones x = omega (arith, get_or-drop p counts w 0) in
    let d : get_or totals (p + w) 0 - get_or totals p 0 ≡ total 1 x + p * ones x =
    omega (arith, get_or-drop p totals w 0, ap (λ (i : ℕ). total i x) s, total_on p x) in
    let long : length x ≡ w = length-take-le w (drop p y) room in
    let bits = bits-take w (drop p y) (bits-drop p y b) in
    let few : ones x ≤ w = omega (arith, ones-length x bits) in
    record {
      counts_rise = omega (arith, get_or-drop p counts w 0);
      totals_rise = omega (arith, get_or-drop p totals w 0);
      count = k;
      product = rw k (mul-le-mul_left p few);
      below = rw (k, d) (omega arith);
      positions = rw (k, d) (omega arith);
      count_small = rw k few;
      positions-small = rw (k, d) (omega (arith, rw long at (total-small x bits)));
    }
