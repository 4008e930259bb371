-- What the tactics leave open of `costs::makes_up`.
use Rattle.std.proofs.Common.{◌≡◌, ℕ, ◌+◌, ◌%◌, ◌<◌, ◌≤◌, arith, sym, ap, ◌∙◌, true≢false, ⊎_elim, mod-lt, mod-eq_of_lt, below_more}
use Rattle.std.proofs.Math.Nat.{mod-add-mod}
use Rattle.costs.proofs.Parts.{Only, Never, only-before}
use Rattle.costs.proofs.makes_up.Goals as goal
use Rattle.costs.proofs.makes_up.Goals.{Else-holds, then-part-eq0, else-part-eq0}

-- what is missing to the least number goes with it, and nothing else
pub loop-init : goal.loop-init
loop-init c =
    let a = c.args in
    let e = c.missing-part.ensures in
    let some : 0 < a.m = omega (arith, c.requires.0) in
    let only : Only a.m a.sum a.low c.missing-part.result =
    λ q h s.
    let w : a.low + q ≡ q + a.low = omega arith in
    let o : (a.low % a.m + q) % a.m ≡ a.sum =
    mod-add-mod a.low a.m q ∙ ap (λ (v : ℕ). v % a.m) w ∙ s in
    sym (mod-eq_of_lt h) ∙ e.1 q (mod-lt a.low some) o in
    record { low = e.0; only = only; never = λ k h l. absurd (omega arith) }

-- no residue of the set goes with the number either
never : (c : Else-holds) → let a = c.args in (k : ℕ) → k < c.loop.counter + 1 → a.low ≤ k → Never a.m a.sum a.set.now k
never c =
    let a = c.args in
    let was = c.loop.invariant in
    below_more _ _ was.never
    (λ l q h x s.
    let same : q ≡ c.loop.part = was.only q h s in
    true≢false (sym (c.holds.ensures (rw same at x)) ∙ c.if-holds.false))

pub loop-preserved : goal.loop-preserved
loop-preserved c =
    let i = c.loop.invariant in
    let a = c.args in
    let n : ℕ = c.loop.counter in
    let before = only-before a.m a.sum n c.loop.part i.only in
    let low : c.if-part-eq0.part < a.m =
    elim c.if-part-eq0.branch [
      | then-part-eq0 w ↦ omega (arith, w.part-is, i.low)
      | else-part-eq0 w ↦ omega (arith, w.part-is, i.low)
    ] in
    let only : Only a.m a.sum (n + 1) c.if-part-eq0.part =
    λ q h s.
    elim c.if-part-eq0.branch [
      | then-part-eq0 w ↦ ⊎_elim (λ b. omega (arith, b, w)) (λ b. omega (arith, b, w)) (before q h s)
      | else-part-eq0 w ↦ ⊎_elim (λ b. omega (arith, b, w)) (λ b. omega (arith, b, w)) (before q h s)
    ] in
    record { low = low; only = only; never = never (goal.at.loop-preserved c).Else-holds }

-- all numbers are passed
pub returns-after-part-eq0 : goal.returns-after-part-eq0
returns-after-part-eq0 c part n h x lo hi s =
    absurd (never (goal.at.returns-after-part-eq0 c).Else-holds n (omega arith) lo part h x s)
