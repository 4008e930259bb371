-- Which check of mending applies when, and what that means for the target. Assumes nothing.
use Prim.Native.Nat.{ℕ, ◌-◌, ◌<◌, ◌≤◌}
use mathlib.Core.Path.{◌≡◌, refl, sym, ap, ◌∙◌}
use mathlib.Core.Bool.{Bool, true, false, not, cond, ◌||◌}
use mathlib.Core.List.{List, [], ◌∷◌, ◌++◌}
use native.Mathlib.Omega.{arith}
use borrow.Author.Tests.{lt-ltb, le-ltb, ltb-false, eq-eqb, ne_eqb}
use lib.Dec.{ltb, eqb}
use lib.ListN.{length, take, drop}
use Rattle.std.specs.Prelude.{Ok, Err}
use Rattle.refusal.specs.Refusal.{Answer, number_of, first_refusal}
use Rattle.refusal.specs.declared.Refusal.{Refusal}
use Rattle.refusal.proofs.Laws.{numbered}
use Rattle.bits.specs.Bits.{longest, bytes_for, pack, unpack, fits}
use Rattle.vt.specs.Answer.{answer_of}
use Rattle.vt.specs.Mend.{mended, mend_refusal, mend_target}

-- the table of mending, with the test of the packing left as it is
table : (w s : ℕ) (p : List ℕ) (room : ℕ)
    → mend_refusal w s p room ≡ first_refusal
    ((3, ltb w 1 || ltb longest w) ∷ (5, ltb w s) ∷ (8, not (fits (w - 1) p)) ∷ (10, ltb room (bytes_for w)) ∷ [])
unfolding mend_refusal
table w s p room = refl

module _ (w s : ℕ) (p : List ℕ) (room : ℕ) where
  -- the checks in their order, each where none before it applies
  pub too_short : w < 1 → mend_refusal w s p room ≡ 3
  unfolding first_refusal
  too_short h = rw (table w s p room, lt-ltb w 1 h) refl

  pub too_long : 1 ≤ w → longest < w → mend_refusal w s p room ≡ 3
  unfolding first_refusal
  too_long h k = rw (table w s p room, le-ltb w 1 h, lt-ltb longest w k) refl

  pub no_sum : 1 ≤ w → w ≤ longest → w < s → mend_refusal w s p room ≡ 5
  unfolding first_refusal
  no_sum h k l = rw (table w s p room, le-ltb w 1 h, le-ltb longest w k, lt-ltb w s l) refl

  pub not_packed : 1 ≤ w → w ≤ longest → s ≤ w → fits (w - 1) p ≡ false → mend_refusal w s p room ≡ 8
  unfolding first_refusal
  not_packed h k l f = rw (table w s p room, le-ltb w 1 h, le-ltb longest w k, le-ltb w s l, f) refl

  pub no_room : 1 ≤ w → w ≤ longest → s ≤ w → fits (w - 1) p ≡ true → room < bytes_for w → mend_refusal w s p room ≡ 10
  unfolding first_refusal
  no_room h k l f g =
      rw (table w s p room, le-ltb w 1 h, le-ltb longest w k, le-ltb w s l, f, lt-ltb room (bytes_for w) g) refl

  pub none : 1 ≤ w → w ≤ longest → s ≤ w → fits (w - 1) p ≡ true → bytes_for w ≤ room → mend_refusal w s p room ≡ 0
  unfolding first_refusal
  none h k l f g =
      rw (table w s p room, le-ltb w 1 h, le-ltb longest w k, le-ltb w s l, f, le-ltb room (bytes_for w) g) refl

-- where no check applies
all_pass : (a b c d e : Bool) → first_refusal ((3, a || b) ∷ (5, c) ∷ (8, not d) ∷ (10, e) ∷ []) ≡ 0
    → ((a ≡ false) × (b ≡ false)) × ((c ≡ false) × ((d ≡ true) × (e ≡ false)))
unfolding first_refusal
all_pass true b c d e h = absurd (omega arith)
all_pass false true c d e h = absurd (omega arith)
all_pass false false true d e h = absurd (omega arith)
all_pass false false false false e h = absurd (omega arith)
all_pass false false false true true h = absurd (omega arith)
all_pass false false false true false h = ((refl, refl), (refl, (refl, refl)))

-- what holds then
abbrev pub Fit : (w s : ℕ) (p : List ℕ) (room : ℕ) → Type 0
Fit w s p room = ((1 ≤ w) × (w ≤ longest)) × ((s ≤ w) × ((fits (w - 1) p ≡ true) × (bytes_for w ≤ room)))

pub admitted : (w s : ℕ) (p : List ℕ) (room : ℕ) → mend_refusal w s p room ≡ 0 → Fit w s p room
admitted w s p room h =
    let k =
    all_pass (ltb w 1) (ltb longest w) (ltb w s) (fits (w - 1) p) (ltb room (bytes_for w))
    (sym (table w s p room) ∙ h) in (
      (ltb-false w 1 k.0.0, ltb-false longest w k.0.1),
      (ltb-false w s k.1.0, (k.1.1.0, ltb-false room (bytes_for w) k.1.1.1)),
    )

-- the target, with the table left as it is
target : (w s : ℕ) (p t : List ℕ)
    → mend_target w s p t ≡ cond (eqb (mend_refusal w s p (length t)) 0)
    (pack (mended w s (take (w - 1) (unpack p))) ++ drop (bytes_for w) t) t
unfolding mend_target
target w s p t = refl

-- the target where mending is done
pub target_done : (w s : ℕ) (p t q : List ℕ) → mend_refusal w s p (length t) ≡ 0
    → q ≡ pack (mended w s (take (w - 1) (unpack p))) ++ drop (bytes_for w) t → q ≡ mend_target w s p t
target_done w s p t q h e = rw (target w s p t, eq-eqb (mend_refusal w s p (length t)) 0 h) e

-- the target where mending refuses
pub target_refused : (w s : ℕ) (p t : List ℕ) (q : Refusal) → number_of q ≡ mend_refusal w s p (length t)
    → t ≡ mend_target w s p t
target_refused w s p t q h =
    rw (target w s p t, ne_eqb (mend_refusal w s p (length t)) 0 (λ e. omega (arith, numbered q))) refl

-- where mending answers that it is done, no check applies
pub done_number : (t : Unit {0}) (n : ℕ) → answer_of (Ok t) ≡ record { refusal = n; value = 0 } → n ≡ 0
done_number t n h = sym (ap (λ (a : Answer). a.refusal) h)

-- where it answers a refusal, the check with that number applies
pub refused_number : (q : Refusal) (n : ℕ) → answer_of (Err q) ≡ record { refusal = n; value = 0 } → number_of q ≡ n
refused_number q n h = ap (λ (a : Answer). a.refusal) h
