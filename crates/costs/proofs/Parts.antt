-- Which residue goes with a number, so that the two make up a sum. Assumes nothing.
use Rattle.std.proofs.Common.{ℕ, ◌+◌, ◌*◌, ◌%◌, ◌<◌, ◌≡◌, sym, ap, ◌∙◌, ◌⊎◌, inl, inr, List, arith}
use Rattle.std.proofs.Math.Decide.{dec_lt}
use Rattle.std.proofs.Math.Nat.{add-mul-mod_self_right}
use Rattle.sets.specs.Sets.{In}

-- no residue but this one, with a number n, makes up the sum
abbrev pub Only : (m sum n part : ℕ) → Type 0
Only m sum n part = (q : ℕ) → q < m → (q + n) % m ≡ sum → q ≡ part

-- none of a set does
abbrev pub Never : (m sum : ℕ) (set : List ℕ) (n : ℕ) → Type 0
Never m sum set n = (q : ℕ) → q < m → In set q → (q + n) % m ≡ sum → ⊥

-- with the next number it is the residue before, modulo m
pub only-before : (m sum n part : ℕ) → Only m sum n part → (q : ℕ) → q < m → (q + (n + 1)) % m ≡ sum
    → (q + 1 ≡ part) ⊎ ((q + 1 ≡ m) × (part ≡ 0))
only-before m sum n part only q h e = go (dec_lt (q + 1) m)
  where
    go : Dec (q + 1 < m) → (q + 1 ≡ part) ⊎ ((q + 1 ≡ m) × (part ≡ 0))
    go (yes d) =
        let w : q + 1 + n ≡ q + (n + 1) = omega arith in
        inl (only (q + 1) d (ap (λ (v : ℕ). v % m) w ∙ e))
    go (no d) =
        let w : 0 + n + 1 * m ≡ q + (n + 1) = omega arith in
        let wraps : (0 + n) % m ≡ sum = sym (add-mul-mod_self_right (0 + n) 1 m) ∙ ap (λ (v : ℕ). v % m) w ∙ e in
        inr (omega arith, sym (only 0 (omega arith) wraps))
