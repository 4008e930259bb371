-- Numbers put as fields of k bits behind those that a filler f has taken in a slice d, one after another. Assumes
-- nothing.
use Prim.Native.Nat.{ℕ, ◌+◌, ◌*◌, ◌<◌, ◌≤◌}
use mathlib.Core.Path.{◌≡◌, refl, sym, ap, ◌∙◌, subst}
use mathlib.Core.List.{List, [], ◌∷◌, ◌++◌, append_assoc, append-nil, flat_map}
use native.Mathlib.Numerals.{add-one}
use native.Mathlib.Omega.{arith}
use lib.ListN.{length, get_or, take}
use lib.Seq.{take-suc, length-take-le}
use Rattle.bits.specs.Bits.{digits}
use Rattle.bits.specs.Filling.{Ready, Goes}
use Rattle.bits.specs.declared.Filler.{Filler}
use Rattle.bits.proofs.Filling.{goes_none, goes_then}
use Rattle.message.proofs.Fields.{length-flat, field_room}

flat_append : (k : ℕ) (xs ys : List ℕ) → flat_map (digits k) (xs ++ ys) ≡ flat_map (digits k) xs ++ flat_map (digits k) ys
unfolding flat_map
flat_append k [] ys = refl
flat_append k (x ∷ xs) ys =
    ap (λ (l : List ℕ). digits k x ++ l) (flat_append k xs ys)
    ∙ sym (append_assoc (digits k x) (flat_map (digits k) xs) (flat_map (digits k) ys))

-- one number more
flat-next : (k : ℕ) (vs : List ℕ) (i : ℕ) → i < length vs
    → flat_map (digits k) (take (i + 1) vs) ≡ flat_map (digits k) (take i vs) ++ digits k (get_or vs i 0)
unfolding flat_map
flat-next k vs i h =
    rw (add-one i, take-suc vs i 0 h)
    (flat_append k (take i vs) (get_or vs i 0 ∷ [])
    ∙ ap (λ (l : List ℕ). flat_map (digits k) (take i vs) ++ l) (append-nil (digits k (get_or vs i 0))))

-- the first i of the numbers are put
abbrev pub Placed : (f : Filler) (d : List ℕ) (k : ℕ) (vs : List ℕ) (i : ℕ) (g : Filler) (b : List ℕ) → Type 0
Placed f d k vs i g b = Goes f d (flat_map (digits k) (take i vs)) g b

module _ (f : Filler) (d : List ℕ) (k : ℕ) (vs : List ℕ) where
  pub placed-start : Ready f → Placed f d k vs 0 f d
  unfolding flat_map
  placed-start r = goes_none f d r

  -- there is room for one more
  pub placed-room : (n : ℕ) → length vs ≡ n → f.at * 8 + f.count + n * k ≤ length d * 8
      → (i : ℕ) (g : Filler) (b : List ℕ) → Placed f d k vs i g b → i < n → g.at * 8 + g.count + k ≤ length b * 8
  placed-room n e room i g b q h =
      let w = length-flat k (take i vs) ∙ ap (λ (m : ℕ). m * k) (length-take-le i vs (omega arith)) in
      omega (arith, q.place, q.long, w, field_room n k i h)

  -- a turn that puts number i
  pub placed-next : (i : ℕ) (g : Filler) (b : List ℕ) → Placed f d k vs i g b → i < length vs → (v : ℕ) → v ≡ get_or vs i 0
      → (h : Filler) (c : List ℕ) → Goes g b (digits k v) h c → Placed f d k vs (i + 1) h c
  placed-next i g b q l v e h c t =
      subst (λ (x : List ℕ). Goes f d x h c)
      (ap (λ (u : ℕ). flat_map (digits k) (take i vs) ++ digits k u) e ∙ sym (flat-next k vs i l)) (goes_then q t)
