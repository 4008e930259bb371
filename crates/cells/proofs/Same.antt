-- Rows whose chunks are the same but for some that are free, and that the rows under a state depend on the row in hand
-- only where no cell is open. Assumes nothing.
use Prim.Native.Nat.{ℕ, ◌+◌, ◌*◌, ◌<◌}
use mathlib.Core.Path.{◌≡◌, refl, sym, ap, ◌∙◌, subst}
use mathlib.Core.Logic.{◌⊎◌, inl, inr, ⊎_elim}
use mathlib.Core.List.{List}
use native.Mathlib.Omega.{arith}
use lib.ListN.{get_or, set}
use lib.Seq.{get_or-set_other}
use Rattle.bits.proofs.Laws.{lt_or_ge}
use Rattle.message.specs.declared.Layout.{Layout}
use Rattle.message.proofs.Fields.{field_room}
use Rattle.cells.specs.Cells.{chunk_of, Open, OpenAt, SameBut, Under, found}
use Rattle.cells.specs.declared.Cells.{Cells}
use Rattle.cells.proofs.State.{same_or_not, open_before}

-- a place in row order is that of one chunk only
pub one_chunk : (w i c k j : ℕ) → c < w → j < w → i * w + c ≡ k * w + j → (i ≡ k) × (c ≡ j)
one_chunk w i c k j h g e =
    let s : i ≡ k =
    ⊎_elim
    (λ a. absurd (omega (arith, field_room k w i a)))
    (λ a. ⊎_elim (λ b. absurd (omega (arith, field_room i w k b))) (λ b. omega arith) (lt_or_ge k i))
    (lt_or_ge i k)
    in
    (s, omega (arith, ap (λ (n : ℕ). n * w) s))

module _ {l : Layout} {free : ℕ → ℕ → Type 0} where
  pub same_refl : {row : List ℕ} → SameBut l free row row
  same_refl = record { at = λ i c h g. inr refl }

  pub same_sym : {a b : List ℕ} → SameBut l free a b → SameBut l free b a
  same_sym s = record { at = λ i c h g. ⊎_elim inl (λ e. inr (sym e)) (s.at i c h g) }

  pub same_trans : {a b d : List ℕ} → SameBut l free a b → SameBut l free b d → SameBut l free a d
  same_trans s t =
      record { at = λ i c h g. ⊎_elim inl (λ e. ⊎_elim inl (λ f. inr (f ∙ e)) (t.at i c h g)) (s.at i c h g) }

  -- more places may be free
  pub same_wider : {wide : ℕ → ℕ → Type 0} → ((i c : ℕ) → i < l.l1 → c < l.l2 → free i c → wide i c)
      → {a b : List ℕ} → SameBut l free a b → SameBut l wide a b
  same_wider w s = record { at = λ i c h g. ⊎_elim (λ f. inl (w i c h g f)) inr (s.at i c h g) }

  -- a free place may be set
  pub same_set : (i c v : ℕ) → c < l.l2 → free i c → {a b : List ℕ} → SameBut l free a b
      → SameBut l free a (set b (i * l.l2 + c) v)
  same_set i c v low f {a} {b} s =
      record { at = λ k j h g. go k j g (s.at k j h g) (same_or_not (k * l.l2 + j) (i * l.l2 + c)) }
    where
      go : (k j : ℕ) → j < l.l2 → free k j ⊎ (get_or b (k * l.l2 + j) 0 ≡ get_or a (k * l.l2 + j) 0)
          → (k * l.l2 + j ≡ i * l.l2 + c) ⊎ (k * l.l2 + j ≡ i * l.l2 + c → ⊥)
          → free k j ⊎ (get_or (set b (i * l.l2 + c) v) (k * l.l2 + j) 0 ≡ get_or a (k * l.l2 + j) 0)
      go k j g o (inl e) =
          let p = one_chunk l.l2 k j i c g low e in
          inl (subst (λ (n : ℕ). free n j) (sym p.0) (subst (free i) (sym p.1) f))
      go k j g o (inr n) = ⊎_elim inl (λ e. inr (get_or-set_other b (i * l.l2 + c) (k * l.l2 + j) v 0 n ∙ e)) o

-- the cells that are open when one is found were open before
pub still_open : (cells : Cells) (z i c : ℕ) → OpenAt (found cells z) i c → OpenAt cells i c
still_open cells z i c o = (o.0, ((open_before cells z o.0 o.1.0).1, o.1.1))

-- the chunk of an open cell may be set
pub cell_set : (l : Layout) (cells : Cells) (z v : ℕ) → Open cells z → get_or cells.column z 0 < l.l2 → {row : List ℕ}
    → SameBut l (OpenAt cells) row (set row (chunk_of l cells z) v)
cell_set l cells z v o low =
    same_set (get_or cells.block z 0) (get_or cells.column z 0) v low (z, (o, (refl, refl))) same_refl

-- what is free once a cell is found was free before
pub same-found : {l : Layout} (cells : Cells) (z : ℕ) {a b : List ℕ} → SameBut l (OpenAt (found cells z)) a b
    → SameBut l (OpenAt cells) a b
same-found cells z = same_wider (λ i c h g. still_open cells z i c)

-- the rows under a state are the same for rows in hand that are the same but for the open cells; `same_sym` gives the
-- other way
pub under_same : {l : Layout} {y : List ℕ} {cells : Cells} {row other x : List ℕ} → SameBut l (OpenAt cells) row other
    → Under l y cells row x → Under l y cells other x
under_same s u = record { decided = same_trans (same_sym s) u.decided; loses = u.loses }
