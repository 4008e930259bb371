-- A chunk completes its column if the others bring what is missing beside it; and the chunks of a row that crosses it are listed.
-- Rests on the laws of column. Assumes nothing.
use Prim.Native.Nat.{ℕ, zero, suc, ◌+◌, ◌*◌, ◌%◌, ◌<◌}
use mathlib.Core.Path.{◌≡◌, refl, ap, ◌∙◌}
use mathlib.Core.Bool.{cond}
use mathlib.Core.List.{List}
use native.Mathlib.Omega.{arith}
use borrow.Author.Tests.{eq-eqb, ne_eqb}
use lib.Dec.{eqb}
use lib.ListN.{length, get_or}
use Rattle.bits.specs.Bits.{digits}
use Rattle.vt.specs.Sum.{total}
use Rattle.message.specs.declared.Layout.{Layout}
use Rattle.contents.specs.Contents.{Among}
use Rattle.residues.specs.Residues.{Has}
use Rattle.states.specs.States.{firsts}
use Rattle.states.proofs.Sums.{firsts_but}
use Rattle.weigh.specs.Weigh.{brought}
use Rattle.weigh.specs.declared.Chunks.{Chunks}
use Rattle.column.specs.Column.{value_at, Crosses, Placed}
use Rattle.column.specs.declared.Heavy.{Heavy}
use Rattle.column.proofs.Rows.{crosses-can}
use Rattle.sums.specs.declared.Beside.{Beside}
use Rattle.sums.specs.Sums.{Completes, Listing, others_bring}

-- what chunk b of a column brings
abbrev own : (nc : ℕ) (block : List ℕ) (vs : ℕ → ℕ) → ℕ → ℕ
own nc block vs b = total (get_or block b 0 * nc + 1) (digits nc (vs b))

-- the chunks bring what they bring one by one
brought-firsts : (nc : ℕ) (block : List ℕ) (vs : ℕ → ℕ) (n : ℕ) → brought nc block vs n ≡ firsts (own nc block vs) n
unfolding brought firsts
brought-firsts nc block vs zero = refl
brought-firsts nc block vs (suc n) = omega (arith, brought-firsts nc block vs n)

-- the others and one bring what all bring
others-own : (nc : ℕ) (block : List ℕ) (vs : ℕ → ℕ) (s n : ℕ) → s < n
    → others_bring nc block vs s n + own nc block vs s ≡ brought nc block vs n
others-own nc block vs s n h =
    let none : cond (eqb s s) 0 (own nc block vs s) ≡ 0 = rw (eq-eqb s s refl) refl in
    let but =
    firsts_but (λ b. cond (eqb b s) 0 (own nc block vs b)) (own nc block vs) n s h
    (λ t k d. rw (ne_eqb t s d) refl)
    in
    omega (arith, but, none, brought-firsts nc block vs n)

-- so a chunk with which they bring what the column is to have completes it
pub others_complete : (nc m part : ℕ) (block : List ℕ) (vs : ℕ → ℕ) (s n : ℕ) → s < n → (beside : Beside) → beside.modulus ≡ m
    → beside.first ≡ get_or block s 0 * nc + 1 → Has m beside.others (part + others_bring nc block vs s n)
    → (part + brought nc block vs n) % m ≡ beside.want → Completes nc beside (vs s)
others_complete nc m part block vs s n h beside modulus first has sum =
    let all : part + others_bring nc block vs s n + own nc block vs s ≡ part + brought nc block vs n =
    omega (arith, others-own nc block vs s n h)
    in
    rw (modulus, first) (part + others_bring nc block vs s n, (has, ap (λ (k : ℕ). k % m) all ∙ sum))

module _ {l : Layout} {y numbers : List ℕ} {heavy : Heavy} {row : List ℕ} {j : ℕ} {left next : ℕ → ℕ} {vs : List ℕ}
    (c : Crosses l y numbers heavy row j left next vs) {chunks : Chunks}
    (p : Placed l (length y) heavy j left next chunks) where
  -- the numbers of its chunks
  abbrev its : ℕ → ℕ
  its = value_at l heavy vs j

  -- its chunks are listed
  pub crosses-listed : {list from : List ℕ} → Listing l.nc y chunks list from chunks.n → (s : ℕ) → s < heavy.n
      → Among list (get_or from s 0) (get_or from (s + 1) 0) (its s)
  crosses-listed listing s h =
      let can = crosses-can c p in
      let inside : s < chunks.n = omega (arith, p.count) in
      listing.all s (its s) inside (omega (arith, can.few s inside, can.there s inside)) (can.small s inside)
      (can.loses s inside)
