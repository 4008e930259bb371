-- Rows in the list slice (document 01, "The list"): "the list slice holds them packed in dictionary order from its
-- start, and its bytes beyond them are as at entry".
use Rattle.std.specs.Prelude.{ℕ, suc, ◌*◌, ◌≡◌, Bool, List, [], ◌∷◌, ◌++◌, map, length, take, drop}
use Rattle.bits.specs.Bits.{cut, bytes_for, pack, unpack}
use Rattle.rows.specs.Held.{Held}
use Rattle.rows.specs.Order.{order, by_order}

-- rows written one after the other
unfoldable pub flat : List (List ℕ) → List ℕ
flat [] = []
flat (x ∷ xs) = x ++ flat xs

-- what a slice holds that has c rows of w bytes at its start
abbrev pub held_in : (w : ℕ) (s : List ℕ) (c : ℕ) (more : Bool) → Held
held_in w s c more = record { rows = cut c w s; more = more }

-- the slice holds h at exit, in rows of w bytes: its rows from the start, and beyond them the bytes as at entry
pub record Written (w : ℕ) (h : Held) (entry exit : List ℕ) (c : ℕ) (m : Bool) : Type 0 where
  pub slice : exit ≡ flat h.rows ++ drop (c * w) entry
  pub count : c ≡ length h.rows
  pub more : m ≡ h.more

-- the same rows, each packed
abbrev pub packed : Held → Held
packed h = record { rows = map pack h.rows; more = h.more }

-- the c rows of n bits that a slice holds packed
abbrev pub rows_of_slice : (n : ℕ) (s : List ℕ) (c : ℕ) (more : Bool) → Held
rows_of_slice n s c more =
    record { rows = map (λ (b : List ℕ). take n (unpack b)) (cut c (bytes_for n) s); more = more }

-- how many rows of an ordered list come before x
unfoldable pub place : List ℕ → List (List ℕ) → ℕ
unfolding order
place x [] = 0
place x (y ∷ ys) = by_order (order y x) (suc (place x ys)) 0 0
