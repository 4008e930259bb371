-- The bounded ordered list (document 01, refusal 9): the rows found so far in dictionary order, each once, as many of
-- the first as fit, and whether more were found.
use Rattle.std.specs.Prelude.{ℕ, ◌≤◌, ◌≡◌, Bool, true, false, ◌||◌, ◌⊎◌, List, [], ◌∷◌, ltb, length, take}
use Rattle.rows.specs.Order.{order, by_order, Mem, After, Ascending, Row}

-- the rows held, and whether more rows were found than fit
pub record Held : Type 0 where
  pub rows : List (List ℕ)
  pub more : Bool

-- nothing found yet
abbrev pub none : Held
none = record { rows = []; more = false }

-- a row put into its place in an ordered list, once
unfoldable pub insert : List ℕ → List (List ℕ) → List (List ℕ)
unfolding order
insert x [] = x ∷ []
insert x (y ∷ ys) = by_order (order x y) (x ∷ (y ∷ ys)) (y ∷ ys) (y ∷ insert x ys)

-- the ordered union: each of the rows xs put into its place among ys
unfoldable pub union : (ys xs : List (List ℕ)) → List (List ℕ)
unfolding insert
union ys [] = ys
union ys (x ∷ xs) = union (insert x ys) xs

-- the rows found are added: their union with those held, cut at cap; that more were found stays noted, and is noted
-- when a row is cut off
unfoldable pub add : (cap : ℕ) → Held → List (List ℕ) → Held
unfolding union
add cap h xs =
    record { rows = take cap (union h.rows xs); more = h.more || ltb cap (length (union h.rows xs)) }

-- what stands in the list slice at any time: rows of n bits that pass the test, in order, at most cap of them, and
-- exactly cap where more were found
pub record WellHeld (cap n : ℕ) (f : List ℕ → Bool) (h : Held) : Type 0 where
  pub each : (x : List ℕ) → Mem x h.rows → Row n x × (f x ≡ true)
  pub ascending : Ascending h.rows
  pub at_most : length h.rows ≤ cap
  pub full : h.more ≡ true → length h.rows ≡ cap

-- adding x changes nothing: it is held, or more rows were found than fit and it comes after all that are held
abbrev pub Known : Held → List ℕ → Type 0
Known h x = Mem x h.rows ⊎ ((h.more ≡ true) × After h.rows x)
