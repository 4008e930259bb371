-- Dictionary order (document 01, "The list"): "of two different rows of one length, dictionary order puts first the one
-- with 0 at the first bit where they differ". It is stated on lists of numbers, so it orders strings of bits and packed
-- bytes alike.
use Prim.Native.Nat.{ℕ, ◌<◌, compare, Ordering}
use Rattle.std.specs.Prelude.{◌≡◌, ◌⊎◌, List, [], ◌∷◌, length}
use Rattle.bits.specs.Bits.{AllBits}

-- x comes before y: at the first place where they differ it has the lower number; a string comes before those that it
-- begins
abbrev pub Less : (x y : List ℕ) → Type 0
Less [] [] = ⊥
Less [] (b ∷ y) = Unit
Less (a ∷ x) [] = ⊥
Less (a ∷ x) (b ∷ y) = (a < b) ⊎ ((a ≡ b) × Less x y)

-- one of three, by an order
abbrev pub by_order {ℓ} : {A : Type ℓ} → Ordering → (less same more : A) → A
by_order Ordering.lt a b c = a
by_order Ordering.eq a b c = b
by_order Ordering.gt a b c = c

-- the same order as an answer: whether x comes before y, is y, or comes after y
unfoldable pub order : (x y : List ℕ) → Ordering
order [] [] = Ordering.eq
order [] (b ∷ y) = Ordering.lt
order (a ∷ x) [] = Ordering.gt
order (a ∷ x) (b ∷ y) = by_order (compare a b) Ordering.lt (order x y) Ordering.gt

-- x is one of the rows
abbrev pub Mem : List ℕ → List (List ℕ) → Type 0
Mem x [] = ⊥
Mem x (y ∷ ys) = (x ≡ y) ⊎ Mem x ys

-- x comes before every one of the rows
abbrev pub Before : List ℕ → List (List ℕ) → Type 0
Before x [] = Unit
Before x (y ∷ ys) = Less x y × Before x ys

-- every one of the rows comes before x
abbrev pub After : List (List ℕ) → List ℕ → Type 0
After [] x = Unit
After (y ∷ ys) x = Less y x × After ys x

-- the rows stand in dictionary order, none of them twice
abbrev pub Ascending : List (List ℕ) → Type 0
Ascending [] = Unit
Ascending (x ∷ xs) = Before x xs × Ascending xs

-- a row of n bits
abbrev pub Row : ℕ → List ℕ → Type 0
Row n x = (length x ≡ n) × AllBits x
