-- Strings of bits and how they are packed (document 01, "Rows, blocks, chunks", last paragraph). A string of bits is a
-- list of numbers, each 0 or 1; bytes are a list of numbers below 256.
use Rattle.std.specs.Prelude.{ℕ, zero, suc, ◌+◌, ◌*◌, ◌/◌, ◌%◌, ◌^◌, ◌<◌, Bool, true, false, ◌&&◌, List, [], ◌∷◌, ◌++◌, eqb, length, take, drop}

-- the most bits of a string, that is of a row, of received bits or of a string to be mended: "n is at most 2,040", "a
-- length w (1 to 2,040)"
abbrev pub longest : ℕ
longest = 2040

-- the most chunks of a row
abbrev pub most_chunks : ℕ
most_chunks = 255

-- the most chunks of a line, that is blocks of a row (l1) or chunks of a block (l2): each count is a byte of the message
abbrev pub most_in_line : ℕ
most_in_line = 255

-- the most bits of a line, that is of a block or of a chunk-string: as many chunks of at most 8 bits
abbrev pub longest_line : ℕ
longest_line = 2040

-- each element is a bit
abbrev pub AllBits : List ℕ → Type 0
AllBits [] = Unit
AllBits (b ∷ x) = (b < 2) × AllBits x

-- each element is a byte
abbrev pub AllBytes : List ℕ → Type 0
AllBytes [] = Unit
AllBytes (v ∷ s) = (v < 256) × AllBytes s

-- n pieces of w elements each, one after another
unfoldable pub cut : (n w : ℕ) → List ℕ → List (List ℕ)
cut zero w x = []
cut (suc n) w x = take w x ∷ cut n w (drop w x)

-- the number that the first k bits spell, first bit highest; past the end of the string stands 0
unfoldable pub number : ℕ → List ℕ → ℕ
number zero x = 0
number (suc k) [] = 0
number (suc k) (b ∷ x) = b * 2 ^ k + number k x

-- v as k binary digits, highest first
unfoldable pub digits : ℕ → ℕ → List ℕ
digits zero v = []
digits (suc k) v = v / 2 ^ k % 2 ∷ digits k v

-- "a string of w bits takes w / 8 bytes, rounded up"
abbrev pub bytes_for : ℕ → ℕ
bytes_for w = (w + 7) / 8

-- n bytes of a string, eight bits each
unfoldable pub bytes : ℕ → List ℕ → List ℕ
unfolding number
bytes zero x = []
bytes (suc n) x = number 8 x ∷ bytes n (drop 8 x)

-- "bits are packed first bit highest", "spare low bits of its last byte are 0"
unfoldable pub pack : List ℕ → List ℕ
unfolding bytes
pack x = bytes (bytes_for (length x)) x

-- every bit of the bytes, in order; the string of w bits that they hold is the first w
unfoldable pub unpack : List ℕ → List ℕ
unfolding digits
unpack [] = []
unpack (v ∷ s) = digits 8 v ++ unpack s

-- two strings, or two lists of bytes, are equal element for element
unfoldable pub same : List ℕ → List ℕ → Bool
same [] [] = true
same [] (b ∷ y) = false
same (a ∷ x) [] = false
same (a ∷ x) (b ∷ y) = eqb a b && same x y

-- no bit is 1
unfoldable pub blank : List ℕ → Bool
blank [] = true
blank (b ∷ x) = eqb b 0 && blank x

-- the bytes are just those that w bits need, and no spare bit is 1
unfoldable pub fits : ℕ → List ℕ → Bool
unfolding unpack blank
fits w s = eqb (length s) (bytes_for w) && blank (drop w (unpack s))
