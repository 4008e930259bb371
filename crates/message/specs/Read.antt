-- Reading a message (document 01, "The side message" and "Operations and their refusal table").
use Rattle.std.specs.Prelude.{ℕ, Result, Ok, Err, zero, suc, ◌+◌, ◌*◌, Bool, false, not, cond, ◌&&◌, ◌||◌, List, [], ◌∷◌, ◌++◌, eqb, ltb, leb, length, get_or, drop}
use Rattle.refusal.specs.Refusal.{Check, number_of, first_refusal}
use Rattle.refusal.specs.declared.Refusal.{Refusal}
use Rattle.bits.specs.Bits.{number, unpack, blank}
use Rattle.message.specs.Layout.{legal, block_bits, string_bits}
use Rattle.message.specs.Message.{width, fields_length, message_bytes}
use Rattle.message.specs.declared.Layout.{Layout}
use Rattle.message.specs.declared.layouts.Legal.{Legal}

-- reading's answer as the papers number it: the refusal, 0 where there is none, and the layout, all 0 where there is none
pub record LayoutAnswer : Type 0 where
  pub refusal : ℕ
  pub layout : Layout

-- no layout
abbrev pub no_layout : Layout
no_layout = record { l1 = 0; l2 = 0; nc = 0; r = 0 }

-- the number and the values of each answer: "the layout is answered"
abbrev pub read_of : Result Legal Refusal → LayoutAnswer
read_of (Ok l) = record { refusal = 0; layout = l.layout }
read_of (Err q) = record { refusal = number_of q; layout = no_layout }

-- at least nine bytes, of which the first three are the mark
unfoldable pub marked : List ℕ → Bool
marked s = leb 9 (length s) && eqb (get_or s 0 0) 0x52 && eqb (get_or s 1 0) 0x53 && eqb (get_or s 2 0) 0x4D

-- the version is 1: 16 bits, high byte first
unfoldable pub version_one : List ℕ → Bool
version_one s = eqb (get_or s 3 0) 0x00 && eqb (get_or s 4 0) 0x01

-- "one byte each for l1, l2, nc, r"
unfoldable pub layout_of : List ℕ → Layout
layout_of s = record { l1 = get_or s 5 0; l2 = get_or s 6 0; nc = get_or s 7 0; r = get_or s 8 0 }

-- "fields are read one after another, each from the bit where the last one ended": n fields of k bits
unfoldable pub fields : (n k : ℕ) → List ℕ → List ℕ
unfolding number
fields zero k x = []
fields (suc n) k x = number k x ∷ fields n k (drop k x)

-- the bits after the head
unfoldable pub body : List ℕ → List ℕ
unfolding unpack
body s = unpack (drop 9 s)

-- the block sums that stand in a message of this layout
unfoldable pub read_block_sums : Layout → List ℕ → List ℕ
unfolding fields body width
read_block_sums l s = fields l.l1 (width (block_bits l)) (body s)

-- the chunk-string sums
unfoldable pub read_string_sums : Layout → List ℕ → List ℕ
unfolding fields body width
read_string_sums l s = fields l.l2 (width (string_bits l)) (drop (l.l1 * width (block_bits l)) (body s))

-- the checks
unfoldable pub read_checks : Layout → List ℕ → List ℕ
unfolding fields body width
read_checks l s = fields l.r l.nc (drop (l.l1 * width (block_bits l) + l.l2 * width (string_bits l)) (body s))

-- some number of the list is above the limit
unfoldable pub some_above : ℕ → List ℕ → Bool
some_above w [] = false
some_above w (v ∷ vs) = ltb w v || some_above w vs

-- what is checked of a message, whatever it is read for: document 01's rows 1 to 6
unfoldable pub message_checks : List ℕ → List Check
unfolding marked version_one layout_of legal message_bytes read_block_sums read_string_sums some_above body blank fields_length
message_checks s =
    let l = layout_of s in
    (1, not (marked s))
    ∷ (2, not (version_one s))
    ∷ (3, not (legal l))
    ∷ (4, not (eqb (length s) (message_bytes l)))
    ∷ (5, some_above (block_bits l) (read_block_sums l s) || some_above (string_bits l) (read_string_sums l s))
    ∷ (6, not (blank (drop (fields_length l) (body s))))
    ∷ []

-- what a message is refused for by these, 0 where it is fit
unfoldable pub message_refusal : List ℕ → ℕ
unfolding message_checks first_refusal
message_refusal s = first_refusal (message_checks s)

-- the numbers that reading writes: "the block sums, chunk-string sums and checks go in that order"
unfoldable pub numbers_read : List ℕ → List ℕ
unfolding layout_of read_block_sums read_string_sums read_checks
numbers_read s = read_block_sums (layout_of s) s ++ read_string_sums (layout_of s) s ++ read_checks (layout_of s) s

-- what reading refuses, for a message and a target of so many entries
unfoldable pub read_refusal : (s : List ℕ) (target : ℕ) → ℕ
unfolding message_checks numbers_read first_refusal
read_refusal s target = first_refusal (message_checks s ++ ((10, ltb target (length (numbers_read s))) ∷ []))

-- the layout that goes with a refusal
unfoldable pub layout_answer : (refusal : ℕ) → List ℕ → LayoutAnswer
unfolding layout_of
layout_answer q s = record { refusal = q; layout = cond (eqb q 0) (layout_of s) no_layout }

-- the target afterwards: the numbers at its start; unchanged where reading refuses
unfoldable pub read_target : (s target : List ℕ) → List ℕ
unfolding read_refusal numbers_read
read_target s target =
    cond (eqb (read_refusal s (length target)) 0) (numbers_read s ++ drop (length (numbers_read s)) target) target
