-- Elements but 0 given by exponents of 2, and the terms of the checks given so.
use Rattle.std.specs.Prelude.{ℕ, zero, suc, ◌+◌, ◌*◌, ◌^◌, ◌<◌, ◌≤◌, ◌≡◌, List, length, get_or, drop}
use Rattle.std.specs.Int.Bits.{bit_xor}
use Rattle.field.specs.Field.{power, times, check_from, check}

-- a list of exponents, each below 2 ^ nc - 1 (past its end 0 stands, which is one)
abbrev pub Exponents : (nc : ℕ) → List ℕ → Type 0
Exponents nc es = (k : ℕ) → get_or es k 0 + 1 < 2 ^ nc

-- the field sum of f 0, f 1 and so on, n of them
unfoldable pub sum_to : (n : ℕ) (f : ℕ → ℕ) → ℕ
sum_to zero f = 0
sum_to (suc n) f = bit_xor (sum_to n f) (f n)

-- what chunk cs[k] brings to check i, where es[k] is the exponent of its content
abbrev pub term : (nc i : ℕ) (cs es : List ℕ) (k : ℕ) → ℕ
term nc i cs es k = times nc (power nc (i * get_or cs k 0)) (power nc (get_or es k 0))

-- n terms, given by the places cs and the exponents es of their chunks, bring to each check what the first c of the
-- chunks xs do: with what the other chunks bring it is the check
pub record Terms (nc n c : ℕ) (xs cs es : List ℕ) : Type 0 where
  pub few : n ≤ c
  pub places : Exponents nc cs
  pub exponents : Exponents nc es
  pub bring : (i : ℕ) → bit_xor (sum_to n (term nc i cs es)) (check_from nc i c (drop c xs)) ≡ check nc i xs
