-- The fields of 2 ^ nc elements, nc from 3 to 8, and the checks (document 01, "Rows, blocks, chunks"). An element is a
-- number below 2 ^ nc, its binary digits the coefficients of a polynomial over two elements; the sum of two is their
-- exclusive or. The checks are those of a Reed-Solomon code.
use Rattle.std.specs.Prelude.{ℕ, zero, suc, ◌-◌, ◌*◌, ◌/◌, ◌%◌, ◌^◌, ◌<◌, ◌≡◌, cond, List, [], ◌∷◌, eqb, ltb, get_or}
use Rattle.std.specs.Int.Bits.{bit_xor}

-- "the field polynomials, as binary numbers written in decimal"
abbrev pub polynomial : ℕ → ℕ
polynomial nc = get_or (11 ∷ 19 ∷ 37 ∷ 67 ∷ 137 ∷ 285 ∷ []) (nc - 3) 0

-- an element of the field of nc
abbrev pub Element : ℕ → ℕ → Type 0
Element nc x = x < 2 ^ nc

-- a list of elements (past its end 0 stands, which is one)
abbrev pub Elements : ℕ → List ℕ → Type 0
Elements nc xs = (k : ℕ) → Element nc (get_or xs k 0)

-- 2 times x, the polynomial taken off where the result has a digit too many
unfoldable pub double : (nc x : ℕ) → ℕ
double nc x = cond (ltb (2 * x) (2 ^ nc)) (2 * x) (bit_xor (2 * x) (polynomial nc))

-- 2 to the power e
unfoldable pub power : (nc e : ℕ) → ℕ
unfolding double
power nc zero = 1
power nc (suc e) = double nc (power nc e)

-- the lowest k binary digits of a, lowest first, times b: b is added for a digit 1 and doubled for the next digit
unfoldable pub times_digits : (nc k a b : ℕ) → ℕ
unfolding double
times_digits nc zero a b = 0
times_digits nc (suc k) a b = bit_xor (cond (eqb (a % 2) 1) b 0) (times_digits nc k (a / 2) (double nc b))

-- a times b
unfoldable pub times : (nc a b : ℕ) → ℕ
unfolding times_digits
times nc a b = times_digits nc nc a b

-- the field sum of 2 ^ (i * c) times chunk c, over the chunks of the list, whose first is chunk c
unfoldable pub check_from : (nc i c : ℕ) → List ℕ → ℕ
unfolding power times
check_from nc i c [] = 0
check_from nc i c (x ∷ xs) = bit_xor (times nc (power nc (i * c)) x) (check_from nc i (suc c) xs)

-- "check i (from 0) is the field sum over chunks c (from 0, in row order) of 2^(i × c) times chunk c"
unfoldable pub check : (nc i : ℕ) → List ℕ → ℕ
unfolding check_from
check nc i xs = check_from nc i 0 xs

-- the first r of the numbers vs are the checks of the chunks xs, in order
abbrev pub Checks : (nc r : ℕ) (xs vs : List ℕ) → Type 0
Checks nc r xs vs = (i : ℕ) → i < r → get_or vs i 0 ≡ check nc i xs
