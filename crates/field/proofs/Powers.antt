-- The table of the powers of 2: what it holds, and the power at each entry. Assumes nothing.
use Prim.Native.Nat.{ℕ, zero, suc, ◌+◌, ◌-◌, ◌^◌, ◌<◌, ◌≤◌}
use mathlib.Core.Path.{◌≡◌, refl, sym, ap, ◌∙◌}
use mathlib.Core.List.{◌++◌}
use native.Mathlib.Nat.{add-zero, zero-add, le_of_suc-le-suc, not-suc-le-zero}
use native.Mathlib.Omega.{arith}
use lib.Dec.{lit≤}
use lib.ListN.{length, get_or, get_or-append}
use lib.Seq.{get_or-append-add}
use Rattle.field.specs.Field.{double, power}
use Rattle.field.specs.Tables.{doubles, runs, powers, start}
use Rattle.field.proofs.Double.{each}

pub length-doubles : (nc x k : ℕ) → length (doubles nc x k) ≡ k
unfolding doubles
length-doubles nc x zero = refl
length-doubles nc x (suc k) = ap suc (length-doubles nc (double nc x) k)

-- the doubles from a power on are the next powers
pub doubles-at : (nc e k j : ℕ) → j < k → get_or (doubles nc (power nc e) k) j 0 ≡ power nc (e + j)
unfolding doubles power
doubles-at nc e zero j h = absurd (not-suc-le-zero h)
doubles-at nc e (suc k) zero h = ap (power nc) (sym (add-zero e))
doubles-at nc e (suc k) (suc j) h =
    let s : suc e + j ≡ e + suc j = omega arith in
    doubles-at nc (suc e) k j (le_of_suc-le-suc h) ∙ ap (power nc) s

-- the powers of one field
pub powers-at : (nc e : ℕ) → e + 1 < 2 ^ nc → get_or (doubles nc 1 (2 ^ nc - 1)) e 0 ≡ power nc e
unfolding power
powers-at nc e h =
    let z : 0 + e ≡ e = omega arith in
    doubles-at nc 0 (2 ^ nc - 1) e (omega arith) ∙ ap (power nc) z

runs-at : (j nc k e : ℕ) → j < k → e + 1 < 2 ^ (nc + j) → get_or (runs nc k) (start nc j + e) 0 ≡ power (nc + j) e
unfolding runs start
runs-at j nc zero e h l = absurd (not-suc-le-zero h)
runs-at zero nc (suc k) e h l =
    let l' : e + 1 < 2 ^ nc = rw add-zero at l in
    let run = doubles nc 1 (2 ^ nc - 1) in
    ap (λ (i : ℕ). get_or (run ++ runs (suc nc) k) i 0) (zero-add e)
    ∙ get_or-append run (runs (suc nc) k) 0 e (omega (arith, length-doubles nc 1 (2 ^ nc - 1)))
    ∙ powers-at nc e l' ∙ ap (λ (n : ℕ). power n e) (sym (add-zero nc))
runs-at (suc j) nc (suc k) e h l =
    let i : ℕ = start (suc nc) j + e in
    let n : suc nc + j ≡ nc + suc j = omega arith in
    let run = doubles nc 1 (2 ^ nc - 1) in
    let place : 2 ^ nc - 1 + start (suc nc) j + e ≡ length run + i = omega (arith, length-doubles nc 1 (2 ^ nc - 1)) in
    ap (λ (m : ℕ). get_or (run ++ runs (suc nc) k) m 0) place
    ∙ get_or-append-add run (runs (suc nc) k) i 0
    ∙ runs-at j (suc nc) k e (le_of_suc-le-suc h) (rw n l) ∙ ap (λ (m : ℕ). power m e) n

-- the powers of a field stand in the table, and each is there
pub in_table : (nc e : ℕ) → 3 ≤ nc → nc ≤ 8 → e + 1 < 2 ^ nc → start 3 (nc - 3) + e < 498
unfolding start
in_table nc e lo hi h =
    let l =
    each (λ (n : ℕ). start 3 (n - 3) + (2 ^ n - 1) ≤ 498) (lit≤ tt) (lit≤ tt) (lit≤ tt) (lit≤ tt) (lit≤ tt) (lit≤ tt) nc
    lo hi in
    omega arith

pub table_at : (nc e : ℕ) → 3 ≤ nc → nc ≤ 8 → e + 1 < 2 ^ nc → get_or powers (start 3 (nc - 3) + e) 0 ≡ power nc e
unfolding powers
table_at nc e lo hi h =
    let n : 3 + (nc - 3) ≡ nc = omega arith in
    runs-at (nc - 3) 3 6 e (omega arith) (rw n h) ∙ ap (λ (m : ℕ). power m e) n

-- the start in the table as the code counts it
pub start-at : (nc : ℕ) → 3 ≤ nc → nc ≤ 8 → 2 ^ nc ≡ start 3 (nc - 3) + (nc + 5)
unfolding start
start-at = each (λ (n : ℕ). 2 ^ n ≡ start 3 (n - 3) + (n + 5)) refl refl refl refl refl refl
