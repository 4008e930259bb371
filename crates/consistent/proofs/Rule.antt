-- The rule of the source (document 01, "Steps of the source"): "if the next nb bits have the block's sum, one loss
-- there yields no row that zero losses don't also yield, so only zero and two or more are tried". It is a theorem on a
-- row's own losses, and holds for a chunk inside its chunk-string just so. Assumes nothing.
use Prim.Native.Nat.{ℕ, zero, suc, ◌-◌, ◌<◌, ◌≤◌}
use mathlib.Core.Path.{◌≡◌, refl, sym, ap, ◌∙◌}
use mathlib.Core.Bool.{true}
use mathlib.Core.List.{List, [], ◌∷◌, ◌++◌, append-nil, append_assoc}
use native.Mathlib.Omega.{arith}
use lib.ListN.{length, take, drop}
use lib.Seq.{take_at, drop_at, length-take-le}
use Rattle.bits.specs.Bits.{AllBits}
use Rattle.bits.proofs.Laws.{bits-append, bits-take}
use Rattle.rows.specs.Deletion.{comes_from}
use Rattle.rows.proofs.Deletion.{One, here, there, one, one_passes}
use Rattle.vt.specs.Mend.{mended}
use Rattle.vt.specs.Sum.{sum}
use Rattle.vt.proofs.Mending.{unique, mended-only}
use Rattle.consistent.specs.Greedy.{losses}
use Rattle.consistent.proofs.Greedy.{losses-most, piece, reads_whole}

-- ---- one deletion inside a longer string
one-after : (p : List ℕ) {x y : List ℕ} → One x y → One (p ++ x) (p ++ y)
one-after [] d = d
one-after (b ∷ p) d = there (one-after p d)

one-before : (q : List ℕ) {x y : List ℕ} → One x y → One (x ++ q) (y ++ q)
one-before q here = here
one-before q (there d) = there (one-before q d)

-- a deletion from c is one from p ++ c ++ q
comes-within : (p c q t : List ℕ) → comes_from c 1 t ≡ true → comes_from (p ++ c ++ q) 1 (p ++ t ++ q) ≡ true
comes-within p c q t h = one_passes (one-before q (one-after p (one c t h)))

-- striking out the last of the next w bits leaves the next w − 1
one_last : (w : ℕ) (z : List ℕ) → w < length z → One (take (suc w) z) (take w z)
one_last zero [] h = absurd (omega arith)
one_last zero (b ∷ z) h = here
one_last (suc w) [] h = absurd (omega arith)
one_last (suc w) (b ∷ z) h = there (one_last w z (omega arith))

comes-last : (w : ℕ) (z : List ℕ) → 0 < w → w ≤ length z → comes_from (take w z) 1 (take (w - 1) z) ≡ true
comes-last zero z p h = absurd (omega arith)
comes-last (suc w) z p h =
    let e : suc w - 1 ≡ w = omega arith in
    rw e (one_passes (one_last w z h))

-- what stands between equal strings is equal
between : (p c d q : List ℕ) → length c ≡ length d → p ++ c ++ q ≡ p ++ d ++ q → c ≡ d
between p c d q n e =
    let i : c ++ q ≡ d ++ q =
    sym (drop_at p (c ++ q) (length p) refl) ∙ ap (drop (length p)) (sym (append_assoc p c q) ∙ e ∙ append_assoc p d q)
    ∙ drop_at p (d ++ q) (length p) refl in
    sym (take_at c q (length c) refl) ∙ ap (take (length c)) i ∙ take_at d q (length c) (sym n)

-- two strings that give the same bits by one deletion, and in their place the same sum, are equal
same_in_place : (p c d q t : List ℕ) → AllBits p → AllBits c → AllBits d → AllBits q → length c ≡ length d
    → sum (p ++ c ++ q) ≡ sum (p ++ d ++ q)
    → comes_from c 1 t ≡ true → comes_from d 1 t ≡ true → c ≡ d
same_in_place p c d q t bp bc bd bq n s e f =
    between p c d q n
    (unique (p ++ c ++ q) (p ++ d ++ q) (p ++ t ++ q)
    (bits-append (p ++ c) q (bits-append p c bp bc) bq) (bits-append (p ++ d) q (bits-append p d bp bd) bq) s
    (comes-within p c q t e) (comes-within p d q t f))

-- the rule: where the next bits of the received row, put in the place of c, give the whole string its sum, c has not
-- one loss. With one loss, c and these bits would give the same bits by one deletion: they would be equal, and c would
-- have taken them whole.
pub not_one : (p c q z : List ℕ) → AllBits p → AllBits c → AllBits q → AllBits z → length c ≤ length z
    → sum (p ++ take (length c) z ++ q) ≡ sum (p ++ c ++ q) → losses c z ≡ 1 → ⊥
not_one p c q z bp bc bq bz n s l =
    let d = take (length c) z in
    let k = piece (length c) 1 c z refl l in
    let w : 0 < length c = omega (arith, losses-most c z) in
    let e =
    same_in_place p c d q (take (length c - 1) z) bp bc (bits-take (length c) z bz) bq
    (sym (length-take-le (length c) z n)) (sym s) k.comes (comes-last (length c) z w n) in
    omega (arith, reads_whole c z e)

-- the rule for a block: "if the next nb bits have the block's sum"
pub block_not_one : (b z : List ℕ) → AllBits b → AllBits z → length b ≤ length z → sum (take (length b) z) ≡ sum b
    → losses b z ≡ 1 → ⊥
block_not_one b z bb bz n s l =
    not_one [] b [] z tt bb tt bz n (rw (append-nil (take (length b) z), append-nil b) s) l

-- where c has one loss, the string around it is mended from the next bits, one fewer than c has, in c's place
pub mended-within : (w : ℕ) (p c q z : List ℕ) → AllBits p → AllBits c → AllBits q → length (p ++ c ++ q) ≡ w
    → losses c z ≡ 1
    → p ++ c ++ q ≡ mended w (sum (p ++ c ++ q)) (p ++ take (length c - 1) z ++ q)
mended-within w p c q z bp bc bq n l =
    let t = take (length c - 1) z in
    mended-only w (sum (p ++ c ++ q)) (p ++ t ++ q) (p ++ c ++ q)
    (record {
      row = (n, bits-append (p ++ c) q (bits-append p c bp bc) bq);
      has_sum = refl;
      comes = comes-within p c q t (piece (length c) 1 c z refl l).comes;
    })

-- a block with one loss is the mended string of the next nb − 1 bits
pub block_mended : (w : ℕ) (b z : List ℕ) → AllBits b → length b ≡ w → losses b z ≡ 1
    → b ≡ mended w (sum b) (take (w - 1) z)
block_mended w b z a n l = rw (append-nil, append-nil, n) at (mended-within w [] b [] z tt a tt (rw (append-nil b) n) l)
