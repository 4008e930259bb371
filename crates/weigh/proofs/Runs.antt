-- Which bits are lost against a run: a lost bit is another than the next one received, so against zeros each lost bit
-- is a one, and against ones a zero. Rests on Weights.antt and greedy matching. Assumes nothing.
use Prim.Native.Nat.{ℕ, zero, suc, ◌+◌, ◌-◌, ◌^◌, ◌<◌, ◌≤◌}
use mathlib.Core.Path.{◌≡◌, refl, sym, ap, ◌∙◌}
use mathlib.Core.Bool.{cond}
use mathlib.Core.List.{List, [], ◌∷◌}
use native.Mathlib.Decide.{ℕ_discrete}
use native.Mathlib.Nat.{pow-suc}
use native.Mathlib.Numerals.{add-one}
use native.Mathlib.Omega.{arith}
use borrow.Author.Tests.{eq-eqb, ne_eqb}
use lib.Dec.{eqb}
use lib.ListN.{length, get_or, take, drop, length-take, length-drop}
use lib.Seq.{length-take-le, get_or-take}
use Rattle.bits.specs.Bits.{AllBits, number}
use Rattle.bits.proofs.Laws.{bits-take, bits-drop, number-none, number-take, number_ext}
use Rattle.rows.proofs.Deletion.{strikes}
use Rattle.vt.specs.Ones.{ones}
use Rattle.vt.proofs.Totals.{ones-length}
use Rattle.consistent.specs.Greedy.{losses}
use Rattle.consistent.proofs.Greedy.{losses-most, piece}
use Rattle.weigh.specs.Weigh.{MoreOnes}
use Rattle.weigh.proofs.Weights.{Weighs, weighs}

-- how many bits of a string are another than c
others : (c : ℕ) → List ℕ → ℕ
others c [] = 0
others c (b ∷ v) = cond (eqb b c) 0 1 + others c v

-- against a run of c each bit that is another is lost, and only these
run_lost : (c : ℕ) (v ys : List ℕ) (w : ℕ) → ((i : ℕ) → i ≤ w → get_or ys i 0 ≡ c) → w < length ys
    → losses v ys + w ≡ length v → others c v ≡ losses v ys
unfolding others losses
run_lost c [] ys w run h e = refl
run_lost c (b ∷ v) [] w run h e = absurd (omega arith)
run_lost c (b ∷ v) (d ∷ ys) w run h e =
    go (ℕ_discrete b c) (λ k r l f. run_lost c v ys k r l f) (λ f. run_lost c v (d ∷ ys) w run h f)
  where
    first : d ≡ c
    first = run 0 (omega arith)

    go : Dec (b ≡ c)
        → ((k : ℕ) → ((i : ℕ) → i ≤ k → get_or ys i 0 ≡ c) → k < length ys → losses v ys + k ≡ length v
        → others c v ≡ losses v ys)
        → (losses v (d ∷ ys) + w ≡ length v → others c v ≡ losses v (d ∷ ys))
        → cond (eqb b c) 0 1 + others c v ≡ cond (eqb b d) (losses v ys) (suc (losses v (d ∷ ys)))
    go (yes q) taken lost =
        let t = eq-eqb b d (q ∙ sym first) in
        let f : losses v ys + w ≡ suc (length v) = rw t at e in
        let m = losses-most v ys in
        let r = taken (w - 1) (λ i k. run (suc i) (omega arith)) (omega arith) (omega arith) in
        rw (eq-eqb b c q, t) (omega (arith, r))
    go (no q) taken lost =
        let t = ne_eqb b d (λ k. q (k ∙ first)) in
        let f : suc (losses v (d ∷ ys)) + w ≡ suc (length v) = rw t at e in
        rw (ne_eqb b c q, t) (omega (arith, lost (omega arith)))

-- those other than zero are the ones
others_zero : (v : List ℕ) → AllBits v → others 0 v ≡ ones v
unfolding others ones
others_zero [] a = refl
others_zero (b ∷ v) a = go (ℕ_discrete b 0) (others_zero v a.1)
  where
    go : Dec (b ≡ 0) → others 0 v ≡ ones v → cond (eqb b 0) 0 1 + others 0 v ≡ b + ones v
    go (yes q) r = rw (eq-eqb b 0 q) (omega arith)
    go (no q) r = rw (ne_eqb b 0 q) (omega (arith, a.0))

-- and those other than one the rest
others-one : (v : List ℕ) → AllBits v → others 1 v + ones v ≡ length v
unfolding others ones
others-one [] a = refl
others-one (b ∷ v) a = go (ℕ_discrete b 1) (others-one v a.1)
  where
    go : Dec (b ≡ 1) → others 1 v + ones v ≡ length v → cond (eqb b 1) 0 1 + others 1 v + (b + ones v) ≡ suc (length v)
    go (yes q) r = rw (eq-eqb b 1 q) (omega arith)
    go (no q) r = rw (ne_eqb b 1 q) (omega (arith, a.0))

-- a string without ones is a run of zeros, one with as many ones as bits a run of ones
no_ones : (x : List ℕ) → ones x ≡ 0 → (i : ℕ) → get_or x i 0 ≡ 0
unfolding ones
no_ones [] e i = refl
no_ones (b ∷ x) e zero = omega arith
no_ones (b ∷ x) e (suc i) = no_ones x (omega arith) i

all_ones : (x : List ℕ) → AllBits x → ones x ≡ length x → (i : ℕ) → i < length x → get_or x i 0 ≡ 1
unfolding ones
all_ones [] a e i h = absurd (omega arith)
all_ones (b ∷ x) a e zero h = omega (arith, a.0, ones-length x a.1)
all_ones (b ∷ x) a e (suc i) h = all_ones x a.1 (omega (arith, a.0, ones-length x a.1)) i (omega arith)

-- the numbers that k bits spell without a one, and with ones only
pub zeros-number : (k : ℕ) (x : List ℕ) → ones (take k x) ≡ 0 → number k x ≡ 0
zeros-number k x e = sym (number-take k x) ∙ number_ext k (take k x) [] (no_ones (take k x) e) ∙ number-none k

pub ones-number : (k : ℕ) (x : List ℕ) → AllBits x → ones (take k x) ≡ k → number k x + 1 ≡ 2 ^ k
unfolding ones number
ones-number zero x a e = omega arith
ones-number (suc k) [] a e = absurd (omega arith)
ones-number (suc k) (b ∷ x) a e =
    let most = ones-length (take k x) (bits-take k x a.1) in
    let short = length-take k x in
    let rest : ones (take k x) ≡ k = omega (arith, a.0, most, short) in
    let first : b ≡ 1 = omega (arith, a.0) in
    let r = ones-number k x a.1 rest in
    rw (first, pow-suc 2 k) (omega (arith, r))

-- one bit more
one_more : (x : List ℕ) (w : ℕ) → w < length x → ones (take (suc w) x) ≡ ones (take w x) + get_or x w 0
unfolding ones
one_more [] w h = absurd (omega arith)
one_more (b ∷ x) zero h = omega arith
one_more (b ∷ x) (suc w) h = let r = one_more x w (omega arith) in omega (arith, r)

-- ---- the ones of a string that takes the next w bits from a place on and loses some
module _ (y : List ℕ) (place w lost : ℕ) (bits : AllBits y) (room : place + w ≤ length y) where
  abbrev rest : List ℕ
  rest = drop place y

  abbrev taken : List ℕ
  taken = take w rest

  long : w ≤ length rest
  long = omega (arith, length-drop place y)

  -- at least those that it takes, and at most its losses more
  pub any-ones : MoreOnes y place w lost 0 lost
  any-ones =
      record {
        least = λ v b n e. let q = weight v b n e in omega (arith, q.count);
        most = λ v b n e. let q = weight v b n e in omega (arith, q.count, q.all);
        few = omega arith;
        low = omega arith;
      }
    where
      weight : (v : List ℕ) → AllBits v → length v ≡ w + lost → losses v rest ≡ lost → Weighs v lost taken
      weight v b n e =
          let k : w + lost - lost ≡ w = omega arith in
          rw k at (weighs (strikes v _ _ (piece (w + lost) lost v rest n e).comes) b)

  module _ (more : place + w < length y) where
    next-long : w < length rest
    next-long = omega (arith, length-drop place y)

    same : (i : ℕ) → i ≤ w → get_or (take (w + 1) rest) i 0 ≡ get_or rest i 0
    same i h = get_or-take (w + 1) rest i 0 (omega arith)

    length-next : length (take (w + 1) rest) ≡ w + 1
    length-next = length-take-le (w + 1) rest (omega (arith, next-long))

    -- the bits taken and the next one
    next_bit : ones (take (w + 1) rest) ≡ ones taken + get_or rest w 0
    next_bit = ap (λ (n : ℕ). ones (take n rest)) (add-one w) ∙ one_more rest w next-long

    -- against zeros each lost bit is a one
    pub zeros-lost : ones (take (w + 1) rest) ≡ 0 → MoreOnes y place w lost lost lost
    zeros-lost z =
        let run : (i : ℕ) → i ≤ w → get_or rest i 0 ≡ 0 = λ i h. sym (same i h) ∙ no_ones (take (w + 1) rest) z i in
        let all : (v : List ℕ) → AllBits v → length v ≡ w + lost → losses v rest ≡ lost → ones v ≡ lost =
        λ v b n e. sym (others_zero v b) ∙ run_lost 0 v rest w run next-long (omega arith) ∙ e
        in
        record {
          least = λ v b n e. omega (arith, all v b n e, next_bit);
          most = λ v b n e. omega (arith, all v b n e);
          few = omega arith;
          low = omega arith;
        }

    -- against ones a zero
    pub ones-lost : ones (take (w + 1) rest) ≡ w + 1 → MoreOnes y place w lost 0 0
    ones-lost z =
        let b1 = bits-take (w + 1) rest (bits-drop place y bits) in
        let run : (i : ℕ) → i ≤ w → get_or rest i 0 ≡ 1 =
        λ i h. sym (same i h) ∙ all_ones (take (w + 1) rest) b1 (z ∙ sym length-next) i (omega (arith, length-next))
        in
        let all : (v : List ℕ) → AllBits v → length v ≡ w + lost → losses v rest ≡ lost → ones v ≡ w =
        λ v b n e. omega (arith, others-one v b, run_lost 1 v rest w run next-long (omega arith))
        in
        let last = run w (omega arith) in
        record {
          least = λ v b n e. omega (arith, all v b n e, next_bit);
          most = λ v b n e. omega (arith, all v b n e, next_bit);
          few = omega arith;
          low = omega arith;
        }
