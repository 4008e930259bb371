-- One block tried with a count: which block it is where it loses none or one of its bits, and when none can lose so
-- many. Assumes nothing.
use Prim.Native.Nat.{ℕ, ◌+◌, ◌-◌, ◌*◌, ◌<◌, ◌≤◌}
use mathlib.Core.Path.{◌≡◌, refl, sym, ap, ◌∙◌}
use mathlib.Core.Bool.{true, false, false≢true}
use mathlib.Core.Logic.{◌⊎◌, inl, inr}
use mathlib.Core.List.{List, ◌++◌, append_assoc}
use native.Mathlib.Omega.{arith}
use borrow.Author.Tests.{leb-true, le-leb, lt-leb, eqb-true, eq-eqb}
use lib.Dec.{leb, eqb}
use lib.ListN.{length, get_or, take, drop, get_or-append}
use lib.Seq.{take_at, get_or-append-add, length-take-le}
use Rattle.bits.specs.Bits.{AllBits}
use Rattle.bits.proofs.Laws.{lt_or_ge, both_left, bits-take}
use Rattle.vt.specs.Mend.{mended}
use Rattle.vt.specs.Sum.{sum}
use Rattle.vt.proofs.Mending.{mended-mends}
use Rattle.message.specs.Layout.{block_bits}
use Rattle.message.specs.Read.{fields}
use Rattle.message.specs.declared.Layout.{Layout}
use Rattle.message.proofs.Fields.{fields_at, length_fields}
use Rattle.consistent.proofs.Greedy.{losses-most, piece, whole}
use Rattle.consistent.proofs.Rule.{block_not_one, block_mended}
use Rattle.pieces.specs.Pieces.{has_its_sum, Loses, Tried}

-- ---- whether the next nb bits have a sum
module _ (nb s : ℕ) (rest : List ℕ) where
  pub sum-short : length rest < nb → false ≡ has_its_sum nb s rest
  unfolding has_its_sum
  sum-short h = rw (lt-leb nb (length rest) h) refl

  pub sum_decides : nb ≤ length rest → eqb (sum (take nb rest)) s ≡ has_its_sum nb s rest
  unfolding has_its_sum
  sum_decides h = rw (le-leb nb (length rest) h) refl

  pub sum-within : has_its_sum nb s rest ≡ true → nb ≤ length rest
  unfolding has_its_sum
  sum-within e = leb-true nb (length rest) (both_left (leb nb (length rest)) (eqb (sum (take nb rest)) s) e)

  pub sum_is : has_its_sum nb s rest ≡ true → sum (take nb rest) ≡ s
  sum_is e = eqb-true (sum (take nb rest)) s (sum_decides (sum-within e) ∙ e)

  sum-has : nb ≤ length rest → sum (take nb rest) ≡ s → has_its_sum nb s rest ≡ true
  sum-has h e = sym (sum_decides h) ∙ eq-eqb (sum (take nb rest)) s e

-- ---- what is put in block i of the row in hand
module _ (l : Layout) (i : ℕ) (p entry exit : List ℕ) (h : i * l.l2 + l.l2 ≤ length entry)
    (e : exit ≡ take (i * l.l2) entry ++ fields l.l2 l.nc p ++ drop (i * l.l2 + l.l2) entry) where
  before : length (take (i * l.l2) entry) ≡ i * l.l2
  before = length-take-le (i * l.l2) entry (omega arith)

  in_three : exit ≡ take (i * l.l2) entry ++ (fields l.l2 l.nc p ++ drop (i * l.l2 + l.l2) entry)
  in_three = e ∙ append_assoc (take (i * l.l2) entry) (fields l.l2 l.nc p) (drop (i * l.l2 + l.l2) entry)

  put-stays : take (i * l.l2) exit ≡ take (i * l.l2) entry
  put-stays =
      ap (take (i * l.l2)) in_three
      ∙ take_at (take (i * l.l2) entry) (fields l.l2 l.nc p ++ drop (i * l.l2 + l.l2) entry) (i * l.l2) before

  put-at : (j : ℕ) → j < l.l2 → get_or exit (i * l.l2 + j) 0 ≡ get_or (fields l.l2 l.nc p) j 0
  put-at j k =
      let f = fields l.l2 l.nc p in
      let b = drop (i * l.l2 + l.l2) entry in
      let t = take (i * l.l2) entry in
      ap (λ (r : List ℕ). get_or r (i * l.l2 + j) 0) in_three
      ∙ ap (λ (n : ℕ). get_or (t ++ (f ++ b)) (n + j) 0) (sym before)
      ∙ get_or-append-add t (f ++ b) j 0
      ∙ get_or-append f b 0 j (omega (arith, length_fields l.l2 l.nc p))

-- ---- what trying a block answers
module _ (l : Layout) (s i a : ℕ) (rest entry : List ℕ) where
  -- no block loses so many bits
  tried-not : ((b : List ℕ) → Loses l s a rest b → ⊥) → Tried l s i a rest entry entry false
  tried-not n =
      record {
        stays = refl;
        within = λ e. absurd (false≢true e);
        can = λ b q. absurd (n b q);
        light = λ b q. absurd (n b q);
      }

  -- whatever block it is, it is p, which is put in its place
  tried-put : (p exit : List ℕ) → a ≤ block_bits l → block_bits l - a ≤ length rest → i * l.l2 + l.l2 ≤ length entry
      → exit ≡ take (i * l.l2) entry ++ fields l.l2 l.nc p ++ drop (i * l.l2 + l.l2) entry
      → ((b : List ℕ) → Loses l s a rest b → b ≡ p) → Tried l s i a rest entry exit true
  tried-put p exit f g h e is =
      record {
        stays = put-stays l i p entry exit h e;
        within = λ t. (f, g);
        can = λ b q. refl;
        light = λ b q t j u. put-at l i p entry exit h e j u ∙ fields_at l.l2 l.nc j p u ∙ rw (← is b q) refl;
      }

  -- a block with two losses or more is not looked for here
  pub tried_more : 2 ≤ a → a ≤ block_bits l → block_bits l - a ≤ length rest → Tried l s i a rest entry entry true
  tried_more h f g =
      record { stays = refl; within = λ t. (f, g); can = λ b q. refl; light = λ b q t. absurd (omega arith) }

  -- a block does not lose more bits than it has, and as many bits as it keeps remain
  pub too_many : block_bits l < a → Tried l s i a rest entry entry (leb a (block_bits l))
  too_many h =
      rw (lt-leb a (block_bits l) h) (tried-not (λ b q. omega (arith, losses-most b rest, q.size, q.own)))

  pub too_short : length rest < block_bits l - a → Tried l s i a rest entry entry false
  too_short h = tried-not (λ b q. omega (arith, (piece (block_bits l) a b rest q.size q.own).within))

  -- so two losses or more leave a block just where as many bits remain
  pub tried_long : 2 ≤ a → a ≤ block_bits l → Tried l s i a rest entry entry (leb (block_bits l - a) (length rest))
  tried_long h f = go (lt_or_ge (length rest) (block_bits l - a))
    where
      go : (length rest < block_bits l - a) ⊎ (block_bits l - a ≤ length rest)
          → Tried l s i a rest entry entry (leb (block_bits l - a) (length rest))
      go (inl k) = rw (lt-leb (block_bits l - a) (length rest) k) (too_short k)
      go (inr k) = rw (le-leb (block_bits l - a) (length rest) k) (tried_more h f k)

module _ (l : Layout) (s i : ℕ) (rest entry : List ℕ) where
  -- without a loss: the next bits, where these have the sum
  pub whole_not : has_its_sum (block_bits l) s rest ≡ false → Tried l s i 0 rest entry entry false
  whole_not e = tried-not l s i 0 rest entry (λ b q. false≢true (sym e ∙ has b q))
    where
      has : (b : List ℕ) → Loses l s 0 rest b → has_its_sum (block_bits l) s rest ≡ true
      has b q =
          let n : block_bits l ≤ length rest = omega (arith, (piece (block_bits l) 0 b rest q.size q.own).within) in
          sum-has (block_bits l) s rest n (rw (← q.size, ← whole b rest q.own) q.has_sum)

  pub whole-put : (exit : List ℕ) → has_its_sum (block_bits l) s rest ≡ true → i * l.l2 + l.l2 ≤ length entry
      → exit ≡ take (i * l.l2) entry ++ fields l.l2 l.nc (take (block_bits l) rest)
      ++ drop (i * l.l2 + l.l2) entry
      → Tried l s i 0 rest entry exit true
  whole-put exit e h f =
      let n = sum-within (block_bits l) s rest e in
      tried-put l s i 0 rest entry (take (block_bits l) rest) exit (omega arith) (omega arith) h f
      (λ b q. whole b rest q.own ∙ rw q.size refl)

  -- with one loss: never where the next bits have the sum, else the mended string of the next bits, one fewer
  pub one_not : AllBits rest → has_its_sum (block_bits l) s rest ≡ true → Tried l s i 1 rest entry entry false
  one_not a e =
      let n = sum-within (block_bits l) s rest e in
      tried-not l s i 1 rest entry
      (λ b q.
      let same : sum (take (length b) rest) ≡ sum b = rw q.size (sum_is (block_bits l) s rest e ∙ sym q.has_sum) in
      block_not_one b rest q.bits a (omega (arith, q.size)) same q.own)

  pub one-put : (exit : List ℕ) → 1 ≤ block_bits l → block_bits l - 1 ≤ length rest → i * l.l2 + l.l2 ≤ length entry
      → exit ≡ take (i * l.l2) entry ++ fields l.l2 l.nc (mended (block_bits l) s (take (block_bits l - 1) rest))
      ++ drop (i * l.l2 + l.l2) entry → Tried l s i 1 rest entry exit true
  one-put exit g k h f =
      tried-put l s i 1 rest entry (mended (block_bits l) s (take (block_bits l - 1) rest)) exit g k h f
      (λ b q. block_mended (block_bits l) b rest q.bits q.size q.own ∙ rw q.has_sum refl)

-- ---- the string that is mended from the next bits, one fewer than nb
pub record MendedNext (nb s : ℕ) (rest : List ℕ) : Type 0 where
  pub short : length (take (nb - 1) rest) + 1 ≡ nb
  pub bits : AllBits (mended nb s (take (nb - 1) rest))
  pub size : length (mended nb s (take (nb - 1) rest)) ≡ nb

pub mended-next : (nb s : ℕ) (rest : List ℕ) → 1 ≤ nb → nb - 1 ≤ length rest → AllBits rest → s ≤ nb
    → MendedNext nb s rest
mended-next nb s rest low enough a small =
    let n : length (take (nb - 1) rest) + 1 ≡ nb = omega (arith, length-take-le (nb - 1) rest enough) in
    let m = mended-mends nb s (take (nb - 1) rest) (bits-take (nb - 1) rest a) n small in
    record { short = n; bits = m.row.1; size = m.row.0 }

-- at the start of a slice
pub starts-mended : (nb s : ℕ) (rest : List ℕ) → MendedNext nb s rest → (q t : List ℕ)
    → q ≡ mended (length (take (nb - 1) rest) + 1) s (take (nb - 1) rest) ++ t
    → take nb q ≡ mended nb s (take (nb - 1) rest)
starts-mended nb s rest m q t e =
    ap (take nb) (e ∙ ap (λ (w : ℕ). mended w s (take (nb - 1) rest) ++ t) m.short)
    ∙ take_at (mended nb s (take (nb - 1) rest)) t nb m.size
