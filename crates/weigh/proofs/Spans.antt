-- The span of what chunks bring, one chunk more at a time. Rests on Weights.antt and greedy matching. Assumes nothing.
use Prim.Native.Nat.{ℕ, ◌+◌, ◌-◌, ◌*◌, ◌<◌, ◌≤◌}
use mathlib.Core.Path.{◌≡◌, ◌∙◌}
use mathlib.Core.List.{List}
use native.Mathlib.Numerals.{add-one}
use native.Mathlib.Omega.{arith}
use lib.ListN.{length, get_or, take, drop}
use lib.Seq.{length-take-le}
use Rattle.bits.specs.Bits.{digits}
use Rattle.bits.proofs.Laws.{bits-digits, length_digits}
use Rattle.rows.proofs.Deletion.{strikes}
use Rattle.vt.specs.Ones.{ones}
use Rattle.vt.specs.Sum.{total}
use Rattle.windows.proofs.Windows.{total_on}
use Rattle.consistent.specs.Greedy.{losses}
use Rattle.consistent.proofs.Greedy.{Piece, piece}
use Rattle.weigh.specs.Weigh.{Can, brought, SeenIn, MoreOnes, Wider, Within}
use Rattle.weigh.specs.declared.Chunks.{Chunks}
use Rattle.weigh.specs.declared.Seen.{Seen}
use Rattle.weigh.specs.declared.Span.{Span}
use Rattle.weigh.proofs.Weights.{Weighs, weighs}

-- the bits that chunk s takes
abbrev pub received : (nc : ℕ) (y : List ℕ) (chunks : Chunks) (s : ℕ) → List ℕ
received nc y chunks s = take (nc - get_or chunks.lost s 0) (drop (get_or chunks.place s 0) y)

-- a chunk that has g ones more than it takes brings what the wider span allows
module _ (nc before lost v : ℕ) (w : List ℕ) (loses : losses (digits nc v) w ≡ lost) where
  -- what it takes
  takes : Piece nc lost (digits nc v) w
  takes = piece nc lost (digits nc v) w (length_digits nc v) loses

  -- its weight against the bits that it takes
  chunk-weighs : Weighs (digits nc v) lost (take (nc - lost) w)
  chunk-weighs = weighs (strikes (digits nc v) _ _ takes.comes) (bits-digits nc v)

  pub one_wider : (seen : Seen) (g : ℕ) (span wider : Span) → lost ≤ nc → SeenIn (take (nc - lost) w) (nc - lost) seen
      → ones (digits nc v) ≡ seen.ones + g → Wider nc before lost seen g span wider
      → (wider.low ≤ span.low + 2 * total (before + 1) (digits nc v))
      × (span.high + 2 * total (before + 1) (digits nc v) ≤ wider.high)
  one_wider seen g span wider few i e u =
      let d = digits nc v in
      let x = take (nc - lost) w in
      let q = chunk-weighs in
      let long : length x ≡ nc - lost = length-take-le _ _ takes.within in
      let some : q.some ≡ g = omega (arith, q.count, i.count) in
      let none : q.none ≡ lost - g = omega (arith, q.all) in
      let ends : q.some + 2 * (q.none + length x) + 1 ≡ 2 * nc + 1 - g = omega (arith, q.all, long, few) in
      let least = rw (some, ← i.count, ← i.positions) at q.least in
      let most = rw (ends, some, none, ← i.count, ← i.positions) at q.most in
      let on : total (before + 1) d ≡ total 1 d + before * (seen.ones + g) = rw (← e) (total_on before d) in
      (omega (arith, u.low), omega (arith, u.high))

-- a chunk that loses so many bits from a place on has at least the first number of ones more than the bits that it
-- takes, and at most the last
pub ones_between : (nc lost v place : ℕ) (y : List ℕ) {seen : Seen} {first last : ℕ} → lost ≤ nc
    → losses (digits nc v) (drop place y) ≡ lost → SeenIn (take (nc - lost) (drop place y)) (nc - lost) seen
    → MoreOnes y place (nc - lost) lost first last
    → (seen.ones + first ≤ ones (digits nc v)) × (ones (digits nc v) ≤ seen.ones + last)
ones_between nc lost v place y few loses i more =
    let d = digits nc v in
    let b = bits-digits nc v in
    let n : length d ≡ nc - lost + lost = length_digits nc v ∙ omega arith in
    (omega (arith, i.count, more.least d b n loses), omega (arith, i.count, more.most d b n loses))

module _ {nc : ℕ} {y : List ℕ} {chunks : Chunks} {vs : ℕ → ℕ} (can : Can nc y chunks vs) (s : ℕ)
    (h : s < chunks.n) where
  -- so it is with chunk s
  pub wider_holds : (seen : Seen) (g : ℕ) (span wider : Span)
      → SeenIn (received nc y chunks s) (nc - get_or chunks.lost s 0) seen
      → ones (digits nc (vs s)) ≡ seen.ones + g
      → Wider nc (get_or chunks.block s 0 * nc) (get_or chunks.lost s 0) seen g span wider
      → Within nc chunks vs s span → Within nc chunks vs (s + 1) wider
  unfolding brought
  wider_holds seen g span wider i e w inside =
      let one =
      one_wider nc (get_or chunks.block s 0 * nc) (get_or chunks.lost s 0) (vs s) (drop (get_or chunks.place s 0) y)
      (can.loses s h) seen g span wider (can.few s h) i e w in
      rw (add-one s) (record { low = omega (arith, one, inside.low); high = omega (arith, one, inside.high) })
