-- `search::patterns` meets its contract. The measure of the recursion is the number of later blocks. The loop's
-- invariant: the rows under the first counts whose own turn is an earlier one are known, the blocks before block i stay in
-- the row in hand, and the desk's anchor is known. Rests on the laws of Counts.antt. Assumes nothing.
use borrow.Author.Rules.{rules}
use Prim.Native.Nat.{ℕ, ◌+◌, ◌-◌, ◌*◌, ◌<◌, ◌≤◌}
use mathlib.Core.Path.{◌≡◌, refl, ◌∙◌}
use mathlib.Core.List.{List}
use native.Mathlib.Nat.{mul-le-mul_right}
use native.Mathlib.Omega.{arith}
use borrow.Fn.Kinds.{In}
use borrow.Fn.PlainCycle.{Measures, is, falls, and}
use borrow.Author.Rules.{part_to_end}
use lib.ListN.{length}
use Rattle.bits.specs.Bits.{most_in_line}
use Rattle.bits.proofs.Laws.{bits-drop}
use Rattle.rows.specs.Slice.{rows_of_slice}
use Rattle.message.specs.Layout.{row_bits, block_bits}
use Rattle.message.proofs.Fields.{field_room}
use Rattle.message.proofs.Legal.{Sizes, legal_bounds, sizes}
use Rattle.found.proofs.Found.{grown_holding, grown_length, grown_none}
use Rattle.anchor.specs.Anchor.{Anchored}
use Rattle.anchor.proofs.Anchor.{anchored_stays}
use Rattle.search.proofs.Counts.{
  Next,
  Tries,
  count-inside,
  begun_next,
  tabled_next,
  tries_start,
  tries_none,
  tries_next,
  tries_all,
}
use Rattle.search.proofs.patterns.Reads as patterns
use Rattle.search.proofs.patterns.Kinds as patterns-kinds
use Rattle.search.proofs.+patterns.Lts-patterns as patterns-lts
use Rattle.search.proofs.+patterns.Lts-patterns.{else-later-eq1, else-try_block, then-later-eq1, then-try_block}
use Rattle.anchor.proofs.near_anchor.Reads as near-anchor-reads
use Rattle.anchor.proofs.set_anchor.Reads as set-anchor-reads
use Rattle.floor.proofs.above.Reads as above-reads
use Rattle.pieces.proofs.try_block.Reads as try-block-reads
use Rattle.pieces.proofs.count_at.Reads as count-at-reads
use Rattle.pieces.proofs.down_pays.Reads as down-pays-reads
use Rattle.search.proofs.one_pattern.Reads as one-pattern-reads
use Rattle.search.proofs.+patterns.{statement}
use Rattle.search.proofs.+patterns.Tie.{close}

abbrev μ-patterns : Measures 10 patterns-kinds.ps ℕ
μ-patterns κs a = a.1.1.1.1.1.1.1.1.0

abbrev patterns-at : ℕ → In 10 patterns-kinds.ps
patterns-at t = and 10 patterns-kinds.ps (is 10 patterns-kinds.ps μ-patterns t) patterns.Pre

abbrev patterns-below : ℕ → In 10 patterns-kinds.ps
patterns-below t = and 10 patterns-kinds.ps (falls 10 patterns-kinds.ps ◌<◌ μ-patterns t) patterns.Pre

abbrev patterns-Inv-loop : patterns-lts.invariant-loop-turn
patterns-Inv-loop l y ytotals ycounts numbers rest totals counts later pattern row₀ desk₀ cap list₀ i nb p most first down
    k₀ turn₀ row desk list k turn =
    ((first ≤ turn) × (turn ≤ most))
    × (Tries l numbers y cap pattern.counts i pattern.total first most down row₀ list₀ k₀.count k₀.more
    row list k.count k.more turn
    × ((length desk ≡ length desk₀) × Anchored l numbers y (rows_of_slice (row_bits l) list k.count k.more) desk))

abbrev patterns-μ-loop : patterns-lts.decreases-loop-turn
patterns-μ-loop l y ytotals ycounts numbers rest totals counts later pattern row₀ desk₀ cap list₀ i nb p most first down
    k₀ turn₀ row desk list k turn = most - turn

-- what the functions that are called promise, this one below its measure
abbrev called : ℕ → patterns-lts.Claims
called t = (
  near-anchor-reads.Asked,
  near-anchor-reads.Learnt,
  above-reads.Asked,
  above-reads.Learnt,
  one-pattern-reads.Asked,
  one-pattern-reads.Learnt,
  down-pays-reads.Asked,
  down-pays-reads.Learnt,
  count-at-reads.Asked,
  count-at-reads.Learnt,
  try-block-reads.Asked,
  try-block-reads.Learnt,
  patterns-below t,
  patterns.Post,
  set-anchor-reads.Asked,
  set-anchor-reads.Learnt,
)

-- places of the code: the entry, where the slices that are read are known, where i is, after the test of the anchor,
-- after that of the floor, where blocks are left, where the first count is known, before the loop, the loop, where a turn's
-- count is known, a turn in which block i was tried, one in which it can lose so many bits, the call for the blocks after
-- it, and the end of a turn
abbrev Start : ℕ → Type 0
Start t = patterns-lts.Start (called t) (patterns-at t) patterns.Post patterns-Inv-loop patterns-μ-loop

abbrev Known : ℕ → Type 0
Known t =
    patterns-lts.After-shared_slice_known-6-1 (called t) (patterns-at t) patterns.Post patterns-Inv-loop patterns-μ-loop

abbrev Block : ℕ → Type 0
Block t = patterns-lts.After-struct_known-1 (called t) (patterns-at t) patterns.Post patterns-Inv-loop patterns-μ-loop

abbrev Anchor : ℕ → Type 0
Anchor t = patterns-lts.After-near_anchor (called t) (patterns-at t) patterns.Post patterns-Inv-loop patterns-μ-loop

abbrev Tested : ℕ → Type 0
Tested t = patterns-lts.After-above (called t) (patterns-at t) patterns.Post patterns-Inv-loop patterns-μ-loop

abbrev Left : ℕ → Type 0
Left t = patterns-lts.Else-later-eq0 (called t) (patterns-at t) patterns.Post patterns-Inv-loop patterns-μ-loop

abbrev Chosen : ℕ → Type 0
Chosen t = patterns-lts.Joined-later-eq1 (called t) (patterns-at t) patterns.Post patterns-Inv-loop patterns-μ-loop

abbrev Ready : ℕ → Type 0
Ready t = patterns-lts.After-down_pays-down (called t) (patterns-at t) patterns.Post patterns-Inv-loop patterns-μ-loop

abbrev Loop : ℕ → Type 0
Loop t = patterns-lts.At-loop-turn (called t) (patterns-at t) patterns.Post patterns-Inv-loop patterns-μ-loop

abbrev Counted : ℕ → Type 0
Counted t = patterns-lts.After-count_at-a (called t) (patterns-at t) patterns.Post patterns-Inv-loop patterns-μ-loop

abbrev Tried : ℕ → Type 0
Tried t = patterns-lts.After-try_block (called t) (patterns-at t) patterns.Post patterns-Inv-loop patterns-μ-loop

abbrev Can : ℕ → Type 0
Can t = patterns-lts.Then-try_block (called t) (patterns-at t) patterns.Post patterns-Inv-loop patterns-μ-loop

abbrev Lower : ℕ → Type 0
Lower t = patterns-lts.After-patterns-arg-then-try_block-1 (called t) (patterns-at t) patterns.Post patterns-Inv-loop patterns-μ-loop

abbrev Turned : ℕ → Type 0
Turned t = patterns-lts.Joined-try_block (called t) (patterns-at t) patterns.Post patterns-Inv-loop patterns-μ-loop

-- the entry, seen from each of these places
abbrev outset : (t : ℕ) → Known t → Start t
outset t c = c.before.before.before.before.before.before

abbrev begin : (t : ℕ) → Block t → Start t
begin t c = outset t c.before.before.before.before.before

abbrev first : (t : ℕ) → Anchor t → Start t
first t c = begin t c.before.before.before

abbrev entry : (t : ℕ) → Tested t → Start t
entry t c = first t c.before.before.before

-- where the first count is known and where blocks are left, seen from before the loop
abbrev chosen : (t : ℕ) → Ready t → Chosen t
chosen t c = c.before

abbrev ongoing : (t : ℕ) → Ready t → Left t
ongoing t c = (chosen t c).before.before.before.before.before

abbrev start : (t : ℕ) → Ready t → Start t
start t c = entry t (ongoing t c).before.before

-- the loop, seen from a turn
abbrev counted : (t : ℕ) → Counted t → Loop t
counted t c = c.before.before

abbrev tried : (t : ℕ) → Tried t → Loop t
tried t c = counted t c.before.before

abbrev loop : (t : ℕ) → Can t → Loop t
loop t c = tried t c.before.before.before

abbrev turn : (t : ℕ) → Turned t → Loop t
turn t c = tried t c.before.before.before

-- where block i can lose a bits, seen from the call for the blocks after it
abbrev can : (t : ℕ) → Lower t → Can t
can t c = c.before.before.before

-- the turn's count there
abbrev counting : (t : ℕ) → Can t → Counted t
counting t c = c.before.before.before.before.before

abbrev count : (t : ℕ) → Can t → ℕ
count t c = (counting t c).count_at-a.result

high : (t : ℕ) (s : Start t) → Sizes s.args.l
high t s = sizes s.args.l (legal_bounds s.args.l s.requires.1.0.0.is_legal)

length-counts : (t : ℕ) (s : Start t) → length s.args.pattern.counts ≡ most_in_line
length-counts t s = search rules

counts-fit : (t : ℕ) (s : Start t) → s.args.l.l1 ≤ length s.args.pattern.counts
counts-fit t s = omega (arith, length-counts t s, (high t s).l1_high)

-- the most that block i can lose is what is left of all losses, at most twelve
abbrev most_of : (t : ℕ) → Start t → ℕ
most_of t s = let a = s.args in a.l.l1 * block_bits a.l - length a.y.now - a.pattern.total

left_over : (t : ℕ) (s : Start t) → let a = s.args in
    (a.pattern.total + most_of t s ≡ row_bits a.l - length a.y.now) × (row_bits a.l - length a.y.now ≤ 12)
left_over t s =
    let few = s.requires.1.0.0.few in
    let most = s.requires.1.1.1.0.most in
    let all = (high t s).l1_block in
    (omega arith, omega arith)

-- the first count that is tried is 0, but for the last block the most
first-last : (t : ℕ) (c : Ready t) → let s = start t c in
    0 < (chosen t c).if-later-eq1.first → (s.args.later ≡ 1) × ((chosen t c).if-later-eq1.first ≡ most_of t s)
first-last t c z = elim (chosen t c).if-later-eq1.branch [
  | then-later-eq1 w ↦ (w.if-later-eq1.true, w.first-is)
  | else-later-eq1 w ↦ absurd (omega (arith, w.first-is))
]

-- block i is the next
next : (t : ℕ) (c : Ready t) → let s = start t c in let a = s.args in
    Next a.l a.numbers.now a.y.now a.pattern.counts (a.l.l1 - a.later) a.pattern.total
    (chosen t c).if-later-eq1.first (most_of t s)
next t c =
    let s = start t c in
    let some = (ongoing t c).if-later-eq0.false in
    let few = s.requires.1.1.0 in
    let counted = length-counts t s in
    record {
      given = s.requires.1.0.0;
      inside = omega arith;
      room = omega (arith, (high t s).l1_high);
      sums = s.requires.1.1.1.0.sums;
      all = (left_over t s).0;
      from = λ z. let w = first-last t c z in (omega arith, w.1);
    }

-- a turn's count is no more than the most
count_most : (t : ℕ) (c : Counted t) → let p = counted t c in c.count_at-a.result ≤ most_of t (start t p.before)
count_most t c =
    let p = counted t c in
    let h = p.loop-turn.invariant.0 in
    omega (arith, c.count_at-a.ensures, (count-inside p.down_pays-down.result h.0 h.1).1)

-- it has as many bits, and as many remain as it keeps
within : (t : ℕ) (c : Can t) → let p = loop t c in let a = (start t p.before).args in
    (count t c ≤ block_bits a.l) × (block_bits a.l - count t c ≤ length a.rest.now)
within t c = c.try_block.ensures.within c.if-try_block.true

-- and the tables go on behind these
tabled-within : (t : ℕ) (c : Can t) → let p = loop t c in let a = (start t p.before).args in
    (block_bits a.l - count t c ≤ length a.totals.now) × (block_bits a.l - count t c ≤ length a.counts.now)
tabled-within t c =
    let w = (start t (loop t c).before).requires.1.1.1.1.0.1.tables in
    let h = (within t c).1 in
    (omega (arith, w.totals_long), omega (arith, w.counts-long))

patterns-sub-i : (t : ℕ)
    → patterns-lts.Need-overflow_sub-i (called t) (patterns-at t) patterns.Post patterns-Inv-loop patterns-μ-loop
patterns-sub-i t c = (begin t c).requires.1.1.0

patterns-slice-aggregate-near-anchor : (t : ℕ)
    → patterns-lts.Need-slice_bounds-near_anchor-end (called t) (patterns-at t) patterns.Post patterns-Inv-loop patterns-μ-loop
patterns-slice-aggregate-near-anchor t c =
    let own = length-counts t (begin t c.before.before) in
    search (rules, own)

patterns-near-anchor-requires : (t : ℕ)
    → patterns-lts.Need-near_anchor-requires (called t) (patterns-at t) patterns.Post patterns-Inv-loop patterns-μ-loop
patterns-near-anchor-requires t c κs =
    let s = begin t c.before.before in
    let b = s.requires.1.1.1.0 in
    let row = (high t s).chunks in
    (s.requires.1.0.0, ((omega (arith, b.hand), counts-fit t s), (omega arith, omega (arith, b.sums, b.most))))

patterns-same-length : (t : ℕ)
    → patterns-lts.Need-shape_of-row-then-near_anchor (called t) (patterns-at t) patterns.Post patterns-Inv-loop patterns-μ-loop
patterns-same-length t c = search rules

patterns-same-length-2 : (t : ℕ)
    → patterns-lts.Need-shape_of-desk-then-near_anchor (called t) (patterns-at t) patterns.Post patterns-Inv-loop patterns-μ-loop
patterns-same-length-2 t c = search rules

-- no row but the anchor is under the first counts
patterns-returns : (t : ℕ)
    → patterns-lts.Need-returns-then-near_anchor (called t) (patterns-at t) patterns.Post patterns-Inv-loop patterns-μ-loop
patterns-returns t c =
    let s = first t c.before in
    let known = c.near_anchor.ensures c.if-near_anchor.true _ in (
      grown_none s.requires.1.0.1 (λ x r u. known x s.requires.1.1.1.1.1 r u.own u.light),
      (refl, s.requires.1.1.1.1.1),
    )

patterns-slice-aggregate-above : (t : ℕ)
    → patterns-lts.Need-slice_bounds-above-end (called t) (patterns-at t) patterns.Post patterns-Inv-loop patterns-μ-loop
patterns-slice-aggregate-above t c =
    let own = length-counts t (first t c.before.before) in
    search (rules, own)

patterns-above-requires : (t : ℕ)
    → patterns-lts.Need-above-requires (called t) (patterns-at t) patterns.Post patterns-Inv-loop patterns-μ-loop
patterns-above-requires t c κs =
    let s = first t c.before.before in
    let row = (high t s).chunks in
    (s.requires.1.0.0, (s.requires.1.0.1, ((omega (arith, s.requires.1.1.1.0.hand), counts-fit t s), omega arith)))

patterns-same-length-3 : (t : ℕ)
    → patterns-lts.Need-shape_of-row-then-above (called t) (patterns-at t) patterns.Post patterns-Inv-loop patterns-μ-loop
patterns-same-length-3 t c = search rules

patterns-same-length-4 : (t : ℕ)
    → patterns-lts.Need-shape_of-desk-then-above (called t) (patterns-at t) patterns.Post patterns-Inv-loop patterns-μ-loop
patterns-same-length-4 t c = search rules

patterns-same-length-5 : (t : ℕ)
    → patterns-lts.Need-shape_of-list-then-above (called t) (patterns-at t) patterns.Post patterns-Inv-loop patterns-μ-loop
patterns-same-length-5 t c = search rules

-- the rows under the first counts come after the last row held, of a list that is full
patterns-returns-2 : (t : ℕ)
    → patterns-lts.Need-returns-then-above (called t) (patterns-at t) patterns.Post patterns-Inv-loop patterns-μ-loop
patterns-returns-2 t c =
    let s = entry t c.before in
    let known = c.above.ensures c.if-above.true in
    (grown_none s.requires.1.0.1 (λ x r u. known x r u.own u.light), (refl, s.requires.1.1.1.1.1))

patterns-one-pattern-requires : (t : ℕ)
    → patterns-lts.Need-one_pattern-requires (called t) (patterns-at t) patterns.Post patterns-Inv-loop patterns-μ-loop
patterns-one-pattern-requires t c κs =
    let s = entry t c.before.before.before in
    let last = c.if-later-eq0.true in
    let e : s.args.l.l1 - s.args.later ≡ s.args.l.l1 = omega arith in
    let b = s.requires.1.1.1.0 in (
      s.requires.1.0.0,
      (s.requires.1.0.1, ((b.hand, rw e at b.sums), (s.requires.1.1.1.1.0.0, s.requires.1.1.1.1.1))),
    )

patterns-same-length-6 : (t : ℕ)
    → patterns-lts.Need-shape_of-row-then-later-eq0 (called t) (patterns-at t) patterns.Post patterns-Inv-loop patterns-μ-loop
patterns-same-length-6 t c = search rules

patterns-same-length-7 : (t : ℕ)
    → patterns-lts.Need-shape_of-desk-then-later-eq0 (called t) (patterns-at t) patterns.Post patterns-Inv-loop patterns-μ-loop
patterns-same-length-7 t c = search rules

patterns-same-length-8 : (t : ℕ)
    → patterns-lts.Need-shape_of-list-then-later-eq0 (called t) (patterns-at t) patterns.Post patterns-Inv-loop patterns-μ-loop
patterns-same-length-8 t c = search rules

patterns-returns-3 : (t : ℕ)
    → patterns-lts.Need-returns-then-later-eq0 (called t) (patterns-at t) patterns.Post patterns-Inv-loop patterns-μ-loop
patterns-returns-3 t c =
    let s = entry t c.before.before.before.before.before.before in
    let last = c.if-later-eq0.true in
    let e : s.args.l.l1 - s.args.later ≡ s.args.l.l1 = omega arith in
    let g = c.one_pattern.ensures in
    (rw e g, (refl, anchored_stays s.requires.1.0.1 g s.requires.1.1.1.1.1))

patterns-mul-nb : (t : ℕ)
    → patterns-lts.Need-overflow_mul-nb (called t) (patterns-at t) patterns.Post patterns-Inv-loop patterns-μ-loop
patterns-mul-nb t c = omega (arith, (high t (entry t c.before.before.before)).block)

patterns-mul-p : (t : ℕ)
    → patterns-lts.Need-overflow_mul-p (called t) (patterns-at t) patterns.Post patterns-Inv-loop patterns-μ-loop
patterns-mul-p t c =
    let s = entry t c.before.before.before in
    let l = s.args.l in
    let h : l.l1 - s.args.later ≤ l.l1 = omega arith in
    omega (arith, mul-le-mul_right (block_bits l) h, (high t s).l1_block, (high t s).row)

patterns-sub-p : (t : ℕ)
    → patterns-lts.Need-overflow_sub-p (called t) (patterns-at t) patterns.Post patterns-Inv-loop patterns-μ-loop
patterns-sub-p t c = (entry t c.before.before.before.before).requires.1.1.1.0.before

patterns-mul-most : (t : ℕ)
    → patterns-lts.Need-overflow_mul-most (called t) (patterns-at t) patterns.Post patterns-Inv-loop patterns-μ-loop
patterns-mul-most t c =
    let z = high t (entry t c.before.before.before.before.before) in
    omega (arith, z.l1_block, z.row)

patterns-sub-most : (t : ℕ)
    → patterns-lts.Need-overflow_sub-most (called t) (patterns-at t) patterns.Post patterns-Inv-loop patterns-μ-loop
patterns-sub-most t c =
    let s = entry t c.before.before.before.before.before in
    omega (arith, (high t s).l1_block, s.requires.1.0.0.short)

patterns-sub-most-2 : (t : ℕ)
    → patterns-lts.Need-overflow_sub-most-2 (called t) (patterns-at t) patterns.Post patterns-Inv-loop patterns-μ-loop
patterns-sub-most-2 t c =
    let s = entry t c.before.before.before.before.before.before in
    omega (arith, (high t s).l1_block, s.requires.1.1.1.0.most)

patterns-down-pays-requires : (t : ℕ)
    → patterns-lts.Need-down_pays-down-requires (called t) (patterns-at t) patterns.Post patterns-Inv-loop patterns-μ-loop
patterns-down-pays-requires t c κs = search rules

-- the first count that is tried is not above the most
first-most : (t : ℕ) (c : Ready t) → (chosen t c).if-later-eq1.first ≤ most_of t (start t c)
first-most t c = elim (chosen t c).if-later-eq1.branch [
  | then-later-eq1 w ↦ omega (arith, w.first-is)
  | else-later-eq1 w ↦ omega (arith, w.first-is)
]

patterns-loop-holds : (t : ℕ)
    → patterns-lts.Need-loop-turn-init (called t) (patterns-at t) patterns.Post patterns-Inv-loop patterns-μ-loop
patterns-loop-holds t c =
    let s = start t c in
    ((omega arith, first-most t c), (tries_start (next t c) s.requires.1.0.1, (refl, s.requires.1.1.1.1.1)))

patterns-count-at-requires : (t : ℕ)
    → patterns-lts.Need-count_at-a-requires (called t) (patterns-at t) patterns.Post patterns-Inv-loop patterns-μ-loop
patterns-count-at-requires t c κs = c.loop-turn.invariant.0

patterns-try-block-requires : (t : ℕ)
    → patterns-lts.Need-try_block-requires (called t) (patterns-at t) patterns.Post patterns-Inv-loop patterns-μ-loop
patterns-try-block-requires t c κs =
    let p = counted t c.before in
    let s = start t p.before in
    let a = s.args in
    let g = s.requires.1.0.0 in
    let b = s.requires.1.1.1.0 in
    let i : ℕ = a.l.l1 - a.later in
    let h = (next t p.before).inside in
    let room : i * a.l.l2 + a.l.l2 ≤ a.l.l1 * a.l.l2 = field_room a.l.l1 a.l.l2 i h in
    let hand : i * a.l.l2 + a.l.l2 ≤ length p.loop-turn.row =
    omega (arith, (high t s).chunks, b.hand, p.loop-turn.invariant.1.0.places) in
    let bits = bits-drop (i * block_bits a.l - a.pattern.total) a.y.now g.bits in
    (g.is_legal, (rw b.reads bits, (s.requires.1.1.1.1.0.1, (omega (arith, g.count), (g.blocks i h, hand)))))

patterns-cast-next : (t : ℕ)
    → patterns-lts.Need-overflow_cast-next (called t) (patterns-at t) patterns.Post patterns-Inv-loop patterns-μ-loop
patterns-cast-next t c =
    let o = left_over t (start t (loop t c).before) in
    omega (arith, count_most t (counting t c))

patterns-element-write-next : (t : ℕ)
    → patterns-lts.Need-bounds-next-i (called t) (patterns-at t) patterns.Post patterns-Inv-loop patterns-μ-loop
patterns-element-write-next t c =
    let r = (loop t c).before in
    omega (arith, (next t r).inside, (high t (start t r)).l1_high)

patterns-add-next : (t : ℕ)
    → patterns-lts.Need-overflow_add-next (called t) (patterns-at t) patterns.Post patterns-Inv-loop patterns-μ-loop
patterns-add-next t c =
    let o = left_over t (start t (loop t c.before).before) in
    omega (arith, count_most t (counting t c.before))

patterns-sub-from : (t : ℕ)
    → patterns-lts.Need-overflow_sub-from (called t) (patterns-at t) patterns.Post patterns-Inv-loop patterns-μ-loop
patterns-sub-from t c = (within t c.before).0

patterns-sub-patterns : (t : ℕ)
    → patterns-lts.Need-slice_bounds-patterns-count (called t) (patterns-at t) patterns.Post patterns-Inv-loop patterns-μ-loop
patterns-sub-patterns t c = (within t c.before).1

patterns-part-patterns-start : (t : ℕ)
    → patterns-lts.Need-slice_bounds-patterns-start (called t) (patterns-at t) patterns.Post patterns-Inv-loop patterns-μ-loop
patterns-part-patterns-start t c = (within t c.before).1

patterns-part-patterns-end : (t : ℕ)
    → patterns-lts.Need-slice_bounds-patterns-end (called t) (patterns-at t) patterns.Post patterns-Inv-loop patterns-μ-loop
patterns-part-patterns-end t c = search rules

patterns-mul-patterns : (t : ℕ)
    → patterns-lts.Need-offset_bounds-totals-from (called t) (patterns-at t) patterns.Post patterns-Inv-loop patterns-μ-loop
patterns-mul-patterns t c = omega (arith, (high t (start t (loop t c.before.before).before)).block)

patterns-sub-patterns-2 : (t : ℕ)
    → patterns-lts.Need-slice_bounds-patterns-count-then-try_block (called t) (patterns-at t) patterns.Post patterns-Inv-loop patterns-μ-loop
patterns-sub-patterns-2 t c = (tabled-within t c.before.before).0

patterns-part-patterns-start-2 : (t : ℕ)
    → patterns-lts.Need-slice_bounds-patterns-start-then-try_block (called t) (patterns-at t) patterns.Post patterns-Inv-loop patterns-μ-loop
patterns-part-patterns-start-2 t c = (tabled-within t c.before.before).0

patterns-part-patterns-end-2 : (t : ℕ)
    → patterns-lts.Need-slice_bounds-patterns-end-then-try_block (called t) (patterns-at t) patterns.Post patterns-Inv-loop patterns-μ-loop
patterns-part-patterns-end-2 t c = search rules

patterns-mul-patterns-2 : (t : ℕ)
    → patterns-lts.Need-offset_bounds-counts-from (called t) (patterns-at t) patterns.Post patterns-Inv-loop patterns-μ-loop
patterns-mul-patterns-2 t c = omega (arith, (high t (start t (loop t (can t c)).before)).block)

patterns-sub-patterns-3 : (t : ℕ)
    → patterns-lts.Need-slice_bounds-patterns-count-then-try_block-2 (called t) (patterns-at t) patterns.Post patterns-Inv-loop patterns-μ-loop
patterns-sub-patterns-3 t c = (tabled-within t (can t c)).1

patterns-part-patterns-start-3 : (t : ℕ)
    → patterns-lts.Need-slice_bounds-patterns-start-then-try_block-2 (called t) (patterns-at t) patterns.Post patterns-Inv-loop patterns-μ-loop
patterns-part-patterns-start-3 t c = (tabled-within t (can t c)).1

patterns-part-patterns-end-3 : (t : ℕ)
    → patterns-lts.Need-slice_bounds-patterns-end-then-try_block-2 (called t) (patterns-at t) patterns.Post patterns-Inv-loop patterns-μ-loop
patterns-part-patterns-end-3 t c = search rules

patterns-sub-patterns-4 : (t : ℕ)
    → patterns-lts.Need-overflow_sub-later (called t) (patterns-at t) patterns.Post patterns-Inv-loop patterns-μ-loop
patterns-sub-patterns-4 t c =
    let some = (ongoing t (loop t (can t c.before)).before).if-later-eq0.false in
    omega arith

patterns-patterns-requires : (t : ℕ)
    → patterns-lts.Need-patterns-k-requires (called t) (patterns-at t) patterns.Post patterns-Inv-loop patterns-μ-loop
patterns-patterns-requires t c κs =
    let e = can t c.before.before.before.before in
    let q = e.before.before.before in
    let p = loop t e in
    let s = start t p.before in
    let a = s.args in
    let n = next t p.before in
    let h = n.inside in
    let o = left_over t s in
    let most : a.pattern.total + count t e + length a.y.now ≤ row_bits a.l =
    omega (arith, count_most t (counting t e), s.requires.1.0.0.short) in
    let row : List ℕ = q.try_block.new.row in
    let same : length row ≡ length a.row.now =
    omega (arith, q.try_block.auto.row, p.loop-turn.invariant.1.0.places) in
    let w = within t e in
    let j : ℕ = a.l.l1 - (a.later - 1) in
    let b = begun_next n s.requires.1.1.1.0 (count t e) most w.0 row same j (omega arith) in
    let tabled =
    tabled_next n s.requires.1.1.1.0 (count t e) w.0 w.1 s.requires.1.1.1.1.0.1 j (omega arith) in
    let d : ℕ = block_bits a.l - count t e in
    let held = grown_holding s.requires.1.0.1 p.loop-turn.invariant.1.0.known in
    let falls : a.later - 1 < t = omega (arith, s.requires.0) in (
      falls,
      (
        (s.requires.1.0.0, held),
        (
          omega arith,
          rw (part_to_end a.rest.now d, part_to_end a.totals.now d, part_to_end a.counts.now d)
              (b, ((s.requires.1.1.1.1.0.0, tabled), p.loop-turn.invariant.1.1.1)),
        ),
      ),
    )

patterns-set-anchor-requires : (t : ℕ)
    → patterns-lts.Need-set_anchor-requires (called t) (patterns-at t) patterns.Post patterns-Inv-loop patterns-μ-loop
patterns-set-anchor-requires t c κs =
    let p = loop t (can t c.before.before.before.before.before.before.before.before.before.before.before.before) in
    let s = start t p.before in
    let g = c.patterns-k.ensures in
    let held = grown_holding s.requires.1.0.1 p.loop-turn.invariant.1.0.known in
    (s.requires.1.0.0, (grown_holding held g.0, g.1.1))

patterns-add-turn : (t : ℕ)
    → patterns-lts.Need-overflow_step-turn (called t) (patterns-at t) patterns.Post patterns-Inv-loop patterns-μ-loop
patterns-add-turn t c =
    let p = turn t c.before.before in
    let o = left_over t (start t p.before) in
    omega (arith, p.loop-turn.invariant.0.1)

patterns-loop-less : (t : ℕ)
    → patterns-lts.Need-loop-turn-smaller (called t) (patterns-at t) patterns.Post patterns-Inv-loop patterns-μ-loop
patterns-loop-less t c =
    let p = turn t c.before.before in
    let most = first-most t p.before in
    omega arith

-- after a turn the rows whose own turn was this or an earlier one are known, and the desk's anchor is
after_turn : (t : ℕ) (c : Turned t) → let p = turn t c in let a = (start t p.before).args in
    Tries a.l a.numbers.now a.y.now a.cap a.pattern.counts (a.l.l1 - a.later) a.pattern.total
    (chosen t p.before).if-later-eq1.first (most_of t (start t p.before)) p.down_pays-down.result
    a.row.now a.list.now a.kept.count a.kept.more c.if-try_block.row c.if-try_block.list c.if-try_block.k.count
    c.if-try_block.k.more (p.loop-turn.turn + 1)
    × ((length c.if-try_block.desk ≡ length a.desk.now)
    × Anchored a.l a.numbers.now a.y.now
    (rows_of_slice (row_bits a.l) c.if-try_block.list c.if-try_block.k.count c.if-try_block.k.more) c.if-try_block.desk)
after_turn t c =
    let p = tried t c.before.before.before in
    let s = start t p.before in
    let a = s.args in
    let n = next t p.before in
    let j : ℕ = a.l.l1 - (a.later - 1) in
    let after : j ≡ a.l.l1 - a.later + 1 = let h = n.inside in omega arith in
    let reads = s.requires.1.1.1.0.reads in
    let same = c.try_block.auto.row in
    let tries = p.loop-turn.invariant.1 in
    let now = c.count_at-a.ensures in
    elim c.if-try_block.branch [
      | then-try_block w ↦ rw (w.row-is, w.desk-is, w.list-is, w.k-is) (
        tries_next n s.requires.1.0.1 p.loop-turn.turn tries.0 now c.try_block.ensures reads same j after
            w.patterns-k.ensures.0 w.patterns-k.ensures.1.0 w.patterns-k.auto.row,
        (w.set_anchor.auto.desk ∙ w.patterns-k.auto.desk ∙ tries.1.0, w.set_anchor.ensures),
      )
      | else-try_block w ↦ rw (w.row-is, w.desk-is, w.list-is, w.k-is)
          (tries_none n s.requires.1.0.1 p.loop-turn.turn tries.0 now c.try_block.ensures reads same w.if-try_block.false, tries.1)
    ]

patterns-loop-again : (t : ℕ)
    → patterns-lts.Need-loop-turn-preserved (called t) (patterns-at t) patterns.Post patterns-Inv-loop patterns-μ-loop
patterns-loop-again t c =
    let p = turn t c.before.before in
    let most = first-most t p.before in
    let more = c.if-turn-most.true in
    ((omega arith, omega arith), after_turn t c.before.before)

patterns-same-length-9 : (t : ℕ)
    → patterns-lts.Need-shape_of-row-after-later-eq1 (called t) (patterns-at t) patterns.Post patterns-Inv-loop patterns-μ-loop
patterns-same-length-9 t c = c.loop-turn.invariant.1.0.places

patterns-same-length-10 : (t : ℕ)
    → patterns-lts.Need-shape_of-desk-after-later-eq1 (called t) (patterns-at t) patterns.Post patterns-Inv-loop patterns-μ-loop
patterns-same-length-10 t c = c.loop-turn.invariant.1.1.0

patterns-same-length-11 : (t : ℕ)
    → patterns-lts.Need-shape_of-list-after-later-eq1 (called t) (patterns-at t) patterns.Post patterns-Inv-loop patterns-μ-loop
patterns-same-length-11 t c = grown_length (start t c.before.before).requires.1.0.1 c.loop-turn.invariant.1.0.known

patterns-returns-4 : (t : ℕ)
    → patterns-lts.Need-returns-after-later-eq1 (called t) (patterns-at t) patterns.Post patterns-Inv-loop patterns-μ-loop
patterns-returns-4 t c =
    let past = c.loop-turn-test.false in
    let w = c.loop-turn.invariant.1 in
    (tries_all (next t c.before.before) (start t c.before.before).requires.1.0.1 c.loop-turn.turn (omega arith) w.0, (w.0.stays, w.1.1))

patterns-same-length-12 : (t : ℕ)
    → patterns-lts.Need-shape_of-row-after-try_block (called t) (patterns-at t) patterns.Post patterns-Inv-loop patterns-μ-loop
patterns-same-length-12 t c = (after_turn t c.before).0.places

patterns-same-length-13 : (t : ℕ)
    → patterns-lts.Need-shape_of-desk-after-try_block (called t) (patterns-at t) patterns.Post patterns-Inv-loop patterns-μ-loop
patterns-same-length-13 t c = (after_turn t c.before).1.0

patterns-same-length-14 : (t : ℕ)
    → patterns-lts.Need-shape_of-list-after-try_block (called t) (patterns-at t) patterns.Post patterns-Inv-loop patterns-μ-loop
patterns-same-length-14 t c =
    let s = start t (turn t c.before).before in
    grown_length s.requires.1.0.1 (after_turn t c.before).0.known

patterns-returns-5 : (t : ℕ)
    → patterns-lts.Need-returns-after-try_block (called t) (patterns-at t) patterns.Post patterns-Inv-loop patterns-μ-loop
patterns-returns-5 t c =
    let p = turn t c.before in
    let w = after_turn t c.before in
    let last = c.if-turn-most.false in
    (tries_all (next t p.before) (start t p.before).requires.1.0.1 (p.loop-turn.turn + 1) (omega arith) w.0, (w.0.stays, w.1.1))

pub +patterns_spec : {M : Type 1} → statement M
+patterns_spec = close μ-patterns λ t. patterns-lts.spec (called t)
    (patterns-at t)
    patterns.Post
    patterns-Inv-loop
    patterns-μ-loop
    (patterns-sub-i t)
    (patterns-slice-aggregate-near-anchor t)
    (patterns-near-anchor-requires t)
    (patterns-same-length t)
    (patterns-same-length-2 t)
    (patterns-returns t)
    (patterns-slice-aggregate-above t)
    (patterns-above-requires t)
    (patterns-same-length-3 t)
    (patterns-same-length-4 t)
    (patterns-same-length-5 t)
    (patterns-returns-2 t)
    (patterns-one-pattern-requires t)
    (patterns-same-length-6 t)
    (patterns-same-length-7 t)
    (patterns-same-length-8 t)
    (patterns-returns-3 t)
    (patterns-mul-nb t)
    (patterns-mul-p t)
    (patterns-sub-p t)
    (patterns-mul-most t)
    (patterns-sub-most t)
    (patterns-sub-most-2 t)
    (patterns-down-pays-requires t)
    (patterns-loop-holds t)
    (patterns-count-at-requires t)
    (patterns-try-block-requires t)
    (patterns-cast-next t)
    (patterns-element-write-next t)
    (patterns-add-next t)
    (patterns-sub-from t)
    (patterns-sub-patterns t)
    (patterns-part-patterns-start t)
    (patterns-part-patterns-end t)
    (patterns-mul-patterns t)
    (patterns-sub-patterns-2 t)
    (patterns-part-patterns-start-2 t)
    (patterns-part-patterns-end-2 t)
    (patterns-mul-patterns-2 t)
    (patterns-sub-patterns-3 t)
    (patterns-part-patterns-start-3 t)
    (patterns-part-patterns-end-3 t)
    (patterns-sub-patterns-4 t)
    (patterns-patterns-requires t)
    (patterns-set-anchor-requires t)
    (patterns-add-turn t)
    (patterns-loop-less t)
    (patterns-loop-again t)
    (patterns-same-length-9 t)
    (patterns-same-length-10 t)
    (patterns-same-length-11 t)
    (patterns-returns-4 t)
    (patterns-same-length-12 t)
    (patterns-same-length-13 t)
    (patterns-same-length-14 t)
    (patterns-returns-5 t)
