use Rattle.std.proofs.Common.{◌≡◌, ◌+◌, ◌<◌, ◌≤◌, length, take, refl, arith, rules}
use Rattle.bits.specs.Bits.{most_in_line}
use Rattle.bits.proofs.Laws.{zeros-at}
use Rattle.consistent.specs.Greedy.{in_all}
use Rattle.anchor.proofs.Totals.{total-next, total-grows}
use Rattle.search.proofs.HeavyBlocks.{heavy_none, heavy_light, heavy_more}
use Rattle.search.proofs.heavy_of.Goals as goal
use Rattle.search.proofs.heavy_of.Goals.{After-from-end, else-a-ge2, then-a-ge2}

pub loop-i-init : goal.loop-i-init
unfolding in_all
loop-i-init c = record { total = refl; heavy = heavy_none c.args.pattern.counts _ _ refl refl (zeros-at 6) }

-- the total up to the end of block i, and that it is small
total : (c : After-from-end) → let k = c.args.pattern.counts in
    (c.loop-i.end + c.from-end.result ≡ in_all (take (c.loop-i.i + 1) k)) × (in_all (take (c.loop-i.i + 1) k) ≤ 12)
total c =
    let k = c.args.pattern.counts in
    let n : length k ≡ most_in_line = search rules in
    let e = total-next k c.loop-i.i (omega arith) in
    let g = total-grows k (c.loop-i.i + 1) c.args.l1 (omega arith) in
    (omega (arith, c.from-end.ensures, c.loop-i.invariant.total), omega arith)

pub overflow_add-end : goal.overflow_add-end
overflow_add-end c = omega (arith, total (goal.at.overflow_add-end c).After-from-end)

pub with_block-hs-requires : goal.with_block-hs-requires
with_block-hs-requires c =
    let k = c.args.pattern.counts in
    let n : length k ≡ most_in_line = search rules in
    let e = total-next k c.loop-i.i (omega arith) in
    let z = total (goal.at.with_block-hs-requires c).After-from-end in
    (omega (arith, c.loop-i.invariant.heavy.few), (omega arith, omega arith))

pub loop-i-preserved : goal.loop-i-preserved
loop-i-preserved c =
    let p = c.loop-i in
    let hs = p.hs in
    let k = c.args.pattern.counts in
    let n : length k ≡ most_in_line = search rules in
    let h : p.i < length k = omega arith in
    let q = p.invariant.heavy in
    let e = total-next k p.i h in
    let z = total (goal.at.loop-i-preserved c).After-from-end in
    record {
      total = z.0;
      heavy = elim c.if-a-ge2.branch [
        | then-a-ge2 w ↦ let room : hs.heavy.n < 6 = omega (arith, q.few, w.if-a-ge2.true) in
            rw w.hs-is (heavy_more k p.i hs.heavy hs.left q h _ _ _ w.with_block-hs.ensures room z.0 w.if-a-ge2.true)
        | else-a-ge2 w ↦ rw w.hs-is (heavy_light k p.i hs.heavy hs.left q h w.if-a-ge2.false)
      ];
    }

pub returns : goal.returns
returns c =
    let e : c.loop-i.i ≡ c.args.l1 = omega arith in
    rw e at c.loop-i.invariant.heavy
