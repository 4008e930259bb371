use Rattle.std.proofs.Common.{List, ℕ, ◌≡◌, ◌∙◌, ◌+◌, ◌-◌, ◌*◌, ◌^◌, ◌<◌, ◌≤◌, sym, get_or, take, drop, arith}
use Rattle.std.proofs.lemmas.List.{get_or-take, get_or-drop}
use lib.Pow.{pow_mono}
use Rattle.bits.proofs.Laws.{bit_at, number-next, number-end, pow_next}
use Rattle.message.proofs.chunks.number_at.Goals as goal
use Rattle.message.proofs.chunks.number_at.Goals.{In-loop-b}

-- the bit that is read stands in the whole string
read : (bits : List ℕ) (at k i : ℕ) → i < k → get_or (take (at + k - at) (drop at bits)) i 0 ≡ get_or bits (at + i) 0
read bits at k i h = get_or-take (at + k - at) (drop at bits) i 0 (omega arith) ∙ get_or-drop at bits i 0

-- the value after a turn stays below the next power of 2, and that within a byte
below : (c : In-loop-b) → let p = c.loop-b in let a = c.args in
    (p.v * 2 + get_or a.bits.now (a.at + p.b-index) 0 < 2 ^ (p.b-index + 1)) × (2 ^ (p.b-index + 1) ≤ 2 ^ 8)
below c =
    let a = c.args in
    let p = c.loop-b in (
      omega (arith, pow_next p.b-index, bit_at a.bits.now c.requires.0 (a.at + p.b-index), p.invariant.below),
      pow_mono {i = p.b-index + 1} {j = 8} (omega arith),
    )

pub overflow_add-v : goal.overflow_add-v
overflow_add-v c =
    let b = below (goal.at.overflow_add-v c).In-loop-b in
    let a = c.args in
    omega (arith, b.0, b.1, read a.bits.now a.at a.k c.loop-b.b-index (omega arith))

pub loop-b-preserved : goal.loop-b-preserved
loop-b-preserved c =
    let a = c.args in
    let p = c.loop-b in
    rw (read a.bits.now a.at a.k p.b-index (omega arith)) record {
      below = (below (goal.at.loop-b-preserved c).In-loop-b).0;
      spelled = number-next p.v a.k a.at p.b-index a.bits.now (omega arith) ∙ p.invariant.spelled;
    }

pub returns : goal.returns
returns c =
    let a = c.args in
    let p = c.loop-b in
    sym (number-end p.v (a.k - p.b-index) (drop (a.at + p.b-index) a.bits.now) (omega arith)) ∙ p.invariant.spelled
