use Rattle.std.proofs.Common.{ℕ, ◌+◌, ◌*◌, ◌<◌, get_or, arith, below_more}
use Rattle.bits.specs.Bits.{digits}
use Rattle.vt.specs.Sum.{total}
use Rattle.sums.specs.Sums.{block_modulus}
use Rattle.rests.specs.Rests.{Brings}
use Rattle.rests.proofs.with_chunks.Goals as goal
use Rattle.rests.proofs.with_chunks.Goals.{After-together-r}

-- what the chunk brings with one number of losses more is held too
held : (c : After-together-r) (k : ℕ) → k < c.loop-next.next + 1 →
    let a = c.args in
    Brings a.l a.y.now a.block a.end a.c a.left k (get_or a.rests.now (a.at + k) 0) c.together-r.result
held c =
    let a = c.args in
    let m = block_modulus a.l in
    let more : ℕ → ℕ → ℕ = λ v n. n + total (a.c * a.l.nc + 1) (digits a.l.nc v) in
    below_more _ _
    (λ k h v n can b. (c.together-r.ensures m (more v n)).0 (c.loop-next.invariant k h v n can b))
    (λ v n can b. (c.together-r.ensures m (more v n)).1 (c.with_chunk.ensures v n can (rw c.from.ensures b)))

pub loop-next-preserved : goal.loop-next-preserved
loop-next-preserved c = held (goal.at.loop-next-preserved c).After-together-r

pub returns-2 : goal.returns-2
returns-2 c next h = held (goal.at.returns-2 c).After-together-r next (omega arith)
