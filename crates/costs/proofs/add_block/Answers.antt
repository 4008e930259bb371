-- What the tactics leave open of `costs::add_block`.
use Rattle.std.proofs.Common.{◌≡◌, ℕ, ◌+◌, ◌<◌, length, sym, ◌∙◌, mod-lt, arith, below_more}
use Rattle.whole.specs.Whole.{modulus, Legible, brings}
use Rattle.sets.specs.Sets.{Grows, Moved}
use Rattle.sets.proofs.Sets.{moved_rest, moved_grows}
use Rattle.costs.proofs.add_block.Goals as goal
use Rattle.costs.proofs.add_block.Goals.{Joined-by-last, then-by-last, else-by-last}

-- what a turn leaves: the other set is moved in by what the reading brings, the last one, and by what each before brings
record Turn (c : Joined-by-last) : Type 0 where
  last : c.if-by-last.last ≡ c.residue-by.result
  moved : c.residue-by.result < modulus c.args.l
      → Moved (modulus c.args.l) c.residue-by.result c.args.from.now c.if-by-last.to
  passed : let a = c.args in (k : ℕ) → k < c.loop-e.e + 1 → Legible a.l (length a.y.now) a.block a.end a.j k
      → Moved (modulus a.l) (brings a.l a.y.now a.block a.end a.j k) a.from.now c.if-by-last.to

turn : (c : Joined-by-last) → Turn c
turn c =
    let a = c.args in
    let m : ℕ = modulus a.l in
    let gain : ℕ → ℕ = brings a.l a.y.now a.block a.end a.j in
    let was = c.loop-e.invariant in
    let by : ℕ = c.residue-by.result in
    let grows : Grows c.loop-e.to c.if-by-last.to =
    elim c.if-by-last.branch [
      | then-by-last w ↦ rw w.to-is w.move_in.ensures.0
      | else-by-last w ↦ rw w.to-is (λ r x. x)
    ] in
    let moved : by < m → Moved m by a.from.now c.if-by-last.to =
    elim c.if-by-last.branch [
      | then-by-last w ↦ rw w.to-is w.move_in.ensures.1
      | else-by-last w ↦ rw (w.to-is, w.if-by-last.false) was.last
    ] in
    record {
      last = elim c.if-by-last.branch [
        | then-by-last w ↦ w.last-is
        | else-by-last w ↦ w.last-is ∙ sym w.if-by-last.false
      ];
      moved = moved;
      passed = below_more _ c.loop-e.e
          (λ k h r. moved_grows m (gain k) a.from.now c.loop-e.to c.if-by-last.to grows (was.passed k h r))
          (λ r.
          let e = c.residue-by.ensures r in
          moved_rest m by (gain c.loop-e.e) a.from.now c.if-by-last.to e (moved (rw e (mod-lt _ (omega arith)))));
    }

pub loop-e-preserved : goal.loop-e-preserved
loop-e-preserved c =
    let t = turn (goal.at.loop-e-preserved c).Joined-by-last in
    record { last = rw t.last t.moved; passed = t.passed }

-- the last reading is passed
pub returns-after-by-last : goal.returns-after-by-last
returns-after-by-last c e h = (turn (goal.at.returns-after-by-last c).Joined-by-last).passed e (omega arith)
