use Rattle.std.proofs.Common.{◌≡◌, ℕ, ◌+◌, ◌*◌, ◌<◌, get_or, sym, ◌∙◌, subst, arith}
use Rattle.std.proofs.lemmas.Bool.{false≢true}
use Rattle.residues.specs.Residues.{Has}
use Rattle.sums.specs.Sums.{block_modulus, rest_at}
use Rattle.rests.specs.Rests.{Marked}
use Rattle.rests.proofs.Leaving.{marked_next, marked_passes}
use Rattle.rests.proofs.mark_block.Goals as goal
use Rattle.rests.proofs.mark_block.Goals.{then-meet, else-meet, Joined-meet}

-- one number of losses more is marked where it can be
marked : (c : Joined-meet) →
    let a = c.args in
    Marked a.l a.y.now a.block a.end a.c a.s a.left a.set a.rests.now a.can.now (c.loop-next.next + 1) c.if-meet.can
marked c =
    let a = c.args in
    let t = c.loop-next in
    let p = c.requires.0 in
    let own : a.s * 13 + c.from-n.result < 78 = omega (arith, p.1.0.0, p.1.0.1, c.from-n.ensures) in
    let place : rest_at (a.c + 1) a.s t.next ≡ (a.c + 1) * 78 + a.s * 13 + c.from-n.result =
    omega (arith, c.from-n.ensures) in
    elim c.if-meet.branch [
      | then-meet w ↦ rw w.can-is
          (marked_next _ _ _ _ _ _ _ _ _ _ t.next t.can t.invariant _ (omega (arith, c.from-n.ensures))
          (omega (arith, own, c.requires.1, t.invariant.long)))
      | else-meet w ↦ rw w.can-is
          (marked_passes _ _ _ _ _ _ _ _ _ _ t.next t.can t.invariant
          (λ v n can b among.
          false≢true (sym w.if-meet.false ∙ c.meet.ensures (block_modulus a.l) _ among
          (c.with_chunk-brings.ensures v n can
          (subst (λ (j : ℕ). Has (block_modulus a.l) (get_or a.rests.now j 0) n) place b)))))
    ]

pub loop-next-preserved : goal.loop-next-preserved
loop-next-preserved c = marked (goal.at.loop-next-preserved c).Joined-meet

pub returns-after-meet : goal.returns-after-meet
returns-after-meet c =
    let m = marked (goal.at.returns-after-meet c).Joined-meet in
    record { long = m.long; stay = m.stay; put = λ next h. m.put next (omega arith) }
