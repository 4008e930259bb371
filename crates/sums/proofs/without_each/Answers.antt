-- `sums::without_each` meets its contract. Assumes nothing.
use Rattle.std.proofs.Common.{◌≡◌, ℕ, sym, ap, ◌∙◌}
use Rattle.std.proofs.lemmas.Bool.{false≢true}
use mathlib.Core.Logic.{⊎_elim}
use Rattle.bits.specs.Bits.{digits}
use Rattle.vt.specs.Sum.{total}
use Rattle.sums.proofs.Listed.{among_next}
use Rattle.sums.proofs.without_each.Goals as goal
use Rattle.sums.proofs.without_each.Goals.{else-completes, then-completes}

pub loop-k-preserved : goal.loop-k-preserved
loop-k-preserved c v n among completes has =
    let p = c.loop-k in
    let a = c.args in
    ⊎_elim
    (λ old.
    let earlier = p.invariant v n old completes has in
    elim c.if-completes.branch [
      | then-completes w ↦ rw w.r-is ((w.together-r.ensures a.m n).0 earlier)
      | else-completes w ↦ rw w.r-is earlier
    ])
    (λ own.
    elim c.if-completes.branch [
      | then-completes w ↦
          let by : w.chunk_total-by.result ≡ total a.first (digits a.nc v) =
          w.chunk_total-by.ensures.0 ∙ ap (λ (u : ℕ). total a.first (digits a.nc u)) own in
          rw w.r-is ((w.together-r.ensures a.m n).1 (w.moved_back.ensures n (rw by has)))
      | else-completes w ↦
          absurd (false≢true (sym w.if-completes.false ∙ c.completes.ensures (rw own completes)))
    ])
    (among_next a.list.now a.low p.k v among)
