-- `sums::after` meets its contract. Assumes nothing.
use Rattle.std.proofs.Common.{ℕ, ◌+◌, refl, sym, subst, ◌∙◌, length, get_or, length-set, arith}
use Rattle.std.proofs.lemmas.Bool.{false≢true}
use borrow.Author.Tests.{not-true, not-false}
use Rattle.message.proofs.Legal.{legal_bounds}
use Rattle.residues.specs.Residues.{Has}
use Rattle.states.specs.States.{each}
use Rattle.column.specs.Column.{value_at, Placed}
use Rattle.column.proofs.Rows.{known-low, crosses-readable, crosses-brings}
use Rattle.sums.specs.Sums.{block_modulus, rest}
use Rattle.sums.proofs.Listed.{put_next}
use Rattle.sums.proofs.Rest.{rest-next}
use Rattle.sums.proofs.Brought.{crosses-listed}
use Rattle.sums.proofs.after.Goals as goal
use Rattle.sums.proofs.after.Goals.{Else-not-found}

-- the chunks are placed
placed : (c : Else-not-found) → let a = c.args in
    Placed a.l (length a.y.now) a.heavy a.j (each a.left) (each a.next) c.find_chunks-found.result.chunks
placed c = c.find_chunks-found.ensures.1 (not-false _ c.if-not-found.false)

pub returns-then-part-gt63 : goal.returns-then-part-gt63
returns-then-part-gt63 c row vs light x holds short s h =
    let a = c.args in
    let low = known-low a.l a.heavy row a.known.now a.j light c.requires.1.0 in
    absurd (omega (arith, low, short.strings, c.if-part-gt63.true, c.from-part.ensures))

pub returns-then-not-found : goal.returns-then-not-found
returns-then-not-found c row vs light x holds short s h =
    absurd (false≢true (sym (not-true _ c.if-not-found.true) ∙ c.find_chunks-found.ensures.0 (crosses-readable x)))

pub list_chunks-from-requires : goal.list_chunks-from-requires
list_chunks-from-requires c =
    let o = (goal.at.list_chunks-from-requires c).Else-not-found in (
      (legal_bounds c.args.l c.requires.0.allowed).nc_high,
      (omega (arith, c.requires.0.few, (placed o).count), omega arith),
    )

pub loop-s-preserved : goal.loop-s-preserved
loop-s-preserved c =
    let v = c.loop-s in
    let a = c.args in
    record {
      size = length-set v.r v.s _ ∙ v.invariant.size;
      held = λ vs all t h has.
          put_next v.r v.s _ t (λ (w : ℕ). Has (block_modulus a.l) w (rest a.l a.heavy vs (a.j + 1) t))
          (omega (arith, c.requires.0.few)) h (λ g. v.invariant.held vs all t g has)
          (λ e.
          let own = rest-next a.l a.heavy vs v.s a.j c.requires.1.0 in
          let here =
          subst (λ (w : ℕ). Has (block_modulus a.l) (get_or a.sets w 0) (rest a.l a.heavy vs a.j w)) e has in
          subst (λ (w : ℕ). Has (block_modulus a.l) c.set_after.result (rest a.l a.heavy vs (a.j + 1) w))
          (sym e)
          (c.set_after.ensures (value_at a.l a.heavy vs a.j) (rest a.l a.heavy vs (a.j + 1) v.s)
          all.low all.listed all.has_sum
          (subst (λ (w : ℕ). Has (block_modulus a.l) (get_or a.sets v.s 0) w) own here)));
    }

pub returns : goal.returns
returns c row vs light x holds short s h =
    let a = c.args in
    let j = c.requires.1.0 in
    let o = (goal.at.returns c).Else-not-found in
    c.loop-s.invariant.held vs record {
      low = rw c.from-part.ensures (known-low a.l a.heavy row a.known.now a.j light j);
      listed = λ t i. crosses-listed x (placed o) c.list_chunks-from.ensures t i;
      has_sum = rw (c.from-part.ensures, c.from-want.ensures)
          (crosses-brings x c.requires.0 j a.known.now light a.heavy.n a.heavy.block refl refl);
    }
    s (omega arith) (holds short s h)
