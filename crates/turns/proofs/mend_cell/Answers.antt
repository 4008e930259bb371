-- It fails only where no row has this line. Rests on the contract of `lines::mend_line`.
use Rattle.std.proofs.Common.{◌≡◌, ℕ, ◌+◌, ◌-◌, ◌≤◌, List, length, take, drop, Some, refl, sym, ap, ◌∙◌, arith, length-drop, true}
use Rattle.std.proofs.lemmas.Bool.{false≢true}
use Rattle.std.proofs.lemmas.List.{length-take-le}
use borrow.Author.Tests.{eq-eqb}
use Rattle.bits.specs.Bits.{digits}
use Rattle.bits.proofs.Laws.{bits-take, bits-drop}
use Rattle.consistent.specs.Greedy.{losses}
use Rattle.turns.specs.Turns.{chunk_at, Short}
use Rattle.turns.proofs.Short.{short-bits}
use Rattle.turns.proofs.mend_cell.Goals as goal
use Rattle.turns.proofs.mend_cell.Goals.{After-mend_line-m, else-m-via-then-m+else-loses_just, else-m-via-else-m}

pub returns-then-y-place : goal.returns-then-y-place
returns-then-y-place c =
    let a = c.args in
    λ us k. absurd (omega (arith, (short-bits k).0, length-drop a.place a.y.now, c.if-y-place.true))

-- the bits at hand are the next nc − 1 of y from the place on
at-hand : (place k : ℕ) (y : List ℕ) → take (place + k - place) (drop place y) ≡ take k (drop place y)
at-hand place k y =
    let e : place + k - place ≡ k = omega arith in
    rw e refl

pub mend_line-m-requires : goal.mend_line-m-requires
mend_line-m-requires c =
    let a = c.args in
    let r = c.requires in
    let z = drop a.place a.y.now in
    let k : a.nc - 1 ≤ length z = simp length-drop (omega (arith, c.if-y-place.false)) in
    let n : length (take (a.nc - 1) z) ≡ a.nc - 1 = length-take-le (a.nc - 1) z k in
    rw (at-hand a.place (a.nc - 1) a.y.now) (
      (r.inside, r.few),
      (
        r.marked,
        ((omega (arith, n, r.some_bits), bits-take (a.nc - 1) z (bits-drop a.place a.y.now r.bits)), r.sum_low),
      ),
    )

-- a row that has this line has the chunk that is found there
found-there : (c : After-mend_line-m) →
    let a = c.args in
    (us : List ℕ) → Short a.nc a.n a.sum (drop a.place a.y.now) a.row.now us
    → (c.mend_line-m.result.ok ≡ true) × (c.mend_line-m.result.value ≡ chunk_at a.n us)
found-there c us k =
    let a = c.args in
    c.mend_line-m.ensures us (rw (at-hand a.place (a.nc - 1) a.y.now) (short-bits k).1)

pub returns-then-loses_just : goal.returns-then-loses_just
returns-then-loses_just c us k = ap Some (found-there (goal.at.returns-then-loses_just c).After-mend_line-m us k).1

pub returns-else-m : goal.returns-else-m
returns-else-m c us k =
    let a = c.args in
    let there = found-there (goal.at.returns-else-m c).After-mend_line-m us k in
    let e : losses (digits a.nc c.mend_line-m.result.value) (drop a.place a.y.now) ≡ 1 = rw there.1 k.loses in
    elim c.else-m.branch [
      | else-m-via-then-m+else-loses_just w ↦
          absurd (false≢true (sym w.if-loses_just.false ∙ w.loses_just.ensures ∙ eq-eqb _ _ e))
      | else-m-via-else-m w ↦ absurd (false≢true (sym w.if-m.false ∙ there.0))
    ]
