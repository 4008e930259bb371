-- `column::others` meets its contract. Assumes nothing.
use Rattle.std.proofs.Common.{◌≡◌, ℕ, add-one, get_or, arith, ap}
use Rattle.message.proofs.Legal.{legal_bounds}
use Rattle.column.specs.Column.{chunk_at, apart_in}
use Rattle.column.proofs.others.Goals as goal

pub loop-s-init : goal.loop-s-init
unfolding apart_in
loop-s-init c = record { small = omega arith; counted = λ vs read. omega arith }

pub other-r-requires : goal.other-r-requires
other-r-requires c =
    let f = c.requires.0.0 in (
      (legal_bounds c.args.l f.allowed).nc_high,
      ((f.bits, f.short), (c.requires.0.1, c.requires.1.0 c.loop-s.s (omega arith))),
    )

pub loop-s-preserved : goal.loop-s-preserved
unfolding apart_in
loop-s-preserved c =
    let a = c.args in
    let p = c.loop-s in
    record {
      small = omega (arith, c.other-r.ensures.1);
      counted = λ vs read.
          let u : ℕ = get_or vs (chunk_at a.l a.heavy a.j p.s) 0 in
          let o = rw c.from.ensures at (c.other-r.ensures.0 u (read p.s (omega arith))) in
          let h = p.invariant.counted vs (λ t m. read t (omega arith)) in
          rw (add-one p.s) (omega (arith, o, h));
    }

pub returns : goal.returns
returns c =
    let a = c.args in
    let p = c.loop-s in
    let k : p.s ≡ a.heavy.n = omega arith in
    let most = c.requires.0.0.few in (
      λ vs read.
          let h = p.invariant.counted vs (λ s h. read s (omega arith)) in
          omega (arith, h, ap (apart_in a.l a.heavy a.z.now vs a.j) k),
      omega arith,
    )
