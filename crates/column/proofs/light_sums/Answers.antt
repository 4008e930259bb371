-- `column::light_sums` meets its contract. Assumes nothing.
use Rattle.std.proofs.Common.{◌≡◌, ◌<◌, ℕ, ◌*◌, ◌+◌, ◌%◌, ◌∙◌, ◌++◌, drop, get_or, length, arith, below_more, length-take, get_or-set_same, get_or-set_other}
use Rattle.std.proofs.Math.Nat.{mod-lt}
use Rattle.std.proofs.lemmas.List.{places}
use Rattle.message.proofs.Legal.{string_high}
use Rattle.lines.proofs.Lines.{string_inside}
use Rattle.column.proofs.Zeros.{cleared_sum}
use Rattle.column.proofs.light_sums.Goals as goal

pub overflow_mul-modulus : goal.overflow_mul-modulus
overflow_mul-modulus c = omega (arith, string_high c.args.l c.requires.0.allowed)

pub overflow_add-modulus : goal.overflow_add-modulus
overflow_add-modulus c = omega (arith, string_high c.args.l c.requires.0.allowed)

pub line_total-total-requires : goal.line_total-total-requires
line_total-total-requires c =
    string_inside c.args.l c.requires.0.allowed _ (omega (arith, c.requires.1.0, c.clear_heavy.auto.row)) c.loop-j.j
    (omega (arith, c.loop-j.auto, length-take c.args.l.l2 c.args.known.now))

pub overflow_cast-sum : goal.overflow_cast-sum
overflow_cast-sum c =
    let l = c.args.l in
    omega (arith, mod-lt c.line_total-total.result {m = l.l1 * l.nc + 1} (omega arith), string_high l c.requires.0.allowed)

pub loop-j-preserved : goal.loop-j-preserved
loop-j-preserved c =
    let p = c.loop-j in
    let r : ℕ = c.line_total-total.result % (c.args.l.l1 * c.args.l.nc + 1) in
    let inside : p.j < length p.sum-items = omega arith in
    below_more _ p.j
    (λ i h. get_or-set_other p.sum-items p.j i r 0 (λ q. omega arith) ∙ p.invariant i h)
    (rw (← c.line_total-total.ensures) (get_or-set_same p.sum-items p.j r 0 inside))

pub returns : goal.returns
returns c =
    let a = c.args in
    let p = c.loop-j in
    let long = length-take a.l.l2 a.known.now in (
      λ j h.
          let e : get_or (p.sum-items ++ drop a.l.l2 a.known.now) j 0 ≡ get_or p.sum-items j 0 = grind (arith, places) in
          e ∙ p.invariant j (omega (arith, long)) ∙ cleared_sum a.l a.heavy a.row.now _ c.clear_heavy.ensures j h,
      c.clear_heavy.ensures,
    )
