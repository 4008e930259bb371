-- What a bit adds says which it is, and what it adds in the chunk itself.
use Rattle.std.proofs.Common.{Some, ap, inl, inr, arith}
use Rattle.lines.proofs.Lost.{adds, few_bits}
use Rattle.lines.proofs.mend_chunk.Goals as goal
use Rattle.lines.proofs.mend_chunk.Goals.{then-g-first-via-then-g-first, then-g-first-via-else-g-first+then-first-nc}

pub overflow_add-w : goal.overflow_add-w
overflow_add-w c = omega (arith, few_bits c.args.bits.now c.requires.0.1 (omega arith))

pub overflow_add-w-2 : goal.overflow_add-w-2
overflow_add-w-2 c = omega (arith, few_bits c.args.bits.now c.requires.0.1 (omega arith))

pub overflow_add-w-3 : goal.overflow_add-w-3
overflow_add-w-3 c = omega (arith, few_bits c.args.bits.now c.requires.0.1 (omega arith))

pub returns-then-g-w : goal.returns-then-g-w
returns-then-g-w c x a comes e =
    let g = c.args in
    elim (adds g.first g.g x g.bits.now c.requires.1.0.0 a c.requires.0.1 comes e) [
      | inl p ↦ ap Some (c.put_back.ensures x a comes (omega (arith, p.1)))
      | inr p ↦ absurd (omega (arith, p.0.0))
    ]

pub returns-then-g-first : goal.returns-then-g-first
returns-then-g-first c x a comes e =
    let g = c.args in
    elim (adds g.first g.g x g.bits.now c.requires.1.0.0 a c.requires.0.1 comes e) [
      | inl p ↦ absurd (omega (arith, p.0))
      | inr p ↦ elim c.then-g-first.branch [
        | then-g-first-via-then-g-first w ↦ absurd (omega (arith, p.0.1))
        | then-g-first-via-else-g-first+then-first-nc w ↦ absurd (omega (arith, p.1.0))
      ]
    ]

pub returns : goal.returns
returns c x a comes e =
    let g = c.args in
    elim (adds g.first g.g x g.bits.now c.requires.1.0.0 a c.requires.0.1 comes e) [
      | inl p ↦ absurd (omega (arith, p.0))
      | inr p ↦ ap Some (c.put_back-2.ensures x a comes (omega (arith, p.1.1)))
    ]
