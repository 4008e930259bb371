use Rattle.std.proofs.Common.{◌∙◌, arith}
use Rattle.states.specs.States.{each}
use Rattle.near.proofs.Near.{most_added}
use Rattle.near.proofs.fill_apart.Goals as goal

pub add_up-requires : goal.add_up-requires
add_up-requires c =
    let p = c.requires in
    let f = p.0.0.0 in (
      (f.few, p.1.0),
      (
        p.1.1,
        record {
          few = f.small;
          long = omega (arith, c.loop-s-test.array_long, f.few);
          small = λ t e h u. omega (arith, (c.loop-s.invariant t (omega arith) e u).1);
        },
      ),
    )

pub returns : goal.returns
returns c =
    let a = c.args in (
      c.add_up.ensures.0,
      λ left within.
          c.add_up.ensures.1 left within
          ∙ most_added a.columns a.before.now a.after.now c.loop-s.values (each a.shape.size) left a.j a.shape.n
          (λ t e h u. c.loop-s.invariant t (omega arith) e u) within,
    )
