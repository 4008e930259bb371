-- What the tactics leave open of `live::fill_marks`.
use Rattle.std.proofs.Common.{◌≡◌, ◌+◌, ◌*◌, ◌≤◌, true, arith}
use Rattle.std.proofs.Math.Nat.{mul-le-mul}
use Rattle.bits.specs.Bits.{most_in_line}
use Rattle.message.specs.declared.Layout.{Layout}
use Rattle.message.specs.Layout.{legal}
use Rattle.message.proofs.Legal.{legal_bounds, sizes}
use Rattle.live.proofs.fill_marks.Goals as goal

-- a layout has few columns
narrow : (l : Layout) → legal l ≡ true → l.l2 ≤ most_in_line
narrow l allowed = (sizes l (legal_bounds l allowed)).l2_high

pub overflow_mul-l : goal.overflow_mul-l
overflow_mul-l c = record { fits = omega (arith, narrow c.args.l c.requires.0.fit.allowed) }

pub overflow_mul-shape : goal.overflow_mul-shape
overflow_mul-shape c =
    let l = c.args.l in
    let few = narrow l c.requires.0.fit.allowed in
    record {
      fits = omega (
        arith,
        mul-le-mul {n₁ = c.args.shape.n} {m₁ = (l.l2 + 1) * 13} {n₂ = 6} {m₂ = (most_in_line + 1) * 13}
            (omega arith) (omega (arith, few)),
      );
    }

pub make_marks-requires : goal.make_marks-requires
make_marks-requires c =
    let p = c.requires in
    let few : c.args.shape.n ≤ 6 = omega arith in
    let small = c.few_losses.ensures c.if-not-few_losses.false in
    let counted = c.count_blocks.ensures in (
      p.0,
      (
        p.1.0,
        (
          (
            record {
              narrow = narrow c.args.l p.0.fit.allowed;
              few = few;
              small = small;
              long = omega (arith, counted.0.0);
            },
            record {
              narrow = narrow c.args.l p.0.fit.allowed;
              few = few;
              small = small;
              long = omega (arith, counted.0.1);
            },
          ),
          (counted.1, p.1.1),
        ),
      ),
    )
