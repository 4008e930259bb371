-- The row in hand is one of zeros at first.
use Rattle.std.proofs.Common.{◌-◌, take, arith}
use lib.ListN.{replicate}
use Rattle.bits.specs.Bits.{longest}
use Rattle.message.specs.Layout.{row_bits}
use Rattle.consistent.specs.Query.{Query}
use Rattle.found.proofs.Steps.{grown_nothing}
use Rattle.found.specs.Given.{Given}
use Rattle.hint.specs.Tries.{Hand}
use Rattle.hint.proofs.Strings.{hand-zeros}
use Rattle.hint.proofs.Places.{high, received-short}
use Rattle.hint.proofs.guess.Goals as goal

pub returns-then-l-eq0 : goal.returns-then-l-eq0
returns-then-l-eq0 c = grown_nothing c.requires.1 (λ z s u. u)

pub overflow_mul-n : goal.overflow_mul-n
overflow_mul-n c = omega (arith, (high c.requires.0).chunks)

pub few_runs-requires : goal.few_runs-requires
few_runs-requires c = received-short c.requires.0

-- the zeros that a guess is made in
zeros : {q : Query} → Given q → Hand q.layout (take (row_bits q.layout - 0) (replicate longest 0))
zeros {q} g = hand-zeros q.layout longest (high g).row (row_bits q.layout - 0) (omega arith)

pub slice_bounds-x-end : goal.slice_bounds-x-end
slice_bounds-x-end c = omega (arith, (high c.requires.0).row)

pub add_prolonged-requires : goal.add_prolonged-requires
add_prolonged-requires c = (c.requires.0, (zeros c.requires.0, c.requires.1))

pub repeats-requires : goal.repeats-requires
repeats-requires c = received-short c.requires.0

pub slice_bounds-x-end-then-repeats : goal.slice_bounds-x-end-then-repeats
slice_bounds-x-end-then-repeats c = omega (arith, (high c.requires.0).row)

pub add_repeated-requires : goal.add_repeated-requires
add_repeated-requires c = (c.requires.0, (zeros c.requires.0, c.requires.1))

pub returns : goal.returns
returns c = grown_nothing c.requires.1 (λ z s u. u)
