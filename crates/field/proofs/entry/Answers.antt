-- What the table holds at the entry that is read.
use Rattle.std.proofs.Common.{◌+◌, ◌<◌, arith}
use Rattle.field.proofs.Powers.{in_table, table_at}
use Rattle.field.proofs.entry.Goals as goal
use Rattle.field.proofs.entry.Goals.{After-base_of-base}

inside : (c : After-base_of-base) → c.base_of-base.result + c.args.e < 498
inside c = rw c.base_of-base.ensures (in_table c.args.nc c.args.e c.requires.1 c.requires.2 c.requires.3)

pub overflow_add-result : goal.overflow_add-result
overflow_add-result c = record { fits = omega (arith, inside (goal.at.overflow_add-result c).After-base_of-base) }

pub bounds-t-base : goal.bounds-t-base
bounds-t-base c = inside (goal.at.bounds-t-base c).After-base_of-base

pub returns : goal.returns
returns c =
    let p = c.requires in
    rw (p.0, c.base_of-base.ensures) (table_at c.args.nc c.args.e p.1 p.2 p.3)
