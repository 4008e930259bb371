-- What the tactics leave open of `costs::enough`: the modulus is small, so that there is room for the sets.
use Rattle.std.proofs.Common.{arith}
use Rattle.message.proofs.Legal.{string_high}
use Rattle.costs.proofs.enough.Goals as goal

pub columns_cost-ones-requires : goal.columns_cost-ones-requires
columns_cost-ones-requires c =
    let p = c.requires in
    let high = string_high c.args.l p.0.allowed in
    (p.0, (p.1.0, (p.1.1, (omega arith, omega arith))))

pub columns_cost-requires : goal.columns_cost-requires
columns_cost-requires c =
    let p = c.requires in
    let high = string_high c.args.l p.0.allowed in
    let k = c.columns_cost-ones.auto in
    (p.0, (p.1.0, (p.1.1, (omega arith, omega arith))))
