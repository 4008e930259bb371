-- `sums::set_after` meets its contract: the chunk of a row completes the column. Assumes nothing.
use Rattle.std.proofs.Common.{ℕ, ◌+◌, ◌*◌, ◌≤◌, refl, ap, arith}
use Rattle.std.proofs.Math.Nat.{mul-le-mul_right}
use Rattle.message.proofs.Legal.{legal_bounds}
use Rattle.sums.proofs.Brought.{others_complete}
use Rattle.sums.proofs.set_after.Goals as goal

pub without_each-requires : goal.without_each-requires
without_each-requires c =
    let a = c.args in
    let short = c.requires.0.1.0 in
    let nc = (legal_bounds a.l c.requires.0.0).nc_high in
    let some = c.requires.1.0.1.0 in
    let block = c.requires.1.0.1.1 a.s some in
    -- the first positions of the chunk in its column and in its block are low
    let string : c.from.result * a.l.nc ≤ a.l.l1 * a.l.nc = mul-le-mul_right a.l.nc (omega (arith, c.from.ensures, block)) in
    let column : a.j * a.l.nc ≤ a.l.l2 * a.l.nc = mul-le-mul_right a.l.nc (omega arith) in (
      (
        (nc, ((omega arith, omega (arith, short.blocks)), (omega arith, omega (arith, column, short.blocks)))),
        c.requires.1.1.0 a.s some,
      ),
      (
        (nc, ((omega arith, omega (arith, short.strings)), (omega arith, omega (arith, string, short.strings)))),
        c.requires.1.1.1.1,
      ),
    )

pub returns : goal.returns
returns c vs k low among sum h =
    let a = c.args in
    let some = c.requires.1.0.1.0 in
    let others = c.other_sums.ensures vs low (λ b i d. among b i) in
    let first = ap (λ (v : ℕ). v * a.l.nc + 1) c.from.ensures in
    c.without_each.ensures (vs a.s) k (among a.s some)
    (others_complete a.l.nc _ a.known a.heavy.block vs a.s a.heavy.n some _ refl first others sum) h
