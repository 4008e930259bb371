-- `column::read_number` meets its contract: without ones the bits spell 0, with ones only 2 ^ nc - 1. Assumes nothing.
use Rattle.std.proofs.Common.{◌≡◌, sym, take, drop, arith}
use Rattle.bits.proofs.Laws.{bits-drop}
use Rattle.vt.specs.Ones.{ones}
use Rattle.weigh.proofs.Runs.{zeros-number, ones-number}
use Rattle.column.proofs.read_number.Goals as goal

pub returns-then-seen-eq0 : goal.returns-then-seen-eq0
returns-then-seen-eq0 c =
    let a = c.args in
    let none : ones (take a.nc (drop a.at a.y.now)) ≡ 0 = omega (arith, c.look-seen.ensures.count, c.if-seen-eq0.true) in
    sym (zeros-number a.nc (drop a.at a.y.now) none)

pub returns-then-seen-nc : goal.returns-then-seen-nc
returns-then-seen-nc c =
    let a = c.args in
    let all : ones (take a.nc (drop a.at a.y.now)) ≡ a.nc = omega (arith, c.look-seen.ensures.count, c.if-seen-nc.true) in
    let full = ones-number a.nc (drop a.at a.y.now) (bits-drop a.at a.y.now c.requires.1.0.0) all in
    omega (arith, full, c.power.ensures)
