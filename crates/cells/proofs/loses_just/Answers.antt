-- What a chunk does not take of the received row it loses.
use Rattle.std.proofs.Common.{ℕ, ◌+◌, ◌≡◌, eqb, drop, arith}
use Rattle.std.proofs.lemmas.Bool.Decides.{nat_tests}
use Rattle.bits.specs.Bits.{digits}
use Rattle.consistent.specs.Greedy.{losses}
use Rattle.cells.proofs.Chunk.{taken-lost}
use Rattle.cells.proofs.loses_just.Goals as goal

all-lost : (n a nc l : ℕ) → l + n ≡ nc → eqb (n + a) nc ≡ eqb l a
all-lost n a nc l h = grind (arith, nat_tests)

pub returns : goal.returns
returns c =
    let a = c.args in
    let n = c.taken-n.result in
    let all =
    taken-lost a.nc a.v a.place n c.spread.new.out _ a.y.now c.spread.ensures c.taken-n.ensures.1.1 in
    rw c.from.ensures (all-lost n a.a a.nc (losses (digits a.nc a.v) (drop a.place a.y.now)) all)
