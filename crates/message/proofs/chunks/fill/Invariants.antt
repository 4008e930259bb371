-- The loop's invariant: the numbers up to the cursor are written.
use Rattle.std.proofs.Common.{◌≡◌, ◌++◌, ◌*◌, length, take, drop}
use Rattle.bits.specs.Bits.{unpack}
use Rattle.message.specs.Read.{fields}
use Rattle.message.proofs.chunks.fill.Given as goal

abbrev pub invariant-loop-v : goal.invariant-loop-v
invariant-loop-v l = record {
  at : l.c.at ≡ l.v-index * l.nc;
  written : l.out ≡ take l.v-index (fields (length l.fn.out) l.nc (unpack l.s)) ++ drop l.v-index l.fn.out;
}
