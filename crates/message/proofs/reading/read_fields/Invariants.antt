-- The loop's invariant: the cursor stands at the next field, and those before it are written.
use Rattle.std.proofs.Common.{◌≡◌, ◌++◌, ◌+◌, ◌*◌, length, take, drop}
use Rattle.bits.specs.Bits.{unpack}
use Rattle.message.specs.Read.{fields}
use Rattle.message.proofs.reading.read_fields.Given as goal

abbrev pub invariant-loop-v : goal.invariant-loop-v
invariant-loop-v l = record {
  at : l.c.at ≡ l.at + l.v-index * l.k;
  written : l.out ≡ take l.v-index (fields (length l.fn.out) l.k (drop l.at (unpack l.s))) ++ drop l.v-index l.fn.out;
}
