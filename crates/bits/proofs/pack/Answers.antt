-- What the tactics leave open of `bits::pack`.
use Rattle.std.proofs.Common.{ℕ, List, ◌∙◌, arith}
use Rattle.bits.proofs.Packing.{packed-whole, packed-rest}
use Rattle.bits.proofs.pack.Goals as goal

pub returns-then-n-bits : goal.returns-then-n-bits
returns-then-n-bits c =
    let x : List ℕ = c.args.bits.now in
    rw (c.pack_bytes.ensures, c.last_byte.ensures) (packed-rest x c.args.out.now (omega arith) (omega arith))

pub returns-else-n-bits : goal.returns-else-n-bits
returns-else-n-bits c = c.pack_bytes.ensures ∙ packed-whole c.args.bits.now c.args.out.now (omega arith)
