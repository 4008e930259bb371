-- What the tactics leave open of `bits::unpack_part`.
use Rattle.std.proofs.Common.{◌≡◌, ℕ, List, drop, get_or, sym, ◌∙◌, arith, get_or-drop, length-drop}
use Rattle.bits.specs.Bits.{unpack}
use Rattle.bits.proofs.Copy.{paste_next}
use Rattle.bits.proofs.Laws.{length-unpack}
use Rattle.bits.proofs.unpack_part.Goals as goal

pub loop-i-preserved : goal.loop-i-preserved
loop-i-preserved c =
    let a = c.args in
    let p = c.loop-i in
    let u : List ℕ = unpack a.s.now in
    let bit : c.bit_at.result ≡ get_or (drop a.from u) p.i 0 = c.bit_at.ensures ∙ sym (get_or-drop a.from u p.i 0) in
    rw (p.invariant, bit)
    (paste_next a.out.now a.from (drop a.from u) p.i (omega arith) (omega (arith, length-drop a.from u, length-unpack a.s.now)))
