use Rattle.std.proofs.Common.{◌≡◌, ℕ, List, ◌++◌, ◌+◌, ◌*◌, length, get_or, take, drop, sym, ap, ◌∙◌, arith}
use Rattle.bits.proofs.Copy.{paste_next, paste_whole}
use Rattle.message.specs.Read.{fields}
use Rattle.message.proofs.Fields.{fields_at, length_fields}
use Rattle.pieces.proofs.put_block.Goals as goal

pub loop-j-preserved : goal.loop-j-preserved
loop-j-preserved c =
    let a = c.args in
    let p = c.loop-j in
    let f : List ℕ = fields a.l2 a.nc a.bits.now in
    let v : c.number_at.result ≡ get_or f p.j 0 =
    c.number_at.ensures ∙ sym (fields_at a.l2 a.nc p.j a.bits.now c.loop-j-test.true) in
    let n : length f ≡ a.l2 = length_fields a.l2 a.nc a.bits.now in
    rw (p.invariant, v) (paste_next a.row.now (a.i * a.l2) f p.j (omega arith) (omega arith))

pub returns : goal.returns
returns c =
    let a = c.args in
    let p = c.loop-j in
    let f : List ℕ = fields a.l2 a.nc a.bits.now in
    let n : length f ≡ a.l2 = length_fields a.l2 a.nc a.bits.now in
    p.invariant
    ∙ paste_whole a.row.now (a.i * a.l2) f p.j (omega arith)
    ∙ ap (λ (m : ℕ). take (a.i * a.l2) a.row.now ++ f ++ drop (a.i * a.l2 + m) a.row.now) n
