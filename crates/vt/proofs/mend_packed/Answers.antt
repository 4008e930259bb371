-- What the tactics leave open of `vt::mend_packed`.
use Rattle.std.proofs.Common.{◌≡◌, ◌-◌, ◌++◌, ℕ, List, length, drop, ap, ◌∙◌, arith}
use Rattle.bits.specs.Bits.{bytes_for}
use Rattle.bits.proofs.Packing.{fits-length}
use Rattle.vt.proofs.Packed.{put-mended}
use Rattle.vt.proofs.mend_packed.Goals as goal

pub weigh_bytes-weight-requires : goal.weigh_bytes-weight-requires
weigh_bytes-weight-requires c =
    omega (arith, c.requires.0.1, fits-length (c.args.w - 1) c.args.bits.now c.requires.1.1.0)

pub put_packed-requires : goal.put_packed-requires
put_packed-requires c =
    let a = c.args in
    let l = fits-length (a.w - 1) a.bits.now c.requires.1.1.0 in
    let e = c.find_packed-p.ensures.0 in
    ((omega (arith, e.0), e.1), ((omega (arith, e.0), omega arith), (omega arith, omega arith)))

pub returns : goal.returns
returns c =
    let a = c.args in
    let q = c.find_packed-p in
    let d : c.div_ceil.result ≡ bytes_for a.w = omega arith in
    (rw d at c.put_packed.ensures)
    ∙ ap (λ (l : List ℕ). l ++ drop (bytes_for a.w) a.out.now)
    (put-mended a.w a.s a.bits.now (length a.out.now) c.requires q.result.at q.result.bit
    c.lacking-t.result q.ensures.0.0 q.ensures.0.1 q.ensures.1
    (rw c.weigh_bytes-weight.ensures.0 at c.lacking-t.ensures.1))
