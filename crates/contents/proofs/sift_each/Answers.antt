use Rattle.std.proofs.Common.{ℕ, ◌+◌, ◌%◌, ◌<◌, length, ap, ◌∙◌, arith}
use Rattle.contents.proofs.Sifted.{sifted_kept, sifted_left}
use Rattle.contents.proofs.sift_each.Goals as goal
use Rattle.contents.proofs.sift_each.Goals.{then-a-chunk_total, else-a-chunk_total}

pub loop-i-preserved : goal.loop-i-preserved
loop-i-preserved c =
    let t = c.chunk_total.ensures.0 in
    let a = c.args in
    let v = c.loop-i in
    let low : v.i < length a.out.now = omega arith in
    elim c.if-a-chunk_total.branch [
      | then-a-chunk_total w ↦ rw (w.out-is, w.k-is) (sifted_kept a.nc a.a a.out.now v.i v.out v.k v.invariant low)
      | else-a-chunk_total w ↦ rw (w.out-is, w.k-is)
          (sifted_left a.nc a.a a.out.now v.i v.out v.k v.invariant
          (λ allows. w.if-a-chunk_total.false (ap (λ (n : ℕ). (a.a.rest + n) % a.a.modulus) t ∙ allows)))
    ]
