-- The chunk at hand is taken out, the others are found from what is left, and it from them.
use Rattle.std.proofs.Common.{ℕ, ◌<◌, get_or, arith}
use Rattle.erasures.specs.Erasures.{scaled}
use Rattle.erasures.proofs.Erasures.{brings-next, scaled_contents}
use Rattle.erasures.proofs.+solve.Goals as goal

pub returns : goal.returns
returns t c =
    let p = c.requires in
    let a = c.args in
    let less : a.u < a.n = omega arith in
    let lo = p.0.1 in
    let hi = p.0.2 in
    let place : ℕ → ℕ = λ v. get_or a.cs v 0 in
    let left = c.take_out-left in (
      c.settle.ensures.0,
      λ e he h. c.settle.ensures.1 e he
          (λ w l m. c.solve-rest.ensures.1 (scaled a.nc place e a.u) (scaled_contents a.nc lo hi place e he a.u)
          (brings-next a.nc lo hi place e he a.s left.result a.n a.u less h
          (λ i l. rw c.from.ensures at (left.ensures.1 i l))) w (omega arith) m)
          (h 0 (omega arith)),
    )
