-- What the tactics leave open of `rows::move_up`.
use Rattle.std.proofs.Common.{◌≡◌, ◌+◌, ◌-◌, ◌++◌, ℕ, List, take, drop, sym, ap, ◌∙◌, arith}
use Rattle.rows.proofs.Slice.{Moved, moved_part}
use Rattle.rows.proofs.move_up.Goals as goal

pub loop-i-preserved : goal.loop-i-preserved
loop-i-preserved c =
    let a = c.args in
    let p = c.loop-i in
    let i : ℕ = p.i - 64 in
    let up : i + 64 ≡ p.i = omega arith in
    let size : p.i - i ≡ 64 = omega (arith, up) in
    let one : c.move_piece.new.list ≡ Moved p.list p.i a.w i =
    c.move_piece.ensures
    ∙ ap (λ (n : ℕ). take (i + a.w) p.list ++ (take 64 (drop i p.list) ++ drop (n + a.w) p.list)) up
    ∙ ap (λ (n : ℕ). take (i + a.w) p.list ++ (take n (drop i p.list) ++ drop (p.i + a.w) p.list)) (sym size)
    in
    record {
      low = omega arith;
      high = omega arith;
      moved = one ∙ ap (λ (u : List ℕ). Moved u p.i a.w i) p.invariant.moved
          ∙ moved_part a.list.now a.to a.w p.i i (omega arith) (omega arith) p.invariant.high;
    }

pub returns : goal.returns
returns c =
    let a = c.args in
    let p = c.loop-i in
    c.move_bytes.ensures ∙ ap (λ (u : List ℕ). Moved u p.i a.w a.from) p.invariant.moved
    ∙ moved_part a.list.now a.to a.w p.i a.from (omega arith) p.invariant.low p.invariant.high
