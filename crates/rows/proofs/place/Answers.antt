-- What the tactics leave open of `rows::place`.
use Rattle.std.proofs.Common.{◌+◌, ◌-◌, ◌/◌, ℕ, arith}
use Rattle.rows.proofs.Slice.{place_up, place_down, place-count}
use Rattle.rows.proofs.place.Goals as goal

pub loop-low-init : goal.loop-low-init
loop-low-init c =
    let a = c.args in
    record { above = omega arith; below = place-count a.list.now a.count a.x.now; inside = omega arith }

pub loop-low-preserved-then-eq : goal.loop-low-preserved-then-eq
loop-low-preserved-then-eq c =
    let a = c.args in
    let p = c.loop-low in
    let m : ℕ = p.low + (p.high - p.low) / 2 in
    record {
      above = place_up a.list.now a.count a.x.now m c.compare.result (omega arith) c.compare.ensures c.requires.1 c.if-eq.ensures;
      below = p.invariant.below;
      inside = p.invariant.inside;
    }

pub loop-low-preserved : goal.loop-low-preserved
loop-low-preserved c =
    let a = c.args in
    let p = c.loop-low in
    let m : ℕ = p.low + (p.high - p.low) / 2 in
    record {
      above = p.invariant.above;
      below = place_down a.list.now a.count a.x.now m c.compare.result (omega arith) c.compare.ensures c.if-eq.ensures;
      inside = omega arith;
    }
