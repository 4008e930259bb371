-- The line's sum says what the lost bit adds, and that says the chunk.
use Rattle.std.proofs.Common.{ℕ, List, Some, ◌≡◌, ◌+◌, ◌-◌, ◌*◌, ◌≤◌, get_or, refl, ap, ◌∙◌, arith}
use Rattle.std.proofs.Math.Nat.{mul-le-mul}
use Rattle.bits.specs.Bits.{longest_line, digits}
use Rattle.bits.proofs.Laws.{bits-digits}
use Rattle.message.proofs.Fields.{field_room}
use Rattle.lines.specs.Lines.{Mendable}
use Rattle.lines.proofs.Lost.{few_bits, weighed, lost_adds, lost-number}
use Rattle.lines.proofs.Parts.{total-own}
use Rattle.lines.proofs.Turns.{total-most}
use Rattle.lines.proofs.mend_line.Goals as goal
use Rattle.lines.proofs.mend_line.Goals.{After-weigh-w, After-mend_chunk}

-- what the chunk brings is part of the line's total, which is not large; and what the bits at hand weigh is little, also
-- behind the chunks before them
record Small (c : After-weigh-w) : Type 0 where
  part : c.chunk_total-own.result ≤ c.line_total-whole.result
  whole : c.line_total-whole.result ≤ longest_line * (1 + longest_line)
  total : c.weigh-w.result.total ≤ 7 * 8
  shifted : c.args.hole * c.args.nc * c.weigh-w.result.ones ≤ longest_line * 7

small : (c : After-weigh-w) → Small c
small c =
    let a = c.args in
    let i = c.requires.0.0 in
    let own = total-own a.nc a.start a.stride a.count a.hole c.requires.1.0 a.vs.now in
    let most = total-most a.nc a.start a.stride a.count a.vs.now i.short in
    let few = few_bits a.bits.now c.requires.1.1.0.1 (omega arith) in
    let before : a.hole * a.nc ≤ longest_line = omega (arith, field_room a.count a.nc a.hole c.requires.1.0) in
    let ones : c.weigh-w.result.ones ≤ 7 = omega arith in
    record {
      part = omega (arith, c.chunk_total-own.ensures.0);
      whole = omega arith;
      total = omega arith;
      shifted = mul-le-mul {n₂ = longest_line} {m₂ = 7} before ones;
    }

pub overflow_sub-short : goal.overflow_sub-short
overflow_sub-short c = (small (goal.at.overflow_sub-short c).After-weigh-w).part

pub overflow_mul-short : goal.overflow_mul-short
overflow_mul-short c = let s = small (goal.at.overflow_mul-short c).After-weigh-w in omega (arith, s.shifted)

pub overflow_add-short : goal.overflow_add-short
overflow_add-short c = let s = small (goal.at.overflow_add-short c).After-weigh-w in omega (arith, s.shifted, s.total)

pub overflow_add-short-2 : goal.overflow_add-short-2
overflow_add-short-2 c =
    let s = small (goal.at.overflow_add-short-2 c).After-weigh-w in
    omega (arith, s.shifted, s.total, s.whole)

-- the chunk is mended to that of any row whose line lost one bit so
mended : (c : After-mend_chunk) (us : List ℕ) → let a = c.args in
    Mendable a.nc a.start a.stride a.count a.hole a.sum a.bits.now a.vs.now us
    → c.mend_chunk.result ≡ Some (get_or us (a.start + a.hole * a.stride) 0)
mended c us m =
    let a = c.args in
    let p = c.requires.1 in
    let before : ℕ = a.hole * a.nc in
    let y = a.bits.now in
    let whole = c.line_total-whole in
    let own = c.chunk_total-own in
    let rest : ℕ = whole.result - own.result in
    let e = c.weigh-w.ensures in
    let part = total-own a.nc a.start a.stride a.count a.hole p.0 a.vs.now in
    let short = weighed rest before c.weigh-w.result.ones c.weigh-w.result.total y e.1 e.0 in
    let adds =
    lost_adds a.nc a.start a.stride a.count a.hole a.sum y a.vs.now us p.0 p.1.0.0 p.1.0.1 m rest c.lacking-g.result
    (omega (arith, part, whole.ensures, own.ensures.0)) c.lacking-g.ensures.0 (rw short at c.lacking-g.ensures.1) in
    let x = digits a.nc (get_or us (a.start + a.hole * a.stride) 0) in
    c.mend_chunk.ensures x (bits-digits a.nc _) m.comes adds
    ∙ ap Some
    (lost-number a.nc a.start a.stride a.count a.hole a.sum y a.vs.now us p.0 p.1.0.0 p.1.0.1 m)

pub returns-in-Some : goal.returns-in-Some
returns-in-Some c us m =
    let e = mended (goal.at.returns-in-Some c).After-mend_chunk us m in
    (refl, cc (e, c.in-Some.is))

pub returns-in-None : goal.returns-in-None
returns-in-None c us m =
    let e = mended (goal.at.returns-in-None c).After-mend_chunk us m in
    (cc (e, c.in-None.is), cc (e, c.in-None.is))
