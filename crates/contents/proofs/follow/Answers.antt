use Rattle.std.proofs.Common.{ℕ, List, ◌≡◌, ◌+◌, ◌-◌, ◌*◌, ◌^◌, ◌<◌, ◌≤◌, get_or, take, drop, sym, ◌∙◌, arith, length-drop, get_or-take, get_or-drop}
use Rattle.std.proofs.Math.Pow.{pow_pos}
use Rattle.contents.proofs.Bits.{more_byte, is_byte, ends-here, ends-room, follow_none, follow_next}
use Rattle.contents.proofs.Gathered.{gathered_none, gathered_one}
use Rattle.contents.proofs.follow.Goals as goal

-- the next of the received bits that are gone over
next : (left p i : ℕ) (y : List ℕ) → i < left → get_or (take (p + left - p) (drop p y)) i 0 ≡ get_or y (p + i) 0
next left p i y h = get_or-take (p + left - p) (drop p y) i 0 (omega arith) ∙ get_or-drop p y i 0

-- with it the number is a byte still
next-byte : (left i whole b : ℕ) → i < left → b < 2 → (whole + 1) * 2 ^ (left - i) ≤ 256
    → (2 * whole + b < 256) × ((2 * whole + b + 1) * 2 ^ (left - (i + 1)) ≤ 256)
next-byte left i whole b h g f =
    let e : left - (i + 1) ≡ left - i - 1 = omega arith in
    let m = more_byte (left - i) whole b (omega arith) g f in
    rw e (is_byte (left - i - 1) (2 * whole + b) m, m)

pub returns-then-y-p : goal.returns-then-y-p
returns-then-y-p c =
    let a = c.args in
    gathered_none (2 ^ a.left) a.n _
    (λ w e. ends-room a.left a.v (drop a.p a.y.now) w (omega (arith, length-drop a.p a.y.now)) e)

pub returns-then-b-gt1 : goal.returns-then-b-gt1
returns-then-b-gt1 c =
    let a = c.args in
    let i = c.loop-b.b-index in
    let n = next a.left a.p i a.y.now (omega arith) in
    gathered_none (2 ^ a.left) a.n _
    (λ w e. follow_none (a.left - i) c.loop-b.whole a.y.now (a.p + i) w (omega arith)
    (λ b k h d. omega (arith, d, k, n, c.if-b-gt1.true)) (c.loop-b.invariant.goes_on w e))

pub overflow_mul-whole : goal.overflow_mul-whole
overflow_mul-whole c =
    let p = c.loop-b in
    omega (arith, (next-byte c.args.left p.b-index p.whole 0 (omega arith) (omega arith) p.invariant.byte).0)

pub overflow_add-whole : goal.overflow_add-whole
overflow_add-whole c =
    let a = c.args in
    let p = c.loop-b in
    let b = get_or (take (a.p + a.left - a.p) (drop a.p a.y.now)) p.b-index 0 in
    omega (
      arith,
      (next-byte a.left p.b-index p.whole b (omega arith) (omega (arith, c.if-b-gt1.false)) p.invariant.byte).0,
    )

pub loop-b-preserved : goal.loop-b-preserved
loop-b-preserved c =
    let a = c.args in
    let p = c.loop-b in
    let i = p.b-index in
    let b = get_or (take (a.p + a.left - a.p) (drop a.p a.y.now)) i 0 in
    let low : b < 2 = omega (arith, c.if-b-gt1.false) in
    let n = next a.left a.p i a.y.now (omega arith) in
    let e : a.left - (i + 1) ≡ a.left - i - 1 = omega arith in
    let q : a.p + (i + 1) ≡ a.p + i + 1 = omega arith in
    record {
      byte = (next-byte a.left i p.whole b (omega arith) low p.invariant.byte).1;
      goes_on = λ w x. rw (e, q)
          (follow_next (a.left - i) p.whole b a.y.now (a.p + i) w (omega arith) low (omega arith) (sym n)
          (p.invariant.goes_on w x));
    }

pub returns : goal.returns
returns c =
    let a = c.args in
    let p = c.loop-b in
    gathered_one (2 ^ a.left) a.n p.whole a.out.now (pow_pos a.left)
    (omega (arith, c.requires.0.entries, pow_pos a.left))
    (λ w e. ends-here (a.left - p.b-index) p.whole 0 (drop (a.p + p.b-index) a.y.now) w (omega arith)
    (p.invariant.goes_on w e))
