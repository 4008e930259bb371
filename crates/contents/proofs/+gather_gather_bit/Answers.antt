use Rattle.std.proofs.Common.{ℕ, ◌≡◌, ◌+◌, ◌-◌, ◌*◌, ◌^◌, ◌<◌, length, get_or, drop, arith}
use Rattle.contents.specs.Contents.{Room}
use Rattle.contents.proofs.Bits.{half, more_byte, is_byte, ends-few, ends_more, after-taken, after-lost}
use Rattle.contents.proofs.Gathered.{gathered_none, gathered_then, gathered_weaken}
use Rattle.contents.proofs.+gather_gather_bit.Goals as goal
use Rattle.contents.proofs.+gather_gather_bit.Goals.{gather_bit-else-p-y-via-then-p-y+else-y-p, gather_bit-else-p-y-via-else-p-y}

-- with a bit more the number is a byte still
more : (left v n size b : ℕ) → 0 < left → b < 2 → Room left v n size → 2 * v + b < 256
more left v n size b h g r = is_byte (left - 1) (2 * v + b) (more_byte left v b h g r.byte)

pub gather-returns-then-left-a : goal.gather-returns-then-left-a
gather-returns-then-left-a t c =
    let a = c.args in
    gathered_none (2 ^ a.left) a.n _ (λ w e. ends-few a.left a.v a.a (drop a.p a.y.now) w c.if-left-a.true e)

pub gather-overflow_mul-v : goal.gather-overflow_mul-v
gather-overflow_mul-v t c =
    omega (arith, more c.args.left c.args.v c.args.n _ 0 (omega arith) (omega arith) c.requires.0)

pub gather-overflow_mul-v-then-a-gt0 : goal.gather-overflow_mul-v-then-a-gt0
gather-overflow_mul-v-then-a-gt0 t c =
    omega (arith, more c.args.left c.args.v c.args.n _ 1 (omega arith) (omega arith) c.requires.0)

pub gather-overflow_add-v : goal.gather-overflow_add-v
gather-overflow_add-v t c =
    omega (arith, more c.args.left c.args.v c.args.n _ 1 (omega arith) (omega arith) c.requires.0)

pub gather-returns-then-a-gt0 : goal.gather-returns-then-a-gt0
gather-returns-then-a-gt0 t c =
    let a = c.args in
    let some : 0 < a.left = omega arith in
    gathered_then (2 ^ a.left) (2 ^ (a.left - 1)) a.n _ _ a.out.now _ _ (omega (arith, half a.left some))
    c.gather_bit-next.ensures c.gather_bit.ensures
    (λ w e. ends_more a.left a.v a.a (drop a.p a.y.now) w some e)

pub gather_bit-returns-then-y-p : goal.gather_bit-returns-then-y-p
gather_bit-returns-then-y-p t c =
    let a = c.args in
    gathered_weaken (2 ^ a.left) a.n _ a.out.now _
    (λ w e. after-taken a.b a.left a.v a.a a.y.now a.p w c.if-p-y.true c.if-y-p.true e) c.gather.ensures

pub gather_bit-returns-then-a-eq0 : goal.gather_bit-returns-then-a-eq0
gather_bit-returns-then-a-eq0 t c =
    let a = c.args in
    let other : a.p < length a.y.now → get_or a.y.now a.p 0 ≡ a.b → ⊥ = elim c.else-p-y.branch [
      | gather_bit-else-p-y-via-then-p-y+else-y-p w ↦ λ i e. w.if-y-p.false e
      | gather_bit-else-p-y-via-else-p-y w ↦ λ i e. absurd (omega (arith, i, w.if-p-y.false))
    ] in
    gathered_none (2 ^ a.left) a.n _ (λ w e. omega (arith, (after-lost a.b a.left a.v a.a a.y.now a.p w other e).0))

pub gather_bit-returns : goal.gather_bit-returns
gather_bit-returns t c =
    let a = c.args in
    let other : a.p < length a.y.now → get_or a.y.now a.p 0 ≡ a.b → ⊥ = elim c.else-p-y.branch [
      | gather_bit-else-p-y-via-then-p-y+else-y-p w ↦ λ i e. w.if-y-p.false e
      | gather_bit-else-p-y-via-else-p-y w ↦ λ i e. absurd (omega (arith, i, w.if-p-y.false))
    ] in
    gathered_weaken (2 ^ a.left) a.n _ a.out.now _ (λ w e. (after-lost a.b a.left a.v a.a a.y.now a.p w other e).1)
    c.gather-2.ensures
