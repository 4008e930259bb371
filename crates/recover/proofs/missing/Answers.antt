use Rattle.std.proofs.Common.{◌≡◌, ℕ, ◌+◌, ◌-◌, ◌%◌, ◌^◌, ◌<◌, ◌≤◌, get_or, length, drop, refl, ◌∙◌, arith, get_or-take, get_or-drop, length-take, length-drop, length-set}
use Rattle.std.proofs.Math.Nat.{mod-lt}
use Rattle.std.specs.Int.Bits.{bit_xor, xor_lt}
use Rattle.field.specs.Field.{Element}
use Rattle.field.proofs.Double.{size_low, size-high}
use Rattle.field.proofs.Linear.{check_element}
use Rattle.message.proofs.Legal.{legal_bounds}
use Rattle.erasures.proofs.Erasures.{set-each}
use Rattle.recover.proofs.missing.Goals as goal

pub order-size-requires : goal.order-size-requires
order-size-requires c =
    let b = legal_bounds c.args.l c.requires.0.0 in
    (b.nc_low, b.nc_high)

pub checks-requires : goal.checks-requires
checks-requires c =
    let b = legal_bounds c.args.l c.requires.0.0 in
    let p = c.requires.1 in
    ((p.0.0, b.nc_low, b.nc_high, p.0.1, p.1.0), (p.1.1, omega (arith, b.r_high)))

pub overflow_cast-out : goal.overflow_cast-out
overflow_cast-out c =
    let l = c.args.l in
    let b = legal_bounds l c.requires.0.0 in
    omega (arith, size_low l.nc b.nc_low, size-high l.nc b.nc_high)

pub bounds-own-i : goal.bounds-own-i
bounds-own-i c = omega (arith, (legal_bounds c.args.l c.requires.0.0).r_high)

pub bounds-out-i : goal.bounds-out-i
bounds-out-i c = omega (arith, (legal_bounds c.args.l c.requires.0.0).r_high)

pub loop-i-preserved : goal.loop-i-preserved
loop-i-preserved c =
    let l = c.args.l in
    let ns = c.args.numbers.now in
    let o = c.loop-i in
    let own = c.checks.new.out in
    let size : ℕ = c.order-size.result + 1 in
    let first : ℕ = l.l1 + l.l2 in
    let all : ℕ = first + c.args.n - first in
    let b = legal_bounds l c.requires.0.0 in
    let is-size : size ≡ 2 ^ l.nc = omega (arith, c.order-size.ensures, size_low l.nc b.nc_low) in
    let turn : o.i < c.args.n = omega (arith, c.loop-i-test.true, length-take all (drop first ns)) in
    let number : c.from.result ≡ get_or ns (first + o.i) 0 =
    c.from.ensures ∙ get_or-take all (drop first ns) o.i 0 (omega arith) ∙ get_or-drop first ns o.i 0 in
    let v : ℕ = bit_xor (c.from.result % size) (get_or own o.i 0) in
    let sum : Element l.nc (get_or own o.i 0) =
    rw (c.checks.ensures o.i turn) (check_element l.nc b.nc_low b.nc_high o.i c.args.chunks.now c.requires.1.1.0) in
    let rest : Element l.nc (c.from.result % size) = omega (arith, mod-lt c.from.result {m = size} (omega arith)) in
    let low : v < size = omega (arith, xor_lt l.nc (c.from.result % size) (get_or own o.i 0) rest sum) in
    let room : o.i < length o.out = omega (arith, b.r_high) in
    record {
      size = length-set o.out o.i v ∙ o.invariant.size;
      low = set-each (λ (k x : ℕ). x < size) o.out o.i v room (λ k d. o.invariant.low k) low;
      sums = set-each
          (λ (k x : ℕ). k < o.i + 1 → x ≡ bit_xor (get_or ns (first + k) 0 % size) (get_or own k 0)) o.out o.i v room
          (λ k d h. o.invariant.sums k (omega arith)) (λ h. rw number refl);
    }

pub returns : goal.returns
returns c =
    let l = c.args.l in
    let o = c.loop-i in
    let b = legal_bounds l c.requires.0.0 in
    let first : ℕ = l.l1 + l.l2 in
    let is-size : c.order-size.result + 1 ≡ 2 ^ l.nc = omega (arith, c.order-size.ensures, size_low l.nc b.nc_low) in
    let last : c.args.n ≤ o.i =
    omega (
      arith,
      c.loop-i-test.false,
      length-take (first + c.args.n - first) (drop first c.args.numbers.now),
      length-drop first c.args.numbers.now,
    ) in (
      λ i. rw is-size at (o.invariant.low i),
      λ i h. (rw is-size at (o.invariant.sums i (omega arith))) ∙ rw (c.checks.ensures i h) refl,
    )
