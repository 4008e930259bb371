-- What the tactics leave open of `vt::find_part`.
use Rattle.std.proofs.Common.{◌≡◌, ◌*◌, ◌+◌, ◌/◌, ◌%◌, ◌<◌, ℕ, List, length, get_or, take, drop, sym, ap, ◌∙◌, inl, inr, ⊎_elim, get_or-take, length-take, arith}
use Rattle.bits.specs.Bits.{digits, unpack}
use Rattle.bits.proofs.Packing.{fits-blank, fits-length}
use Rattle.vt.specs.Ones.{ones}
use Rattle.vt.proofs.Weighing.{ones-byte, ones_part, blank-ones}
use Rattle.vt.proofs.find_part.Goals as goal
use Rattle.vt.proofs.find_part.Goals.{else-behind-t-via-then-behind-t+else-t-i, else-behind-t-via-else-behind-t}

-- the ones from byte i on are those of the byte and those behind it
seen : (s : List ℕ) (n i r o : ℕ) → i < length (take (n / 8) s) → r ≡ ones (drop (i * 8) (unpack s))
    → o ≡ ones (digits 8 (get_or (take (n / 8) s) i 0)) → r ≡ o + ones (drop ((i + 1) * 8) (unpack s))
seen s n i r o h e f =
    let a : i < n / 8 = omega (arith, length-take (n / 8) s) in
    let b : i < length s = omega (arith, length-take (n / 8) s) in
    e ∙ ones-byte s i b
    ∙ ap (λ (k : ℕ). k + ones (drop ((i + 1) * 8) (unpack s)))
    (sym (f ∙ ap (λ (v : ℕ). ones (digits 8 v)) (get_or-take (n / 8) s i 0 a)))

pub slice_bounds-b-items-end : goal.slice_bounds-b-items-end
slice_bounds-b-items-end c =
    omega (arith, fits-length c.args.n c.args.s.now c.requires.0.0, length-take (c.args.n / 8) c.args.s.now)

pub overflow_sub-behind : goal.overflow_sub-behind
overflow_sub-behind c =
    omega (
      arith,
      seen c.args.s.now c.args.n c.loop-i.i c.loop-i.r c.of-w.result.ones c.loop-i-test.true c.loop-i.invariant.left
          c.of-w.ensures.1.0,
    )

pub returns-then-t-i : goal.returns-then-t-i
returns-then-t-i c =
    let a = c.args in
    let p = c.loop-i in
    let u : List ℕ = unpack a.s.now in
    let inner : p.i < a.n / 8 = omega (arith, length-take (a.n / 8) a.s.now) in
    let e : (p.i + 1) * 8 ≡ p.i * 8 + 8 = omega arith in
    let b = rw e at
    (seen a.s.now a.n p.i p.r c.of-w.result.ones c.loop-i-test.true p.invariant.left c.of-w.ensures.1.0) in
    record {
      small = omega arith;
      inside = omega arith;
      counted = omega (arith, b, ones_part u (p.i * 8) 8, p.invariant.left);
      rest = omega (arith, b);
      low = c.if-behind-t.true;
      reach = ⊎_elim (λ l. inl l) (λ l. inr (l.0, omega (arith, c.if-t-i.true))) p.invariant.reach;
    }

pub loop-i-preserved : goal.loop-i-preserved
loop-i-preserved c =
    let a = c.args in
    let p = c.loop-i in
    let b =
    seen a.s.now a.n p.i p.r c.of-w.result.ones c.loop-i-test.true p.invariant.left c.of-w.ensures.1.0 in
    record {
      left = omega (arith, b);
      reach = elim c.else-behind-t.branch [
        | else-behind-t-via-then-behind-t+else-t-i k ↦ inr (omega (arith, k.if-t-i.false), c.requires.1.1)
        | else-behind-t-via-else-behind-t k ↦ inl (omega (arith, k.if-behind-t.false))
      ];
    }

pub returns : goal.returns
returns c =
    let a = c.args in
    let p = c.loop-i in
    let u : List ℕ = unpack a.s.now in
    let i : p.i ≡ a.n / 8 =
    omega (arith, length-take (a.n / 8) a.s.now, fits-length a.n a.s.now c.requires.0.0) in
    let left = rw i at p.invariant.left in
    let e : a.n / 8 * 8 + a.n % 8 ≡ a.n = omega arith in
    let z : ones (drop (a.n / 8 * 8 + a.n % 8) u) ≡ 0 =
    ap (λ (k : ℕ). ones (drop k u)) e ∙ blank-ones (drop a.n u) (fits-blank a.n a.s.now c.requires.0.0) in
    record {
      small = omega arith;
      inside = omega arith;
      counted = omega (arith, z, ones_part u (a.n / 8 * 8) (a.n % 8), left);
      rest = sym z;
      low = omega arith;
      reach = ⊎_elim (λ l. inl l) (λ l. inr (l.0, omega (arith, l.1))) (rw i at p.invariant.reach);
    }
