-- What the tactics leave open of `alike::all_near`.
use Rattle.std.proofs.Common.{◌≡◌, ℕ, ◌+◌, ◌*◌, ◌<◌, false, ◌⊎◌, inl, inr, ⊎_elim, refl, sym, ap, ◌∙◌, true≢false, arith}
use Rattle.std.proofs.Math.Nat.{mul_comm, mul-le-mul_left}
use Rattle.message.proofs.Legal.{legal_bounds, sizes, string_high}
use Rattle.states.specs.States.{each, firsts}
use Rattle.states.proofs.Sums.{firsts_same}
use Rattle.marks.specs.Marks.{apart_before}
use Rattle.marks.proofs.Paths.{before-none, before-next}
use Rattle.alike.proofs.Alike.{counts-next}
use Rattle.alike.proofs.all_near.Goals as goal
use Rattle.alike.proofs.all_near.Goals.{else-can_differ, then-can_differ+else-room-most-2}

-- no column is passed
pub loop-j-init : goal.loop-j-init
loop-j-init c =
    let a = c.args in
    let n : ℕ = a.heavy.n in
    let all = c.all_losses.ensures in
    record {
      set_long = refl;
      other_long = refl;
      few = omega (arith, all.1, mul-le-mul_left c.all_losses.result c.requires.0.few);
      near = omega arith;
      counted = λ row vs own light path.
          let whole : n * firsts (own 0) n ≡ c.all_losses.result * n =
          ap (λ (v : ℕ). n * v) (firsts_same (own 0) (each a.size) n path.starts ∙ sym all.0)
          ∙ mul_comm n c.all_losses.result in
          (λ s h. omega (arith, path.starts s h), omega (arith, before-none a.l a.heavy a.z.now vs, whole));
    }

pub can_differ-requires : goal.can_differ-requires
can_differ-requires c =
    let p = c.requires in
    let high = string_high c.args.l p.0.allowed in
    let was = c.loop-j.invariant in (
      record { fit = p.0; tables = p.1.0; light = p.1.1.0; column = omega arith },
      (p.1.1.1, ((omega arith, omega (arith, was.set_long)), omega (arith, was.other_long))),
    )

pub overflow_add-most : goal.overflow_add-most
overflow_add-most c =
    record { fits = omega (arith, (sizes c.args.l (legal_bounds c.args.l c.requires.0.allowed)).l2_high, c.requires.0.few) }

-- all blocks count more where the column can differ, and else as many
pub loop-j-preserved : goal.loop-j-preserved
loop-j-preserved c =
    let a = c.args in
    let j : ℕ = c.loop-j.j in
    let was = c.loop-j.invariant in
    let more : ((c.if-can_differ.most ≡ c.loop-j.most + a.heavy.n) × (c.if-can_differ.most < a.room))
    ⊎ ((c.can_differ.result ≡ false) × (c.if-can_differ.most ≡ c.loop-j.most)) =
    elim c.if-can_differ.branch [
      | then-can_differ+else-room-most-2 w ↦ inl (w.most-is, omega (arith, w.most-is, w.if-room-most-2.false))
      | else-can_differ w ↦ inr (w.if-can_differ.false, w.most-is)
    ] in
    record {
      set_long = c.can_differ.auto.set ∙ was.set_long;
      other_long = c.can_differ.auto.other ∙ was.other_long;
      few = ⊎_elim (λ w. omega (arith, w.0, c.requires.0.few)) (λ w. omega (arith, w.1)) more;
      near = ⊎_elim (λ w. w.1) (λ w. omega (arith, w.1)) more;
      counted = λ row vs own light path.
          let so = was.counted row vs own light path in
          let crosses = path.crosses j (omega arith) in
          let next = counts-next crosses a.z.now (apart_before a.l a.heavy a.z.now vs j) c.loop-j.most
          c.if-can_differ.most so.1 (⊎_elim (λ w. omega (arith, w.0)) (λ w. omega (arith, w.1)) more)
          (λ kept apart.
          ⊎_elim
          (λ w. omega (arith, w.0))
          (λ w.
          absurd (true≢false
          (sym (c.can_differ.ensures row vs (own j) (own (j + 1)) light so.0 crosses kept apart) ∙ w.0)))
          more) in (
            λ s h. omega (arith, crosses.falls s h, so.0 s h),
            omega (arith, before-next a.l a.heavy a.z.now vs j, next),
          );
    }
