use Rattle.std.proofs.Common.{◌≡◌, ℕ, ◌+◌, ◌-◌, ◌*◌, get_or, set, ap, sym, subst, ◌∙◌, arith, below_more, get_or-set_same, get_or-set_other}
use Rattle.std.proofs.Math.Nat.{mod-eq_of_lt}
use Rattle.residues.specs.Residues.{Has}
use Rattle.sums.specs.Sums.{block_modulus, rest_at, HoldsFrom}
use Rattle.rests.proofs.Rests.{short_columns, end-holds, column-holds}
use Rattle.rests.proofs.fill.Goals as goal

pub loop-s-preserved : goal.loop-s-preserved
loop-s-preserved c =
    let l = c.args.l in
    let t = c.loop-s in
    let at = l.l2 * 78 + t.s * 13 in
    let v = c.only.result in
    let m = block_modulus l in
    let is : rest_at l.l2 t.s 0 ≡ at = omega arith in
    let none = c.only.ensures m 0 (mod-eq_of_lt (omega arith)) in
    let columns = short_columns l c.requires.0.allowed (c.is_short.ensures.0 c.if-not-is_short.false) in
    below_more _ _
    (λ k h. rw (get_or-set_other t.rests at (rest_at l.l2 k 0) v 0 (λ e. omega (arith, e, h))) (t.invariant k h))
    (subst (λ (w : ℕ). Has m w 0)
    (sym (ap (λ (k : ℕ). get_or (set t.rests at v) k 0) is
    ∙ get_or-set_same t.rests at v 0 (omega (arith, columns, c.requires.0.few, c.requires.1.1)))) none)

pub loop-c-init : goal.loop-c-init
loop-c-init c row vs own path =
    end-holds _ _ _ _ row c.args.size vs own path c.loop-s.rests (λ s h. c.loop-s.invariant s (omega arith))

pub loop-c-preserved : goal.loop-c-preserved
loop-c-preserved c row vs own path =
    let a = c.args in
    let t = c.loop-c in
    let e : t.c ≡ t.c - 1 + 1 = omega arith in
    column-holds _ _ _ _ row _ vs own path (t.c - 1) t.rests _ (omega arith) c.fill_column.ensures
    (subst (λ (k : ℕ). HoldsFrom a.l a.heavy t.rests vs own k) e (t.invariant row vs own path))
