-- What the tactics leave open of `first::loses_one`: with the reading of the chunk taken away, what it brings is weighed.
use Rattle.std.proofs.Common.{◌≡◌, ℕ, ◌+◌, ◌-◌, ◌*◌, ◌%◌, ◌<◌, ◌≤◌, List, get_or, sym, ap, ◌∙◌, arith}
use Rattle.states.specs.States.{each, firsts, entry_at, added_up}
use Rattle.column.specs.Column.{value_at}
use Rattle.column.proofs.Rows.{crosses-readable}
use Rattle.whole.specs.Whole.{modulus}
use Rattle.states.proofs.Sums.{firsts_but, firsts-one}
use Rattle.whole.proofs.Whole.{weightOf, weights-sum, kept-legible, kept_read}
use Rattle.first.proofs.loses_one.Goals as goal

-- what is read is the entry for the losses left, and no more than all entries together
entry : (readings left : List ℕ) (n s own read : ℕ) → s < n → own ≡ get_or left s 0
    → read ≡ get_or readings (s * 13 + own) 0
    → (read ≡ get_or readings (entry_at s (get_or left s 0)) 0) × (read ≤ added_up readings (each left) n)
entry readings left n s own read h e r =
    let at : read ≡ get_or readings (entry_at s (get_or left s 0)) 0 =
    r ∙ ap (λ (v : ℕ). get_or readings (s * 13 + v) 0) e in
    (at, omega (arith, at, firsts-one (λ t. get_or readings (entry_at t (get_or left t 0)) 0) n s h))

pub overflow_sub-part : goal.overflow_sub-part
overflow_sub-part c =
    let a = c.args in
    let h = c.requires.1 in
    omega (
      arith,
      h.0.1,
      (entry a.readings.now a.left a.heavy.n a.s _ _ h.1.0 c.from.ensures c.from-reading.ensures).1,
    )

pub returns : goal.returns
returns c row vs known next light sum crosses one =
    let a = c.args in
    let p = c.requires.0 in
    let h = c.requires.1.1.0 in
    let read = entry a.readings.now a.left a.heavy.n a.s _ _ h c.from.ensures c.from-reading.ensures in
    let own = weightOf crosses in
    let but = firsts_but (λ t. get_or a.readings.now (entry_at t (get_or a.left t 0)) 0) own a.heavy.n a.s h
    (λ t k d.
    let kept = one.1 t k d in
    p.1.1.1.0 t (get_or a.left t 0) k (omega arith) (kept-legible crosses t k kept)
    ∙ sym (kept_read crosses t k kept)) in
    let e : a.part - c.from-reading.result + own a.s ≡ get_or known a.j 0 + firsts own a.heavy.n =
    omega (arith, sum, but, read.0, read.1) in
    let last : next a.s ≡ get_or a.left a.s 0 - 1 = omega (arith, one.0) in
    c.can_lose_one.ensures (value_at a.l a.heavy vs a.j a.s) (crosses.small a.s h)
    (rw last at (crosses-readable crosses a.s h)) (crosses.loses a.s h ∙ omega (arith, one.0))
    (ap (λ (v : ℕ). v % modulus a.l) e ∙ weights-sum crosses p.0 p.1.1.0 known light ∙ sym c.from-2.ensures)
