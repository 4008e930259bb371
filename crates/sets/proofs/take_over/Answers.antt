-- What the tactics leave open of `sets::take_over`.
use Rattle.std.proofs.Common.{◌≡◌, ℕ, ◌+◌, ◌*◌, ◌/◌, ◌%◌, ◌<◌, ◌++◌, get_or, drop, arith, refl, get_or-take, length-take}
use Rattle.std.proofs.lemmas.Grind.{common_steps}
use Rattle.sets.specs.Sets.{In, Twice}
use Rattle.sets.proofs.Sets.{word_in, below_word, rest_has}
use Rattle.sets.proofs.take_over.Goals as goal

-- behind the whole words, the last one is taken over too
pub returns : goal.returns
returns c =
    let a = c.args in
    let e : ℕ = a.m / 64 in
    let was = c.loop-i.invariant in
    let put = c.put_twice-2.ensures in
    let last : get_or (c.loop-i.w-items ++ drop e a.other.now) e 0 ≡ get_or a.other.now e 0 =
    grind (arith, common_steps) in
    λ r h.
    below_word (λ (v : ℕ). In a.other.now v → Twice a.m c.put_twice-2.new.set v) e (a.m % 64)
    (λ v g x.
    let k : v / 64 < e = omega arith in
    let both = was.over v (omega (arith, length-take {A = ℕ})) (rw get_or-take x) in (put.0 v both.0, put.0 (a.m + v) both.1))
    (λ b g x.
    put.1 b (omega arith)
    (rest_has a.m _ b g (rw last (word_in a.other.now e b (64 * e + b) (omega arith) refl x))))
    r (omega arith)
