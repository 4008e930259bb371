-- What the tactics leave open of `sets::put_in`.
use Rattle.std.proofs.Common.{◌≡◌, ℕ, ◌+◌, ◌*◌, arith}
use Rattle.sets.specs.Sets.{In}
use Rattle.sets.proofs.Sets.{below_word}
use Rattle.sets.proofs.put_in.Goals as goal

-- a word more is passed
pub loop-i-preserved : goal.loop-i-preserved
loop-i-preserved c =
    let a = c.args in
    let i : ℕ = c.loop-i.i in
    let was = c.loop-i.invariant in
    let put = c.add_word.ensures in
    record {
      grows = λ r x. put.0 r (was.grows r x);
      put = λ k h.
          below_word (λ (v : ℕ). In a.from.now (a.a + v) → In c.add_word.new.set v) i 64
          (λ v g x. put.0 v (was.put v g x))
          (λ b g x.
          let e : a.a + (64 * i + b) ≡ a.a + 64 * i + b = omega arith in
          put.1 b g (c.word_at.ensures b g (rw e at x)))
          k (omega arith);
    }
