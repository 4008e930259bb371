-- What the tactics leave open of `vt::Weights::of`.
use Rattle.std.proofs.Common.{◌≡◌, ◌<◌, ℕ, List, get_or, refl, ap, ◌∙◌, arith}
use Rattle.vt.specs.Weights.{weight}
use Rattle.vt.proofs.Weighing.{weight-at, weight-ones, weight-total, byte-ones, byte-total}
use Rattle.vt.proofs.Weights.of.Goals as goal

pub returns : goal.returns
returns c =
    let b : ℕ = c.args.b in
    let small : b < 256 = omega arith in
    let read : c.from-v.result ≡ weight b =
    c.from-v.ensures ∙ ap (λ (t : List ℕ). get_or t c.from.result 0) c.args.self.now.is_table ∙ rw c.from.ensures (weight-at b small) in
    rw (read, weight-ones b, weight-total b) ((refl, byte-total b), (refl, byte-ones b))
