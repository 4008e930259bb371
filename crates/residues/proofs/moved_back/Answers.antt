-- `residues::moved_back` meets its contract: what is taken off is put on up to the modulus. Assumes nothing.
use Rattle.std.proofs.Common.{◌≡◌, ℕ, ◌+◌, ◌/◌, ◌%◌, ◌^◌, subst}
use Rattle.residues.proofs.Words.{back_again}
use Rattle.residues.proofs.moved_back.Goals as goal

pub returns : goal.returns
returns c n h =
    let a = c.args in
    subst (λ (v : ℕ). c.moved_on.result / 2 ^ v % 2 ≡ 1) (back_again a.m n a.by c.requires.0)
    (c.moved_on.ensures (n + a.by) h)
