-- What the tactics leave open of `alike::hits`.
use Rattle.std.proofs.Common.{◌≡◌, ℕ, ◌+◌, ◌%◌, sym, ap, ◌∙◌, mod-eq_of_lt, arith}
use Rattle.std.proofs.Math.Nat.{add_comm, mod-add-mod}
use Rattle.whole.specs.Whole.{modulus, brings}
use Rattle.alike.proofs.hits.Goals as goal

-- what is missing of the sum is the residue in the set
pub returns-then-by-m : goal.returns-then-by-m
returns-then-by-m c part h =
    let a = c.args in
    let m : ℕ = modulus a.l in
    let b : ℕ = brings a.l a.y.now a.block a.end a.j a.e in
    let is : c.residue-by.result ≡ b % m = c.residue-by.ensures h.legible in
    let w : part + b ≡ b + part = add_comm part b in
    let sums : (b % m + part) % m ≡ a.sum = mod-add-mod b m part ∙ ap (λ (v : ℕ). v % m) (sym w) ∙ h.sums in
    let there : part ≡ c.missing.result =
    sym (mod-eq_of_lt h.low) ∙ c.missing.ensures.1 part (omega arith) (rw is sums) in
    c.holds.ensures (rw (← there) h.among)
