use Rattle.std.proofs.Common.{◌≡◌, ℕ, ◌+◌, min, length, drop, ap, ◌∙◌, arith}
use borrow.Author.Rules.{part_to_end}
use Rattle.rowtext.specs.Input.{length_at}
use Rattle.rowtext.proofs.Parts.{split_at}
use Rattle.rowtext.proofs.input.split.Goals as goal

pub returns : goal.returns
returns c =
    let s = c.args.s.now in
    let k = c.length_at-length.result in
    let from : c.min-from.result ≡ min 2 (length s) = omega (arith, c.min-from.ensures) in
    let to : c.min-to.result ≡ min (2 + k) (length s) = omega (arith, c.min-to.ensures) in
    let row : c.min-row.result ≡ min (4 + k) (length s) = omega (arith, c.min-row.ensures) in
    let end = part_to_end s c.min-to.result ∙ ap (λ (n : ℕ). drop n s) to in
    let rest = c.length_at-m.ensures.0 ∙ ap length_at end in
    rw (from, to, row) (split_at s k c.length_at-m.result c.length_at-length.ensures.0 rest)
