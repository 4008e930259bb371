use Rattle.std.proofs.Common.{◌≡◌, ◌↔◌, length, slice_index, EachIndex, IsTrue, ⊎_elim, rules}
use Rattle.std.proofs.lemmas.List.{get_or_past}
use Rattle.bits.proofs.Laws.{lt_or_ge}
use Rattle.tables.proofs.none_left.Goals as goal

pub returns : goal.returns
returns c =
    let left = c.args.left in
    let each : IsTrue c.all.result ↔ EachIndex left (λ k. slice_index left k ≡ 0) = search rules in (
      λ e s. ⊎_elim (λ h. each.0 e s h) (λ h. get_or_past left s 0 h) (lt_or_ge s (length left)),
      λ none. each.1 (λ k h. none k),
    )
