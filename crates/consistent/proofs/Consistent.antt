-- What "consistent" says, part by part, and what the list holds. Assumes nothing.
use Prim.Native.Nat.{ℕ, ◌-◌}
use mathlib.Core.Path.{◌≡◌, ap, ◌∙◌}
use mathlib.Core.Bool.{true, ◌&&◌}
use mathlib.Core.Logic.{◌↔◌}
use mathlib.Core.List.{List}
use borrow.Author.Tests.{eq-eqb, eqb-true}
use lib.Dec.{eqb}
use lib.ListN.{length}
use Rattle.bits.specs.Bits.{same}
use Rattle.bits.proofs.Laws.{both_left, both_right, same_eq, same_refl}
use Rattle.rows.specs.Deletion.{comes_from}
use Rattle.rows.specs.Order.{Mem, Ascending, Row}
use Rattle.rows.specs.Rows.{all_rows}
use Rattle.rows.proofs.Order.{rows-ascending, keep-ascending, kept_row, row_kept}
use Rattle.message.specs.Message.{message}
use Rattle.message.specs.Read.{layout_of}
use Rattle.consistent.specs.Consistent.{bits_of, yields, consistent, the_list}

-- the three parts
pub record Consistent (s : List ℕ) (m : ℕ) (y x : List ℕ) : Type 0 where
  pub long : length x ≡ bits_of s
  pub comes : comes_from x (bits_of s - m) y ≡ true
  pub own : message (layout_of s) x ≡ s

own-yields : (s x : List ℕ) → message (layout_of s) x ≡ s → yields s x ≡ true
unfolding yields
own-yields s x e = ap (λ (t : List ℕ). same t s) e ∙ same_refl s

module _ (s : List ℕ) (m : ℕ) (y x : List ℕ) where
  pub of_consistent : consistent s m y x ≡ true → Consistent s m y x
  unfolding consistent yields
  of_consistent e =
      let n = eqb (length x) (bits_of s) in
      let c = comes_from x (bits_of s - m) y in
      let two = both_left (n && c) (yields s x) e in
      record {
        long = eqb-true (length x) (bits_of s) (both_left n c two);
        comes = both_right n c two;
        own = same_eq (message (layout_of s) x) s (both_right (n && c) (yields s x) e);
      }

  pub is_consistent : Consistent s m y x → consistent s m y x ≡ true
  unfolding consistent
  is_consistent c = rw (eq-eqb (length x) (bits_of s) c.long, c.comes) (own-yields s x c.own)

  -- "exactly the rows that have the length given by the message's layout, that yield this message, and from which the
  -- received row comes by deleting bits"
  pub list_exact : Mem x (the_list s m y) ↔ (Row (bits_of s) x × (consistent s m y x ≡ true))
  unfolding the_list
  list_exact = (kept_row (bits_of s) (consistent s m y) x, λ h. row_kept (bits_of s) (consistent s m y) x h.0 h.1)

-- "in dictionary order and each once"
pub list_ascending : (s : List ℕ) (m : ℕ) (y : List ℕ) → Ascending (the_list s m y)
unfolding the_list
list_ascending s m y = keep-ascending (consistent s m y) (all_rows (bits_of s)) (rows-ascending (bits_of s))
