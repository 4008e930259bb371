-- Cells found one after another: each that is found takes its losses away, and what is listed afterwards is listed of the
-- rows under the state before. Assumes nothing.
use Prim.Native.Nat.{ℕ, ◌<◌, ◌≤◌}
use mathlib.Core.Path.{◌≡◌, refl, sym, ap, ◌∙◌, subst}
use mathlib.Core.Bool.{Bool, true, false, true≢false, false≢true}
use mathlib.Core.List.{List}
use native.Mathlib.Omega.{arith}
use lib.ListN.{length, get_or}
use Rattle.message.specs.declared.Layout.{Layout}
use Rattle.consistent.specs.Greedy.{in_all}
use Rattle.found.specs.Found.{Holding, Grown}
use Rattle.found.proofs.Found.{grown_nothing, grown_weaken}
use Rattle.cells.specs.Cells.{OpenAt, Placed, SameBut, Under}
use Rattle.cells.specs.declared.Cells.{Cells}
use Rattle.cells.proofs.Same.{same_trans, same_wider, still_open}
use Rattle.cells.proofs.Shares.{all_found}
use Rattle.cells.proofs.State.{placed-found}
use Rattle.turns.specs.Turns.{Found, Advanced}
use Rattle.turns.specs.declared.Turn.{Turn}

module _ {l : Layout} {numbers y : List ℕ} {cells : Cells} {row : List ℕ} {t : Turn} {held : List ℕ}
    (a : Advanced l numbers y cells row t held) where
  -- open losses do not get more
  no_more : in_all t.cells.lost ≤ in_all cells.lost
  no_more = go t.any refl
    where
      go : (b : Bool) → t.any ≡ b → in_all t.cells.lost ≤ in_all cells.lost
      go true e = omega (arith, a.fewer e)
      go false e = omega (arith, ap (λ (c : Cells). in_all c.lost) (a.unchanged e))

  -- what changes only chunks of cells that are open now has changed only chunks of cells that were open at first
  pub same_after : {exit : List ℕ} → SameBut l (OpenAt t.cells) held exit → SameBut l (OpenAt cells) row exit
  same_after s = same_trans a.same (same_wider (λ i c h g. a.still i c) s)

  -- ---- the next cell is found
  module _ {z : ℕ} {r : Turn} {exit : List ℕ} (h : 0 < get_or t.cells.lost z 0)
      (f : Found l numbers y t.cells z held r exit) where
    pub falls : in_all r.cells.lost < in_all t.cells.lost
    falls = omega (arith, ap (λ (c : Cells). in_all c.lost) f.closed, all_found t.cells.lost z)

    pub advanced_next : Advanced l numbers y cells row r exit
    advanced_next =
        record {
          keeps = λ x s u. f.keeps x s (a.keeps x s u).1;
          unchanged = λ e. absurd (true≢false (sym f.any ∙ e));
          fewer = λ e. omega (arith, falls, no_more);
          placed =
              subst (λ (c : Cells). Placed l (length y) c) (sym f.closed)
              (placed-found l (length y) t.cells z a.placed);
          still = λ i c o.
              a.still i c (still_open t.cells z i c (subst (λ (d : Cells). OpenAt d i c) f.closed o));
          same = same_after f.same;
        }

  -- ---- what is listed
  module _ {cap : ℕ} {entry : List ℕ} {c : ℕ} {m : Bool} where
    -- nothing, where the turn fails
    pub grown_failed : Holding l numbers y cap entry c m → t.ok ≡ false
        → Grown l numbers y cap (Under l y cells row) entry c m entry c m × SameBut l (OpenAt cells) row held
    grown_failed h e = (grown_nothing h (λ x s u. false≢true (sym e ∙ (a.keeps x s u).0)), a.same)

    -- else the rows under the state that it leaves
    pub grown_advanced : {list : List ℕ} {d : ℕ} {o : Bool} {exit : List ℕ}
        → Grown l numbers y cap (Under l y t.cells held) entry c m list d o × SameBut l (OpenAt t.cells) held exit
        → Grown l numbers y cap (Under l y cells row) entry c m list d o × SameBut l (OpenAt cells) row exit
    grown_advanced g = (grown_weaken (λ x s u. (a.keeps x s u).1) g.0, same_after g.1)
