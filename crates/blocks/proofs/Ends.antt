-- A row whose block has lost all its bits: what its open cells bring to the block's sum is what the rest of the block
-- leaves. Rests on Cutting. Assumes nothing.
use Prim.Native.Nat.{ℕ, ◌+◌, ◌*◌, ◌%◌, ◌<◌, ◌≤◌}
use mathlib.Core.Path.{◌≡◌, sym, ap, ◌∙◌}
use mathlib.Core.List.{List}
use mathlib.Core.Logic.{⊎_elim}
use native.Mathlib.Nat.{mod-add-mod, mul-one}
use lib.ListN.{get_or}
use Rattle.bits.proofs.Laws.{lt_or_ge}
use Rattle.vt.specs.Sum.{sum}
use Rattle.message.specs.declared.Layout.{Layout}
use Rattle.lines.specs.Lines.{line}
use Rattle.lines.proofs.Lines.{line_same}
use Rattle.lines.proofs.Turns.{sum_of_total}
use Rattle.cells.specs.declared.Cells.{Cells}
use Rattle.weigh.specs.Weigh.{brought}
use Rattle.blocks.specs.Blocks.{bare, own_of, block_total, CutOut, Ended}
use Rattle.blocks.specs.declared.Cut.{Cut}
use Rattle.blocks.proofs.Cutting.{bare-same, open_in}

module _ {l : Layout} {y numbers : List ℕ} {cells : Cells} {row : List ℕ} {i end j : ℕ} {vs : List ℕ}
    (e : Ended l y numbers cells row i end j vs) (out : List ℕ)
    (others : (c : ℕ) → c < j → c < l.l2 → get_or out (i * l.l2 + c) 0 ≡ get_or row (i * l.l2 + c) 0)
    (later : (c : ℕ) → j ≤ c → c < l.l2 → get_or vs (i * l.l2 + c) 0 ≡ get_or out (i * l.l2 + c) 0) where
  -- with zeros for the open cells the row in hand and the row are alike in the block
  bare-line : line l.nc (i * l.l2) 1 l.l2 (bare l cells i 12 out)
      ≡ line l.nc (i * l.l2) 1 l.l2 (bare l cells i 12 vs)
  bare-line =
      line_same l.nc (i * l.l2) 1 l.l2 _ _
      (λ t h.
      rw (mul-one t)
      (bare-same l cells i 12 t out vs
      (λ none.
      ⊎_elim
      (λ (b : t < j).
      ⊎_elim
      (λ o. absurd (none o.0 o.1.0.0 (open_in l cells i o.0 o.1.0 o.1.1.0) o.1.1.1))
      (λ q. others t b h ∙ sym q)
      (e.decided t b h))
      (λ (b : j ≤ t). sym (later t b h))
      (lt_or_ge t j))))

  -- the sum of the rest and what the cells bring are the block's sum
  pub ended_brings : (cut : Cut) → CutOut l y cells i 12 cut
      → (sum (line l.nc (i * l.l2) 1 l.l2 (bare l cells i 12 out))
      + brought l.nc cut.chunks.block (own_of l i cut vs) cut.chunks.n)
      % (l.l2 * l.nc + 1)
      ≡ get_or numbers i 0
  ended_brings cut c =
      let m : ℕ = l.l2 * l.nc + 1 in
      let b : ℕ = brought l.nc cut.chunks.block (own_of l i cut vs) cut.chunks.n in
      ap (λ (n : ℕ). (n + b) % m)
      (ap sum bare-line ∙ sym (sum_of_total l.nc (i * l.l2) 1 l.l2 (bare l cells i 12 vs)))
      ∙ mod-add-mod (block_total l i (bare l cells i 12 vs)) m b
      ∙ ap (λ (n : ℕ). n % m) (c.whole vs)
      ∙ sum_of_total l.nc (i * l.l2) 1 l.l2 vs
      ∙ e.has_sum
