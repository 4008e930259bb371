-- The anchor: one consistent row that is held already, and what is worked out once from it, so that parts of a search
-- that hold no other row are left out. Two consistent rows have the same checks, so they differ in more than r chunks
-- or not at all. How many chunks of a row can differ from the anchor's is bounded by its losses: a chunk that lost no
-- bit stands in the received row, as many places before its own as bits were lost before it.
use Rattle.std.specs.Prelude.{ℕ, zero, suc, ◌+◌, ◌-◌, ◌*◌, ◌<◌, ◌≤◌, ◌≡◌, Bool, true, cond, ◌&&◌, List, eqb, leb, ltb, length, get_or, take, drop}
use Rattle.bits.specs.Bits.{most_chunks, most_in_line, number}
use Rattle.rows.specs.Held.{Held, Known}
use Rattle.rows.specs.declared.Kept.{Kept}
use Rattle.message.specs.Layout.{row_bits, block_bits}
use Rattle.message.specs.declared.Layout.{Layout}
use Rattle.consistent.specs.Consistent.{most_losses}
use Rattle.consistent.specs.Greedy.{losses, in_all}
use Rattle.lines.specs.Lines.{values, unlike}
use Rattle.consistent.specs.Query.{Query, query}
use Rattle.found.specs.Given.{Sent, held_sent}

-- the sum of f over n places from place c on
unfoldable pub over : (f : ℕ → ℕ) (c n : ℕ) → ℕ
over f c zero = 0
over f c (suc n) = over f c n + f (c + n)

-- the losses of the row x before its chunk c
abbrev pub lost_before : Layout → (y x : List ℕ) → ℕ → ℕ
lost_before l y x c = losses (take (c * l.nc) x) y

-- chunk c is v wherever it lost no bit and stands after t losses: if the received row has these bits, they spell v
abbrev pub Reads : (nc : ℕ) (y : List ℕ) (c v t : ℕ) → Type 0
Reads nc y c v t = t ≤ c * nc → c * nc + nc ≤ length y + t → number nc (drop (c * nc - t) y) ≡ v

-- ---- the desk, a slice of bytes: whether an anchor is set; its chunks; for each chunk and each number of losses
-- before it, how many more losses leave it the anchor's, at least; and for each number of losses and each block, how
-- many chunks from there on can be another than the anchor's although they lost no bit
abbrev pub near_from : ℕ
near_from = 1 + most_chunks

abbrev pub near_at : (c d : ℕ) → ℕ
near_at c d = near_from + c * 13 + d

abbrev pub later_from : ℕ
later_from = near_from + most_chunks * 13

abbrev pub later_at : (i d : ℕ) → ℕ
later_at i d = later_from + d * (most_in_line + 1) + i

abbrev pub desk_size : ℕ
desk_size = later_from + 13 * (most_in_line + 1)

-- 1 where chunk c can be another than the anchor's although it lost no bit, where d to d + a bits are lost before it
abbrev pub wide : (desk : List ℕ) (d a : ℕ) → ℕ → ℕ
wide desk d a c = cond (ltb a (get_or desk (near_at c d) 0)) 0 1

-- the desk with the second part written for the first n chunks, whose numbers stand in the first part: an entry r at d
-- losses says that the chunk stays the anchor's after d to d + r - 1 losses
pub record NearFor (nc : ℕ) (y : List ℕ) (n : ℕ) (entry exit : List ℕ) : Type 0 where
  pub size : length exit ≡ length entry
  pub before : (q : ℕ) → q < near_from → get_or exit q 0 ≡ get_or entry q 0
  pub near : (c d t : ℕ) → c < n → d ≤ most_losses → d ≤ t → t < d + get_or exit (near_at c d) 0
      → Reads nc y c (get_or entry (1 + c) 0) t

-- the desk with the third part written for fewer than n losses, where k are lost in all
pub record LaterFor (l : Layout) (k n : ℕ) (entry exit : List ℕ) : Type 0 where
  pub size : length exit ≡ length entry
  pub before : (q : ℕ) → q < later_from → get_or exit q 0 ≡ get_or entry q 0
  pub later : (i d : ℕ) → i ≤ l.l1 → d < n
      → get_or exit (later_at i d) 0 ≡ over (wide entry d (k - d)) (i * l.l2) ((l.l1 - i) * l.l2)

-- the desk is prepared for a row with the chunks vs
pub record Prepared (l : Layout) (y vs desk : List ℕ) : Type 0 where
  pub chunks : (c : ℕ) → c < l.l1 * l.l2 → get_or desk (1 + c) 0 ≡ get_or vs c 0
  pub near : (c d t : ℕ) → c < l.l1 * l.l2 → d ≤ most_losses → d ≤ t → t < d + get_or desk (near_at c d) 0
      → Reads l.nc y c (get_or vs c 0) t
  pub later : (i d : ℕ) → i ≤ l.l1 → d + length y ≤ row_bits l → get_or desk (later_at i d) 0
      ≡ over (wide desk d (row_bits l - length y - d)) (i * l.l2) ((l.l1 - i) * l.l2)

-- the desk has an anchor
abbrev pub is_set : List ℕ → Bool
is_set desk = leb desk_size (length desk) && eqb (get_or desk 0 0) 1

-- the anchor is a consistent row that is known, and the desk is prepared for it. There is one only where the message has
-- checks: without them two consistent rows may differ in any one chunk
pub record Anchor (q : Query) (held : Held) (desk : List ℕ) : Type 0 where
  pub some-checks : 0 < q.layout.r
  pub row : List ℕ
  pub sent : Sent q row
  pub known : Known held row
  pub prepared : Prepared q.layout q.received (values q.layout row) desk

-- what holds of the desk at any time: if it has an anchor, that is known by the rows in the list slice
abbrev pub Anchors : Query → (list : List ℕ) → Kept → (desk : List ℕ) → Type 0
Anchors q list kept desk = is_set desk ≡ true → Anchor q (held_sent q list kept) desk

-- the same over the layout, the numbers and the received bits one by one
abbrev pub Anchored : (l : Layout) (numbers y : List ℕ) (held : Held) (desk : List ℕ) → Type 0
Anchored l numbers y held desk = is_set desk ≡ true → Anchor (query l numbers y) held desk

-- ---- a row x under the first i counts of a loss pattern
-- they are its own losses, block by block
abbrev pub OwnCounts : Layout → (y counts : List ℕ) (i : ℕ) (x : List ℕ) → Type 0
OwnCounts l y counts i x = (b : ℕ) → b ≤ i → losses (take (b * block_bits l) x) y ≡ in_all (take b counts)

-- and its blocks with none or one loss are those in hand
abbrev pub LightInHand : Layout → (counts : List ℕ) (i : ℕ) (row x : List ℕ) → Type 0
LightInHand l counts i row x =
    (b j : ℕ) → b < i → j < l.l2 → get_or counts b 0 ≤ 1 → get_or (values l x) (b * l.l2 + j) 0 ≡ get_or row (b * l.l2 + j) 0

-- a consistent row that loses d bits before block b and a in it, and has the block in hand if a is at most 1, differs
-- from the anchor in at most m chunks of the block
abbrev pub BlockMost : Query → (desk row : List ℕ) (b d a m : ℕ) → Type 0
BlockMost q desk row b d a m =
    let l = q.layout in
    let y = q.received in
    (vs x : List ℕ) → Prepared l y vs desk → Sent q x → lost_before l y x (b * l.l2) ≡ d
    → lost_before l y x (b * l.l2 + l.l2) ≡ d + a
    → (a ≤ 1 → (j : ℕ) → j < l.l2 → get_or (values l x) (b * l.l2 + j) 0 ≡ get_or row (b * l.l2 + j) 0)
    → over (unlike (values l x) vs) (b * l.l2) l.l2 ≤ m
