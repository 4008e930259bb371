-- What the anchor is good for: a bound on the chunks in which a consistent row can differ from it, by the row's own
-- losses; that a consistent row which differs in at most r chunks is the anchor; and that an anchor stays one while the
-- rows held grow. Rests on the laws of greedy matching (consistent), of lines and of steps (found). Assumes nothing.
use Prim.Native.Nat.{ℕ, zero, suc, ◌+◌, ◌-◌, ◌*◌, ◌<◌, ◌≤◌}
use mathlib.Core.Path.{◌≡◌, refl, sym, ap, ap₂, ◌∙◌, subst}
use mathlib.Core.Bool.{Bool, true, cond}
use mathlib.Core.List.{List}
use mathlib.Core.Logic.{◌⊎◌, inl, inr}
use native.Mathlib.Nat.{add-mul, zero-add, zero-mul, one-mul, mul_assoc, mul-le-mul_right}
use native.Mathlib.Omega.{arith}
use borrow.Author.Tests.{eq-eqb, eqb-true, leb-true, le-ltb}
use lib.Dec.{eqb, leb}
use lib.ListN.{length, get_or, take, drop, length-drop, length-map}
use lib.Seq.{length-take-le, take_all, get_or-take, get_or-drop}
use Rattle.bits.specs.Bits.{most_chunks, cut, number, bytes_for, unpack}
use Rattle.bits.proofs.Laws.{lt_or_ge, both_left, both_right, number-take}
use Rattle.field.specs.Field.{check}
use Rattle.field.proofs.Double.{size_low}
use Rattle.rows.specs.Held.{Held, Known}
use Rattle.rows.specs.declared.Kept.{Kept}
use Rattle.rows.proofs.Held.{known-stays}
use Rattle.rows.proofs.Slice.{length_cut}
use Rattle.message.specs.Layout.{row_bits}
use Rattle.message.specs.Message.{checks}
use Rattle.message.specs.declared.Layout.{Layout}
use Rattle.message.proofs.Cutting.{each_number}
use Rattle.message.proofs.Fields.{field_room}
use Rattle.message.proofs.Legal.{Bounds, legal_bounds}
use Rattle.consistent.specs.Consistent.{most_losses}
use Rattle.consistent.specs.Greedy.{losses, in_all}
use Rattle.consistent.proofs.Greedy.{piece, whole, comes-losses}
use Rattle.consistent.proofs.Shift.{lost-most, lost-more, piece_loses}
use Rattle.erasures.proofs.Anchor.{same_row}
use Rattle.lines.specs.Lines.{values, line, unlike}
use Rattle.lines.proofs.Lines.{length-values, value-at, value_low, row_line}
use Rattle.consistent.specs.Query.{Query}
use Rattle.found.specs.Given.{Given, Sent, HoldsSent, AddsSent, held_sent}
use Rattle.found.proofs.Sent.{sent_parts}
use Rattle.found.proofs.Steps.{grown_rows}
use Rattle.anchor.specs.Anchor.{over, lost_before, Reads, desk_size, near_at, later_at, wide, Prepared, is_set}
use Rattle.anchor.specs.Anchor.{Anchor, Anchors, OwnCounts, LightInHand, BlockMost}
use Rattle.anchor.proofs.Desk.{blocks_split}
use Rattle.anchor.proofs.Over.{most-one, over_none, over_front, over-same, over-lost, weight-unlike}
use Rattle.anchor.proofs.Totals.{total-next}

-- a consistent row under the first i counts of a pattern differs from the anchor in at most m chunks of the first b
-- blocks
abbrev pub Counted : Query → (desk counts row : List ℕ) (i b m : ℕ) → Type 0
Counted q desk counts row i b m =
    let l = q.layout in
    let y = q.received in
    (vs x : List ℕ) → Prepared l y vs desk → Sent q x → OwnCounts l y counts i x → LightInHand l counts i row x
    → over (unlike (values l x) vs) 0 (b * l.l2) ≤ m

module _ {q : Query} (given : Given q) where
  abbrev l : Layout
  l = q.layout

  abbrev y : List ℕ
  y = q.received

  bounds : Bounds l
  bounds = legal_bounds l given.is_legal

  -- check i of a row
  check-at : (x : List ℕ) (i : ℕ) → i < l.r → get_or (checks l x) i 0 ≡ check l.nc i (values l x)
  unfolding checks values
  check-at x i h = each_number (λ (i : ℕ). check l.nc i (values l x)) l.r i h

  -- where there are checks, two consistent rows that differ in at most r chunks are one
  only_one : 0 < l.r → (x z : List ℕ) → Sent q x → Sent q z
      → over (unlike (values l x) (values l z)) 0 (l.l1 * l.l2) ≤ l.r → x ≡ z
  only_one some x z sx sz few =
      let b = bounds in
      let lx = length-values l x in
      let n : length (values l x) ≡ length (values l z) = lx ∙ sym (length-values l z) in
      let sums = (sent_parts given x sx).sums-checks ∙ sym (sent_parts given z sz).sums-checks in
      let e : values l x ≡ values l z =
      same_row l.nc b.nc_low b.nc_high l.r (values l x) (values l z) n
      (omega (arith, b.field some, size_low l.nc b.nc_low))
      (value_low l x sx.0) (value_low l z sz.0)
      (omega (arith, weight-unlike (values l x) (values l z) n, ap (over (unlike (values l x) (values l z)) 0) lx))
      (λ i h. sym (check-at x i h) ∙ ap (λ (v : List ℕ). get_or v i 0) sums ∙ check-at z i h)
      in
      sym (row_line l x sx.0) ∙ ap (line l.nc 0 1 (l.l1 * l.l2)) e ∙ row_line l z sz.0

  module _ (x : List ℕ) (sent : Sent q x) where
    abbrev lost : ℕ → ℕ
    lost = lost_before l y x

    chunk-room : (c : ℕ) → c < l.l1 * l.l2 → c * l.nc + l.nc ≤ length x
    chunk-room c h = omega (arith, field_room (l.l1 * l.l2) l.nc c h, sent.0.0)

    lost-next : (c : ℕ) → lost (c + 1) ≡ losses (take (c * l.nc + l.nc) x) y
    lost-next c =
        let e : (c + 1) * l.nc ≡ c * l.nc + l.nc = omega (arith, add-mul c 1 l.nc, one-mul l.nc) in
        ap (λ (n : ℕ). losses (take n x) y) e

    lost-grows : (c : ℕ) → c < l.l1 * l.l2 → lost c ≤ lost (c + 1)
    lost-grows c h = omega (arith, lost-next c, lost-more x y (c * l.nc) l.nc (omega (arith, chunk-room c h)))

    lost-up : (c n : ℕ) → c + n ≤ l.l1 * l.l2 → lost c ≤ lost (c + n)
    lost-up c zero h = let e : lost (c + 0) ≡ lost c = ap lost (omega arith) in omega arith
    lost-up c (suc n) h =
        let e : lost (c + suc n) ≡ lost (c + n + 1) = ap lost (omega arith) in
        omega (arith, lost-up c n (omega arith), lost-grows (c + n) (omega arith))

    lost-all : lost (l.l1 * l.l2) ≡ row_bits l - length y
    lost-all =
        ap (λ (z : List ℕ). losses z y) (take_all (row_bits l) x (omega (arith, sent.0.0)))
        ∙ comes-losses x (row_bits l - length y) y (sent_parts given x sent).comes

    -- a chunk that lost no bit stands in the received row, as many places before its own as bits were lost before it
    reads-own : (c v : ℕ) → c < l.l1 * l.l2 → lost (c + 1) ≤ lost c → Reads l.nc y c v (lost c)
        → get_or (values l x) c 0 ≡ v
    reads-own c v h e r =
        let s : ℕ = c * l.nc in
        let d : ℕ = lost c in
        let p : List ℕ = take l.nc (drop s x) in
        let room = chunk-room c h in
        let none : losses p (drop (s - d) y) ≡ 0 =
        piece_loses x y s l.nc d 0 (omega arith) refl (omega (arith, lost-next c, lost-grows c h))
        in
        let long : length p ≡ l.nc = length-take-le l.nc (drop s x) (omega (arith, length-drop s x)) in
        let there = (piece l.nc 0 p (drop (s - d) y) long none).within in
        let same : p ≡ take l.nc (drop (s - d) y) =
        whole p (drop (s - d) y) none ∙ ap (λ (n : ℕ). take n (drop (s - d) y)) long in
        value-at l x c h
        ∙ sym (number-take l.nc (drop s x))
        ∙ ap (number l.nc) same
        ∙ number-take l.nc (drop (s - d) y)
        ∙ r (lost-most x y s (omega arith))
        (omega (arith, length-drop (s - d) y, bounds.nc_low, lost-most x y s (omega arith)))

    module _ (vs desk : List ℕ) (ready : Prepared l y vs desk) where
      -- one chunk: it differs where it can although it lost no bit, or it lost one
      chunk-bound : (c d a : ℕ) → c < l.l1 * l.l2 → d ≤ most_losses → d ≤ lost c → lost (c + 1) ≤ d + a
          → unlike (values l x) vs c + lost c ≤ wide desk d a c + lost (c + 1)
      chunk-bound c d a h m lo hi = go (lt_or_ge (lost c) (lost (c + 1))) (lt_or_ge a (get_or desk (near_at c d) 0))
        where
          one : unlike (values l x) vs c ≤ 1
          one = most-one (eqb (get_or (values l x) c 0) (get_or vs c 0))

          go : (lost c < lost (c + 1)) ⊎ (lost (c + 1) ≤ lost c)
              → (a < get_or desk (near_at c d) 0) ⊎ (get_or desk (near_at c d) 0 ≤ a)
              → unlike (values l x) vs c + lost c ≤ wide desk d a c + lost (c + 1)
          go (inl i) w = omega (arith, one)
          go (inr i) (inl w) =
              let e = reads-own c (get_or vs c 0) h i (ready.near c d (lost c) h m lo (omega (arith, lost-grows c h))) in
              rw (eq-eqb (get_or (values l x) c 0) (get_or vs c 0) e) (omega (arith, lost-grows c h))
          go (inr i) (inr w) = rw (le-ltb a (get_or desk (near_at c d) 0) w) (omega (arith, one, lost-grows c h))

      -- neighbouring chunks from chunk c on, with at least d losses before them and at most d + a up to their end
      range-bound : (c n d a : ℕ) → c + n ≤ l.l1 * l.l2 → d ≤ most_losses → d ≤ lost c → lost (c + n) ≤ d + a
          → over (unlike (values l x) vs) c n + lost c ≤ over (wide desk d a) c n + lost (c + n)
      range-bound c n d a h m lo hi =
          over-lost (unlike (values l x) vs) (wide desk d a) lost c n
          (λ t k.
          let rest : lost (c + t + 1 + (n - (t + 1))) ≡ lost (c + n) = ap lost (omega arith) in
          chunk-bound (c + t) d a (omega arith) m (omega (arith, lost-up c t (omega arith)))
          (omega (arith, lost-up (c + t + 1) (n - (t + 1)) (omega arith))))

      -- a block in which a bits are lost, two or more
      pub heavy_bound : (b d a : ℕ) → b < l.l1 → d ≤ most_losses → lost (b * l.l2) ≡ d → lost (b * l.l2 + l.l2) ≡ d + a
          → over (unlike (values l x) vs) (b * l.l2) l.l2 ≤ over (wide desk d a) (b * l.l2) l.l2 + a
      heavy_bound b d a h m lo hi =
          omega (
            arith,
            range-bound (b * l.l2) l.l2 d a (field_room l.l1 l.l2 b h) m (omega arith) (omega arith),
          )

      -- all blocks from block i on
      pub later_bound : (i d : ℕ) → i ≤ l.l1 → lost (i * l.l2) ≡ d
          → over (unlike (values l x) vs) (i * l.l2) ((l.l1 - i) * l.l2)
          ≤ get_or desk (later_at i d) 0 + (row_bits l - length y - d)
      later_bound i d h e =
          let split : i * l.l2 + (l.l1 - i) * l.l2 ≡ l.l1 * l.l2 = blocks_split l.l1 l.l2 i h in
          let end : lost (i * l.l2 + (l.l1 - i) * l.l2) ≡ row_bits l - length y = ap lost split ∙ lost-all in
          let up = lost-up (i * l.l2) ((l.l1 - i) * l.l2) (omega arith) in
          let n : ℕ = (l.l1 - i) * l.l2 in
          let bound = range-bound (i * l.l2) n d (row_bits l - length y - d) (omega arith) (omega (arith, given.few)) in
          omega (arith, ready.later i d h (omega (arith, given.short)), bound (omega arith) (omega arith))

  -- ---- a row under the first i counts of a pattern
  module _ (desk counts row : List ℕ) (i : ℕ) where
    pub counted_none : Counted q desk counts row i 0 0
    counted_none vs x p s o h = rw (zero-mul l.l2, over_none (unlike (values l x) vs) 0) (omega arith)

    -- its losses before block b
    own_at : (x : List ℕ) → OwnCounts l y counts i x → (b : ℕ) → b ≤ i
        → lost_before l y x (b * l.l2) ≡ in_all (take b counts)
    own_at x o b h = ap (λ (n : ℕ). losses (take n x) y) (mul_assoc b l.l2 l.nc) ∙ o b h

    -- one block more
    pub counted_next : (b m n : ℕ) → b < i → i ≤ length counts
        → BlockMost q desk row b (in_all (take b counts)) (get_or counts b 0) n
        → Counted q desk counts row i b m → Counted q desk counts row i (b + 1) (m + n)
    counted_next b m n h k more c vs x p s o r =
        let f = unlike (values l x) vs in
        let e : b * l.l2 + l.l2 ≡ (b + 1) * l.l2 = omega (arith, add-mul b 1 l.l2, one-mul l.l2) in
        let end : lost_before l y x (b * l.l2 + l.l2) ≡ in_all (take b counts) + get_or counts b 0 =
        ap (lost_before l y x) e ∙ own_at x o (b + 1) (omega arith) ∙ total-next counts b (omega arith)
        in
        let here = more vs x p s (own_at x o b (omega arith)) end (λ q j z. r b j h z q) in
        let all = over_front f (b * l.l2) l.l2 in
        rw (← e) (omega (arith, c vs x p s o r))

    -- all of its chunks: a row that differs from the anchor in at most r of them is the anchor
    pub counted-known : (m : ℕ) → i ≤ l.l1 → Counted q desk counts row i i m
        → m + get_or desk (later_at i (in_all (take i counts))) 0 + (row_bits l - length y - in_all (take i counts)) ≤ l.r
        → (held : Held) (x : List ℕ) → Anchor q held desk → Sent q x → OwnCounts l y counts i x
        → LightInHand l counts i row x → Known held x
    counted-known m h c few held x a s o r =
        let z = a.row in
        let f = unlike (values l x) (values l z) in
        let front = c (values l z) x a.prepared s o r in
        let back =
        later_bound x s (values l z) desk a.prepared i (in_all (take i counts)) h (own_at x o i (omega arith)) in
        let split = over_front f (i * l.l2) ((l.l1 - i) * l.l2) in
        let all : over f 0 (l.l1 * l.l2) ≤ l.r = rw (← blocks_split l.l1 l.l2 i h) (omega arith) in
        subst (Known held) (sym (only_one a.some-checks x z s a.sent all)) a.known

-- a block in hand is compared with the anchor's chunks on the desk
pub light_bound : (l : Layout) (y vs desk part us row : List ℕ) (b : ℕ) → l.l1 * l.l2 ≤ most_chunks
    → Prepared l y vs desk → part ≡ take most_chunks (drop 1 desk) → b < l.l1
    → ((j : ℕ) → j < l.l2 → get_or us (b * l.l2 + j) 0 ≡ get_or row (b * l.l2 + j) 0)
    → over (unlike us vs) (b * l.l2) l.l2 ≡ over (unlike row part) (b * l.l2) l.l2
light_bound l y vs desk part us row b few ready e h same =
    over-same (unlike us vs) (unlike row part) (b * l.l2) l.l2
    (λ t k.
    let c : ℕ = b * l.l2 + t in
    let room = field_room l.l1 l.l2 b h in
    let v : get_or vs c 0 ≡ get_or part c 0 =
    sym (ready.chunks c (omega arith))
    ∙ sym (ap (λ (s : List ℕ). get_or s c 0) e
    ∙ get_or-take most_chunks (drop 1 desk) c 0 (omega arith) ∙ get_or-drop 1 desk c 0)
    in
    ap₂ (λ (p q : ℕ). cond (eqb p q) 0 1) (same t k) v)

-- ---- the first row of the list slice
abbrev pub first_row : Layout → List ℕ → List ℕ
first_row l list = take (row_bits l) (unpack (take (bytes_for (row_bits l)) list))

module _ (q : Query) {cap : ℕ} {list : List ℕ} where
  held_at : (c : ℕ) (m : Bool) → 0 < c → HoldsSent q cap list (record { count = c; more = m })
      → Sent q (first_row q.layout list)
      × Known (held_sent q list (record { count = c; more = m })) (first_row q.layout list)
  unfolding cut
  held_at zero m h k = absurd (omega arith)
  held_at (suc c) m h k = (k.well.each (first_row q.layout list) (inl refl), inl (inl refl))

  -- it is a consistent row, and is known
  pub first_held : (kept : Kept) → 0 < kept.count → HoldsSent q cap list kept
      → Sent q (first_row q.layout list) × Known (held_sent q list kept) (first_row q.layout list)
  first_held kept = held_at kept.count kept.more

  -- and stands in the slice
  pub first-room : (kept : Kept) → 0 < kept.count → HoldsSent q cap list kept → bytes_for (row_bits q.layout) ≤ length list
  first-room kept h k =
      let n = row_bits q.layout in
      let w = bytes_for n in
      let rows = length-map (cut kept.count w list) (λ (b : List ℕ). take n (unpack b)) in
      let some : 1 ≤ cap = omega (arith, k.well.at_most, length_cut w kept.count list) in
      omega (arith, k.room, mul-le-mul_right w some, one-mul w)

-- ---- a desk on which nothing is written has none
pub anchored_none : {q : Query} {held : Held} (desk : List ℕ) → get_or desk 0 0 ≡ 0 → is_set desk ≡ true → Anchor q held desk
anchored_none desk e s =
    absurd (omega (arith, eqb-true (get_or desk 0 0) 1 (both_right (leb desk_size (length desk)) (eqb (get_or desk 0 0) 1) s)))

-- ---- a desk that has an anchor is long enough for one
pub set_long : (desk : List ℕ) → is_set desk ≡ true → desk_size ≤ length desk
set_long desk e = leb-true desk_size (length desk) (both_left (leb desk_size (length desk)) (eqb (get_or desk 0 0) 1) e)

-- ---- a consistent row that differs from the anchor's chunks z in at most r of them is known
pub near-known : {q : Query} {held : Held} {desk : List ℕ} → Given q → Anchor q held desk
    → (z : List ℕ) → ((c : ℕ) → c < q.layout.l1 * q.layout.l2 → get_or z c 0 ≡ get_or desk (1 + c) 0)
    → (x : List ℕ) → Sent q x
    → over (unlike (values q.layout x) z) 0 (q.layout.l1 * q.layout.l2) ≤ q.layout.r → Known held x
near-known {q} {held = held} given a z e x sent few =
    let l = q.layout in
    let chunk : (c : ℕ) → c < l.l1 * l.l2 → unlike (values l x) z c ≡ unlike (values l x) (values l a.row) c =
    λ c h. ap (λ (v : ℕ). cond (eqb (get_or (values l x) c 0) v) 0 1) (e c h ∙ a.prepared.chunks c h)
    in
    let same = over-same (unlike (values l x) z) (unlike (values l x) (values l a.row)) 0 (l.l1 * l.l2)
    (λ t h. rw (zero-add t) (chunk t h))
    in
    subst (Known held) (sym (only_one given a.some-checks x a.row sent a.sent (omega (arith, same)))) a.known

-- ---- an anchor stays one while the rows held grow
pub anchored_stays : {q : Query} {cap : ℕ} {P : List ℕ → Type 0} {entry exit : List ℕ} {kept now : Kept} {desk : List ℕ}
    → HoldsSent q cap entry kept → AddsSent q cap P entry kept exit now → Anchors q entry kept desk → Anchors q exit now desk
anchored_stays h g a e =
    let k = a e in
    record {
      some-checks = k.some-checks;
      row = k.row;
      sent = k.sent;
      known =
          subst (λ (s : Held). Known s k.row) (sym (grown_rows h g))
          (known-stays h.well g.found k.row k.known);
      prepared = k.prepared;
    }
