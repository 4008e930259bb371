-- The open cells of a row under a state are what the checks leave for the erased chunks. Assumes nothing.
use Prim.Native.Nat.{ℕ, ◌+◌, ◌-◌, ◌*◌, ◌/◌, ◌%◌, ◌^◌, ◌<◌, ◌≤◌}
use mathlib.Core.Path.{◌≡◌, sym, ap, ap₂, ◌∙◌}
use mathlib.Core.Logic.{◌⊎◌, inl, inr, ⊎_elim}
use mathlib.Core.List.{List}
use native.Mathlib.Nat.{mod-eq_of_lt, mod-lt, div-add-mod'}
use native.Mathlib.Omega.{arith}
use lib.Bits.{bit_xor, xor_comm}
use lib.ListN.{length, get_or, take, length-take, get_or-eq_default}
use lib.Pow.{pow_pos}
use lib.Seq.{get_or-take, get_or-drop, length-take-le, ext_get_or}
use Rattle.bits.proofs.Laws.{lt_or_ge}
use Rattle.field.specs.Field.{Elements, check}
use Rattle.field.proofs.Linear.{check_element}
use Rattle.message.specs.Message.{checks}
use Rattle.message.specs.declared.Layout.{Layout}
use Rattle.message.proofs.Cutting.{each_number}
use Rattle.message.proofs.Legal.{Bounds, legal_bounds}
use Rattle.lines.specs.Lines.{values}
use Rattle.lines.proofs.Lines.{length-values, value_low}
use Rattle.cells.specs.Cells.{Under, OpenAt}
use Rattle.cells.specs.declared.Cells.{Cells}
use Rattle.cells.proofs.State.{chunk_in_hand}
use Rattle.found.specs.Found.{Given, Sent, InHand}
use Rattle.found.proofs.Found.{sent_parts}
use Rattle.erasures.specs.Erasures.{brought, Brings, Contents}
use Rattle.erasures.proofs.Erasures.{other_summand}
use Rattle.recover.specs.Recover.{Among, Collected, PutAt, Missing}
use Rattle.recover.proofs.Filled.{filled, length-filled, filled-there, filled-other, check-filled}
use Rattle.recover.proofs.Spots.{among_or_not}

-- ---- a row that is reduced chunk by chunk
module _ (nc n : ℕ) (row base : List ℕ) (h : n ≤ length row)
    (g : (c : ℕ) → c < length (take n row) → get_or base c 0 ≡ get_or (take n row) c 0 % 2 ^ nc) where
  -- each of its first chunks is reduced
  pub reduced_at : (c : ℕ) → c < n → get_or base c 0 ≡ get_or row c 0 % 2 ^ nc
  reduced_at c low =
      let e = length-take-le n row h in
      g c (omega (arith, e)) ∙ ap (λ (v : ℕ). v % 2 ^ nc) (get_or-take n row c 0 low)

  -- so they are elements of the field
  pub reduced_elements : Elements nc (take n base)
  reduced_elements c =
      ⊎_elim
      (λ low. rw (get_or-take n base c 0 low, reduced_at c low) (mod-lt (get_or row c 0) (pow_pos nc)))
      (λ high. rw (get_or-eq_default (take n base) 0 {n = c} (omega (arith, length-take n base))) (pow_pos nc))
      (lt_or_ge c n)

-- ---- a row under a state, with n erased chunks at the places of its open cells
module _ (l : Layout) (ns y x row : List ℕ) (cells : Cells) (n : ℕ) (places : List ℕ) (given : Given l ns y)
    (sent : Sent l ns y x) (under : Under l y cells row x) (k : Collected l cells 12 n places) where
  bounds : Bounds l
  bounds = legal_bounds l given.is_legal

  abbrev place : ℕ → ℕ
  place w = get_or places w 0

  -- the contents of the erased chunks
  abbrev content : ℕ → ℕ
  content w = get_or (values l x) (place w) 0

  contents : Contents l.nc content
  contents w = value_low l x sent.0 (place w)

  -- the chunk of an open cell is erased
  erased : (c : ℕ) → OpenAt cells (c / l.l2) (c % l.l2) → Among n places c
  erased c o =
      let a = k.all o.0 o.1.0.0 o.1.0 in
      (a.0, (a.1.0, a.1.1 ∙ ap₂ (λ (i j : ℕ). i * l.l2 + j) o.1.1.0 o.1.1.1 ∙ div-add-mod' c l.l2))

  -- a chunk that is not erased is the one in hand
  kept : (c : ℕ) → c < l.l1 * l.l2 → (Among n places c → ⊥) → get_or (values l x) c 0 ≡ get_or row c 0
  kept c h none = chunk_in_hand l y cells row x under bounds.l2_low c h (λ o. none (erased c o))

  -- a check of the row is the number given
  given-check : (i : ℕ) → i < l.r → get_or ns (l.l1 + l.l2 + i) 0 ≡ check l.nc i (values l x)
  unfolding checks values
  given-check i h =
      sym (get_or-drop (l.l1 + l.l2) ns i 0)
      ∙ ap (λ (v : List ℕ). get_or v i 0) (sym (sent_parts given x sent).sums-checks)
      ∙ each_number (λ (i : ℕ). check l.nc i (values l x)) l.r i h

  check-low : (i : ℕ) → check l.nc i (values l x) < 2 ^ l.nc
  check-low i = check_element l.nc bounds.nc_low bounds.nc_high i (values l x) (value_low l x sent.0)

  -- ---- the row in hand with the erased chunks cleared, all numbers elements of the field
  module _ (blank cleared base : List ℕ) (long : l.l1 * l.l2 ≤ length base) (none : (w : ℕ) → get_or blank w 0 ≡ 0)
      (clears : PutAt n places blank row cleared)
      (reduces : (c : ℕ) → c < l.l1 * l.l2 → get_or base c 0 ≡ get_or cleared c 0 % 2 ^ l.nc) where
    -- its first numbers, one for each chunk of the row
    abbrev front : List ℕ
    front = take (l.l1 * l.l2) base

    length_front : length front ≡ l.l1 * l.l2
    length_front = length-take-le (l.l1 * l.l2) base long

    base_kept : (c : ℕ) → c < l.l1 * l.l2 → (Among n places c → ⊥) → get_or (values l x) c 0 ≡ get_or base c 0
    base_kept c h other =
        let e : get_or cleared c 0 ≡ get_or (values l x) c 0 = clears.elsewhere c other ∙ sym (kept c h other) in
        sym (reduces c h ∙ ap (λ (v : ℕ). v % 2 ^ l.nc) e ∙ mod-eq_of_lt (value_low l x sent.0 c))

    base-blank : (w : ℕ) → w < n → get_or base (place w) 0 ≡ 0
    base-blank w h =
        reduces (place w) (k.spots.inside w h)
        ∙ ap (λ (v : ℕ). v % 2 ^ l.nc) (clears.there w h ∙ none w)
        ∙ mod-eq_of_lt (pow_pos l.nc)

    inside : (w : ℕ) → w < 0 + n → place w < length front
    inside w h = omega (arith, length_front, k.spots.inside w (omega arith))

    apart : (v w : ℕ) → v < 0 + n → w < 0 + n → place v ≡ place w → v ≡ w
    apart v w h g = k.spots.apart v w (omega arith) (omega arith)

    -- the row is this one with the contents put in
    whole : values l x ≡ filled place content 0 n front
    whole =
        ext_get_or 0 (values l x) (filled place content 0 n front)
        (length-values l x ∙ sym (length-filled place content front 0 n ∙ length_front))
        (λ c h. each c (omega (arith, length-values l x)) (among_or_not places c n))
      where
        each : (c : ℕ) → c < l.l1 * l.l2 → Among n places c ⊎ (Among n places c → ⊥)
            → get_or (values l x) c 0 ≡ get_or (filled place content 0 n front) c 0
        each c h (inl a) =
            let low : a.0 < 0 + n = omega (arith, a.1.0) in
            rw (sym a.1.1) (sym (filled-there place content front 0 n a.0 (omega arith) low inside apart))
        each c h (inr other) =
            base_kept c h other
            ∙ sym (get_or-take (l.l1 * l.l2) base c 0 h)
            ∙ sym (filled-other place content front 0 n c (λ w p q e. other (w, (omega arith, sym e))))

    -- so what is missing of the checks is what the erased chunks bring
    brings : (s : List ℕ) → n ≤ l.r → Missing l n ns front s → Brings l.nc s place content 0 (n - 0)
    brings s few h i g =
        let few : i < l.r = omega arith in
        let b : ℕ = brought l.nc i place content 0 n in
        let f : ℕ = check l.nc i front in
        let blanks : (w : ℕ) → w < 0 + n → get_or front (place w) 0 ≡ 0 =
        λ w q. get_or-take (l.l1 * l.l2) base (place w) 0 (k.spots.inside w (omega arith)) ∙ base-blank w (omega arith)
        in
        let sum : check l.nc i (values l x) ≡ bit_xor b f =
        ap (check l.nc i) whole ∙ check-filled place content front l.nc i 0 n inside blanks apart ∙ xor_comm f b
        in
        let number : get_or ns (l.l1 + l.l2 + i) 0 % 2 ^ l.nc ≡ bit_xor b f =
        ap (λ (v : ℕ). v % 2 ^ l.nc) (given-check i few) ∙ mod-eq_of_lt (check-low i) ∙ sum
        in
        let all : n ≡ n - 0 = omega arith in
        h i (omega arith) ∙ ap (λ (v : ℕ). bit_xor v f) number ∙ other_summand b f
        ∙ ap (brought l.nc i place content 0) all

    -- the erased chunks put in, the row is in hand
    recovered : (found exit : List ℕ) → ((w : ℕ) → w < n → get_or found w 0 ≡ content w)
        → PutAt n places found cleared exit → InHand l exit x
    recovered found exit h p c low =
        ⊎_elim
        (λ a. rw (sym a.1.1) (sym (p.there a.0 a.1.0 ∙ h a.0 a.1.0)))
        (λ other. kept c low other ∙ sym (p.elsewhere c other ∙ clears.elsewhere c other))
        (among_or_not places c n)

    -- the contents that the checks leave
    pub solved : (s found exit : List ℕ) → n ≤ l.r → Missing l n ns front s
        → ((e : ℕ → ℕ) → Contents l.nc e → Brings l.nc s place e 0 (n - 0)
        → (w : ℕ) → 0 ≤ w → w < n → get_or found w 0 ≡ e w)
        → PutAt n places found cleared exit → InHand l exit x
    solved s found exit few m h =
        recovered found exit (λ w q. h content contents (brings s few m) w (omega arith) q)
