-- The desk: what each of its parts says, and that a part stays as it was while others are written. Assumes nothing.
use Prim.Native.Nat.{ℕ, ◌+◌, ◌-◌, ◌*◌, ◌<◌, ◌≤◌}
use mathlib.Core.Path.{◌≡◌, refl, sym, ap, ◌∙◌}
use mathlib.Core.Bool.{cond}
use mathlib.Core.List.{List, ◌++◌}
use mathlib.Core.Logic.{◌⊎◌, inl, inr, ⊎_elim}
use native.Mathlib.Decide.{ℕ_discrete}
use native.Mathlib.Nat.{zero-mul, one-mul, add-mul}
use native.Mathlib.Omega.{arith}
use borrow.Rule.Slice.PartMut.{put_mid}
use Rattle.std.proofs.lemmas.Slice.{put_mid-paste}
use lib.Dec.{ltb}
use lib.ListN.{length, get_or, take, drop, set, replicate, get_or-replicate, length-append, length-drop, get_or-append}
use lib.Seq.{get_or-set_same, get_or-set_other, length-take-le, take_all, get_or-take, get_or-append-add}
use Rattle.bits.specs.Bits.{most_chunks, most_in_line}
use Rattle.bits.proofs.Laws.{lt_or_ge}
use Rattle.consistent.specs.Consistent.{most_losses}
use Rattle.message.specs.Layout.{row_bits}
use Rattle.message.specs.declared.Layout.{Layout}
use Rattle.anchor.specs.Anchor.{over, Reads, desk_size, near_from, near_at, later_from, later_at, wide}
use Rattle.anchor.specs.Anchor.{NearFor, LaterFor, Prepared}
use Rattle.anchor.proofs.Over.{over_none, over_split, over-same}

-- the blocks before block i and those from it on are all
pub blocks_split : (l1 l2 i : ℕ) → i ≤ l1 → i * l2 + (l1 - i) * l2 ≡ l1 * l2
blocks_split l1 l2 i h =
    let e : i + (l1 - i) ≡ l1 = omega arith in
    sym (add-mul i (l1 - i) l2) ∙ ap (λ (n : ℕ). n * l2) e

pub blocks-next : (l1 l2 i : ℕ) → 0 < i → i ≤ l1 → (l1 - (i - 1)) * l2 ≡ l2 + (l1 - i) * l2
blocks-next l1 l2 i lo hi =
    let n : l1 - (i - 1) ≡ 1 + (l1 - i) = omega arith in
    ap (λ (k : ℕ). k * l2) n ∙ omega (arith, add-mul 1 (l1 - i) l2, one-mul l2)

-- ---- one chunk: every entry says of so many losses from its own on that they leave the chunk v
abbrev pub Runs : (nc : ℕ) (y : List ℕ) (c v : ℕ) (out : List ℕ) → Type 0
Runs nc y c v out = (d t : ℕ) → d ≤ most_losses → d ≤ t → t < d + get_or out d 0 → Reads nc y c v t

module _ (nc : ℕ) (y : List ℕ) (c v : ℕ) where
  -- one entry more
  pub runs-set : (out : List ℕ) (d run : ℕ) → d < length out → ((t : ℕ) → d ≤ t → t < d + run → Reads nc y c v t)
      → Runs nc y c v out → Runs nc y c v (set out d run)
  runs-set out d run h f r e t m lo hi = go (ℕ_discrete e d)
    where
      go : Dec (e ≡ d) → Reads nc y c v t
      go (yes k) =
          let s : get_or (set out d run) e 0 ≡ run =
          ap (λ (j : ℕ). get_or (set out d run) j 0) k ∙ get_or-set_same out d run 0 h in
          f t (omega arith) (omega arith)
      go (no n) = r e t m lo (omega (arith, get_or-set_other out d e run 0 n))

  -- one number of losses less that leaves the chunk v
  pub run_more : (d run : ℕ) → Reads nc y c v d → ((t : ℕ) → d + 1 ≤ t → t < d + 1 + run → Reads nc y c v t)
      → (t : ℕ) → d ≤ t → t < d + (run + 1) → Reads nc y c v t
  run_more d run r f t lo hi = go (ℕ_discrete t d)
    where
      go : Dec (t ≡ d) → Reads nc y c v t
      go (yes k) = rw k r
      go (no n) = f t (omega arith) (omega arith)

  -- the run and the entries with one more: the run grows where the chunk stays v, and begins anew elsewhere
  pub runs_next : (out : List ℕ) (d run next : ℕ) → d < length out
      → (Reads nc y c v d × (next ≡ run + 1)) ⊎ (next ≡ 0)
      → ((t : ℕ) → d + 1 ≤ t → t < d + 1 + run → Reads nc y c v t)
      → Runs nc y c v out
      → ((t : ℕ) → d ≤ t → t < d + next → Reads nc y c v t) × Runs nc y c v (set out d next)
  runs_next out d run next h b f r = (here, runs-set out d next h here r)
    where
      here : (t : ℕ) → d ≤ t → t < d + next → Reads nc y c v t
      here t lo hi =
          elim b [ inl g ↦ run_more d run g.0 f t lo (omega (arith, g.1)) | inr z ↦ absurd (omega arith) ]

-- ---- all blocks from a block on: every entry from entry i on is the sum over the chunks from its own block on
module _ (f : ℕ → ℕ) (l1 l2 : ℕ) where
  abbrev pub Sums : (i : ℕ) (out : List ℕ) → Type 0
  Sums i out = (j : ℕ) → i ≤ j → j ≤ l1 → get_or out j 0 ≡ over f (j * l2) ((l1 - j) * l2)

  -- after the last block there is nothing
  pub sum-last : over f (l1 * l2) ((l1 - l1) * l2) ≡ 0
  sum-last =
      let z : l1 - l1 ≡ 0 = omega arith in
      rw (z, zero-mul l2) (over_none f (l1 * l2))

  pub sums_none : l1 ≤ most_in_line → Sums l1 (replicate (most_in_line + 1) 0)
  sums_none h j lo hi =
      let e : l1 ≡ j = omega arith in
      rw (← e) (get_or-replicate {A = ℕ} (most_in_line + 1) l1 0 0 (omega arith) ∙ sym sum-last)

  -- one block more in front
  pub sum-next : (i : ℕ) → 0 < i → i ≤ l1
      → over f ((i - 1) * l2) ((l1 - (i - 1)) * l2) ≡ over f (i * l2) ((l1 - i) * l2) + over f ((i - 1) * l2) l2
  sum-next i lo hi =
      let m : i ≡ i - 1 + 1 = omega arith in
      let a = blocks-next l1 l2 i lo hi in
      let b : (i - 1) * l2 + l2 ≡ i * l2 =
      sym (ap (λ (k : ℕ). k * l2) m ∙ omega (arith, add-mul (i - 1) 1 l2, one-mul l2)) in
      let e : over f ((i - 1) * l2 + l2) ((l1 - i) * l2) ≡ over f (i * l2) ((l1 - i) * l2) =
      ap (λ (k : ℕ). over f k ((l1 - i) * l2)) b
      in
      ap (over f ((i - 1) * l2)) a ∙ omega (arith, over_split f ((i - 1) * l2) l2 ((l1 - i) * l2))

  -- one entry more
  pub sums-set : (i v : ℕ) (out : List ℕ) → i < length out → v ≡ over f (i * l2) ((l1 - i) * l2) → Sums (i + 1) out
      → Sums i (set out i v)
  sums-set i v out h e r j lo hi = go (ℕ_discrete j i)
    where
      go : Dec (j ≡ i) → get_or (set out i v) j 0 ≡ over f (j * l2) ((l1 - j) * l2)
      go (yes k) = rw k (get_or-set_same out i v 0 h ∙ e)
      go (no n) = get_or-set_other out i j v 0 n ∙ r j (omega arith) hi

-- ---- a part copied to a place of the desk
module _ (s p : List ℕ) (at : ℕ) (room : at + length p ≤ length s) where
  abbrev put : List ℕ
  put = take at s ++ p ++ drop (at + length p) s

  front : length (take at s ++ p) ≡ at + length p
  front = length-append (take at s) p ∙ omega (arith, length-take-le at s (omega arith))

  pub put-length : length put ≡ length s
  put-length =
      length-append (take at s ++ p) (drop (at + length p) s) ∙ omega (arith, front, length-drop (at + length p) s)

  -- before it
  pub put-before : (q : ℕ) → q < at → get_or put q 0 ≡ get_or s q 0
  put-before q h =
      get_or-append (take at s ++ p) (drop (at + length p) s) 0 q (omega (arith, front))
      ∙ get_or-append (take at s) p 0 q (omega (arith, length-take-le at s (omega arith)))
      ∙ get_or-take at s q 0 h

  -- in it
  pub put-there : (j : ℕ) → j < length p → get_or put (at + j) 0 ≡ get_or p j 0
  put-there j h =
      get_or-append (take at s ++ p) (drop (at + length p) s) 0 (at + j) (omega (arith, front))
      ∙ ap (λ (n : ℕ). get_or (take at s ++ p) (n + j) 0) (sym (length-take-le at s (omega arith)))
      ∙ get_or-append-add (take at s) p j 0

-- what a write of n elements to a part of a slice leaves
pub put_part : (at n : ℕ) (s p now : List ℕ) → length p ≡ n → now ≡ p
    → put_mid at (at + n - at) s now ≡ take at s ++ p ++ drop (at + length p) s
put_part at n s p now w e =
    put_mid-paste at (at + n - at) s now p (length p) e (omega arith) refl
    ∙ ap (λ (q : List ℕ). take at s ++ q ++ drop (at + length p) s) (take_all (length p) p (omega arith))

-- how many chunks can be another than the anchor's depends on the second part of the desk alone
pub wide-same : (l : Layout) (s u : List ℕ) (i d a : ℕ) → i ≤ l.l1 → d ≤ most_losses → l.l1 * l.l2 ≤ most_chunks
    → ((q : ℕ) → q < later_from → get_or s q 0 ≡ get_or u q 0)
    → over (wide s d a) (i * l.l2) ((l.l1 - i) * l.l2) ≡ over (wide u d a) (i * l.l2) ((l.l1 - i) * l.l2)
wide-same l s u i d a h m few e =
    let split : i * l.l2 + (l.l1 - i) * l.l2 ≡ l.l1 * l.l2 = blocks_split l.l1 l.l2 i h in
    over-same (wide s d a) (wide u d a) (i * l.l2) ((l.l1 - i) * l.l2)
    (λ t k. ap (λ (v : ℕ). cond (ltb a v) 0 1) (e (near_at (i * l.l2 + t) d) (omega arith)))

-- ---- the second part of the desk
-- one chunk more
pub near_next : (nc : ℕ) (y : List ℕ) (n : ℕ) (entry s p exit : List ℕ) → n < most_chunks → desk_size ≤ length entry
    → length p ≡ 13
    → Runs nc y n (get_or s (1 + n) 0) p → exit ≡ take (near_from + n * 13) s ++ p ++ drop (near_from + n * 13 + length p) s
    → NearFor nc y n entry s → NearFor nc y (n + 1) entry exit
near_next nc y n entry s p exit h k w r e f =
    let room : near_from + n * 13 + length p ≤ length s = omega (arith, f.size) in
    let kept : (q : ℕ) → q < near_from + n * 13 → get_or exit q 0 ≡ get_or s q 0 =
    λ q i. ap (λ (v : List ℕ). get_or v q 0) e ∙ put-before s p (near_from + n * 13) room q i
    in
    record {
      size = ap length e ∙ put-length s p (near_from + n * 13) room ∙ f.size;
      before = λ q i. kept q (omega arith) ∙ f.before q i;
      near = λ c d t i m lo hi. ⊎_elim
          (λ j. f.near c d t j m lo (omega (arith, kept (near_at c d) (omega arith))))
          (λ j.
          let same : c ≡ n = omega arith in
          let new : get_or exit (near_at c d) 0 ≡ get_or p d 0 =
          ap (λ (b : ℕ). get_or exit (near_at b d) 0) same
          ∙ ap (λ (v : List ℕ). get_or v (near_at n d) 0) e
          ∙ put-there s p (near_from + n * 13) room d (omega arith)
          in
          rw (same, ← f.before (1 + n) (omega arith)) (r d t m lo (omega arith)))
          (lt_or_ge c n);
    }

-- ---- the third part of the desk
-- one number of losses more
pub later-next : (l : Layout) (k n : ℕ) (entry s p exit : List ℕ) → l.l1 ≤ most_in_line → n ≤ most_losses
    → desk_size ≤ length entry → length p ≡ most_in_line + 1
    → ((i : ℕ) → i ≤ l.l1 → get_or p i 0 ≡ over (wide s n (k - n)) (i * l.l2) ((l.l1 - i) * l.l2))
    → l.l1 * l.l2 ≤ most_chunks
    → exit ≡ take (later_from + n * (most_in_line + 1)) s ++ p ++ drop (later_from + n * (most_in_line + 1) + length p) s
    → LaterFor l k n entry s → LaterFor l k (n + 1) entry exit
later-next l k n entry s p exit few h z w r chunks e f =
    let room : later_from + n * (most_in_line + 1) + length p ≤ length s = omega (arith, f.size) in
    let kept : (q : ℕ) → q < later_from + n * (most_in_line + 1) → get_or exit q 0 ≡ get_or s q 0 =
    λ q i. ap (λ (v : List ℕ). get_or v q 0) e ∙ put-before s p (later_from + n * (most_in_line + 1)) room q i
    in
    record {
      size = ap length e ∙ put-length s p (later_from + n * (most_in_line + 1)) room ∙ f.size;
      before = λ q i. kept q (omega arith) ∙ f.before q i;
      later = λ i d b m. ⊎_elim
          (λ j. kept (later_at i d) (omega arith) ∙ f.later i d b j)
          (λ j.
          let same : d ≡ n = omega arith in
          rw same
          (ap (λ (v : List ℕ). get_or v (later_at i n) 0) e
          ∙ put-there s p (later_from + n * (most_in_line + 1)) room i (omega arith)
          ∙ r i b
          ∙ wide-same l s entry i n (k - n) b h chunks f.before))
          (lt_or_ge d n);
    }

-- ---- the whole desk: the chunks of a row are copied to it, and the other parts are written after them
module _ (l : Layout) (y vs old chunks s₀ s₁ s₂ s₃ : List ℕ) (few : l.l1 * l.l2 ≤ most_chunks)
    (short : length y ≤ row_bits l) (most : row_bits l ≤ length y + most_losses) (long : desk_size ≤ length s₀) (e : chunks ≡ vs ++ old)
    (n : length vs ≡ l.l1 * l.l2)
    (w : length chunks ≡ most_chunks) (put₁ : s₁ ≡ take 1 s₀ ++ chunks ++ drop (1 + length chunks) s₀)
    (near₂ : NearFor l.nc y (l.l1 * l.l2) s₁ s₂)
    (later₃ : LaterFor l (row_bits l - length y) (row_bits l - length y + 1) s₂ s₃) where
  room₁ : 1 + length chunks ≤ length s₀
  room₁ = omega arith

  chunk₁ : (c : ℕ) → c < l.l1 * l.l2 → get_or s₁ (1 + c) 0 ≡ get_or vs c 0
  chunk₁ c h =
      ap (λ (s : List ℕ). get_or s (1 + c) 0) put₁
      ∙ put-there s₀ chunks 1 room₁ c (omega arith)
      ∙ ap (λ (s : List ℕ). get_or s c 0) e
      ∙ get_or-append vs old 0 c (omega arith)

  pub prepared : Prepared l y vs s₃
  prepared =
      record {
        chunks = λ c h. later₃.before (1 + c) (omega arith) ∙ near₂.before (1 + c) (omega arith) ∙ chunk₁ c h;
        near = λ c d t h m lo hi.
            let r = near₂.near c d t h m lo (omega (arith, later₃.before (near_at c d) (omega arith))) in
            rw (← chunk₁ c h) r;
        later = λ i d h m.
            later₃.later i d h (omega arith)
            ∙ wide-same l s₂ s₃ i d (row_bits l - length y - d) h (omega arith) few (λ q k. sym (later₃.before q k));
      }
