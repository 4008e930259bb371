-- How the steps of a search join, whatever test a row is to pass: what the list slice holds after a step, two steps one
-- after another, a step that adds nothing or one row, a loop, and the whole search. Assumes nothing.
use Prim.Native.Nat.{ℕ, ◌+◌, ◌*◌, ◌<◌, ◌≤◌}
use mathlib.Core.Path.{◌≡◌, sym, ap, ◌∙◌, subst}
use mathlib.Core.Bool.{Bool, false, false≢true}
use mathlib.Core.Logic.{◌⊎◌, inl, inr, ⊎_elim}
use mathlib.Core.List.{List, [], ◌∷◌, ◌++◌}
use native.Mathlib.Omega.{arith}
use lib.ListN.{length, drop, length-drop, length-map, length-append}
use Rattle.bits.specs.Bits.{cut, bytes_for, pack}
use Rattle.bits.proofs.Laws.{lt_or_ge}
use Rattle.bits.proofs.Packing.{length-pack}
use Rattle.rows.specs.Held.{Held, none, add, WellHeld, Known}
use Rattle.rows.specs.Order.{Ascending, Row}
use Rattle.rows.specs.Slice.{flat, held_in, rows_of_slice, packed, Written}
use Rattle.rows.specs.declared.Kept.{Kept}
use Rattle.rows.proofs.Held.{none-well, add-add, add_members, add-well, add-known, add_none, known-stays, known_added}
use Rattle.rows.proofs.Order.{mem_append, mem_right, kept_row, row_kept}
use Rattle.rows.proofs.Packed.{
  rows_in,
  packed-wide,
  insert-packed,
  insert-ready,
  written-packed,
  written_none,
  written_next,
  none-packed,
  written_listed,
}
use Rattle.rows.proofs.Slice.{length-flat, rows_le}
use Rattle.found.specs.Sought.{Sought, Passes, all_of, held_of, no_rows, Holding, Grown, Listed}

-- a slice with room of which nothing is used yet
pub holding_none : (s : Sought) (cap : ℕ) (list : List ℕ) → cap * bytes_for s.bits ≤ length list
    → Holding s cap list no_rows
holding_none s cap list h =
    let e : held_in (bytes_for s.bits) list 0 false ≡ packed none = none-packed s.bits list in
    let i : rows_of_slice s.bits list 0 false ≡ none = rows_in s.bits none list 0 false (λ x m. absurd m) e in
    record {
      well = rw i (none-well cap s.bits s.test);
      is_packed = e ∙ ap packed (sym i);
      room = h;
    }

-- ---- a step
module _ {s : Sought} {cap : ℕ} {entry : List ℕ} {kept : Kept} (h : Holding s cap entry kept) where
  -- the rows held before the step
  abbrev Now : Held
  Now = held_of s entry kept

  module _ {P : List ℕ → Type 0} {exit : List ℕ} {now : Kept} (g : Grown s cap P entry kept exit now) where
    after-well : WellHeld cap s.bits s.test (add cap Now g.found)
    after-well = add-well h.well g.found g.each

    after-packed : held_in (bytes_for s.bits) exit now.count now.more ≡ packed (add cap Now g.found)
    after-packed = written-packed after-well entry exit now.count now.more g.written

    -- the rows held after it
    pub grown_rows : held_of s exit now ≡ add cap Now g.found
    grown_rows =
        rows_in s.bits (add cap Now g.found) exit now.count now.more (λ x k. (after-well.each x k).0)
        after-packed

    -- the slice keeps its length
    pub grown_length : length exit ≡ length entry
    grown_length =
        let w = bytes_for s.bits in
        let d = now.count in
        let a : List (List ℕ) = (packed (add cap Now g.found)).rows in
        let few : length a ≤ cap = omega (arith, length-map (add cap Now g.found).rows pack, after-well.at_most) in
        let wide = packed-wide s.bits (add cap Now g.found).rows (λ x k. (after-well.each x k).0) in
        let bytes : length (flat a) ≡ length a * w = length-flat w a wide in
        let n : d * w ≡ length a * w = ap (λ (k : ℕ). k * w) g.written.count in
        let fit : length a * w ≤ cap * w = rows_le (length a) cap w few in
        ap length g.written.slice
        ∙ length-append (flat a) (drop (d * w) entry)
        ∙ omega (arith, length-drop (d * w) entry, h.room)

    -- after it the slice holds rows that pass again
    pub grown_holding : Holding s cap exit now
    grown_holding =
        record {
          well = rw grown_rows after-well;
          is_packed = after-packed ∙ ap packed (sym grown_rows);
          room = omega (arith, grown_length, h.room);
        }

    -- two steps one after another: afterwards the rows of either kind are known
    pub grown_then : {Q : List ℕ → Type 0} {last : List ℕ} {then : Kept} → Grown s cap Q exit now last then
        → Grown s cap (λ x. P x ⊎ Q x) entry kept last then
    grown_then {Q} {last} {then} k =
        let a = g.found in
        let b = k.found in
        let d = now.count in
        let o = now.more in
        let e = then.count in
        let q = then.more in
        let both : add cap (add cap Now a) b ≡ add cap Now (a ++ b) = add-add cap Now a b in
        let same : add cap (held_of s exit now) b ≡ add cap Now (a ++ b) =
        ap (λ (t : Held). add cap t b) grown_rows ∙ both
        in
        let second : Written (bytes_for s.bits) (packed (add cap (add cap Now a) b)) exit last e q =
        subst (λ (t : Held). Written (bytes_for s.bits) (packed (add cap t b)) exit last e q) grown_rows k.written
        in
        record {
          found = a ++ b;
          each = λ x p. ⊎_elim (g.each x) (k.each x) (mem_append x a b p);
          written = written_next h.well a b g.each entry exit last d e o q g.written second;
          known = λ x p. ⊎_elim
              (λ u. subst (λ (t : Held). Known t x) both (known-stays after-well b x (g.known x p u)))
              (λ u. subst (λ (t : Held). Known t x) same (k.known x p u));
        }

  -- a step that adds nothing, since all that it would find is known
  pub grown_none : {P : List ℕ → Type 0} → ((x : List ℕ) → Passes s x → P x → Known Now x)
      → Grown s cap P entry kept entry kept
  grown_none k =
      let same : add cap Now [] ≡ Now = add_none h.well in
      record {
        found = [];
        each = λ x p. absurd p;
        written = rw same (written_none h.well entry kept.count kept.more h.is_packed);
        known = λ x p u. rw same (k x p u);
      }

  -- a step that adds nothing, since there is nothing to find
  pub grown_nothing : {P : List ℕ → Type 0} → ((x : List ℕ) → Passes s x → P x → ⊥)
      → Grown s cap P entry kept entry kept
  grown_nothing k = grown_none (λ x p u. absurd (k x p u))

  -- a row that fails the test is not added
  pub grown_refused : (x : List ℕ) → s.test x ≡ false → Grown s cap (λ z. z ≡ x) entry kept entry kept
  grown_refused x f = grown_nothing (λ z p e. false≢true (sym f ∙ ap s.test (sym e) ∙ p.1))

  -- a step that adds one row
  pub grown_row : (x : List ℕ) → Passes s x → {exit : List ℕ} {now : Kept}
      → Written (bytes_for s.bits)
      (add cap (held_in (bytes_for s.bits) entry kept.count kept.more) (pack x ∷ []))
      entry exit now.count now.more
      → Grown s cap (λ z. z ≡ x) entry kept exit now
  grown_row x p {exit} {now} k =
      record {
        found = x ∷ [];
        each = λ z i. ⊎_elim (λ e. subst (Passes s) (sym e) p) (λ q. absurd q) i;
        written =
            insert-packed h.well entry exit kept.count now.count kept.more now.more x p.0
            h.is_packed k;
        known = λ z t e. known_added cap Now (x ∷ []) z h.well.ascending (inr (inl e));
      }

  -- ---- a row of at least a byte, packed as p
  module _ (some : 1 ≤ bytes_for s.bits) (x : List ℕ) (row : Row s.bits x) (p : List ℕ) (e : p ≡ pack x) where
    packed-length : length p ≡ bytes_for s.bits
    packed-length = ap length e ∙ length-pack x ∙ ap bytes_for row.0

    -- what inserting it requires
    pub insert_asks : (1 ≤ length p)
        × ((cap * length p ≤ length entry) × ((kept.count ≤ cap) × Ascending (cut kept.count (length p) entry)))
    insert_asks =
        rw packed-length (some, (h.room, insert-ready h.well entry kept.count kept.more h.is_packed))

    -- and what it does, where the row passes
    pub grown_packed : Passes s x → {exit : List ℕ} {now : Kept}
        → Written (length p) (add cap (held_in (length p) entry kept.count kept.more) (p ∷ []))
        entry exit now.count now.more
        → Grown s cap (λ z. z ≡ x) entry kept exit now
    grown_packed passes {exit} {now} k =
        let w = bytes_for s.bits in
        let c = kept.count in
        let m = kept.more in
        let d = now.count in
        let o = now.more in
        let wide : Written w (add cap (held_in w entry c m) (p ∷ [])) entry exit d o = rw packed-length at k in
        grown_row x passes
        (subst (λ (q : List ℕ). Written w (add cap (held_in w entry c m) (q ∷ [])) entry exit d o) e wide)

-- a step that finds all rows of one kind finds all of a narrower kind
pub grown_weaken : {s : Sought} {cap : ℕ} {P Q : List ℕ → Type 0} {entry exit : List ℕ} {kept now : Kept}
    → ((x : List ℕ) → Passes s x → Q x → P x) → Grown s cap P entry kept exit now → Grown s cap Q entry kept exit now
grown_weaken f g =
    record { found = g.found; each = g.each; written = g.written; known = λ x p q. g.known x p (f x p q) }

-- ---- a loop over the values of a choice
-- a turn: what is found at one value joins what was found below it
pub grown_turn : {s : Sought} {cap : ℕ} {entry mid exit : List ℕ} {kept now then : Kept} {P Q : List ℕ → Type 0}
    → Holding s cap entry kept → (f : List ℕ → ℕ) (v : ℕ)
    → ((x : List ℕ) → Passes s x → P x → f x ≡ v → Q x)
    → Grown s cap (λ x. P x × (f x < v)) entry kept mid now → Grown s cap Q mid now exit then
    → Grown s cap (λ x. P x × (f x < v + 1)) entry kept exit then
grown_turn h f v k below here =
    grown_weaken
    (λ x sent p. ⊎_elim (λ i. inl (p.0, i)) (λ i. inr (k x sent p.0 (omega (arith, p.1)))) (lt_or_ge (f x) v))
    (grown_then h below here)

-- ---- the whole search
-- once every row that passes is known, the slice holds the list
pub grown_all : {s : Sought} {cap : ℕ} {entry exit : List ℕ} {now : Kept} → cap * bytes_for s.bits ≤ length entry
    → Grown s cap (λ x. Unit) entry no_rows exit now → Listed s cap entry exit now
grown_all {s} {cap} {entry} {exit} {now} room g =
    let v =
    written_listed cap n f entry exit now.count now.more
    (subst (λ (t : Held). Written (bytes_for n) (packed t) entry exit now.count now.more) same g.written) in
    record { slice = v.slice; count = v.count; more = v.more }
  where
    n : ℕ
    n = s.bits

    f : List ℕ → Bool
    f = s.test

    a : List (List ℕ)
    a = g.found

    all : List (List ℕ)
    all = all_of s

    empty : rows_of_slice n entry 0 false ≡ none
    empty = rows_in n none entry 0 false (λ x p. absurd p) (none-packed n entry)

    -- the rows found make all others known
    known : add cap (add cap none a) all ≡ add cap none a
    known =
        let w = add-well (none-well cap n f) a g.each in
        add-known w all
        (λ x p. subst (λ (t : Held). Known (add cap t a) x) empty (g.known x (kept_row n f x p) tt))

    -- and are among them
    members : add cap none (a ++ all) ≡ add cap none all
    members =
        add_members cap none (a ++ all) all tt
        (λ x p. inr (⊎_elim (λ q. let t = g.each x q in row_kept n f x t.0 t.1) (λ q. q) (mem_append x a all p)))
        (λ x p. inr (mem_right x a all p))

    same : add cap (rows_of_slice n entry 0 false) a ≡ add cap none all
    same = ap (λ (t : Held). add cap t a) empty ∙ sym known ∙ add-add cap none a all ∙ members
