-- The rows under the first counts of a loss pattern, and the loop that tries the counts of the next block. Rests on the
-- laws of steps (found), on those of a row's own losses, and on those of the tables of a string (windows). Assumes
-- nothing.
use Prim.Native.Nat.{ℕ, ◌+◌, ◌-◌, ◌*◌, ◌<◌, ◌≤◌}
use mathlib.Core.Path.{◌≡◌, refl, sym, ap, ◌∙◌}
use mathlib.Core.Bool.{Bool, true, false, false≢true}
use mathlib.Core.Logic.{⊎_elim}
use mathlib.Core.List.{List}
use native.Mathlib.Nat.{zero-mul, add-mul, one-mul, mul-le-mul_right}
use native.Mathlib.Omega.{arith}
use lib.ListN.{length, get_or, take, drop, set, length-set, length-drop}
use lib.Seq.{get_or-take, get_or-set_same, get_or-set_other, take-set-le, take-take, drop-drop}
use Rattle.bits.specs.Bits.{longest, most_chunks}
use Rattle.bits.proofs.Laws.{lt_or_ge}
use Rattle.message.specs.Layout.{row_bits, block_bits}
use Rattle.message.specs.declared.Layout.{Layout}
use Rattle.message.proofs.Fields.{field_room}
use Rattle.message.proofs.Legal.{legal_bounds, sizes}
use Rattle.consistent.specs.Greedy.{losses, in_all}
use Rattle.windows.specs.Windows.{Tables}
use Rattle.windows.proofs.Windows.{tables-later}
use Rattle.found.specs.Found.{Given, Sent, Holding, Grown}
use Rattle.found.proofs.Found.{grown_holding, grown_nothing, grown_weaken, grown_turn}
use Rattle.pieces.specs.Pieces.{count_at, Tabled, Tried}
use Rattle.search.specs.Patterns.{Under, lost_in, Begun}
use Rattle.search.proofs.Losses.{lost-next, lost-most, lost-last, tried_can, tried_light}
use Rattle.anchor.proofs.Totals.{total-next}

-- ---- the first blocks of the row in hand
-- where they stay, each of their chunks does
first-at : (n i b j : ℕ) (row after : List ℕ) → take (i * n) after ≡ take (i * n) row → b < i → j < n
    → get_or after (b * n + j) 0 ≡ get_or row (b * n + j) 0
first-at n i b j row after e h k =
    let r : b * n + j < i * n = omega (arith, field_room i n b h) in
    sym (get_or-take (i * n) after (b * n + j) 0 r) ∙ ap (λ (t : List ℕ). get_or t (b * n + j) 0) e
    ∙ get_or-take (i * n) row (b * n + j) 0 r

-- and those before the last of them do
stay-less : (n i j : ℕ) (row after : List ℕ) → j ≡ i + 1 → take (j * n) after ≡ take (j * n) row
    → take (i * n) after ≡ take (i * n) row
stay-less n i j row after h e =
    let k : i * n ≤ j * n = mul-le-mul_right n (omega arith) in
    sym (take-take (i * n) (j * n) after k) ∙ ap (take (i * n)) e ∙ take-take (i * n) (j * n) row k

-- ---- rows under the first counts
-- only the first blocks of the row in hand matter
under-row : {l : Layout} {y counts : List ℕ} {i : ℕ} {row x : List ℕ} (after : List ℕ)
    → take (i * l.l2) after ≡ take (i * l.l2) row
    → Under l y counts i row x → Under l y counts i after x
under-row {l} {y} {counts} {i} {row} {x} after e u =
    record { own = u.own; light = λ b j h k c. u.light b j h k c ∙ sym (first-at l.l2 i b j row after e h k) }

-- at the start every row is under no counts, and all of the received row is to be read
pub under-start : (l : Layout) (y counts row x : List ℕ) (i : ℕ) → i ≡ 0 → Under l y counts i row x
unfolding losses in_all
under-start l y counts row x i e =
    record { own = λ b h. let z : b ≡ 0 = omega arith in rw (z, zero-mul) refl; light = λ b j h. absurd (omega arith) }

pub begun_start : {l : Layout} {numbers y : List ℕ} → Given l numbers y → (counts row : List ℕ) → length row ≡ most_chunks
    → (i : ℕ) → i ≡ 0
    → Begun l y y counts row i 0
unfolding in_all
begun_start {l} {numbers} {y} given counts row n i e =
    let z : 0 * block_bits l - 0 ≡ 0 = omega (arith, zero-mul (block_bits l)) in
    rw e record { sums = refl; most = omega (arith, given.short); before = omega arith; reads = rw z refl; hand = n }

pub received-short : {l : Layout} {numbers y : List ℕ} → Given l numbers y → length y ≤ longest
received-short {l} given = omega (arith, given.short, (sizes l (legal_bounds l given.is_legal)).row)

pub tabled_start : {l : Layout} {numbers y ts cs : List ℕ} → Given l numbers y → Tables y 0 ts cs → (i : ℕ) → i ≡ 0
    → Tabled y (i * block_bits l - 0) ts cs
tabled_start {l} given t i e =
    let z : 0 * block_bits l - 0 ≡ 0 = omega (arith, zero-mul (block_bits l)) in
    rw (e, z) record { tables = t; short = omega (arith, received-short given) }

-- block i, whose count is tried next, after blocks that lose the total: the most is what is left, and the first is 0, but
-- for the last block the most
pub record Next (l : Layout) (numbers y counts : List ℕ) (i total first most : ℕ) : Type 0 where
  pub given : Given l numbers y
  pub inside : i < l.l1
  pub room : i < length counts
  pub sums : total ≡ in_all (take i counts)
  pub all : total + most ≡ row_bits l - length y
  pub from : 0 < first → (i + 1 ≡ l.l1) × (first ≡ most)

-- the turn in which the losses of block i of the row x itself are tried
abbrev turn_of : Layout → (y : List ℕ) (i total first most : ℕ) → Bool → (x : List ℕ) → ℕ
turn_of l y i total first most down x = count_at first most down (lost_in l y i total x)

-- what holds before a turn: the first blocks stay in the row in hand, and the rows under the first i counts whose own turn
-- is an earlier one are known
pub record Tries (l : Layout) (numbers y : List ℕ) (cap : ℕ) (counts : List ℕ) (i total first most : ℕ) (down : Bool)
    (row₀ list₀ : List ℕ) (c : ℕ) (m : Bool) (row list : List ℕ) (d : ℕ) (o : Bool) (turn : ℕ) : Type 0 where
  pub places : length row ≡ length row₀
  pub stays : take (i * l.l2) row ≡ take (i * l.l2) row₀
  pub known : Grown l numbers y cap
      (λ x. Under l y counts i row₀ x × (turn_of l y i total first most down x < turn)) list₀ c m list d o

-- ---- turns
-- the count of a turn is one that is tried
pub count-inside : {first most : ℕ} (down : Bool) {turn : ℕ} → first ≤ turn → turn ≤ most
    → (first ≤ count_at first most down turn) × (count_at first most down turn ≤ most)
count-inside true low high = (omega arith, omega arith)
count-inside false low high = (low, high)

-- turned around twice, a count is itself
count-back : (first most : ℕ) (down : Bool) (a : ℕ) → first ≤ a → a ≤ most
    → count_at first most down (count_at first most down a) ≡ a
count-back first most true a low high = omega arith
count-back first most false a low high = refl

module _ {l : Layout} {numbers y counts : List ℕ} {i total first most : ℕ}
    (n : Next l numbers y counts i total first most) where
  -- where block i ends
  end-next : (i + 1) * block_bits l ≡ i * block_bits l + block_bits l
  end-next = omega (arith, add-mul i 1 (block_bits l), one-mul (block_bits l))

  -- one count more
  next-total : (a : ℕ) → in_all (take (i + 1) (set counts i a)) ≡ total + a
  next-total a =
      total-next (set counts i a) i (simp length-set n.room)
      ∙ rw (take-set-le i counts i a (omega arith), get_or-set_same counts i a 0 n.room, n.sums) refl

  -- the place in the received row then
  place-next : (a : ℕ) → total ≤ i * block_bits l → a ≤ block_bits l
      → i * block_bits l - total + (block_bits l - a) ≡ (i + 1) * block_bits l - (total + a)
  place-next a h low = let f = end-next in omega arith

  -- where the search stands then
  pub begun_next : {rest row : List ℕ} → Begun l y rest counts row i total → (a : ℕ) → total + a + length y ≤ row_bits l
      → a ≤ block_bits l
      → (after : List ℕ) → length after ≡ length row → (j : ℕ) → j ≡ i + 1
      → Begun l y (drop (block_bits l - a) rest) (set counts i a) after j (total + a)
  begun_next b a most low after k j e =
      let f = end-next in
      let h = b.before in
      let d = place-next a h low in
      rw e
      record {
        sums = sym (next-total a);
        most = most;
        before = omega arith;
        reads = rw b.reads (drop-drop (block_bits l - a) (i * block_bits l - total) y ∙ ap (λ (m : ℕ). drop m y) d);
        hand = k ∙ b.hand;
      }

  -- and the tables of the rest
  pub tabled_next : {rest row ts cs : List ℕ} → Begun l y rest counts row i total → (a : ℕ) → a ≤ block_bits l
      → block_bits l - a ≤ length rest → Tabled rest (i * block_bits l - total) ts cs → (j : ℕ) → j ≡ i + 1
      → Tabled (drop (block_bits l - a) rest) (j * block_bits l - (total + a)) (drop (block_bits l - a) ts)
      (drop (block_bits l - a) cs)
  tabled_next {rest} {row} {ts} {cs} b a low h t j e =
      let d : ℕ = block_bits l - a in
      rw (e, ← place-next a b.before low)
      record {
        tables = tables-later rest (i * block_bits l - total) d ts cs h t.tables;
        short = omega (arith, length-drop d rest, t.short);
      }

  module _ (x : List ℕ) (sent : Sent l numbers y x) {row : List ℕ} (u : Under l y counts i row x) where
    lost-before : losses (take (i * block_bits l) x) y ≡ total
    lost-before = u.own i (omega arith) ∙ sym n.sums

    -- its own losses are among the counts that are tried
    own-count : (first ≤ lost_in l y i total x) × (lost_in l y i total x ≤ most)
    own-count =
        let all = n.all in (
          ⊎_elim
              (λ (z : 0 < first).
              let w = n.from z in
              omega (arith, lost-last n.given x sent i total n.inside lost-before w.0))
              (λ (z : first ≤ 0). omega arith)
              (lt_or_ge 0 first),
          omega (arith, lost-most n.given x sent i total n.inside lost-before),
        )

    -- and so its own turn is one of the turns
    own_turn : (down : Bool)
        → (first ≤ turn_of l y i total first most down x) × (turn_of l y i total first most down x ≤ most)
    own_turn down = count-inside down own-count.0 own-count.1

    -- where it is this turn, its own losses are tried
    own-now : (down : Bool) (turn : ℕ) → turn_of l y i total first most down x ≡ turn
        → lost_in l y i total x ≡ count_at first most down turn
    own-now down turn e =
        sym (count-back first most down (lost_in l y i total x) own-count.0 own-count.1)
        ∙ ap (count_at first most down) e

    -- where block i is tried with its own losses, the row is under one count more
    under_next : {a : ℕ} {rest exit : List ℕ} {ok : Bool} → Tried l (get_or numbers i 0) i a rest row exit ok
        → rest ≡ drop (i * block_bits l - total) y → lost_in l y i total x ≡ a → Under l y (set counts i a) (i + 1) exit x
    under_next {a} {rest} {exit} t reads own =
        record {
          own = λ b k. ⊎_elim
              (λ (m : b < i + 1). u.own b (omega arith) ∙ ap in_all (sym (take-set-le b counts i a (omega arith))))
              (λ (m : i + 1 ≤ b).
              let e : b ≡ i + 1 = omega arith in
              rw e (lost-next n.given x sent i total n.inside lost-before ∙ rw own (sym (next-total a))))
              (lt_or_ge b (i + 1));
          light = λ b j k m c. ⊎_elim
              (λ (p : b < i).
              let o : get_or (set counts i a) b 0 ≡ get_or counts b 0 = get_or-set_other counts i b a 0 (λ z. omega arith) in
              u.light b j p m (rw o at c) ∙ sym (first-at l.l2 i b j row exit t.stays p m))
              (λ (p : i ≤ b).
              let e : b ≡ i = omega arith in
              let f : get_or (set counts i a) i 0 ≡ a = get_or-set_same counts i a 0 n.room in
              rw e (tried_light n.given x sent i total n.inside lost-before t reads own (rw (e, f) at c) j m))
              (lt_or_ge b i);
        }

  module _ {cap : ℕ} {down : Bool} {row₀ list₀ : List ℕ} {c : ℕ} {m : Bool} (held : Holding l numbers y cap list₀ c m) where
    -- no row has a turn before the first
    pub tries_start : Tries l numbers y cap counts i total first most down row₀ list₀ c m row₀ list₀ c m first
    tries_start =
        record {
          places = refl;
          stays = refl;
          known = grown_nothing held (λ x s q. omega (arith, q.1, (own_turn x s q.0 down).0));
        }

    -- and none has one after the last
    pub tries_all : {row list : List ℕ} {d : ℕ} {o : Bool} (turn : ℕ) → most < turn
        → Tries l numbers y cap counts i total first most down row₀ list₀ c m row list d o turn
        → Grown l numbers y cap (Under l y counts i row₀) list₀ c m list d o
    tries_all turn k g = grown_weaken (λ x s u. (u, omega (arith, (own_turn x s u down).1))) g.known

    -- a turn of the loop, in which block i is tried with a losses
    module _ {row list : List ℕ} {d : ℕ} {o : Bool} (turn : ℕ)
        (g : Tries l numbers y cap counts i total first most down row₀ list₀ c m row list d o turn)
        {a : ℕ} (now : a ≡ count_at first most down turn)
        {rest exit : List ℕ} {ok : Bool} (t : Tried l (get_or numbers i 0) i a rest row exit ok)
        (reads : rest ≡ drop (i * block_bits l - total) y) (same : length exit ≡ length row) where
      -- block i cannot lose a bits
      pub tries_none : ok ≡ false
          → Tries l numbers y cap counts i total first most down row₀ list₀ c m exit list d o (turn + 1)
      tries_none f =
          record {
            places = same ∙ g.places;
            stays = t.stays ∙ g.stays;
            known = grown_turn held (turn_of l y i total first most down) turn
                (λ x s u e. false≢true
                (sym f ∙ tried_can n.given x s i total n.inside (lost-before x s u) t reads
                (own-now x s u down turn e ∙ sym now)))
                g.known
                (grown_nothing (grown_holding held g.known) (λ x s z. z));
          }

      -- it can, and the rows under that count are found
      pub tries_next : (j : ℕ) → j ≡ i + 1 → {last after : List ℕ} {e : ℕ} {q : Bool}
          → Grown l numbers y cap (Under l y (set counts i a) j exit) list d o after e q
          → take (j * l.l2) last ≡ take (j * l.l2) exit → length last ≡ length exit
          → Tries l numbers y cap counts i total first most down row₀ list₀ c m last after e q (turn + 1)
      tries_next j p {last} f b w =
          record {
            places = w ∙ same ∙ g.places;
            stays = stay-less l.l2 i j exit last p b ∙ t.stays ∙ g.stays;
            known = grown_turn held (turn_of l y i total first most down) turn
                (λ x s u e. rw p
                (under_next x s (under-row row g.stays u) t reads (own-now x s u down turn e ∙ sym now)))
                g.known
                f;
          }
