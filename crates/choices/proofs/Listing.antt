-- The choices of the heavy blocks in a column: those that are listed offer its own to each row. Assumes nothing.
use Prim.Native.Nat.{ℕ, zero, suc, ◌+◌, ◌-◌, ◌*◌, ◌<◌, ◌≤◌}
use mathlib.Core.Path.{◌≡◌, refl, sym, ap, ◌∙◌}
use mathlib.Core.Bool.{cond}
use mathlib.Core.List.{List}
use mathlib.Core.Logic.{◌⊎◌, ⊎_elim}
use native.Mathlib.Nat.{mul-le-mul_right}
use native.Mathlib.Numerals.{add-one}
use native.Mathlib.Omega.{arith}
use lib.Dec.{eqb}
use lib.ListN.{length, get_or, set, drop}
use lib.Seq.{get_or-set_same, get_or-set_other}
use Rattle.bits.specs.Bits.{digits, number}
use Rattle.bits.proofs.Laws.{lt_or_ge}
use Rattle.vt.specs.Ones.{ones}
use Rattle.message.specs.declared.Layout.{Layout}
use Rattle.message.proofs.Legal.{Lies, chunk_lies}
use Rattle.consistent.specs.Greedy.{losses}
use Rattle.states.specs.States.{stride, each}
use Rattle.states.specs.declared.Shape.{Shape}
use Rattle.states.proofs.States.{stride_up}
use Rattle.weigh.specs.Weigh.{Wider}
use Rattle.weigh.specs.declared.Span.{Span}
use Rattle.weigh.proofs.Spans.{ones_between, one_wider}
use Rattle.column.specs.Column.{chunk_at, value_at, Crosses}
use Rattle.column.specs.declared.Heavy.{Heavy}
use Rattle.column.proofs.Rows.{no_loss}
use Rattle.choices.specs.Choices.{Fitted, Seeable, Viewed, most_choices, Keeps, Put, Small, brings_at, Suits}
use Rattle.choices.specs.Choices.{ChoicesOf, Blocks}
use Rattle.choices.specs.declared.View.{View}

-- ---- where a chunk lies
-- the chunk of heavy block s in column j, the block being number i
pub chunk_is : {l : Layout} {y totals counts : List ℕ} {heavy : Heavy} {j : ℕ} → Seeable l y totals counts heavy j
    → (s i : ℕ) → s < heavy.n → i ≡ get_or heavy.block s 0 → Lies l i j
chunk_is {l} {heavy = heavy} {j} g s i h e =
    rw e (chunk_lies l g.allowed (get_or heavy.block s 0) j (g.blocks s h) g.column)

-- ---- choices are listed
module _ {t : ℕ} {entry exit : List ℕ} (k : Keeps t entry exit) where
  kept_small : (top u : ℕ) → u < t → Small entry top u → Small exit top u
  kept_small top u h s =
      record {
        adds_small = rw (k.before (4 * u) (omega arith)) s.adds_small;
        least-small = rw (k.before (4 * u + 1) (omega arith)) s.least-small;
        most-small = rw (k.before (4 * u + 2) (omega arith)) s.most-small;
        other-small = rw (k.before (4 * u + 3) (omega arith)) s.other-small;
      }

  kept-suits : {l : Layout} {heavy : Heavy} {z vs : List ℕ} {j b adds : ℕ} (u : ℕ) → u < t
      → Suits l heavy z vs j b entry adds u → Suits l heavy z vs j b exit adds u
  kept-suits u h s =
      record {
        adds_just = k.before (4 * u) (omega arith) ∙ s.adds_just;
        least = rw (k.before (4 * u + 1) (omega arith)) s.least;
        most = rw (k.before (4 * u + 2) (omega arith)) s.most;
        other = rw (k.before (4 * u + 3) (omega arith)) s.other;
      }

pub keeps_same : (t : ℕ) (choices : List ℕ) → Keeps t choices choices
keeps_same t choices = record { long = refl; before = λ i h. refl }

pub keeps_then : {t u : ℕ} {entry mid exit : List ℕ} → t ≤ u → Keeps t entry mid → Keeps u mid exit → Keeps t entry exit
keeps_then h a b =
    record {
      long = b.long ∙ a.long;
      before = λ i k. b.before i (omega arith) ∙ a.before i k;
    }

module _ {l : Layout} {y : List ℕ} {heavy : Heavy} {z : List ℕ} {j b left one : ℕ} where
  -- choices that are kept are still those of a block
  pub kept-listed : {t : ℕ} {entry exit : List ℕ} {low high : ℕ} {P : (next : ℕ → ℕ) (vs : List ℕ) → Type 0}
      → Keeps t entry exit → high ≤ t → ChoicesOf l y heavy z j b left one entry low high P
      → ChoicesOf l y heavy z j b left one exit low high P
  kept-listed k h p =
      record {
        order = p.order;
        small = λ t a c. kept_small k (left * one) t (omega arith) (p.small t a c);
        offers = λ numbers row vs own next e x w.
            let o = p.offers numbers row vs own next e x w in
            (o.0, (o.1.0, kept-suits k o.0 (omega (arith, o.1.0.1)) o.1.1));
      }

  -- some choices and others behind them
  pub listed_then : {P Q R : (next : ℕ → ℕ) (vs : List ℕ) → Type 0} {choices : List ℕ} {low mid high : ℕ}
      → ChoicesOf l y heavy z j b left one choices low mid P → ChoicesOf l y heavy z j b left one choices mid high Q
      → ((numbers row vs : List ℕ) (own next : ℕ → ℕ) → own b ≡ left → Crosses l y numbers heavy row j own next vs
      → R next vs → P next vs ⊎ Q next vs)
      → ChoicesOf l y heavy z j b left one choices low high R
  listed_then {low = low} {mid} {high} p q parts =
      record {
        order = omega (arith, p.order, q.order);
        small = λ t a c. ⊎_elim (λ (h : t < mid). p.small t a h) (λ (h : mid ≤ t). q.small t h c) (lt_or_ge t mid);
        offers = λ numbers row vs own next e x r.
            ⊎_elim
            (λ u. let o = p.offers numbers row vs own next e x u in
            (o.0, ((o.1.0.0, omega (arith, o.1.0.1, q.order)), o.1.1)))
            (λ u. let o = q.offers numbers row vs own next e x u in
            (o.0, ((omega (arith, o.1.0.0, p.order), o.1.0.1), o.1.1)))
            (parts numbers row vs own next e x r);
      }

  -- the same choices for fewer rows
  pub listed_weaken : {P Q : (next : ℕ → ℕ) (vs : List ℕ) → Type 0} {choices : List ℕ} {low high : ℕ}
      → ChoicesOf l y heavy z j b left one choices low high P
      → ((numbers row vs : List ℕ) (own next : ℕ → ℕ) → own b ≡ left → Crosses l y numbers heavy row j own next vs
      → Q next vs → P next vs)
      → ChoicesOf l y heavy z j b left one choices low high Q
  listed_weaken p why =
      record {
        order = p.order;
        small = p.small;
        offers = λ numbers row vs own next e x r.
            p.offers numbers row vs own next e x (why numbers row vs own next e x r);
      }

  -- no choices, where no row crosses the column so
  pub listed-none : {P : (next : ℕ → ℕ) (vs : List ℕ) → Type 0} (choices : List ℕ) (t : ℕ)
      → ((numbers row vs : List ℕ) (own next : ℕ → ℕ) → own b ≡ left → Crosses l y numbers heavy row j own next vs
      → P next vs → ⊥)
      → ChoicesOf l y heavy z j b left one choices t t P
  listed-none choices t never =
      record {
        order = omega arith;
        small = λ u a c. absurd (omega arith);
        offers = λ numbers row vs own next e x r. absurd (never numbers row vs own next e x r);
      }

-- the choices of one block more, behind those of the blocks before it
module _ {l : Layout} {y : List ℕ} {heavy : Heavy} {z : List ℕ} {j : ℕ} (left ones : ℕ → ℕ) where
  pub blocks-next : {choices exit : List ℕ} (from : List ℕ) (b : ℕ) {end : ℕ} → b + 1 < length from
      → Blocks l y heavy z j left ones choices from b → Keeps (get_or from b 0) choices exit
      → ChoicesOf l y heavy z j b (left b) (ones b) exit (get_or from b 0) end (λ next vs. next b ≤ left b)
      → Blocks l y heavy z j left ones exit (set from (b + 1) end) (b + 1)
  blocks-next {choices} {exit} from b {end} long old keeps new d h =
      let last : get_or (set from (b + 1) end) (b + 1) 0 ≡ end = get_or-set_same from (b + 1) end 0 long in
      let own : get_or (set from (b + 1) end) d 0 ≡ get_or from d 0 =
      get_or-set_other from (b + 1) d end 0 (λ e. omega (arith, e)) in
      ⊎_elim
      (λ (k : d < b).
      let next : get_or (set from (b + 1) end) (d + 1) 0 ≡ get_or from (d + 1) 0 =
      get_or-set_other from (b + 1) (d + 1) end 0 (λ e. omega (arith, e)) in
      let o = old d k in
      rw (last, own, next) (omega (arith, o.0, new.order), kept-listed keeps o.0 o.1))
      (λ (k : b ≤ d).
      let e : d ≡ b = omega arith in
      let same : get_or (set from (b + 1) end) b 0 ≡ get_or from b 0 = rw e at own in
      rw (e, last, same) (omega arith, new))
      (lt_or_ge d b)

-- what the losses of a block add to the number of a state is small
pub adds_low : {heavy : Heavy} {shape : Shape} {left : List ℕ} → Fitted heavy shape left → (b : ℕ) → b < heavy.n
    → get_or left b 0 * get_or shape.stride b 0 ≤ 65535
unfolding stride
adds_low {heavy} {shape} {left} f b h =
    let k : b < shape.n = omega (arith, h, f.blocks) in
    let top = mul-le-mul_right (stride (each shape.size) b) (f.within b k) in
    let up = stride_up (each shape.size) (suc b) shape.n k in
    rw (f.shaped.counts b k) (omega (arith, top, up, f.shaped.all, f.states))

-- a block has few choices: with fewer losses than a at most so many, as with each number of losses none to all of them are
-- ones
unfoldable pub below : ℕ → ℕ
below zero = 0
below (suc a) = below a + (a + 1)

below-rises : (a b : ℕ) → a ≤ b → below a ≤ below b
unfolding below
below-rises a zero h = let e : a ≡ 0 = omega arith in rw e (omega arith)
below-rises a (suc b) h =
    ⊎_elim (λ (k : a < suc b). omega (arith, below-rises a b (omega arith)))
    (λ (k : suc b ≤ a). let e : a ≡ suc b = omega arith in rw e (omega arith))
    (lt_or_ge a (suc b))

pub below_next : (a : ℕ) → below (a + 1) ≡ below a + (a + 1)
unfolding below
below_next a = ap below (add-one a)

pub below-most : (a : ℕ) → a ≤ 9 → below a ≤ most_choices
unfolding below
below-most a h = below-rises a 9 h

-- ---- the chunk of a row
module _ {l : Layout} {y numbers : List ℕ} {heavy : Heavy} {row : List ℕ} {j : ℕ} {own next : ℕ → ℕ} {vs : List ℕ}
    (x : Crosses l y numbers heavy row j own next vs) {b left : ℕ} (h : b < heavy.n) (e : own b ≡ left) (a : ℕ)
    (lost : left ≡ next b + a) {view : View} (see : Viewed l y heavy j b left a view) where
  -- the number of its chunk in heavy block b
  abbrev v : ℕ
  v = value_at l heavy vs j b

  loses : losses (digits l.nc v) (drop view.at y) ≡ a
  loses =
      ap (λ (p : ℕ). losses (digits l.nc v) (drop p y))
      (see.place ∙ ap (λ (k : ℕ). chunk_at l heavy j b * l.nc + k - get_or heavy.end b 0) (sym e))
      ∙ x.loses b h ∙ omega (arith, lost, e)

  -- where it loses no bit it is as it is read
  pub as_read : a ≡ 0 → v ≡ number l.nc (drop view.at y)
  as_read none = no_loss l.nc v (drop view.at y) (x.small b h) (loses ∙ none)

  -- it has at least the first number of ones more than the bits that it takes, and at most the last
  pub ones-first : view.seen.ones + view.first ≤ ones (digits l.nc v)
  ones-first = (ones_between l.nc a v view.at y see.few loses see.seen see.more).0

  pub ones-last : ones (digits l.nc v) ≤ view.seen.ones + view.last
  ones-last = (ones_between l.nc a v view.at y see.few loses see.seen see.more).1

  -- with just g of them, what it brings is in the span
  in_span : (g : ℕ) (none span : Span) → none.low ≡ 0 → none.high ≡ 0 → ones (digits l.nc v) ≡ view.seen.ones + g
      → Wider l.nc (get_or heavy.block b 0 * l.nc) a view.seen g none span
      → (span.low ≤ 2 * brings_at l heavy vs j b) × (2 * brings_at l heavy vs j b ≤ span.high)
  in_span g none span p q just w =
      let one =
      one_wider l.nc (get_or heavy.block b 0 * l.nc) a v (drop view.at y) loses view.seen g none span
      see.few see.seen just w in
      (omega (arith, one, p), omega (arith, one, q))

-- the choice with just g ones more
pub listed-one : {l : Layout} {y : List ℕ} {heavy : Heavy} {z : List ℕ} {j b left one : ℕ} (h : b < heavy.n) (a g : ℕ)
    (view : View) (none span : Span) (adds other : ℕ) {exit : List ℕ} {t : ℕ} → none.low ≡ 0 → none.high ≡ 0 → a ≤ left
    → Viewed l y heavy j b left a view → Wider l.nc (get_or heavy.block b 0 * l.nc) a view.seen g none span
    → ((u : ℕ) → (a ≡ 0 → u ≡ number l.nc (drop view.at y))
    → cond (eqb u (get_or z (chunk_at l heavy j b) 0)) 0 1 ≤ other)
    → other ≤ 1 → adds ≡ (left - a) * one → Put t adds span other exit
    → ChoicesOf l y heavy z j b left one exit t (t + 1)
    (λ next vs. (left ≡ next b + a) × (ones (digits l.nc (value_at l heavy vs j b)) ≡ view.seen.ones + g))
listed-one {l} {y} {heavy} {z} {j} {b} {left} {one} h a g view none span adds other {exit} {t} p q few see w
    like low is put =
    record {
      order = omega arith;
      small = λ u d k.
          let same : u ≡ t = omega arith in
          let top : (left - a) * one ≤ left * one = mul-le-mul_right one (omega arith) in
          rw same (record {
            adds_small = omega (arith, put.adds_is, is, top);
            least-small = omega (arith, put.least_is, w.low_small, p);
            most-small = omega (arith, put.most_is, w.high_small, q);
            other-small = omega (arith, put.other_is, low);
          });
      offers = λ numbers row vs own next e x r.
          let has = in_span x h e a r.0 see g none span p q r.1 w in
          let its : (left - a) * one ≡ next b * one = ap (λ (k : ℕ). k * one) (omega (arith, r.0)) in
          let like-own = like (value_at l heavy vs j b) (as_read x h e a r.0 see) in (
            t,
            (
              (omega arith, omega arith),
              record {
                adds_just = put.adds_is ∙ is ∙ its;
                least = omega (arith, put.least_is, has);
                most = omega (arith, put.most_is, has);
                other = omega (arith, put.other_is, like-own);
              },
            ),
          );
    }
