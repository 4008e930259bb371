-- The one law of the checks: a check and 2 ^ c times the one before it have no term of chunk c left, and keep the
-- others as terms. So as many checks as there are erased chunks fix their contents. Assumes nothing.
use Prim.Native.Nat.{ℕ, zero, suc, ◌+◌, ◌-◌, ◌*◌, ◌^◌, ◌<◌, ◌≤◌}
use mathlib.Core.Path.{◌≡◌, sym, ap, ap₂, ◌∙◌}
use mathlib.Core.List.{List}
use native.Mathlib.Nat.{zero-mul, suc-mul, add_comm}
use native.Mathlib.Decide.{ℕ_discrete}
use native.Mathlib.Omega.{arith}
use lib.Bits.{bit_xor, xor_self, xor_zero_l, xor_zero_r, xor_lt}
use lib.ListN.{length, get_or, set}
use lib.Seq.{get_or-set_same, get_or-set_other}
use lib.Pow.{pow_pos}
use Rattle.field.specs.Field.{Element, power, times}
use Rattle.field.proofs.Double.{power_element}
use Rattle.field.proofs.Generator.{log_unique, times_comm, times_assoc}
use Rattle.field.proofs.Times.{times-xor, times_of_zero, times_element, times_of_xor, times-one, times_power, power-order}
use Rattle.field.proofs.Xor.{xor_assoc, xor_cross, xor_same}
use Rattle.erasures.specs.Erasures.{brought, Brings, without, scaled, Places, Contents}

-- a summand is the sum and the other summand
pub other_summand : (a b : ℕ) → bit_xor (bit_xor a b) b ≡ a
other_summand a b = xor_assoc a b b ∙ ap (bit_xor a) (xor_self b) ∙ xor_zero_r a

-- ---- entries of a list, one of them set
-- what holds of each entry, and of the new one, holds of each afterwards
pub set-each : (P : ℕ → ℕ → Type 0) (xs : List ℕ) (i v : ℕ) → i < length xs
    → ((k : ℕ) → (k ≡ i → ⊥) → P k (get_or xs k 0)) → P i v
    → (k : ℕ) → P k (get_or (set xs i v) k 0)
set-each P xs i v l h p k = go (ℕ_discrete k i)
  where
    go : Dec (k ≡ i) → P k (get_or (set xs i v) k 0)
    go (yes e) = rw (e, get_or-set_same xs i v 0 l) p
    go (no n) = rw (get_or-set_other xs i k v 0 n) (h k n)

-- rest has the contents e after the u-th, scaled
abbrev pub Scaled : (nc : ℕ) (c : ℕ → ℕ) (n u : ℕ) (rest : List ℕ) (e : ℕ → ℕ) → Type 0
Scaled nc c n u rest e = (w : ℕ) → u < w → w < n → get_or rest w 0 ≡ scaled nc c e u w

-- the contents before the z-th stand in out, and what is left of the first check is that of the others
abbrev pub Settled : (nc : ℕ) (c : ℕ → ℕ) (n u first : ℕ) (rest out : List ℕ) (sum z : ℕ) → Type 0
Settled nc c n u first rest out sum z =
    (e : ℕ → ℕ) → Contents nc e → Scaled nc c n u rest e
    → ((w : ℕ) → u < w → w < z → get_or out w 0 ≡ e w)
    × (bit_xor sum (brought nc 0 c e z (n - z)) ≡ bit_xor first (brought nc 0 c e (u + 1) (n - (u + 1))))

module _ (nc : ℕ) (lo : 3 ≤ nc) (hi : nc ≤ 8) where
  -- the next power of a chunk's place
  power-up : (i c : ℕ) → power nc (suc i * c) ≡ times nc (power nc c) (power nc (i * c))
  power-up i c =
      ap (power nc) (suc-mul i c ∙ add_comm (i * c) c) ∙ sym (times_power nc lo hi c (i * c))

  -- a term of the next check is 2 ^ c times the term of this one
  term_up : (i c e : ℕ) → Element nc e
      → times nc (power nc (suc i * c)) e ≡ times nc (power nc c) (times nc (power nc (i * c)) e)
  term_up i c e h =
      ap (λ (p : ℕ). times nc p e) (power-up i c)
      ∙ times_assoc nc lo hi (power nc c) (power nc (i * c)) e (power_element nc lo hi c)
      (power_element nc lo hi (i * c)) h

  -- factors change places
  swap : (s p e : ℕ) → Element nc s → Element nc p → Element nc e → times nc s (times nc p e) ≡ times nc p (times nc s e)
  swap s p e hs hp he =
      sym (times_assoc nc lo hi s p e hs hp he)
      ∙ ap (λ (t : ℕ). times nc t e) (times_comm nc lo hi s p hs hp)
      ∙ times_assoc nc lo hi p s e hp hs he

  -- another chunk's term stays a term, of the content times the sum of the two powers
  pub other-term : (i c d e : ℕ) → Element nc e
      → bit_xor (times nc (power nc (suc i * d)) e) (times nc (power nc c) (times nc (power nc (i * d)) e))
      ≡ times nc (power nc (i * d)) (times nc (bit_xor (power nc d) (power nc c)) e)
  other-term i c d e h =
      let u : ℕ = times nc (power nc (i * d)) e in
      ap (λ (t : ℕ). bit_xor t (times nc (power nc c) u)) (term_up i d e h)
      ∙ sym (times-xor nc (power nc d) (power nc c) u)
      ∙ swap (bit_xor (power nc d) (power nc c)) (power nc (i * d)) e
      (xor_lt nc (power nc d) (power nc c) (power_element nc lo hi d) (power_element nc lo hi c))
      (power_element nc lo hi (i * d)) h

  module _ (c e : ℕ → ℕ) (he : Contents nc e) where
    term-element : (i z : ℕ) → Element nc (times nc (power nc (i * c z)) (e z))
    term-element i z = times_element nc lo hi (power nc (i * c z)) (e z) (he z)

    pub brought_element : (i u k : ℕ) → Element nc (brought nc i c e u k)
    unfolding brought
    brought_element i u zero = pow_pos nc
    brought_element i u (suc k) =
        xor_lt nc (times nc (power nc (i * c u)) (e u)) (brought nc i c e (suc u) k) (term-element i u)
        (brought_element i (suc u) k)

    -- what the chunks from the v-th on bring once the u-th is taken out
    others : (i u v k : ℕ)
        → bit_xor (brought nc (suc i) c e v k) (times nc (power nc (c u)) (brought nc i c e v k))
        ≡ brought nc i c (scaled nc c e u) v k
    unfolding brought
    others i u v zero = ap (bit_xor 0) (times_of_zero nc (power nc (c u)))
    others i u v (suc k) =
        let g : ℕ = power nc (c u) in
        let a : ℕ = times nc (power nc (suc i * c v)) (e v) in
        let t : ℕ = times nc (power nc (i * c v)) (e v) in
        let b : ℕ = brought nc (suc i) c e (suc v) k in
        let d : ℕ = brought nc i c e (suc v) k in
        ap (bit_xor (bit_xor a b)) (times_of_xor nc lo hi g t d (term-element i v) (brought_element i (suc v) k))
        ∙ xor_cross a b (times nc g t) (times nc g d)
        ∙ ap₂ bit_xor (other-term i (c u) (c v) (e v) (he v)) (others i u (suc v) k)

    -- the u-th chunk is taken out: what the later ones bring is left, with their contents scaled
    taken_out : (ss : List ℕ) (u k : ℕ) → Brings nc ss c e u (suc k)
        → (i : ℕ) → i < k
        → without nc (c u) (get_or ss i 0) (get_or ss (suc i) 0) ≡ brought nc i c (scaled nc c e u) (suc u) k
    unfolding brought
    taken_out ss u k h i l =
        let g : ℕ = power nc (c u) in
        let a : ℕ = times nc (power nc (suc i * c u)) (e u) in
        let t : ℕ = times nc (power nc (i * c u)) (e u) in
        let b : ℕ = brought nc (suc i) c e (suc u) k in
        let d : ℕ = brought nc i c e (suc u) k in
        let gone : bit_xor a (times nc g t) ≡ 0 =
        ap (λ (v : ℕ). bit_xor v (times nc g t)) (term_up i (c u) (e u) (he u)) ∙ xor_self (times nc g t)
        in
        ap₂ (λ (p q : ℕ). bit_xor p (times nc g q)) (h (suc i) (omega arith)) (h i (omega arith))
        ∙ ap (bit_xor (bit_xor a b)) (times_of_xor nc lo hi g t d (term-element i u) (brought_element i (suc u) k))
        ∙ xor_cross a b (times nc g t) (times nc g d)
        ∙ ap₂ bit_xor gone (others i u (suc u) k)
        ∙ xor_zero_l (brought nc i c (scaled nc c e u) (suc u) k)

    -- the numbers that are left bring the later contents, scaled
    pub brings-next : (ss left : List ℕ) (n u : ℕ) → u < n → Brings nc ss c e u (n - u)
        → ((i : ℕ) → suc i < n - u → get_or left i 0 ≡ without nc (c u) (get_or ss i 0) (get_or ss (suc i) 0))
        → Brings nc left c (scaled nc c e u) (u + 1) (n - (u + 1))
    brings-next ss left n u h b f i l =
        let k : n - u ≡ suc (n - (u + 1)) = omega arith in
        let up : suc u ≡ u + 1 = omega arith in
        f i (omega arith)
        ∙ taken_out ss u (n - (u + 1)) (λ j q. b j (omega arith) ∙ ap (brought nc j c e u) k) i l
        ∙ ap (λ (m : ℕ). brought nc i c (scaled nc c e u) m (n - (u + 1))) up

    pub scaled_contents : (u : ℕ) → Contents nc (scaled nc c e u)
    scaled_contents u z = times_element nc lo hi (bit_xor (power nc (c z)) (power nc (c u))) (e z) (he z)

    -- what the chunks bring to the first check is the sum of their contents
    pub first-check : (u k : ℕ) → brought nc 0 c e u (suc k) ≡ bit_xor (e u) (brought nc 0 c e (suc u) k)
    unfolding brought power
    first-check u k =
        ap (λ (t : ℕ). bit_xor t (brought nc 0 c e (suc u) k))
        (ap (λ (p : ℕ). times nc (power nc p) (e u)) (zero-mul (c u)) ∙ times-one nc lo hi (e u))

  -- the contents of the other chunks are scaled by what is not 0
  apart-power : (n : ℕ) (c : ℕ → ℕ) → Places nc n c → (z u : ℕ) → z < n → u < n → (z ≡ u → ⊥)
      → 0 < bit_xor (power nc (c z)) (power nc (c u))
  apart-power n c p z u hz hu ne =
      let same : power nc (c z) ≡ power nc (c u) → c z ≡ c u =
      log_unique nc lo hi (c z) (c u) (p.low z hz) (p.low u hu) in
      let apart : bit_xor (power nc (c z)) (power nc (c u)) ≡ 0 → ⊥ =
      λ h. ne (p.apart z u hz hu (same (xor_same (power nc (c z)) (power nc (c u)) h)))
      in
      omega arith

  -- and by an element of the field
  pub divisor : (n : ℕ) (c : ℕ → ℕ) → Places nc n c → (z u : ℕ) → z < n → u < z → u < n
      → (p q : ℕ) → p ≡ power nc (c z) → q ≡ power nc (c u)
      → Element nc (bit_xor p q) × (0 < bit_xor p q)
  divisor n c places z u hz lt hu p q e f =
      rw (e, f) (
        xor_lt nc (power nc (c z)) (power nc (c u)) (power_element nc lo hi (c z)) (power_element nc lo hi (c u)),
        apart-power n c places z u hz hu (λ s. omega arith),
      )

  -- what undoes a factor undoes it before any other
  undone : (q d e : ℕ) → Element nc q → Element nc d → Element nc e → times nc q d ≡ 1 → times nc q (times nc d e) ≡ e
  undone q d e hq hd he h =
      sym (times_assoc nc lo hi q d e hq hd he) ∙ ap (λ (t : ℕ). times nc t e) h ∙ times-one nc lo hi e

  -- a quotient by 2 ^ 0
  pub quotient_one : (x d e : ℕ) → power nc 0 ≡ d → x ≡ times nc d e → x ≡ e
  unfolding power
  quotient_one x d e h f = f ∙ ap (λ (t : ℕ). times nc t e) (sym h) ∙ times-one nc lo hi e

  -- a quotient by 2 ^ j is a product with the power that j lacks to the order
  pub quotient : (x d e j r : ℕ) → Element nc e → j + 1 < 2 ^ nc → power nc j ≡ d
      → r ≡ times nc (power nc (2 ^ nc - 1 - j)) x
      → x ≡ times nc d e → r ≡ e
  quotient x d e j r he l h g f =
      let q : ℕ = 2 ^ nc - 1 - j in
      let m : q + j ≡ 2 ^ nc - 1 = omega arith in
      let one : times nc (power nc q) d ≡ 1 =
      ap (times nc (power nc q)) (sym h) ∙ times_power nc lo hi q j ∙ ap (power nc) m ∙ power-order nc lo hi
      in
      let hd : Element nc d = rw h at (power_element nc lo hi j) in
      g ∙ ap (times nc (power nc q)) f ∙ undone (power nc q) d e (power_element nc lo hi q) hd he one

  -- ---- the last step: the contents after the u-th unscaled one by one, and the sum of what is left for the u-th itself
  module _ (c : ℕ → ℕ) (n u first : ℕ) (rest : List ℕ) where
    pub settled_next : (out : List ℕ) (sum z v : ℕ) → u < z → z < n → z < length out
        → ((x : ℕ) → Element nc x → get_or rest z 0 ≡ times nc (bit_xor (power nc (c z)) (power nc (c u))) x → v ≡ x)
        → Settled nc c n u first rest out sum z → Settled nc c n u first rest (set out z v) (bit_xor sum v) (z + 1)
    settled_next out sum z v a b l d s e he h =
        let is : v ≡ e z = d (e z) (he z) (h z a b) in
        let k : n - z ≡ suc (n - (z + 1)) = omega arith in
        let up : suc z ≡ z + 1 = omega arith in
        let r = s e he h in
        let whole : brought nc 0 c e z (n - z) ≡ bit_xor (e z) (brought nc 0 c e (z + 1) (n - (z + 1))) =
        ap (brought nc 0 c e z) k ∙ first-check c e he z (n - (z + 1))
        ∙ ap (λ (m : ℕ). bit_xor (e z) (brought nc 0 c e m (n - (z + 1)))) up
        in (
          set-each (λ (w x : ℕ). u < w → w < z + 1 → x ≡ e w) out z v l (λ w ne p q. r.0 w p (omega arith)) (λ p q. is),
          ap (λ (x : ℕ). bit_xor (bit_xor sum x) (brought nc 0 c e (z + 1) (n - (z + 1)))) is
              ∙ xor_assoc sum (e z) (brought nc 0 c e (z + 1) (n - (z + 1)))
              ∙ ap (bit_xor sum) (sym whole)
              ∙ r.1,
        )

    pub settled_end : (out : List ℕ) (sum z : ℕ) → n ≤ z → u < n → u < length out → Settled nc c n u first rest out sum z
        → (e : ℕ → ℕ) → Contents nc e → Scaled nc c n u rest e → first ≡ brought nc 0 c e u (n - u)
        → (w : ℕ) → u ≤ w → w < n → get_or (set out u sum) w 0 ≡ e w
    unfolding brought
    settled_end out sum z a b l s e he h f =
        let r = s e he h in
        let none : n - z ≡ 0 = omega arith in
        let k : n - u ≡ suc (n - (u + 1)) = omega arith in
        let up : suc u ≡ u + 1 = omega arith in
        let others : ℕ = brought nc 0 c e (u + 1) (n - (u + 1)) in
        let whole : first ≡ bit_xor (e u) others =
        f ∙ ap (brought nc 0 c e u) k ∙ first-check c e he u (n - (u + 1))
        ∙ ap (λ (m : ℕ). bit_xor (e u) (brought nc 0 c e m (n - (u + 1)))) up
        in
        let is : sum ≡ e u =
        sym (xor_zero_r sum) ∙ ap (λ (m : ℕ). bit_xor sum (brought nc 0 c e z m)) (sym none) ∙ r.1
        ∙ ap (λ (t : ℕ). bit_xor t others) whole ∙ other_summand (e u) others
        in
        set-each (λ (v x : ℕ). u ≤ v → v < n → x ≡ e v) out u sum l (λ v ne p q. r.0 v (omega arith) (omega arith))
        (λ p q. is)
