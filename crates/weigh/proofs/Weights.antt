-- How much the total of the positions of a string's ones can differ from that of what deleting leaves of it. Rests on
-- the deletion relation of rows. Assumes nothing.
use Prim.Native.Nat.{ℕ, zero, suc, ◌+◌, ◌*◌, ◌<◌, ◌≤◌}
use mathlib.Core.Path.{◌≡◌, refl}
use mathlib.Core.List.{List, [], ◌∷◌}
use native.Mathlib.Omega.{arith}
use lib.ListN.{length}
use Rattle.bits.specs.Bits.{AllBits}
use Rattle.rows.proofs.Deletion.{Strikes, done, stays, struck, strikes_length}
use Rattle.vt.specs.Ones.{ones}
use Rattle.vt.specs.Sum.{total}
use Rattle.vt.proofs.Totals.{times_bit, total_up, ones-length}

-- of the a bits that v has more than w so many are ones and zeros, and twice the total of the positions of v's ones
-- lies between that with these ones in front and the zeros behind, and that with the zeros in front and the ones behind
pub record Weighs (v : List ℕ) (a : ℕ) (w : List ℕ) : Type 0 where
  pub some : ℕ
  pub none : ℕ
  pub all : a ≡ some + none
  pub count : ones v ≡ ones w + some
  pub least : 2 * total 1 w + some * (2 * ones w + some + 1) ≤ 2 * total 1 v
  pub most : 2 * total 1 v ≤ 2 * total 1 w + 2 * (none * ones w) + some * (some + 2 * (none + length w) + 1)

-- a bit more in front
total_front : (b : ℕ) (x : List ℕ) → total 1 (b ∷ x) ≡ b + (total 1 x + ones x)
unfolding total
total_front b x = omega (arith, total_up 1 x)

-- it stays
weighs_stays : (b a : ℕ) (v w : List ℕ) → b < 2 → Weighs v a w → Weighs (b ∷ v) a (b ∷ w)
unfolding ones
weighs_stays b a v w h q =
    let f = total_front b v in
    let g = total_front b w in
    record {
      some = q.some;
      none = q.none;
      all = q.all;
      count = omega (arith, q.count);
      least = omega (arith, q.least, q.count, times_bit q.some b h);
      most = omega (arith, q.most, q.count);
    }

-- it is struck out
weighs_struck : (b a : ℕ) (v w : List ℕ) → b < 2 → ones v ≤ length v → length v ≡ a + length w → Weighs v a w
    → Weighs (b ∷ v) (suc a) w
unfolding ones
weighs_struck zero a v w h l n q =
    let f = total_front 0 v in
    record {
      some = q.some;
      none = suc q.none;
      all = omega (arith, q.all);
      count = omega (arith, q.count);
      least = omega (arith, q.least, q.count);
      most = omega (arith, q.most, q.count);
    }
weighs_struck (suc zero) a v w h l n q =
    let f = total_front 1 v in
    record {
      some = suc q.some;
      none = q.none;
      all = omega (arith, q.all);
      count = omega (arith, q.count);
      least = omega (arith, q.least, q.count);
      most = omega (arith, q.most, q.count, q.all);
    }
weighs_struck (suc (suc b)) a v w h l n q = absurd (omega arith)

-- whatever is struck out
pub weighs : {v : List ℕ} {a : ℕ} {w : List ℕ} → Strikes v a w → AllBits v → Weighs v a w
unfolding ones total
weighs done b =
    record { some = 0; none = 0; all = refl; count = refl; least = omega arith; most = omega arith }
weighs (stays {b} {k} {x} {y} s) h = weighs_stays b k x y h.0 (weighs s h.1)
weighs (struck {b} {k} {x} {y} s) h =
    weighs_struck b k x y h.0 (ones-length x h.1) (strikes_length s) (weighs s h.1)

-- no total is higher than each position, at most the length, taken once
pub total-small : (x : List ℕ) → AllBits x → total 1 x ≤ length x * length x
unfolding total
total-small [] a = omega arith
total-small (b ∷ x) a =
    omega (arith, total_front b x, total-small x a.1, ones-length x a.1, a.0)
