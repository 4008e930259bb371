-- The mark and the version, byte by byte. Assumes nothing.
use Prim.Native.Nat.{ℕ, ◌≤◌}
use mathlib.Core.Path.{◌≡◌}
use mathlib.Core.Bool.{true, ◌&&◌}
use mathlib.Core.List.{List}
use borrow.Author.Tests.{leb-true, le-leb, eqb-true}
use lib.Dec.{eqb, leb}
use lib.ListN.{length, get_or}
use Rattle.bits.proofs.Laws.{both_left, both_right}
use Rattle.message.specs.Read.{marked, version_one}

pub record Mark (s : List ℕ) : Type 0 where
  pub long : 9 ≤ length s
  pub first : get_or s 0 0 ≡ 0x52
  pub second : get_or s 1 0 ≡ 0x53
  pub third : get_or s 2 0 ≡ 0x4D

pub mark : (s : List ℕ) → marked s ≡ true → Mark s
unfolding marked
mark s e =
    let m3 = both_left (leb 9 (length s) && eqb (get_or s 0 0) 0x52 && eqb (get_or s 1 0) 0x53) (eqb (get_or s 2 0) 0x4D) e in
    let m2 = both_left (leb 9 (length s) && eqb (get_or s 0 0) 0x52) (eqb (get_or s 1 0) 0x53) m3 in
    record {
      long = leb-true 9 (length s) (both_left (leb 9 (length s)) (eqb (get_or s 0 0) 0x52) m2);
      first = eqb-true (get_or s 0 0) 0x52 (both_right (leb 9 (length s)) (eqb (get_or s 0 0) 0x52) m2);
      second =
          eqb-true (get_or s 1 0) 0x53 (both_right (leb 9 (length s) && eqb (get_or s 0 0) 0x52) (eqb (get_or s 1 0) 0x53) m3);
      third =
          eqb-true (get_or s 2 0) 0x4D
          (both_right (leb 9 (length s) && eqb (get_or s 0 0) 0x52 && eqb (get_or s 1 0) 0x53) (eqb (get_or s 2 0) 0x4D) e);
    }

pub is_marked : (s : List ℕ) → Mark s → true ≡ marked s
unfolding marked
is_marked s m = simp (le-leb 9 (length s) m.long, m.first, m.second, m.third)

pub record VersionOne (s : List ℕ) : Type 0 where
  pub high : get_or s 3 0 ≡ 0x00
  pub low : get_or s 4 0 ≡ 0x01

pub version : (s : List ℕ) → version_one s ≡ true → VersionOne s
unfolding version_one
version s e = record {
  high = eqb-true (get_or s 3 0) 0x00 (both_left (eqb (get_or s 3 0) 0x00) (eqb (get_or s 4 0) 0x01) e);
  low = eqb-true (get_or s 4 0) 0x01 (both_right (eqb (get_or s 3 0) 0x00) (eqb (get_or s 4 0) 0x01) e);
}

pub is_version : (s : List ℕ) → VersionOne s → true ≡ version_one s
unfolding version_one
is_version s v = simp (v.high, v.low)
