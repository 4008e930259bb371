-- Mending packed bits: the string that they hold, and the bytes of the mended one. Assumes nothing.
use Prim.Native.Nat.{ℕ, ◌+◌, ◌-◌, ◌*◌, ◌%◌, ◌<◌, ◌≤◌}
use mathlib.Core.Path.{◌≡◌, sym, ap, ◌∙◌, subst}
use mathlib.Core.Bool.{true}
use mathlib.Core.List.{List, ◌∷◌, ◌++◌, append_assoc}
use native.Mathlib.Omega.{arith}
use lib.ListN.{length, take, drop, take-append-drop}
use lib.Seq.{take-append-le, drop-append-le}
use Rattle.bits.specs.Bits.{AllBits, bytes, bytes_for, pack, unpack, blank}
use Rattle.bits.proofs.Laws.{bits-take, bits-unpack}
use Rattle.bits.proofs.Packing.{bytes-blank, fits-blank, length_string}
use Rattle.vt.specs.Mend.{mended}
use Rattle.vt.specs.Ones.{ones}
use Rattle.vt.specs.Sum.{total}
use Rattle.vt.proofs.Mending.{Mends, mended-only, puts}
use Rattle.vt.proofs.Refusing.{Fit}
use Rattle.vt.proofs.Totals.{put_adds}
use Rattle.vt.proofs.Weighing.{ones-append, total-append, blank-ones, blank-total}

-- the string that the packed bits hold
abbrev held : (w : ℕ) (p : List ℕ) → List ℕ
held w p = take (w - 1) (unpack p)

module _ (w s : ℕ) (p : List ℕ) (room : ℕ) (f : Fit w s p room) where
  -- it has w - 1 elements, each a bit
  held-length : length (held w p) ≡ w - 1
  held-length = length_string (w - 1) p f.1.1.0

  held-bits : AllBits (held w p)
  held-bits = bits-take (w - 1) (unpack p) (bits-unpack p)

  -- behind it come zeros
  spare : blank (drop (w - 1) (unpack p)) ≡ true
  spare = fits-blank (w - 1) p f.1.1.0

  split : unpack p ≡ held w p ++ drop (w - 1) (unpack p)
  split = sym (take-append-drop (w - 1) (unpack p))

  -- which do not change its total, nor the ones from a place on
  held-total : total 1 (unpack p) ≡ total 1 (held w p)
  held-total =
      ap (total 1) split ∙ total-append 1 (held w p) (drop (w - 1) (unpack p))
      ∙ omega (arith, blank-total (1 + length (held w p)) (drop (w - 1) (unpack p)) spare)

  behind : (at : ℕ) → at ≤ w - 1 → drop at (unpack p) ≡ drop at (held w p) ++ drop (w - 1) (unpack p)
  behind at h = ap (drop at) split ∙ drop-append-le at (held w p) (drop (w - 1) (unpack p)) (omega (arith, held-length))

  held-ones : (at : ℕ) → at ≤ w - 1 → ones (drop at (unpack p)) ≡ ones (drop at (held w p))
  held-ones at h =
      ap ones (behind at h) ∙ ones-append (drop at (held w p)) (drop (w - 1) (unpack p))
      ∙ omega (arith, blank-ones (drop (w - 1) (unpack p)) spare)

  module _ (at b t : ℕ) (h : at ≤ w - 1) (small : b < 2) (adds : (at + 1) * b + ones (drop at (unpack p)) ≡ t)
      (lacks : (total 1 (unpack p) + t) % (w + 1) ≡ s) where
    -- the string with the bit put in
    abbrev put : List ℕ
    put = take at (held w p) ++ (b ∷ drop at (held w p))

    mends : Mends w s (held w p) put
    mends =
        let m : length (held w p) + 2 ≡ w + 1 = omega (arith, held-length, f.0.0) in
        let n : length (held w p) + 1 ≡ w = omega (arith, held-length, f.0.0) in
        let g =
        put_adds at b t (at + 1) (held w p) (omega (arith, held-length)) (omega arith) (rw (held-ones at h) at adds) in
        subst (λ (v : ℕ). Mends v s (held w p) put) n
        (puts at b t s (held w p) held-bits small g (rw m (rw held-total at lacks)))

    -- its bytes are the mended string's
    pub put-mended : bytes (bytes_for w) (take at (unpack p) ++ (b ∷ drop at (unpack p))) ≡ pack (mended w s (held w p))
    unfolding pack
    put-mended =
        let z : List ℕ = drop (w - 1) (unpack p) in
        let front : take at (unpack p) ≡ take at (held w p) =
        ap (take at) split ∙ take-append-le at (held w p) z (omega (arith, held-length)) in
        rw (front, behind at h)
        (ap (bytes (bytes_for w)) (sym (append_assoc (take at (held w p)) (b ∷ drop at (held w p)) z))
        ∙ bytes-blank (bytes_for w) put z spare)
        ∙ sym (ap (λ (n : ℕ). bytes (bytes_for n) put) mends.row.0) ∙ ap pack (mended-only w s (held w p) put mends)
