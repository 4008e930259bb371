-- What the tactics leave open of `bits::fits`.
use Rattle.std.proofs.Common.{◌≡◌, ◌≢◌, ◌-◌, ◌*◌, ℕ, List, length, drop, eqb, refl, sym, ap, ◌∙◌, arith, length-drop, ne_eqb}
use Rattle.bits.specs.Bits.{number, unpack, bytes_for, fits}
use Rattle.bits.proofs.Laws.{bits-drop, bits-unpack, length-unpack}
use Rattle.bits.proofs.Packing.{blank-number, fits_by}
use Rattle.bits.proofs.fits.Goals as goal

pub returns-then-s-n : goal.returns-then-s-n
unfolding fits
returns-then-s-n c =
    let n : length c.args.s.now ≢ bytes_for c.args.w = omega arith in
    rw (ne_eqb _ _ n) refl

pub returns : goal.returns
returns c =
    let a = c.args in
    let s : List ℕ = a.s.now in
    let spare : List ℕ = drop a.w (unpack s) in
    let m : c.div_ceil-n.result ≡ bytes_for a.w = omega arith in
    let n : length s ≡ bytes_for a.w = omega arith in
    let k : ℕ = bytes_for a.w * 8 - a.w in
    let size : length spare ≡ k = omega (arith, length-drop a.w (unpack s), length-unpack s, n) in
    let all = blank-number k spare (bits-drop a.w (unpack s) (bits-unpack s)) size in
    fits_by a.w s _ n (all ∙ sym (ap (λ (v : ℕ). eqb v 0)
    (c.take-spare.ensures.0 ∙ ap (λ (b : ℕ). number (b * 8 - a.w) spare) m)))
