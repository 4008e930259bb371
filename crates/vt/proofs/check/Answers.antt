-- What the tactics leave open of `vt::check`.
use Rattle.std.proofs.Common.{refl, sym, ◌∙◌, arith}
use Rattle.vt.proofs.Refusing.{too_short, too_long, no_sum, not_packed, no_room, none}
use Rattle.vt.proofs.check.Goals as goal
use Rattle.vt.proofs.check.Goals.{then-w-lt1-via-then-w-lt1, then-w-lt1-via-else-w-lt1+then-w-gt-LONGEST}

pub returns-then-w-lt1 : goal.returns-then-w-lt1
returns-then-w-lt1 c =
    let a = c.args in
    elim c.then-w-lt1.branch [
      | then-w-lt1-via-then-w-lt1 k ↦ rw (too_short a.w a.s a.bits.now a.room (omega arith)) refl
      | then-w-lt1-via-else-w-lt1+then-w-gt-LONGEST k ↦
          rw (too_long a.w a.s a.bits.now a.room (omega arith) (omega arith)) refl
    ]

pub returns-then-w-s : goal.returns-then-w-s
returns-then-w-s c =
    let a = c.args in
    rw (no_sum a.w a.s a.bits.now a.room (omega arith) (omega arith) (omega arith)) refl

pub returns-then-not-fits : goal.returns-then-not-fits
returns-then-not-fits c =
    let a = c.args in
    let n = sym c.fits.ensures ∙ c.if-not-fits.true in
    rw (not_packed a.w a.s a.bits.now a.room (omega arith) (omega arith) (omega arith) n) refl

pub returns-then-room-div_ceil : goal.returns-then-room-div_ceil
returns-then-room-div_ceil c =
    let a = c.args in
    let n = sym c.fits.ensures ∙ c.if-not-fits.false in
    rw (no_room a.w a.s a.bits.now a.room (omega arith) (omega arith) (omega arith) n (omega arith)) refl

pub returns : goal.returns
returns c =
    let a = c.args in
    let n = sym c.fits.ensures ∙ c.if-not-fits.false in
    rw (none a.w a.s a.bits.now a.room (omega arith) (omega arith) (omega arith) n (omega arith)) refl
