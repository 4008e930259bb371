-- What the tactics leave open of `vt::mend`.
use Rattle.std.proofs.Common.{length}
use Rattle.std.proofs.lemmas.Result.{err_from_is_err_and}
use Rattle.vt.proofs.Refusing.{admitted, done_number, refused_number, target_done, target_refused}
use Rattle.vt.proofs.mend.Goals as goal

pub returns-in_err-check : goal.returns-in_err-check
returns-in_err-check c =
    let a = c.args in
    let q = c.in_err-check.field-0.0 in
    let p = err_from_is_err_and c.from_residual.result c.from_residual.ensures.1 in
    rw (p.1, p.2)
    (c.in_err-check.ensures, target_refused a.w a.s a.bits.now a.out.now q (refused_number q _ c.in_err-check.ensures))

pub mend_packed-requires : goal.mend_packed-requires
mend_packed-requires c =
    let a = c.args in
    admitted a.w a.s a.bits.now (length a.out.now) (done_number c.in_ok-check.field-0 _ c.in_ok-check.ensures)

pub returns : goal.returns
returns c =
    let a = c.args in (
      c.in_ok-check.ensures,
      target_done a.w a.s a.bits.now a.out.now c.mend_packed.new.out
          (done_number c.in_ok-check.field-0 _ c.in_ok-check.ensures) c.mend_packed.ensures,
    )
