-- What the tactics leave open of `vt::put_in`.
use Rattle.std.proofs.Common.{◌-◌, length, drop, ◌∙◌, take_all, length-drop, arith}
use Rattle.vt.proofs.Copies.{both_parts}
use Rattle.vt.proofs.put_in.Goals as goal

pub returns : goal.returns
returns c =
    let a = c.args in
    let x = a.bits.now in
    rw c.copy_from_slice.ensures.after
    (both_parts x a.out.now a.at a.bit c.requires.0 c.requires.1 c.copy_from_slice-2.new.self
    (c.copy_from_slice-2.ensures.after
    ∙ take_all (length x - a.at) (drop a.at x) (omega (arith, length-drop a.at x))))
