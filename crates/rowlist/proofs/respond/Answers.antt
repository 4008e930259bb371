-- The parts of the input are listed for, and what is answered is put out.
use Rattle.std.proofs.Common.{rules, List, ℕ, ◌≡◌, ◌∙◌, refl, sym, ap, length, arith}
use lib.Seq.{length-take-le}
use Rattle.bits.specs.Bits.{bytes_for}
use Rattle.consistent.specs.Consistent.{bits_of}
use Rattle.rowtext.specs.Input.{message_in}
use Rattle.rowtext.proofs.Put.{put-within}
use Rattle.rowlist.proofs.Printed.{Answers, answers, number_short}
use Rattle.rowlist.proofs.respond.Goals as goal
use Rattle.rowlist.proofs.respond.Goals.{After-list, After-row_bytes-w}

-- what listing answers for the input
told : (c : After-list) → Answers c.args.input.now c.list.result c.list.new.out
told c =
    let p = c.split-parts.result in
    answers c.args.input.now p.from p.to p.m p.row _ c.list.new.out c.list.result refl c.split-parts.ensures c.list.ensures

-- the bytes of a row
width : (c : After-row_bytes-w) → c.row_bytes-w.result ≡ bytes_for (bits_of (message_in c.args.input.now))
width c = c.row_bytes-w.ensures ∙ ap (λ (t : List ℕ). bytes_for (bits_of t)) c.split-parts.ensures.message

pub put_count-requires : goal.put_count-requires
put_count-requires c =
    let a = told (goal.at.put_count-requires c).After-list in
    let n = c.in-Ok.count in
    let e = c.in-Ok.is in
    let long : length c.list.new.out ≡ 4096 = search rules in
    rw (width (goal.at.put_count-requires c).After-row_bytes-w)
    (omega (arith, a.few n e), (omega (arith, a.fits n e), omega (arith, a.short n e, c.requires)))

pub returns-in-Ok : goal.returns-in-Ok
returns-in-Ok c =
    let t = (told (goal.at.returns-in-Ok c).After-list).rows c.in-Ok.count c.in-Ok.is in
    let put = rw (width (goal.at.returns-in-Ok c).After-row_bytes-w, t) at c.put_count.ensures in
    let within = put-within put (omega arith) in
    (put, (within, sym (length-take-le c.put_count.result c.put_count.new.out within)))

pub put_refused-requires : goal.put_refused-requires
put_refused-requires c = (omega (arith, c.from.ensures, number_short c.in-Err.q), omega (arith, c.requires))

pub returns-in-Err : goal.returns-in-Err
returns-in-Err c =
    let t = (told (goal.at.returns-in-Err c).After-list).refused c.in-Err.q c.in-Err.is in
    let put = rw (c.from.ensures, t) at c.put_refused.ensures in
    let within = put-within put (omega arith) in
    (put, (within, sym (length-take-le c.put_refused.result c.put_refused.new.out within)))
