-- Nothing is held before the guess, and an unset desk has an anchor only once one is set.
use Rattle.found.proofs.Found.{holding_none, grown_nothing, grown_holding}
use Rattle.anchor.proofs.Anchor.{anchored_none}
use Rattle.search.proofs.early_anchor.Goals as goal

pub returns-then-desk-lt-DESK : goal.returns-then-desk-lt-DESK
returns-then-desk-lt-DESK c =
    let a = c.args in
    let nothing = holding_none a.l a.numbers.now a.y.now a.cap a.list.now c.requires.1.0 in
    (grown_nothing nothing (λ x k u. u), anchored_none a.desk.now c.requires.1.1)

pub guess-kept-requires : goal.guess-kept-requires
guess-kept-requires c =
    let a = c.args in
    (c.requires.0, holding_none a.l a.numbers.now a.y.now a.cap a.list.now c.requires.1.0)

pub set_anchor-requires : goal.set_anchor-requires
set_anchor-requires c =
    let a = c.args in
    let nothing = holding_none a.l a.numbers.now a.y.now a.cap a.list.now c.requires.1.0 in
    (c.requires.0, (grown_holding nothing c.guess-kept.ensures, anchored_none a.desk.now c.requires.1.1))
