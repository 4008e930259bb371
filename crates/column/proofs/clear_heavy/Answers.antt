-- `column::clear_heavy` meets its contract. Assumes nothing.
use Rattle.std.proofs.Common.{◌≡◌, get_or, rules}
use Rattle.std.proofs.lemmas.List.{places}
use Rattle.column.proofs.Zeros.{cleared_none, cleared_next}
use Rattle.column.proofs.clear_heavy.Goals as goal

pub loop-block-init : goal.loop-block-init
loop-block-init c = let a = c.args in cleared_none a.l a.heavy a.row.now

pub loop-block-preserved : goal.loop-block-preserved
loop-block-preserved c =
    let a = c.args in
    let p = c.loop-block in
    let e : c.from.result ≡ get_or a.heavy.block p.block-index 0 = search (rules, places) in
    cleared_next a.l a.heavy p.block-index a.row.now p.row c.clear.new.out p.invariant (rw e at c.clear.ensures)
