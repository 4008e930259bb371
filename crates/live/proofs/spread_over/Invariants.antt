-- What `live::spread_over` keeps in its loop: the fresh marks of the states passed are raised.
use Rattle.states.specs.States.{each}
use Rattle.live.specs.Passes.{Spread}
use Rattle.live.proofs.spread_over.Given as goal

abbrev pub invariant-loop-q : goal.invariant-loop-q
invariant-loop-q l =
    Spread l.l l.y l.numbers l.heavy l.known l.z l.digits l.j (each l.other) l.there l.marks l.at l.low l.q
    l.initial.fresh l.fresh
