-- What `live::floors_of` keeps in its loop: the states passed have their floors.
use Rattle.live.proofs.Floors.{Flooring}
use Rattle.live.proofs.floors_of.Given as goal

abbrev pub invariant-loop-q : goal.invariant-loop-q
invariant-loop-q l = Flooring l.columns l.shape l.digits l.after l.room l.j l.floors l.q
