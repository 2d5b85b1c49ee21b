use Rattle.cg_ask.proofs.Released.{WaitBelow}
use Rattle.cg_ask.proofs.dying.places_of.Given as goal

abbrev pub invariant-places : goal.invariant-places
invariant-places l = WaitBelow l.marks l.at l.places.items
