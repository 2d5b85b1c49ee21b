use Rattle.std.proofs.Common.{refl, inl, sym, arith}
use Rattle.cg_value.specs.declared.Place.TheVariants.{Cand}
use Rattle.cg_graph.specs.Store.{list_at}
use Rattle.cg_death.proofs.Clearing.{none_first}
use Rattle.cg_collect.proofs.NothingIsMade.{keeps_all}
use Rattle.cg_collect.proofs.TakingTurns.{goes_on}
use Rattle.cg_collect.proofs.ClearingTurns.{turn-ending}
use Rattle.cg_collect.proofs.turns.take_turn.Goals as goal

pub returns-in-None : goal.returns-in-None
returns-in-None g c = λ script policy.
    let store = c.args.heap.now in
    goes_on c.to.ensures (turn-ending store c.sound.ensures.listed (sym c.in-None.ensures) script c.args.facts policy)
    (c.requires.ready, none_first (list_at store Cand) (sym c.in-None.ensures)) tt (inl (omega arith)) (λ n few. few) (omega arith, refl) (keeps_all store)
