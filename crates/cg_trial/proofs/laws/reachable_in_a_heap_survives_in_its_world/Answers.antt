use Rattle.cg_graph.proofs.Reachable.{reachable_alike, unreachable_alike}
use Rattle.cg_trial.specs.Worlds.{all_holdings}
use Rattle.cg_trial.proofs.Worlds.{counts_alike}
use Rattle.cg_trial.proofs.laws.reachable_in_a_heap_survives_in_its_world.Goals as goal

pub returns-clause-reachable : goal.returns-clause-reachable
returns-clause-reachable c store objects names stack stands p o = reachable_alike store (all_holdings objects names stack) p
    (counts_alike store objects names stack stands) objects stands.same_objects o

pub returns-clause-unreachable : goal.returns-clause-unreachable
returns-clause-unreachable c store objects names stack stands p o = unreachable_alike store (all_holdings objects names stack) p
    (counts_alike store objects names stack stands) objects stands.same_objects o
