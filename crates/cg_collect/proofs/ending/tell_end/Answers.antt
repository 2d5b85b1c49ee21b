use Rattle.std.proofs.Common.{refl, arith}
use Rattle.cg_collect.proofs.NothingIsMade.{keeps_all}
use Rattle.cg_collect.proofs.Stopping.{turn-stopped}
use Rattle.cg_collect.proofs.TakingTurns.{tells}
use Rattle.cg_collect.proofs.ending.tell_end.Goals as goal

pub returns-clause-takes : goal.returns-clause-takes
returns-clause-takes c = λ script store policy.
    tells c.tells.ensures (turn-stopped script c.args.facts store policy c.args.number) tt tt (λ n few. few) (omega arith, refl) (keeps_all store)
