use Rattle.std.proofs.Common.{refl, ap, inr, length, arith}
use Rattle.cg_collect.proofs.NothingIsMade.{keeps_all}
use Rattle.cg_collect.proofs.FinalizerPhase.{turn-given_up}
use Rattle.cg_collect.proofs.TakingTurns.{gives_up}
use Rattle.cg_collect.proofs.finalizing.after_finalizer.Goals as goal

pub returns : goal.returns
returns c = λ script facts store policy ready.
    gives_up c.gives_up.ensures (turn-given_up script facts store policy c.args.object c.of.result c.of.ensures)
    ready tt (let one = ap length c.of.ensures in inr (refl, omega (arith, one))) tt (λ n few. few) (omega arith, refl) (keeps_all store)
