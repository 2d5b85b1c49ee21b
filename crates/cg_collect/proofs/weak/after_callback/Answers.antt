use Rattle.std.proofs.Common.{refl, ap, inr, length, arith}
use Rattle.cg_value.specs.declared.Place.TheVariants.{Pend}
use Rattle.cg_graph.specs.Store.{list_at}
use Rattle.cg_collect.proofs.NothingIsMade.{keeps_all}
use Rattle.cg_collect.proofs.Pending.{turn-released, first_left}
use Rattle.cg_collect.proofs.TakingTurns.{gives_up}
use Rattle.cg_collect.proofs.weak.after_callback.Goals as goal

pub returns : goal.returns
returns c = λ script facts store policy ready.
    gives_up c.gives_up.ensures (turn-released script facts store policy c.args.weak ready.2 c.of.result c.of.ensures) (ready.0, λ w m differs. ready.1 w m, ready.3)
    tt (let one = ap length c.of.ensures in inr (refl, omega (arith, one))) tt (λ n few. omega (arith, few, first_left (list_at store Pend) c.args.weak ready.2)) (omega arith, refl) (keeps_all store)
