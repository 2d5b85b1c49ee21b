use Rattle.std.proofs.Common.{◌≡◌, refl, subst, sym, ℕ}
use Rattle.cg_script.specs.declared.Script.{Script}
use Rattle.cg_graph.specs.Store.{Store}
use Rattle.cg_death.specs.declared.phase.Turn.{Turn}
use Rattle.cg_death.specs.declared.phase.Phase.{Phase}
use Rattle.cg_death.specs.Turns.{TakesTurn}
use Rattle.cg_death.proofs.Steps.{turn-over}
use Rattle.cg_death.proofs.LeavingTheRest.{rest-same}
use Rattle.cg_death.proofs.death.turn.Goals as goal

turns_at : {script : Script} {old new : Store} {o : ℕ} {phase now : Phase} {turn : Turn} → phase ≡ now → TakesTurn script old o now new turn → TakesTurn script old o phase new turn
turns_at {script = script} {old = old} {new = new} {o = o} {turn = turn} is takes = subst (λ (p : Phase). TakesTurn script old o p new turn) (sym is) takes

pub returns-in-Finalizer-clause-takes : goal.returns-in-Finalizer-clause-takes
returns-in-Finalizer-clause-takes g c = turns_at c.in-Finalizer.is c.run_finalizer.ensures

pub returns-in-AfterFinalizer-clause-takes : goal.returns-in-AfterFinalizer-clause-takes
returns-in-AfterFinalizer-clause-takes g c = turns_at c.in-AfterFinalizer.is (c.end_finalizer.ensures c.args.script.now)

pub returns-in-Clearing-clause-takes : goal.returns-in-Clearing-clause-takes
returns-in-Clearing-clause-takes g c = turns_at c.in-Clearing.is (c.clear_one.ensures c.args.script.now)

pub returns-in-Calling-clause-takes : goal.returns-in-Calling-clause-takes
returns-in-Calling-clause-takes g c = turns_at c.in-Calling.is (c.call_one.ensures c.args.script.now)

pub returns-in-AfterCall-clause-takes : goal.returns-in-AfterCall-clause-takes
returns-in-AfterCall-clause-takes g c = turns_at c.in-AfterCall.is (c.end_call.ensures c.args.script.now)

pub returns-in-LegacyFinalizer-clause-takes : goal.returns-in-LegacyFinalizer-clause-takes
returns-in-LegacyFinalizer-clause-takes g c = turns_at c.in-LegacyFinalizer.is c.run_legacy.ensures

pub returns-in-AfterLegacy-clause-takes : goal.returns-in-AfterLegacy-clause-takes
returns-in-AfterLegacy-clause-takes g c = turns_at c.in-AfterLegacy.is (c.end_legacy.ensures c.args.script.now)

pub returns-in-Detaching-clause-takes : goal.returns-in-Detaching-clause-takes
returns-in-Detaching-clause-takes g c = turns_at c.in-Detaching.is c.detach_one.ensures

pub returns-in-Emptying-clause-takes : goal.returns-in-Emptying-clause-takes
returns-in-Emptying-clause-takes g c = turns_at c.in-Emptying.is (c.empty_one.ensures c.args.script.now)

pub returns-in-Over-clause-takes : goal.returns-in-Over-clause-takes
returns-in-Over-clause-takes g c =
    turns_at c.in-Over.is
    (record {
      steps = turn-over c.args.script.now c.args.heap.now c.args.object;
      answers = refl;
      falls = λ e. absurd (cc);
      going = λ e. absurd (cc);
      ends = λ e. (refl, refl);
      framed = tt;
      died = tt;
      settled = tt;
      steady = λ s. s;
      rest = rest-same c.args.heap.now;
    })
