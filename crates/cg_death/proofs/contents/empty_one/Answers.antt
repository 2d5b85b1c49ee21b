use Rattle.std.proofs.Common.{refl, subst, sym, ap, ◌∙◌, Some}
use Rattle.cg_graph.specs.Changes.{gone}
use Rattle.cg_graph.specs.Value.{without_last}
use Rattle.cg_graph.specs.Store.{entries_of}
use Rattle.cg_machine.specs.declared.event.Event.TheVariants.{Free}
use Rattle.cg_death.specs.declared.phase.Phase.TheVariants as phase_of
use Rattle.cg_death.specs.declared.answer.DeathStep.TheVariants as answer_of
use Rattle.cg_death.specs.Turns.{TakesTurn}
use Rattle.cg_death.proofs.Emptying.{turn-taken, turn-gone}
use Rattle.cg_death.proofs.WorkLeft.{falls-taken}
use Rattle.cg_death.proofs.LeavingTheRest.{rest-taken, rest-gone}
use Rattle.cg_death.proofs.SteadyRows.{steady-taken, steady-gone}
use Rattle.cg_death.proofs.TakingTurns.{tells}
use Rattle.cg_death.proofs.contents.empty_one.Goals as goal

pub returns-in-Some : goal.returns-in-Some
returns-in-Some g c = λ script.
    subst (λ st. TakesTurn script c.args.heap.now c.args.object phase_of.Emptying st (record { phase = phase_of.Emptying; release = Some c.new.result; answer = answer_of.Continue }))
    (sym c.in-Some.ensures.rest)
    (record {
      steps = turn-taken script c.args.heap.now c.args.object c.in-Some.entry c.new.result c.sound.ensures.live c.in-Some.ensures.last c.new.ensures;
      answers = tt;
      falls = λ e. falls-taken c.args.heap.now c.args.object c.in-Some.entry c.new.result c.requires.unheld.live c.in-Some.ensures.last c.new.ensures;
      going = λ e over. absurd (cc);
      ends = λ e. absurd (cc);
      framed = tt;
      died = tt;
      settled = tt;
      steady = steady-taken script c.args.heap.now c.args.object c.in-Some.entry c.new.result c.sound.ensures c.in-Some.ensures.last c.new.ensures;
      rest = rest-taken c.in-Some.entry c.args.object (without_last (entries_of c.args.heap.now c.args.object)) c.args.heap.now;
    })

pub returns-in-None : goal.returns-in-None
returns-in-None g c = λ script.
    let new_is = c.free.ensures ∙ ap (gone c.args.object) c.in-None.ensures.none in
    tells new_is (rest-gone c.args.object c.args.heap.now)
    (steady-gone script c.args.heap.now c.args.object) (Free c.args.object) c.tells.ensures
    (turn-gone script c.args.heap.now c.args.object c.requires.unheld.none (c.in-None.ensures.empty.0 refl)) refl
