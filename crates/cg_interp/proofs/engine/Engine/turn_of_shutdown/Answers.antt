use Rattle.std.proofs.Common.{subst, arith, []}
use Rattle.cg_heap.specs.Calls.{IsSound}
use Rattle.cg_interp.specs.declared.activity.Activity.TheVariants as activity_of
use Rattle.cg_interp.proofs.LawsOfEngines.{has_room, few_holds, few_objects}
use Rattle.cg_interp.specs.Engines.{StandsFor, under}
use Rattle.cg_interp.proofs.RoomStays.{still_fit, fit_here}
use Rattle.cg_interp.proofs.AnswersOfTurns.{turns_plainly}
use Rattle.cg_interp.proofs.engine.Engine.turn_of_shutdown.Goals as goal

pub shut_down-requires-clause-few : goal.shut_down-requires-clause-few
shut_down-requires-clause-few g c =
    let (script, at) = c.requires.stands in
    let sound = subst (λ e. IsSound e.store) c.self.view_is c.sound.ensures in
    few_holds script c.args.self.now.first_budget c.args.self.now.store at.world at.stands.represents (at.kept [] tt).lawful at.fit.first_budget (few_objects c.args.self.now.store sound.objects)

pub shut_down-requires-clause-room : goal.shut_down-requires-clause-room
shut_down-requires-clause-room g c =
    let (script, at) = c.requires.stands in
    omega (arith, has_room script (activity_of.Shutdown c.args.started) c.args.self.now at.world at.stands (at.kept [] tt).lawful at.fit)

pub shut_down-requires-clause-stands : goal.shut_down-requires-clause-stands
shut_down-requires-clause-stands g c =
    let (script, at) = c.requires.stands in (
      script,
      record {
        spelled = at.spelled;
        fit = at.fit;
        world = at.world;
        stands = subst (λ b. StandsFor script (under (activity_of.Shutdown b) c.args.self.now) at.world) c.if-started.false at.stands;
        kept = at.kept;
      },
    )

pub returns-then-started-clause-turns : goal.returns-then-started-clause-turns
returns-then-started-clause-turns g c = λ script w stands kept.
    turns_plainly script w c.args.self.now c.tell_left.result
    (c.tell_left.ensures.left script w (subst (λ b. StandsFor script (under (activity_of.Shutdown b) c.args.self.now) w) c.if-started.true stands))

pub returns-else-started-clause-turns : goal.returns-else-started-clause-turns
returns-else-started-clause-turns g c = λ script w stands kept.
    c.shut_down.ensures.turns script w (subst (λ b. StandsFor script (under (activity_of.Shutdown b) c.args.self.now) w) c.if-started.false stands) kept

pub returns-else-started-clause-fit : goal.returns-else-started-clause-fit
returns-else-started-clause-fit g c = still_fit c.args.self.now c.shut_down.new.self c.shut_down.ensures.keeps

pub returns-then-started-clause-fit : goal.returns-then-started-clause-fit
returns-then-started-clause-fit g c = fit_here c.args.self.now
