use Rattle.std.proofs.Common.{sym, ◌∙◌, ap, [], None, Some, false, arith}
use Rattle.cg_machine.specs.World.{push}
use Rattle.cg_machine.specs.Commands.{new_collection}
use Rattle.cg_policy.specs.Policy.{due_of}
use Rattle.cg_interp.specs.declared.activity.Activity.TheVariants as activity_of
use Rattle.cg_interp.specs.Engines.{State, under}
use Rattle.cg_interp.proofs.RoomStays.{still_fit}
use Rattle.cg_interp.proofs.LawsOfEngines.{has_room}
use Rattle.cg_interp.proofs.StepLemmas.{due_in, kept_after, begins_collection, script_collects}
use Rattle.cg_interp.proofs.AnswersOfTurns.{turns_plainly}
use Rattle.cg_interp.proofs.engine.Engine.end.Goals as goal

pub collect-requires-clause-stands : goal.collect-requires-clause-stands
collect-requires-clause-stands g c =
    let s = c.requires.stands in
    let is = sym c.in-Some.is ∙ c.due.ensures ∙ ap (λ (e : State). due_of e.policy) c.self.view_is in
    let step = script_collects c.args.script.now c.args.self.now c.args.next s.world s.stands c.in-Some.generation
    (due_in c.args.script.now (under (activity_of.Script c.args.next) c.args.self.now) s.world (Some c.in-Some.generation) s.stands is) in (
      c.args.script.now,
      s.spelled,
      s.fit,
      s.world,
      s.stands,
      kept_after c.args.script.now s.world (push (new_collection c.in-Some.generation false s.world)
          s.world) s.stands.running c.args.self.now.first_budget [] step s.kept,
    )

pub collect-requires-clause-room : goal.collect-requires-clause-room
collect-requires-clause-room g c = let s = c.requires.stands in omega (arith, has_room c.args.script.now (activity_of.Script c.args.next) c.args.self.now s.world s.stands (s.kept [] tt).lawful s.fit)

pub returns-in-Some-clause-turns : goal.returns-in-Some-clause-turns
returns-in-Some-clause-turns g c = λ w stands kept.
    let is = sym c.in-Some.is ∙ c.due.ensures ∙ ap (λ (e : State). due_of e.policy) c.self.view_is in
    let step = script_collects c.args.script.now c.args.self.now c.args.next w stands c.in-Some.generation
    (due_in c.args.script.now (under (activity_of.Script c.args.next) c.args.self.now) w (Some c.in-Some.generation) stands is) in
    let begun = push (new_collection c.in-Some.generation false w) w in
    begins_collection c.args.script.now w begun stands.running c.collect.new.self step (c.collect.ensures.begins c.args.script.now w stands)

pub end_commands-requires : goal.end_commands-requires
end_commands-requires g c = let s = c.requires.stands in omega (arith, has_room c.args.script.now (activity_of.Script c.args.next) c.args.self.now s.world s.stands (s.kept [] tt).lawful s.fit)

pub returns-in-None-clause-turns : goal.returns-in-None-clause-turns
returns-in-None-clause-turns g c = λ w stands kept.
    let none = due_in c.args.script.now (under (activity_of.Script c.args.next) c.args.self.now) w None stands (sym c.in-None.is ∙ c.due.ensures
    ∙ ap (λ (e : State). due_of e.policy) c.self.view_is) in
    turns_plainly c.args.script.now w c.end_commands.new.self c.end_commands.result (c.end_commands.ensures.ends c.args.next w c.requires.none none stands)

pub returns-in-Some-clause-fit : goal.returns-in-Some-clause-fit
returns-in-Some-clause-fit g c = still_fit c.args.self.now c.collect.new.self c.collect.ensures.keeps

pub returns-in-None-clause-fit : goal.returns-in-None-clause-fit
returns-in-None-clause-fit g c = still_fit c.args.self.now c.end_commands.new.self c.end_commands.ensures.keeps
