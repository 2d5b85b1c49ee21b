use Rattle.std.proofs.Common.{ap, [], arith, subst, sym}
use Rattle.cg_interp.specs.Telling.{TurnsAfter}
use Rattle.cg_machine.specs.Program.{body_of}
use Rattle.cg_interp.specs.declared.activity.Activity.TheVariants as activity_of
use Rattle.cg_interp.specs.Engines.{commands_from}
use Rattle.cg_interp.proofs.LawsOfEngines.{has_room}
use Rattle.cg_interp.proofs.AnswersOfTurns.{turns_plainly}
use Rattle.cg_interp.proofs.engine.Engine.go_on_in.Goals as goal

pub leave-requires : goal.leave-requires
leave-requires g c =
    let at = c.requires.stands in
    record { room = omega (arith, has_room c.args.script.now (activity_of.Frame c.args.locals c.args.procedure c.args.next) c.args.self.now at.world at.stands (at.kept [] tt).lawful at.fit) }

pub returns-in-None-clause-turns : goal.returns-in-None-clause-turns
returns-in-None-clause-turns g c = λ w stands kept.
    subst (λ es. TurnsAfter c.args.script.now (λ still. ⊥) w [] c.leave.new.self es c.leave.result) (sym c.requires.empty)
    (turns_plainly c.args.script.now w c.leave.new.self c.leave.result
    (c.leave.ensures.leaves c.args.script.now c.args.procedure c.args.next w (ap (λ n. commands_from n (body_of c.args.script.now c.args.procedure)) c.in-None.is) stands))
