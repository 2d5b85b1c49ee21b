use Rattle.std.proofs.Common.{length, Some}
use Rattle.cg_machine.specs.Program.{body_of}
use Rattle.cg_interp.specs.declared.activity.Activity.TheVariants as activity_of
use Rattle.cg_interp.specs.Engines.{commands_from}
use Rattle.cg_interp.specs.Turns.{StaysFit}
use Rattle.cg_interp.specs.Quietly.{ComesBy}
use Rattle.cg_interp.proofs.engine.Engine.go_on_at.Given as goal

-- the commands so far told the lines that wait, and the next one is current
abbrev pub invariant-commands : goal.invariant-commands
invariant-commands g l = record {
  comes : ComesBy l.script l.waiting.items (activity_of.Frame l.locals l.procedure (Some l.fn.number)) l.fn.self (activity_of.Frame l.locals l.procedure (Some l.number)) l.self;
  fit : StaysFit l.fn.self l.self;
}

abbrev pub decreases-commands : goal.decreases-commands
decreases-commands g l = length (commands_from (Some l.number) (body_of l.script l.procedure))
