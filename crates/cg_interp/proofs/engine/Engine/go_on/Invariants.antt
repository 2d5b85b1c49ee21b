use Rattle.std.proofs.Common.{◌≡◌, length}
use Rattle.cg_machine.specs.Program.{commands_of}
use Rattle.cg_interp.specs.declared.activity.Activity.TheVariants as activity_of
use Rattle.cg_interp.specs.Engines.{commands_from}
use Rattle.cg_interp.specs.Turns.{StaysFit}
use Rattle.cg_interp.specs.Quietly.{ComesBy}
use Rattle.cg_interp.specs.Callers.{script_caller}
use Rattle.cg_interp.proofs.engine.Engine.go_on.Given as goal

-- the commands so far told the lines that wait, and the next one is current
abbrev pub invariant-commands : goal.invariant-commands
invariant-commands g l = record {
  comes : ComesBy l.script l.waiting.items (activity_of.Script l.fn.next) l.fn.self (activity_of.Script l.next) l.self;
  fit : StaysFit l.fn.self l.self;
  caller : l.caller ≡ script_caller l.next;
}

abbrev pub decreases-commands : goal.decreases-commands
decreases-commands g l = length (commands_from l.next (commands_of l.script.items))
