use Rattle.std.proofs.Common.{◌≡◌, ◌<◌, ◌≤◌, ◌+◌, ◌∷◌, true, length, Some, None}
use Rattle.cg_commands.specs.Attempts.{only_changes}
use Rattle.cg_policy.specs.Policy.{due_of}
use Rattle.cg_interp.specs.declared.activity.Activity.TheVariants as activity_of
use Rattle.cg_script.specs.declared.Script.{Script}
use Rattle.cg_machine.specs.Program.{body_of}
use Rattle.cg_interp.specs.Engines.{commands_from}
use Rattle.cg_interp.specs.Turns.{StaysFit}
use Rattle.cg_interp.specs.Quietly.{ComesFrom}
use Rattle.cg_interp.specs.Callers.{frame_caller}
use Rattle.cg_interp.proofs.engine.Engine.make_changes_from.Given as goal

-- the commands so far were done quietly, the next one is current, and no collection is due before it
abbrev pub invariant-commands : goal.invariant-commands
invariant-commands g l = record {
  comes : (script : Script) → l.body ≡ body_of script l.procedure → ComesFrom script (activity_of.Frame l.fn.locals l.procedure (Some l.initial.at)) l.fn.self
      (activity_of.Frame l.fn.locals l.procedure (Some l.at)) l.self;
  fit : StaysFit l.fn.self l.self;
  none : due_of l.self.policy ≡ None;
  caller : l.caller ≡ frame_caller l.fn.locals l.fn.procedure (Some l.at);
  left : length (commands_from (Some l.at) l.body) ≤ length (commands_from (Some l.initial.at) l.body);
  within : l.at < length l.body;
  there : commands_from (Some l.at) l.body ≡ l.command ∷ commands_from (Some (l.at + 1)) l.body;
  changes : only_changes l.command ≡ true;
}

abbrev pub decreases-commands : goal.decreases-commands
decreases-commands g l = length (commands_from (Some l.at) l.body)
