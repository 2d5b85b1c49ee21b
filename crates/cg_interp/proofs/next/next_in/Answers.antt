use Rattle.std.proofs.Common.{sym}
use Rattle.cg_machine.specs.Program.{commands_of}
use Rattle.cg_interp.proofs.NextCommands.{next_found, next_past}
use Rattle.cg_interp.proofs.next.next_in.Goals as goal

pub returns-in-Some-command-clause-some : goal.returns-in-Some-command-clause-some
returns-in-Some-command-clause-some c = next_found (commands_of c.args.items.now) c.args.next c.in-Some.number c.in-Some-command.command.now c.in-Some.is (sym c.in-Some-command.ensures.found)

pub returns-in-None-command-clause-none : goal.returns-in-None-command-clause-none
returns-in-None-command-clause-none c = next_past (commands_of c.args.items.now) c.args.next c.in-Some.number c.in-Some.is (sym c.in-None-command.ensures.found)
