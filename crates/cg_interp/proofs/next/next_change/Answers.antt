use Rattle.cg_interp.proofs.NextCommands.{next_there}
use Rattle.cg_interp.proofs.next.next_change.Goals as goal

pub returns-in-Some-clause-there : goal.returns-in-Some-clause-there
returns-in-Some-clause-there c = next_there c.args.commands.now c.args.number c.in-Some.command.now c.in-Some.ensures.lookup.3.0 c.in-Some.ensures.lookup.1
