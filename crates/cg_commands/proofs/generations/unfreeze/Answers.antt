use Rattle.std.proofs.Common.{sym, subst}
use Rattle.cg_machine.specs.Effects.{unfrozen}
use Rattle.cg_commands.specs.Places.{Replaces}
use Rattle.cg_commands.proofs.Replacing.{unfreezes}
use Rattle.cg_commands.proofs.generations.unfreeze.Goals as goal

pub returns : goal.returns
returns g c = subst (Replaces unfrozen c.args.heap.now) (sym c.merge.ensures) (unfreezes c.args.heap.now)
