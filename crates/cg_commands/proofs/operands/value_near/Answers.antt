use Rattle.std.proofs.Common.{Some}
use Rattle.cg_commands.proofs.Reading.{live-name}
use Rattle.cg_commands.proofs.operands.value_near.Goals as goal

pub returns-in-Some-clause-live : goal.returns-in-Some-clause-live
returns-in-Some-clause-live g c = live-name c.args.heap.now c.sound.ensures c.in-Name.name (Some c.in-Some.value) c.in-Some.ensures
