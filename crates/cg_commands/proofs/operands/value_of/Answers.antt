use Rattle.cg_commands.proofs.Reading.{live-name, reads-cell}
use Rattle.cg_commands.proofs.operands.value_of.Goals as goal

pub returns-in-Name-clause-live : goal.returns-in-Name-clause-live
returns-in-Name-clause-live g c = live-name c.args.heap.now c.sound.ensures c.in-Name.name c.name.result c.name.ensures

pub returns-in-Cell-clause-value : goal.returns-in-Cell-clause-value
returns-in-Cell-clause-value g c = reads-cell c.args.heap.now c.args.locals.now c.in-Cell.i c.args.operand.now c.cell_in.result c.in-Cell.is c.cell_in.ensures.value
