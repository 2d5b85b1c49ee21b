use Rattle.cg_graph.specs.Object.{is_tracked}
use Rattle.cg_commands.proofs.Steps.{tells-object, tells-none, tracked_told}
use Rattle.cg_commands.proofs.queries.is_tracked.Goals as goal

pub returns-in_default : goal.returns-in_default
returns-in_default g c = tells-none _ is_tracked _ c.in_default.not-Ref

pub returns : goal.returns
returns g c =
    tells-object c.args.heap.now is_tracked _ _ _ c.in-Ref.is (c.requires _ c.in-Ref.is) (tracked_told c.args.heap.now c.in-Ref.target _ _ c.place_of.ensures c.is_untracked.ensures)
