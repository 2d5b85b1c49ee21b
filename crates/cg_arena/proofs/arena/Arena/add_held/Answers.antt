use Rattle.std.proofs.Common.{sym, ◌∙◌}
use Rattle.cg_arena.specs.Nodes.{new_node, with_room}
use Rattle.cg_arena.proofs.Adds.{counted_up-with_node}
use Rattle.cg_arena.proofs.arena.Arena.add_held.Goals as goal

pub returns-clause-adds : goal.returns-clause-adds
returns-clause-adds c =
    c.add_counted.ensures.adds
    ∙ sym (counted_up-with_node c.args.serial (new_node c.args.code c.args.class c.args.body c.args.place) (with_room c.add_counted.new.self.room c.args.self.now))
