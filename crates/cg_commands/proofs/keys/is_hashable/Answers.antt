use Rattle.cg_commands.proofs.Steps.{key-object, key-none}
use Rattle.cg_commands.proofs.keys.is_hashable.Goals as goal

pub returns-in_default : goal.returns-in_default
returns-in_default g c = key-none _ _ c.in_default.not-Ref

pub returns : goal.returns
returns g c = key-object c.args.heap.now _ _ _ _ c.in-Ref.is (c.requires _ c.in-Ref.is) c.kind_of.ensures c.admits.ensures
