use Rattle.std.proofs.Common.{◌≡◌, ◌++◌, map, take}
use Rattle.cg_machine.specs.declared.event.Event.TheVariants.{Via}
use Rattle.cg_commands.proofs.inspections.path_lines.Given as goal

abbrev pub invariant-holders : goal.invariant-holders
invariant-holders l = l.events.items ≡ l.initial.events.items ++ map Via (take l.object-index l.rest)
