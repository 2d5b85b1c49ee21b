use Rattle.std.proofs.Common.{◌≡◌, map, take}
use Rattle.cg_commands.specs.Inspections.{line_of}
use Rattle.cg_commands.proofs.inspections.listing.Given as goal

abbrev pub invariant-objects : goal.invariant-objects
invariant-objects l = l.events.items ≡ map (line_of l.listed) (take l.object-index l.objects)
