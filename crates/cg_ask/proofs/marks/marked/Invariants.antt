use Rattle.std.proofs.Common.{take}
use Rattle.cg_graph.specs.Member.{Includes}
use Rattle.cg_ask.specs.Marked.{MarkJust}
use Rattle.cg_ask.proofs.marks.marked.Given as goal

abbrev pub invariant-places : goal.invariant-places
invariant-places l = MarkJust l.count (Includes (take l.place-index l.places)) l.marks.items
