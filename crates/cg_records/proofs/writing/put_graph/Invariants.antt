use Rattle.std.proofs.Common.{◌≡◌, ◌++◌, take}
use Rattle.std.specs.Prelude.{flat_map}
use Rattle.cg_records.specs.Text.{member_text}
use Rattle.cg_records.proofs.writing.put_graph.Given as goal

abbrev pub invariant-members : goal.invariant-members
invariant-members l = l.out.items ≡ l.fn.out.items ++ flat_map member_text (take l.member-index l.graph.members)
