-- The lines of records. (Ours.)
use Rattle.std.specs.Prelude.{List, [], ◌∷◌, ◌++◌, map, flat_map, Option, None, Some}
use Rattle.cg_records.specs.declared.graph.Member.{Member}
use Rattle.cg_records.specs.declared.graph.Graph.{Graph}
use Rattle.cg_records.specs.declared.graph.Rec.{Rec}
use Rattle.cg_records.specs.declared.line.Line.{Line}
use Rattle.cg_records.specs.declared.line.Line.TheVariants as lines

abbrev pub member_lines : Member → List Line
member_lines m = lines.Member m.serial m.degree m.legacy ∷ map lines.Reference m.refs

abbrev pub graph_lines : Graph → List Line
graph_lines g = flat_map member_lines g.members ++ map lines.Lost g.lost

abbrev pub rest_lines : Option Graph → List Line
rest_lines None = lines.Cut ∷ []
rest_lines (Some g) = lines.Second ∷ (graph_lines g ++ lines.Stop ∷ [])

abbrev pub record_lines : Rec → List Line
record_lines r = lines.Record r.generation ∷ lines.First ∷ (graph_lines r.first ++ (map lines.Legacy r.first.legacy ++ rest_lines r.second))

abbrev pub all_lines : List Rec → List Line
all_lines records = flat_map record_lines records ++ lines.End ∷ []
