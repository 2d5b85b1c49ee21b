use Rattle.std.proofs.Common.{refl, map}
use Rattle.cg_graph.specs.Value.{item}
use Rattle.cg_commands.proofs.PartLemmas.{items-are}
use Rattle.cg_commands.proofs.makes.make_tuple.Goals as goal

pub make_sequence-requires-clause-parts : goal.make_sequence-requires-clause-parts
make_sequence-requires-clause-parts g c = λ vs. items-are vs (map item vs) refl
