use Rattle.std.proofs.Common.{refl, map, arith}
use Rattle.std.proofs.lemmas.List.{length-map}
use Rattle.cg_graph.specs.Value.{item}
use Rattle.cg_commands.proofs.PartLemmas.{items-are}
use Rattle.cg_commands.proofs.makes.make_function.Goals as goal

pub make_of-requires-clause-parts : goal.make_of-requires-clause-parts
make_of-requires-clause-parts g c = λ vs few. (items-are vs (map item vs) refl, omega (arith, few, length-map vs item))
