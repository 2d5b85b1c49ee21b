use Rattle.std.proofs.Common.{ℕ, take}
use Rattle.std.specs.Prelude.{◌↔◌}
use Rattle.cg_graph.specs.Member.{Includes}
use Rattle.cg_graph.proofs.reach.rising.Given as goal

abbrev pub invariant-loop-object : goal.invariant-loop-object
invariant-loop-object l = (o : ℕ) → Includes l.set.keys o ↔ Includes (take l.object-index l.objects) o
