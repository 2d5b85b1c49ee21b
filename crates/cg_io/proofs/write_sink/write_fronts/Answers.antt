use Rattle.std.proofs.Common.{arith}
use Rattle.std.proofs.lemmas.Grind.{common_steps}
use Rattle.cg_io.proofs.Fronts.{wrote_more}
use Rattle.cg_io.proofs.write_sink.write_fronts.Goals as goal

pub fronts-preserved : goal.fronts-preserved
fronts-preserved g c = wrote_more _ _ _ _ c.fronts.rest.now _ c.in_ok-n.n c.fronts.invariant c.in_ok-n.ensures.bytes (grind (arith, common_steps))
