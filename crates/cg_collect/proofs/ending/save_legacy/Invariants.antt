use Rattle.std.proofs.Common.{length}
use Rattle.cg_value.specs.declared.Place.TheVariants.{Legacy}
use Rattle.cg_graph.specs.Store.{list_at}
use Rattle.cg_policy.specs.Flagset.{bits_of}
use Rattle.cg_trial.proofs.Lists.{ahead}
use Rattle.cg_collect.proofs.SavedObjects.{Saving}
use Rattle.cg_collect.proofs.ending.save_legacy.Given as goal

abbrev pub invariant-objects : goal.invariant-objects
invariant-objects g l = Saving l.script (bits_of l.facts.flags) l.fn.heap l.heap l.next

abbrev pub decreases-objects : goal.decreases-objects
decreases-objects g l = length (ahead l.next (list_at l.heap Legacy))
