use Rattle.std.proofs.Common.{◌∙◌}
use Rattle.cg_heap_tests.proofs.PlaceLists.{all_live}
use Rattle.cg_heap_tests.proofs.splits.split_place.Goals as goal

pub reached_plainly-requires : goal.reached_plainly-requires
reached_plainly-requires g c = all_live c.args.heap.now c.sound.ensures.listed c.args.from c.deref.result.now (c.deref.ensures.value ∙ c.in_ok-members.ensures)
