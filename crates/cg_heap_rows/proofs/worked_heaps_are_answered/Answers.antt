use Rattle.cg_heap_rows.proofs.Answered.{all_answered}
use Rattle.cg_heap_rows.proofs.worked_heaps_are_answered.Goals as goal

pub returns : goal.returns
returns c = all_answered
