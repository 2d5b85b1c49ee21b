use Rattle.std.proofs.Common.{◌≡◌, None, replicate}
use Rattle.cg_heap.specs.Names.{values_of}
use Rattle.cg_heap.proofs.names.Names.new.Given as goal

abbrev pub invariant-loop-name : goal.invariant-loop-name
invariant-loop-name l = values_of l.names.items ≡ replicate l._name None
