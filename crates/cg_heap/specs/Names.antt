-- Names as stored in the heap. (Ours.)
use Rattle.std.specs.Prelude.{Option, List, map}
use Rattle.cg_value.specs.declared.Val.{Val}
use Rattle.cg_heap.specs.declared.names.Bound.{Bound}

-- The values of the names. The hints for their objects do not matter.
abbrev pub values_of : List Bound → List (Option Val)
values_of = map (λ b. b.val)
