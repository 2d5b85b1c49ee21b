use Rattle.std.proofs.Common.{◌≡◌}
use Rattle.std.specs.List.{range_with_len}
use Rattle.cg_kinds.proofs.order.Order.new.Given as goal

abbrev pub invariant-indexes : goal.invariant-indexes
invariant-indexes l = l.order ≡ range_with_len 0 l.counter
