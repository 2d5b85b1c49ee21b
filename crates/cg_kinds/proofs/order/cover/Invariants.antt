use Rattle.std.proofs.Common.{◌≤◌, length}
use Rattle.cg_kinds.specs.Order.{AreCounts}
use Rattle.cg_kinds.proofs.order.cover.Given as goal

abbrev pub invariant-pushes : goal.invariant-pushes
invariant-pushes l = AreCounts l.slots.items l.counts × (length l.fn.counts ≤ length l.counts) × (l.counter ≤ length l.counts)
