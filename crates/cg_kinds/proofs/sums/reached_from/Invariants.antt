use Rattle.std.proofs.Common.{◌≡◌, ◌+◌}
use Rattle.cg_kinds.specs.Order.{sum_before}
use Rattle.cg_kinds.proofs.sums.reached_from.Given as goal

abbrev pub invariant-numbers : goal.invariant-numbers
invariant-numbers l = sum_before l.numbers l.at + l.left ≡ sum_before l.numbers l.first + l.count
