use Rattle.std.proofs.Common.{◌≡◌}
use Rattle.cg_kinds.specs.Order.{sum_before}
use Rattle.cg_kinds.proofs.sums.sum_of.Given as goal

abbrev pub invariant-numbers : goal.invariant-numbers
invariant-numbers l = l.all ≡ sum_before l.numbers l.number-index
