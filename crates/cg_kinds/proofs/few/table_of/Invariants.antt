use Rattle.std.proofs.Common.{◌≡◌, take}
use Rattle.cg_kinds.proofs.few.table_of.Given as goal

abbrev pub invariant-moved : goal.invariant-moved
invariant-moved l = l.table ≡ take l.at l.pairs
