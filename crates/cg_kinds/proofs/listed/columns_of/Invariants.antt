use Rattle.std.proofs.Common.{◌≡◌, ◌+◌, take}
use Rattle.cg_kinds.proofs.listed.columns_of.Given as goal

abbrev pub invariant-moved : goal.invariant-moved
invariant-moved l = (l.columns.items ≡ take l.at l.few.items) × (l.columns.room + l.at ≡ l.len + l.behind)
