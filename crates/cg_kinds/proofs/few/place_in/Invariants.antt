use Rattle.std.proofs.Common.{◌≡◌, drop}
use Rattle.std.specs.List.{position_from}
use Rattle.cg_kind.specs.Calls.{has_key}
use Rattle.cg_kinds.proofs.few.place_in.Given as goal

-- the pairs so far do not have the key
abbrev pub invariant-pairs : goal.invariant-pairs
invariant-pairs l = position_from (has_key l.fn.key) 0 l.pairs ≡ position_from (has_key l.fn.key) l.at (drop l.at l.pairs)
