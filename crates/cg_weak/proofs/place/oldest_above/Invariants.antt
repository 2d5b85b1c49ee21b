use Rattle.std.proofs.Common.{◌≡◌, true, Some}
use Rattle.cg_weak.specs.Table.{chain_at}
use Rattle.cg_weak.proofs.Walk.{IsFront, rows_ahead}
use Rattle.cg_weak.proofs.place.oldest_above.Given as goal

abbrev pub invariant-rows : goal.invariant-rows
invariant-rows l = IsFront (λ v. chain_at l.nodes.entries v ≡ Some (l.referent, true)) l.weak l.at

abbrev pub decreases-rows : goal.decreases-rows
decreases-rows l = rows_ahead l.weak l.at
