use Rattle.std.proofs.Common.{◌+◌, not, length}
use Rattle.std.specs.Prelude.{count_by}
use Rattle.cg_ask.proofs.DiesByCount.{HasDied}
use Rattle.cg_ask.proofs.dying.dying.Given as goal

abbrev pub invariant-turns : goal.invariant-turns
invariant-turns l = HasDied l.members l.given l.left.items l.dead.items l.waits.items

abbrev pub decreases-turns : goal.decreases-turns
decreases-turns l = count_by not l.dead.items + length l.waits.items
