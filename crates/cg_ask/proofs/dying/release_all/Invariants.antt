use Rattle.std.proofs.Common.{take}
use Rattle.cg_ask.specs.Released.{Releases}
use Rattle.cg_ask.proofs.dying.release_all.Given as goal

abbrev pub invariant-targets : goal.invariant-targets
invariant-targets l = Releases (take l.target-index l.row) l.fn.left.items l.fn.dead.items l.fn.waits.items l.left.items l.dead.items l.waits.items
