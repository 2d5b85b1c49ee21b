use Rattle.std.proofs.Common.{length}
use Rattle.cg_language_tests.proofs.tallies.write_in_pieces.Given as goal

abbrev pub decreases-pieces : goal.decreases-pieces
decreases-pieces g l = length l.rest
