use Rattle.cg_search.proofs.Trails.{HasGoneBack, ahead_of}
use Rattle.cg_inspect.proofs.path.path_back.Given as goal

abbrev pub invariant-holders : goal.invariant-holders
invariant-holders l = HasGoneBack l.found.entries l.last l.path.items l.cursor

abbrev pub decreases-holders : goal.decreases-holders
decreases-holders l = ahead_of l.cursor
