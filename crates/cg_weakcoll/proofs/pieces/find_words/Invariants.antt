use Rattle.std.proofs.Common.{◌≡◌, ◌++◌, length, map}
use Rattle.cg_script.specs.Pieces.{words_of}
use Rattle.cg_weakcoll.proofs.pieces.find_words.Given as goal

-- the words so far, then those of the rest, are the words of the line
abbrev pub invariant-pieces : goal.invariant-pieces
invariant-pieces l = map (λ w. w.now) l.words.items ++ words_of l.rest ≡ words_of l.fn.line

abbrev pub decreases-pieces : goal.decreases-pieces
decreases-pieces l = length l.rest
