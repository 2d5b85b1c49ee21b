use Rattle.std.proofs.Common.{length}
use Rattle.cg_ask.specs.Asked.{words_of}
use Rattle.cg_ask.proofs.Counting.{CountsSo}
use Rattle.cg_ask.proofs.counts.count_words.Given as goal

abbrev pub invariant-members : goal.invariant-members
invariant-members l = CountsSo (length l.members) (words_of l.members) l.member-index l.counts.items
