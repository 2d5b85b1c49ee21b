use Rattle.std.proofs.Common.{◌≡◌, take}
use Rattle.cg_ask.specs.Asked.{rows_of, all_told}
use Rattle.cg_ask.proofs.sets.rows_with_words.Given as goal

abbrev pub invariant-members : goal.invariant-members
invariant-members l = l.rows.items ≡ rows_of (all_told (take l.member-index l.members))
