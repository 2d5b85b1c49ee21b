use Rattle.std.proofs.Common.{[], subst, sym, List, ℕ, false}
use Rattle.cg_generator.specs.Tallies.{tally_of_lines}
use Rattle.cg_generator.specs.Counting.{HasSeen}
use Rattle.cg_generator.proofs.Texts.{seen_nothing}
use Rattle.cg_generator.proofs.seen.Seen.new.Goals as goal

pub returns : goal.returns
returns c = subst (λ (l : List ℕ). HasSeen [] (tally_of_lines []) false l) (sym c.new.ensures.items) seen_nothing
