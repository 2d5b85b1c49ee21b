use Rattle.std.proofs.Common.{None}
use Rattle.std.proofs.lemmas.List.Elements.{All-replicate}
use Rattle.cg_script.specs.Lexicons.{IsRemembered}
use Rattle.cg_script.proofs.lexicon.Lexicon.new.Goals as goal

pub invariant_of-result : goal.invariant_of-result
invariant_of-result c = All-replicate (IsRemembered c.new.result) 1024 None tt
