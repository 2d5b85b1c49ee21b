use Rattle.std.proofs.Common.{◌∙◌}
use Rattle.cg_arena.proofs.Guesses.{guess-same, guess-other}
use Rattle.cg_arena.proofs.hints.Hints.tell.Goals as goal

pub returns-in-Some-clause-told : goal.returns-in-Some-clause-told
returns-in-Some-clause-told c = λ yes. guess-same c.args.self.now c.index_of-index.result c.args.slot c.args.serial c.index_of-index.ensures c.in-Some.ensures.item.3.0

pub returns-in-Some-clause-others : goal.returns-in-Some-clause-others
returns-in-Some-clause-others c = λ q differs. guess-other c.args.self.now c.index_of-index.result c.args.slot q (λ same. differs (same ∙ c.index_of-index.ensures))
