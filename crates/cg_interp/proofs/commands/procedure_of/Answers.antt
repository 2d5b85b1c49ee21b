use Rattle.std.proofs.Common.{sym, ◌∙◌}
use Rattle.cg_interp.proofs.CallerLemmas.{procedure_known}
use Rattle.cg_interp.proofs.commands.procedure_of.Goals as goal

pub returns : goal.returns
returns g c = λ w r. procedure_known c.args.heap.now w c.args.function c.class_of.result r c.requires c.class_of.ensures ∙ sym c.unwrap_or.ensures
