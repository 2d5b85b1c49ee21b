use Rattle.std.proofs.Common.{sym, ◌∙◌}
use Rattle.cg_script.proofs.Cuts.{cut_at, cut_none}
use Rattle.cg_generator.proofs.whole.cut_line.Goals as goal

pub returns-in-Some-clause-lines : goal.returns-in-Some-clause-lines
returns-in-Some-clause-lines c = cut_at 10 c.in-Some.end c.args.bytes.now (sym c.first_line_feed.ensures ∙ c.in-Some.is)

pub returns-in-None-clause-lines : goal.returns-in-None-clause-lines
returns-in-None-clause-lines c = cut_none 10 c.args.bytes.now c.requires (sym c.first_line_feed.ensures ∙ c.in-None.is)
