use Rattle.std.proofs.Common.{sym, ◌∙◌}
use Rattle.cg_script.proofs.Cuts.{cut_at, cut_none}
use Rattle.cg_weakcoll.proofs.pieces.cut.Goals as goal

pub returns-in-Some-clause-pieces : goal.returns-in-Some-clause-pieces
returns-in-Some-clause-pieces c = cut_at c.args.separator c.in-Some.i c.args.bytes.now (sym c.place_of_byte.ensures.place ∙ c.in-Some.is)

pub returns-in-None-clause-pieces : goal.returns-in-None-clause-pieces
returns-in-None-clause-pieces c = cut_none c.args.separator c.args.bytes.now c.requires (sym c.place_of_byte.ensures.place ∙ c.in-None.is)
