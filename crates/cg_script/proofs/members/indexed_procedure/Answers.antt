use Rattle.std.proofs.Common.{sym, ◌∙◌}
use Rattle.cg_script.specs.declared.item.Item.TheVariants.{Def}
use Rattle.cg_script.proofs.Positions.{at_number, past_numbers}
use Rattle.cg_script.proofs.members.indexed_procedure.Goals as goal

pub returns-in-Some : goal.returns-in-Some
returns-in-Some c =
    let there = at_number Def _ _ _ c.args.number c.in-Some.at c.requires.procedures (sym c.in-Some.ensures.found) in
    c.procedure_at.ensures there.0 there.2 ∙ sym there.1

pub returns-in-None : goal.returns-in-None
returns-in-None c = sym (past_numbers Def _ _ _ c.args.number c.requires.procedures (sym c.in-None.ensures.found))
