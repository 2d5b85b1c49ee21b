use Rattle.std.proofs.Common.{sym, ◌∙◌}
use Rattle.cg_script.specs.declared.item.Item.TheVariants.{Run}
use Rattle.cg_script.proofs.Positions.{at_number, past_numbers}
use Rattle.cg_script.proofs.members.indexed_command.Goals as goal

pub returns-in-Some-clause-found : goal.returns-in-Some-clause-found
returns-in-Some-clause-found c =
    let there = at_number Run _ _ _ c.args.number c.in-Some.at c.requires.commands (sym c.in-Some.ensures.found) in
    c.command_at.ensures there.0 there.2 ∙ sym there.1

pub returns-in-None-clause-found : goal.returns-in-None-clause-found
returns-in-None-clause-found c = sym (past_numbers Run _ _ _ c.args.number c.requires.commands (sym c.in-None.ensures.found))
