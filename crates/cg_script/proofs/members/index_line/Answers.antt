use Rattle.std.proofs.Common.{subst}
use Rattle.cg_script.specs.Items.{IsIndexIfAny}
use Rattle.cg_script.proofs.Positions.{index_more}
use Rattle.cg_script.proofs.members.index_line.Goals as goal

pub returns-in_ok-add-clause-ok : goal.returns-in_ok-add-clause-ok
returns-in_ok-add-clause-ok c = λ items last so.
    let e = c.in_ok-add.ensures in
    index_more items c.args.item.now c.args.at c.in-Some.index c.add.new.self last e.classes e.procedures e.commands (subst (IsIndexIfAny items) c.in-Some.is so)
