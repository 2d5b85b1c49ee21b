use Rattle.std.proofs.Common.{◌∙◌, sym}
use Rattle.cg_script.specs.Items.{classes}
use Rattle.cg_script.proofs.Written.{name_there, name_missing}
use Rattle.cg_script.proofs.printer.class_name.Goals as goal

pub returns-in-Some : goal.returns-in-Some
returns-in-Some c =
    c.text.ensures
    ∙ sym (name_there (λ x. x.name) c.args.naming.now.names.now (classes c.args.naming.now.items.now) c.args.number _ (sym c.in-Some.ensures))

pub returns-in-None : goal.returns-in-None
returns-in-None c = sym (name_missing (λ x. x.name) c.args.naming.now.names.now (classes c.args.naming.now.items.now) c.args.number (sym c.in-None.ensures))
