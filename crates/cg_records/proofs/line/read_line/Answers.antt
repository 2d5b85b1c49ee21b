use Rattle.std.proofs.Common.{◌∙◌, ap}
use Rattle.cg_records.proofs.Lines.{not_member}
use Rattle.cg_records.proofs.Options.{if_none}
use Rattle.cg_records.specs.Lines.{word_text}
use Rattle.std.proofs.Common.{◌++◌}
use Rattle.cg_records.proofs.line.read_line.Goals as goal

pub returns-in_err-serial-in-Member-clause-none : goal.returns-in_err-serial-in-Member-clause-none
returns-in_err-serial-in-Member-clause-none c =
    if_none _ _ (not_member c.args.bytes.now c.in_ok-word.rest.now c.in_err-serial-in-Member.ensures.none (c.in_ok-word.ensures.found ∙ ap (λ w. word_text w ++ c.in_ok-word.rest.now) c.in-Member.is))
