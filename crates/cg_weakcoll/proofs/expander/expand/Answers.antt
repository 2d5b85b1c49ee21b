use Rattle.std.proofs.lemmas.Result.{IfOk-weaker}
use Rattle.cg_weakcoll.proofs.LinesAsBytes.{all_written}
use Rattle.cg_weakcoll.proofs.expander.expand.Goals as goal

pub returns-in-Ok-clause-ok : goal.returns-in-Ok-clause-ok
returns-in-Ok-clause-ok c =
    let done = c.in-Ok.ensures in
    IfOk-weaker c.finish.result _ _
    (λ t p. all_written c.args.bytes.now c.new.result.items c.take_lines.new.draft.text.items t.items c.new-2.result.items
    c.take_lines.new.draft.finalizes.items c.new.ensures.items c.new-2.ensures.items done.text done.finalizes p)
    c.finish.ensures.text
