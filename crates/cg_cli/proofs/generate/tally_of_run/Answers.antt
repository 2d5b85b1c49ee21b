use Rattle.std.proofs.Common.{refl}
use Rattle.cg_cli.proofs.Summaries.{tallied}
use Rattle.cg_cli.proofs.generate.tally_of_run.Goals as goal

pub returns-in-Done : goal.returns-in-Done
returns-in-Done g c =
    let done = c.in-Done.ensures.done in
    let none = c.if-not-has_refusal in
    tallied c.args.blocks c.in-Ok.script c.new-text.result c.run_script.new.sink c.tally.result c.has_refusal.result c.in-Ok.ensures.ok c.new-text.ensures
    (done refl) c.tally.ensures c.has_refusal.ensures c.if-not-has_refusal.true
