use Rattle.std.proofs.Common.{ap, ◌∙◌}
use Rattle.cg_generator.proofs.Texts.{wrote_front}
use Rattle.cg_generator.proofs.sink.TallySinkSink.write.Goals as goal

pub returns-in-Err-clause-err : goal.returns-in-Err-clause-err
returns-in-Err-clause-err c =
    wrote_front c.args.self.now.text c.self.inside.told.bytes c.args.bytes.now c.bytes.byte-index (ap (λ s. s.text) (c.self.view_is ∙ c.in-Err.ensures.err) ∙ c.bytes.invariant.text)
