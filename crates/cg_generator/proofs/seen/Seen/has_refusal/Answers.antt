use Rattle.std.proofs.Common.{ap, ◌∙◌}
use Rattle.cg_generator.specs.Tallies.{is_refusal}
use Rattle.cg_generator.proofs.Texts.{seen_refusal, either_second}
use Rattle.cg_generator.proofs.seen.Seen.has_refusal.Goals as goal

pub returns-else-self : goal.returns-else-self
returns-else-self c =
    let line = c.args.self.now.line.items in
    let tells = either_second c.args.self.now.refused (is_refusal line) c.is_refusal.result c.if-self.false (c.is_refusal.ensures ∙ ap is_refusal c.as_slice.ensures.value) in
    λ text s. tells ∙ seen_refusal text line c.args.self.now.counts c.args.self.now.refused s
