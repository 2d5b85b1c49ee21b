use Rattle.std.proofs.Common.{◌≡◌, ◌||◌, ap, ◌∙◌}
use Rattle.cg_generator.specs.Tallies.{is_refusal}
use Rattle.cg_generator.specs.Counting.{with_line}
use Rattle.cg_generator.proofs.Texts.{seen_line, either_first, either_second}
use Rattle.cg_generator.proofs.seen.Seen.end_line.Goals as goal
use Rattle.cg_generator.proofs.seen.Seen.end_line.Goals.{then-self, else-self}

pub returns : goal.returns
returns c =
    let line = c.args.self.now.line.items in
    let old = c.args.self.now.refused in
    let now = c.if-self.self in
    let counted = c.with_one_line-self.ensures ∙ ap (with_line c.args.self.now.counts) c.as_slice.ensures.value in
    let tells : now ≡ (old || is_refusal line) = elim c.if-self.branch [
      | then-self w ↦ either_first old (is_refusal line) now w.if-self.true w.self-is
      | else-self w ↦ either_second old (is_refusal line) now w.if-self.false (w.self-is ∙ w.is_refusal-self.ensures ∙ ap is_refusal w.as_slice-else-self.ensures.value)
    ] in
    λ text s. seen_line text line c.clear.new.self.items c.args.self.now.counts c.with_one_line-self.result old now counted tells c.clear.ensures.items s
