use Rattle.std.proofs.Common.{◌<◌, length, ap, ◌∙◌, arith}
use Rattle.cg_generator.specs.Counting.{with_line}
use Rattle.cg_generator.proofs.Texts.{seen_tally}
use Rattle.cg_generator.proofs.seen.Seen.tally.Goals as goal

pub returns-in_default : goal.returns-in_default
returns-in_default c =
    let some : 0 < length c.args.self.now.line.items = omega (arith, c.in_default.len_at_least, ap length c.as_slice.ensures.value) in
    λ text s. seen_tally text c.args.self.now.line.items c.args.self.now.counts c.args.self.now.refused s c.with_one_line.result some (c.with_one_line.ensures
    ∙ ap (with_line c.args.self.now.counts) c.as_slice.ensures.value)
