use Rattle.cg_generator.proofs.Tallies.{counted_more}
use Rattle.cg_generator.proofs.whole.tally.Goals as goal

pub lines-preserved : goal.lines-preserved
lines-preserved c = counted_more c.args.text.now _ c.cut_line.result.0.now c.cut_line.result.1.now _ c.with_one_line-counts.result c.cut_line.ensures.lines
    c.cut_line.ensures.shorter c.lines.invariant c.with_one_line-counts.ensures
