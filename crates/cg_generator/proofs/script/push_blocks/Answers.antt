use Rattle.cg_generator.proofs.Blocks.{pushed_more}
use Rattle.cg_generator.proofs.script.push_blocks.Goals as goal

pub numbers-preserved : goal.numbers-preserved
numbers-preserved c = record { pushed = pushed_more c.args.items.now.items c.numbers.items.items c.push_block.new.items.items c.numbers.before c.numbers.invariant.pushed c.in_ok-push_block.ensures }
