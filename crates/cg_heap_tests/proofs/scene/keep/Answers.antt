use Rattle.std.proofs.Common.{arith}
use Rattle.cg_heap_tests.proofs.Scenes.{keeps_entry}
use Rattle.cg_heap_tests.proofs.scene.keep.Goals as goal

pub returns-in_err-keep_value : goal.returns-in_err-keep_value
returns-in_err-keep_value c s = omega (arith, c.keep_value.ensures s, keeps_entry s c.args.entry)

pub returns-in_err-keep_value-2 : goal.returns-in_err-keep_value-2
returns-in_err-keep_value-2 c s = omega (arith, c.keep_value.ensures s, c.keep_value-2.ensures s, keeps_entry s c.args.entry)

pub returns : goal.returns
returns c s = omega (arith, c.keep_value.ensures s, c.keep_value-2.ensures s, keeps_entry s c.args.entry)
