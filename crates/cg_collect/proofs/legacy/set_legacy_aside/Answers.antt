use Rattle.cg_collect.proofs.Uncollectable.{both_aside}
use Rattle.cg_collect.proofs.legacy.set_legacy_aside.Goals as goal

pub returns : goal.returns
returns g c = record {
  sets = both_aside c.args.script.now c.args.heap.now c.set_finalized_aside.new.heap c.close.new.heap c.sound.ensures.listed c.requires c.set_finalized_aside.ensures c.close.ensures.closes;
  looks = c.close.ensures.looks;
}
