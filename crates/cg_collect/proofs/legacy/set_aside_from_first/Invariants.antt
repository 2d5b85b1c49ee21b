use Rattle.cg_collect.proofs.Uncollectable.{SettingLooked}
use Rattle.cg_collect.proofs.legacy.set_aside_from_first.Given as goal

abbrev pub invariant-entries : goal.invariant-entries
invariant-entries g l = SettingLooked l.object l.fn.heap l.heap l.i l.fn.steps l.steps
