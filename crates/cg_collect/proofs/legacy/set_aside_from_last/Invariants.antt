use Rattle.cg_collect.proofs.AsideBackward.{SettingBack}
use Rattle.cg_collect.proofs.legacy.set_aside_from_last.Given as goal

abbrev pub invariant-entries : goal.invariant-entries
invariant-entries g l = SettingBack l.object l.fn.heap l.heap l.end l.fn.steps l.steps

abbrev pub decreases-entries : goal.decreases-entries
decreases-entries g l = l.end
