use Rattle.cg_ask.proofs.Marking.{just_all}
use Rattle.cg_ask.proofs.marks.all_marked.Goals as goal

pub returns : goal.returns
returns c = just_all c.args.count c.in_ok-marks.marks.items (c.in_ok-marks.ensures.items_if_clones_equal (λ y e. e))
