use Rattle.std.proofs.Common.{false, [], ◌∷◌}
use Rattle.cg_interp.specs.declared.activity.Activity.TheVariants as activity_of
use Rattle.cg_interp.proofs.CollectOnward.{came_nowhere, may_step_there, came_on}
use Rattle.cg_interp.proofs.MeasureOfTurns.{shorter}
use Rattle.cg_interp.proofs.Sizes.{small}
use Rattle.cg_interp.proofs.collecting.collect_on.Goals as goal

pub collecting-init : goal.collecting-init
collecting-init g c = came_nowhere c.args.script.now c.args.collection.now c.args.heap.now c.args.policy.now

pub step-answer-requires : goal.step-answer-requires
step-answer-requires g c =
    let at = c.requires.stands in
    let may = may_step_there c.args.script.now c.args.collection.now c.args.heap.now c.args.policy.now c.collecting.collection c.collecting.heap
    c.collecting.policy c.collecting.invariant at.0 at.1 at.2 c.sound.ensures in
    record { few = may.few; held = may.held; ready = may.ready; bounded = may.small }

pub collecting-smaller : goal.collecting-smaller
collecting-smaller g c =
    let on = c.goes_on.ensures.0 c.if-not-goes_on.false in
    shorter (activity_of.Collecting false c.collecting.collection ∷ []) (activity_of.Collecting false c.step-answer.new.self ∷ []) c.collecting.heap
    c.step-answer.new.heap (small c.step-answer.new.heap c.sound-in-collecting.ensures) (c.step-answer.ensures.falls on.0)

pub collecting-preserved : goal.collecting-preserved
collecting-preserved g c =
    let on = c.goes_on.ensures.0 c.if-not-goes_on.false in
    came_on c.args.script.now c.args.collection.now c.args.heap.now c.args.policy.now c.collecting.collection c.collecting.heap c.collecting.policy
    c.collecting.invariant c.step-answer.new.self c.step-answer.new.heap c.step-answer.new.policy
    c.step-answer.result on.0 c.step-answer.ensures.steps c.step-answer.ensures.ready c.step-answer.ensures.stage on.1 c.step-answer.ensures.falls c.step-answer.ensures.objects
