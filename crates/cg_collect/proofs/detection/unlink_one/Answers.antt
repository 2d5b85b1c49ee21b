use Rattle.std.proofs.Common.{◌+◌, ◌≤◌, ap, subst, sym}
use Rattle.cg_collect.specs.declared.phase.Phase.TheVariants as phase_of
use Rattle.cg_collect.proofs.TakingTurns.{at_phase}
use Rattle.cg_collect.specs.Looks.{looks_left, most_looks}
use Rattle.cg_collect.proofs.detection.unlink_one.Goals as goal

pub returns-in-Some-clause-takes : goal.returns-in-Some-clause-takes
returns-in-Some-clause-takes g c = λ script facts policy. at_phase (ap (phase_of.Unlinking c.args.member) c.in-Some.is) (c.look_at.ensures.takes script facts policy)

pub returns-in-None-clause-takes : goal.returns-in-None-clause-takes
returns-in-None-clause-takes g c = λ script facts policy. at_phase (ap (phase_of.Unlinking c.args.member) c.in-None.is) (c.next_member.ensures.takes script facts policy)

pub returns-in-Some-clause-looks : goal.returns-in-Some-clause-looks
returns-in-Some-clause-looks g c =
    subst
    (λ w. c.look_at.new.steps + looks_left (phase_of.Unlinking c.args.member w) c.look_at.result.phase c.look_at.new.heap ≤ c.args.steps.now + most_looks 0
    (phase_of.Unlinking c.args.member w) c.args.heap.now)
    (sym c.in-Some.is) c.look_at.ensures.looks

pub returns-in-None-clause-looks : goal.returns-in-None-clause-looks
returns-in-None-clause-looks g c =
    subst
    (λ w. c.next_member.new.steps + looks_left (phase_of.Unlinking c.args.member w) c.next_member.result.phase c.next_member.new.heap ≤ c.args.steps.now +
    most_looks 0 (phase_of.Unlinking c.args.member w) c.args.heap.now)
    (sym c.in-None.is) c.next_member.ensures.looks
