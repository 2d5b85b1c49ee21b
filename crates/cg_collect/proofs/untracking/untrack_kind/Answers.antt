use Rattle.std.proofs.Common.{arith}
use Rattle.cg_collect.proofs.Untracked.{untracks_none, untracking_looked, untracking_live, untracking_looks, untracking_shorter, untracking_done}
use Rattle.cg_collect.proofs.untracking.untrack_kind.Goals as goal

pub returns-then-has_none : goal.returns-then-has_none
returns-then-has_none g c = record { untracks = untracks_none c.args.generation c.args.kind c.args.heap.now (c.has_none.ensures c.if-has_none.true); looks = omega arith }

pub objects-init : goal.objects-init
objects-init g c = untracking_looked c.args.generation c.args.kind c.args.heap.now c.first_near-next.result c.args.steps.now c.first_near-next.ensures

pub next_near-next-requires : goal.next_near-next-requires
next_near-next-requires g c = untracking_live c.args.generation c.args.kind c.args.heap.now c.objects.heap c.objects.next c.in-Some.object
    c.sound-in-Some.ensures.listed c.objects.invariant.walk c.in-Some.is

pub untrack_one-requires : goal.untrack_one-requires
untrack_one-requires g c = untracking_live c.args.generation c.args.kind c.args.heap.now c.objects.heap c.objects.next c.in-Some.object
    c.sound-in-Some.ensures.listed c.objects.invariant.walk c.in-Some.is

pub objects-smaller : goal.objects-smaller
objects-smaller g c = untracking_shorter c.args.generation c.args.kind c.args.heap.now c.objects.heap c.objects.next c.in-Some.object
    c.sound-in-Some.ensures.listed c.objects.invariant.walk c.in-Some.is
    c.next_near-next.result c.next_near-next.ensures c.untrack_one.new.heap c.untrack_one.ensures.untracks

pub objects-preserved : goal.objects-preserved
objects-preserved g c = untracking_looks c.args.generation c.args.kind c.args.heap.now c.objects.heap c.objects.next c.in-Some.object
    c.sound-in-Some.ensures.listed c.objects.invariant.walk c.in-Some.is
    c.next_near-next.result c.next_near-next.ensures c.untrack_one.new.heap _ c.objects.steps c.untrack_one.new.steps c.untrack_one.ensures.untracks
    c.objects.invariant.looked c.untrack_one.ensures.looks

pub returns : goal.returns
returns g c = record {
  untracks = untracking_done c.args.generation c.args.kind c.args.heap.now c.objects.heap c.objects.next c.sound-2.ensures.listed c.objects.invariant.walk c.in_default.is;
  looks = omega (arith, c.objects.invariant.looked);
}
