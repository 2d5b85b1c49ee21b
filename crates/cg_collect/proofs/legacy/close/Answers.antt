use Rattle.cg_collect.proofs.PlacesOfObjects.{live_on}
use Rattle.cg_collect.proofs.Uncollectable.{closing_live, closing_looked, closing_looks, closing_shorter, closing_done, closing_over}
use Rattle.cg_collect.proofs.legacy.close.Goals as goal

pub set_references_aside-requires : goal.set_references_aside-requires
set_references_aside-requires g c = closing_live c.args.heap.now c.objects.heap c.objects.next c.in-Some.object c.sound-in-Some.ensures.listed c.objects.invariant.walk c.in-Some.is

pub next-next-requires : goal.next-next-requires
next-next-requires g c =
    live_on c.objects.heap c.set_references_aside.new.heap c.set_references_aside.ensures.sets.same c.in-Some.object
    (closing_live c.args.heap.now c.objects.heap c.objects.next c.in-Some.object c.sound-in-Some.ensures.listed c.objects.invariant.walk c.in-Some.is)

pub objects-smaller : goal.objects-smaller
objects-smaller g c = closing_shorter c.args.heap.now c.objects.heap c.objects.next c.in-Some.object c.sound-in-Some.ensures.listed c.objects.invariant.walk c.in-Some.is
    c.set_references_aside.new.heap c.next-next.result c.sound-in-Some-2.ensures.listed c.set_references_aside.ensures.sets c.next-next.ensures

pub objects-preserved : goal.objects-preserved
objects-preserved g c = closing_looks c.args.heap.now c.objects.heap c.objects.next c.in-Some.object c.sound-in-Some.ensures.listed c.objects.invariant.walk c.in-Some.is
    c.set_references_aside.new.heap c.next-next.result c.sound-in-Some-2.ensures.listed c.set_references_aside.ensures.sets c.next-next.ensures
    c.args.steps.now c.objects.steps c.set_references_aside.new.steps c.objects.invariant.looked c.set_references_aside.ensures.looks

pub objects-init : goal.objects-init
objects-init g c = closing_looked c.args.heap.now c.first-next.result c.args.steps.now c.first-next.ensures

pub returns : goal.returns
returns g c = record {
  closes = closing_done c.args.heap.now c.objects.heap c.objects.next c.sound-2.ensures.listed c.objects.invariant.walk c.in_default.is;
  looks = closing_over c.args.heap.now c.objects.heap c.objects.next c.args.steps.now c.objects.steps c.objects.invariant c.in_default.is;
}
