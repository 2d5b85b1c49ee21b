use Rattle.std.proofs.Common.{◌≡◌, sym, ◌∙◌, ap, true, false, is_some}
use Rattle.cg_collect.specs.Starting.{has_legacy_in}
use Rattle.cg_collect.proofs.Uncollectable.{finding_first, finding_live, finding_moved, moved_shorter, finding_passes, passes_shorter, finding_done}
use Rattle.cg_collect.proofs.legacy.set_finalized_aside.Goals as goal

pub objects-init : goal.objects-init
objects-init g c = finding_first c.args.script.now c.args.heap.now c.first_near-next.result c.first_near-next.ensures

pub next_near-next-requires : goal.next_near-next-requires
next_near-next-requires g c = finding_live c.args.script.now c.args.heap.now c.objects.heap c.objects.next c.in-Some.object c.sound-in-Some.ensures.listed c.objects.invariant c.in-Some.is

pub finalizers_of-requires : goal.finalizers_of-requires
finalizers_of-requires g c = finding_live c.args.script.now c.args.heap.now c.objects.heap c.objects.next c.in-Some.object c.sound-in-Some.ensures.listed c.objects.invariant c.in-Some.is

pub move_near-requires-clause-live : goal.move_near-requires-clause-live
move_near-requires-clause-live g c = finding_live c.args.script.now c.args.heap.now c.objects.heap c.objects.next c.in-Some.object c.sound-in-Some.ensures.listed c.objects.invariant c.in-Some.is

pub objects-smaller-then-is_some : goal.objects-smaller-then-is_some
objects-smaller-then-is_some g c =
    let legacy : has_legacy_in c.args.script.now c.objects.heap c.in-Some.object ≡ true = ap is_some (sym c.finalizers_of.ensures.legacy) ∙ sym c.is_some.ensures ∙ c.if-is_some.true in
    moved_shorter c.args.script.now c.args.heap.now c.objects.heap c.objects.next c.in-Some.object c.sound-in-Some.ensures.listed c.objects.invariant
    c.in-Some.is c.next_near-next.result c.next_near-next.ensures legacy c.move_near.new.self c.move_near.ensures

pub objects-preserved-then-is_some : goal.objects-preserved-then-is_some
objects-preserved-then-is_some g c =
    let legacy : has_legacy_in c.args.script.now c.objects.heap c.in-Some.object ≡ true = ap is_some (sym c.finalizers_of.ensures.legacy) ∙ sym c.is_some.ensures ∙ c.if-is_some.true in
    finding_moved c.args.script.now c.args.heap.now c.objects.heap c.objects.next c.in-Some.object c.sound-in-Some.ensures.listed c.objects.invariant
    c.in-Some.is c.next_near-next.result c.next_near-next.ensures legacy c.move_near.new.self c.move_near.ensures

pub objects-smaller : goal.objects-smaller
objects-smaller g c =
    let none : has_legacy_in c.args.script.now c.objects.heap c.in-Some.object ≡ false = ap is_some (sym c.finalizers_of.ensures.legacy) ∙ sym c.is_some.ensures ∙ c.if-is_some.false in
    passes_shorter c.args.script.now c.args.heap.now c.objects.heap c.objects.next c.in-Some.object c.sound-in-Some.ensures.listed c.objects.invariant
    c.in-Some.is c.next_near-next.result c.next_near-next.ensures none

pub objects-preserved : goal.objects-preserved
objects-preserved g c =
    let none : has_legacy_in c.args.script.now c.objects.heap c.in-Some.object ≡ false = ap is_some (sym c.finalizers_of.ensures.legacy) ∙ sym c.is_some.ensures ∙ c.if-is_some.false in
    finding_passes c.args.script.now c.args.heap.now c.objects.heap c.objects.next c.in-Some.object c.sound-in-Some.ensures.listed c.objects.invariant
    c.in-Some.is c.next_near-next.result c.next_near-next.ensures none

pub returns : goal.returns
returns g c = finding_done c.args.script.now c.args.heap.now c.objects.heap c.objects.next c.sound-2.ensures.listed c.objects.invariant c.in_default.is
