use Rattle.std.proofs.Common.{List, ℕ, ◌+◌, ◌-◌, subst, arith}
use Rattle.std.proofs.lemmas.List.{take_all}
use Rattle.cg_trial.specs.View.{view_of, Lowered}
use Rattle.cg_trial.proofs.Passes.{but_numbers_more}
use Rattle.cg_trial.proofs.TakingBack.{zeros_few}
use Rattle.cg_trial.proofs.Entries.{live_same, one_of, run_room, one_room, lowered_none, lowered_run, lowered_next}
use Rattle.cg_trial.proofs.subtraction.lower_each.Goals as goal

pub runs-init : goal.runs-init
runs-init g c = record { lowered = lowered_none c.args.members (view_of c.args.heap.now); within = omega arith; behind = omega arith; unheld = c.requires.unheld }

pub lower_number-requires-clause-live : goal.lower_number-requires-clause-live
lower_number-requires-clause-live g c =
    live_same (view_of c.args.heap.now) (view_of c.runs.heap) _ c.runs.invariant.lowered.rest.same (c.requires.live _ (one_of c.args.objects.now (c.runs.next - 1) (omega (arith, c.runs-test.true))))

pub lower_number-requires-clause-room : goal.lower_number-requires-clause-room
lower_number-requires-clause-room g c = λ here.
    let room = run_room c.args.members (view_of c.args.heap.now) (view_of c.runs.heap) c.args.objects.now (c.runs.next - 1) c.end_of_run-end.result _
    c.end_of_run-end.ensures.run c.runs.invariant.lowered c.requires.room here in
    omega (arith, room, c.runs.invariant.behind)

pub runs-preserved-then-object-objects : goal.runs-preserved-then-object-objects
runs-preserved-then-object-objects g c = record {
  lowered = lowered_run c.args.members (view_of c.args.heap.now) (view_of c.runs.heap) (view_of c.lower_number.new.heap) c.args.objects.now (c.runs.next - 1)
      c.end_of_run-end.result (c.end_of_run-end.result + 1 - 1) (c.end_of_run-end.result + 1 - c.runs.next) _
      c.end_of_run-end.ensures.run (omega arith) (omega (arith, c.runs.invariant.behind)) c.runs.invariant.lowered c.lower_number.ensures.lowered;
  within = omega (arith, c.end_of_run-end.ensures.within);
  behind = omega arith;
  unheld = omega (arith, c.runs.invariant.unheld, c.lower_number.ensures.unheld);
}

pub lower_number-requires-else-object-objects-clause-live : goal.lower_number-requires-else-object-objects-clause-live
lower_number-requires-else-object-objects-clause-live g c =
    live_same (view_of c.args.heap.now) (view_of c.runs.heap) _ c.runs.invariant.lowered.rest.same (c.requires.live _ (one_of c.args.objects.now (c.runs.next - 1) (omega (arith, c.runs-test.true))))

pub lower_number-requires-else-object-objects-clause-room : goal.lower_number-requires-else-object-objects-clause-room
lower_number-requires-else-object-objects-clause-room g c =
    one_room c.args.members (view_of c.args.heap.now) (view_of c.runs.heap) c.args.objects.now (c.runs.next - 1) (omega (arith, c.runs-test.true)) c.runs.invariant.lowered c.requires.room

pub runs-preserved : goal.runs-preserved
runs-preserved g c = record {
  lowered = lowered_next c.args.members (view_of c.args.heap.now) (view_of c.runs.heap) (view_of c.lower_number-else-object-objects.new.heap) c.args.objects.now (c.runs.next - 1) (c.runs.next + 1 - 1)
      (omega (arith, c.runs-test.true)) (omega (arith, c.runs.invariant.behind)) c.runs.invariant.lowered c.lower_number-else-object-objects.ensures.lowered;
  within = omega (arith, c.runs-test.true);
  behind = omega arith;
  unheld = omega (arith, c.runs.invariant.unheld, c.lower_number-else-object-objects.ensures.unheld);
}

pub lower_number-requires-then-next-objects-clause-live : goal.lower_number-requires-then-next-objects-clause-live
lower_number-requires-then-next-objects-clause-live g c =
    live_same (view_of c.args.heap.now) (view_of c.runs.heap) _ c.runs.invariant.lowered.rest.same
    (c.requires.live _ (one_of c.args.objects.now (c.runs.next - 1) (omega (arith, c.if-next-objects.true, c.runs.invariant.behind))))

pub lower_number-requires-then-next-objects-clause-room : goal.lower_number-requires-then-next-objects-clause-room
lower_number-requires-then-next-objects-clause-room g c =
    one_room c.args.members (view_of c.args.heap.now) (view_of c.runs.heap) c.args.objects.now (c.runs.next - 1)
    (omega (arith, c.if-next-objects.true, c.runs.invariant.behind)) c.runs.invariant.lowered c.requires.room

pub returns-then-next-objects-clause-lowered : goal.returns-then-next-objects-clause-lowered
returns-then-next-objects-clause-lowered g c =
    subst (λ (xs : List ℕ). Lowered c.args.members xs (view_of c.args.heap.now) (view_of c.lower_number-then-next-objects.new.heap)) (take_all c.runs.next c.args.objects.now (omega (arith, c.runs-test.false)))
    (lowered_next c.args.members (view_of c.args.heap.now) (view_of c.runs.heap) (view_of c.lower_number-then-next-objects.new.heap) c.args.objects.now (c.runs.next - 1) c.runs.next
    (omega (arith, c.if-next-objects.true, c.runs.invariant.behind)) (omega (arith, c.runs.invariant.behind)) c.runs.invariant.lowered c.lower_number-then-next-objects.ensures.lowered)

pub overflow_add-unheld : goal.overflow_add-unheld
overflow_add-unheld g c = omega (
  arith,
  c.runs.invariant.unheld,
  c.lower_number.ensures.unheld,
  zeros_few c.args.members (view_of c.args.heap.now) (view_of c.lower_number.new.heap) (but_numbers_more c.runs.invariant.lowered.rest c.lower_number.ensures.lowered.rest) c.requires.few,
)

pub overflow_add-unheld-else-object-objects : goal.overflow_add-unheld-else-object-objects
overflow_add-unheld-else-object-objects g c = omega (
  arith,
  c.runs.invariant.unheld,
  c.lower_number-else-object-objects.ensures.unheld,
  zeros_few c.args.members (view_of c.args.heap.now) (view_of c.lower_number-else-object-objects.new.heap) (but_numbers_more c.runs.invariant.lowered.rest c.lower_number-else-object-objects.ensures.lowered.rest) c.requires.few,
)

pub overflow_add-unheld-then-next-objects : goal.overflow_add-unheld-then-next-objects
overflow_add-unheld-then-next-objects g c = omega (
  arith,
  c.runs.invariant.unheld,
  c.lower_number-then-next-objects.ensures.unheld,
  zeros_few c.args.members (view_of c.args.heap.now) (view_of c.lower_number-then-next-objects.new.heap) (but_numbers_more c.runs.invariant.lowered.rest c.lower_number-then-next-objects.ensures.lowered.rest) c.requires.few,
)
