use Rattle.cg_trial.specs.View.{view_of}
use Rattle.cg_trial.proofs.Passes.{cursor_shorter, alive_at, but_numbers_more, ready_same}
use Rattle.cg_trial.proofs.Entries.{subtracting_at, subtracting_first, subtracting_room, subtracting_more, subtracting_end}
use Rattle.std.proofs.Common.{arith}
use Rattle.cg_trial.proofs.TakingBack.{few_same}
use Rattle.cg_trial.proofs.subtraction.subtract.Goals as goal

pub objects-init : goal.objects-init
objects-init g c = record { subtracting = subtracting_first c.args.members _ _ _ c.first_near-cursor.ensures; unheld = c.requires.unheld }

pub lower_all-requires-clause-ready : goal.lower_all-requires-clause-ready
lower_all-requires-clause-ready g c = ready_same c.args.members _ _ c.requires.ready c.objects.invariant.subtracting.lowered.rest

pub lower_all-requires-clause-live : goal.lower_all-requires-clause-live
lower_all-requires-clause-live g c = let so = subtracting_at c.args.members (view_of c.args.heap.now) (view_of c.objects.heap) _ _ _ _ c.objects.invariant.subtracting c.in-Some.is in
    alive_at c.args.members _ _ _ _ _ c.requires.ready so.at so.lowered.rest.same

pub lower_all-requires-clause-room : goal.lower_all-requires-clause-room
lower_all-requires-clause-room g c = let so = subtracting_at c.args.members (view_of c.args.heap.now) (view_of c.objects.heap) _ _ _ _ c.objects.invariant.subtracting c.in-Some.is in
    subtracting_room c.args.members _ _ _ _ _ so c.requires.room

pub following-cursor-requires : goal.following-cursor-requires
following-cursor-requires g c = let so = subtracting_at c.args.members (view_of c.args.heap.now) (view_of c.objects.heap) _ _ _ _ c.objects.invariant.subtracting c.in-Some.is in
    alive_at c.args.members _ _ _ _ _ c.requires.ready so.at (but_numbers_more so.lowered.rest c.lower_all.ensures.lowered.rest).same

pub objects-smaller : goal.objects-smaller
objects-smaller g c = let so = subtracting_at c.args.members (view_of c.args.heap.now) (view_of c.objects.heap) _ _ _ _ c.objects.invariant.subtracting c.in-Some.is in
    cursor_shorter c.args.members _ _ _ _ _ _ _ _ c.requires.ready so.at c.in-Some.is so.lowered.rest (but_numbers_more so.lowered.rest c.lower_all.ensures.lowered.rest) c.following-cursor.ensures

pub objects-preserved : goal.objects-preserved
objects-preserved g c = let so = subtracting_at c.args.members (view_of c.args.heap.now) (view_of c.objects.heap) _ _ _ _ c.objects.invariant.subtracting c.in-Some.is in
    record { subtracting = subtracting_more c.args.members _ _ _ _ _ _ _ _ so c.lower_all.ensures.lowered c.lower_all.ensures.looks c.following-cursor.ensures; unheld = c.lower_all.ensures.unheld }

pub returns-clause-lowered : goal.returns-clause-lowered
returns-clause-lowered g c = (subtracting_end c.args.members (view_of c.args.heap.now) (view_of c.objects.heap) _ _ _ c.objects.invariant.subtracting c.in_default.is).0

pub returns-clause-looks : goal.returns-clause-looks
returns-clause-looks g c = (subtracting_end c.args.members (view_of c.args.heap.now) (view_of c.objects.heap) _ _ _ c.objects.invariant.subtracting c.in_default.is).1

pub lower_all-requires-clause-few : goal.lower_all-requires-clause-few
lower_all-requires-clause-few g c = let so = subtracting_at c.args.members (view_of c.args.heap.now) (view_of c.objects.heap) _ _ _ _ c.objects.invariant.subtracting c.in-Some.is in
    few_same c.args.members (view_of c.args.heap.now) (view_of c.objects.heap) so.lowered.rest (omega (arith, c.size-all.ensures))
