use Rattle.std.proofs.Common.{refl, [], arith}
use Rattle.std.proofs.KnownBytes.{Appends-nil}
use Rattle.cg_records.specs.Text.{member_text}
use Rattle.cg_interp.specs.Graphs.{member_in}
use Rattle.cg_trial.proofs.WalksOverLists.{along_first, along_live}
use Rattle.cg_interp.proofs.GraphText.{given_err, along_on, along_shorter, along_cut, along_all}
use Rattle.cg_interp.proofs.graphs.write_members_at.Goals as goal

pub objects-init : goal.objects-init
objects-init g c = record {
  so_far = record { done = []; along = along_first c.args.heap.now c.args.place c.first_near-cursor.result [] refl c.first_near-cursor.ensures; wrote = Appends-nil _ };
  later = omega arith;
}

pub next_near-cursor-requires : goal.next_near-cursor-requires
next_near-cursor-requires g c = along_live c.args.heap.now c.sound.ensures.listed c.args.place c.objects.cursor _ c.in-Some.object c.objects.invariant.so_far.along c.in-Some.is

pub objects-smaller : goal.objects-smaller
objects-smaller g c = along_shorter c.args.heap.now c.args.place (λ o. member_text (member_in c.args.script.now c.args.heap.now c.args.detection o))
    c.sound.ensures.listed c.objects.cursor c.in-Some.object c.in-Some.is _ _ c.objects.invariant.so_far c.next_near-cursor.result c.next_near-cursor.ensures

pub objects-preserved : goal.objects-preserved
objects-preserved g c = record {
  so_far = along_on c.args.heap.now c.args.place (λ o. member_text (member_in c.args.script.now c.args.heap.now c.args.detection o)) c.sound.ensures.listed
      c.objects.cursor c.in-Some.object c.in-Some.is _ _ c.objects.invariant.so_far c.next_near-cursor.result _ c.next_near-cursor.ensures
      c.in_ok-write_member.ensures.ok;
  later = omega (arith, c.objects.invariant.later, c.write_member.ensures.cause.later);
}

pub returns-in_err-write_member-clause-err : goal.returns-in_err-write_member-clause-err
returns-in_err-write_member-clause-err g c =
    given_err _ _ (along_cut c.args.heap.now c.args.place (λ o. member_text (member_in c.args.script.now c.args.heap.now c.args.detection o))
    c.sound.ensures.listed c.objects.cursor c.in-Some.object c.in-Some.is _ _ c.objects.invariant.so_far _ c.in_err-write_member.ensures.err)

pub returns-clause-ok : goal.returns-clause-ok
returns-clause-ok g c = along_all c.args.heap.now c.args.place (λ o. member_text (member_in c.args.script.now c.args.heap.now c.args.detection o))
    c.objects.cursor _ _ c.objects.invariant.so_far c.in_default.is

pub write_member-requires : goal.write_member-requires
write_member-requires g c = along_live c.args.heap.now c.sound.ensures.listed c.args.place c.objects.cursor _ c.in-Some.object c.objects.invariant.so_far.along c.in-Some.is
