use Rattle.cg_trial.proofs.WalksOverLists.{along_live}
use Rattle.cg_inspect.proofs.Objects.{along_all, along_next}
use Rattle.cg_inspect.proofs.live.append_place.Goals as goal

pub next_near-cursor-requires : goal.next_near-cursor-requires
next_near-cursor-requires g c = along_live c.args.heap.now c.sound.ensures.listed c.args.place c.objects.cursor c.objects.invariant.0 c.in-Some.object c.objects.invariant.2 c.in-Some.is

pub objects-smaller : goal.objects-smaller
objects-smaller g c =
    (along_next c.args.heap.now c.sound.ensures.listed c.args.place c.objects.cursor c.next_near-cursor.result c.args.objects.now.items c.objects.objects.items
    c.push.new.self.items c.in-Some.object c.objects.invariant c.in-Some.is c.next_near-cursor.ensures c.in_ok-push.ensures.items).1

pub objects-preserved : goal.objects-preserved
objects-preserved g c =
    (along_next c.args.heap.now c.sound.ensures.listed c.args.place c.objects.cursor c.next_near-cursor.result c.args.objects.now.items c.objects.objects.items
    c.push.new.self.items c.in-Some.object c.objects.invariant c.in-Some.is c.next_near-cursor.ensures c.in_ok-push.ensures.items).0

pub returns : goal.returns
returns g c = along_all c.args.heap.now c.args.place c.objects.cursor c.args.objects.now.items c.objects.objects.items c.objects.invariant c.in_default.is
