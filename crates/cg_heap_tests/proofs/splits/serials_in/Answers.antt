use Rattle.cg_trial.proofs.WalksOverLists.{along_first, along_live, along_more, along_end}
use Rattle.cg_heap_tests.proofs.splits.serials_in.Goals as goal

pub objects-init : goal.objects-init
objects-init g c = along_first c.args.heap.now c.args.place _ _ c.new-serials.ensures.items c.first-cursor.ensures

pub next-cursor-requires : goal.next-cursor-requires
next-cursor-requires g c = along_live c.args.heap.now c.sound.ensures.listed c.args.place _ _ c.in-Some.object c.objects.invariant c.in-Some.is

pub objects-smaller : goal.objects-smaller
objects-smaller g c =
    (along_more c.args.heap.now c.sound.ensures.listed c.args.place c.objects.cursor c.next-cursor.result c.objects.serials.items c.push.new.self.items
    c.in-Some.object c.objects.invariant c.in-Some.is c.next-cursor.ensures c.in_ok-push.ensures.items).1

pub objects-preserved : goal.objects-preserved
objects-preserved g c =
    (along_more c.args.heap.now c.sound.ensures.listed c.args.place c.objects.cursor c.next-cursor.result c.objects.serials.items c.push.new.self.items
    c.in-Some.object c.objects.invariant c.in-Some.is c.next-cursor.ensures c.in_ok-push.ensures.items).0

pub returns : goal.returns
returns g c = along_end c.args.heap.now c.args.place c.objects.cursor c.objects.serials.items c.objects.invariant c.in_default.is
