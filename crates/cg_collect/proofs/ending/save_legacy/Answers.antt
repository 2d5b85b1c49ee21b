use Rattle.std.proofs.Common.{sym, ap, ◌∙◌, refl}
use Rattle.cg_value.specs.declared.KindCode.TheVariants.{List as ListKind}
use Rattle.cg_value.specs.declared.Place.TheVariants.{Legacy}
use Rattle.cg_graph.specs.Store.{Store, list_at}
use Rattle.cg_heap.proofs.CallerLemmas.{live_of_kind}
use Rattle.cg_policy.specs.Flagset.{bits_of}
use Rattle.cg_collect.proofs.SavedObjects.{saving_first, saving_done, saving_live, saving_other, saving_new, saving_shorter, saving_one, saving_none}
use Rattle.cg_collect.proofs.ending.save_legacy.Goals as goal

pub objects-init : goal.objects-init
objects-init g c = saving_first c.args.script.now (bits_of c.args.facts.flags) c.args.heap.now c.first-next.result c.first-next.ensures

pub next-next-requires : goal.next-next-requires
next-next-requires g c = saving_live c.args.script.now (bits_of c.args.facts.flags) c.args.heap.now c.objects.heap c.objects.next c.in-Some.object
    c.sound.ensures.listed (live_of_kind c.args.heap.now 1 ListKind c.sound.ensures.root) c.requires.0 c.objects.invariant c.in-Some.is

pub is_saved-requires : goal.is_saved-requires
is_saved-requires g c = saving_live c.args.script.now (bits_of c.args.facts.flags) c.args.heap.now c.objects.heap c.objects.next c.in-Some.object
    c.sound.ensures.listed (live_of_kind c.args.heap.now 1 ListKind c.sound.ensures.root) c.requires.0 c.objects.invariant c.in-Some.is

pub save-requires : goal.save-requires
save-requires g c = record {
  live = saving_live c.args.script.now (bits_of c.args.facts.flags) c.args.heap.now c.objects.heap c.objects.next c.in-Some.object c.sound.ensures.listed
      (live_of_kind c.args.heap.now 1 ListKind c.sound.ensures.root) c.requires.0 c.objects.invariant c.in-Some.is;
  other = saving_other c.args.script.now (bits_of c.args.facts.flags) c.args.heap.now c.objects.heap c.objects.next c.in-Some.object c.sound.ensures.listed
      (live_of_kind c.args.heap.now 1 ListKind c.sound.ensures.root) c.requires.0 c.objects.invariant c.in-Some.is;
  new = saving_new c.args.script.now (bits_of c.args.facts.flags) c.args.heap.now c.objects.heap c.objects.next c.in-Some.object c.sound.ensures.listed
      (live_of_kind c.args.heap.now 1 ListKind c.sound.ensures.root) c.requires.0 c.objects.invariant c.in-Some.is;
}

pub objects-smaller-then-is_saved : goal.objects-smaller-then-is_saved
objects-smaller-then-is_saved g c = saving_shorter c.args.script.now (bits_of c.args.facts.flags) c.args.heap.now c.objects.heap c.objects.next c.in-Some.object
    c.sound.ensures.listed (live_of_kind c.args.heap.now 1 ListKind c.sound.ensures.root) c.requires.0 c.objects.invariant c.in-Some.is
    c.next-next.result c.next-next.ensures c.save.new.self (ap (λ (s : Store). list_at s Legacy) c.save.ensures)

pub objects-preserved-then-is_saved : goal.objects-preserved-then-is_saved
objects-preserved-then-is_saved g c = saving_one c.args.script.now (bits_of c.args.facts.flags) c.args.heap.now c.objects.heap c.objects.next c.in-Some.object
    c.sound.ensures.listed (live_of_kind c.args.heap.now 1 ListKind c.sound.ensures.root) c.requires.0 c.objects.invariant c.in-Some.is
    c.next-next.result c.next-next.ensures (sym c.is_saved.ensures ∙ c.if-is_saved.true) c.save.new.self c.save.ensures

pub objects-smaller : goal.objects-smaller
objects-smaller g c = saving_shorter c.args.script.now (bits_of c.args.facts.flags) c.args.heap.now c.objects.heap c.objects.next c.in-Some.object
    c.sound.ensures.listed (live_of_kind c.args.heap.now 1 ListKind c.sound.ensures.root) c.requires.0 c.objects.invariant c.in-Some.is
    c.next-next.result c.next-next.ensures c.objects.heap refl

pub objects-preserved : goal.objects-preserved
objects-preserved g c = saving_none c.args.script.now (bits_of c.args.facts.flags) c.args.heap.now c.objects.heap c.objects.next c.in-Some.object
    c.sound.ensures.listed (live_of_kind c.args.heap.now 1 ListKind c.sound.ensures.root) c.requires.0 c.objects.invariant c.in-Some.is
    c.next-next.result c.next-next.ensures (sym c.is_saved.ensures ∙ c.if-is_saved.false)

pub returns : goal.returns
returns g c = saving_done c.args.script.now (bits_of c.args.facts.flags) c.args.heap.now c.objects.heap c.objects.next c.objects.invariant c.in_default.is
