use Rattle.std.proofs.Common.{sym, ◌∙◌, arith}
use Rattle.cg_graph.specs.Value.{references}
use Rattle.cg_graph.specs.Store.{entries_of}
use Rattle.cg_trial.specs.View.{view_of}
use Rattle.cg_trial.proofs.EffectsOfCalls.{number_told}
use Rattle.cg_trial.proofs.Passes.{stands}
use Rattle.cg_trial.proofs.Searches.{search_apart, search_places}
use Rattle.cg_trial.proofs.WalkInvariant.{member_old, sifting_at, sifting_first, sifting_ready, sifting_live, sifting_aside, aside_lighter, sifting_pass, pass_lighter, sifting_alive, aside_zeros, sifting_done, sifting_end, sifting_over, looks_within}
use Rattle.std.proofs.Common.{inl}
use Rattle.cg_trial.proofs.subtraction.set_aside.Goals as goal

pub objects-init : goal.objects-init
objects-init g c = record { sifting = sifting_first c.args.search _ _ _ c.requires.none c.first_near-cursor.ensures; left = c.requires.left }

pub head_near-head-requires : goal.head_near-head-requires
head_near-head-requires g c = let so = sifting_at c.args.search (view_of c.args.heap.now) (view_of c.objects.heap) _ _ _ _ c.objects.invariant.sifting c.in-Some.is in
    sifting_live c.args.search _ _ _ _ _ c.requires.ready so

pub following-cursor-requires : goal.following-cursor-requires
following-cursor-requires g c = let so = sifting_at c.args.search (view_of c.args.heap.now) (view_of c.objects.heap) _ _ _ _ c.objects.invariant.sifting c.in-Some.is in
    sifting_live c.args.search _ _ _ _ _ c.requires.ready so

pub move_last-requires-clause-live : goal.move_last-requires-clause-live
move_last-requires-clause-live g c = let so = sifting_at c.args.search (view_of c.args.heap.now) (view_of c.objects.heap) _ _ _ _ c.objects.invariant.sifting c.in-Some.is in
    sifting_live c.args.search _ _ _ _ _ c.requires.ready so

pub objects-smaller-then-head-eq0 : goal.objects-smaller-then-head-eq0
objects-smaller-then-head-eq0 g c = let so = sifting_at c.args.search (view_of c.args.heap.now) (view_of c.objects.heap) _ _ _ _ c.objects.invariant.sifting c.in-Some.is in
    let live = sifting_live c.args.search _ _ _ _ _ c.requires.ready so in
    let in_old = member_old c.args.search _ _ _ _ _ so c.in-Some.object (inl (stands _ _ so.front so.back so.at)) in
    aside_lighter c.args.search (search_apart c.args.search c.requires.search) _ _ (view_of c.move_last.new.heap) _ _ _ _ c.requires.ready so (sym (number_told c.objects.heap _ _ live c.head_near-head.ensures.number)
    ∙ c.if-head-eq0.true) c.following-cursor.ensures c.move_last.ensures
    (λ q h. c.requires.alone q _ h in_old) _ c.in-Some.is

pub objects-preserved-then-head-eq0 : goal.objects-preserved-then-head-eq0
objects-preserved-then-head-eq0 g c = let so = sifting_at c.args.search (view_of c.args.heap.now) (view_of c.objects.heap) _ _ _ _ c.objects.invariant.sifting c.in-Some.is in
    let live = sifting_live c.args.search _ _ _ _ _ c.requires.ready so in
    let in_old = member_old c.args.search _ _ _ _ _ so c.in-Some.object (inl (stands _ _ so.front so.back so.at)) in
    let zero = sym (number_told c.objects.heap _ _ live c.head_near-head.ensures.number) ∙ c.if-head-eq0.true in
    record {
      sifting = sifting_aside c.args.search (search_apart c.args.search c.requires.search) _ _ (view_of c.move_last.new.heap) _ _ _ _ c.requires.ready so zero c.following-cursor.ensures c.move_last.ensures (λ q h. c.requires.alone q _ h in_old);
      left = omega (arith, c.objects.invariant.left, aside_zeros c.args.search (search_apart c.args.search c.requires.search) _ _ (view_of c.move_last.new.heap) _ _ _ _ c.requires.ready so zero c.following-cursor.ensures c.move_last.ensures);
    }

pub take_back_all-requires-clause-ready : goal.take_back_all-requires-clause-ready
take_back_all-requires-clause-ready g c = sifting_ready c.args.search _ _ _ _ _ c.objects.invariant.sifting c.requires.ready

pub take_back_all-requires-clause-live : goal.take_back_all-requires-clause-live
take_back_all-requires-clause-live g c = let so = sifting_at c.args.search (view_of c.args.heap.now) (view_of c.objects.heap) _ _ _ _ c.objects.invariant.sifting c.in-Some.is in
    sifting_live c.args.search _ _ _ _ _ c.requires.ready so

pub following-cursor-requires-else-head-eq0 : goal.following-cursor-requires-else-head-eq0
following-cursor-requires-else-head-eq0 g c = let so = sifting_at c.args.search (view_of c.args.heap.now) (view_of c.objects.heap) _ _ _ _ c.objects.invariant.sifting c.in-Some.is in
    sifting_alive c.args.search (view_of c.args.heap.now) (view_of c.objects.heap) (view_of c.take_back_all.new.heap) c.in-Some.object _ _
    (references (entries_of c.objects.heap c.in-Some.object)) c.requires.ready so c.take_back_all.ensures.woken

pub objects-smaller : goal.objects-smaller
objects-smaller g c = let so = sifting_at c.args.search (view_of c.args.heap.now) (view_of c.objects.heap) _ _ _ _ c.objects.invariant.sifting c.in-Some.is in
    let live = sifting_live c.args.search _ _ _ _ _ c.requires.ready so in
    pass_lighter c.args.search _ _ _ _ _ _ _ _ c.requires.ready so (λ z. c.if-head-eq0.false (number_told c.objects.heap _ _ live c.head_near-head.ensures.number ∙ z))
    c.take_back_all.ensures.woken c.following-cursor-else-head-eq0.ensures c.take_back_all.ensures.later c.take_back_all.ensures.looks _ c.in-Some.is

pub objects-preserved : goal.objects-preserved
objects-preserved g c = let so = sifting_at c.args.search (view_of c.args.heap.now) (view_of c.objects.heap) _ _ _ _ c.objects.invariant.sifting c.in-Some.is in
    let live = sifting_live c.args.search _ _ _ _ _ c.requires.ready so in
    record {
      sifting = sifting_pass c.args.search _ _ _ _ _ _ _ _ c.requires.ready so (λ z. c.if-head-eq0.false (number_told c.objects.heap _ _ live c.head_near-head.ensures.number
          ∙ z)) c.take_back_all.ensures.woken c.following-cursor-else-head-eq0.ensures c.take_back_all.ensures.later c.take_back_all.ensures.looks;
      left = c.take_back_all.ensures.left;
    }

pub returns-in_default-clause-parted : goal.returns-in_default-clause-parted
returns-in_default-clause-parted g c = sifting_end c.args.search _ _ _ _ (sifting_done c.args.search (view_of c.args.heap.now) (view_of c.objects.heap) _ _ _ c.objects.invariant.sifting c.in_default.is)

pub returns-in_default-clause-later : goal.returns-in_default-clause-later
returns-in_default-clause-later g c = c.objects.invariant.sifting.later

pub returns-in_default-clause-looks : goal.returns-in_default-clause-looks
returns-in_default-clause-looks g c = looks_within c.args.search _ (view_of c.objects.heap) _ _ _ c.objects.invariant.sifting

pub returns-clause-parted : goal.returns-clause-parted
returns-clause-parted g c = sifting_over c.args.search (view_of c.args.heap.now) (view_of c.objects.heap) _ _ _ c.objects.invariant.sifting (omega (arith, c.objects.invariant.left, c.objects-test.false))

pub returns-clause-later : goal.returns-clause-later
returns-clause-later g c = c.objects.invariant.sifting.later

pub returns-clause-looks : goal.returns-clause-looks
returns-clause-looks g c = looks_within c.args.search _ (view_of c.objects.heap) _ _ _ c.objects.invariant.sifting

pub move_last-requires-clause-place : goal.move_last-requires-clause-place
move_last-requires-clause-place g c = (search_places c.args.search c.requires.search).1
