use Rattle.std.proofs.Common.{◌++◌, ◌∷◌, [], inr, refl, subst, sym, ap, ◌∙◌, arith}
use Rattle.cg_value.specs.declared.Val.TheVariants.{Ref}
use Rattle.cg_value.specs.declared.Place.TheVariants.{Gen, Cand}
use Rattle.cg_graph.specs.Value.{item, references}
use Rattle.cg_graph.specs.Changes.{moved, rewritten}
use Rattle.cg_graph.specs.Store.{Store, IsLive, entries_of}
use Rattle.cg_heap.specs.Calls.{IsListed}
use Rattle.cg_heap.proofs.CallerLemmas.{lives_on, kinds-rewritten, live_of_kind}
use Rattle.cg_machine.specs.Collect.{older}
use Rattle.cg_value.specs.declared.KindCode.TheVariants.{List as ListKind}
use Rattle.cg_trial.proofs.Lists.{absent}
use Rattle.cg_death.proofs.RowSplits.{head_in}
use Rattle.cg_graph.specs.Store.{list_at}
use Rattle.cg_collect.proofs.Garbage.{not_garbage}
use Rattle.cg_collect.proofs.FinalizerPhase.{condemned}
use Rattle.cg_collect.proofs.NothingIsMade.{keeps-moved, keeps-held, keeps-saved}
use Rattle.cg_collect.proofs.TakingTurns.{in_heap, goes_on, tells}
use Rattle.cg_collect.proofs.ClearingTurns.{saved-turn, tuple-turn, held-turn, apart_saved, apart_older, apart_held, others_left, one_and_others, as_much_for_it, as_much_for_others}
use Rattle.cg_collect.proofs.turns.begin_turn.Goals as goal

-- With SAVEALL it is saved.
pub save-requires-clause-live : goal.save-requires-clause-live
save-requires-clause-live g c = (condemned c.args.heap.now c.sound.ensures.listed c.args.object c.requires.first).0

pub save-requires-clause-other : goal.save-requires-clause-other
save-requires-clause-other g c = λ e. not_garbage c.args.heap.now c.args.object Cand c.requires.ready.0.garbage
    (condemned c.args.heap.now c.sound.ensures.listed c.args.object c.requires.first).1 (λ d. cc) (sym e)

pub save-requires-clause-new : goal.save-requires-clause-new
save-requires-clause-new g c = absent (references (entries_of c.args.heap.now 1)) c.args.object (c.requires.ready.0.candidates c.args.object
    (head_in (list_at c.args.heap.now Cand) c.args.object c.requires.first))

pub move_to-requires-clause-live : goal.move_to-requires-clause-live
move_to-requires-clause-live g c =
    subst (λ (now : Store). IsLive now c.args.object) (sym c.save.ensures)
    (lives_on c.args.heap.now (rewritten 1 (entries_of c.args.heap.now 1 ++ item (Ref c.args.object) ∷ []) c.args.heap.now)
    (kinds-rewritten 1 (entries_of c.args.heap.now 1 ++ item (Ref c.args.object) ∷ []) c.args.heap.now) c.args.object
    (condemned c.args.heap.now c.sound.ensures.listed c.args.object c.requires.first).0)

pub returns-then-intersects : goal.returns-then-intersects
returns-then-intersects g c = λ script policy.
    let store = c.args.heap.now in
    let older_place = Gen (older c.args.facts.generation) in
    let (live, at) = condemned store c.sound.ensures.listed c.args.object c.requires.first in
    let names = entries_of store 1 ++ item (Ref c.args.object) ∷ [] in
    in_heap (c.move_to.ensures ∙ ap (λ k. moved c.args.object (Gen k) c.save.new.self) c.older.ensures ∙ ap (moved c.args.object older_place) c.save.ensures)
    (tells c.tells.ensures (saved-turn store c.args.object live at script c.args.facts policy (sym (c.intersects.ensures tt) ∙ c.if-intersects.true))
    (apart_saved store c.args.object (live_of_kind store 1 ListKind c.sound.ensures.root) at c.args.facts.generation (subst IsListed c.save.ensures c.sound-then-intersects.ensures.listed)
    (lives_on store (rewritten 1 names store) (kinds-rewritten 1 names store) c.args.object live) c.requires.ready)
    tt (λ n few. few) (omega arith, refl) (keeps-saved c.args.object older_place names store))

pub kind_of-requires : goal.kind_of-requires
kind_of-requires g c = (condemned c.args.heap.now c.sound.ensures.listed c.args.object c.requires.first).0

-- A tuple moves to the older generation.
pub move_to-requires-in-Tuple-clause-live : goal.move_to-requires-in-Tuple-clause-live
move_to-requires-in-Tuple-clause-live g c = (condemned c.args.heap.now c.sound.ensures.listed c.args.object c.requires.first).0

pub returns-in-Tuple : goal.returns-in-Tuple
returns-in-Tuple g c = λ script policy.
    let store = c.args.heap.now in
    let (live, at) = condemned store c.sound.ensures.listed c.args.object c.requires.first in
    in_heap (c.move_to-in-Tuple.ensures ∙ ap (λ k. moved c.args.object (Gen k) store) c.older-in-Tuple.ensures)
    (goes_on c.to.ensures (tuple-turn store c.args.object live at script c.args.facts policy c.in-Tuple.ensures (sym (c.intersects.ensures tt) ∙ c.if-intersects.false))
    (apart_older store c.sound.ensures.listed c.args.object live c.args.facts.generation (not_garbage store c.args.object Cand c.requires.ready.0.garbage at (λ e. cc)) c.requires.ready) tt
    (inr (refl, omega (arith, others_left store c.sound.ensures.listed c.args.object live c.args.facts.generation, one_and_others store c.sound.ensures.listed c.args.object live at)))
    (λ n few. few) (omega arith, refl) (keeps-moved c.args.object (Gen (older c.args.facts.generation)) store))

-- Any other is held.
pub hold-requires : goal.hold-requires
hold-requires g c = record { live = (condemned c.args.heap.now c.sound.ensures.listed c.args.object c.requires.first).0; few = c.requires.few }

pub returns-in_default : goal.returns-in_default
returns-in_default g c = λ script policy.
    let store = c.args.heap.now in
    let (live, at) = condemned store c.sound.ensures.listed c.args.object c.requires.first in
    in_heap c.hold.ensures
    (goes_on c.to-in_default.ensures (held-turn store c.args.object live at script c.args.facts policy c.kind_of.result c.kind_of.ensures c.in_default.not-Tuple
    (sym (c.intersects.ensures tt) ∙ c.if-intersects.false))
    (apart_held store c.sound.ensures.listed c.args.object live c.requires.ready, not_garbage store c.args.object Cand c.requires.ready.0.garbage at (λ e. cc)) tt
    (inr (
      refl,
      omega (
        arith,
        as_much_for_it store c.sound.ensures.listed c.args.object live,
        as_much_for_others store c.sound.ensures.listed c.args.object
            live,
        one_and_others store c.sound.ensures.listed c.args.object live at,
      ),
    ))
    (λ n few. few) (omega arith, refl) (keeps-held (c.args.object ∷ []) store))
