-- What a collection on top holds, how many collections are under way, and room for a step.
use Rattle.std.proofs.Common.{◌≡◌, refl, sym, ◌∙◌, ap, subst, ℕ, ◌+◌, ◌<◌, ◌≤◌, Bool, true, false, cond, ◌||◌, List, [], ◌∷◌, ◌++◌, length, length-append, Option, None, Some, arith}
use Rattle.std.specs.Prelude.{◌-◌, flat_map, count_by, map, drop}
use Rattle.std.specs.List.{list_any}
use Rattle.std.specs.FinMap as fin
use Rattle.std.proofs.lemmas.List.Sums.{sum_by-cons, sum_by-append}
use Rattle.cg_value.specs.declared.Place.TheVariants.{Pend}
use Rattle.cg_script.specs.declared.Script.{Script}
use Rattle.cg_graph.specs.Maps.{total}
use Rattle.cg_graph.specs.Holdings.{occurrences}
use Rattle.cg_graph.specs.Rows.{Row}
use Rattle.cg_graph.specs.Store.{Store, Node, object_from, objects_of, outside_of, outside_in, list_at}
use Rattle.cg_graph.proofs.Objects.{occurrences-append}
use Rattle.cg_heap.specs.Keeps.{one}
use Rattle.cg_heap.specs.Calls.{IsSound, HasFewHolds, object_number}
use Rattle.cg_trial.proofs.Lists.{occurrences-cons}
use Rattle.cg_machine.specs.World as machine
use Rattle.cg_machine.specs.World.{World, Activity, Releasing, Collecting}
use Rattle.cg_machine.specs.Holdings.{holds, is_collection}
use Rattle.cg_laws.specs.Lawful.{IsLawful}
use Rattle.cg_represents.specs.Represents.{Represents}
use Rattle.cg_death.specs.declared.release.Release.{Release}
use Rattle.cg_death.specs.Activities.{HasHolds, references_left}
use Rattle.cg_death.proofs.CallerLemmas.{held_on_top}
use Rattle.cg_collect.specs.declared.collection.Collection.{Collection}
use Rattle.cg_collect.specs.declared.phase.Phase.{Phase}
use Rattle.cg_collect.specs.declared.phase.Phase.TheVariants as phase_of
use Rattle.cg_collect.specs.Phases.{machine_phase, collecting, collection_of, released_over, on_stack, store_after}
use Rattle.cg_collect.specs.Collections.{held_by, given_up_by, own_holds_at}
use Rattle.cg_interp.specs.declared.activity.Activity.{Activity as Own}
use Rattle.cg_interp.specs.declared.activity.Activity.TheVariants as activity
use Rattle.cg_interp.specs.Engines.{State, ActivityShows, ShowsAll, HasHandedOut, is_collecting, any_collecting}
use Rattle.cg_interp.specs.Turns.{IsFit}
use Rattle.cg_interp.proofs.LawsOfEngines.{at_least, few_holds, few_objects}
use Rattle.cg_interp.proofs.CollectReady.{phase_there}
use Rattle.cg_interp.proofs.CollectionUnderWay.{shown}

-- the heap after the remaining lines are printed has the same nodes
nodes_after : (p : Phase) (store : Store) → (store_after p store).nodes ≡ store.nodes
nodes_after (phase_of.Living next) store = refl
nodes_after _ store = refl

outside_after : (p : Phase) (store : Store) (s : ℕ) → outside_of (store_after p store) s ≡ outside_of store s
outside_after p store s = ap (λ m. outside_in (fin.get m s)) (nodes_after p store)

-- what is given up is held, and what the phase holds
held_over : (s : ℕ) (release : Option Release) (tops : List Activity) → occurrences s (flat_map holds (released_over release tops))
    ≡ occurrences s (given_up_by release) + occurrences s (flat_map holds tops)
held_over s None tops = omega arith
held_over s (Some release) tops = occurrences-append s (references_left release) (flat_map holds tops)

held_at : (s : ℕ) (asked : Bool) (c : Collection) (p : Phase) (pending : List ℕ) → occurrences s (own_holds_at p) ≤ occurrences s (flat_map holds (collecting asked c (machine_phase p pending)))
held_at s asked c (phase_of.AfterCallback weak) pending = omega (arith, occurrences-cons s weak [], occurrences-cons s weak (drop 1 pending ++ []))
held_at s asked c _ pending = omega arith

module _ (asked : Bool) (c : Collection) (store : Store) (w : World) (below : List Activity) (r : Represents (store_after c.phase store) w) (top : w.stack ≡ on_stack asked c store ++ below) where
  -- a collection on top has its holds
  pub collection_is_held : HasHolds store (held_by c)
  collection_is_held s = omega (
    arith,
    held_on_top (store_after c.phase store) w r (on_stack asked c store) below top s,
    outside_after c.phase store s,
    occurrences-append s (given_up_by c.release) (own_holds_at c.phase),
    held_over s c.release (collecting asked c (machine_phase c.phase (list_at store Pend))),
    held_at s asked c c.phase (list_at store Pend),
  )

-- The heap has few holds, in a world of a run.
pub few_holds_after : (script : Script) (budget : ℕ) (p : Phase) (store : Store) (w : World) → IsSound store → Represents (store_after p store) w
    → IsLawful script budget w → budget ≤ 100000 → HasFewHolds store
few_holds_after script budget p store w sound r lawful low =
    let number : object_number (store_after p store) ≤ 1000000 = subst (λ m. total one m - 1 ≤ 1000000) (sym (nodes_after p store)) sound.objects in
    let few = few_holds script budget (store_after p store) w r lawful low (few_objects (store_after p store) number) in
    subst (λ m. total (λ (n : Node). n.outside) m < 2147483646) (nodes_after p store) few

pub objects_after : (p : Phase) (store : Store) (w : World) → Represents (store_after p store) w → length w.objects ≡ length (objects_of store)
objects_after p store w r = ap length (sym r.objects) ∙ each p
  where
    entries : (rows rest : List Row) (es : List (ℕ × Node)) → length (map (λ (e : ℕ × Node). object_from rows e.0 e.1) es) ≡ length (map (λ (e : ℕ × Node). object_from rest e.0 e.1) es)
    entries rows rest [] = refl
    entries rows rest (e ∷ es) = omega (arith, entries rows rest es)

    each : (p : Phase) → length (objects_of (store_after p store)) ≡ length (objects_of store)
    each (phase_of.Living next) = entries (store_after (phase_of.Living next) store).rows store.rows (fin.entries store.nodes)
    each (phase_of.Detaching next) = entries (store_after (phase_of.Detaching next) store).rows store.rows (fin.entries store.nodes)
    each (phase_of.Unlinking member weak) = entries (store_after (phase_of.Unlinking member weak) store).rows store.rows (fin.entries store.nodes)
    each p = refl

-- The stack has room above what lies below a collection.
pub room_above : (script : Script) (e : State) (p : Phase) (w : World) (tops below : List Activity) → Represents (store_after p e.store) w
    → ShowsAll script e.activities below → w.stack ≡ tops ++ below → IsLawful script e.first_budget w → IsFit script e → 4 < e.room
room_above script e p w tops below r over top lawful fit =
    omega (
      arith,
      at_least script e.activities below over,
      ap length top,
      length-append tops below,
      objects_after p e.store w r,
      lawful.bounded.height,
      fit.room,
    )

-- how many collections are under way
count_more : (a : Activity) (below : List Activity) → count_by is_collection (a ∷ below) ≡ cond (is_collection a) 1 0 + count_by is_collection below
count_more a below = sum_by-cons (λ (b : Activity). cond {A = ℕ} (is_collection b) 1 0) a below

pub count_own : (a : Own) (below : List Own) → count_by is_collecting (a ∷ below) ≡ cond (is_collecting a) 1 0 + count_by is_collecting below
count_own a below = sum_by-cons (λ (b : Own). cond {A = ℕ} (is_collecting b) 1 0) a below

-- a test that no element passes counts none
pub none_counted : {X : Type 0} (p : X → Bool) (xs : List X) → list_any p xs ≡ false → count_by p xs ≡ 0
none_counted p [] none = omega arith
none_counted {X = X} p (x ∷ xs) none = go (p x) refl none (none_counted p xs)
  where
    go : (b : Bool) → p x ≡ b → (b || list_any p xs) ≡ false → (list_any p xs ≡ false → count_by p xs ≡ 0) → count_by p (x ∷ xs) ≡ 0
    go true is found rest = absurd (let clash : true ≡ false = found in cc)
    go false is none rest =
        let zero : cond {A = ℕ} (p x) 1 0 ≡ 0 = ap (λ b. cond {A = ℕ} b 1 0) is in
        omega (arith, sum_by-cons (λ (y : X). cond {A = ℕ} (p y) 1 0) x xs, zero, rest none)

one_collection : (release : Option Release) (c : machine.Collection) → count_by is_collection (released_over release (Collecting c ∷ [])) ≡ 1
one_collection None c = omega (arith, count_more (Collecting c) [])
one_collection (Some release) c = omega (arith, count_more (Releasing (references_left release)) (Collecting c ∷ []), count_more (Collecting c) [])

-- a collection that answered a frame or a death is one
pub counts_one : (asked : Bool) (c : Collection) (tops : List Activity) → HasHandedOut asked c tops → count_by is_collection tops ≡ 1
counts_one asked c tops out =
    let (q, is) = phase_there c.phase (list_at out.then Pend) out.handing.runs in
    ap (count_by is_collection) (out.shown ∙ ap (λ x. released_over c.release (collecting asked c x)) is) ∙ one_collection c.release (collection_of asked c q)

counts_alike : (script : Script) (a : Own) (tops : List Activity) → ActivityShows script a tops → count_by is_collection tops ≡ cond (is_collecting a) 1 0
counts_alike script (activity.Collecting asked c) tops out = counts_one asked c tops out
counts_alike script a tops is = none_counted is_collection tops (shown script a tops is)

-- the stack and the activities have the same number of collections
pub count_same : (script : Script) (activities : List Own) (stack : List Activity) → ShowsAll script activities stack → count_by is_collection stack ≡ count_by is_collecting activities
count_same script [] stack is = ap (count_by is_collection) is
count_same script (a ∷ activities) stack shows =
    let parts : count_by is_collection stack ≡ count_by is_collection shows.tops + count_by is_collection shows.below = ap (count_by is_collection) shows.is
    ∙ sum_by-append (λ (b : Activity). cond {A = ℕ} (is_collection b) 1 0) shows.tops shows.below in
    omega (arith, parts, counts_alike script a shows.tops shows.shows, count_same script activities shows.below shows.over, count_own a activities)

pub none_found : (activities : List Own) → count_by is_collecting activities ≡ 0 → any_collecting activities ≡ false
none_found [] none = refl
none_found (activity.Collecting asked c ∷ activities) none = absurd (omega (arith, none, count_own (activity.Collecting asked c) activities))
none_found (a ∷ activities) none = none_found activities (omega (arith, none, count_own a activities))
