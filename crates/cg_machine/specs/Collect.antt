-- A collection, phase by phase. The rules leave open which tuples a pass untracks, the order of lines, and which object is
-- next. (Developer guide, "garbage collector design"; PEP 442, "disposal of cyclic isolates"; the `gc` manual for the debug
-- flags. The order of the phases is CPython 3.12's; what each step holds while frames run is ours.)
use Rattle.std.specs.Prelude.{◌≡◌, ℕ, ◌+◌, ◌<◌, min, Bool, true, false, not, ◌&&◌, ◌||◌, ◌==◌, nat_le, bit_and, List, [], ◌∷◌, ◌++◌, Option, Some, None, if◌then◌else◌, option_map, option_and_then, unwrap_or, map, filter, length, is_some, ◌⊎◌, ◌↔◌, count_by}
use Rattle.std.specs.List.{list_any}
use Rattle.cg_value.specs.declared.Val.TheVariants.{Ref}
use Rattle.cg_value.specs.declared.Entry.{Entry}
use Rattle.cg_value.specs.declared.Place.{Place}
use Rattle.cg_value.specs.declared.Place.TheVariants.{Untracked, Gen, Cand, Seen, Legacy, Pend}
use Rattle.cg_script.specs.declared.Script.{Script}
use Rattle.cg_graph.specs.Member.{Includes, includes}
use Rattle.cg_graph.specs.Value.{references, entry_references, item, last_entry, without_last}
use Rattle.cg_graph.specs.Object.{Object, object_at, is_in_map, entries_of, change, with_place, with_entries, marked, is_at, is_tuple, is_tracked, may_be_tracked, same_place, objects_at, serials, serials_at}
use Rattle.cg_graph.specs.Holdings.{Graph, graph_of, occurrences}
use Rattle.cg_graph.specs.Reach.{Reach, Unreachable, IsOutsideHeld, edges}
use Rattle.cg_machine.specs.declared.event.Event.{Event}
use Rattle.cg_machine.specs.declared.event.Event.TheVariants.{Cleared, Alive, GcStart, GcCollectable, GcUncollectable, GcSaved, GcStop, Collected}
use Rattle.cg_machine.specs.declared.event.FrameSort.TheVariants.{Del, Callback}
use Rattle.cg_machine.specs.Program.{legacy_of, profile_of}
use Rattle.cg_machine.specs.World.{with_objects, World, Activity, Releasing, Collecting, Collection, CollectPhase, Start, WeakClearing, WeakCalling, AfterCallback, AfterRelease, Finalizing, AfterFinalizing, Split, Turns, Turn, AfterTurn, Ending, Numbers, push, with_stack, with_change}
use Rattle.cg_machine.specs.Holdings.{holdings}
use Rattle.cg_machine.specs.Frame.{Transition, Yields, start_frame, procedure_of}
use Rattle.cg_machine.specs.Weak.{loses_referent, callback_in, callback_of, MayLoseNext, NoneLeft, AllLose}
use Rattle.cg_machine.specs.Dying.{finalizer_to_run}
use Rattle.cg_machine.specs.Effects.{gens_line}
use Rattle.cg_machine.specs.Operands.{is_dict}

-- the debug flags (`gc.set_debug`)
abbrev pub has_flag : ℕ → ℕ → Bool
has_flag flags bit = not (bit_and flags bit == 0)

-- STATS
abbrev pub stats : ℕ
stats = 1

-- COLLECTABLE
abbrev pub collectable : ℕ
collectable = 2

-- UNCOLLECTABLE
abbrev pub uncollectable : ℕ
uncollectable = 4

-- SAVEALL
abbrev pub save_all : ℕ
save_all = 32

-- lines that are printed under a condition
abbrev pub lines_if : Bool → List Event → List Event
lines_if b lines = if b then lines else []

-- the older generation, where survivors go
abbrev pub older : ℕ → ℕ
older g = min (g + 1) 2

-- both lists have each member the same number of times
abbrev pub SameMembers : List ℕ → List ℕ → Type 0
SameMembers xs ys = (o : ℕ) → occurrences o xs ≡ occurrences o ys

-- the world with the collection at a phase
abbrev pub collection_at : Collection → CollectPhase → List Activity → World → World
collection_at c phase below w = with_stack (Collecting (record c { phase = phase }) ∷ below) w

-- Reachability within a place: the roots are the members held from outside, and edges join members.
abbrev pub members_at : World → Place → Graph
members_at w p = graph_of (objects_at w.objects p)

-- an object is in a place
abbrev pub IsMemberOf : World → Place → ℕ → Type 0
IsMemberOf w p o = Includes (serials_at w.objects p) o

-- reachable from a member that is held from outside
abbrev pub Survives : World → Place → ℕ → Type 0
Survives w p o = Reach (IsOutsideHeld (holdings w) (members_at w p)) (IsMemberOf w p) (edges (members_at w p)) o

-- not reachable from any such member
abbrev pub IsGarbage : World → Place → ℕ → Type 0
IsGarbage w p o = Unreachable (IsOutsideHeld (holdings w) (members_at w p)) (IsMemberOf w p) (edges (members_at w p)) o

-- whether the class of an object has a legacy finalizer
abbrev pub has_legacy : Script → World → ℕ → Bool
has_legacy script w o = is_some (option_and_then (legacy_of script) (object_at w.objects o))

-- garbage whose class has a legacy finalizer, and the garbage reachable from it (`gc` manual, `gc.garbage`)
abbrev pub IsSetAside : Script → World → Place → ℕ → Type 0
IsSetAside script w p o = Reach (λ x. has_legacy script w x ≡ true) (IsGarbage w p) (edges (members_at w p)) o

-- The start: counts 0 to g become 0, the next one rises, and the generations below g are merged into g.
abbrev pub begun : ℕ → Numbers → Numbers
begun g n = record n {
  zero_count = 0;
  one_count = if g == 0 then n.one_count + 1 else 0;
  two_count = if g == 0 then n.two_count else (if g == 1 then n.two_count + 1 else 0);
}

-- a younger generation's place after the merge
abbrev pub merged_place : ℕ → Place → Place
merged_place g (Gen i) = if nat_le i g then Gen g else Gen i
merged_place g p = p

-- the world after the merge
abbrev pub merged : ℕ → World → World
merged g w = record w { objects = map (λ x. with_place (merged_place g x.place) x) w.objects; numbers = begun g w.numbers }

-- pending and total after n survivors
abbrev pub survived : ℕ → ℕ → Numbers → Numbers
survived g n numbers = record numbers {
  pending = if g == 0 then numbers.pending else (if g == 1 then numbers.pending + n else 0);
  total = if g == 2 then n else numbers.total;
}

-- no item, key or value may be tracked (developer guide, "delay tracking containers")
abbrev pub has_none_tracked : List Object → Object → Bool
has_none_tracked objects x = not (list_any (λ o. unwrap_or (option_map may_be_tracked (object_at objects o)) false) (references x.entries))

-- the tuples that a pass untracks
abbrev pub untracked_if : Bool → Object → Object
untracked_if b x = if b then with_place Untracked x else x

-- the objects after the chosen ones are untracked
abbrev pub untrack : ℕ → (Object → Bool) → List Object → List Object
untrack g chosen objects = map (λ x. untracked_if (is_at (Gen g) x && chosen x) x) objects

-- The pass over surviving tuples may use any order. It untracks each tuple that it could untrack at once, and none that it could
-- not untrack at its end.
pub record IsTuplePass (w : World) (g : ℕ) (chosen : Object → Bool) : Type 0 where
  pub at_least : (x : Object) → Includes (objects_at w.objects (Gen g)) x → Survives w (Gen g) x.serial → (is_tuple x && has_none_tracked w.objects x) ≡ true → chosen x ≡ true
  pub at_most : (x : Object) → Includes (objects_at w.objects (Gen g)) x → chosen x ≡ true → Survives w (Gen g) x.serial × ((is_tuple x && has_none_tracked (untrack g chosen w.objects) x) ≡ true)

-- where a survivor goes; a collection of 2 untracks a dictionary of atoms alone
abbrev pub survivor_place : ℕ → List Object → Object → Place
survivor_place g objects x = if not (is_tracked x) || (g == 2) && is_dict x && has_none_tracked objects x then Untracked else Gen (older g)

-- Survivors are untracked or move to the older generation; garbage is set aside or condemned; the lines are in order.
pub record Sorts (script : Script) (g : ℕ) (w : World) (chosen : Object → Bool) (places : Object → Place) : Type 0 where
  pub tuples : IsTuplePass w g chosen
  pub survivors : (x : Object) → Includes (objects_at w.objects (Gen g)) x → Survives w (Gen g) x.serial → places x ≡ survivor_place g (untrack g chosen w.objects) (untracked_if (chosen x) x)
  pub set_aside : (x : Object) → Includes (objects_at w.objects (Gen g)) x → IsSetAside script w (Gen g) x.serial → places x ≡ Legacy
  pub condemned : (x : Object) → Includes (objects_at w.objects (Gen g)) x → IsGarbage w (Gen g) x.serial → ¬ IsSetAside script w (Gen g) x.serial → places x ≡ Cand

-- the objects after: only candidates move
abbrev pub sorted : ℕ → (Object → Place) → List Object → List Object
sorted g places objects = map (λ x. if is_at (Gen g) x then with_place (places x) x else x) objects

-- how many move to the older generation
abbrev pub survivor_count : ℕ → (Object → Place) → List Object → ℕ
survivor_count g places objects = count_by (λ x. is_at (Gen g) x && same_place (places x) (Gen (older g))) objects

-- the world after the start
abbrev pub start_world : Collection → (Object → Place) → List Activity → World → World
start_world c places below w = collection_at c (WeakClearing []) below (record w {
  objects = sorted c.generation places w.objects;
  numbers = survived c.generation (survivor_count c.generation places w.objects) w.numbers;
})

-- Prints `gc start`, with STATS the sizes before the merge, and with COLLECTABLE a line for each condemned object.
pub record StartStep (script : Script) (w : World) (c : Collection) (below : List Activity) (events : List Event) (after : World) : Type 0 where
  pub chosen : Object → Bool
  pub places : Object → Place
  pub sorts : Sorts script c.generation (merged c.generation w) chosen places
  pub world : after ≡ start_world c places below (merged c.generation w)
  pub collectables : List ℕ
  pub any_order : SameMembers collectables (serials_at after.objects Cand)
  pub lines : events ≡ (GcStart c.generation ∷ []) ++ lines_if (has_flag c.flags stats) (gens_line w.objects ∷ []) ++ lines_if (has_flag c.flags collectable) (map GcCollectable collectables)

-- an object is condemned, whether or not its finalizer was looked at
abbrev pub is_condemned : Object → Bool
is_condemned x = is_at Cand x || is_at Seen x

-- whether an object is condemned, by its serial
abbrev pub is_condemned_in : List Object → ℕ → Bool
is_condemned_in objects o = unwrap_or (option_map is_condemned (object_at objects o)) false

-- the weak references cleared before the finalizers: in profile 2 only those with a callback (ours)
abbrev pub is_lost_early : ℕ → Object → Bool
is_lost_early profile x = not (profile == 2) || is_some (callback_in x.entries)

-- The weak phase clears weak references to condemned objects, and condemned weak references.
abbrev pub loses_in_weak_phase : ℕ → List Object → Object → Bool
loses_in_weak_phase profile objects x = is_lost_early profile x && unwrap_or (option_map (λ o. is_condemned_in objects o || is_condemned x) x.referent) false

-- A weak reference that has a callback and is not condemned waits. (`weakref` manual: a condemned weak reference is not
-- called back.)
abbrev pub waits : List Object → ℕ → Bool
waits objects weak = not (is_condemned_in objects weak) && is_some (callback_of objects weak)

-- one is cleared, and waits if its callback is to be called
abbrev pub clears_one : Collection → List ℕ → List Activity → World → ℕ → Transition
clears_one c waiting below w weak = (
  Cleared weak ∷ [],
  if waits w.objects weak
      then collection_at c (WeakClearing (waiting ++ weak ∷ [])) below (with_objects (change (with_place Pend) weak (loses_referent weak w.objects)) w)
      else collection_at c (WeakClearing waiting) below (with_objects (loses_referent weak w.objects) w),
)

-- any weak reference that may be next can be chosen
pub record ClearsOne (profile : ℕ) (c : Collection) (waiting : List ℕ) (below : List Activity) (w : World) (events : List Event) (after : World) : Type 0 where
  pub weak : ℕ
  pub newest : MayLoseNext (loses_in_weak_phase profile w.objects) w.objects weak
  pub yields : Yields (clears_one c waiting below w weak) events after

-- when none is left, the callbacks follow
abbrev pub WeakClearingStep : ℕ → Collection → List ℕ → List Activity → World → List Event → World → Type 0
WeakClearingStep profile c waiting below w events after =
    ClearsOne profile c waiting below w events after ⊎ NoneLeft (loses_in_weak_phase profile w.objects) w.objects × Yields ([], collection_at c (WeakCalling waiting) below w) events after

-- The first waiting weak reference has its callback called, then leaves the list and is given up.
abbrev pub calls_back : Script → Collection → List ℕ → List Activity → World → Transition
calls_back script c [] below w = ([], collection_at c Finalizing below w)
calls_back script c (weak ∷ waiting) below w =
    let callback = unwrap_or (callback_of w.objects weak) 0 in
    start_frame script (record { sort = Callback; proc = procedure_of w callback; subject = weak; func = Some callback }) (collection_at c (AfterCallback weak waiting) below w)

-- It counts as collected if giving it up freed it; if it lives, it moves to the older generation.
abbrev pub after_release : Collection → ℕ → List ℕ → List Activity → World → Transition
after_release c weak waiting below w =
    if is_in_map w.objects weak
    then ([], collection_at c (WeakCalling waiting) below (with_change (with_place (Gen (older c.generation))) weak w))
    else ([], collection_at (record c { collected = c.collected + 1 }) (WeakCalling waiting) below w)

-- The finalizer phase visits each condemned object and runs its finalizer unless that has run.
abbrev pub looks_at : Script → Collection → ℕ → List Activity → World → Option ℕ → Transition
looks_at script c o below w None = ([], collection_at c Finalizing below (with_change (with_place Seen) o w))
looks_at script c o below w (Some p) =
    start_frame script (record { sort = Del; proc = p; subject = o; func = None })
    (collection_at c (AfterFinalizing o) below (with_change (λ x. marked (with_place Seen x)) o w))

-- any condemned object may be next
pub record LooksAtOne (script : Script) (c : Collection) (below : List Activity) (w : World) (events : List Event) (after : World) : Type 0 where
  pub object : ℕ
  pub condemned : IsMemberOf w Cand object
  pub yields : Yields (looks_at script c object below w (option_and_then (finalizer_to_run script) (object_at w.objects object))) events after

-- a place has no objects
abbrev pub NoneAt : World → Place → Type 0
NoneAt w p = serials_at w.objects p ≡ []

-- all objects of one place move to another
abbrev pub replaced_place : Place → Place → World → World
replaced_place old new w = with_objects (map (λ x. if is_at old x then with_place new x else x) w.objects) w

-- After the last one, all are condemned again, and the second reachability pass follows.
abbrev pub FinalizingStep : Script → Collection → List Activity → World → List Event → World → Type 0
FinalizingStep script c below w events after =
    LooksAtOne script c below w events after ⊎ NoneAt w Cand × Yields ([], collection_at c Split below (replaced_place Seen Cand w)) events after

-- whether the object with a serial is in the final set
abbrev pub is_final_in : List Object → ℕ → Bool
is_final_in objects o = unwrap_or (option_map (is_at Cand) (object_at objects o)) false

-- The second reachability pass clears weak references to members, and members that are weak references: those that
-- finalizers made, and in profile 2 those without a callback too.
abbrev pub loses_at_split : List Object → Object → Bool
loses_at_split objects x = unwrap_or (option_map (λ o. is_final_in objects o || is_at Cand x) x.referent) false

-- resurrected objects move to the older generation
abbrev pub get_older : ℕ → List ℕ → List Object → List Object
get_older g alive objects = map (λ x. if includes alive x.serial then with_place (Gen (older g)) x else x) objects

-- The second reachability pass (PEP 442): what is reachable was resurrected and moves to the older generation. The rest
-- is the final set; weak references to it and in it are cleared without callback.
pub record SplitStep (c : Collection) (below : List Activity) (w : World) (events : List Event) (after : World) : Type 0 where
  pub alive : List ℕ
  pub survivors : (o : ℕ) → Includes alive o ↔ Survives w Cand o
  pub once : (o : ℕ) → occurrences o alive < 2
  pub cleared : List ℕ
  pub objects : List Object
  pub lose : AllLose (loses_at_split (get_older c.generation alive w.objects)) (get_older c.generation alive w.objects) cleared objects
  pub lines : events ≡ map Alive alive ++ map Cleared cleared
  pub world : after ≡ collection_at (record c { collected = c.collected + length (serials_at objects Cand) }) Turns below (with_objects objects w)

-- an object is appended to the garbage list
abbrev pub saved : ℕ → List Object → List Object
saved o objects = change (λ x. with_entries (x.entries ++ item (Ref o) ∷ []) x) 1 objects

-- The clearing gives each member of the final set a turn. SAVEALL saves it instead. A tuple cannot be cleared: it is
-- freed when its holder is cleared.
abbrev pub takes_turn : Collection → Object → List Activity → World → Transition
takes_turn c x below w =
    if has_flag c.flags save_all
    then (GcSaved x.serial ∷ [], collection_at c Turns below (with_objects (change (with_place (Gen (older c.generation))) x.serial (saved x.serial w.objects)) w))
    else if is_tuple x
    then ([], collection_at c Turns below (with_change (with_place (Gen (older c.generation))) x.serial w))
    else ([], collection_at c (Turn x.serial) below w)

-- any member may have the next turn
pub record TakesTurn (c : Collection) (below : List Activity) (w : World) (events : List Event) (after : World) : Type 0 where
  pub object : Object
  pub member : Includes (objects_at w.objects Cand) object
  pub yields : Yields (takes_turn c object below w) events after

-- after the last turn, the end follows
abbrev pub TurnsStep : Collection → List Activity → World → List Event → World → Type 0
TurnsStep c below w events after = TakesTurn c below w events after ⊎ NoneAt w Cand × Yields ([], collection_at c Ending below w) events after

-- Its entries are removed, last first, and each is given up. Then the object is given up.
abbrev pub empties : Collection → ℕ → List Activity → World → Option Entry → Transition
empties c o below w None = ([], push (Releasing (o ∷ [])) (collection_at c (AfterTurn o) below w))
empties c o below w (Some e) = ([], push (Releasing (entry_references e)) (collection_at c (Turn o) below (with_change (with_entries (without_last (entries_of w.objects o))) o w)))

-- if it lives after its turn, it moves to the older generation
abbrev pub after_turn : Collection → ℕ → List Activity → World → Transition
after_turn c o below w = ([], collection_at c Turns below (with_change (with_place (Gen (older c.generation))) o w))

-- The end: uncollectable objects are reported, saved, and moved to the older generation.
abbrev pub is_saved : Script → Collection → Object → Bool
is_saved script c x = is_at Legacy x && (has_flag c.flags save_all || is_some (legacy_of script x))

-- several are appended, in order
abbrev pub all_saved : List ℕ → List Object → List Object
all_saved [] objects = objects
all_saved (o ∷ os) objects = all_saved os (saved o objects)

-- the lines come in two passes, each in any order
pub record EndStep (script : Script) (c : Collection) (below : List Activity) (w : World) (events : List Event) (after : World) : Type 0 where
  pub told : List ℕ
  pub told_order : SameMembers told (serials_at w.objects Legacy)
  pub keeps : List ℕ
  pub keeps_order : SameMembers keeps (serials (filter (is_saved script c) w.objects))
  pub lines : events ≡ lines_if (has_flag c.flags uncollectable) (map GcUncollectable told) ++ map GcSaved keeps ++ GcStop c.generation c.collected
      (length told) ∷ lines_if c.asked (Collected (c.collected + length told) ∷ [])
  pub world : after ≡ with_stack below (replaced_place Legacy (Gen (older c.generation)) (with_objects (all_saved keeps w.objects) w))

-- what a collection may do at each phase
abbrev pub PhaseStep : Script → Collection → CollectPhase → List Activity → World → List Event → World → Type 0
PhaseStep script c Start below w events after = StartStep script w c below events after
PhaseStep script c (WeakClearing waiting) below w events after = WeakClearingStep (profile_of script.items) c waiting below w events after
PhaseStep script c (WeakCalling waiting) below w events after = Yields (calls_back script c waiting below w) events after
PhaseStep script c (AfterCallback weak waiting) below w events after = Yields ([], push (Releasing (weak ∷ [])) (collection_at c (AfterRelease weak waiting) below w)) events after
PhaseStep script c (AfterRelease weak waiting) below w events after = Yields (after_release c weak waiting below w) events after
PhaseStep script c Finalizing below w events after = FinalizingStep script c below w events after
PhaseStep script c (AfterFinalizing o) below w events after = Yields ([], push (Releasing (o ∷ [])) (collection_at c Finalizing below w)) events after
PhaseStep script c Split below w events after = SplitStep c below w events after
PhaseStep script c Turns below w events after = TurnsStep c below w events after
PhaseStep script c (Turn o) below w events after = Yields (empties c o below w (last_entry (entries_of w.objects o))) events after
PhaseStep script c (AfterTurn o) below w events after = Yields (after_turn c o below w) events after
PhaseStep script c Ending below w events after = EndStep script c below w events after

-- the step when a collection is on top
abbrev pub CollectStep : Script → World → Collection → List Activity → List Event → World → Type 0
CollectStep script w c below events after = PhaseStep script c c.phase below w events after
