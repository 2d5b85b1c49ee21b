-- What a collection represents on the machine's stack, and which lines of the machine's last step it still has to print.
-- (Ours.)
use Rattle.std.specs.Prelude.{ℕ, ◌+◌, not, Bool, List, [], ◌∷◌, ◌++◌, ◌==◌, ◌&&◌, ◌||◌, Option, Some, None, if◌then◌else◌, map, filter, flat_map, drop, is_some, option_and_then}
use Rattle.cg_value.specs.declared.Place.TheVariants.{Gen, Cand, Pend}
use Rattle.cg_script.specs.declared.Script.{Script}
use Rattle.cg_graph.specs.Member.{includes}
use Rattle.cg_graph.specs.Object.{object_at}
use Rattle.cg_graph.specs.Rows.{Row, referent_in, weak_references_in}
use Rattle.cg_graph.specs.Store.{Store, list_at, objects_of}
use Rattle.cg_machine.specs.declared.event.Event.{Event}
use Rattle.cg_machine.specs.declared.event.Event.TheVariants.{Gens, Alive, Cleared, GcCollectable, GcUncollectable, GcSaved, GcStop, Collected}
use Rattle.cg_machine.specs.Program.{legacy_of}
use Rattle.cg_machine.specs.World as machine
use Rattle.cg_machine.specs.World.{Activity, Releasing, Collecting}
use Rattle.cg_machine.specs.Collect.{lines_if, has_flag, collectable, save_all, older}
use Rattle.cg_death.specs.declared.release.Release.{Release}
use Rattle.cg_death.specs.Activities.{references_left}
use Rattle.cg_policy.specs.Flagset.{bits_of}
use Rattle.cg_collect.specs.declared.phase.Phase.{Phase}
use Rattle.cg_collect.specs.declared.phase.Phase.TheVariants as phase_of
use Rattle.cg_collect.specs.declared.collection.Collection.{Collection}

-- the members of a list, starting with one of them
abbrev pub from_on : Option ℕ → List ℕ → List ℕ
from_on None xs = []
from_on (Some o) [] = []
from_on (Some o) (x ∷ xs) = if x == o then x ∷ xs else from_on (Some o) xs

-- The machine's phase, given the list of what waits for its callback; None after the end.
abbrev pub machine_phase : Phase → List ℕ → Option machine.CollectPhase
machine_phase phase_of.Start pending = Some machine.Start
machine_phase (phase_of.Sizes zero one two frozen) pending = Some (machine.WeakClearing pending)
machine_phase (phase_of.Telling next) pending = Some (machine.WeakClearing pending)
machine_phase (phase_of.WeakClearing member weak) pending = Some (machine.WeakClearing pending)
machine_phase phase_of.WeakCalling pending = Some (machine.WeakCalling pending)
machine_phase (phase_of.AfterCallback weak) pending = Some (machine.AfterCallback weak (drop 1 pending))
machine_phase (phase_of.AfterRelease weak) pending = Some (machine.AfterRelease weak (filter (λ q. not (q == weak)) pending))
machine_phase phase_of.Finalizing pending = Some machine.Finalizing
machine_phase (phase_of.AfterFinalizing o) pending = Some (machine.AfterFinalizing o)
machine_phase phase_of.Split pending = Some machine.Split
machine_phase (phase_of.Living next) pending = Some machine.Turns
machine_phase (phase_of.Detaching next) pending = Some machine.Turns
machine_phase (phase_of.Unlinking member weak) pending = Some machine.Turns
machine_phase phase_of.Turns pending = Some machine.Turns
machine_phase (phase_of.Turn o) pending = Some (machine.Turn o)
machine_phase (phase_of.AfterTurn o) pending = Some (machine.AfterTurn o)
machine_phase phase_of.Ending pending = Some machine.Ending
machine_phase (phase_of.Uncollectable first next number) pending = None
machine_phase (phase_of.Saved next number) pending = None
machine_phase (phase_of.Stopping number) pending = None
machine_phase (phase_of.Over number) pending = None

-- the machine's collection at a phase; only the machine knows whether a command asked for it
abbrev pub collection_of : Bool → Collection → machine.CollectPhase → machine.Collection
collection_of asked c phase = record { generation = c.generation; flags = bits_of c.flags; asked = asked; collected = c.collected; phase = phase }

-- as an activity, unless it has ended
abbrev pub collecting : Bool → Collection → Option machine.CollectPhase → List Activity
collecting asked c None = []
collecting asked c (Some phase) = Collecting (collection_of asked c phase) ∷ []

-- what it is giving up is above it
abbrev pub released_over : Option Release → List Activity → List Activity
released_over None tops = tops
released_over (Some release) tops = Releasing (references_left release) ∷ tops

-- what a collection represents on top of the stack, given the list of what waits for its callback
abbrev pub shown_with : Bool → Collection → List ℕ → List Activity
shown_with asked c pending = released_over c.release (collecting asked c (machine_phase c.phase pending))

-- the same over a heap
abbrev pub on_stack : Bool → Collection → Store → List Activity
on_stack asked c store = shown_with asked c (list_at store Pend)

-- the weak references to an object of a kind that may have some, newest first
abbrev pub references_in : List Row → Option ℕ → List ℕ
references_in rows None = []
references_in rows (Some o) = weak_references_in rows o

-- the weak references that a walk over those to one object has still to visit, newest first
abbrev pub to_look_at : Store → Option ℕ → List ℕ
to_look_at store None = []
to_look_at store (Some weak) = from_on (Some weak) (references_in store.rows (referent_in store.rows weak))

-- the lines `cleared` of the weak references to some objects, newest first for each
abbrev pub cleared_lines : List Row → List ℕ → List Event
cleared_lines rows members = flat_map (λ o. map Cleared (weak_references_in rows o)) members

-- a row refers to one of these, and does not wait
abbrev pub refers_to_any : List ℕ → Row → Bool
refers_to_any members r = includes members r.referent && not r.waits

-- the rows after the weak references to these are cleared
abbrev pub without_referents : List ℕ → List Row → List Row
without_referents members rows = filter (λ r. not (refers_to_any members r)) rows

-- the rows after these weak references are cleared
abbrev pub without_rows : List ℕ → List Row → List Row
without_rows weaks rows = filter (λ r. not (includes weaks r.weak)) rows

-- The members of the final set that have a referent, in the order in which they are cleared: for each, all with the same
-- referent, newest first.
abbrev pub members_losing : List ℕ → List ℕ → List Row → List ℕ
members_losing final [] rows = []
members_losing final (o ∷ members) rows =
    let weaks = filter (includes final) (references_in rows (referent_in rows o)) in weaks ++ members_losing final members (without_rows weaks rows)

-- whether an uncollectable object is saved
abbrev pub is_saved_at : Script → ℕ → Store → ℕ → Bool
is_saved_at script flags store o = has_flag flags save_all || is_some (option_and_then (legacy_of script) (object_at (objects_of store) o))

-- the lines `gc saved` of some objects
abbrev pub saved_lines : Script → ℕ → Store → List ℕ → List Event
saved_lines script flags store members = map GcSaved (filter (is_saved_at script flags store) members)

-- the answer to the command that asked for the collection
abbrev pub answer_lines : Bool → ℕ → List Event
answer_lines asked number = lines_if asked (Collected number ∷ [])

-- the last lines
abbrev pub stop_lines : Bool → Collection → ℕ → List Event
stop_lines asked c number = GcStop c.generation c.collected number ∷ answer_lines asked (c.collected + number)

-- the place of survivors
abbrev pub old_list : Collection → Store → List ℕ
old_list c store = list_at store (Gen (older c.generation))

-- the lines `cleared` of the members with a referent, when no weak reference refers to a member
abbrev pub member_lines : Store → List Event
member_lines store = map Cleared (members_losing (list_at store Cand) (list_at store Cand) (without_referents (list_at store Cand) store.rows))

-- the same, where these come next, and then those starting with one member
abbrev pub still_unlinked : List ℕ → List ℕ → Option ℕ → Store → List Event
still_unlinked final weaks member store = map Cleared (weaks ++ members_losing final (from_on member final) (without_rows weaks store.rows))

-- The lines of the machine's last step that are still to be printed.
abbrev pub lines_left : Script → Bool → Collection → Phase → Store → List Event
lines_left script asked c (phase_of.Sizes zero one two frozen) store = Gens zero one two frozen ∷ lines_if (has_flag (bits_of c.flags) collectable) (map GcCollectable (list_at store Cand))
lines_left script asked c (phase_of.Telling next) store = map GcCollectable (from_on next (list_at store Cand))
lines_left script asked c (phase_of.Living next) store = map Alive (from_on next (old_list c store)) ++ (cleared_lines store.rows (list_at store Cand) ++ member_lines store)
lines_left script asked c (phase_of.Detaching next) store = cleared_lines store.rows (from_on next (list_at store Cand)) ++ member_lines store
lines_left script asked c (phase_of.Unlinking member weak) store = still_unlinked (list_at store Cand) (filter (includes (list_at store Cand)) (to_look_at store weak)) member store
lines_left script asked c (phase_of.Uncollectable first next number) store =
    map GcUncollectable (from_on next (old_list c store)) ++ saved_lines script (bits_of c.flags) store (from_on first (old_list c store)) ++ stop_lines asked c number
lines_left script asked c (phase_of.Saved next number) store = saved_lines script (bits_of c.flags) store (from_on next (old_list c store)) ++ stop_lines asked c number
lines_left script asked c (phase_of.Stopping number) store = stop_lines asked c number
lines_left script asked c (phase_of.Over number) store = answer_lines asked (c.collected + number)
lines_left script asked c phase store = []

-- a row is of a weak reference to one of these, or is one of these, and does not wait
abbrev pub is_lost_with : List ℕ → Row → Bool
is_lost_with members r = (includes members r.referent || includes members r.weak) && not r.waits

-- weak references to members of the final set, and members that are weak references, are cleared
abbrev pub without_rows_of : List ℕ → Store → Store
without_rows_of members store = record store { rows = filter (λ r. not (is_lost_with members r)) store.rows }

-- The heap after these lines are printed: weak references to and in the final set are cleared one by one, as their lines
-- are printed.
abbrev pub store_after : Phase → Store → Store
store_after (phase_of.Living next) store = without_rows_of (list_at store Cand) store
store_after (phase_of.Detaching next) store = without_rows_of (list_at store Cand) store
store_after (phase_of.Unlinking member weak) store = without_rows_of (list_at store Cand) store
store_after phase store = store
