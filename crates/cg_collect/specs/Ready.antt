-- What a step of a collection needs of the heap. Frames and deaths that run in it may change the heap between two steps; what
-- they leave is said here. (Ours.)
use Rattle.std.specs.Prelude.{◌≡◌, ◌≢◌, ℕ, ◌+◌, ◌≤◌, ◌⊎◌, ◌==◌, ◌&&◌, not, Bool, true, false, List, [], Option, Some, None, IsSome, if◌then◌else◌, option_map, unwrap_or, slice_get, length, filter}
use Rattle.cg_value.specs.declared.Place.{Place}
use Rattle.cg_value.specs.declared.Place.TheVariants.{Untracked, Gen, Cand, Seen, Back, Legacy, Pend}
use Rattle.cg_graph.specs.Member.{Includes}
use Rattle.cg_graph.specs.Value.{references}
use Rattle.cg_graph.specs.Object.{Object, object_at}
use Rattle.cg_graph.specs.Rows.{referent_in, weak_references_in}
use Rattle.cg_graph.specs.Store.{Store, HasCode, list_at, objects_of, entries_of, place_of}
use Rattle.cg_value.specs.declared.KindCode.TheVariants.{Weak}
use Rattle.cg_machine.specs.Collect.{is_condemned_in, loses_in_weak_phase, older}
use Rattle.cg_machine.specs.Weak.{callback_of}
use Rattle.cg_death.specs.declared.release.Release.{Release}
use Rattle.cg_collect.specs.declared.phase.Phase.{Phase}
use Rattle.cg_collect.specs.declared.phase.Phase.TheVariants as phase_of
pub use Rattle.cg_collect.specs.Phases.{from_on, to_look_at}

-- a place is empty
abbrev pub IsEmptyAt : Store → Place → Type 0
IsEmptyAt store p = list_at store p ≡ []

-- no objects are partitioned, and the garbage list is untracked
pub record IsClear (store : Store) : Type 0 where
  pub candidates : IsEmptyAt store Cand
  pub seen : IsEmptyAt store Seen
  pub back : IsEmptyAt store Back
  pub legacy : IsEmptyAt store Legacy
  pub pending : IsEmptyAt store Pend
  pub garbage : place_of store 1 ≡ Untracked

-- each waiting one is a weak reference with a callback
abbrev pub HaveCallbacks : Store → Type 0
HaveCallbacks store = (w : ℕ) → Includes (list_at store Pend) w → HasCode store w Weak × IsSome (callback_of (objects_of store) w)

-- the same for each but one, which was given up and may have died
abbrev pub OthersHaveCallbacks : Store → ℕ → Type 0
OthersHaveCallbacks store weak = (w : ℕ) → Includes (list_at store Pend) w → w ≢ weak → HasCode store w Weak × IsSome (callback_of (objects_of store) w)

-- the garbage list names no object of a place
abbrev pub IsUnsaved : Store → Place → Type 0
IsUnsaved store p = (o : ℕ) → Includes (list_at store p) o → ¬ Includes (references (entries_of store 1)) o

-- The garbage list is untracked and names no partitioned object, and no object is in a place that exists only within
-- the second pass.
pub record IsHeapApart (store : Store) : Type 0 where
  pub garbage : place_of store 1 ≡ Untracked
  pub back : IsEmptyAt store Back
  pub candidates : IsUnsaved store Cand
  pub seen : IsUnsaved store Seen
  pub legacy : IsUnsaved store Legacy

-- the same if no condemned object was visited
abbrev pub IsApartUnseen : Store → Type 0
IsApartUnseen store = IsHeapApart store × IsEmptyAt store Seen

-- the next of a walk is in the list, or the walk is over
abbrev pub IsAt : Option ℕ → List ℕ → Type 0
IsAt None xs = Unit {0}
IsAt (Some o) xs = Includes xs o

-- whether the weak phase is to clear a weak reference, by its serial
abbrev pub loses_at : ℕ → Store → ℕ → Bool
loses_at profile store weak = unwrap_or (option_map (loses_in_weak_phase profile (objects_of store)) (object_at (objects_of store) weak)) false

-- whether the referent of a weak reference, if it has one, is condemned
abbrev pub has_condemned_referent : Store → ℕ → Bool
has_condemned_referent store weak = unwrap_or (option_map (is_condemned_in (objects_of store)) (referent_in store.rows weak)) false

-- whether a weak reference is to lose its referent by itself, and not with the others to a condemned one
abbrev pub loses_alone : ℕ → Store → ℕ → Bool
loses_alone profile store weak = not (has_condemned_referent store weak) && loses_at profile store weak

-- the object whose weak references are looked at for a candidate: its referent, where it is to lose it by itself, or else it
abbrev pub looked_at_for : ℕ → Store → ℕ → ℕ
looked_at_for profile store o = if loses_alone profile store o then unwrap_or (referent_in store.rows o) o else o

-- a referent is no weak reference itself (`weakref` manual: class instances and functions have weak references)
abbrev pub RefersPlainly : Store → Object → Type 0
RefersPlainly store x = (o : ℕ) → x.referent ≡ Some o → ¬ HasCode store o Weak

-- A weak reference is a candidate whose turn is to come, and its referent is not condemned.
pub record ComesByItself (store : Store) (member : Option ℕ) (x : Object) : Type 0 where
  pub ahead : Includes (from_on member (list_at store Cand)) x.serial
  pub apart : (o : ℕ) → x.referent ≡ Some o → is_condemned_in (objects_of store) o ≡ false

-- The walk of the weak phase has left out nothing: a weak reference that is still to lose its referent is to be looked at, or
-- its referent is a candidate whose turn is to come, or it is one itself and its referent is not condemned.
abbrev pub HasMissedNone : ℕ → Store → Option ℕ → Option ℕ → Type 0
HasMissedNone profile store member weak = (x : Object) → Includes (objects_of store) x → loses_in_weak_phase profile (objects_of store) x ≡ true → RefersPlainly store x
    → Includes (to_look_at store weak) x.serial
    ⊎ ComesByItself store member x
    ⊎ ((o : ℕ) × (x.referent ≡ Some o) × Includes (from_on member (list_at store Cand)) o)

-- Of the weak references to one object that are to be cleared, none is newer than the visited one.
abbrev pub HasNoneNewer : ℕ → Store → Option ℕ → Type 0
HasNoneNewer profile store weak = (v : ℕ) → weak ≡ Some v → (x : Object) → Includes (objects_of store) x → loses_in_weak_phase profile (objects_of store) x ≡ true
    → x.referent ≡ referent_in store.rows v → x.serial ≤ v

-- The candidates before the next of a walk have no weak references.
abbrev pub HasNoneBehind : Store → Option ℕ → Type 0
HasNoneBehind store next = (o : ℕ) → Includes (list_at store Cand) o → Includes (from_on next (list_at store Cand)) o ⊎ (weak_references_in store.rows o ≡ [])

-- a visited weak reference has a referent
abbrev pub StillRefers : Store → Option ℕ → Type 0
StillRefers store weak = (v : ℕ) → weak ≡ Some v → (o : ℕ) × (referent_in store.rows v ≡ Some o)

-- the invariant of the walk of the weak phase
pub record IsWalk (profile : ℕ) (store : Store) (member weak : Option ℕ) : Type 0 where
  pub member_at : IsAt member (list_at store Cand)
  pub weak_live : StillRefers store weak
  pub none_missed : HasMissedNone profile store member weak
  pub none_newer : HasNoneNewer profile store weak
  pub waiting : (v : ℕ) → Includes (list_at store Pend) v → referent_in store.rows v ≡ None  -- waiting ones are cleared

-- the invariant in the walk's phase, in the profile of the script
abbrev pub HasItsWalk : ℕ → Store → Phase → Type 0
HasItsWalk profile store (phase_of.WeakClearing member weak) = IsWalk profile store member weak
HasItsWalk profile store phase = Unit {0}

-- The invariant of the walk over the members with a referent: no weak reference refers to a member, and a member with a
-- referent will be visited, or its turn is to come.
pub record IsMemberWalk (store : Store) (member weak : Option ℕ) : Type 0 where
  pub member_at : IsAt member (list_at store Cand)
  pub weak_live : StillRefers store weak
  pub none_missed : (o : ℕ) → Includes (list_at store Cand) o → Includes (to_look_at store weak) o ⊎ Includes (from_on member (list_at store Cand)) o ⊎ (referent_in store.rows o ≡ None)
  pub unreferred : (o : ℕ) → Includes (list_at store Cand) o → weak_references_in store.rows o ≡ []

-- an object is not the garbage list, which stays untracked
abbrev pub IsNotGarbageList : ℕ → Type 0
IsNotGarbageList o = 1 ≢ o

-- the objects that a phase names and moves are not
abbrev pub SparesGarbageList : Phase → Type 0
SparesGarbageList (phase_of.AfterCallback weak) = IsNotGarbageList weak
SparesGarbageList (phase_of.AfterRelease weak) = IsNotGarbageList weak
SparesGarbageList (phase_of.Turn o) = IsNotGarbageList o
SparesGarbageList (phase_of.AfterTurn o) = IsNotGarbageList o
SparesGarbageList phase = Unit {0}

-- What a step requires, phase by phase, not counting its own holds.
abbrev pub IsReadyForCollectionAt : Store → ℕ → Phase → Type 0
IsReadyForCollectionAt store g phase_of.Start = IsClear store
IsReadyForCollectionAt store g (phase_of.Sizes zero one two frozen) = IsApartUnseen store × IsEmptyAt store Pend
IsReadyForCollectionAt store g (phase_of.Telling next) = IsApartUnseen store × IsEmptyAt store Pend × IsAt next (list_at store Cand)
IsReadyForCollectionAt store g (phase_of.WeakClearing member weak) = IsApartUnseen store × HaveCallbacks store
IsReadyForCollectionAt store g phase_of.WeakCalling = IsApartUnseen store × HaveCallbacks store
IsReadyForCollectionAt store g (phase_of.AfterCallback weak) = IsApartUnseen store × HaveCallbacks store × (slice_get (list_at store Pend) 0 ≡ Some weak) × IsNotGarbageList weak
IsReadyForCollectionAt store g (phase_of.AfterRelease weak) = IsApartUnseen store × OthersHaveCallbacks store weak × IsNotGarbageList weak
IsReadyForCollectionAt store g phase_of.Finalizing = IsHeapApart store
IsReadyForCollectionAt store g (phase_of.AfterFinalizing o) = IsHeapApart store
IsReadyForCollectionAt store g phase_of.Split = IsApartUnseen store
IsReadyForCollectionAt store g (phase_of.Living next) = IsApartUnseen store × IsAt next (list_at store (Gen (older g)))
IsReadyForCollectionAt store g (phase_of.Detaching next) = IsApartUnseen store × IsAt next (list_at store Cand) × HasNoneBehind store next
IsReadyForCollectionAt store g (phase_of.Unlinking member weak) = IsApartUnseen store × IsMemberWalk store member weak
IsReadyForCollectionAt store g phase_of.Turns = IsApartUnseen store
IsReadyForCollectionAt store g (phase_of.Turn o) = IsApartUnseen store × IsNotGarbageList o
IsReadyForCollectionAt store g (phase_of.AfterTurn o) = IsApartUnseen store × IsNotGarbageList o
IsReadyForCollectionAt store g phase_of.Ending = IsApartUnseen store × IsEmptyAt store Cand
IsReadyForCollectionAt store g (phase_of.Uncollectable first next number) = IsAt first (list_at store (Gen (older g))) × IsAt next (list_at store (Gen (older g)))
IsReadyForCollectionAt store g (phase_of.Saved next number) = IsAt next (list_at store (Gen (older g)))
IsReadyForCollectionAt store g (phase_of.Stopping number) = Unit {0}
IsReadyForCollectionAt store g (phase_of.Over number) = Unit {0}

-- The number of collected objects is small: it grows by one for each waiting weak reference that dies, and by the final
-- set, and no list of a heap is longer than a million and one. So is the number of uncollectable objects.
abbrev pub HasFewCollected : ℕ → Phase → Store → Type 0
HasFewCollected collected phase_of.Start store = collected ≡ 0
HasFewCollected collected (phase_of.Sizes zero one two frozen) store = collected ≡ 0
HasFewCollected collected (phase_of.Telling next) store = collected ≡ 0
HasFewCollected collected (phase_of.WeakClearing member weak) store = collected ≡ 0
HasFewCollected collected phase_of.WeakCalling store = collected + length (list_at store Pend) ≤ 1000001
HasFewCollected collected (phase_of.AfterCallback weak) store = collected + length (list_at store Pend) ≤ 1000001
HasFewCollected collected (phase_of.AfterRelease weak) store = collected + length (filter (λ q. not (q == weak)) (list_at store Pend)) + 1 ≤ 1000001
HasFewCollected collected phase_of.Finalizing store = collected ≤ 1000001
HasFewCollected collected (phase_of.AfterFinalizing o) store = collected ≤ 1000001
HasFewCollected collected phase_of.Split store = collected ≤ 1000001
HasFewCollected collected (phase_of.Uncollectable first next number) store = (collected ≤ 2000002) × (number ≤ 1000001)
HasFewCollected collected (phase_of.Saved next number) store = (collected ≤ 2000002) × (number ≤ 1000001)
HasFewCollected collected (phase_of.Stopping number) store = (collected ≤ 2000002) × (number ≤ 1000001)
HasFewCollected collected (phase_of.Over number) store = (collected ≤ 2000002) × (number ≤ 1000001)
HasFewCollected collected phase store = collected ≤ 2000002

-- the phases in which something is given up
abbrev pub MayGiveUp : Phase → Type 0
MayGiveUp (phase_of.AfterRelease weak) = Unit {0}
MayGiveUp phase_of.Finalizing = Unit {0}
MayGiveUp (phase_of.Turn o) = Unit {0}
MayGiveUp (phase_of.AfterTurn o) = Unit {0}
MayGiveUp phase = ⊥

-- things are given up only in these
abbrev pub GivesUpIn : Phase → Option Release → Type 0
GivesUpIn phase None = Unit {0}
GivesUpIn phase (Some release) = MayGiveUp phase

-- the phases in which a frame runs and nothing is given up: that of a callback, and that of a finalizer
abbrev pub RunsFrame : Phase → Option Release → Type 0
RunsFrame (phase_of.AfterCallback weak) release = release ≡ None
RunsFrame (phase_of.AfterFinalizing o) release = release ≡ None
RunsFrame phase release = ⊥

-- those in which frames and deaths run
abbrev pub MayRun : Phase → Type 0
MayRun (phase_of.AfterCallback weak) = Unit {0}
MayRun (phase_of.AfterFinalizing o) = Unit {0}
MayRun phase = MayGiveUp phase

-- a collection has begun after its first step
abbrev pub IsBegun : Phase → Type 0
IsBegun phase_of.Start = ⊥
IsBegun phase = Unit {0}
