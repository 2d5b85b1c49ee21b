-- The most entries and weak references that a step looks at. (Developer guide, "identifying reference cycles" and
-- "optimization: delay tracking containers"; `gc` manual, `gc.garbage`; `weakref` manual.)
use Rattle.std.specs.Prelude.{ℕ, ◌+◌, ◌*◌, List, [], ◌∷◌, length, filter, sum_by}
use Rattle.cg_value.specs.declared.Entry.{Entry}
use Rattle.cg_value.specs.declared.Place.{Place}
use Rattle.cg_value.specs.declared.Place.TheVariants.{Gen, Cand}
use Rattle.cg_graph.specs.Object.{Object, same_place}
use Rattle.cg_graph.specs.Rows.{referent_in, weak_references_in}
use Rattle.cg_graph.specs.Store.{Store, entries_of, list_at, objects_of}
use Rattle.cg_machine.specs.Collect.{merged_place}
use Rattle.cg_trial.specs.Split.{entry_number_at}
use Rattle.cg_collect.specs.Phases.{from_on, references_in, to_look_at}
use Rattle.cg_collect.specs.declared.phase.Phase.{Phase}
use Rattle.cg_collect.specs.declared.phase.Phase.TheVariants as phase_of

-- the objects of a generation and the younger ones, among which a collection looks for garbage
abbrev pub collected_from : ℕ → List Object → List Object
collected_from g objects = filter (λ x. same_place (merged_place g x.place) (Gen g)) objects

-- the number of their entries
abbrev pub entry_number_from : Store → ℕ → ℕ
entry_number_from store g = sum_by (λ x. length x.entries) (collected_from g (objects_of store))

-- the entries of the objects in a list
abbrev pub entries_listed : Store → Place → ℕ
entries_listed store p = sum_by (λ o. length (entries_of store o)) (list_at store p)

-- one, if there are any
abbrev pub one_of : List Entry → ℕ
one_of [] = 0
one_of (e ∷ es) = 1

-- the weak references with the same referent as this one, if it has one
abbrev pub beside : Store → ℕ → List ℕ
beside store o = references_in store.rows (referent_in store.rows o)

-- what the weak phase meets for a condemned object: the object, the weak references to it, and those with its
-- referent
abbrev pub met_for_condemned : Store → ℕ → ℕ
met_for_condemned store o = length (weak_references_in store.rows o) + length (beside store o) + 1

-- what the phases after the second pass meet: a member and the weak references to it, and then a member and those
-- with its referent
abbrev pub met_for_referent : Store → ℕ → ℕ
met_for_referent store o = length (weak_references_in store.rows o) + 1

abbrev pub met_for_member : Store → ℕ → ℕ
met_for_member store o = length (beside store o) + 1

-- A reachability pass visits its objects twice. The start visits survivors twice more to untrack them, and uncollectable objects
-- once to find what they reach; so it looks at no entry more than four times. The turn of a member looks once at each removed
-- entry, and a called callback is looked at once. A walk of the weak phase asks a weak reference for the next older one, for its
-- referent, and twice for its callback, which is its entry; and a condemned object, which may be a weak reference, twice for its
-- referent, for its callback, and for the newest weak reference to visit. After the second pass a walk asks for the newest weak
-- reference to a member, and again after that was cleared; and the next walk asks for the next older weak reference, or for a
-- member's referent and the newest weak reference to that. For a walk these are the looks of all its remaining steps.
abbrev pub most_looks : ℕ → Phase → Store → ℕ
most_looks g phase_of.Start store = 4 * entry_number_from store g
most_looks g phase_of.Split store = 2 * entry_number_at store Cand
most_looks g (phase_of.Turn o) store = one_of (entries_of store o)
most_looks g (phase_of.WeakClearing member weak) store = 4 * (sum_by (met_for_condemned store) (from_on member (list_at store Cand)) + length (to_look_at store weak))
most_looks g phase_of.WeakCalling store = 1
most_looks g (phase_of.Detaching next) store = sum_by (met_for_referent store) (from_on next (list_at store Cand))
most_looks g (phase_of.Unlinking member weak) store = 2 * (sum_by (met_for_member store) (from_on member (list_at store Cand)) + length (to_look_at store weak))
most_looks g phase store = 0

-- A walk that goes on leaves these for its next steps; no other phase leaves any.
abbrev pub looks_left : Phase → Phase → Store → ℕ
looks_left (phase_of.WeakClearing member weak) (phase_of.WeakClearing later older) store = most_looks 0 (phase_of.WeakClearing later older) store
looks_left (phase_of.Detaching next) (phase_of.Detaching later) store = most_looks 0 (phase_of.Detaching later) store
looks_left (phase_of.Unlinking member weak) (phase_of.Unlinking later older) store = most_looks 0 (phase_of.Unlinking later older) store
looks_left phase next store = 0
