-- Steps whose outcome a test decides: a frame starts or the budget is spent, and others of deaths and collections.
use Rattle.std.proofs.Common.{◌≡◌, refl, sym, subst, ℕ, ◌+◌, ◌-◌, Bool, true, false, not, List, [], ◌∷◌, Option, Some, None}
use Rattle.std.specs.Prelude.{◌==◌, ◌&&◌, if◌then◌else◌}
use Rattle.std.proofs.lemmas.Bool.{eqb-false}
use Rattle.cg_value.specs.declared.Place.TheVariants.{Untracked, Gen}
use Rattle.cg_script.specs.declared.Script.{Script}
use Rattle.cg_graph.specs.Object.{Object, change, is_in_map, is_tuple, with_place}
use Rattle.cg_machine.specs.declared.event.Event.{Event}
use Rattle.cg_machine.specs.declared.event.Event.TheVariants.{Alive, BudgetSpent, Enter, GcSaved}
use Rattle.cg_machine.specs.declared.event.FrameSort.TheVariants.{Call}
use Rattle.cg_machine.specs.declared.event.FrameSpec.{FrameSpec}
use Rattle.cg_machine.specs.Program.{body_of}
use Rattle.cg_machine.specs.World.{World, Activity, Framed, Releasing, DyingPhase, Collection, Turns, Turn, WeakCalling, BudgetIsSpent, with_change, with_objects, with_stack}
use Rattle.cg_machine.specs.Holdings.{in_degree, is_dying}
use Rattle.cg_machine.specs.Frame.{Transition, Yields, begin_death, start_frame, procedure_of, released}
use Rattle.cg_machine.specs.Dying.{after_frame, death_at}
use Rattle.cg_machine.specs.Collect.{after_release, collection_at, has_flag, older, save_all, saved, takes_turn}

abbrev pub begun_frame : Script → FrameSpec → Activity
begun_frame script spec = Framed (record { sort = spec.sort; subject = spec.subject; function = spec.func; commands = body_of script spec.proc })

pub starts_either : (R : List Event → World → Type 0) (script : Script) (spec : FrameSpec) (u : World) → R (BudgetSpent ∷ []) (record u { outcome = BudgetIsSpent })
    → ((u.budget ≡ 0 → ⊥) → R (Enter spec.sort spec.subject ∷ []) (record u { budget = u.budget - 1; stack = begun_frame script spec ∷ u.stack }))
    → (let t : Transition = start_frame script spec u in R t.0 t.1)
starts_either R script spec u spent enters = go (u.budget == 0) refl
  where
    go : (b : Bool) → (u.budget == 0) ≡ b
        → (let t : Transition = if b then (BudgetSpent ∷ [], record u { outcome = BudgetIsSpent }) else (
          Enter spec.sort spec.subject ∷ [],
          record u { budget = u.budget - 1; stack = begun_frame script spec ∷ u.stack },
        ) in R t.0 t.1)
    go true e = spent
    go false e = enters (eqb-false u.budget 0 e)

-- what holds of a transition holds of the step that it yields
pub yielded : (R : List Event → World → Type 0) (t : Transition) (events : List Event) (after : World) → Yields t events after → R t.0 t.1 → R events after
yielded R t events after y h = subst (λ es. R es after) (sym y.0) (subst (R t.0) (sym y.1) h)

-- the frame of a function that a command calls
abbrev pub call_frame : World → ℕ → FrameSpec
call_frame u f = record { sort = Call; proc = procedure_of u f; subject = f; func = Some f }

pub called_either : (R : List Event → World → Type 0) (script : Script) (u : World) (f : ℕ) (events : List Event) (after : World)
    → Yields (start_frame script (call_frame u f) u) events after → R (BudgetSpent ∷ []) (record u { outcome = BudgetIsSpent })
    → R (Enter Call f ∷ []) (record u { budget = u.budget - 1; stack = begun_frame script (call_frame u f) ∷ u.stack }) → R events after
called_either R script u f events after y spent enters =
    yielded R (start_frame script (call_frame u f) u) events after y (starts_either R script (call_frame u f) u spent (λ some. enters))

pub if_either : (R : List Event → World → Type 0) (b : Bool) (x y : Transition) → (b ≡ true → R x.0 x.1) → (b ≡ false → R y.0 y.1) → (let t : Transition = if b then x else y in R t.0 t.1)
if_either R true x y h k = h refl
if_either R false x y h k = k refl

pub option_either : {A : Type 0} (R : List Event → World → Type 0) (f : Option A → Transition) (m : Option A) → (m ≡ None → R (f None).0 (f None).1)
    → ((a : A) → m ≡ Some a → R (f (Some a)).0 (f (Some a)).1) → R (f m).0 (f m).1
option_either R f None none some = none refl
option_either R f (Some a) none some = some a refl

pub list_either : (R : List Event → World → Type 0) (f : List ℕ → Transition) (ns : List ℕ) → (ns ≡ [] → R (f []).0 (f []).1)
    → ((n : ℕ) (rest : List ℕ) → ns ≡ n ∷ rest → R (f (n ∷ rest)).0 (f (n ∷ rest)).1) → R (f ns).0 (f ns).1
list_either R f [] none some = none refl
list_either R f (n ∷ rest) none some = some n rest refl

-- a release: the object begins to die, or it stays
pub release_either : (R : List Event → World → Type 0) (o : ℕ) (references : List ℕ) (below : List Activity) (w : World)
    → (let v : World = with_stack (Releasing references ∷ below) w in let dies : Bool = not (is_dying v o) && (in_degree v o == 0)
    in (dies ≡ true → R [] (begin_death o v)) → (dies ≡ false → R [] v) → (let t : Transition = released (o ∷ references) below w in R t.0 t.1))
release_either R o references below w dies stays =
    let v : World = with_stack (Releasing references ∷ below) w in
    if_either R (not (is_dying v o) && (in_degree v o == 0)) ([], begin_death o v) ([], v) dies stays

-- the end of an object's own frame: its death goes on, or it was resurrected
pub own_frame_either : (R : List Event → World → Type 0) (o : ℕ) (next : DyingPhase) (below : List Activity) (w : World)
    → (let v : World = death_at o next below w
    in ((in_degree v o == 0) ≡ true → R [] (with_change (with_place Untracked) o v)) → ((in_degree v o == 0) ≡ false → R (Alive o ∷ []) (with_stack below w))
    → (let t : Transition = after_frame o next below w in R t.0 t.1))
own_frame_either R o next below w dies lives =
    let v : World = death_at o next below w in
    if_either R (in_degree v o == 0) ([], with_change (with_place Untracked) o v) (Alive o ∷ [], with_stack below w) dies lives

-- the release of a called weak reference: it lives, or it is freed
pub called_back_either : (R : List Event → World → Type 0) (c : Collection) (weak : ℕ) (waiting : List ℕ) (below : List Activity) (w : World)
    → (is_in_map w.objects weak ≡ true → R [] (collection_at c (WeakCalling waiting) below (with_change (with_place (Gen (older c.generation))) weak w)))
    → (is_in_map w.objects weak ≡ false → R [] (collection_at (record c { collected = c.collected + 1 }) (WeakCalling waiting) below w))
    → (let t : Transition = after_release c weak waiting below w in R t.0 t.1)
called_back_either R c weak waiting below w lives gone = if_either R (is_in_map w.objects weak)
    ([], collection_at c (WeakCalling waiting) below (with_change (with_place (Gen (older c.generation))) weak w))
    ([], collection_at (record c { collected = c.collected + 1 }) (WeakCalling waiting) below w) lives gone

-- a turn: the object is saved, or moves as a tuple, or its entries go
pub turn_either : (R : List Event → World → Type 0) (c : Collection) (x : Object) (below : List Activity) (w : World)
    → (has_flag c.flags save_all ≡ true
    → R (GcSaved x.serial ∷ []) (collection_at c Turns below (with_objects (change (with_place (Gen (older c.generation))) x.serial (saved x.serial w.objects)) w)))
    → (has_flag c.flags save_all ≡ false → is_tuple x ≡ true → R [] (collection_at c Turns below (with_change (with_place (Gen (older c.generation))) x.serial w)))
    → (has_flag c.flags save_all ≡ false → is_tuple x ≡ false → R [] (collection_at c (Turn x.serial) below w)) → (let t : Transition = takes_turn c x below w in R t.0 t.1)
turn_either R c x below w saves moves goes = by (has_flag c.flags save_all) (is_tuple x) refl refl
  where
    by : (s t : Bool) → has_flag c.flags save_all ≡ s → is_tuple x ≡ t
        → (let next : Transition = if s
        then (GcSaved x.serial ∷ [], collection_at c Turns below (with_objects (change (with_place (Gen (older c.generation))) x.serial (saved x.serial w.objects)) w))
        else if t then ([], collection_at c Turns below (with_change (with_place (Gen (older c.generation))) x.serial w)) else ([], collection_at c (Turn x.serial) below w) in R next.0 next.1)
    by true t e d = saves e
    by false true e d = moves e d
    by false false e d = goes e d
