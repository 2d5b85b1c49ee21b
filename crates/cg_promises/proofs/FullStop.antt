-- A full collection stops in the step of its end.
use Rattle.std.proofs.Common.{◌≡◌, ◌≢◌, refl, sym, ◌∙◌, ap, subst, ℕ, ◌<◌, Bool, true, false, inl, inr, ◌⊎◌, List, [], ◌∷◌, ◌++◌, map, arith}
use Rattle.std.specs.Prelude.{◌==◌, count_by, if◌then◌else◌}
use Rattle.cg_value.specs.declared.Place.TheVariants.{Gen, Legacy}
use Rattle.cg_value.specs.declared.Val.TheVariants.{Ref}
use Rattle.cg_script.specs.declared.Script.{Script}
use Rattle.cg_graph.specs.Member.{Includes}
use Rattle.cg_graph.specs.Value.{item, references}
use Rattle.cg_graph.specs.Object.{Object, is_at, with_entries, with_place}
use Rattle.cg_graph.proofs.Members.{either, Includes-map}
use Rattle.cg_machine.specs.declared.event.Event.{Event}
use Rattle.cg_machine.specs.declared.event.Event.TheVariants.{BudgetSpent, Enter, Free, GcStop}
use Rattle.cg_machine.specs.World.{World, Activity, Releasing, Dying, Collecting, Collection, CollectPhase, Start, Ending, with_stack}
use Rattle.cg_machine.specs.Holdings.{collect_holds}
use Rattle.cg_machine.specs.Collect.{all_saved, older, saved, EndStep, PhaseStep}
use Rattle.cg_machine.specs.Run.{StepOf}
use Rattle.cg_laws.specs.Laws.{is_stop}
use Rattle.cg_laws.proofs.Advances.{Advance, Plainly, WithFrame, IsEnding, IsLineOf, AreLinesOf, Shows, Frees}
use Rattle.cg_laws.proofs.Starting.{starts_either}
use Rattle.cg_laws.proofs.Advancing.{released_advances, dying_advances, phase_advances}
use Rattle.cg_promises.proofs.FullRuns.{IsRoot, reached_lasts, root_down}
use Rattle.cg_promises.specs.Reached.{IsReached}
use Rattle.cg_promises.proofs.Kept.{IsBare, appended}
use Rattle.cg_promises.proofs.FinalSetRuns.{none_stops}

abbrev pub NoStop : List Event → Type 0
NoStop events = (event : Event) → Includes events event → is_stop event ≡ false

-- Only the end of a collection stops it.
quiet_line : (after : List Object) (top : Activity) (event : Event) → (IsEnding top → ⊥) → IsLineOf after top event → is_stop event ≡ false
quiet_line after top (GcStop g collected found) on h = absurd (on h)
quiet_line after top event on h = refl

one_event : (event : Event) → is_stop event ≡ false → NoStop (event ∷ [])
one_event event e x m = either m (λ i. subst (λ z. is_stop z ≡ false) i e) (λ k. absurd k)

quiet_lines : (before after : List Object) (top : Activity) (lines : List Event) → (IsEnding top → ⊥) → AreLinesOf before after top lines → NoStop lines
quiet_lines before after top lines on (Shows ls h) = λ event m. quiet_line after top event on (h event m).0
quiet_lines before after top lines on (Frees o dies gone) = one_event (Free o) refl

advance_quiet : (script : Script) (v : World) (top : Activity) (below : List Activity) (lines : List Event) (after : World) → (IsEnding top → ⊥) → Advance script v top below lines after → NoStop lines
advance_quiet script v top below lines after on (Plainly tops objects numbers ls t c n shown) = quiet_lines v.objects objects top ls on shown
advance_quiet script v top below lines after on (WithFrame spec a objects s c held m) = starts_either (λ es w. NoStop es) script spec
    (record v { objects = objects; stack = a ∷ below }) (one_event BudgetSpent refl) (λ some. one_event (Enter spec.sort spec.subject) refl)

at_end : (phase : CollectPhase) → (phase ≡ Ending) ⊎ (phase ≢ Ending)
at_end Ending = inl refl
at_end phase = inr (λ e. cc)

pub phase_quiet : (script : Script) (c : Collection) (below : List Activity) (v : World) (events : List Event) (after : World) → PhaseStep script c c.phase
    below (with_stack (Collecting c ∷ below) v) events after → (c.phase ≡ Ending) ⊎ NoStop events
phase_quiet script c below v events after step = either (at_end c.phase) (λ e. inl e) (λ on. inr (advance_quiet script v (Collecting c) below events after on
    (phase_advances script c below v c.phase events after step)))

pub stop_ends : (script : Script) (kept : ℕ → Type 0) (v : World) (below : List Activity) (events : List Event) (after : World) (tops : List Activity)
    (c : Collection) → ((a : Activity) → Includes tops a → IsBare kept a) → c.phase ≢ Start → 0 < count_by is_stop events
    → StepOf script (with_stack (tops ++ Collecting c ∷ below) v) (tops ++ Collecting c ∷ below) events after → (tops ≡ []) × (c.phase ≡ Ending)
stop_ends script kept v below events after [] c bare begun more step = either (phase_quiet script c below v events after step) (λ e. (refl, e))
    (λ q. absurd (let none = none_stops events q in omega (arith, none, more)))
stop_ends script kept v below events after (Releasing refs ∷ tops) c bare begun more step =
    absurd (let none = none_stops events (subst NoStop (sym step.0) (advance_quiet script v (Releasing refs) (tops ++ Collecting c ∷ below) _ _ (λ k. k)
    (released_advances script refs (tops ++ Collecting c ∷ below) v))) in omega (arith, none, more))
stop_ends script kept v below events after (Dying d ∷ tops) c bare begun more step =
    absurd (let none = none_stops events (subst NoStop (sym step.0) (advance_quiet script v (Dying d) (tops ++ Collecting c ∷ below) _ _ (λ k. k)
    (dying_advances script d.object (tops ++ Collecting c ∷ below) v d.phase))) in omega (arith, none, more))
stop_ends script kept v below events after (a ∷ tops) c bare begun more step = absurd (bare a (inl refl))

-- What the end does: only the garbage list gets references, and objects move.
abbrev pub Grows : List Object → List Object → Type 0
Grows before after = (x : Object) → Includes before x → (y : Object) × Includes after y × (y.serial ≡ x.serial) × ((o : ℕ) → Includes (references x.entries) o → Includes (references y.entries) o)

pub grows_trans : (before now after : List Object) → Grows before now → Grows now after → Grows before after
grows_trans before now after h k x m = let y = h x m in let z = k y.0 y.1 in (z.0, z.1, z.2 ∙ y.2, λ o i. z.3 o (y.3 o i))

pub test_grows : (f : Object → Object) (test : Object → Bool) (objects : List Object) → ((x : Object) → (f x).serial ≡ x.serial)
    → ((x : Object) (o : ℕ) → Includes (references x.entries) o → Includes (references (f x).entries) o)
    → Grows objects (map (λ x. if test x then f x else x) objects)
test_grows f test objects serial more x m = (if test x then f x else x, Includes-map (λ x. if test x then f x else x) objects x m, same (test x), longer (test x))
  where
    same : (b : Bool) → (if b then f x else x).serial ≡ x.serial
    same true = serial x
    same false = refl

    longer : (b : Bool) (o : ℕ) → Includes (references x.entries) o → Includes (references (if b then f x else x).entries) o
    longer true o i = more x o i
    longer false o i = i

pub all_saved_grow : (keeps : List ℕ) (objects : List Object) → Grows objects (all_saved keeps objects)
all_saved_grow [] objects = λ x m. (x, m, refl, λ o i. i)
all_saved_grow (o ∷ keeps) objects = grows_trans objects (saved o objects) (all_saved keeps (saved o objects))
    (test_grows (λ x. with_entries (x.entries ++ item (Ref o) ∷ []) x) (λ x. x.serial == 1) objects (λ x. refl) (λ x r i. appended x.entries (item (Ref o) ∷ [])
    r i)) (all_saved_grow keeps (saved o objects))

-- what is reachable before the end is reachable after it
pub end_reached : (script : Script) (c : Collection) (below : List Activity) (w : World) (events : List Event) (after : World) → w.stack ≡ Collecting c ∷ below
    → c.phase ≡ Ending → EndStep script c below w events after → (o : ℕ) → IsReached w o → IsReached after o
end_reached script c below w events after top phase step = reached_lasts w after
    (λ o r. subst (λ (u : World). IsRoot u.names u.stack o) (sym step.world) (root_down w.names c below o (ap collect_holds phase) (subst (λ st. IsRoot w.names st o) top r)))
    (λ x m path. subst (λ (u : World). (y : Object) × Includes u.objects y × (y.serial ≡ x.serial) × ((o : ℕ) → Includes (references x.entries) o → Includes (references y.entries) o)) (sym step.world)
    (grows_trans w.objects (all_saved step.keeps w.objects) (map (λ z. if is_at Legacy z then with_place (Gen (older c.generation)) z else z)
    (all_saved step.keeps w.objects)) (all_saved_grow step.keeps w.objects)
    (test_grows (with_place (Gen (older c.generation))) (is_at Legacy) (all_saved step.keeps w.objects) (λ z. refl) (λ z o i. i)) x m))
