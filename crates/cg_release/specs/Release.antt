-- What a release frees: exactly what dies by count. (Developer guide, "reference counting": an object is freed when
-- its count falls to 0. The least set is ours.)
use Rattle.std.specs.Prelude.{◌≡◌, ◌≢◌, ◌↔◌, ℕ, ◌<◌, Bool, true, List, [], ◌∷◌, ◌++◌, if◌then◌else◌, flat_map, count_by}
use Rattle.cg_script.specs.declared.Script.{Script}
use Rattle.cg_script.specs.Texts.{TextsAreKnown}
use Rattle.cg_graph.specs.Member.{Includes}
use Rattle.cg_graph.specs.Value.{references}
use Rattle.cg_graph.specs.Object.{Object, serials}
use Rattle.cg_graph.specs.Holdings.{occurrences}
use Rattle.cg_machine.specs.declared.event.Event.{Event}
use Rattle.cg_machine.specs.declared.event.Event.TheVariants.{Free}
use Rattle.cg_machine.specs.World.{World, Activity, Releasing}
use Rattle.cg_machine.specs.Holdings.{in_degree}
use Rattle.cg_machine.specs.Run.{StepTaken, IsRun, last_world, events_of, world_after}
use Rattle.cg_laws.specs.Laws.{is_enter}

-- the references of the objects in a set, each as often as it is stored
abbrev pub references_from : (ℕ → Bool) → List Object → List ℕ
references_from set objects = flat_map (λ x. if set x.serial then references x.entries else []) objects

-- A set is closed if it has each object whose in-degree, above 0, is the number of its occurrences among the released
-- references and those of the objects in the set.
abbrev pub IsClosed : World → List ℕ → (ℕ → Bool) → Type 0
IsClosed w given set = (x : Object) → Includes w.objects x → 0 < in_degree w x.serial
    → occurrences x.serial (given ++ references_from set w.objects) ≡ in_degree w x.serial → set x.serial ≡ true

-- an object is in every closed set
abbrev pub DiesByCount : World → List ℕ → ℕ → Type 0
DiesByCount w given o = (set : ℕ → Bool) → IsClosed w given set → set o ≡ true

-- In a run, references are released: a release is on top of the stack, and ends, and no frame begins before its end.
pub record IsRelease (script : Script) (budget : ℕ) (before during : List StepTaken) (given : List ℕ) (below : List Activity) : Type 0 where
  pub run : IsRun script budget (before ++ during)
  pub starts : (world_after script budget before).stack ≡ Releasing given ∷ below
  pub goes_on : (front back : List StepTaken) (step : StepTaken) → during ≡ front ++ step ∷ back → (last_world (world_after script budget before) front).stack ≢ below
  pub ends : (last_world (world_after script budget before) during).stack ≡ below
  pub no_frame : count_by is_enter (events_of during) ≡ 0

-- Exactly what dies by count is freed and gone.
pub record FreesExactly (w : World) (given : List ℕ) (printed : List Event) (after : World) : Type 0 where
  pub freed : (o : ℕ) → Includes printed (Free o) ↔ DiesByCount w given o
  pub gone : (x : Object) → Includes w.objects x → (¬ Includes (serials after.objects) x.serial) ↔ DiesByCount w given x.serial

-- A release in which no frame begins frees exactly what dies by count, for each script of a class.
abbrev pub ReleasesFreeExactlyIn : (Script → Type 0) → Type 0
ReleasesFreeExactlyIn Fit = (script : Script) (budget : ℕ) (before during : List StepTaken) (given : List ℕ) (below : List Activity)
    → Fit script → IsRelease script budget before during given below
    → FreesExactly (world_after script budget before) given (events_of during) (last_world (world_after script budget before) during)

-- the same for each script that names only its own texts
abbrev pub ReleasesFreeExactly : Type 0
ReleasesFreeExactly = ReleasesFreeExactlyIn TextsAreKnown
