-- How a collection begins above the top activity.
use Rattle.std.proofs.Common.{◌≡◌, refl, sym, ◌∙◌, ap, subst, ℕ, ◌≤◌, Bool, false, inl, inr, List, [], ◌∷◌, ◌++◌, length, Option, None, Some, arith}
use Rattle.cg_value.specs.declared.Place.TheVariants.{Pend}
use Rattle.cg_script.specs.declared.Script.{Script}
use Rattle.cg_script.specs.Spelled.{IsSpelled}
use Rattle.cg_graph.specs.Store.{Store, list_at}
use Rattle.cg_heap.specs.Calls.{IsSound}
use Rattle.cg_machine.specs.World as machine
use Rattle.cg_machine.specs.World.{World, Activity, Collecting, push}
use Rattle.cg_machine.specs.Commands.{new_collection}
use Rattle.cg_laws.specs.Kept.{IsKept, StaysKept}
use Rattle.cg_death.specs.declared.release.Release.{Release}
use Rattle.cg_collect.specs.declared.collection.Collection.{Collection}
use Rattle.cg_collect.specs.declared.phase.Phase.{Phase}
use Rattle.cg_collect.specs.declared.phase.Phase.TheVariants as phase_of
use Rattle.cg_collect.specs.Numbers.{AreSmall}
use Rattle.cg_collect.specs.Phases.{machine_phase, collecting, collection_of, released_over, lines_left}
use Rattle.cg_collect.specs.Ready.{IsClear}
use Rattle.cg_collect.specs.Collections.{IsReadyForCollection}
use Rattle.cg_collect.specs.Answers.{CollectionShows}
use Rattle.cg_interp.specs.declared.activity.Activity.{Activity as Own}
use Rattle.cg_interp.specs.declared.activity.Activity.TheVariants as activity
use Rattle.cg_interp.specs.Engines.{State, StandsFor, under}
use Rattle.cg_interp.specs.Collecting.{StandsWith}
use Rattle.cg_interp.specs.Turns.{IsFit}
use Rattle.cg_interp.proofs.SmallNumbers.{small_numbers}
use Rattle.cg_interp.proofs.CollectReady.{clear_at_start, idle_without}
use Rattle.cg_interp.proofs.CollectionUnderWay.{runs_in}
use Rattle.cg_inspect.specs.Inspection.{IsIdle}

-- the machine's new collection, which a collection with nothing to give up represents
starts_there : (asked : Bool) (d : Collection) (first : machine.Collection) (below : List Activity) (release : Option Release) (q : Option machine.CollectPhase)
    → Collecting first ∷ below ≡ released_over release (collecting asked d q) ++ below → q ≡ Some first.phase
starts_there asked d first below None None is = let longer : length (Collecting first ∷ below) ≡ length below = ap length is in absurd (omega (arith, longer))
starts_there asked d first below None (Some p) is = let same : collection_of asked d p ≡ first = cc in ap Some (ap (λ (x : machine.Collection). x.phase) same)
starts_there asked d first below (Some r) q is = absurd (cc)

-- when the machine is about to start, no line is left
none_at_start : (script : Script) (asked : Bool) (d : Collection) (p : Phase) (pending : List ℕ) (store : Store) → machine_phase p pending ≡ Some machine.Start → lines_left script asked d p store ≡ []
none_at_start script asked d phase_of.Start pending store is = refl
none_at_start script asked d _ pending store is = absurd (cc)

module _ (script : Script) (asked : Bool) (g : ℕ) (top : Own) (e : State) (w : World) (stands : StandsFor script (under top e) w) where
  abbrev begins_as : machine.Collection
  begins_as = record { generation = g; flags = w.numbers.flags; asked = asked; collected = 0; phase = machine.Start }

  -- what is required
  pub small_before : (budget : ℕ) → IsSpelled script → budget ≤ 100000 → IsKept script budget (push (new_collection g asked w) w) → AreSmall e.policy.numbers
  small_before budget spelled low kept = subst AreSmall (sym stands.numbers) (small_numbers script budget (push (new_collection g asked w) w) spelled kept.few low)

  pub clear_before : (budget : ℕ) → IsSound e.store → IsKept script budget (push (new_collection g asked w) w) → IsClear e.store
  clear_before budget sound kept = clear_at_start e.store (push (new_collection g asked w) w) sound stands.represents.objects kept.apart begins_as (inl refl) refl

  -- the engine in which it has begun
  pub begins : (d : Collection) (new : State) → e.policy.running ≡ false → new.activities ≡ activity.Collecting asked d ∷ top ∷ e.activities → new.budget
      ≡ e.budget → CollectionShows asked d new.store new.policy (push (new_collection g asked w) w) w.stack → IsReadyForCollection script d new.store
      → StandsWith script new [] (push (new_collection g asked w) w)
  begins d new idle activities budget shows ready = inr (record {
    asked = asked;
    collection = d;
    rest = top ∷ e.activities;
    top = activities;
    collects = record {
      below = w.stack;
      shows = shows;
      over = stands.shows;
      budget = stands.budget ∙ sym budget;
      running = stands.running;
      alone = sym stands.collecting ∙ idle;
      ready = ready;
      lines = sym (none_at_start script asked d d.phase (list_at new.store Pend) new.store (starts_there asked d begins_as w.stack d.release
          (machine_phase d.phase (list_at new.store Pend)) shows.top));
    };
  })

-- If no collection is under way, the places of collections are empty.
pub idle_in : (script : Script) (budget : ℕ) (top : Own) (e : State) (w : World) → StandsFor script (under top e) w → IsSound e.store → IsKept script budget w
    → e.policy.running ≡ false → IsIdle e.store
idle_in script budget top e w stands sound kept none = idle_without e.store w sound stands.represents.objects kept.apart (sym (runs_in script (under top e) w stands) ∙ none)

-- An engine with a collection about to begin on top.
abbrev pub IsAtStart : Bool → ℕ → Own → State → Type 0
IsAtStart asked g top e = (script : Script) × IsSpelled script × IsFit script e × (w : World) × StandsFor script (under top e) w × StaysKept script e.first_budget (push (new_collection g asked w) w)

module _ (asked : Bool) (g : ℕ) (top : Own) (e : State) where
  pub starts_small : IsAtStart asked g top e → AreSmall e.policy.numbers
  starts_small (script, spelled, fit, w, stands, stays) = small_before script asked g top e w stands e.first_budget spelled fit.first_budget (stays [] tt)

  pub starts_clear : IsAtStart asked g top e → IsSound e.store → IsClear e.store
  starts_clear (script, spelled, fit, w, stands, stays) sound = clear_before script asked g top e w stands e.first_budget sound (stays [] tt)
