-- A turn of the top activity is a turn of the engine.
use Rattle.std.proofs.Common.{◌≡◌, ◌≢◌, refl, sym, ◌∙◌, ap, subst, ℕ, true, false, inl, inr, List, [], ◌∷◌}
use Rattle.cg_script.specs.declared.Script.{Script}
use Rattle.cg_graph.proofs.Members.{either}
use Rattle.cg_machine.specs.declared.event.Event.{Event}
use Rattle.cg_machine.specs.World.{World}
use Rattle.cg_laws.specs.Lawful.{IsLawful}
use Rattle.cg_collect.specs.Phases.{lines_left}
use Rattle.cg_collect.specs.Answers.{CollectionShows}
use Rattle.cg_collect.specs.Collections.{IsReadyForCollection}
use Rattle.cg_interp.specs.declared.activity.Activity.{Activity as Own}
use Rattle.cg_interp.specs.declared.activity.Activity.TheVariants as activity
use Rattle.cg_interp.specs.declared.turned.Turned.{Turned}
use Rattle.cg_interp.specs.Engines.{State, StandsFor, is_collecting, under}
use Rattle.cg_interp.specs.Collecting.{StandsWith, CollectsOnTop}
use Rattle.cg_interp.specs.Telling.{Advances, TurnsAfter, TurnsBy, TurnsAnyBy}
use Rattle.cg_interp.proofs.ActivityLemmas.{something_under_way}
use Rattle.cg_interp.proofs.CallerLemmas.{same_engine}
use Rattle.cg_interp.proofs.AnswersOfTurns.{turns_moving}

-- With anything but a collection on top, no line is left.
pub stands_above : (script : Script) (e : State) (top : Own) (rest : List Own) (left : List Event) (w : World) → e.activities ≡ top ∷ rest → is_collecting top ≡ false → StandsWith script e
    left w → StandsFor script e w × (left ≡ [])
stands_above script e top rest left w is plain stands = either stands (λ plainly. plainly) (λ (on_top : CollectsOnTop script e left w).
    let heads : (top ∷ rest) ≡ activity.Collecting on_top.asked on_top.collection ∷ on_top.rest = sym is ∙ on_top.top in
    let same : top ≡ activity.Collecting on_top.asked on_top.collection = cc in
    let clash : false ≡ true = sym plain ∙ ap is_collecting same in
    absurd (cc))

-- So a turn of it is a turn of the engine.
pub turns_any : (waits : List Event) (script : Script) (top : Own) (old new : State) (answer : Turned) → is_collecting top ≡ false → TurnsBy script waits top old new answer → TurnsAnyBy script waits (under top old) new answer
turns_any waits script top old new answer plain turns w left stands kept =
    let plainly = stands_above script (under top old) top old.activities left w refl plain stands in
    subst (λ l. TurnsAfter script (Advances (under top old) l new) w l new waits answer) (sym plainly.1) (turns_moving waits script (Advances (under top old) [] new) w [] new answer (turns w plainly.0 kept))

-- another engine with the same parts, even if a collection on top has lines left
pub stands_alike : (script : Script) (old new : State) (left : List Event) (w : World) → new.store ≡ old.store → new.policy ≡ old.policy → new.activities
    ≡ old.activities → new.budget ≡ old.budget → StandsWith script old left w → StandsWith script new left w
stands_alike script old new left w store policy activities budget stands = either stands
    (λ plainly. inl (same_engine script old new w plainly.0 store policy activities budget, plainly.1))
    (λ (on_top : CollectsOnTop script old left w). inr (record {
      asked = on_top.asked;
      collection = on_top.collection;
      rest = on_top.rest;
      top = activities ∙ on_top.top;
      collects = record {
        below = on_top.collects.below;
        shows = subst (λ s. CollectionShows on_top.asked on_top.collection s new.policy w on_top.collects.below) (sym store)
            (subst (λ p. CollectionShows on_top.asked on_top.collection old.store p w on_top.collects.below) (sym policy) on_top.collects.shows);
        over = on_top.collects.over;
        budget = on_top.collects.budget ∙ sym budget;
        running = on_top.collects.running;
        alone = on_top.collects.alone;
        ready = subst (IsReadyForCollection script on_top.collection) (sym store) on_top.collects.ready;
        lines = on_top.collects.lines ∙ ap (lines_left script on_top.asked on_top.collection on_top.collection.phase) (sym store);
      };
    }))

-- something is always on top
pub something_on_top : (script : Script) (e : State) (left : List Event) (w : World) (budget : ℕ) → StandsWith script e left w → IsLawful script budget w → e.activities ≢ []
something_on_top script e left w budget stands lawful none = either stands
    (λ plainly. something_under_way script e w budget plainly.0 lawful none)
    (λ (on_top : CollectsOnTop script e left w). absurd (let clash : [] ≡ activity.Collecting on_top.asked on_top.collection ∷ on_top.rest = sym none ∙ on_top.top in cc))
