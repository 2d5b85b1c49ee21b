-- What each activity requires when it is on top, from the laws on the world that the engine represents.
use Rattle.std.proofs.Common.{◌≡◌, ◌≢◌, sym, ◌∙◌, ap, subst, ℕ, [], ◌∷◌, ◌++◌, length, length-append, arith, append-nil}
use Rattle.std.specs.FinMap as fin
use Rattle.cg_script.specs.declared.Script.{Script}
use Rattle.cg_heap.specs.Keeps.{IsWellMadeAt}
use Rattle.cg_heap.specs.Weak.{AreRows}
use Rattle.cg_machine.specs.World.{World, Releasing}
use Rattle.cg_machine.specs.Frame.{begin_death}
use Rattle.cg_laws.specs.Lawful.{IsLawful}
use Rattle.cg_laws.specs.Kept.{StaysKept}
use Rattle.cg_death.specs.declared.release.Release.{Release}
use Rattle.cg_death.specs.declared.death.Death.{Death}
use Rattle.cg_death.specs.Activities.{references_left, HasHolds}
use Rattle.cg_death.specs.Deaths.{held_by, IsReadyForDeath}
use Rattle.cg_death.proofs.CallerLemmas.{held_on_top, death_is_held}
use Rattle.cg_interp.specs.declared.activity.Activity.TheVariants as activity
use Rattle.cg_interp.specs.Engines.{State, StandsFor, ShowsAll, under}
use Rattle.cg_interp.specs.Turns.{DyingIsSound, GivesDeath}
use Rattle.cg_interp.proofs.DeathLemmas.{death_on_top, death_inside}
use Rattle.cg_interp.proofs.ReadyLemmas.{death_ready}
use Rattle.cg_interp.proofs.LawsOfEngines.{dying_sound}

-- what a release gives up is held
pub release_held : (script : Script) (e : State) (release : Release) (w : World) → StandsFor script (under (activity.Releasing release) e) w → HasHolds e.store (references_left release)
release_held script e release w stands =
    subst (HasHolds e.store) (append-nil (references_left release))
    (held_on_top e.store w stands.represents (Releasing (references_left release) ∷ []) stands.shows.below (stands.shows.is ∙ ap (λ l. l ++ stands.shows.below) stands.shows.shows))

-- what a death holds is held, and it may make a step
pub death_held : (script : Script) (e : State) (death : Death) (w : World) → StandsFor script (under (activity.Dying death) e) w → HasHolds e.store (held_by death e.store)
death_held script e death w stands = death_is_held e.store w stands.represents death stands.shows.below (death_on_top script e death w stands)

pub death_may_step : (script : Script) (e : State) (death : Death) (w : World) (budget : ℕ) → StandsFor script (under (activity.Dying death) e) w
    → IsLawful script budget w → AreRows e.store → ((s : ℕ) → IsWellMadeAt (fin.get e.store.nodes s)) → IsReadyForDeath death e.store
death_may_step script e death w budget stands lawful rows well = death_ready script budget e.store w stands.represents lawful rows well death
    stands.shows.shows.2 (death_inside script e death w stands)

-- the death that is answered is sound
pub given_sound : (script : Script) (w : World) (o budget : ℕ) (given : State) → StaysKept script budget w → (gives : GivesDeath script w o given) → DyingIsSound (begin_death o gives.before)
given_sound script w o budget given stays gives = subst DyingIsSound gives.goes.ends (dying_sound script budget _ (stays gives.goes.steps gives.goes.run).lawful)

-- Something is always on the stack: the script's own commands, or its shutdown, are at the bottom.
pub something_under_way : (script : Script) (e : State) (w : World) (budget : ℕ) → StandsFor script e w → IsLawful script budget w → e.activities ≢ []
something_under_way script e w budget stands lawful none =
    let empty : w.stack ≡ [] = subst (λ l. ShowsAll script l w.stack) none stands.shows in
    let top = lawful.bounded.top_level in
    let both : length (top.others ++ top.lowest ∷ []) ≡ 0 = ap length (sym top.bottom ∙ empty) in
    absurd (omega (arith, both, length-append top.others (top.lowest ∷ [])))
