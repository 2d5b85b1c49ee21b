-- References given up within one turn.
use Rattle.std.proofs.Common.{◌≡◌, refl, ◌∙◌, ap, ℕ, ◌<◌, false, [], ◌++◌, length}
use Rattle.cg_script.specs.declared.Script.{Script}
use Rattle.cg_graph.specs.Store.{Store}
use Rattle.cg_machine.specs.World.{World}
use Rattle.cg_represents.specs.Represents.{detects}
use Rattle.cg_death.specs.declared.release.Release.{Release}
use Rattle.cg_death.specs.declared.answer.DeathStep.{DeathStep}
use Rattle.cg_death.specs.declared.answer.DeathStep.TheVariants as answer_of
use Rattle.cg_death.specs.Activities.{references_left, HasHolds}
use Rattle.cg_death.specs.Answers.{ReleaseSteps}
use Rattle.cg_interp.specs.declared.activity.Activity.TheVariants as activity
use Rattle.cg_interp.specs.Engines.{State, StandsFor, under, over}
use Rattle.cg_interp.specs.Turns.{GoesTo, GivesDeath, DyingIsSound, StaysSound}
use Rattle.cg_interp.specs.Quietly.{ComesTo}
use Rattle.cg_interp.proofs.SilentTurns.{stays, quietly, comes_then, stays_so, goes_to_then, gives_death_then}
use Rattle.cg_interp.proofs.ReleaseLemmas.{continues, ends, gives_death, no_line}
use Rattle.cg_interp.proofs.ActivityLemmas.{release_held}

-- a release on top makes no reachability pass
pub release_detects_none : (script : Script) (release : Release) (e : State) (w : World) → StandsFor script (under (activity.Releasing release) e) w → detects w.stack ≡ false
release_detects_none script release e w stands = ap detects (stands.shows.is ∙ ap (λ l. l ++ stands.shows.below) stands.shows.shows)

-- This much of a release was given up, whatever the other activities.
abbrev pub GaveUp : Store → Release → Store → Release → Type 0
GaveUp store release now left = (script : Script) (e : State) (w : World) → StandsFor script (under (activity.Releasing release) (over store e)) w
    → StaysSound script w → ComesTo script w (under (activity.Releasing left) (over now e))

-- a world of a run has the release on top
abbrev pub IsReleasing : Store → Release → Type 0
IsReleasing store release = (script : Script) × (e : State) × (w : World) × StandsFor script (under (activity.Releasing release) (over store e)) w × StaysSound script w

pub gave_none : (store : Store) (release : Release) → GaveUp store release store release
gave_none store release script e w stands sound = record { after = w; goes = stays script w; stands = stands }

module _ (store now : Store) (release left : Release) (gave : GaveUp store release now left) where
  -- what is left is held
  pub left_held : IsReleasing store release → HasHolds now (references_left left)
  left_held (script, e, w, stands, sound) = let come = gave script e w stands sound in release_held script (over now e) left come.after come.stands

  -- the next step of the release
  module _ (new : Store) (left_after : Release) (answer : DeathStep) (steps : ReleaseSteps now (references_left left) new (references_left left_after) answer)
      (script : Script) (e : State) (w : World) (stood : StandsFor script (under (activity.Releasing release) (over store e)) w) (sound : StaysSound script w)
    where
      come : ComesTo script w (under (activity.Releasing left) (over now e))
      come = gave script e w stood sound

      sound_then : DyingIsSound come.after
      sound_then = stays_so script w come.after come.goes DyingIsSound sound [] tt

      none_next : detects come.after.stack ≡ false
      none_next = release_detects_none script left (over now e) come.after come.stands

      pub gave_more : answer ≡ answer_of.Continue → length (references_left left_after) < length (references_left left) → ComesTo script w (under (activity.Releasing left_after) (over new e))
      gave_more is fewer =
          let on = continues script (over now e) (under (activity.Releasing left_after) (over new e)) left left_after answer come.after come.stands sound_then steps refl refl is fewer refl in
          comes_then script w come.after come.goes (under (activity.Releasing left_after) (over new e))
          (record { after = on.after; goes = quietly script come.after on.after none_next on.goes; stands = on.stands })

      pub gave_all : answer ≡ answer_of.Gone → GoesTo script w [] (over new e)
      gave_all is = goes_to_then script w come.after come.goes none_next [] (over new e) (ends script (over now e) (over new e) left left_after answer come.after
          come.stands sound_then steps refl refl is refl)

      pub gave_death : (o : ℕ) → answer ≡ answer_of.Died o → GivesDeath script w o (under (activity.Releasing left_after) (over new e))
      gave_death o is =
          gives_death_then script w come.after come.goes none_next o (under (activity.Releasing left_after) (over new e))
          (gives_death script (over now e) (under (activity.Releasing left_after) (over new e)) left left_after answer come.after come.stands sound_then steps refl refl o is refl)

      pub gave_no_line : (answer ≡ answer_of.Continue → ⊥) → (answer ≡ answer_of.Gone → ⊥) → ((o : ℕ) → answer ≡ answer_of.Died o → ⊥) → ⊥
      gave_no_line not_on not_gone not_died = no_line script (over now e) (over new e) left left_after answer come.after come.stands sound_then steps refl refl not_on not_gone not_died
