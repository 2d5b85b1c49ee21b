-- A release on top: its answer is the machine's step.
use Rattle.std.proofs.Common.{◌≡◌, ◌≢◌, refl, sym, ◌∙◌, ap, subst, ℕ, ◌<◌, List, [], ◌∷◌, ◌++◌, length, arith, drop, length-drop}
use Rattle.cg_script.specs.declared.Script.{Script}
use Rattle.cg_graph.specs.Store.{Store}
use Rattle.cg_machine.specs.World.{World, Activity, Releasing}
use Rattle.cg_machine.specs.Frame.{begin_death}
use Rattle.cg_machine.specs.Run.{StepTaken, last_world}
use Rattle.cg_death.specs.declared.release.Release.{Release}
use Rattle.cg_death.specs.declared.answer.DeathStep.{DeathStep}
use Rattle.cg_death.specs.declared.answer.DeathStep.TheVariants as answer_of
use Rattle.cg_death.specs.Activities.{references_left}
use Rattle.cg_death.specs.Answers.{ReleaseSteps, ReleaseAnswer, release_answer, WentOn, GaveDeath}
use Rattle.cg_interp.specs.declared.activity.Activity.TheVariants as activity
use Rattle.cg_policy.specs.Policy.{Policy}
use Rattle.cg_interp.specs.Engines.{State, StandsFor, ShowsAll, under, any_collecting}
use Rattle.cg_interp.specs.Turns.{GoesTo, GivesDeath, DyingIsSound, StaysSound}

-- a run to a world with another stack has a step
pub stack_moves : (w after : World) (steps : List StepTaken) → last_world w steps ≡ after → (w.stack ≡ after.stack → ⊥) → steps ≢ []
stack_moves w after steps ends other none = other (ap (λ (v : World). v.stack) (sym (ap (last_world w) none) ∙ ends))

-- a release that goes on has given up a reference
pub fewer : (left : List ℕ) (left_after : List ℕ) (store : Store) → left_after ≡ drop 1 left → answer_of.Continue ≡ release_answer left store → length left_after < length left
fewer [] left_after store now is = let n : answer_of.Continue ≡ answer_of.Gone = is in absurd (cc)
fewer (o ∷ left) left_after store now is = let same : length left_after ≡ length (drop 1 (o ∷ left)) = ap length now in omega (arith, same, length-drop 1 (o ∷ left))

module _ (script : Script) (old new : State) (release after_release : Release) (answer : DeathStep) (w : World)
    (stands : StandsFor script (under (activity.Releasing release) old) w) (sound : DyingIsSound w) (steps : ReleaseSteps old.store (references_left release)
    new.store (references_left after_release) answer) (policy : new.policy ≡ old.policy) (budget : new.budget ≡ old.budget) where
  below : List Activity
  below = stands.shows.below

  at : w.stack ≡ Releasing (references_left release) ∷ below
  unfolding below
  at = stands.shows.is ∙ ap (λ l. l ++ stands.shows.below) stands.shows.shows

  says : ReleaseAnswer script w below new.store (references_left after_release) answer
  says = steps script w below (record { represents = stands.represents; top = at; running = stands.running; unheld = sound.unheld; once = sound.once })

  -- the activities below, and those with the release on top
  over : ShowsAll script old.activities below
  unfolding below
  over = stands.shows.over

  with_rest : (stack : List Activity) → stack ≡ Releasing (references_left after_release) ∷ below → ShowsAll script (activity.Releasing after_release ∷ old.activities) stack
  with_rest stack is = record { tops = Releasing (references_left after_release) ∷ []; below = below; shows = refl; some = λ e. absurd (cc); over = over; is = is }

  went_on : (stack : List Activity) → WentOn script w [] w.numbers new.store stack → (w.stack ≡ stack → ⊥) → ShowsAll script new.activities stack
      → any_collecting new.activities ≡ any_collecting old.activities → GoesTo script w [] new
  went_on stack went other shows under_way = record {
    after = went.goes.after;
    goes = went.goes.goes;
    moves = stack_moves w went.goes.after went.goes.goes.steps went.goes.goes.ends (λ e. other (e ∙ went.goes.top));
    stands = record {
      represents = went.goes.represents;
      shows = subst (ShowsAll script new.activities) (sym went.goes.top) shows;
      budget = went.keeps.budget ∙ stands.budget ∙ sym budget;
      running = went.keeps.outcome ∙ stands.running;
      numbers = ap (λ (p : Policy). p.numbers) policy ∙ stands.numbers ∙ sym went.keeps.numbers;
      collecting = ap (λ (p : Policy). p.running) policy ∙ stands.collecting ∙ sym under_way;
    };
  }

  pub continues : answer ≡ answer_of.Continue → length (references_left after_release) < length (references_left release) → new.activities
      ≡ activity.Releasing after_release ∷ old.activities → GoesTo script w [] new
  continues is fewer top =
      went_on (Releasing (references_left after_release) ∷ below) (subst (ReleaseAnswer script w below new.store (references_left after_release)) is says) (λ e. other (sym at ∙ e))
      (subst (λ l. ShowsAll script l (Releasing (references_left after_release) ∷ below)) (sym top) (with_rest _ refl))
      (ap any_collecting top)
    where
      other : Releasing (references_left release) ∷ below ≡ Releasing (references_left after_release) ∷ below → ⊥
      other e = let same : references_left release ≡ references_left after_release = cc in absurd (omega (arith, fewer, ap length same))

  pub ends : answer ≡ answer_of.Gone → new.activities ≡ old.activities → GoesTo script w [] new
  ends is top =
      went_on below (subst (ReleaseAnswer script w below new.store (references_left after_release)) is says)
      (λ e. let longer : length (Releasing (references_left release) ∷ below) ≡ length below = ap length (sym at ∙ e) in omega arith)
      (subst (λ l. ShowsAll script l below) (sym top) over)
      (ap any_collecting top)

  pub gives_death : (o : ℕ) → answer ≡ answer_of.Died o → new.activities ≡ activity.Releasing after_release ∷ old.activities → GivesDeath script w o new
  gives_death o is top = given (subst (ReleaseAnswer script w below new.store (references_left after_release)) is says)
    where
      given : GaveDeath script w o new.store (Releasing (references_left after_release) ∷ below) → GivesDeath script w o new
      given gave = record {
        before = gave.hands.before;
        goes = gave.hands.goes;
        moves = stack_moves w (begin_death o gave.hands.before) gave.hands.goes.steps gave.hands.goes.ends (λ e. let clash = sym at ∙ e in cc);
        stands = record {
          represents = gave.hands.represents;
          shows = subst (λ l. ShowsAll script l gave.hands.before.stack) (sym top) (with_rest _ gave.hands.top);
          budget = gave.keeps.budget ∙ stands.budget ∙ sym budget;
          running = gave.keeps.outcome ∙ stands.running;
          numbers = ap (λ (p : Policy). p.numbers) policy ∙ stands.numbers ∙ sym gave.keeps.numbers;
          collecting = ap (λ (p : Policy). p.running) policy ∙ stands.collecting ∙ ap any_collecting (sym top);
        };
      }

  pub no_line : (answer ≢ answer_of.Continue) → (answer ≢ answer_of.Gone) → ((o : ℕ) → answer ≢ answer_of.Died o) → ⊥
  no_line not_on not_gone not_died = by answer says not_on not_gone not_died
    where
      by : (a : DeathStep) → ReleaseAnswer script w below new.store (references_left after_release) a → (a ≢ answer_of.Continue) → (a ≢ answer_of.Gone) → ((o : ℕ) → a ≢ answer_of.Died o) → ⊥
      by answer_of.Continue s not_on not_gone not_died = not_on refl
      by (answer_of.Emit event) s not_on not_gone not_died = s
      by (answer_of.Frame spec) s not_on not_gone not_died = s
      by (answer_of.Died o) s not_on not_gone not_died = not_died o refl
      by answer_of.Gone s not_on not_gone not_died = not_gone refl

-- the death that a release answers has begun
pub death_begun : (script : Script) (w : World) (o : ℕ) (given new : State) → (gives : GivesDeath script w o given) → StandsFor script new (begin_death o gives.before) → GoesTo script w [] new
death_begun script w o given new gives stands = record { after = begin_death o gives.before; goes = gives.goes; moves = gives.moves; stands = stands }

-- and then the laws on deaths hold
pub still_sound : (script : Script) (w : World) (o : ℕ) (given : State) → StaysSound script w → (gives : GivesDeath script w o given) → DyingIsSound (begin_death o gives.before)
still_sound script w o given stays gives = subst DyingIsSound gives.goes.ends (stays gives.goes.steps gives.goes.run)
