-- Steps of the machine in sequence, and what is given up above a death.
use Rattle.std.proofs.Common.{◌≡◌, refl, sym, ◌∙◌, ap, subst, ℕ, Bool, true, false, cond, inl, inr, List, [], ◌∷◌, ◌++◌, Option, Some, None, arith}
use Rattle.std.specs.Prelude.{◌==◌, count_by, if◌then◌else◌}
use Rattle.std.proofs.lemmas.List.Sums.{sum_by-cons}
use Rattle.cg_script.specs.declared.Script.{Script}
use Rattle.cg_graph.specs.Store.{Store, count_of, waiting_for}
use Rattle.cg_graph.specs.Changes.{unheld}
use Rattle.cg_graph.proofs.Members.{either}
use Rattle.cg_machine.specs.World.{World, Activity, Releasing, Dying, Death, DyingPhase, AfterCall, Calling, with_stack}
use Rattle.cg_machine.specs.Holdings.{holdings, is_death_of}
use Rattle.cg_represents.specs.Orderly.{IsHeldInItsFramesAlone}
use Rattle.cg_machine.specs.Run.{StepOf}
use Rattle.cg_represents.specs.Represents.{detects}
use Rattle.cg_death.specs.declared.answer.DeathStep.{DeathStep}
use Rattle.cg_death.specs.declared.answer.DeathStep.TheVariants as answer_of
use Rattle.cg_death.specs.declared.phase.Phase.{Phase}
use Rattle.cg_death.specs.declared.phase.Phase.TheVariants as phase_of
use Rattle.cg_death.specs.declared.release.Release.{Release}
use Rattle.cg_death.specs.Activities.{death_of, death_activities, activities, references_left}
use Rattle.cg_death.specs.Deaths.{TakesNext}
use Rattle.cg_death.specs.Answers.{DeathStands, WentOn, ReleaseAnswer, release_answer, DeathAnswer, DeathSteps}
use Rattle.cg_death.proofs.Worlds.{steps_at, went_to, gave_frame}
use Rattle.cg_represents.proofs.Representing.{in_one, and_then, matches, represents, pushed, popped}
use Rattle.cg_death.proofs.Releases.{given_up}
use Rattle.cg_death.proofs.Turns.{here, rephased, death}

-- A step that prints nothing and changes only the stack, and then an answer. Neither it nor the next is a reachability pass of a
-- collection.
module _ (script : Script) (v : World) (before between : List Activity) (step : StepOf script (with_stack before v) before [] (with_stack between v))
    (none : detects before ≡ false) (next : detects between ≡ false) (new : Store) (stack : List Activity) where
  went : (e : List Rattle.cg_machine.specs.declared.event.Event.Event) (numbers : Rattle.cg_machine.specs.World.Numbers) → (with_stack before v).outcome
      ≡ Rattle.cg_machine.specs.World.Running → WentOn script (with_stack between v) e numbers new stack → WentOn script (with_stack before v) e numbers new
      stack
  went e numbers running a =
      went_to a.goes.after (and_then script (with_stack before v) (with_stack between v) e a.goes.after running step none next a.goes.goes) a.goes.represents a.goes.top
      (a.keeps.numbers, a.keeps.budget, a.keeps.outcome)

  pub first_then : (answer : DeathStep) → v.outcome ≡ Rattle.cg_machine.specs.World.Running → DeathAnswer script (with_stack between v) new stack answer
      → DeathAnswer script (with_stack before v) new stack answer
  first_then answer_of.Continue running a = went [] v.numbers running a
  first_then (answer_of.Emit event) running a = went (event ∷ []) _ running a
  first_then (answer_of.Frame spec) running a =
      gave_frame spec a.hands.before (and_then script (with_stack before v) (with_stack between v) _ _ running step none next a.hands.goes) a.hands.represents a.hands.top
      (a.keeps.numbers, a.keeps.budget, a.keeps.outcome)
  first_then (answer_of.Died o) running a = record {
    hands = record {
      before = a.hands.before;
      goes = and_then script (with_stack before v) (with_stack between v) [] _ running step none next a.hands.goes;
      top = a.hands.top;
      represents = a.hands.represents;
    };
    keeps = record { numbers = a.keeps.numbers; budget = a.keeps.budget; outcome = a.keeps.outcome };
  }
  first_then answer_of.Gone running a = went [] v.numbers running a

-- what a release answers, a death answers
pub of_release : (script : Script) (w : World) (below : List Activity) (new : Store) (left : List ℕ) (o : ℕ) (b : Bool)
    → ReleaseAnswer script w below new left (if b then answer_of.Died o else answer_of.Continue) → DeathAnswer script w new (Releasing left ∷ below)
    (if b then answer_of.Died o else answer_of.Continue)
of_release script w below new left o true a = a
of_release script w below new left o false a = a

-- deaths with and without a release above them
count_release : (q : ℕ) (references : List ℕ) (stack : List Activity) → count_by (is_death_of q) (Releasing references ∷ stack) ≡ count_by (is_death_of q) stack
count_release q references stack = sum_by-cons (λ (b : Activity). cond {A = ℕ} (is_death_of q b) 1 0) (Releasing references) stack ∙ omega arith

pub count_again : (q o : ℕ) (phase next : DyingPhase) (below : List Activity) → count_by (is_death_of q) (death_of o phase ∷ below) ≡ count_by (is_death_of q) (death_of o next ∷ below)
count_again q o phase next below = sum_by-cons (λ (b : Activity). cond {A = ℕ} (is_death_of q b) 1 0) (death_of o phase) below
    ∙ sym (sum_by-cons (λ (b : Activity). cond {A = ℕ} (is_death_of q b) 1 0) (death_of o next) below)

-- An empty release above a death ends.
module _ (store : Store) (v : World) (stack : List Activity) where
  pub stands-popped : DeathStands store (with_stack (Releasing [] ∷ stack) v) (Releasing [] ∷ stack) → DeathStands store (with_stack stack v) stack
  stands-popped s = record {
    represents = represents store (with_stack stack v) (popped store v [] stack (matches store (with_stack (Releasing [] ∷ stack) v) s.represents)) s.represents.outside;
    top = refl;
    running = s.running;
    unheld = λ d m. s.unheld d (inr m);
    once = λ q. let was = s.once q in omega (arith, was, count_release q [] stack);
  }

-- A death that is not over is not a collection.
pub after_pop : (script : Script) (store : Store) (tops : List Activity) (new : Store) (tops_after : List Activity) (answer : DeathStep)
    → ((below : List Activity) → detects (tops ++ below) ≡ false) → DeathSteps script store tops new tops_after answer → DeathSteps script store (Releasing []
    ∷ tops) new tops_after answer
after_pop script store tops new tops_after answer none steps =
    steps_at script store (Releasing [] ∷ tops) new tops_after answer
    (λ v below s.
    first_then script v (Releasing [] ∷ tops ++ below) (tops ++ below) (refl, refl) refl (none below) new (tops_after ++ below) answer s.running
    (steps (with_stack (tops ++ below) v) below (stands-popped store v (tops ++ below) s)))

-- Giving up a reference above a death is a step of the release.
pub gives_up_above : (script : Script) (store new : Store) (q : ℕ) (left : List ℕ) (tops : List Activity) → new ≡ unheld (q ∷ []) store
    → DeathSteps script store (Releasing (q ∷ left) ∷ tops) new (Releasing left ∷ tops) (release_answer (q ∷ []) new)
gives_up_above script store new q left tops is =
    steps_at script store (Releasing (q ∷ left) ∷ tops) new (Releasing left ∷ tops) (release_answer (q ∷ []) new)
    (λ v below s. of_release script (with_stack (Releasing (q ∷ left) ∷ tops ++ below) v) (tops ++ below) new left q (count_of new q == 0) (given_up script store v q left (tops ++ below) s new is))

-- After a callback both are given up, callback first.
module _ (script : Script) (store : Store) (o weak callback : ℕ) where
  abbrev ws : List ℕ
  ws = waiting_for store o

  stands-pushed : (v : World) (below : List Activity) → DeathStands store (here store v o (AfterCall weak callback ws) below) (death_of o (AfterCall weak callback ws) ∷ below)
      → DeathStands store (with_stack (Releasing (callback ∷ weak ∷ []) ∷ death_of o (Calling ws) ∷ below) v) (Releasing (callback ∷ weak ∷ []) ∷ death_of o (Calling ws) ∷ below)
  stands-pushed v below s = record {
    represents = represents store (with_stack (Releasing (callback ∷ weak ∷ []) ∷ death_of o (Calling ws) ∷ below) v)
        (pushed store v (callback ∷ weak ∷ []) (death_of o (Calling ws) ∷ below) (rephased store v o (AfterCall weak callback ws) below (Calling ws) refl
        (matches store (here store v o (AfterCall weak callback ws) below) s.represents)))
        s.represents.outside;
    top = refl;
    running = s.running;
    unheld = λ d m. either m (λ e. cc) (λ k. either k
        (λ e. let same : death o (Calling ws) ≡ d = cc in subst (λ (x : Death). IsHeldInItsFramesAlone x.object x.phase
        (holdings (here store v o (AfterCall weak callback ws) below))) same (s.unheld (death o (AfterCall weak callback ws)) (inl refl)))
        (λ n. s.unheld d (inr n)));
    once = λ q. let was = s.once q in omega (
      arith,
      was,
      count_again q o (AfterCall weak callback ws) (Calling ws) below,
      count_release q (callback ∷ weak ∷ []) (death_of o (Calling ws) ∷ below),
    );
  }

  pub turn-call_ended : (new : Store) (release : Release) → new ≡ unheld (callback ∷ []) store → references_left release ≡ weak ∷ []
      → DeathSteps script store (activities o (phase_of.AfterCall weak callback) None store) new (activities o phase_of.Calling (Some release) new)
      (release_answer (callback ∷ []) new)
  turn-call_ended new release is left =
      steps_at script store (death_of o (AfterCall weak callback ws) ∷ []) new (Releasing (references_left release) ∷ death_of o (Calling (waiting_for new o))
      ∷ []) (release_answer (callback ∷ []) new)
      (λ v below s.
      subst (λ l. DeathAnswer script (here store v o (AfterCall weak callback ws) below) new (Releasing l ∷ death_of o (Calling (waiting_for new o)) ∷ below)
      (release_answer (callback ∷ []) new)) (sym left)
      (subst (λ us. DeathAnswer script (here store v o (AfterCall weak callback ws) below) new (Releasing (weak ∷ []) ∷ death_of o (Calling us) ∷ below)
      (release_answer (callback ∷ []) new)) (ap (λ st. waiting_for st o) (sym is))
      (first_then script v (death_of o (AfterCall weak callback ws) ∷ below) (Releasing (callback ∷ weak ∷ []) ∷ death_of o (Calling ws) ∷ below) (refl, refl)
      refl refl new (Releasing (weak ∷ []) ∷ death_of o (Calling ws) ∷ below) (release_answer (callback ∷ []) new) s.running
      (of_release script (with_stack (Releasing (callback ∷ weak ∷ []) ∷ death_of o (Calling ws) ∷ below) v) (death_of o (Calling ws) ∷ below) new (weak ∷ []) callback (count_of new callback == 0)
      (given_up script store v callback (weak ∷ []) (death_of o (Calling ws) ∷ below) (stands-pushed v below s) new is)))))

-- Above a death, one reference is given up, or none is left.
pub step-given_up : (script : Script) (store new : Store) (o q : ℕ) (phase : Phase) (before after : Option Release) → TakesNext before (Some q) after → new ≡ unheld (q ∷ []) store
    → DeathSteps script store (activities o phase before store) new (activities o phase after new) (release_answer (q ∷ []) new)
step-given_up script store new o q phase None after takes is = absurd takes
step-given_up script store new o q phase (Some release) None takes is = absurd takes
step-given_up script store new o q phase (Some release) (Some left) takes is =
    subst (λ st. DeathSteps script store (Releasing (references_left release) ∷ death_activities o phase (waiting_for store o)) new
    (Releasing (references_left left) ∷ death_activities o phase (waiting_for st o)) (release_answer (q ∷ []) new))
    (sym is)
    (subst (λ refs. DeathSteps script store (Releasing refs ∷ death_activities o phase (waiting_for store o)) new (Releasing (references_left left)
    ∷ death_activities o phase (waiting_for store o)) (release_answer (q ∷ []) new)) (sym takes)
    (gives_up_above script store new q (references_left left) (death_activities o phase (waiting_for store o)) is))

-- One that is over has at most an empty release left, which ends.
over_popped : (script : Script) (store : Store) → DeathSteps script store (Releasing [] ∷ []) store [] answer_of.Gone
over_popped script store =
    steps_at script store (Releasing [] ∷ []) store [] answer_of.Gone
    (λ v below s. went_to (with_stack below v)
    (in_one script (with_stack (Releasing [] ∷ below) v) [] (with_stack below v) s.running (refl, refl))
    ((stands-popped store v below s).represents) refl (refl, refl, refl))

-- A turn of one that is over changes nothing.
pub record RestsIfOver (store new : Store) (phase : Phase) (tops : List Activity) (answer : DeathStep) : Type 0 where
  pub heap : phase ≡ phase_of.Over → new ≡ store
  pub nothing : phase ≡ phase_of.Over → tops ≡ []
  pub gone : phase ≡ phase_of.Over → answer ≡ answer_of.Gone

module _ (script : Script) (store new : Store) (o : ℕ) (tops : List Activity) (answer : DeathStep) where
  -- the release above it ends first
  turned_below : (phase : Phase) → RestsIfOver store new phase tops answer → DeathSteps script store (death_activities o phase (waiting_for store o)) new tops answer
      → DeathSteps script store (Releasing [] ∷ death_activities o phase (waiting_for store o)) new tops answer
  turned_below phase_of.Over rests steps =
      subst (λ st. DeathSteps script store (Releasing [] ∷ []) st tops answer) (sym (rests.heap refl))
      (subst (λ ts. DeathSteps script store (Releasing [] ∷ []) store ts answer) (sym (rests.nothing refl))
      (subst (DeathSteps script store (Releasing [] ∷ []) store []) (sym (rests.gone refl)) (over_popped script store)))
  turned_below phase rests steps = after_pop script store (death_activities o phase (waiting_for store o)) new tops answer (λ below. refl) steps

  pub step-turned : (phase : Phase) → RestsIfOver store new phase tops answer → DeathSteps script store (death_activities o phase (waiting_for store o)) new tops answer
      → (before after : Option Release) → TakesNext before None after → DeathSteps script store (activities o phase before store) new tops answer
  step-turned phase rests steps None after takes = steps
  step-turned phase rests steps (Some release) after takes = subst (λ refs. DeathSteps script store (Releasing refs ∷ death_activities o phase (waiting_for store o)) new tops answer) (sym takes)
      (turned_below phase rests steps)

pub turn-over : (script : Script) (store : Store) (o : ℕ) → DeathSteps script store (activities o phase_of.Over None store) store (activities o phase_of.Over None store) answer_of.Gone
turn-over script store o =
    steps_at script store [] store [] answer_of.Gone
    (λ v below s. went_to (with_stack below v) (record { steps = []; run = tt; prints = refl; ends = refl; alone = tt }) s.represents refl (refl, refl, refl))
