-- The steps of a collection within one turn.
use Rattle.std.proofs.Common.{◌≡◌, ◌≢◌, refl, sym, ◌∙◌, ap, subst, ℕ, ◌⊎◌, Bool, false, inl, inr, List, [], ◌∷◌, ◌++◌, length, Option, None, append_assoc, append-nil, arith}
use Rattle.cg_script.specs.declared.Script.{Script}
use Rattle.cg_graph.specs.Store.{Store}
use Rattle.cg_heap.specs.Calls.{IsSound}
use Rattle.cg_machine.specs.declared.event.Event.{Event}
use Rattle.cg_machine.specs.declared.event.Event.TheVariants.{End, BudgetSpent, Left}
use Rattle.cg_machine.specs.World as machine
use Rattle.cg_machine.specs.World.{World, Outcome, Collecting}
use Rattle.cg_machine.specs.Run.{StepTaken, Run, events_of, last_world}
use Rattle.cg_represents.specs.Represents.{Goes, detects, is_detection, MakesNoDetection, MakesDetectionsAlone}
use Rattle.cg_laws.proofs.Ending.{Run-append, last_world-append}
use Rattle.cg_laws.proofs.PrefixesOfRuns.{events_of-append}
use Rattle.cg_laws.specs.Kept.{IsKept, StaysKept}
use Rattle.cg_policy.specs.Policy.{Policy}
use Rattle.cg_death.specs.Answers.{MakesNone}
use Rattle.cg_death.proofs.ObjectNumbers.{none_then}
use Rattle.cg_collect.specs.declared.answer.CollectStep.{CollectStep}
use Rattle.cg_collect.specs.declared.answer.CollectStep.TheVariants as answer_of
use Rattle.cg_collect.specs.declared.collection.Collection.{Collection}
use Rattle.cg_collect.specs.declared.phase.Phase.{Phase}
use Rattle.cg_collect.specs.declared.phase.Phase.TheVariants as phase_of
use Rattle.cg_collect.specs.declared.stage.Stage.{Stage}
use Rattle.cg_collect.specs.declared.stage.Stage.TheVariants as stage
use Rattle.cg_collect.specs.declared.stage.Detection.{Detection as Detected}
use Rattle.cg_collect.specs.Stages.{stage_of, stage_at, LeavesStage}
use Rattle.cg_collect.specs.Phases.{lines_left}
use Rattle.cg_collect.specs.Collections.{KeepsReady, CollectFalls}
use Rattle.cg_collect.specs.Answers.{CollectSteps}
use Rattle.cg_interp.specs.declared.activity.Activity.{Activity}
use Rattle.cg_interp.specs.declared.activity.Activity.TheVariants as activity
use Rattle.cg_interp.specs.declared.turned.Turned.{Turned}
use Rattle.cg_interp.specs.declared.turned.Turned.TheVariants as turned
use Rattle.cg_interp.specs.Engines.{State, under, over_both}
use Rattle.cg_interp.specs.Collecting.{Collects}
use Rattle.cg_interp.specs.Telling.{GoesOnTo, TurnsWith, Advances, IsNearer, CollectsNext, CollectTurns}
use Rattle.cg_interp.specs.Turns.{RunEndsWith, TurnKeeps}
use Rattle.cg_interp.specs.Quietly.{CollectsOn, HasNotMoved, CameSoFar, LastStep}
use Rattle.cg_interp.specs.Graphs.{detection_by}
use Rattle.cg_interp.specs.Recorded.{detection_at, next_detection}
use Rattle.cg_interp.proofs.CollectTurns.{still_collects}
use Rattle.cg_interp.proofs.CollectMoves.{MayStep, answered, may_step}
use Rattle.cg_interp.proofs.RoomStays.{still_fit}
use Rattle.cg_interp.proofs.NextDetections.{none_after, same_next}
use Rattle.cg_interp.proofs.SilentTurns.{none-append, alone, none_made, some_after}

-- If no reachability pass comes next, none is made.
undetected_phase : (g : ℕ) (phase : machine.CollectPhase) → detection_at g phase ≡ None → is_detection phase ≡ false
undetected_phase g machine.Start none = absurd (cc)
undetected_phase g machine.Split none = absurd (cc)
undetected_phase g _ none = refl

undetected : (stack : List machine.Activity) → next_detection stack ≡ None → detects stack ≡ false
undetected (Collecting c ∷ below) none = undetected_phase c.generation c.phase none
undetected _ none = refl

-- A collection on top makes none unless its stage says so.
detects_none : (script : Script) (asked : Bool) (c : Collection) (e : State) (left : List Event) (w : World) → Collects script asked c e left w
    → detection_by c.generation (stage_of c) ≡ None → detects w.stack ≡ false
detects_none script asked c e left w k none =
    undetected w.stack
    (sym (same_next script (under (activity.Collecting asked c) e) left w (inr (record { asked = asked; collection = c; rest = e.activities; top = refl; collects = k }))) ∙ none)

-- A step that leaves a collection between two passes makes none.
made_none : (g : ℕ) (phase : Phase) (detected : Option Detected) (left : Stage) → LeavesStage phase left → left ≡ stage.Between → detection_by g (stage_at phase detected) ≡ None
made_none g phase_of.Start detected left leaves is = absurd (let clash : stage.AfterFirst ≡ stage.Between = sym leaves ∙ is in cc)
made_none g phase_of.Split detected left leaves is = absurd (let clash : stage.AfterSecond ≡ stage.Between = sym leaves ∙ is in cc)
made_none g phase detected left leaves is = none_after g detected

-- Steps without a pass, and then more steps.
alone_then : (w : World) (steps more : List StepTaken) → MakesNoDetection w steps → (steps ≡ []) ⊎ (detects (last_world w steps).stack ≡ false)
    → MakesDetectionsAlone (last_world w steps) more → MakesDetectionsAlone w (steps ++ more)
alone_then w steps more none (inl nothing) by_itself = subst (λ l. MakesDetectionsAlone w (l ++ more)) (sym nothing) (subst (λ l. MakesDetectionsAlone (last_world w l) more) nothing by_itself)
alone_then w steps more none (inr next) by_itself = alone w (steps ++ more) (none-append w steps more none (none_made (last_world w steps) more by_itself next))

none_each : {X : Type 0} (xs ys : List X) → xs ++ ys ≡ [] → (xs ≡ []) × (ys ≡ [])
none_each [] ys none = (refl, none)
none_each (x ∷ xs) ys none = absurd (cc)

some_before : {X : Type 0} (x : X) (xs before more : List X) → before ≡ x ∷ xs → before ++ more ≢ []
some_before x xs before more is none = absurd (let first = (none_each before more none).0 in let clash : x ∷ xs ≡ [] = sym is ∙ first in cc)

-- nearer to its end, by several steps
falls_then : (a b c : Collection) (first mid last : Store) → CollectFalls a first b mid → CollectFalls b mid c last → CollectFalls a first c last
falls_then a b c first mid last (inl later) (inl still) = inl (omega (arith, later, still))
falls_then a b c first mid last (inl later) (inr (same, less)) = inl (omega (arith, later, same))
falls_then a b c first mid last (inr (same, less)) (inl later) = inl (omega (arith, later, same))
falls_then a b c first mid last (inr (same, less)) (inr (also, fewer)) = inr (same ∙ also, omega (arith, less, fewer))

moved_then : (a b c : Collection) (first mid last : Store) → HasNotMoved a first b mid ⊎ CollectFalls a first b mid → CollectFalls b mid c last → CollectFalls a first c last
moved_then a b c first mid last (inl (same, also)) falls = subst (λ (x : Collection). CollectFalls x first c last) (sym same) (subst (λ st. CollectFalls b st c last) (sym also) falls)
moved_then a b c first mid last (inr fell) falls = falls_then a b c first mid last fell falls

-- A property of all worlds from one on holds of those reached from it.
kept_then : (script : Script) (budget : ℕ) (w : World) (steps : List StepTaken) → Run script w steps → StaysKept script budget w → StaysKept script budget (last_world w steps)
kept_then script budget w steps run kept more next = subst (IsKept script budget) (last_world-append w steps more) (kept (steps ++ more) (Run-append script w steps more run next))

-- A collection went on, and the machine goes on from there.
module _ (script : Script) (asked : Bool) (w : World) (left : List Event) (d : Collection) (at : State) (on : CollectsOn script asked w left d at) where
  abbrev mid : World
  mid = last_world w on.steps

  abbrev still : List Event
  still = left ++ events_of on.steps

  goes_then : (events : List Event) (after : World) → Goes script mid events after → Goes script w (events_of on.steps ++ events) after
  goes_then events after goes = record {
    steps = on.steps ++ goes.steps;
    run = Run-append script w on.steps goes.steps on.run goes.run;
    prints = events_of-append on.steps goes.steps ∙ ap (λ es. events_of on.steps ++ es) goes.prints;
    ends = last_world-append w on.steps goes.steps ∙ goes.ends;
    alone = alone_then w on.steps goes.steps on.none on.next goes.alone;
  }

  -- the run ends there
  ends_then : (lines : List Event) (outcome : Outcome) → still ≡ [] → RunEndsWith script mid lines outcome → (left ≡ []) × RunEndsWith script w lines outcome
  ends_then lines outcome none ends =
      let (first, printed) = none_each left (events_of on.steps) none in
      (first, record { after = ends.after; goes = subst (λ es. Goes script w (es ++ lines) ends.after) printed (goes_then lines ends.after ends.goes); ended = ends.ended })

  module _ (c : Collection) (e new : State) (far : HasNotMoved c e.store d at.store ⊎ CollectFalls c e.store d at.store) where
    nearer_then : (activities : List Activity) → IsNearer (activity.Collecting asked d ∷ at.activities) at.store activities new.store
        → IsNearer (activity.Collecting asked c ∷ e.activities) e.store activities new.store
    nearer_then (activity.Collecting also x ∷ below) near = moved_then c d x e.store at.store new.store far near
    nearer_then _ near = tt

    advances_then : (more : List Event) → still ≡ left → Advances (under (activity.Collecting asked d) at) still new more → Advances (under (activity.Collecting asked c) e) left new more
    advances_then more same (inl fewer) = inl (omega (arith, fewer, ap length same))
    advances_then more same (inr (many, near)) = inr (omega (arith, many, ap length same), nearer_then new.activities near)

    goes_on_then : (told : List Event) → GoesOnTo script (Advances (under (activity.Collecting asked d) at) still new) mid still told new
        → GoesOnTo script (Advances (under (activity.Collecting asked c) e) left new) w left told new
    unfolding goes_then
    goes_on_then told more = record {
      events = events_of on.steps ++ more.events;
      after = more.after;
      still = more.still;
      goes = goes_then more.events more.after more.goes;
      lines = sym (append_assoc left (events_of on.steps) more.events) ∙ more.lines;
      moves = by on.steps refl more.moves;
      stands = more.stands;
    }
      where
        by : (steps : List StepTaken) → on.steps ≡ steps → (more.goes.steps ≢ []) ⊎ Advances (under (activity.Collecting asked d) at) still new more.still
            → (on.steps ++ more.goes.steps ≢ []) ⊎ Advances (under (activity.Collecting asked c) e) left new more.still
        by (step ∷ steps) is moves = inl (some_before step steps on.steps more.goes.steps is)
        by [] none (inl moves) = inl (some_after on.steps more.goes.steps moves)
        by [] none (inr rests) = inr (advances_then more.still (ap (λ l. left ++ events_of l) none ∙ append-nil left) rests)

    -- What is answered from there, is answered from here.
    turned_then : (answer : Turned) → TurnsWith script (Advances (under (activity.Collecting asked d) at) still new) mid still new answer
        → TurnsWith script (Advances (under (activity.Collecting asked c) e) left new) w left new answer
    turned_then turned.Quiet more = goes_on_then [] more
    turned_then (turned.Line event) more = goes_on_then (event ∷ []) more
    turned_then (turned.Lines events) more = goes_on_then events more
    turned_then turned.Ended (none, ends) = ends_then (End ∷ []) _ none ends
    turned_then (turned.Left n) (none, ends) = ends_then (Left n ∷ End ∷ []) _ none ends
    turned_then turned.Spent (none, ends) = ends_then (BudgetSpent ∷ []) _ none ends

-- nothing was done yet
pub came_nowhere : (script : Script) (c : Collection) (store : Store) (policy : Policy) → CameSoFar script c store policy c store policy
came_nowhere script c store policy = record {
  far = inl (refl, refl);
  objects = record { objects = omega arith; names = refl };
  goes = λ asked e w left k kept. record { steps = []; run = tt; none = tt; next = inl refl; collects = subst (λ l. Collects script asked c (over_both store policy e) l w) (sym (append-nil left)) k };
}

module _ (script : Script) (c : Collection) (store : Store) (policy : Policy) (d : Collection) (now : Store) (policy_now : Policy) (came : CameSoFar script c store policy d now policy_now) where
  came_keeps : (e : State) → TurnKeeps (over_both store policy e) (over_both now policy_now e)
  came_keeps e = record { objects = came.objects.objects; room = omega arith; names = ap length came.objects.names; first_budget = refl }

  -- so it may make the next step
  pub next_there : (asked : Bool) (e : State) → CollectsNext script asked c (over_both store policy e) → CollectsNext script asked d (over_both now policy_now e)
  next_there asked e next =
      let on = came.goes asked e next.world next.left next.collects next.kept in
      record {
        spelled = next.spelled;
        fit = (still_fit (over_both store policy e) (over_both now policy_now e) (came_keeps e)).fit script next.fit;
        world = last_world next.world on.steps;
        left = next.left ++ events_of on.steps;
        collects = on.collects;
        kept = kept_then script e.first_budget next.world on.steps on.run next.kept;
      }

  pub may_step_there : (asked : Bool) (e : State) → CollectsNext script asked c (over_both store policy e) → IsSound now → MayStep script d (over_both now policy_now e)
  may_step_there asked e next sound = may_step script asked d (over_both now policy_now e) (next_there asked e next) sound

  -- and the turn answers what it answers
  pub turns_there : (asked : Bool) (e new : State) (answer : Turned) → CollectTurns script asked d (over_both now policy_now e) new answer
      → CollectTurns script asked c (over_both store policy e) new answer
  turns_there asked e new answer turns w left k kept =
      let on = came.goes asked e w left k kept in
      turned_then script asked w left d (over_both now policy_now e) on c (over_both store policy e) new came.far answer
      (turns (last_world w on.steps) (left ++ events_of on.steps) on.collects (kept_then script e.first_budget w on.steps on.run kept))

  -- It goes on by a step without a line and without a pass.
  module _ (next : Collection) (after : Store) (policy_after : Policy) (answer : CollectStep) (is : answer ≡ answer_of.Continue)
      (steps : CollectSteps script d now policy_now next after policy_after answer) (ready : KeepsReady script next after answer)
      (leaves : LeavesStage d.phase (stage_of next)) (between : stage_of next ≡ stage.Between) where
    on_then : (asked : Bool) (e : State) (w : World) (left : List Event) → CollectsOn script asked w left d (over_both now policy_now e)
        → StaysKept script e.first_budget w → CollectsOn script asked w left next (over_both after policy_after e)
    on_then asked e w left on kept =
        let mid : World = last_world w on.steps in
        let still : List Event = left ++ events_of on.steps in
        let went = answered script asked d (over_both now policy_now e) still mid on.collects (kept on.steps on.run) next (over_both after policy_after e)
        answer_of.Continue (subst (CollectSteps script d now policy_now next after policy_after) is steps) in
        let more : List StepTaken = went.goes.steps in
        let k = still_collects script asked d (over_both now policy_now e) still mid on.collects next (over_both after policy_after e) refl refl
        (subst (KeepsReady script next after) is ready) [] went in
        let lines : left ++ events_of (on.steps ++ more) ≡ lines_left script asked next next.phase after =
        ap (λ es. left ++ es) (events_of-append on.steps more ∙ ap (λ es. events_of on.steps ++ es) went.goes.prints) ∙ sym (append_assoc left (events_of on.steps) went.events) ∙ went.lines in
        let ends : last_world w (on.steps ++ more) ≡ went.after = last_world-append w on.steps more ∙ went.goes.ends in
        record {
          steps = on.steps ++ more;
          run = Run-append script w on.steps more on.run went.goes.run;
          none = none-append w on.steps more on.none (none_made mid more went.goes.alone (detects_none script asked d (over_both now policy_now e) still mid
              on.collects (made_none d.generation d.phase d.detected (stage_of next) leaves between)));
          next = inr (ap (λ (v : World). detects v.stack) ends ∙ detects_none script asked next (over_both after policy_after e)
              (lines_left script asked next next.phase after) went.after k (ap (detection_by next.generation) between));
          collects = subst (λ v. Collects script asked next (over_both after policy_after e) (left ++ events_of (on.steps ++ more)) v) (sym ends)
              (subst (λ l. Collects script asked next (over_both after policy_after e) l went.after) (sym lines) k);
        }

    pub came_on : (answer ≡ answer_of.Continue → CollectFalls d now next after) → MakesNone now after → CameSoFar script c store policy next after policy_after
    came_on falls none = record {
      far = inr (moved_then c d next store now after came.far (falls is));
      objects = none_then store now after came.objects none;
      goes = λ asked e w left k kept. on_then asked e w left (came.goes asked e w left k kept) kept;
    }

-- The last step was made, from an engine that was unchanged before.
module _ (script : Script) (asked : Bool) (c : Collection) (e : State) (d : Collection) (mid : State) (answer : CollectStep)
    (last : LastStep script c e.store e.policy d mid.store mid.policy answer) where
  abbrev pub before_last : State
  before_last = over_both last.store_before last.policy_before e

  pub next_at_last : CollectsNext script asked c e → CollectsNext script asked last.before before_last
  next_at_last next = next_there script c e.store e.policy last.before last.store_before last.policy_before last.came asked e next

  pub turns_at_last : (new : State) (turned_to : Turned) → CollectTurns script asked last.before before_last new turned_to → CollectTurns script asked c e new turned_to
  turns_at_last new turned_to turns = turns_there script c e.store e.policy last.before last.store_before last.policy_before last.came asked e new turned_to turns
