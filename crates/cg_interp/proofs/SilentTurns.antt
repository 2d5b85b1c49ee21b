-- Going on without a line and without a reachability pass: in sequence, and what follows.
use Rattle.std.proofs.Common.{◌≡◌, ◌≢◌, refl, sym, ◌∙◌, ap, subst, ℕ, false, inl, List, [], ◌∷◌, ◌++◌, append-nil, append_assoc}
use Rattle.cg_graph.proofs.Members.{either}
use Rattle.cg_script.specs.declared.Script.{Script}
use Rattle.cg_machine.specs.declared.event.Event.{Event}
use Rattle.cg_machine.specs.declared.event.Event.TheVariants.{End, BudgetSpent, Left}
use Rattle.cg_machine.specs.World.{World, Outcome, Running}
use Rattle.cg_machine.specs.Run.{StepTaken, StepOf, Run, events_of, last_world}
use Rattle.cg_machine.specs.Frame.{begin_death}
use Rattle.cg_represents.specs.Represents.{Goes, detects, MakesNoDetection, MakesDetectionsAlone}
use Rattle.cg_laws.proofs.Ending.{Run-append, last_world-append}
use Rattle.cg_laws.proofs.PrefixesOfRuns.{events_of-append}
use Rattle.cg_laws.specs.Kept.{IsKept, StaysKept}
use Rattle.cg_interp.specs.declared.activity.Activity.{Activity}
use Rattle.cg_interp.specs.declared.turned.Turned.{Turned}
use Rattle.cg_interp.specs.declared.turned.Turned.TheVariants as turned
use Rattle.cg_interp.specs.Engines.{State, StandsFor, under}
use Rattle.cg_interp.specs.Turns.{GoesTo, GivesDeath, RunEndsWith, Turns, StaysFit}
use Rattle.cg_interp.specs.Telling.{GoesOnTo, TurnsWith, TurnsAfter, IsAtTurn, TurnsFrom, TurnsBy}
use Rattle.cg_interp.specs.Quietly.{GoesPlainly, GoesQuietly, ComesTelling, ComesBy, ComesFrom, TellsBy}

pub none-append : (w : World) (steps more : List StepTaken) → MakesNoDetection w steps → MakesNoDetection (last_world w steps) more → MakesNoDetection w (steps ++ more)
none-append w [] more none later = later
none-append w (step ∷ steps) more none later = (none.0, none-append step.world steps more none.1 later)

-- each pass is alone if there is none
pub alone : (w : World) (steps : List StepTaken) → MakesNoDetection w steps → MakesDetectionsAlone w steps
alone w (step ∷ next ∷ steps) none = none
alone w _ none = tt

-- there is none if the first step makes none
pub none_made : (w : World) (steps : List StepTaken) → MakesDetectionsAlone w steps → detects w.stack ≡ false → MakesNoDetection w steps
none_made w [] by_itself first = tt
none_made w (step ∷ []) by_itself first = (first, tt)
none_made w (step ∷ next ∷ steps) by_itself first = by_itself

-- at least one step
pub some_after : {X : Type 0} (xs ys : List X) → ys ≢ [] → xs ++ ys ≢ []
some_after [] ys some none = some none
some_after (x ∷ xs) ys some none = cc

module _ (script : Script) where
  -- no step
  pub stays : (w : World) → GoesQuietly script w w
  stays w = record { steps = []; run = tt; prints = refl; ends = refl; none = tt }

  pub quietly : {events : List Event} (w after : World) → detects w.stack ≡ false → Goes script w events after → GoesPlainly script w events after
  quietly w after first goes = record { steps = goes.steps; run = goes.run; prints = goes.prints; ends = goes.ends; none = none_made w goes.steps goes.alone first }

  -- a step comes first
  pub first_then : (w mid after : World) (events : List Event) → w.outcome ≡ Running → detects w.stack ≡ false → StepOf script w w.stack events mid
      → GoesQuietly script mid after → Goes script w events after
  first_then w mid after events running first step goes = record {
    steps = record { events = events; world = mid } ∷ goes.steps;
    run = (record { running = running; step = step }, goes.run);
    prints = ap (λ es. events ++ es) goes.prints ∙ append-nil events;
    ends = goes.ends;
    alone = alone w (record { events = events; world = mid } ∷ goes.steps) (first, goes.none);
  }

  pub first_moves : (w mid after : World) (events : List Event) (running : w.outcome ≡ Running) (first : detects w.stack ≡ false)
      (step : StepOf script w w.stack events mid) (goes : GoesQuietly script mid after)
      → (first_then w mid after events running first step goes).steps ≢ []
  unfolding first_then
  first_moves w mid after events running first step goes none = cc

  -- The machine has gone on from one world to another.
  module _ {before : List Event} (w mid : World) (goes : GoesPlainly script w before mid) where
    run_on : (more : List StepTaken) → Run script mid more → Run script w (goes.steps ++ more)
    run_on more run = Run-append script w goes.steps more goes.run (subst (λ v. Run script v more) (sym goes.ends) run)

    ends_on : (more : List StepTaken) → last_world w (goes.steps ++ more) ≡ last_world mid more
    ends_on more = last_world-append w goes.steps more ∙ ap (λ v. last_world v more) goes.ends

    lines_on : (more : List StepTaken) (events : List Event) → events_of more ≡ events → events_of (goes.steps ++ more) ≡ before ++ events
    lines_on more events is = events_of-append goes.steps more ∙ ap (λ es. es ++ events_of more) goes.prints ∙ ap (λ es. before ++ es) is

    none_on : (more : List StepTaken) → MakesNoDetection mid more → MakesNoDetection w (goes.steps ++ more)
    none_on more none = none-append w goes.steps more goes.none (subst (λ v. MakesNoDetection v more) (sym goes.ends) none)

    -- it goes on without a pass
    pub then : {events : List Event} (after : World) → GoesPlainly script mid events after → GoesPlainly script w (before ++ events) after
    then {events} after next = record {
      steps = goes.steps ++ next.steps;
      run = run_on next.steps next.run;
      prints = lines_on next.steps events next.prints;
      ends = ends_on next.steps ∙ next.ends;
      none = none_on next.steps next.none;
    }

    pub comes_then : {events : List Event} (e : State) → ComesTelling script mid events e → ComesTelling script w (before ++ events) e
    comes_then e next = record { after = next.after; goes = then next.after next.goes; stands = next.stands }

    -- what holds of all worlds reached from there
    pub stays_so : (P : World → Type 0) → ((steps : List StepTaken) → Run script w steps → P (last_world w steps)) → (more : List StepTaken) → Run script mid more → P (last_world mid more)
    stays_so P all more run = subst P (ends_on more) (all (goes.steps ++ more) (run_on more run))

    -- or in any way, from a world that makes no pass next
    module _ (next : detects mid.stack ≡ false) where
      pub goes_then : (events : List Event) (after : World) → Goes script mid events after → Goes script w (before ++ events) after
      goes_then events after more = record {
        steps = goes.steps ++ more.steps;
        run = run_on more.steps more.run;
        prints = lines_on more.steps events more.prints;
        ends = ends_on more.steps ∙ more.ends;
        alone = alone w (goes.steps ++ more.steps) (none_on more.steps (none_made mid more.steps more.alone next));
      }

      pub moves_then : (events : List Event) (after : World) (more : Goes script mid events after) → more.steps ≢ [] → (goes_then events after more).steps ≢ []
      unfolding goes_then
      moves_then events after more moves = some_after goes.steps more.steps moves

      goes_on_then : (told : List Event) (e : State) → GoesOnTo script (λ still. ⊥) mid [] told e → GoesOnTo script (λ still. ⊥) w [] (before ++ told) e
      goes_on_then told e more = record {
        events = before ++ more.events;
        after = more.after;
        still = more.still;
        goes = goes_then more.events more.after more.goes;
        lines = ap (λ es. before ++ es) more.lines ∙ sym (append_assoc before told more.still);
        moves = inl (moves_then more.events more.after more.goes (either more.moves (λ moves. moves) (λ rests. absurd rests)));
        stands = more.stands;
      }

      ends_then : (lines : List Event) (outcome : Outcome) → RunEndsWith script mid lines outcome → RunEndsWith script w (before ++ lines) outcome
      ends_then lines outcome more = record { after = more.after; goes = goes_then lines more.after more.goes; ended = more.ended }

      -- what a turn answers from there, it answers from here, after the lines so far
      pub turns_then : (e : State) (answer : Turned) → TurnsWith script (λ still. ⊥) mid [] e answer → TurnsAfter script (λ still. ⊥) w [] e before answer
      turns_then e turned.Quiet turns = goes_on_then [] e turns
      turns_then e (turned.Line event) turns = goes_on_then (event ∷ []) e turns
      turns_then e (turned.Lines events) turns = goes_on_then events e turns
      turns_then e turned.Ended (none, ends) = (none, ends_then (End ∷ []) _ ends)
      turns_then e (turned.Left n) (none, ends) = (none, ends_then (Left n ∷ End ∷ []) _ ends)
      turns_then e turned.Spent (none, ends) = (none, ends_then (BudgetSpent ∷ []) _ ends)

  -- or without a line
  module _ (w mid : World) (goes : GoesQuietly script w mid) (next : detects mid.stack ≡ false) where
    pub goes_to_then : (events : List Event) (e : State) → GoesTo script mid events e → GoesTo script w events e
    goes_to_then events e more = record { after = more.after; goes = goes_then w mid goes next events more.after more.goes; moves = moves_then w mid goes next events more.after more.goes more.moves; stands = more.stands }

    pub gives_death_then : (o : ℕ) (e : State) → GivesDeath script mid o e → GivesDeath script w o e
    gives_death_then o e more = record {
      before = more.before;
      goes = goes_then w mid goes next [] (begin_death o more.before) more.goes;
      moves = moves_then w mid goes next [] (begin_death o more.before) more.goes more.moves;
      stands = more.stands;
    }

    pub plain_turns_then : (e : State) (answer : Turned) → Turns script mid e answer → Turns script w e answer
    plain_turns_then e turned.Quiet turns = goes_to_then [] e turns
    plain_turns_then e (turned.Line event) turns = goes_to_then (event ∷ []) e turns
    plain_turns_then e (turned.Lines events) turns = goes_to_then events e turns
    plain_turns_then e turned.Ended ends = ends_then w mid goes next (End ∷ []) _ ends
    plain_turns_then e (turned.Left n) ends = ends_then w mid goes next (Left n ∷ End ∷ []) _ ends
    plain_turns_then e turned.Spent ends = ends_then w mid goes next (BudgetSpent ∷ []) _ ends

  -- nothing was done yet
  pub comes_here : (top : Activity) (e : State) → ComesFrom script top e top e
  comes_here top e w stands kept = record { after = w; goes = stays w; stands = stands }

  -- what is told after something quiet
  pub tells_from_then : (top mid_top : Activity) (old mid : State) (comes : ComesFrom script top old mid_top mid) (fit : StaysFit old mid) (waits now : List Event) (new_top : Activity) (new : State)
      → TellsBy script waits now mid_top mid new_top new → TellsBy script waits now top old new_top new
  tells_from_then top mid_top old mid comes fit waits now new_top new next w stands kept =
      let come = comes w stands kept in
      let stays = subst (λ n. StaysKept script n come.after) (sym fit.first_budget) (stays_so w come.after come.goes (IsKept script old.first_budget) kept) in
      let (lines, is, more) = next come.after come.stands stays in
      (lines, is, comes_then w come.after come.goes (under new_top new) more)

  -- The top activity is replaced in an engine that stays fit.
  module _ {before : List Event} (top mid_top : Activity) (old mid : State) (comes : ComesBy script before top old mid_top mid) (fit : StaysFit old mid) where
    kept_then : (w : World) (stands : StandsFor script (under top old) w) (kept : StaysKept script old.first_budget w) → StaysKept script mid.first_budget (comes w stands kept).after
    kept_then w stands kept =
        let come = comes w stands kept in
        subst (λ n. StaysKept script n come.after) (sym fit.first_budget) (stays_so w come.after come.goes (IsKept script old.first_budget) kept)

    pub at_turn_then : IsAtTurn script top old → IsAtTurn script mid_top mid
    at_turn_then at =
        let come = comes at.world at.stands at.kept in
        record { spelled = at.spelled; fit = fit.fit script at.fit; world = come.after; stands = come.stands; kept = kept_then at.world at.stands at.kept }

    pub comes_from_then : {more : List Event} (new_top : Activity) (new : State) → ComesBy script more mid_top mid new_top new → ComesBy script (before ++ more) top old new_top new
    comes_from_then new_top new next w stands kept =
        let come = comes w stands kept in
        comes_then w come.after come.goes (under new_top new) (next come.after come.stands (kept_then w stands kept))

    pub tells_then : (now : List Event) (new_top : Activity) (new : State) → TellsBy script before now mid_top mid new_top new → ComesBy script now top old new_top new
    tells_then now new_top new next w stands kept =
        let come = comes w stands kept in
        let (lines, is, more) = next come.after come.stands (kept_then w stands kept) in
        subst (λ es. ComesTelling script w es (under new_top new)) (sym is) (comes_then w come.after come.goes (under new_top new) more)

    pub turns_from_then : ((w : World) → StandsFor script (under mid_top mid) w → detects w.stack ≡ false) → (new : State) (answer : Turned)
        → TurnsFrom script mid_top mid new answer → TurnsBy script before top old new answer
    turns_from_then plain new answer turns w stands kept =
        let come = comes w stands kept in
        turns_then w come.after come.goes (plain come.after come.stands) new answer (turns come.after come.stands (kept_then w stands kept))
