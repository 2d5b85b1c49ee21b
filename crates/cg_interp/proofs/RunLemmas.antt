-- A run of the engine, after one more turn: its steps, its text, and the number that falls.
use Rattle.std.proofs.Common.{◌≡◌, ◌≢◌, refl, sym, ◌∙◌, ap, subst, ℕ, ◌<◌, inl, List, [], ◌∷◌, ◌++◌, Option, append-nil, append_assoc}
use Rattle.std.specs.Prelude.{flat_map}
use Rattle.std.proofs.lemmas.Grind.{flat_map-append}
use Rattle.std.specs.Io.KnownBytes.{Appends}
use Rattle.cg_io.specs.Causes.{AppendsFront}
use Rattle.cg_script.specs.declared.Script.{Script}
use Rattle.cg_graph.specs.Member.{Includes}
use Rattle.cg_machine.specs.declared.event.Event.{Event}
use Rattle.cg_machine.specs.declared.event.Event.TheVariants.{End, BudgetSpent, Left}
use Rattle.cg_machine.specs.World.{World, Outcome, Running, Ended, BudgetIsSpent, opening}
use Rattle.cg_machine.specs.Run.{StepTaken, IsRun, world_after, events_of}
use Rattle.cg_machine.specs.Lines.{line, text_of, IsPrintable}
use Rattle.cg_script.specs.Spelled.{IsSpelled}
use Rattle.cg_graph.specs.Store.{Store}
use Rattle.cg_script.specs.Texts.{TextsAreKnown}
use Rattle.cg_laws.specs.Printing.{LinesArePrintable}
use Rattle.cg_laws.specs.Laws.{FrontsBeginWholeTexts}
use Rattle.cg_represents.specs.Represents.{Goes}
use Rattle.cg_graph.proofs.Members.{Includes-append_left, Includes-append_right}
use Rattle.cg_laws.proofs.InvariantOfRuns.{opening_sound}
use Rattle.cg_laws.proofs.Ending.{Run-append, last_world-append, sound_after}
use Rattle.cg_laws.proofs.PrefixesOfRuns.{events_of-append}
use Rattle.cg_laws.specs.Kept.{StaysKept, WorldsStayKept}
use Rattle.cg_interp.specs.declared.turned.Turned.{Turned}
use Rattle.cg_interp.specs.declared.turned.Turned.TheVariants as turned
use Rattle.cg_interp.specs.declared.turned.Standing.{Standing}
use Rattle.cg_interp.specs.declared.turned.Standing.TheVariants as standing
use Rattle.cg_interp.specs.Engines.{State, StandsFor}
use Rattle.cg_interp.specs.Collecting.{StandsWith}
use Rattle.cg_interp.specs.Telling.{TurnsAfter, Advances, GoesOnTo}
use Rattle.cg_interp.specs.Written.{WroteRun, WrotePart}
use Rattle.cg_interp.specs.Running.{Ran, Gathers, HasLaws, MayWrite, MayRun, MayOpen, StaysPrintable, WritesTurn, CutsTurn, events_told, standing_after}
use Rattle.cg_interp.proofs.Sizes.{IsSmall}
use Rattle.cg_interp.proofs.MeasureOfTurns.{falling, turn_falls}
use Rattle.cg_interp.specs.Turns.{RunEndsWith, IsFit}
use Rattle.cg_interp.proofs.LineByLine.{longer_front, put_behind, gathers_then, cut_then, wrote_all}

-- where no line is left, all are told
all_told : (left lines : List Event) → left ≡ [] → left ++ lines ≡ lines ++ []
all_told left lines none = ap (λ l. l ++ lines) none ∙ sym (append-nil lines)

-- A turn goes on: what it prints after the lines that were left is the answered event, and the lines that are left now.
pub record Went (script : Script) (w : World) (left waits : List Event) (answer : Turned) : Type 0 where
  pub events : List Event
  pub after : World
  pub still : List Event
  pub goes : Goes script w events after
  pub lines : left ++ events ≡ (waits ++ events_told answer) ++ still

pub went : (script : Script) (may_rest : List Event → Type 0) (w : World) (left : List Event) (e : State) (waits : List Event) (answer : Turned) → TurnsAfter script may_rest w left e waits answer
    → Went script w left waits answer
went script may_rest w left e waits (turned.Lines events) t = record { events = t.events; after = t.after; still = t.still; goes = t.goes; lines = t.lines }
went script may_rest w left e waits turned.Ended (none, t) = record { events = _; after = t.after; still = []; goes = t.goes; lines = all_told left (waits ++ End ∷ []) none }
went script may_rest w left e waits (turned.Left n) (none, t) = record { events = _; after = t.after; still = []; goes = t.goes; lines = all_told left (waits ++ Left n ∷ End ∷ []) none }
went script may_rest w left e waits turned.Spent (none, t) = record { events = _; after = t.after; still = []; goes = t.goes; lines = all_told left (waits ++ BudgetSpent ∷ []) none }
went script may_rest w left e waits _ t = record { events = t.events; after = t.after; still = t.still; goes = t.goes; lines = t.lines }

-- so its line can be printed, if all lines can
pub told_printable : (script : Script) (may_rest : List Event → Type 0) (w : World) (left : List Event) (e : State) (waits : List Event) (answer : Turned)
    → TurnsAfter script may_rest w left e waits answer → StaysPrintable script left w
    → (event : Event) → Includes (waits ++ events_told answer) event → IsPrintable script.names event
told_printable script may_rest w left e waits answer turns all event m =
    let g = went script may_rest w left e waits answer turns in
    all g.goes.steps g.goes.run event
    (subst (λ es. Includes (left ++ es) event) (sym g.goes.prints) (subst (λ es. Includes es event) (sym g.lines) (Includes-append_left (waits ++ events_told answer) g.still event m)))

-- a prefix of what a run has printed is a prefix of the text of a whole run
part_of_whole : FrontsBeginWholeTexts → (script : Script) (budget : ℕ) (steps : List StepTaken) (before now : Option (List ℕ)) → IsRun script budget steps
    → AppendsFront before now (text_of script steps)
    → WrotePart script budget before now
part_of_whole law script budget steps before now run wrote =
    let whole = law script budget steps run [] (inl refl) in
    record {
      steps = whole.steps;
      outcome = whole.outcome;
      whole = whole.run;
      written = subst (AppendsFront before now) (sym (whole.text ∙ ap (λ es. flat_map (line script.names) es ++ whole.rest) (append-nil (events_of steps))))
          (longer_front before now (text_of script steps) whole.rest wrote);
    }

-- nothing was written yet
pub ran_start : (script : Script) (budget : ℕ) (e : State) (before : Option (List ℕ)) → StandsFor script e (opening script budget) → (held : List ℕ) → held ≡ [] → Ran script budget before e before held
ran_start script budget e before stands held none = record { steps = []; told = []; left = []; run = tt; lines = refl; stands = inl (stands, refl); gathered = put_behind before [] held [] none }

-- what the laws say of a script that some bytes spell
pub has_laws : WorldsStayKept → LinesArePrintable → (script : Script) (budget : ℕ) → TextsAreKnown script → IsSpelled script → HasLaws script budget
has_laws kept printable script budget known spelled = record {
  kept = kept script budget;
  printable = λ steps run. printable script budget steps known spelled.short run;
}

-- So the engine made for a script and a budget may run.
pub may_run : WorldsStayKept → LinesArePrintable → (script : Script) (heap : Store) (budget : ℕ) → MayOpen script heap budget → (e : State)
    → StandsFor script e (opening script budget) → IsFit script e → e.first_budget ≡ budget → MayRun script e
may_run kept printable script heap budget may e stands fit first_budget = record {
  spelled = may.spelled;
  fit = fit;
  opens = subst (λ n. StandsFor script e (opening script n)) (sym first_budget) stands;
  laws = has_laws kept printable script e.first_budget may.known may.spelled;
}

-- What ran so far, and the laws.
module _ (script : Script) (budget : ℕ) (before : Option (List ℕ)) (e : State) (now : Option (List ℕ)) (held : List ℕ)
    (ran : Ran script budget before e now held) (laws : HasLaws script budget) (first_budget : e.first_budget ≡ budget) where
  -- the world after it
  abbrev pub so_far : World
  so_far = world_after script budget ran.steps

  pub kept_so_far : StaysKept script e.first_budget so_far
  kept_so_far = subst (λ n. StaysKept script n so_far) (sym first_budget) (laws.kept ran.steps ran.run)

  -- the lines of longer runs
  lines_on : (more : List StepTaken) → events_of (ran.steps ++ more) ≡ ran.told ++ (ran.left ++ events_of more)
  lines_on more = events_of-append ran.steps more ∙ ap (λ es. es ++ events_of more) ran.lines ∙ append_assoc ran.told ran.left (events_of more)

  printable_so_far : StaysPrintable script ran.left so_far
  printable_so_far more run event m =
      laws.printable (ran.steps ++ more) (Run-append script (opening script budget) ran.steps more ran.run run) event
      (subst (λ es. Includes es event) (sym (lines_on more)) (Includes-append_right ran.told (ran.left ++ events_of more) event m))

  -- so it may take a turn
  pub turn_may_be_taken : IsSpelled script → IsFit script e → MayWrite script e
  turn_may_be_taken spelled fit = record {
    at = record { spelled = spelled; fit = fit; world = so_far; left = ran.left; stands = ran.stands; kept = kept_so_far };
    printable = printable_so_far;
  }

  abbrev text : List Event → List ℕ
  text es = flat_map (line script.names) es

  -- the machine goes on, and prints some lines
  module _ (events tell still : List Event) (after : World) (goes : Goes script so_far events after) (lines : ran.left ++ events ≡ tell ++ still) where
    abbrev pub longer : List StepTaken
    longer = ran.steps ++ goes.steps

    run_longer : IsRun script budget longer
    run_longer = Run-append script (opening script budget) ran.steps goes.steps ran.run goes.run

    pub ends_longer : world_after script budget longer ≡ after
    ends_longer = last_world-append (opening script budget) ran.steps goes.steps ∙ goes.ends

    pub lines_longer : events_of longer ≡ (ran.told ++ tell) ++ still
    lines_longer = lines_on goes.steps ∙ ap (λ es. ran.told ++ (ran.left ++ es)) goes.prints ∙ ap (λ es. ran.told ++ es) lines ∙ sym (append_assoc ran.told tell still)

    told_longer : text (ran.told ++ tell) ≡ text ran.told ++ text tell
    told_longer = flat_map-append (line script.names) ran.told tell

    gathered_longer : (now' : Option (List ℕ)) (holds : List ℕ) → Gathers now now' held holds (text tell) → Gathers before now' [] holds (text (ran.told ++ tell))
    gathered_longer now' holds gathered = subst (Gathers before now' [] holds) (sym told_longer) (gathers_then before now [] held _ ran.gathered now' holds _ gathered)

    ran_longer : (e' : State) (now' : Option (List ℕ)) (holds : List ℕ) → StandsWith script e' still after → Gathers now now' held holds (text tell)
        → Ran script budget before e' now' holds
    ran_longer e' now' holds stands gathered = record {
      steps = longer;
      told = ran.told ++ tell;
      left = still;
      run = run_longer;
      lines = lines_longer;
      stands = subst (StandsWith script e' still) (sym ends_longer) stands;
      gathered = gathered_longer now' holds gathered;
    }

    ran_whole : (outcome : Outcome) (now' : Option (List ℕ)) (holds : List ℕ) → still ≡ [] → after.outcome ≡ outcome → outcome ≢ Running → holds ≡ []
        → Gathers now now' held holds (text tell) → WroteRun script budget outcome before now'
    ran_whole outcome now' holds none ended over all gathered = record {
      steps = longer;
      whole = record { run = run_longer; whole = over; ends = ap (λ (w : World). w.outcome) ends_longer ∙ ended };
      written = subst (λ es. Appends before now' (text es)) (sym (lines_longer ∙ ap (λ es. (ran.told ++ tell) ++ es) none ∙ append-nil (ran.told ++ tell)))
          (wrote_all before now' [] holds _ (gathered_longer now' holds gathered) refl all);
    }

    ran_part : FrontsBeginWholeTexts → (now' : Option (List ℕ)) → AppendsFront now now' (held ++ text tell) → WrotePart script budget before now'
    ran_part law now' wrote =
        let all : text_of script longer ≡ text (ran.told ++ tell) ++ text still = ap text lines_longer ∙ flat_map-append (line script.names) (ran.told ++ tell) still in
        let front : AppendsFront before now' (text (ran.told ++ tell)) = subst (AppendsFront before now') (sym told_longer) (cut_then before now [] held _ ran.gathered now' _ wrote) in
        part_of_whole law script budget longer before now' run_longer (subst (AppendsFront before now') (sym all) (longer_front before now' (text (ran.told ++ tell)) (text still) front))

  -- a line was cut off
  pub ran_cut : FrontsBeginWholeTexts → (e' : State) (now' : Option (List ℕ)) → ((w : World) (left : List Event) → StandsWith script e left w → StaysKept script e.first_budget w
      → CutsTurn script e w left e' now now' held) → WrotePart script budget before now'
  ran_cut law e' now' cut =
      let t = cut so_far ran.left ran.stands kept_so_far in
      let g = went script (Advances e ran.left e') so_far ran.left e' t.waits t.answer t.turns in
      ran_part g.events (t.waits ++ events_told t.answer) g.still g.after g.goes g.lines law now' t.written

  -- A turn with its lines extends the run, or ends it.
  module _ (e' : State) (now' : Option (List ℕ)) (holds : List ℕ) where
    abbrev pub Wrote : Standing → Type 0
    Wrote stands = (w : World) (left : List Event) → StandsWith script e left w → StaysKept script e.first_budget w → WritesTurn script e w left e' stands now now' held holds

    abbrev Turned_so : List Event → Turned → Type 0
    Turned_so waits answer = TurnsAfter script (Advances e ran.left e') so_far ran.left e' waits answer

    abbrev Wrote_so : List Event → Turned → Type 0
    Wrote_so waits answer = Gathers now now' held holds (text (waits ++ events_told answer))

    pub ran_on : (stands : Standing) → stands ≡ standing.Running → Wrote stands → Ran script budget before e' now' holds
    ran_on stands runs t = let h = t so_far ran.left ran.stands kept_so_far in go h.waits h.answer (h.is ∙ runs) h.turns h.gathered
      where
        on : (told : List Event) → GoesOnTo script (Advances e ran.left e') so_far ran.left told e' → Gathers now now' held holds (text told) → Ran script budget before e' now' holds
        on told g gathered = ran_longer g.events told g.still g.after g.goes g.lines e' now' holds g.stands gathered

        go : (waits : List Event) (answer : Turned) → standing_after answer ≡ standing.Running → Turned_so waits answer → Wrote_so waits answer → Ran script budget before e' now' holds
        go waits turned.Quiet is g wrote = on (waits ++ []) g wrote
        go waits (turned.Line event) is g wrote = on (waits ++ event ∷ []) g wrote
        go waits (turned.Lines events) is g wrote = on (waits ++ events) g wrote
        go waits _ is g wrote = absurd (cc)

    pub ran_to_end : (stands : Standing) → stands ≡ standing.Ended → Wrote stands → WroteRun script budget Ended before now'
    ran_to_end stands over t = let h = t so_far ran.left ran.stands kept_so_far in go (h.all (λ runs. let no = sym over ∙ runs in absurd (cc))) h.waits h.answer (h.is ∙ over) h.turns h.gathered
      where
        ends : holds ≡ [] → (lines : List Event) → ran.left ≡ [] → RunEndsWith script so_far lines Ended → Gathers now now' held holds (text lines) → WroteRun script budget Ended before now'
        ends all lines none k wrote = ran_whole lines lines [] k.after k.goes (ap (λ l. l ++ lines) none ∙ sym (append-nil lines)) Ended now' holds refl k.ended (λ n. cc) all wrote

        go : holds ≡ [] → (waits : List Event) (answer : Turned) → standing_after answer ≡ standing.Ended → Turned_so waits answer → Wrote_so waits answer → WroteRun script budget Ended before now'
        go all waits turned.Ended is g wrote = ends all (waits ++ End ∷ []) g.0 g.1 wrote
        go all waits (turned.Left n) is g wrote = ends all (waits ++ Left n ∷ End ∷ []) g.0 g.1 wrote
        go all waits _ is g wrote = absurd (cc)

    pub ran_out : (stands : Standing) → stands ≡ standing.Spent → Wrote stands → WroteRun script budget BudgetIsSpent before now'
    ran_out stands spent t = let h = t so_far ran.left ran.stands kept_so_far in go (h.all (λ runs. let no = sym spent ∙ runs in absurd (cc))) h.waits h.answer (h.is ∙ spent) h.turns h.gathered
      where
        go : holds ≡ [] → (waits : List Event) (answer : Turned) → standing_after answer ≡ standing.Spent → Turned_so waits answer → Wrote_so waits answer → WroteRun script budget BudgetIsSpent before now'
        go all waits turned.Spent is (none, ends) wrote = ran_whole (waits ++ BudgetSpent ∷ []) (waits ++ BudgetSpent ∷ []) [] ends.after ends.goes (all_told ran.left (waits ++ BudgetSpent ∷ []) none)
            BudgetIsSpent now' holds refl ends.ended (λ n. cc) all wrote
        go all waits _ is g wrote = absurd (cc)

    -- Each turn that goes on lowers the number.
    pub falls_on : (stands : Standing) → IsSmall e'.store → stands ≡ standing.Running → Wrote stands → falling script e' < falling script e
    falls_on stands small runs t = let h = t so_far ran.left ran.stands kept_so_far in go h.waits h.answer (h.is ∙ runs) h.turns
      where
        falls : (told : List Event) → GoesOnTo script (Advances e ran.left e') so_far ran.left told e' → falling script e' < falling script e
        falls told turn = turn_falls script e e' so_far ran.left told ran.stands (sound_after script (opening script budget) ran.steps (opening_sound script budget) ran.run) small turn

        go : (waits : List Event) (answer : Turned) → standing_after answer ≡ standing.Running → Turned_so waits answer → falling script e' < falling script e
        go waits turned.Quiet is g = falls (waits ++ []) g
        go waits (turned.Line event) is g = falls (waits ++ event ∷ []) g
        go waits (turned.Lines events) is g = falls (waits ++ events) g
        go waits _ is g = absurd (cc)
