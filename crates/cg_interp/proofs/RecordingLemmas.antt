-- A run whose records are written, after one more turn.
use Rattle.std.proofs.Common.{◌≡◌, ◌≢◌, refl, sym, ◌∙◌, ap, subst, ℕ, ◌<◌, Bool, true, false, cond, ◌||◌, inl, inr, List, [], ◌∷◌, ◌++◌, Option, None, Some, append_assoc, append-nil, codes}
use Rattle.std.specs.List.{list_any}
use Rattle.std.proofs.lemmas.List.Folds.{list_any-append}
use Rattle.std.proofs.KnownBytes.{Appends-trans, Appends-nil}
use Rattle.std.specs.Io.KnownBytes.{Appends}
use Rattle.cg_io.specs.Causes.{AppendsFront}
use Rattle.cg_script.specs.declared.Script.{Script}
use Rattle.cg_script.specs.Spelled.{IsSpelled}
use Rattle.cg_heap.specs.Calls.{IsListed}
use Rattle.cg_machine.specs.declared.event.Event.{Event}
use Rattle.cg_machine.specs.declared.event.Event.TheVariants.{End, BudgetSpent, Left}
use Rattle.cg_machine.specs.World.{World, Outcome, Running, Ended, BudgetIsSpent, opening}
use Rattle.cg_machine.specs.Run.{StepTaken, IsRun, IsWholeRun, world_after, last_world}
use Rattle.cg_laws.specs.Laws.{NoRunIsStuck}
use Rattle.cg_represents.specs.Represents.{Goes}
use Rattle.cg_laws.proofs.Ending.{Run-append, last_world-append, sound_after}
use Rattle.cg_records.specs.declared.graph.Graph.{Graph}
use Rattle.cg_interp.specs.declared.graphs.Detection.{Detection}
use Rattle.cg_interp.specs.declared.turned.Turned.{Turned}
use Rattle.cg_interp.specs.declared.turned.Turned.TheVariants as turned
use Rattle.cg_interp.specs.declared.turned.Standing.{Standing}
use Rattle.cg_interp.specs.declared.turned.Standing.TheVariants as standing
use Rattle.cg_interp.specs.Engines.{State, StandsFor}
use Rattle.cg_interp.specs.Collecting.{StandsWith}
use Rattle.cg_interp.specs.Telling.{TurnsAfter, Advances, GoesOnTo, IsAtAnyTurn}
use Rattle.cg_interp.specs.Turns.{RunEndsWith, IsFit}
use Rattle.cg_interp.specs.Running.{HasLaws, events_told, standing_after}
use Rattle.cg_laws.specs.Kept.{StaysKept}
use Rattle.cg_interp.specs.Graphs.{closing, text_before, text_after, unfinished_after, begins_record, begun_text, candidates_in, detection_on, taken, taken_while}
use Rattle.cg_interp.specs.Recorded.{Picture, picture, lost_at, legacy_at, RunShows, records_of, wants_memory, WroteRecords, WroteRecordsPart}
use Rattle.cg_interp.specs.Recording.{RecordsTurn, CutsRecord, RecordedSo, told_after, recorded_next, text_of_turn, picture_text, text_if_taken, text_so_far, unfinished_so_far}
use Rattle.cg_interp.proofs.LineByLine.{after_front, put_behind, dropped}
use Rattle.cg_interp.proofs.RunLemmas.{ends_longer, lines_longer, kept_so_far}
use Rattle.cg_interp.proofs.RecordText.{text_to_end, all_written, unfinished-append, text_so_far-append, front_of_all}
use Rattle.cg_interp.proofs.ShownGraphs.{shows-append, some_shown, shows_first, graph_by}
use Rattle.cg_interp.proofs.TurnGraphs.{TurnShows, shown_on, shown_end, taken_or_not, graph_with, begun_front}
use Rattle.cg_interp.proofs.WorldGraphs.{all_candidates}
use Rattle.cg_interp.proofs.NextDetections.{AtDetection, at_detection, same_next}
use Rattle.cg_interp.proofs.Sizes.{IsSmall}
use Rattle.cg_interp.proofs.MeasureOfTurns.{falling, turn_falls}
use Rattle.cg_laws.proofs.InvariantOfRuns.{opening_sound}

-- nothing was recorded yet
pub recorded_start : (script : Script) (budget : ℕ) (e : State) (before : Option (List ℕ)) → StandsFor script e (opening script budget) → RecordedSo script budget before e false before
recorded_start script budget e before stands = record {
  ran = record {
    steps = [];
    told = [];
    left = [];
    run = tt;
    lines = refl;
    stands = inl (stands, refl);
    gathered = put_behind None [] [] [] refl;
  };
  pictures = [];
  shows = refl;
  unrefused = refl;
  is = refl;
  written = Appends-nil before;
}

-- the answer of a turn with the state of the run
told_some : (b : Bool) (s t : Standing) → cond b None (Some s) ≡ Some t → (b ≡ false) × (s ≡ t)
told_some true s t e = absurd (cc)
told_some false s t e = (refl, (let f : s ≡ t = cc in f))

both_false : (a b : Bool) → a ≡ false → b ≡ false → (a || b) ≡ false
both_false a b e f = rw (e, f) refl

module _ (law : NoRunIsStuck) (script : Script) (budget : ℕ) (before now : Option (List ℕ)) where
  -- A prefix of what is written from a run on is a prefix of the records of a whole run.
  pub part_of_records : (steps : List StepTaken) (ps : List Picture) (more : List ℕ) → IsRun script budget steps → RunShows script (opening script budget) steps
      ps → AppendsFront before now (text_so_far false ps ++ more)
      → ((others : List StepTaken) (outcome : Outcome) → IsWholeRun script budget outcome (steps ++ others) → (qs : List Picture) × (rest : List ℕ)
      × RunShows script (last_world (opening script budget) steps) others qs × (text_to_end (unfinished_so_far false ps) qs ≡ more ++ rest))
      → WroteRecordsPart script budget before now
  part_of_records steps ps more run shows wrote on =
      let whole = law script budget steps run in
      let (qs, rest, then, is) = on whole.0 whole.1 whole.2 in
      record {
        steps = steps ++ whole.0;
        outcome = whole.1;
        whole = whole.2;
        records = records_of (ps ++ qs);
        has = record { pictures = ps ++ qs; shows = shows-append script (opening script budget) steps whole.0 ps qs shows then; are = refl };
        written = front_of_all before now ps qs more rest wrote is;
      }

  -- what was written so far
  pub part_so_far : (steps : List StepTaken) (ps : List Picture) → IsRun script budget steps → RunShows script (opening script budget) steps ps
      → AppendsFront before now (text_so_far false ps) → WroteRecordsPart script budget before now
  part_so_far steps ps run shows wrote =
      part_of_records steps ps [] run shows (subst (AppendsFront before now) (sym (append-nil (text_so_far false ps))) wrote)
      (λ others outcome whole. let some = some_shown script (last_world (opening script budget) steps) others in (some.0, text_to_end (unfinished_so_far false ps) some.0, some.1, refl))

-- some bytes are a prefix of themselves
all_front : (a b : Option (List ℕ)) (bs : List ℕ) → Appends a b bs → AppendsFront a b bs
all_front a b bs wrote = record { front = bs; rest = []; whole = sym (append-nil bs); appended = wrote }

-- where nothing was written
pub nothing_recorded : NoRunIsStuck → (script : Script) (budget : ℕ) (before now : Option (List ℕ)) → Appends before now [] → WroteRecordsPart script budget before now
nothing_recorded law script budget before now kept = part_so_far law script budget before now [] [] tt refl (all_front before now [] kept)

-- the answer of a turn, by whether a command was refused
pub told_none : (b : Bool) (s : Standing) → b ≡ true → None ≡ cond b None (Some s)
told_none b s e = ap (λ k. cond k None (Some s)) (sym e)

pub told_known : (b : Bool) (s t : Standing) → b ≡ false → t ≡ s → Some t ≡ cond b None (Some s)
told_known b s t e same = ap Some same ∙ ap (λ k. cond k None (Some s)) (sym e)

-- a turn, with what was written before and after it
module _ (script : Script) (old : State) (unfinished : Bool) (w : World) (l : List Event) (e : State) (before mid now : Option (List ℕ)) (d : Option Detection)
    (is : d ≡ recorded_next unfinished old) (waits : List Event) (answer : Turned)
    (turns : TurnsAfter script (Advances old l e) w l e waits answer) (begun : Appends before mid (text_before script old.store unfinished d)) where
  pub records_turn : (then : Bool) (told : Option Standing) → told ≡ told_after waits answer → then ≡ unfinished_after unfinished d
      → Appends mid now (text_after e.store d) → RecordsTurn script old unfinished w l e then told before now
  records_turn then told tells still found = record {
    waits = waits;
    answer = answer;
    is = tells;
    turns = turns;
    still = still ∙ ap (unfinished_after unfinished) is;
    written = subst (λ k. Appends before now (text_of_turn script old.store e.store unfinished k)) is (Appends-trans before mid now _ _ begun found);
  }

  pub cuts_findings : AppendsFront mid now (text_after e.store d) → CutsRecord script old unfinished w l e before now
  cuts_findings part = inr (record {
    waits = waits;
    answer = answer;
    turns = turns;
    written = subst (λ k. AppendsFront before now (text_of_turn script old.store e.store unfinished k)) is (after_front before mid now _ _ begun part);
  })

-- the same in every world that the engine represents
pub cuts_all : (script : Script) (old : State) (unfinished : Bool) (e : State) (before mid now : Option (List ℕ)) (d : Option Detection) → d ≡ recorded_next unfinished old → (waits : List Event) (answer : Turned)
    → ((w : World) (l : List Event) → StandsWith script old l w → StaysKept script old.first_budget w → TurnsAfter script (Advances old l e) w l e waits answer)
    → Appends before mid (text_before script old.store unfinished d) → AppendsFront mid now (text_after e.store d)
    → (w : World) (l : List Event) → StandsWith script old l w → StaysKept script old.first_budget w → CutsRecord script old unfinished w l e before now
cuts_all script old unfinished e before mid now d is waits answer turns begun part w l stands kept = cuts_findings script old unfinished w l e before mid now d is waits answer (turns w l stands kept) begun part

-- What was recorded so far, and the laws.
module _ (law : NoRunIsStuck) (script : Script) (budget : ℕ) (before : Option (List ℕ)) (e : State) (unfinished : Bool) (now : Option (List ℕ))
    (so : RecordedSo script budget before e unfinished now) (laws : HasLaws script budget) (first_budget : e.first_budget ≡ budget) where
  abbrev so_far : World
  so_far = world_after script budget so.ran.steps

  abbrev left : List Event
  left = so.ran.left

  abbrev kept : StaysKept script e.first_budget so_far
  kept = kept_so_far script budget None e None [] so.ran laws first_budget

  -- so it may take a turn
  pub turn_may_be_recorded : IsSpelled script → IsFit script e → IsAtAnyTurn script e
  turn_may_be_recorded spelled fit = record { spelled = spelled; fit = fit; world = so_far; left = left; stands = so.ran.stands; kept = kept }

  -- the machine goes on, and this is shown
  module _ (e' : State) (now' : Option (List ℕ)) (events : List Event) (after : World) (goes : Goes script so_far events after) (t : TurnShows script so_far goes.steps e e' unfinished) where
    abbrev pictures : List Picture
    pictures = so.pictures ++ t.pictures

    abbrev longer : List StepTaken
    longer = so.ran.steps ++ goes.steps

    runs_longer : IsRun script budget longer
    runs_longer = Run-append script (opening script budget) so.ran.steps goes.steps so.ran.run goes.run

    shows_longer : RunShows script (opening script budget) longer pictures
    shows_longer = shows-append script (opening script budget) so.ran.steps goes.steps so.pictures t.pictures so.shows t.shows

    text_longer : text_so_far false pictures ≡ text_so_far false so.pictures ++ text_of_turn script e.store e'.store unfinished (recorded_next unfinished e)
    text_longer = text_so_far-append false so.pictures t.pictures ∙ ap (λ u. text_so_far false so.pictures ++ text_so_far u t.pictures) (sym so.is)
        ∙ ap (λ x. text_so_far false so.pictures ++ x) (sym t.text)

    still_longer : (then : Bool) → then ≡ unfinished_after unfinished (recorded_next unfinished e) → then ≡ unfinished_so_far false pictures
    still_longer then is = is ∙ t.still ∙ ap (λ u. unfinished_so_far u t.pictures) so.is ∙ sym (unfinished-append false so.pictures t.pictures)

    wrote_longer : Appends now now' (text_of_turn script e.store e'.store unfinished (recorded_next unfinished e)) → Appends before now' (text_so_far false pictures)
    wrote_longer wrote = subst (Appends before now') (sym text_longer) (Appends-trans before now now' _ _ so.written wrote)

    -- a prefix of its records was written
    cut_longer : AppendsFront now now' (text_of_turn script e.store e'.store unfinished (recorded_next unfinished e)) → WroteRecordsPart script budget before now'
    cut_longer wrote = part_so_far law script budget before now' longer pictures runs_longer shows_longer (subst (AppendsFront before now') (sym text_longer)
        (after_front before now now' _ _ so.written wrote))

    -- the run goes on
    so_longer : (tell still : List Event) → left ++ events ≡ tell ++ still → StandsWith script e' still after → list_any wants_memory tell ≡ false
        → (then : Bool) → then ≡ unfinished_after unfinished (recorded_next unfinished e)
        → Appends now now' (text_of_turn script e.store e'.store unfinished (recorded_next unfinished e)) → RecordedSo script budget before e' then now'
    so_longer tell still lines stands none then is wrote = record {
      ran = record {
        steps = longer;
        told = so.ran.told ++ tell;
        left = still;
        run = runs_longer;
        lines = lines_longer script budget None e None [] so.ran laws first_budget events tell still after goes lines;
        stands = subst (StandsWith script e' still) (sym (ends_longer script budget None e None [] so.ran laws first_budget events tell still after goes lines)) stands;
        gathered = dropped _;
      };
      pictures = pictures;
      shows = shows_longer;
      unrefused = list_any-append wants_memory so.ran.told tell ∙ both_false (list_any wants_memory so.ran.told) (list_any wants_memory tell) so.unrefused none;
      is = still_longer then is;
      written = wrote_longer wrote;
    }

    -- or it has ended, and the end of the records is written
    whole_longer : (lines : List Event) (outcome : Outcome) → left ≡ [] → events ≡ lines → after.outcome ≡ outcome → outcome ≢ Running
        → list_any wants_memory lines ≡ false → (then : Bool) → then ≡ unfinished_after unfinished (recorded_next unfinished e)
        → Appends now now' (text_of_turn script e.store e'.store unfinished (recorded_next unfinished e)) → (now'' : Option (List ℕ))
        → Appends now' now'' (closing then ++ codes "end\n") → WroteRecords script budget outcome before now''
    whole_longer lines outcome none told ended over unrefused then is wrote now'' end = record {
      steps = longer;
      whole = record { run = runs_longer; whole = over; ends = ap (λ (v : World). v.outcome) (last_world-append (opening script budget) so.ran.steps goes.steps ∙ goes.ends) ∙ ended };
      unrefused =
          ap (list_any wants_memory) (lines_longer script budget None e None [] so.ran laws first_budget events lines [] after goes (ap (λ l. l ++ events) none
          ∙ told ∙ sym (append-nil lines)) ∙ append-nil (so.ran.told ++ lines))
          ∙ list_any-append wants_memory so.ran.told lines
          ∙ both_false (list_any wants_memory so.ran.told) (list_any wants_memory lines) so.unrefused unrefused;
      records = records_of pictures;
      has = record { pictures = pictures; shows = shows_longer; are = refl };
      written = subst (Appends before now'') (sym (all_written pictures ∙ ap (λ u. text_so_far false pictures ++ (closing u ++ codes "end\n"))
          (sym (still_longer then is)))) (Appends-trans before now' now'' _ _ (wrote_longer wrote) end);
    }

    -- or only a prefix of that end
    end_longer : (then : Bool) → then ≡ unfinished_after unfinished (recorded_next unfinished e)
        → Appends now now' (text_of_turn script e.store e'.store unfinished (recorded_next unfinished e)) → (now'' : Option (List ℕ)) → after.outcome ≢ Running
        → AppendsFront now' now'' (closing then ++ codes "end\n") → WroteRecordsPart script budget before now''
    end_longer then is wrote now'' over end = record {
      steps = longer;
      outcome = after.outcome;
      whole = record { run = runs_longer; whole = over; ends = ap (λ (v : World). v.outcome) (last_world-append (opening script budget) so.ran.steps goes.steps ∙ goes.ends) };
      records = records_of pictures;
      has = record { pictures = pictures; shows = shows_longer; are = refl };
      written = subst (AppendsFront before now'') (sym (all_written pictures ∙ ap (λ u. text_so_far false pictures ++ (closing u ++ codes "end\n"))
          (sym (still_longer then is)))) (after_front before now' now'' _ _ (wrote_longer wrote) end);
    }

  -- the world runs
  runs : so_far.outcome ≡ Running
  runs = by so.ran.stands
    where
      by : StandsWith script e left so_far → so_far.outcome ≡ Running
      by (inl s) = s.0.running
      by (inr t) = t.collects.running

  -- Where it was cut off before the turn, the machine makes the pass next, in some way.
  module _ (now' : Option (List ℕ)) (listed : IsListed e.store) where
    nothing_more : AppendsFront before now' (text_so_far false so.pictures ++ []) → WroteRecordsPart script budget before now'
    nothing_more wrote = part_so_far law script budget before now' so.ran.steps so.pictures so.ran.run so.shows (subst (AppendsFront before now') (append-nil (text_so_far false so.pictures)) wrote)

    abbrev Begun : Option Detection → Type 0
    Begun d = AppendsFront before now' (text_so_far false so.pictures ++ text_before script e.store unfinished d)

    graph_cut : (d : Detection) → detection_on e.activities ≡ Some d → taken_while unfinished d ≡ Some d → Begun (Some d) → WroteRecordsPart script budget before now'
    graph_cut d next is wrote = part_of_records law script budget before now' so.ran.steps so.pictures (begun_text script e.store unfinished d) so.ran.run so.shows wrote on
      where
        at : AtDetection e d left so_far
        at = at_detection script e left so_far d so.ran.stands next

        on : (others : List StepTaken) (outcome : Outcome) → IsWholeRun script budget outcome (so.ran.steps ++ others)
            → (qs : List Picture) × (rest : List ℕ) × RunShows script so_far others qs × (text_to_end (unfinished_so_far false so.pictures) qs ≡ begun_text script e.store unfinished d ++ rest)
        on [] outcome whole =
            absurd (whole.whole (sym whole.ends ∙ ap (λ (l : List StepTaken). (world_after script budget l).outcome) (append-nil so.ran.steps) ∙ runs))
        on (step ∷ more) outcome whole =
            let g : Graph = graph_with script e.store so_far unfinished listed at.represents (lost_at d step.world) (legacy_at d step.world) d in
            let later = some_shown script step.world more in
            let front = begun_front script e.store so_far unfinished listed at.represents (lost_at d step.world) (legacy_at d step.world) d in
            let tail : List ℕ = text_so_far (begins_record d) later.0 ++ (closing (unfinished_so_far (begins_record d) later.0) ++ codes "end\n") in (
              picture d g ∷ later.0,
              front.0 ++ tail,
              shows_first script so_far step more d (sym (same_next script e left so_far so.ran.stands) ∙ next) g (graph_by script d so_far step.world
                  (candidates_in e.store d) (all_candidates script d e.store so_far listed at.represents)) later.0 later.1,
              ap (λ u. text_to_end u (picture d g ∷ later.0)) (sym so.is)
                  ∙ ap (λ (o : Option Detection). (text_if_taken unfinished o g ++ text_so_far (begins_record d) later.0)
                  ++ (closing (unfinished_so_far (begins_record d) later.0) ++ codes "end\n")) is
                  ∙ append_assoc (picture_text unfinished d g) (text_so_far (begins_record d) later.0) (closing (unfinished_so_far (begins_record d) later.0) ++ codes "end\n")
                  ∙ ap (λ t. t ++ tail) front.1
                  ∙ append_assoc (begun_text script e.store unfinished d) front.0 tail,
            )

    cut_before : AppendsFront now now' (text_before script e.store unfinished (recorded_next unfinished e)) → WroteRecordsPart script budget before now'
    cut_before wrote = by (detection_on e.activities) refl (after_front before now now' _ _ so.written wrote)
      where
        by : (o : Option Detection) → detection_on e.activities ≡ o → Begun (taken unfinished (detection_on e.activities)) → WroteRecordsPart script budget before now'
        by None next begun = nothing_more (subst (λ (k : Option Detection). Begun (taken unfinished k)) next begun)
        by (Some d) next begun =
            let here : Begun (taken_while unfinished d) = subst (λ (k : Option Detection). Begun (taken unfinished k)) next begun in
            elim (taken_or_not unfinished d) [
              | inl none ↦ nothing_more (subst Begun none here)
              | inr is ↦ graph_cut d next is (subst Begun is here)
            ]

  -- A recorded turn extends what was recorded, or ends it.
  module _ (e' : State) (then : Bool) (now' : Option (List ℕ)) (listed : IsListed e.store) (listed' : IsListed e'.store) where
    abbrev pub Recorded : Option Standing → Type 0
    Recorded told = (w : World) (l : List Event) → StandsWith script e l w → StaysKept script e.first_budget w → RecordsTurn script e unfinished w l e' then told now now'

    abbrev Still : Type 0
    Still = then ≡ unfinished_after unfinished (recorded_next unfinished e)

    abbrev Wrote : Type 0
    Wrote = Appends now now' (text_of_turn script e.store e'.store unfinished (recorded_next unfinished e))

    abbrev Turned_so : List Event → Turned → Type 0
    Turned_so waits answer = TurnsAfter script (Advances e left e') so_far left e' waits answer

    here : (told : Option Standing) → Recorded told → RecordsTurn script e unfinished so_far left e' then told now now'
    here told t = t so_far left so.ran.stands kept

    on_shown : (told : List Event) (g : GoesOnTo script (Advances e left e') so_far left told e') → TurnShows script so_far g.goes.steps e e' unfinished
    on_shown told g = shown_on script e e' unfinished left so_far so.ran.stands listed told g listed'

    end_shown : (lines : List Event) (outcome : Outcome) → outcome ≢ Running → (k : RunEndsWith script so_far lines outcome) → TurnShows script so_far k.goes.steps e e' unfinished
    end_shown lines outcome over k = shown_end script e e' unfinished left so_far so.ran.stands listed lines outcome k runs over

    pub recorded_on : (told : Option Standing) → told ≡ Some standing.Running → Recorded told → RecordedSo script budget before e' then now'
    recorded_on told is t =
        let h = here told t in
        let (none, stands) = told_some (list_any wants_memory (h.waits ++ events_told h.answer)) (standing_after h.answer) standing.Running (sym h.is ∙ is) in
        go h.waits h.answer stands none h.turns h.still h.written
      where
        on : (tell : List Event) → list_any wants_memory tell ≡ false → GoesOnTo script (Advances e left e') so_far left tell e' → Still → Wrote → RecordedSo script budget before e' then now'
        on tell none g still wrote = so_longer e' now' g.events g.after g.goes (on_shown tell g) tell g.still g.lines g.stands none then still wrote

        go : (waits : List Event) (answer : Turned) → standing_after answer ≡ standing.Running → list_any wants_memory (waits ++ events_told answer) ≡ false → Turned_so waits answer → Still → Wrote
            → RecordedSo script budget before e' then now'
        go waits turned.Quiet s none g still wrote = on (waits ++ []) none g still wrote
        go waits (turned.Line event) s none g still wrote = on (waits ++ event ∷ []) none g still wrote
        go waits (turned.Lines events) s none g still wrote = on (waits ++ events) none g still wrote
        go waits _ s none g still wrote = absurd (cc)

    -- the run has ended, and the end of the records is written
    module _ (now'' : Option (List ℕ)) (end : Appends now' now'' (closing then ++ codes "end\n")) where
      ends : (lines : List Event) (outcome : Outcome) → outcome ≢ Running → list_any wants_memory lines ≡ false → left ≡ [] → RunEndsWith script so_far lines
          outcome → Still → Wrote → WroteRecords script budget outcome before now''
      ends lines outcome over unrefused none k still wrote = whole_longer e' now' lines k.after k.goes (end_shown lines outcome over k) lines outcome none refl
          k.ended over unrefused then still wrote now'' end

      pub recorded_to_end : (told : Option Standing) → told ≡ Some standing.Ended → Recorded told → WroteRecords script budget Ended before now''
      recorded_to_end told is t = let h = here told t in go h.waits h.answer (told_some _ _ _ (sym h.is ∙ is)).1 (told_some _ _ _ (sym h.is ∙ is)).0 h.turns h.still h.written
        where
          go : (waits : List Event) (answer : Turned) → standing_after answer ≡ standing.Ended → list_any wants_memory (waits ++ events_told answer) ≡ false → Turned_so waits answer → Still → Wrote → WroteRecords script budget Ended before now''
          go waits turned.Ended s unrefused (none, k) still wrote = ends (waits ++ End ∷ []) Ended (λ n. cc) unrefused none k still wrote
          go waits (turned.Left n) s unrefused (none, k) still wrote = ends (waits ++ Left n ∷ End ∷ []) Ended (λ m. cc) unrefused none k still wrote
          go waits _ s unrefused g still wrote = absurd (cc)

      pub recorded_out : (told : Option Standing) → told ≡ Some standing.Spent → Recorded told → WroteRecords script budget BudgetIsSpent before now''
      recorded_out told is t = let h = here told t in go h.waits h.answer (told_some _ _ _ (sym h.is ∙ is)).1 (told_some _ _ _ (sym h.is ∙ is)).0 h.turns h.still h.written
        where
          go : (waits : List Event) (answer : Turned) → standing_after answer ≡ standing.Spent → list_any wants_memory (waits ++ events_told answer) ≡ false → Turned_so waits answer → Still → Wrote → WroteRecords script budget BudgetIsSpent before now''
          go waits turned.Spent s unrefused (none, k) still wrote = ends (waits ++ BudgetSpent ∷ []) BudgetIsSpent (λ n. cc) unrefused none k still wrote
          go waits _ s unrefused g still wrote = absurd (cc)

    -- or a prefix of it
    pub recorded_end_cut : (told : Option Standing) (s : Standing) → told ≡ Some s → s ≢ standing.Running → Recorded told → (now'' : Option (List ℕ))
        → AppendsFront now' now'' (closing then ++ codes "end\n") → WroteRecordsPart script budget before now''
    recorded_end_cut told s is over t now'' end = let h = here told t in go h.waits h.answer ((told_some _ _ _ (sym h.is ∙ is)).1) h.turns h.still h.written
      where
        ends : (lines : List Event) (outcome : Outcome) → outcome ≢ Running → RunEndsWith script so_far lines outcome → Still → Wrote → WroteRecordsPart script budget before now''
        ends lines outcome ended k still wrote = end_longer e' now' lines k.after k.goes (end_shown lines outcome ended k) then still wrote now'' (λ r. ended (sym k.ended ∙ r)) end

        go : (waits : List Event) (answer : Turned) → standing_after answer ≡ s → Turned_so waits answer → Still → Wrote → WroteRecordsPart script budget before now''
        go waits turned.Ended e (none, k) still wrote = ends (waits ++ End ∷ []) Ended (λ n. cc) k still wrote
        go waits (turned.Left n) e (none, k) still wrote = ends (waits ++ Left n ∷ End ∷ []) Ended (λ m. cc) k still wrote
        go waits turned.Spent e (none, k) still wrote = ends (waits ++ BudgetSpent ∷ []) BudgetIsSpent (λ n. cc) k still wrote
        go waits _ e g still wrote = absurd (over (sym e))

    -- a prefix of any turn's records
    turned_cut : (waits : List Event) (answer : Turned) → Turned_so waits answer → AppendsFront now now' (text_of_turn script e.store e'.store unfinished (recorded_next unfinished e))
        → WroteRecordsPart script budget before now'
    turned_cut waits turned.Quiet g wrote = cut_longer e' now' g.events g.after g.goes (on_shown (waits ++ []) g) wrote
    turned_cut waits (turned.Line event) g wrote = cut_longer e' now' g.events g.after g.goes (on_shown (waits ++ event ∷ []) g) wrote
    turned_cut waits (turned.Lines events) g wrote = cut_longer e' now' g.events g.after g.goes (on_shown (waits ++ events) g) wrote
    turned_cut waits turned.Ended (none, k) wrote = cut_longer e' now' (waits ++ End ∷ []) k.after k.goes (end_shown (waits ++ End ∷ []) Ended (λ n. cc) k) wrote
    turned_cut waits (turned.Left n) (none, k) wrote = cut_longer e' now' (waits ++ Left n ∷ End ∷ []) k.after k.goes (end_shown (waits ++ Left n ∷ End ∷ []) Ended (λ m. cc) k) wrote
    turned_cut waits turned.Spent (none, k) wrote = cut_longer e' now' (waits ++ BudgetSpent ∷ []) k.after k.goes (end_shown (waits ++ BudgetSpent ∷ []) BudgetIsSpent (λ n. cc) k) wrote

    -- a command was refused for memory
    pub recorded_refused : (told : Option Standing) → Recorded told → WroteRecordsPart script budget before now'
    recorded_refused told t = let h = here told t in turned_cut h.waits h.answer h.turns (all_front now now' _ h.written)

    -- a line was cut off
    pub recorded_cut : ((w : World) (l : List Event) → StandsWith script e l w → StaysKept script e.first_budget w → CutsRecord script e unfinished w l e' now
        now') → WroteRecordsPart script budget before now'
    recorded_cut cut = by (cut so_far left so.ran.stands kept)
      where
        by : CutsRecord script e unfinished so_far left e' now now' → WroteRecordsPart script budget before now'
        by (inl wrote) = cut_before now' listed wrote
        by (inr t) = turned_cut t.waits t.answer t.turns t.written

    -- Each turn that goes on lowers the number.
    pub recorded_falls : (told : Option Standing) → IsSmall e'.store → told ≡ Some standing.Running → Recorded told → falling script e' < falling script e
    recorded_falls told small is t = let h = here told t in go h.waits h.answer ((told_some _ _ _ (sym h.is ∙ is)).1) h.turns
      where
        falls : (tell : List Event) → GoesOnTo script (Advances e left e') so_far left tell e' → falling script e' < falling script e
        falls tell turn = turn_falls script e e' so_far left tell so.ran.stands (sound_after script (opening script budget) so.ran.steps (opening_sound script budget) so.ran.run) small turn

        go : (waits : List Event) (answer : Turned) → standing_after answer ≡ standing.Running → Turned_so waits answer → falling script e' < falling script e
        go waits turned.Quiet s g = falls (waits ++ []) g
        go waits (turned.Line event) s g = falls (waits ++ event ∷ []) g
        go waits (turned.Lines events) s g = falls (waits ++ events) g
        go waits _ s g = absurd (cc)
