-- A final set stays sealed until its collection stops.
use Rattle.std.proofs.Common.{◌≡◌, refl, sym, ◌∙◌, ap, subst, ℕ, ◌+◌, ◌<◌, Bool, true, false, cond, not, ◌&&◌, inl, inr, List, [], ◌∷◌, ◌++◌, map, length, Option, Some, None, arith}
use Rattle.std.specs.Prelude.{if◌then◌else◌, count_by, filter, option_map, unwrap_or}
use Rattle.std.specs.List.{list_any}
use Rattle.std.proofs.lemmas.List.Sums.{sum_by-append, sum_by-cons}
use Rattle.cg_value.specs.declared.Place.TheVariants.{Legacy}
use Rattle.cg_script.specs.declared.Script.{Script}
use Rattle.cg_script.specs.declared.Command.{Command}
use Rattle.cg_graph.specs.Member.{Includes}
use Rattle.cg_graph.specs.Value.{references}
use Rattle.cg_graph.specs.Object.{Object, entries_of, is_at, object_at, serials, serials_at}
use Rattle.cg_graph.proofs.Members.{either, true_and, Includes-append_cases, Includes-map_cases, Includes-filter_cases}
use Rattle.cg_machine.specs.declared.event.Event.{Event}
use Rattle.cg_machine.specs.declared.event.Event.TheVariants.{Collected, End, GcSaved, GcStop, GcUncollectable, Refused}
use Rattle.cg_machine.specs.declared.event.FrameSort.{FrameSort}
use Rattle.cg_machine.specs.declared.event.FrameSort.TheVariants.{Del, Call as CallFrame}
use Rattle.cg_machine.specs.World.{World, Activity, TopLevel, Framed, Releasing, Dying, Collecting, Collection, CollectPhase, Turns, Turn, AfterTurn, Ending, Ended, push, ShuttingDown}
use Rattle.cg_machine.specs.Holdings.{call_holds, is_collecting, is_collection, is_death_of}
use Rattle.cg_machine.specs.Frame.{procedure_of}
use Rattle.cg_machine.specs.Effects.{Calls, Changes}
use Rattle.cg_machine.specs.Due.{due, due_generation, is_due}
use Rattle.cg_machine.specs.Collect.{EndStep, PhaseStep, collection_at, has_flag, is_saved, lines_if, save_all, uncollectable}
use Rattle.cg_machine.specs.Run.{Run, Step, StepTaken, events_of, last_world}
use Rattle.cg_laws.specs.Laws.{HoldsNot, IsNoLocal, IsSealed, function_and_cells, is_stop, locals_of, named}
use Rattle.cg_laws.proofs.CommandRefs.{option_free}
use Rattle.cg_represents.proofs.Lists.{found_at}
use Rattle.cg_represents.proofs.Shapes.{StartsFrame}
use Rattle.cg_laws.proofs.ShapeLaws.{changes_leave}
use Rattle.cg_laws.proofs.Invariants.{AreAnswers, CommandSteps, FromFrame, FromTop, HasCommands, Steps, Takes, any_step, emptied, on, del_shaped, AreLast}
use Rattle.cg_represents.proofs.Serials.{Rises}
use Rattle.cg_represents.proofs.Places.{place_is}
use Rattle.cg_promises.proofs.FinalSet.{all_same, Clears, Fits, IsLate, NotAfter, Passes, Sealed, TellsOut, comes_excused, goes_sealed, loosen, none_out, one_out, one_still, push_sealed, starts_sealed, turn_sealed, TellsStill}
use Rattle.cg_promises.proofs.FinalSetDeaths.{dying_sealed, frame_end_sealed, late_sealed, released_sealed}
use Rattle.cg_promises.proofs.FinalSetCommands.{Opens, shape_opens}
use Rattle.cg_laws.proofs.LinesNameLive.{same_lives}
use Rattle.cg_promises.proofs.FinalizerOnceRuns.{Fit, step_fit}
use Rattle.cg_script.specs.declared.Command.TheVariants.{Del}
use Rattle.cg_laws.proofs.InvariantOfRuns.{HasBottom}

-- no collection is due while one is under way
due_none : (w : World) → is_collecting w ≡ true → due w ≡ None
due_none w e = go (is_due w.numbers) (is_collecting w) e
  where
    go : (is t : Bool) → t ≡ true → (if is && not t then Some (due_generation w.numbers) else None) ≡ None
    go true false k = let no : true ≡ false = sym k in absurd (cc)
    go b t k = refl

-- the lines at the end of a collection name no condemned object
module _ (script : Script) (members : List ℕ) (c : Collection) (below : List Activity) (v : World) (stack : List Activity) (h : Sealed script members v.objects v.names stack v.next_serial) where
  aside_out : (test : Object → Bool) → ((x : Object) → test x ≡ true → x.place ≡ Legacy) → (n : ℕ) → Includes (serials (filter test v.objects)) n → ¬ Includes members n
  aside_out test aside n m k =
      let x = Includes-map_cases (λ (z : Object). z.serial) (filter test v.objects) n m in
      let f = Includes-filter_cases test v.objects x.0 x.1 in
      (h.inside x.0 f.0 (subst (Includes members) (sym x.2) k)).not_aside (aside x.0 f.1)

  each_out : (line : ℕ → Event) (ns : List ℕ) → ((n k : ℕ) → Includes (named (line n)) k → n ≡ k) → ((n : ℕ) → Includes ns n → ¬ Includes members n) → TellsOut members (map line ns)
  each_out line ns names out event m n i k =
      let s = Includes-map_cases line ns event m in
      absurd (out s.0 s.1 (subst (Includes members) (sym (names s.0 n (subst (λ e. Includes (named e) n) (sym s.2) i))) k))

  both_out : (xs ys : List Event) → TellsOut members xs → TellsOut members ys → TellsOut members (xs ++ ys)
  both_out xs ys p q event m = either (Includes-append_cases xs ys event m) (p event) (q event)

  if_out : (b : Bool) (lines : List Event) → TellsOut members lines → TellsOut members (lines_if b lines)
  if_out true lines p = p
  if_out false lines p = (none_out members).0

  one_name : (n k : ℕ) → Includes (n ∷ []) k → n ≡ k
  one_name n k (inl e) = e
  one_name n k (inr none) = absurd none

  end_out : (events : List Event) (after : World) → EndStep script c below (collection_at c Ending below v) events after → TellsOut members events
  end_out events after step = subst (TellsOut members) (sym step.lines)
      (both_out (lines_if (has_flag c.flags uncollectable) (map GcUncollectable step.told) ++ map GcSaved step.keeps)
      (GcStop c.generation c.collected (length step.told) ∷ lines_if c.asked (Collected (c.collected + length step.told) ∷ []))
      (both_out (lines_if (has_flag c.flags uncollectable) (map GcUncollectable step.told)) (map GcSaved step.keeps)
      (if_out (has_flag c.flags uncollectable) (map GcUncollectable step.told) (each_out GcUncollectable step.told one_name
      (λ n m. aside_out (is_at Legacy) (λ x t. place_is x.place Legacy t) n (same_lives step.told (serials_at v.objects Legacy) step.told_order n m))))
      (each_out GcSaved step.keeps one_name (λ n m. aside_out (is_saved script c) (λ x t. place_is x.place Legacy (true_and (is_at Legacy x) _ t).0) n
      (same_lives step.keeps (serials (filter (is_saved script c) v.objects)) step.keeps_order n m))))
      (both_out (GcStop c.generation c.collected (length step.told) ∷ []) (lines_if c.asked (Collected (c.collected + length step.told) ∷ []))
      (one_out members (GcStop c.generation c.collected (length step.told)) (λ n m. absurd m))
      (if_out c.asked (Collected (c.collected + length step.told) ∷ []) (one_out members (Collected (c.collected + length step.told)) (λ n m. absurd m)))))

pub stops : (front : List Event) (g m n : ℕ) (back : List Event) (events : List Event) → events ≡ front ++ GcStop g m n ∷ back → count_by is_stop events ≡ 0 → ⊥
stops front g m n back events e none =
    let all : count_by is_stop (front ++ GcStop g m n ∷ back) ≡ count_by is_stop front + count_by is_stop (GcStop g m n ∷ back) =
    sum_by-append (λ x. cond (is_stop x) 1 0) front (GcStop g m n ∷ back) in
    let one : count_by is_stop (GcStop g m n ∷ back) ≡ 1 + count_by is_stop back = sum_by-cons (λ x. cond (is_stop x) 1 0) (GcStop g m n) back in
    let zero_now : count_by is_stop (front ++ GcStop g m n ∷ back) ≡ 0 = ap (count_by is_stop) (sym e) ∙ none in
    omega (arith, all, one, zero_now)

-- any step: its lines; the members stay sealed unless the collection stops; and only its end stops it
pub record Keeping (script : Script) (members : List ℕ) (stack : List Activity) (events : List Event) (after : World) : Type 0 where
  pub lines : TellsOut members events
  pub sealed : count_by is_stop events ≡ 0 → Sealed script members after.objects after.names after.stack after.next_serial
  pub ends : 0 < count_by is_stop events → (c : Collection) × (below : List Activity) × (stack ≡ Collecting c ∷ below) × (c.phase ≡ Ending)

pub none_stops : (events : List Event) → ((event : Event) → Includes events event → is_stop event ≡ false) → count_by is_stop events ≡ 0
none_stops [] h = refl
none_stops (event ∷ events) h =
    let one : count_by is_stop (event ∷ events) ≡ cond (is_stop event) 1 0 + count_by is_stop events = sum_by-cons (λ x. cond (is_stop x) 1 0) event events in
    let no : ◌≡◌ {A = ℕ} (cond (is_stop event) 1 0) 0 = ap (λ b. cond b 1 0) (h event (inl refl)) in
    let rest = none_stops events (λ e m. h e (inr m)) in
    omega (arith, one, no, rest)

passes : (script : Script) (members : List ℕ) (stack : List Activity) (events : List Event) (after : World) → Passes script members events after → Keeping script members stack events after
passes script members stack events after p = record { lines = p.lines.0; sealed = λ e. p.sealed; ends = λ more. let none = none_stops events p.lines.1 in absurd (omega (arith, more, none)) }

collect_keeps : (script : Script) (members : List ℕ) (c : Collection) (below : List Activity) (v : World) → Rises 1 v.next_serial v.objects
    → has_flag c.flags save_all ≡ false → (phase : CollectPhase) (events : List Event) (after : World) → IsLate phase
    → PhaseStep script c phase below (collection_at c phase below v) events after → Sealed script members v.objects v.names
    (Collecting (record c { phase = phase }) ∷ below) v.next_serial → Keeping script members (Collecting (record c { phase = phase }) ∷ below) events after
collect_keeps script members c below v rises clears Turns events after late step h = passes script members (Collecting (record c { phase = Turns }) ∷ below)
    events after (late_sealed script members c below v rises clears Turns events after late (λ e. cc) step h)
collect_keeps script members c below v rises clears (Turn o) events after late step h = passes script members (Collecting (record c { phase = Turn o }) ∷ below)
    events after (late_sealed script members c below v rises clears (Turn o) events after late (λ e. cc) step h)
collect_keeps script members c below v rises clears (AfterTurn o) events after late step h =
    passes script members (Collecting (record c { phase = AfterTurn o }) ∷ below) events after (late_sealed script members c below v rises clears (AfterTurn o)
    events after late (λ e. cc) step h)
collect_keeps script members c below v rises clears Ending events after late step h = record {
  lines = end_out script members c below v (Collecting (record c { phase = Ending }) ∷ below) h events after step;
  sealed = λ none. absurd (stops _ c.generation c.collected (length step.told) _ events step.lines none);
  ends = λ more. (record c { phase = Ending }, below, refl, refl);
}
collect_keeps script members c below v rises clears phase events after late step h = absurd late

abbrev pub IsSealedWorld : Script → List ℕ → World → Type 0
IsSealedWorld script members w = Sealed script members w.objects w.names w.stack w.next_serial

module _ (script : Script) (members : List ℕ) where
  abbrev StepKeeps : World → List Event → World → Type 0
  StepKeeps w events after = Keeping script members w.stack events after

  answers_out : (lines : List Event) → AreAnswers lines → TellsStill members lines
  answers_out [] k = none_out members
  answers_out (Refused n ∷ []) k = one_still members (Refused n) refl (λ o m. absurd m)
  answers_out (Collected n ∷ []) k = one_still members (Collected n) refl (λ o m. absurd m)
  answers_out lines k = absurd k

  module _ (below : List Activity) (v : World) where
    abbrev SealedOn : Activity → Type 0
    SealedOn a = Sealed script members v.objects v.names (a ∷ below) v.next_serial

    turned : (a b : Activity) → Fits members b → is_collection a ≡ false → is_collection b ≡ false → ((n : ℕ) → is_death_of n a ≡ is_death_of n b) → SealedOn a → SealedOn b
    turned a b fits none also same h = turn_sealed script members a b below (all_same members v.objects) fits none also (λ n m. same n) h

    emptied_sealed : (a : Activity) → HasCommands a → SealedOn a → SealedOn (emptied a)
    emptied_sealed (TopLevel commands) ha h = turned (TopLevel commands) (TopLevel []) tt refl refl (λ n. refl) h
    emptied_sealed (Framed f) ha h = turned (Framed f) (Framed (record f { commands = [] })) (h.stack_fits (Framed f) (inl refl)) refl refl (λ n. refl) h
    emptied_sealed (ShuttingDown started) ha h = h
    emptied_sealed a ha h = absurd ha

    taken_sealed : (command : Command) (a b : Activity) → Takes command a b → SealedOn a → SealedOn b
    taken_sealed command a b (FromTop commands) h = turned (TopLevel (command ∷ commands)) (TopLevel commands) tt refl refl (λ n. refl) h
    taken_sealed command a b (FromFrame f commands left) h = turned (Framed f) (Framed (record f { commands = commands })) (h.stack_fits (Framed f) (inl refl)) refl refl (λ n. refl) h

    module _ (b : Activity) (a : Activity) (ha : HasCommands a) (h : SealedOn a) where
      abbrev now : World
      now = on a below v

      opened : (lines : List Event) (given : List ℕ) (next : World) → next.stack ≡ a ∷ below → Opens script members now h lines next → Passes script members lines (push (Releasing given) next)
      opened lines given next same o = record {
        sealed = push_sealed script members (Releasing given) tt refl
            (goes_sealed script members (a ∷ below) next.stack o.next
            (λ y m. loosen members v.objects v.next_serial y (o.comes y m)) o.names
            (λ b m. h.stack_fits b (subst (λ st. Includes st b) same m)) (subst (λ st. list_any is_collection st ≡ true) (sym same) h.collecting) (λ k. subst (Clears members) (sym same) k)
            (comes_excused script members v.objects next.objects v.names (a ∷ below) next.stack v.next_serial o.comes (λ n w. subst (λ st. NotAfter st n)
            (sym same) w) (λ n m e. subst (λ st. list_any (is_death_of n) st ≡ true) (sym same) e) h) h);
        lines = o.told;
      }

      keeps : (events : List Event) (after : World) → Passes script members events after → Keeping script members (b ∷ below) events after
      keeps events after p = passes script members (b ∷ below) events after p

      command_keeps : (command : Command) → CommandSteps script StepKeeps (on b below v) command now a below
      command_keeps command = record {
        stays = λ lines answers. keeps lines now (record { sealed = h; lines = answers_out lines answers });
        stops = λ lines answers. keeps lines (on (emptied a) below v) (record { sealed = emptied_sealed a ha h; lines = answers_out lines answers });
        changes = λ wants_memory lines given_up after shape. keeps lines (push (Releasing given_up) after)
            (opened lines given_up after (changes_leave now command wants_memory lines given_up after shape).stack (shape_opens script members now h command
            (Changes wants_memory lines given_up after) shape));
        calls = λ f k. let out = shape_opens script members now h command (Calls f.serial) (StartsFrame f k) in
            keeps _ _ (starts_sealed script members (record { sort = CallFrame; proc = procedure_of now f.serial; subject = f.serial; func = Some f.serial })
            now out (λ g e. let s : f.serial ≡ g = cc in subst (λ n. ¬ Includes members n) s out) h);
        asks = λ g low e. absurd (let no : true ≡ false = sym h.collecting ∙ e in cc);
      }

  -- the lines of the last step
  last_out : (w : World) (a : Activity) (lines : List Event) → AreLast w a lines → TellsStill members lines
  last_out w (TopLevel []) lines e = subst (TellsStill members) (sym e) (one_still members End refl (λ n m. absurd m))
  last_out w (ShuttingDown true) lines e = subst (TellsStill members) (sym e) (
    λ event m n k. either m (λ i. absurd (subst (λ (x : Event). Includes (named x) n) (sym i) k)) (λ i. (one_still members End refl (λ o p. absurd p)).0 event i n k),
    λ event m. either m (λ i. ap is_stop (sym i)) (λ i. (one_still members End refl (λ o p. absurd p)).1 event i),
  )
  last_out w a lines e = absurd e

  keeps_sealed : Steps script (λ w. (Rises 1 w.next_serial w.objects × HasBottom w.stack) × IsSealedWorld script members w) StepKeeps
  keeps_sealed = record {
    starts_due = λ a below v ha g e k. absurd (let no : Some g ≡ None = sym e ∙ due_none (on a below v) k.1.collecting in cc);
    ends = λ a lines below v last k. passes script members (a ∷ below) lines (record (on a below v) { outcome = Ended }) (record { sealed = k.1; lines = last_out (on a below v) a lines last });
    shuts_down = λ below v k. passes script members (TopLevel [] ∷ below) [] (on (ShuttingDown false) below v)
        (record { sealed = turned below v (TopLevel []) (ShuttingDown false) tt refl refl (λ n. refl) k.1; lines = none_out members });
    gives_up = λ name below v e k. (command_keeps below v (ShuttingDown false) (ShuttingDown false) tt k.1 (Del name)).changes false [] _ _ (del_shaped (on (ShuttingDown false) below v) name);
    collects_last = λ below v k. absurd (let no : true ≡ false = sym k.1.collecting ∙ ap (list_any is_collection) k.0.1 in cc);
    commands = λ command a b below v takes hb k. command_keeps below v a b hb (taken_sealed below v command a b takes k.1) command;
    frame_ends = λ f below v left k. passes script members (Framed f ∷ below) _ _ (frame_end_sealed script members f below v k.1);
    releases = λ references below v k. passes script members (Releasing references ∷ below) _ _ (released_sealed script members references below v k.1);
    dies = λ d below v k. passes script members (Dying d ∷ below) _ _ (dying_sealed script members d.object below v k.0.0 d.phase k.1);
    collects = λ c below v events after step k. let fits = k.1.stack_fits (Collecting c) (inl refl) in collect_keeps script members c below v k.0.0 fits.1 c.phase events after fits.0 step k.1;
  }

-- neither the first steps of a run nor the others stop
pub none_first : (xs ys : List Event) → count_by is_stop (xs ++ ys) ≡ 0 → (count_by is_stop xs ≡ 0) × (count_by is_stop ys ≡ 0)
none_first xs ys e = let all : count_by is_stop (xs ++ ys) ≡ count_by is_stop xs + count_by is_stop ys = sum_by-append (λ x. cond (is_stop x) 1 0) xs ys
    in (omega (arith, all, e), omega (arith, all, e))

module _ (script : Script) (members : List ℕ) where
  pub step_keeps_on : (w : World) (events : List Event) (after : World) → Step script w events after → Fit script w → IsSealedWorld script members w → Keeping script members w.stack events after
  step_keeps_on w events after step fit h = any_step script (λ u. (Rises 1 u.next_serial u.objects × HasBottom u.stack) × IsSealedWorld script members u)
      (StepKeeps script members) (keeps_sealed script members) w events after step ((fit.sound.rises, fit.sound.bottom), h)

  pub sealed_after : (w : World) (steps : List StepTaken) → Run script w steps → Fit script w → count_by is_stop (events_of steps) ≡ 0
      → IsSealedWorld script members w → IsSealedWorld script members (last_world w steps) × TellsOut members (events_of steps)
  sealed_after w [] run fit none h = (h, (none_out members).0)
  sealed_after w (step ∷ steps) run fit none h =
      let both = none_first step.events (events_of steps) none in
      let keeps = step_keeps_on w step.events step.world run.0 fit h in
      let rest = sealed_after step.world steps run.1 (step_fit script w step.events step.world run.0 fit) both.1 (keeps.sealed both.0) in
      (rest.0, λ event m. either (Includes-append_cases step.events (events_of steps) event m) (keeps.lines event) (rest.1 event))

  -- what the law says of a living member
  module _ (w : World) (h : IsSealedWorld script members w) (x : Object) (m : Includes w.objects x) (k : Includes members x.serial) where
    holds_not : (a : Activity) → Fits members a → HoldsNot x.serial a
    holds_not (Framed frame) f = by_sort frame.sort
      where
        by_sort : (sort : FrameSort) → ¬ Includes (call_holds sort frame.function) x.serial
        by_sort CallFrame = option_free frame.function x.serial (λ e. f.1 x.serial e k)
        by_sort sort = λ n. n
    holds_not (Dying d) f = λ i. f x.serial i k
    holds_not a f = tt

    cells_not : (g : ℕ) → (¬ Includes members g) → ¬ Includes (references (entries_of w.objects g)) x.serial
    cells_not g out = go (object_at w.objects g) refl
      where
        go : (r : Option Object) → object_at w.objects g ≡ r → ¬ Includes (references (unwrap_or (option_map (λ (z : Object). z.entries) r) [])) x.serial
        go None e = λ n. n
        go (Some z) e = λ i. let f = found_at w.objects g z e in out (subst (Includes members) f.1 (h.entries z f.0 x.serial k i))

    no_local : (a : Activity) → Fits members a → IsNoLocal w.objects x.serial a
    no_local (Framed frame) f = not_there
      where
        cells : (function : Option ℕ) → ((g : ℕ) → function ≡ Some g → ¬ Includes members g) → ¬ Includes (function_and_cells w.objects function) x.serial
        cells None out = λ n. n
        cells (Some g) out = λ i. either i (λ e. out g refl (subst (Includes members) (sym e) k)) (cells_not g (out g refl))

        not_there : ¬ Includes (locals_of w.objects frame) x.serial
        not_there i = either i (λ e. f.0 (subst (Includes members) (sym e) k)) (cells frame.function f.1)
    no_local a f = tt

    pub is_sealed : IsSealed script members w x
    is_sealed = let done = h.inside x m k in record {
      no_name = h.unnamed x.serial k;
      no_root = λ e. let low = h.above x.serial k in omega (arith, low, e);
      no_hold = λ a i. holds_not a (h.stack_fits a i);
      entries_inside = λ y i r. h.entries y i x.serial k r;
      no_referent = λ y i. h.referents y i x.serial k;
      refers_to_none = done.refers_to_none;
      finalizer_has_run = done.ran;
      no_legacy = done.no_legacy;
      no_local = λ a i. no_local a (h.stack_fits a i);
    }
