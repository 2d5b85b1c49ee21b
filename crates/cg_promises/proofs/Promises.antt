-- A finalizer that has run never begins again, and a freed object is never named again.
use Rattle.std.proofs.Common.{◌≡◌, refl, sym, ◌∙◌, ap, subst, ℕ, ◌+◌, ◌<◌, ◌≤◌, Bool, true, false, cond, inl, inr, ◌⊎◌, List, [], ◌∷◌, ◌++◌, arith}
use Rattle.std.specs.Prelude.{◌==◌, count_by}
use Rattle.std.proofs.lemmas.Bool.{eqb-true}
use Rattle.std.proofs.lemmas.List.Sums.{sum_by-append, sum_by-cons}
use Rattle.cg_script.specs.declared.Script.{Script}
use Rattle.cg_graph.specs.Member.{Includes}
use Rattle.cg_graph.specs.Object.{Object, serials}
use Rattle.cg_graph.proofs.Members.{either, Includes-append_cases, Includes-append_right, Includes-map, Includes-map_cases}
use Rattle.cg_machine.specs.declared.event.Event.{Event}
use Rattle.cg_machine.specs.declared.event.Event.TheVariants.{Enter, Free}
use Rattle.cg_machine.specs.declared.event.FrameSort.TheVariants.{Del, Legacy, Callback, Call}
use Rattle.cg_machine.specs.World.{World, opening}
use Rattle.cg_machine.specs.Holdings.{holdings}
use Rattle.cg_machine.specs.Run.{Run, StepTaken, events_of, last_world}
use Rattle.cg_laws.specs.Laws.{IsGone, NoDeadNames, OneFinalizerEach, is_finalizer_of, named}
use Rattle.cg_laws.proofs.Unreferred.{lives_within}
use Rattle.cg_represents.proofs.Lists.{no_times}
use Rattle.cg_laws.proofs.HeldLivesRuns.{held_live}
use Rattle.cg_promises.specs.Lines.{NoDeadLines}
use Rattle.cg_promises.proofs.FinalizerOnce.{KeepsFinalizers, IsPlain, Says}
use Rattle.cg_promises.proofs.FinalizerOnceRuns.{Fit, opening_fit, run_back, run_front, run_fit, step_fit, step_goes}

-- The finalizer of an object begins.
count_cons : (n : ℕ) (event : Event) (events : List Event) → count_by (is_finalizer_of n) (event ∷ events) ≡ cond (is_finalizer_of n event) 1 0 + count_by (is_finalizer_of n) events
count_cons n event events = sum_by-cons (λ e. cond (is_finalizer_of n e) 1 0) event events

count_append : (n : ℕ) (xs ys : List Event) → count_by (is_finalizer_of n) (xs ++ ys) ≡ count_by (is_finalizer_of n) xs + count_by (is_finalizer_of n) ys
count_append n xs ys = sum_by-append (λ e. cond (is_finalizer_of n e) 1 0) xs ys

plain_no : (n : ℕ) (event : Event) → IsPlain event → is_finalizer_of n event ≡ false
plain_no n (Enter sort m) h = absurd h
plain_no n event h = refl

none_counted : (n : ℕ) (events : List Event) → ((event : Event) → Includes events event → IsPlain event) → count_by (is_finalizer_of n) events ≡ 0
none_counted n [] h = refl
none_counted n (event ∷ events) h =
    let no : ◌≡◌ {A = ℕ} (cond (is_finalizer_of n event) 1 0) 0 = ap (λ b. cond b 1 0) (plain_no n event (h event (inl refl))) in
    omega (arith, count_cons n event events, no, none_counted n events (λ e m. h e (inr m)))

-- its finalizer has run, or it is freed
pub record IsSpent (n : ℕ) (w : World) : Type 0 where
  pub made : n < w.next_serial
  pub marked : (x : Object) → Includes w.objects x → x.serial ≡ n → x.finalized ≡ true

-- what one line counts
pub record Counts (n : ℕ) (w : World) (event : Event) (after : World) : Type 0 where
  pub spent : IsSpent n w → is_finalizer_of n event ≡ false
  pub spends : is_finalizer_of n event ≡ true → (n < w.next_serial) × ((y : Object) → Includes after.objects y → y.serial ≡ n → y.finalized ≡ true)

never : (n : ℕ) (w : World) (event : Event) (after : World) → is_finalizer_of n event ≡ false → Counts n w event after
never n w event after e = record { spent = λ s. e; spends = λ t. absurd (let no : true ≡ false = sym t ∙ e in cc) }

module _ (script : Script) (n : ℕ) where
  said : (w after : World) (event : Event) → Fit script w → Says w.objects after.objects event → Counts n w event after
  said w after (Enter Del m) fit h = record {
    spent = λ s. go (m == n) refl s;
    spends = λ t. let same = eqb-true m n t in (
      (lives_within 1 w.next_serial w.objects n fit.sound.rises (subst (Includes (serials w.objects)) (h.serial ∙ same) (Includes-map (λ (z : Object). z.serial) w.objects h.object h.member))).1,
      λ y k e. h.marked y k (e ∙ sym same),
    );
  }
    where
      go : (t : Bool) → (m == n) ≡ t → IsSpent n w → t ≡ false
      go true t s = absurd (let no : true ≡ false = sym (s.marked h.object h.member (h.serial ∙ eqb-true m n t)) ∙ h.unmarked in cc)
      go false t s = refl
  said w after (Enter Legacy m) fit h = never n w (Enter Legacy m) after refl
  said w after (Enter Callback m) fit h = never n w (Enter Callback m) after refl
  said w after (Enter Call m) fit h = never n w (Enter Call m) after refl
  said w after (Free m) fit h = never n w (Free m) after refl
  said w after event fit h = absurd h

  still_spent : (w after : World) (events : List Event) → KeepsFinalizers w.objects w.next_serial events after → IsSpent n w → IsSpent n after
  still_spent w after events h s = record {
    made = omega (arith, s.made, h.serial);
    marked = λ y m e. either (h.follows y m) (λ x. x.2.finalized (s.marked x.0 x.1 (sym x.2.serial ∙ e))) (λ k. absurd (omega (arith, s.made, k, e)));
  }

  one_line : (event : Event) (events : List Event) → events ≡ event ∷ [] → count_by (is_finalizer_of n) events ≡ cond (is_finalizer_of n event) 1 0
  one_line event events e = ap (count_by (is_finalizer_of n)) e ∙ let c = count_cons n event [] in omega (arith, c)

  spent_none : (w after : World) (events : List Event) → Fit script w → KeepsFinalizers w.objects w.next_serial events after → IsSpent n w → count_by (is_finalizer_of n) events ≡ 0
  spent_none w after events fit h s = either h.told (λ t. none_counted n events (λ e m. (t e m).0))
      (λ t. one_line t.0 events t.1 ∙ ap (λ b. cond b 1 0) ((said w after t.0 fit t.2).spent s))

  once_or_spent : (w after : World) (events : List Event) → Fit script w → KeepsFinalizers w.objects w.next_serial events after → (count_by (is_finalizer_of n) events ≡ 0)
      ⊎ (count_by (is_finalizer_of n) events ≡ 1) × IsSpent n after
  once_or_spent w after events fit h = either h.told (λ t. inl (none_counted n events (λ e m. (t e m).0))) (λ t. go t.0 t.1 t.2 (is_finalizer_of n t.0) refl)
    where
      go : (event : Event) → events ≡ event ∷ [] → Says w.objects after.objects event → (b : Bool) → is_finalizer_of n event ≡ b
          → (count_by (is_finalizer_of n) events ≡ 0) ⊎ (count_by (is_finalizer_of n) events ≡ 1) × IsSpent n after
      go event e s true t = let k = (said w after event fit s).spends t in inr (
        one_line event events e ∙ ap (λ b. cond b 1 0) t,
        record { made = let a = k.0 in omega (arith, a, h.serial); marked = k.1 },
      )
      go event e s false t = inl (one_line event events e ∙ ap (λ b. cond b 1 0) t)

  run_spent : (w : World) (steps : List StepTaken) → Run script w steps → Fit script w → IsSpent n w → count_by (is_finalizer_of n) (events_of steps) ≡ 0
  run_spent w [] run fit s = refl
  run_spent w (step ∷ steps) run fit s =
      let goes = step_goes script w step.events step.world run.0 fit in
      let first = spent_none w step.world step.events fit goes s in
      let rest = run_spent step.world steps run.1 (step_fit script w step.events step.world run.0 fit) (still_spent w step.world step.events goes s) in
      omega (arith, count_append n step.events (events_of steps), first, rest)

  run_once : (w : World) (steps : List StepTaken) → Run script w steps → Fit script w → count_by (is_finalizer_of n) (events_of steps) ≤ 1
  run_once w [] run fit = omega arith
  run_once w (step ∷ steps) run fit =
      let goes = step_goes script w step.events step.world run.0 fit in
      let now = step_fit script w step.events step.world run.0 fit in
      let both = count_append n step.events (events_of steps) in
      let later = run_once step.world steps run.1 now in
      either (once_or_spent w step.world step.events fit goes) (λ none. omega (arith, both, none, later))
      (λ one. let first = one.0 in let rest = run_spent step.world steps run.1 now one.1 in omega (arith, both, first, rest))

pub one_finalizer : OneFinalizerEach
one_finalizer script budget steps run n = run_once script n (opening script budget) steps run (opening_fit script budget)

-- An object lived and is freed.
pub record WasThere (n : ℕ) (w : World) : Type 0 where
  pub made : n < w.next_serial
  pub gone : ¬ Includes (serials w.objects) n

module _ (script : Script) (n : ℕ) where
  still_gone : (w after : World) (events : List Event) → KeepsFinalizers w.objects w.next_serial events after → WasThere n w → WasThere n after
  still_gone w after events h g = record {
    made = omega (arith, g.made, h.serial);
    gone = λ m. let y = Includes-map_cases (λ (z : Object). z.serial) after.objects n m in
        either (h.follows y.0 y.1) (λ x. g.gone (subst (Includes (serials w.objects)) (sym x.2.serial ∙ y.2) (Includes-map (λ (z : Object). z.serial) w.objects
        x.0 x.1))) (λ k. let e = y.2 in omega (arith, g.made, k, e));
  }

  said_not : (w after : World) (event : Event) → WasThere n w → Says w.objects after.objects event → ¬ Includes (named event) n
  said_not w after (Enter Del m) g h (inl e) = g.gone (subst (Includes (serials w.objects)) (h.serial ∙ e) (Includes-map (λ (z : Object). z.serial) w.objects h.object h.member))
  said_not w after (Enter sort m) g h (inr k) = absurd k
  said_not w after (Free m) g h (inl e) = g.gone (subst (Includes (serials w.objects)) e h.0)
  said_not w after (Enter sort m) g h (inl e) = g.gone (subst (Includes (serials w.objects)) e h)
  said_not w after (Free m) g h (inr k) = absurd k
  said_not w after event g h k = absurd h

  step_not : (w after : World) (events : List Event) → KeepsFinalizers w.objects w.next_serial events after → WasThere n w → (event : Event) → Includes events event → ¬ Includes (named event) n
  step_not w after events h g event m k = either h.told
      (λ t. either ((t event m).1 n k) g.gone (λ e. let made = g.made in omega (arith, made, e)))
      (λ t. either (subst (λ es. Includes es event) t.1 m) (λ e. said_not w after t.0 g t.2 (subst (λ x. Includes (named x) n) (sym e) k)) (λ no. no))

  run_gone : (w : World) (steps : List StepTaken) → Run script w steps → Fit script w → WasThere n w → WasThere n (last_world w steps)
      × ((event : Event) → Includes (events_of steps) event → ¬ Includes (named event) n)
  run_gone w [] run fit g = (g, λ event m. absurd m)
  run_gone w (step ∷ steps) run fit g =
      let goes = step_goes script w step.events step.world run.0 fit in
      let rest = run_gone step.world steps run.1 (step_fit script w step.events step.world run.0 fit) (still_gone w step.world step.events goes g) in
      (rest.0, λ event m. either (Includes-append_cases step.events (events_of steps) event m) (step_not w step.world step.events goes g event) (rest.1 event))

  gone_now : (w : World) → Fit script w → WasThere n w → IsGone w n
  gone_now w fit g = (
    no_times n (holdings w) (λ m. g.gone (held_live w fit.order n m)),
    λ x m e. let z = fit.calm.referred x m n e
        in g.gone (subst (Includes (serials w.objects)) z.2 (Includes-map (λ (y : Object). y.serial) w.objects z.0 z.1)),
  )

  -- the step that frees it prints no other line
  one_free : (front back : List Event) (event : Event) → front ++ Free n ∷ back ≡ event ∷ [] → (back ≡ []) × (event ≡ Free n)
  one_free [] back event e = (let k : back ≡ [] = cc in k, let k : event ≡ Free n = cc in k)
  one_free (x ∷ []) back event e = absurd (let no : Free n ∷ back ≡ [] = cc in cc)
  one_free (x ∷ y ∷ front) back event e = absurd (let no : y ∷ (front ++ Free n ∷ back) ≡ [] = cc in cc)

  frees : (w after : World) (events front back : List Event) → Fit script w → KeepsFinalizers w.objects w.next_serial events after → events ≡ front ++ Free n ∷ back → (back ≡ []) × WasThere n after
  frees w after events front back fit h e = either h.told
      (λ t. absurd ((t (Free n) (subst (λ es. Includes es (Free n)) (sym e) (Includes-append_right front (Free n ∷ back) (Free n) (inl refl)))).0))
      (λ t. let k = one_free front back t.0 (sym e ∙ t.1) in
      let says : Includes (serials w.objects) n × ¬ Includes (serials after.objects) n = subst (Says w.objects after.objects) k.1 t.2 in
      let within = (lives_within 1 w.next_serial w.objects n fit.sound.rises says.0).1 in
      (k.0, record { made = omega (arith, within, h.serial); gone = says.1 }))

pub no_names_of_dead : NoDeadNames
no_names_of_dead script budget before step after run n front back e =
    let w = last_world (opening script budget) before in
    let fit = run_fit script (opening script budget) before (run_front script (opening script budget) before (step ∷ after) run) (opening_fit script budget) in
    let rest = run_back script (opening script budget) before (step ∷ after) run in
    let goes = step_goes script w step.events step.world rest.0 fit in
    let now = step_fit script w step.events step.world rest.0 fit in
    let freed = frees script n w step.world step.events front back fit goes e in
    let ends = run_gone script n step.world after rest.1 now freed.1 in (
      gone_now script n (last_world step.world after) (run_fit script step.world after rest.1 now) ends.0,
      λ event m. ends.1 event (subst (λ (b : List Event). Includes (b ++ events_of after) event) freed.0 m),
    )

-- The same for the lines of a run alone: the line is in one step, and those after it in that step and later ones.
module _ (script : Script) (n : ℕ) where
  strip : (xs ys front back : List Event) → ((event : Event) → Includes xs event → IsPlain event) → xs ++ ys ≡ front ++ Free n ∷ back → (rest : List Event) × (ys ≡ rest ++ Free n ∷ back)
  strip [] ys front back plain e = (front, e)
  strip (x ∷ xs) ys [] back plain e = absurd (let same : x ≡ Free n = cc in subst IsPlain same (plain x (inl refl)))
  strip (x ∷ xs) ys (f ∷ front) back plain e = strip xs ys front back (λ event m. plain event (inr m)) (let same : xs ++ ys ≡ front ++ Free n ∷ back = cc in same)

  -- a line that is the only one of its step
  alone : (w : World) (step : StepTaken) (steps : List StepTaken) → Run script w (step ∷ steps) → Fit script w → (event : Event) → step.events ≡ event ∷ [] → Says w.objects step.world.objects event
      → ((front back : List Event) → events_of steps ≡ front ++ Free n ∷ back → (e : Event) → Includes back e → ¬ Includes (named e) n)
      → (front back : List Event) → event ∷ events_of steps ≡ front ++ Free n ∷ back → (e : Event) → Includes back e → ¬ Includes (named e) n
  alone w step steps run fit event one says later [] back e =
      let first : event ≡ Free n = cc in
      let rest : events_of steps ≡ back = cc in
      let goes = step_goes script w step.events step.world run.0 fit in
      let freed = frees script n w step.world step.events [] [] fit goes (one ∙ ap (λ x. x ∷ []) first) in
      subst (λ es. (x : Event) → Includes es x → ¬ Includes (named x) n) rest (run_gone script n step.world steps run.1 (step_fit script w step.events step.world run.0 fit) freed.1).1
  alone w step steps run fit event one says later (f ∷ front) back e = later front back (let rest : events_of steps ≡ front ++ Free n ∷ back = cc in rest)

  lines_not : (w : World) (steps : List StepTaken) → Run script w steps → Fit script w → (front back : List Event) → events_of steps ≡ front ++ Free n ∷ back
      → (event : Event) → Includes back event → ¬ Includes (named event) n
  lines_not w [] run fit [] back e = absurd (let no : [] ≡ Free n ∷ back = e in cc)
  lines_not w [] run fit (f ∷ front) back e = absurd (let no : [] ≡ f ∷ (front ++ Free n ∷ back) = e in cc)
  lines_not w (step ∷ steps) run fit front back e =
      let goes = step_goes script w step.events step.world run.0 fit in
      let later = lines_not step.world steps run.1 (step_fit script w step.events step.world run.0 fit) in
      either goes.told
      (λ t. let rest = strip step.events (events_of steps) front back (λ event m. (t event m).0) e in later rest.0 back rest.1)
      (λ t. alone w step steps run fit t.0 t.1 t.2 later front back (ap (λ es. es ++ events_of steps) (sym t.1) ∙ e))

pub no_dead_lines_named : NoDeadLines
no_dead_lines_named script budget steps run n front back e = lines_not script n (opening script budget) steps run (opening_fit script budget) front back e
