-- A death on top of the stack.
use Rattle.std.proofs.Common.{◌≡◌, ◌≢◌, refl, sym, ◌∙◌, ap, subst, ℕ, ◌+◌, ◌<◌, Bool, true, false, cond, inl, inr, List, [], ◌∷◌, Option, None, Some, map, arith, ◌++◌}
use Rattle.std.specs.Prelude.{◌==◌, count_by, filter, reverse, if◌then◌else◌}
use Rattle.std.proofs.lemmas.Bool.{eqb-true, eq-eqb}
use Rattle.std.proofs.lemmas.List.{append_cancel_right}
use Rattle.std.proofs.lemmas.List.Sums.{sum_by-cons}
use Rattle.cg_heap.specs.Weak.{AreRows}
use Rattle.cg_script.specs.declared.Script.{Script}
use Rattle.cg_graph.specs.Member.{Includes}
use Rattle.cg_graph.specs.Rows.{Row, waits_with, waiting_in}
use Rattle.cg_graph.specs.Store.{Store, waiting_for}
use Rattle.cg_graph.proofs.Members.{either, true_and, Includes-append_left}
use Rattle.cg_machine.specs.World as machine
use Rattle.cg_machine.specs.World.{World, Numbers, Activity, Dying, Finalizer}
use Rattle.cg_machine.specs.declared.event.Event.{Event}
use Rattle.cg_machine.specs.declared.event.Event.TheVariants.{Enter, BudgetSpent}
use Rattle.cg_machine.specs.declared.event.FrameSpec.{FrameSpec}
use Rattle.cg_machine.specs.Holdings.{is_death_of}
use Rattle.cg_machine.specs.Frame.{Transition, begin_death, start_frame}
use Rattle.cg_represents.specs.Represents.{Represents}
use Rattle.cg_machine.specs.Run.{StepTaken, events_of, last_world}
use Rattle.cg_death.specs.declared.release.Release.{Release}
use Rattle.cg_death.specs.declared.phase.Phase.{Phase}
use Rattle.cg_death.specs.declared.death.Death.{Death}
use Rattle.cg_death.specs.Activities.{activities, death_activities, death_of}
use Rattle.cg_death.specs.declared.phase.Phase.TheVariants as phase_of
use Rattle.cg_death.specs.declared.answer.DeathStep.{DeathStep}
use Rattle.cg_death.specs.declared.answer.DeathStep.TheVariants as answer_of
use Rattle.cg_death.specs.Answers.{DeathSteps, DeathAnswer, WentOn, GaveDeath, GaveFrame, DeathKeeps as KeepsWorld, numbers_after}
use Rattle.cg_interp.specs.declared.turned.Turned.{Turned}
use Rattle.cg_death.specs.Deaths.{on_stack, DeathFalls, HasCause, IsSettled}
use Rattle.cg_interp.specs.declared.activity.Activity.TheVariants as activity
use Rattle.cg_policy.specs.Policy.{Policy, with_numbers}
use Rattle.cg_interp.specs.Engines.{State, StandsFor, ShowsAll, released_first, death_shown, under, any_collecting}
use Rattle.cg_interp.specs.Turns.{DyingIsSound, Makes, Turns, GoesTo, GivesDeath, StaysOn}
use Rattle.cg_interp.proofs.AnswersOfTurns.{reaches}
use Rattle.cg_interp.proofs.DeathMoves.{no_fall, no_death_on_top}

-- a death as an activity, given the weak references that wait in the heap
shown_by : (o : ℕ) (phase : Phase) (release : Option Release) (store : Store) → activities o phase release store ≡ released_first release (death_activities o phase (waiting_for store o))
shown_by o phase None store = refl
shown_by o phase (Some release) store = refl

pub shown_on_stack : (d : Death) (store : Store) → on_stack d store ≡ death_shown d (waiting_for store d.object)
shown_on_stack d store = shown_by d.object d.phase d.release store

-- each death on a stack counts
counts : (o : ℕ) (d : machine.Death) (stack : List Activity) → Includes stack (Dying d) → d.object ≡ o → 0 < count_by (is_death_of o) stack
counts o d [] m e = absurd m
counts o d (a ∷ stack) m e =
    let split : count_by (is_death_of o) (a ∷ stack) ≡ cond (is_death_of o a) 1 0 + count_by (is_death_of o) stack = sum_by-cons (λ (b : Activity). cond {A = ℕ} (is_death_of o b) 1 0) a stack in
    either m (λ i. let own : cond (is_death_of o a) 1 0 ≡ 1 = ap (λ b. cond {A = ℕ} (is_death_of o b) 1 0) i ∙ ap (λ t. cond {A = ℕ} t 1 0) (eq-eqb d.object o e) in omega (arith, split, own))
    (λ k. let later = counts o d stack k e in omega (arith, split, later))

-- an object that begins to die was not dying
pub was_not_dying : (o : ℕ) (w : World) → DyingIsSound (begin_death o w) → (d : machine.Death) → Includes w.stack (Dying d) → d.object ≢ o
was_not_dying o w sound d m e =
    let split : count_by (is_death_of o) (begin_death o w).stack ≡ cond (o == o) 1 0 + count_by (is_death_of o) w.stack =
    sum_by-cons (λ (b : Activity). cond {A = ℕ} (is_death_of o b) 1 0) (death_of o Finalizer) w.stack in
    let own : cond {A = ℕ} (o == o) 1 0 ≡ 1 = ap (λ t. cond {A = ℕ} t 1 0) (eq-eqb o o refl) in
    let there = counts o d w.stack m e in
    let once = sound.once o in
    absurd (omega (arith, split, own, there, once))

-- no weak reference waits with an object that is not dying
none_pass : (o : ℕ) (rows : List Row) → ((r : Row) → Includes rows r → r.waits ≡ true → r.referent ≢ o) → filter (waits_with o) rows ≡ []
none_pass o [] none = refl
none_pass o (r ∷ rows) none = go (waits_with o r) refl (none_pass o rows (λ q m. none q (inr m)))
  where
    go : (b : Bool) → waits_with o r ≡ b → filter (waits_with o) rows ≡ [] → filter (waits_with o) (r ∷ rows) ≡ []
    go true e rest = let parts = true_and (r.referent == o) r.waits e in absurd (none r (inl refl) parts.1 (eqb-true r.referent o parts.0))
    go false e rest = ap (λ b. cond b (r ∷ filter (waits_with o) rows) (filter (waits_with o) rows)) e ∙ rest

pub none_waits : (script : Script) (e : State) (o : ℕ) (w : World) → StandsFor script e w → DyingIsSound (begin_death o w) → waiting_in e.store.rows o ≡ []
none_waits script e o w stands sound =
    ap (λ l. reverse (map (λ (r : Row). r.weak) l)) (none_pass o e.store.rows (λ r m waits is.
    let found = stands.represents.no_others r m waits in
    was_not_dying o w sound found.0 found.1 (found.2 ∙ is)))

-- then its death is on top
pub dies : (script : Script) (old new : State) (o : ℕ) (death : Death) (w : World) → StandsFor script old w → Represents new.store (begin_death o w)
    → on_stack death new.store ≡ death_of o Finalizer ∷ [] → IsSettled death → new.policy ≡ old.policy → new.activities ≡ activity.Dying death ∷ old.activities
    → new.budget ≡ old.budget
    → StandsFor script new (begin_death o w)
dies script old new o death w stands represents shown settled policy top budget = record {
  represents = represents;
  shows = subst (λ l. ShowsAll script l (begin_death o w).stack) (sym top)
      (record {
        tops = death_of o Finalizer ∷ [];
        below = w.stack;
        shows = (
          waiting_for new.store death.object,
          sym shown ∙ shown_on_stack death new.store,
          settled,
        );
        some = λ e. absurd (cc);
        over = stands.shows;
        is = refl;
      });
  budget = stands.budget ∙ sym budget;
  running = stands.running;
  numbers = ap (λ (p : Policy). p.numbers) policy ∙ stands.numbers;
  collecting = ap (λ (p : Policy). p.running) policy ∙ stands.collecting ∙ ap any_collecting (sym top);
}

-- The world knows which weak references wait with a dying object: those of the heap.
waits_known : (store : Store) (w : World) (o : ℕ) (phase : Phase) (waiting : List ℕ) → Represents store w
    → ((d : machine.Death) → Includes (death_activities o phase waiting) (Dying d) → Includes w.stack (Dying d))
    → death_activities o phase waiting ≡ death_activities o phase (waiting_for store o)
waits_known store w o phase_of.Clearing waiting r inside = ap (λ l. death_of o (machine.Clearing l) ∷ []) (r.deaths (record { object = o; phase = machine.Clearing waiting }) (inside _ (inl refl)))
waits_known store w o phase_of.Calling waiting r inside = ap (λ l. death_of o (machine.Calling l) ∷ []) (r.deaths (record { object = o; phase = machine.Calling waiting }) (inside _ (inl refl)))
waits_known store w o (phase_of.AfterCall weak callback) waiting r inside = ap (λ l. death_of o (machine.AfterCall weak callback l) ∷ [])
    (r.deaths (record { object = o; phase = machine.AfterCall weak callback waiting }) (inside _ (inl refl)))
waits_known store w o _ waiting r inside = refl

within : (release : Option Release) (rest below : List Activity) (a : Activity) → Includes rest a → Includes (released_first release rest ++ below) a
within None rest below a m = Includes-append_left rest below a m
within (Some release) rest below a m = inr (Includes-append_left rest below a m)

-- the object whose death is answered is another one
pub another_dies : (death : Death) (new : Store) (answer : DeathStep) (o : ℕ) → HasCause death new answer → answer ≡ answer_of.Died o → o ≢ death.object
another_dies death new answer o cause is = (subst (HasCause death new) is cause).1

-- a run that prints a line has a step
prints_moves : (steps : List StepTaken) (event : Event) (events : List Event) → events_of steps ≡ event ∷ events → steps ≢ []
prints_moves steps event events prints none = let clash : [] ≡ event ∷ events = ap events_of (sym none) ∙ prints in absurd (cc)

-- so the start of a frame has one
pub starts_moves : (script : Script) (spec : FrameSpec) (w : World) (steps : List StepTaken) → events_of steps ≡ (start_frame script spec w).0 → steps ≢ []
starts_moves script spec w steps prints = by (w.budget == 0) _ _ prints
  where
    by : (b : Bool) (spent entered : World) → events_of steps ≡ (if◌then◌else◌ {A = Transition} b (BudgetSpent ∷ [], spent) (Enter spec.sort spec.subject ∷ [], entered)).0 → steps ≢ []
    by true spent entered is = prints_moves steps BudgetSpent [] is
    by false spent entered is = prints_moves steps (Enter spec.sort spec.subject) [] is

-- what of a death on top is on the stack
module _ (script : Script) (e : State) (death : Death) (w : World) (stands : StandsFor script (under (activity.Dying death) e) w) where
  -- it is what the heap says
  pub tops_shown : stands.shows.tops ≡ on_stack death e.store
  tops_shown =
      stands.shows.shows.1
      ∙ ap (released_first death.release) (waits_known e.store w death.object death.phase stands.shows.shows.0 stands.represents (λ d m.
      subst (λ st. Includes st (Dying d)) (sym (stands.shows.is ∙ ap (λ l. l ++ stands.shows.below) stands.shows.shows.1))
      (within death.release (death_activities death.object death.phase stands.shows.shows.0) stands.shows.below (Dying d) m)))
      ∙ sym (shown_on_stack death e.store)

  pub death_on_top : w.stack ≡ on_stack death e.store ++ stands.shows.below
  death_on_top = stands.shows.is ∙ ap (λ l. l ++ stands.shows.below) tops_shown

  pub death_inside : (a : Activity) → Includes (death_activities death.object death.phase (waiting_for e.store death.object)) a → Includes w.stack a
  death_inside a m =
      subst (λ st. Includes st a) (sym (death_on_top ∙ ap (λ l. l ++ stands.shows.below) (shown_on_stack death e.store)))
      (within death.release (death_activities death.object death.phase (waiting_for e.store death.object)) stands.shows.below a m)

  pub something_shown : on_stack death e.store ≢ []
  something_shown none = stands.shows.some (tops_shown ∙ none)

module _ (script : Script) (old new : State) (death after_death : Death) (answer : DeathStep) (w : World) (stands : StandsFor script (under (activity.Dying death) old) w) (sound : DyingIsSound w)
    (steps : DeathSteps script old.store (on_stack death old.store) new.store (on_stack after_death new.store) answer) (settles : IsSettled death
    → IsSettled after_death) (put : StaysOn after_death old.activities new.activities) (budget : new.budget ≡ old.budget) where
  rest : List Activity
  rest = stands.shows.below

  at : w.stack ≡ on_stack death old.store ++ rest
  unfolding rest
  at = death_on_top script old death w stands

  says : DeathAnswer script w new.store (on_stack after_death new.store ++ rest) answer
  says = steps w rest (record { represents = stands.represents; top = at; running = stands.running; unheld = sound.unheld; once = sound.once })

  with_rest : (stack : List Activity) → stack ≡ on_stack after_death new.store ++ rest → ShowsAll script new.activities stack
  unfolding rest
  with_rest stack is = either put
      (λ going.
      subst (λ l. ShowsAll script l stack) (sym going.1) (record {
        tops = on_stack after_death new.store;
        below = stands.shows.below;
        shows = (waiting_for new.store after_death.object, shown_on_stack after_death new.store, settles stands.shows.shows.2);
        some = going.0 new.store;
        over = stands.shows.over;
        is = is;
      }))
      (λ gone. subst (λ l. ShowsAll script l stack) (sym gone.1) (subst (ShowsAll script old.activities) (sym (is ∙ ap (λ l. l ++ stands.shows.below) (gone.0 new.store))) stands.shows.over))

  -- a collection is under way if one was
  under_way : any_collecting new.activities ≡ any_collecting old.activities
  under_way = either put (λ going. ap any_collecting going.1) (λ gone. ap any_collecting gone.1)

  went_on : (events : List Event) (numbers : Numbers) → new.policy.numbers ≡ numbers → new.policy.running ≡ old.policy.running
      → (went : WentOn script w events numbers new.store (on_stack after_death new.store ++ rest)) → went.goes.goes.steps ≢ [] → GoesTo script w events new
  went_on events numbers counted running went moves = record {
    after = went.goes.after;
    goes = went.goes.goes;
    moves = moves;
    stands = record {
      represents = went.goes.represents;
      shows = with_rest went.goes.after.stack went.goes.top;
      budget = went.keeps.budget ∙ stands.budget ∙ sym budget;
      running = went.keeps.outcome ∙ stands.running;
      numbers = counted ∙ sym went.keeps.numbers;
      collecting = running ∙ stands.collecting ∙ sym under_way;
    };
  }

  -- without a step the world is the same
  stayed : (after : World) (taken : List StepTaken) → last_world w taken ≡ after → taken ≡ [] → w ≡ after
  stayed after taken ends none = sym (ap (last_world w) none) ∙ ends

  -- and so is the death's part of the stack
  same_top : (after : World) → after.stack ≡ on_stack after_death new.store ++ rest → w ≡ after → on_stack death old.store ≡ on_stack after_death new.store
  same_top after top same = append_cancel_right (on_stack death old.store) (on_stack after_death new.store) rest (sym at ∙ ap (λ (v : World). v.stack) same ∙ top)

  pub death_continues : answer ≡ answer_of.Continue → new.policy ≡ old.policy → AreRows old.store → AreRows new.store → after_death.object ≡ death.object
      → (answer ≡ answer_of.Continue → DeathFalls death old.store after_death new.store) → GoesTo script w [] new
  death_continues is policy rows_old rows_new object falls = go (subst (DeathAnswer script w new.store (on_stack after_death new.store ++ rest)) is says)
    where
      go : WentOn script w [] w.numbers new.store (on_stack after_death new.store ++ rest) → GoesTo script w [] new
      go went = went_on [] w.numbers (ap (λ (p : Policy). p.numbers) policy ∙ stands.numbers) (ap (λ (p : Policy). p.running) policy) went (λ none.
          let same = stayed went.goes.after went.goes.goes.steps went.goes.goes.ends none in
          no_fall death after_death old.store new.store went.goes.after (subst (Represents old.store) same stands.represents) went.goes.represents rows_old
          rows_new object (same_top went.goes.after went.goes.top same) (falls is))

  pub death_tells : (event : Event) → answer ≡ answer_of.Emit event → new.policy ≡ with_numbers (numbers_after event old.policy.numbers) old.policy → GoesTo script w (event ∷ []) new
  death_tells event is policy = go (subst (DeathAnswer script w new.store (on_stack after_death new.store ++ rest)) is says)
    where
      go : WentOn script w (event ∷ []) (numbers_after event w.numbers) new.store (on_stack after_death new.store ++ rest) → GoesTo script w (event ∷ []) new
      go went = went_on (event ∷ []) (numbers_after event w.numbers) (ap (λ (p : Policy). p.numbers) policy ∙ ap (numbers_after event) stands.numbers)
          (ap (λ (p : Policy). p.running) policy) went (prints_moves went.goes.goes.steps event [] went.goes.goes.prints)

  pub death_ends : answer ≡ answer_of.Gone → new.policy ≡ old.policy → on_stack after_death new.store ≡ [] → GoesTo script w [] new
  death_ends is policy none = go (subst (DeathAnswer script w new.store (on_stack after_death new.store ++ rest)) is says)
    where
      go : WentOn script w [] w.numbers new.store (on_stack after_death new.store ++ rest) → GoesTo script w [] new
      go went = went_on [] w.numbers (ap (λ (p : Policy). p.numbers) policy ∙ stands.numbers) (ap (λ (p : Policy). p.running) policy) went
          (λ still. something_shown script old death w stands (same_top went.goes.after went.goes.top (stayed went.goes.after went.goes.goes.steps
          went.goes.goes.ends still) ∙ none))

  handed : new.policy ≡ old.policy → (u : World) → Represents new.store u → u.stack ≡ on_stack after_death new.store ++ rest → KeepsWorld w w.numbers u → StandsFor script new u
  handed policy u represents is keeps = record {
    represents = represents;
    shows = with_rest u.stack is;
    budget = keeps.budget ∙ stands.budget ∙ sym budget;
    running = keeps.outcome ∙ stands.running;
    numbers = ap (λ (p : Policy). p.numbers) policy ∙ stands.numbers ∙ sym keeps.numbers;
    collecting = ap (λ (p : Policy). p.running) policy ∙ stands.collecting ∙ sym under_way;
  }

  pub death_hands : (o : ℕ) → answer ≡ answer_of.Died o → new.policy ≡ old.policy → o ≢ death.object → GivesDeath script w o new
  death_hands o is policy other = go (subst (DeathAnswer script w new.store (on_stack after_death new.store ++ rest)) is says)
    where
      go : GaveDeath script w o new.store (on_stack after_death new.store ++ rest) → GivesDeath script w o new
      go gave = record {
        before = gave.hands.before;
        goes = gave.hands.goes;
        moves = λ none.
            let same = stayed (begin_death o gave.hands.before) gave.hands.goes.steps gave.hands.goes.ends none in
            no_death_on_top death old.store o (on_stack after_death new.store) other
            (append_cancel_right (death_of o Finalizer ∷ on_stack after_death new.store) (on_stack death old.store) rest (ap (λ l. death_of o Finalizer ∷ l)
            (sym gave.hands.top) ∙ sym (ap (λ (v : World). v.stack) same) ∙ at));
        stands = handed policy gave.hands.before gave.hands.represents gave.hands.top gave.keeps;
      }

  -- a frame that starts from the world where it is answered
  pub death_calls : (spec : FrameSpec) (final : State) (turned_to : Turned) → answer ≡ answer_of.Frame spec → new.policy ≡ old.policy
      → ((u : World) → StandsFor script new u → Makes script (start_frame script spec u) final turned_to) → Turns script w final turned_to
  death_calls spec final turned_to is policy starts = go (subst (DeathAnswer script w new.store (on_stack after_death new.store ++ rest)) is says)
    where
      go : GaveFrame script w spec new.store (on_stack after_death new.store ++ rest) → Turns script w final turned_to
      go gave = reaches script w final (start_frame script spec gave.hands.before) gave.hands.goes (starts_moves script spec gave.hands.before
          gave.hands.goes.steps gave.hands.goes.prints) turned_to (starts gave.hands.before (handed policy gave.hands.before gave.hands.represents
          gave.hands.top gave.keeps))
