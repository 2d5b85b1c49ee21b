-- What was done is allowed by the machine for the command.
use Rattle.std.proofs.Common.{◌≡◌, refl, sym, ◌∙◌, ap, subst, cond, ℕ, Bool, true, false, List, [], ◌∷◌, Option, None, Some, inl, inr, Result, Ok, Err}
use Rattle.std.specs.Prelude.{◌==◌, if◌then◌else◌, is_some, option_to_list}
use Rattle.std.proofs.lemmas.Bool.{eq-eqb}
use Rattle.cg_value.specs.declared.Entry.{Entry}
use Rattle.cg_script.specs.declared.Script.{Script}
use Rattle.cg_script.specs.declared.Command.{Command}
use Rattle.cg_death.proofs.CallerLemmas.{lives_in_heap}
use Rattle.cg_graph.specs.Member.{Includes}
use Rattle.cg_graph.specs.Object.{Object, object_at, is_in_map}
use Rattle.cg_graph.specs.Store.{Store, IsLive}
use Rattle.cg_machine.specs.declared.event.Event.{Event}
use Rattle.cg_machine.specs.declared.event.Event.TheVariants.{Collected}
use Rattle.cg_machine.specs.World.{World, Releasing, push, with_stack}
use Rattle.cg_machine.specs.Holdings.{is_collecting}
use Rattle.cg_machine.specs.Frame.{Yields, start_frame}
use Rattle.cg_machine.specs.Effects.{Effect, Changes as ChangesEffect, Calls as CallsEffect, Collects as CollectsEffect, Quits as QuitsEffect, Explains as ExplainsEffect}
use Rattle.cg_machine.specs.Refusals.{no_memory}
use Rattle.cg_machine.specs.Commands.{effect, refused, without_commands, new_collection, Explanation, DoesEffect, CommandStep}
use Rattle.cg_represents.proofs.CommandLaws.{Each, Leaves, LeavesStack}
use Rattle.cg_represents.proofs.Shapes.{Shape, StartsFrame, by_shape}
use Rattle.cg_laws.proofs.ShapeLaws.{effect_leaves}
use Rattle.cg_policy.specs.Policy.{Policy}
use Rattle.cg_policy.specs.Laws.{policy_of}
use Rattle.cg_commands.specs.declared.done.Done.{Done}
use Rattle.cg_commands.specs.declared.done.Done.TheVariants as done_of
use Rattle.cg_commands.specs.declared.locals.Locals.{Locals}
use Rattle.cg_commands.specs.Stands.{HasLocals, HeapAndLocalsStandFor}
use Rattle.cg_commands.specs.declared.done.Refusal.{Refusal}
use Rattle.cg_commands.specs.declared.done.Refusal.TheVariants as refusal_of
use Rattle.cg_commands.specs.Refusals.{number_of}
use Rattle.cg_commands.specs.Answers.{Refuses, Performs, policy_after, ChangesByMemory, HasChanged}
use Rattle.cg_interp.specs.declared.activity.Activity.{Activity as Own}
use Rattle.cg_interp.specs.Engines.{State, StandsFor, ShowsAll, under}
use Rattle.cg_interp.specs.declared.activity.Activity.TheVariants as activity
use Rattle.cg_interp.specs.declared.caller.Caller.{Caller}
use Rattle.cg_interp.specs.declared.turned.Turned.{Turned}
use Rattle.cg_death.specs.declared.release.Release.{Release}
use Rattle.cg_death.specs.Activities.{references_left}
use Rattle.cg_interp.specs.Callers.{Changes, releasing, call_of, caller_activity, caller_locals, GivesUp, RunsTo, ChangesOn, Tells, TellsTo, IsAtCommand, IsPerformed, StaysKeptAfter}
use Rattle.cg_interp.specs.Quietly.{ComesTo}
use Rattle.cg_interp.specs.Turns.{StaysSound}
use Rattle.cg_interp.proofs.CallerLemmas.{same_engine}
use Rattle.cg_interp.proofs.LawsOfEngines.{stays_sound}
use Rattle.cg_interp.proofs.CollectionUnderWay.{under_way, policy_is}
use Rattle.cg_commands.specs.Reasons.{Explained}
use Rattle.cg_commands.proofs.WhyLemmas.{explanation}
use Rattle.cg_commands.proofs.ChangesOfHeaps.{released-none}
use Rattle.cg_graph.specs.Value.{item, entry_references}
use Rattle.cg_value.specs.declared.Val.TheVariants as val_of
use Rattle.cg_graph.proofs.Members.{either}

-- a property of each effect holds of this one
of_effect : (P : Effect → Type 0) (r : Result Effect ℕ) (e : Effect) → r ≡ Ok e → Each P r → P e
of_effect P r e is each = subst (Each P) is each

module _ (script : Script) (w : World) (r : Result Effect ℕ) where
  by_refusal : (number : ℕ) → r ≡ Err number → DoesEffect script w r (refused number w).0 (refused number w).1
  by_refusal number is = subst (λ q. DoesEffect script w q (refused number w).0 (refused number w).1) (sym is) (refl, refl)

  by_memory : (lines : List Event) (given_up : List ℕ) (after : World) → r ≡ Ok (ChangesEffect true lines given_up after) → DoesEffect script w r (refused no_memory w).0 (refused no_memory w).1
  by_memory lines given_up after is = subst (λ q. DoesEffect script w q (refused no_memory w).0 (refused no_memory w).1) (sym is) (inr (refl, (refl, refl)))

  pub refusal_may : (refusal : Refusal) → Refuses refusal r → DoesEffect script w r (refused (number_of refusal) w).0 (refused (number_of refusal) w).1
  refusal_may refusal_of.OutOfMemory h = either h
      (λ (changes : ChangesByMemory r). by_memory changes.lines changes.given_up changes.after changes.is)
      (λ (o, is). subst (λ q. DoesEffect script w q (refused no_memory w).0 (refused no_memory w).1) (sym is) (inr (refl, refl)))
  refusal_may _ h = by_refusal _ h

  pub change_may : (wants : Bool) (lines : List Event) (given_up : List ℕ) (after : World) → r ≡ Ok (ChangesEffect wants lines given_up after)
      → DoesEffect script w r lines (push (Releasing given_up) after)
  change_may wants lines given_up after is = subst (λ q. DoesEffect script w q lines (push (Releasing given_up) after)) (sym is) (inl (refl, refl))

  pub explain_may : (o : ℕ) (lines : List Event) → r ≡ Ok (ExplainsEffect o) → Explanation w o lines → DoesEffect script w r lines (push (Releasing []) w)
  explain_may o lines is because = subst (λ q. DoesEffect script w q lines (push (Releasing []) w)) (sym is) (inl (because, refl))

  pub call_may : (f : ℕ) → r ≡ Ok (CallsEffect f) → DoesEffect script w r (start_frame script (call_of f w) w).0 (start_frame script (call_of f w) w).1
  call_may f is = subst (λ q. DoesEffect script w q (start_frame script (call_of f w) w).0 (start_frame script (call_of f w) w).1) (sym is) (refl, refl)

  -- the end of the command's frame or script
  pub quit_may : r ≡ Ok QuitsEffect → DoesEffect script w r [] (with_stack (without_commands w.stack) w)
  quit_may is = subst (λ q. DoesEffect script w q [] (with_stack (without_commands w.stack) w)) (sym is) (refl, refl)

  -- a requested collection
  module _ (g : ℕ) (is : r ≡ Ok (CollectsEffect g)) where
    collects : (busy : Bool) (events : List Event) (after : World) → is_collecting w ≡ busy → Yields (if busy then (Collected 0 ∷ [], w)
        else ([], push (new_collection g true w) w)) events after → DoesEffect script w r events after
    collects busy events after same yields =
        subst (λ q. DoesEffect script w q events after) (sym is)
        (subst (λ b. Yields (if b then (Collected 0 ∷ [], w) else ([], push (new_collection g true w) w)) events after) (sym same) yields)

    -- if one is under way, none starts
    pub busy_may : is_collecting w ≡ true → DoesEffect script w r (Collected 0 ∷ []) w
    busy_may busy = collects true (Collected 0 ∷ []) w busy (refl, refl)

    pub idle_may : is_collecting w ≡ false → DoesEffect script w r [] (push (new_collection g true w) w)
    idle_may idle = collects false [] (push (new_collection g true w) w) idle (refl, refl)

member_at : (objects : List Object) (x : Object) → Includes objects x → is_in_map objects x.serial ≡ true
member_at [] x m = absurd m
member_at (y ∷ objects) x (inl e) = ap (λ b. is_some (cond b (Some y) (object_at objects x.serial))) (eq-eqb y.serial x.serial (ap (λ (z : Object). z.serial) e))
member_at (y ∷ objects) x (inr m) = go (y.serial == x.serial) (member_at objects x m)
  where
    go : (b : Bool) → is_in_map objects x.serial ≡ true → is_some (cond b (Some y) (object_at objects x.serial)) ≡ true
    go true h = refl
    go false h = h

-- a called function lives
abbrev IsThere : World → Effect → Type 0
IsThere w (CallsEffect f) = is_in_map w.objects f ≡ true
IsThere w _ = Unit {0}

shape_there : (w : World) (command : Command) (e : Effect) → Shape w command e → IsThere w e
shape_there w command e (StartsFrame f h) = member_at w.objects f h.member
shape_there w command e _ = tt

-- the release of what was given up is on top
pub change_stands : (script : Script) (top : Own) (e : State) (given_up : Entry) (release : Release) (after : World) → references_left release
    ≡ entry_references given_up → Changes script top e given_up after
    → StandsFor script (under (activity.Releasing release) (under top e)) (releasing given_up after)
change_stands script top e given_up release after is changes = record {
  represents = changes.represents;
  shows = record { tops = Releasing (entry_references given_up) ∷ []; below = after.stack; shows = ap (λ l. Releasing l ∷ []) (sym is); some = λ n. absurd (cc); over = changes.shows; is = refl };
  budget = changes.budget;
  running = changes.running;
  numbers = changes.numbers;
  collecting = changes.collecting;
}

-- the result of a change, after it gave up what it gives up
pub runs_to : (script : Script) (w : World) (command : Command) (top : Own) (e : State) (line : Option Event) (changed : World) → CommandStep script w command (option_to_list line) changed
    → (result : Option Turned) → GivesUp script changed top e line result → RunsTo script w command top e (option_to_list line) result
runs_to script w command top e line changed may None comes = record { changed = changed; may = may; comes = comes }
runs_to script w command top e line changed may (Some answer) (is, comes) = inr (inr (record { line = line; is = is; changes = record { changed = changed; may = may; comes = comes } }))

-- the same after its line was told
pub tells_to : (script : Script) (w : World) (command : Command) (top : Own) (mid e : State) (line : Option Event) (waits now : List Event) (result : Option Turned)
    → ChangesOn script w command (option_to_list line) (under top mid)
    → ((s : Script) (v : World) → ComesTo s v (under top mid) → Tells s v top e line waits now result) → TellsTo script w command top e waits now result
tells_to script w command top mid e line waits now None changes tells =
    let (is, comes) = tells script changes.changed changes.comes in (option_to_list line, is, record { changed = changes.changed; may = changes.may; comes = comes })
tells_to script w command top mid e line waits now (Some answer) changes tells =
    let (is, comes) = tells script changes.changed changes.comes in
    inr (inr (record { line = line; is = is; changes = record { changed = changes.changed; may = changes.may; comes = comes } }))

-- A command prints lines that the machine may print: its world is as before, with an empty release on top.
pub record Told (script : Script) (top : Own) (e : State) (w : World) (command : Command) (lines : List Event) : Type 0 where
  pub after : World
  pub may : CommandStep script w command lines (push (Releasing []) after)
  pub changes : Changes script top e (item val_of.None) after

-- a command was done
module _ (script : Script) (e : State) (top : Own) (w : World) (command : Command) (before : Store) (was : Policy) where
  -- and changed what it had to
  module _ (line : Option Event) (given_up : Entry) (p : IsPerformed script top e w command before was (Ok (done_of.Changed line given_up))) where
    -- the world that it leaves, in which its references are to be given up
    abbrev left : World
    left = p.answers.heap.after

    left_may : CommandStep script w command (option_to_list line) (releasing given_up left)
    left_may = change_may script w (effect w command) p.answers.heap.wants_memory _ _ p.answers.heap.after p.answers.heap.is

    -- the rest of that world is as it was
    changed : Changes script top e given_up left
    changed =
        let same : Leaves w left = of_effect (LeavesStack w) (effect w command) _ p.answers.heap.is (effect_leaves w command) in
        let shows : ShowsAll script (top ∷ e.activities) p.answers.heap.after.stack = subst (λ st. ShowsAll script (top ∷ e.activities) st) (sym same.stack) p.stood.shows in
        let policy : e.policy ≡ policy_of p.answers.heap.after = p.answers.policy ∙ ap (λ r. policy_after (Ok (done_of.Changed line given_up)) r was) p.answers.heap.is in
        record {
          represents = p.answers.heap.represents;
          shows = shows;
          budget = same.budget ∙ p.stood.budget;
          running = same.outcome ∙ p.stood.running;
          numbers = ap (λ (q : Policy). q.numbers) policy;
          collecting = ap (λ (q : Policy). q.running) policy ∙ under_way script (top ∷ e.activities) p.answers.heap.after.stack shows;
        }

    left_sound : StaysSound script (releasing given_up left)
    left_sound = stays_sound script e.first_budget (releasing given_up left) (p.kept (option_to_list line) (releasing given_up left) left_may)

    -- so its references may be given up
    pub may_give_up : (s : Script) × (after : World) × Changes s top e given_up after × StaysSound s (releasing given_up after)
    may_give_up = (script, left, changed, left_sound)

    -- and the command comes to what that comes to
    pub change_runs : (new : State) (result : Option Turned) → ((s : Script) (after : World) → Changes s top e given_up after
        → StaysSound s (releasing given_up after) → GivesUp s (releasing given_up after) top new line result)
        → RunsTo script w command top new (option_to_list line) result
    change_runs new result gives_up = runs_to script w command top new line (releasing given_up left) left_may result (gives_up script left changed left_sound)

  -- if heap and policy are as before, the engine represents the same world
  pub as_before : StandsFor script (under top (record e { store = before; policy = was })) w → e.store ≡ before → e.policy ≡ was → StandsFor script (under top e) w
  as_before stood store policy = same_engine script (under top (record e { store = before; policy = was })) (under top e) w stood store policy refl refl

  -- and prints lines: it leaves the world
  pub told : (lines : List Event) → IsPerformed script top e w command before was (Ok (done_of.Tells lines)) → Told script top e w command lines
  told lines p = either p.answers.heap.0 lists explains
    where
      nothing : Entry
      nothing = item val_of.None

      lists : HasChanged (effect w command) lines [] e.store → Told script top e w command lines
      lists h =
          let left : Leaves w h.after = of_effect (LeavesStack w) (effect w command) _ h.is (effect_leaves w command) in
          let shows : ShowsAll script (top ∷ e.activities) h.after.stack = subst (λ st. ShowsAll script (top ∷ e.activities) st) (sym left.stack) p.stood.shows in
          let policy : e.policy ≡ policy_of h.after = p.answers.policy ∙ ap (λ r. policy_after (Ok (done_of.Tells lines)) r was) h.is in
          record {
            after = h.after;
            may = change_may script w (effect w command) h.wants_memory lines [] h.after h.is;
            changes = record {
              represents = h.represents;
              shows = shows;
              budget = left.budget ∙ p.stood.budget;
              running = left.outcome ∙ p.stood.running;
              numbers = ap (λ (q : Policy). q.numbers) policy;
              collecting = ap (λ (q : Policy). q.running) policy ∙ under_way script (top ∷ e.activities) h.after.stack shows;
            };
          }

      explains : Explained (effect w command) before lines → Told script top e w command lines
      explains h =
          let policy : e.policy ≡ was = p.answers.policy ∙ ap (λ r. policy_after (Ok (done_of.Tells lines)) r was) h.is in
          let stands = as_before p.stood p.answers.heap.1 policy in
          record {
            after = w;
            may = explain_may script w (effect w command) h.object lines h.is (explanation before w p.stood.represents (effect w command) lines h);
            changes = record {
              represents = released-none e.store w stands.represents;
              shows = stands.shows;
              budget = stands.budget;
              running = stands.running;
              numbers = stands.numbers;
              collecting = stands.collecting;
            };
          }

  -- a function that it calls lives
  pub called_lives : (f : ℕ) → IsPerformed script top e w command before was (Ok (done_of.Calls f)) → IsLive e.store f
  called_lives f p =
      let there = of_effect (IsThere w) (effect w command) _ p.answers.heap.0 (by_shape (IsThere w) w command (shape_there w command)) in
      subst (λ st. IsLive st f) (sym p.answers.heap.1) (lives_in_heap before w p.stood.represents f there)

-- A caller is at a command, and what a call asks of the heap and the policy holds.
module _ (script : Script) (caller : Caller) (locals : Option Locals) (inside old : State) (w : World) (command : Command) (same : inside ≡ old) (own : locals
    ≡ caller_locals caller) (at : IsAtCommand script caller old w command) where
  before : StandsFor script (under (caller_activity caller) inside) w
  before = subst (λ e. StandsFor script (under (caller_activity caller) e) w) (sym same) at.stands

  pub stand_here : HeapAndLocalsStandFor inside.store locals w
  stand_here = record { represents = before.represents; locals_are = subst (λ l. HasLocals l w) (sym own) at.locals }

  pub policy_here : inside.policy ≡ policy_of w
  policy_here = policy_is script (under (caller_activity caller) inside) w before

  -- What the call answers is what was performed. It may have left another heap and policy.
  pub performed_by : (new : Store) (now : Policy) (answer : Result Done Refusal) → Performs inside.store inside.policy locals (λ w. effect w command) new now answer
      → IsPerformed script (caller_activity caller) (record inside { store = new; policy = now }) w command inside.store inside.policy answer
  performed_by new now answer performs = record {
    stood = before;
    answers = performs w stand_here policy_here;
    kept = subst (λ (e : State). StaysKeptAfter script e.first_budget w command) (sym same) at.kept;
  }
