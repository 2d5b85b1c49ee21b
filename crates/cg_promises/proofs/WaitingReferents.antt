-- A weak reference that waits in a death referred to the dying object.
use Rattle.std.proofs.Common.{◌≡◌, ◌≢◌, refl, sym, ap, subst, ℕ, Bool, true, false, inl, inr, List, [], ◌∷◌, ◌++◌, Option, Some, None}
use Rattle.std.specs.Prelude.{◌==◌, if◌then◌else◌, filter, option_map, unwrap_or}
use Rattle.std.proofs.lemmas.Bool.{eqb-true}
use Rattle.cg_script.specs.declared.Script.{Script}
use Rattle.cg_script.specs.declared.Command.{Command}
use Rattle.cg_graph.specs.Member.{Includes}
use Rattle.cg_graph.specs.Object.{Object, object_at, serials}
use Rattle.cg_graph.proofs.Members.{either, Includes-append_cases, Includes-map_cases, Includes-filter_cases}
use Rattle.cg_machine.specs.declared.event.Event.{Event}
use Rattle.cg_machine.specs.declared.event.FrameSort.TheVariants.{Call as CallFrame}
use Rattle.cg_machine.specs.declared.event.FrameSpec.{FrameSpec}
use Rattle.cg_machine.specs.World.{World, Activity, TopLevel, Framed, Releasing, Dying, Death, Collecting, DyingPhase, Finalizer, Clearing, ShuttingDown}
use Rattle.cg_machine.specs.Frame.{procedure_of, start_frame}
use Rattle.cg_machine.specs.Weak.{has_weak_references, is_reference_to, weak_references, weak_references_if}
use Rattle.cg_machine.specs.Commands.{new_collection}
use Rattle.cg_represents.specs.Orderly.{death_waits}
use Rattle.cg_machine.specs.Run.{Step}
use Rattle.cg_laws.proofs.Advances.{Advance, Plainly, WithFrame, Continues, DeathGoesOn, DeathClears, CollectionGoesOn, Tops, TopEnds, GivesFunction, GivesReference, BeginsDeath, TopGoesOn, GivesReferences}
use Rattle.cg_laws.proofs.Starting.{begun_frame, starts_either}
use Rattle.cg_laws.proofs.Advancing.{frame_end_advances, released_advances, dying_advances, phase_advances}
use Rattle.cg_laws.proofs.UnheldRuns.{no_death}
use Rattle.cg_laws.proofs.ShapeLaws.{changes_leave}
use Rattle.cg_laws.proofs.Invariants.{CommandSteps, HasCommands, Steps, any_step, emptied, on}
use Rattle.cg_laws.proofs.MeasureInDeaths.{Includes-reverse}

-- an object is a weak reference to another now
abbrev pub RefersNow : List Object → ℕ → ℕ → Type 0
RefersNow objects weak o = (x : Object) × Includes objects x × (x.serial ≡ weak) × (x.referent ≡ Some o)

pub refers_now : (test : Object → Bool) (objects : List Object) (o weak : ℕ) (weaks : List ℕ) → weak_references_if test objects o ≡ weak ∷ weaks → RefersNow objects weak o
refers_now test objects o weak weaks e = go (unwrap_or (option_map test (object_at objects o)) false) e
  where
    refers : (r : Option ℕ) → unwrap_or (option_map (λ s. s == o) r) false ≡ true → r ≡ Some o
    refers None t = absurd (let no : false ≡ true = t in cc)
    refers (Some s) t = ap (λ n. Some n) (eqb-true s o t)

    go : (b : Bool) → (if b then weak_references objects o else []) ≡ weak ∷ weaks → RefersNow objects weak o
    go true k =
        let m = Includes-reverse (serials (filter (is_reference_to o) objects)) weak (subst (λ ys. Includes ys weak) (sym k) (inl refl)) in
        let x = Includes-map_cases (λ (z : Object). z.serial) (filter (is_reference_to o) objects) weak m in
        let f = Includes-filter_cases (is_reference_to o) objects x.0 x.1 in
        (x.0, f.0, x.2, refers x.0.referent f.1)
    go false k = absurd (let no : [] ≡ weak ∷ weaks = k in cc)

module _ (P : ℕ → ℕ → Type 0) where
  -- each one waiting in a death referred to its object
  abbrev pub Waited : List Activity → Type 0
  Waited stack = (d : Death) → Includes stack (Dying d) → (weak : ℕ) → Includes (death_waits d.phase) weak → P weak d.object

  pop : (a : Activity) (below : List Activity) → Waited (a ∷ below) → Waited below
  pop a below h d m = h d (inr m)

  push_other : (a : Activity) (stack : List Activity) → ((d : Death) → a ≢ Dying d) → Waited stack → Waited (a ∷ stack)
  push_other a stack apart h d m = either m (λ e. absurd (apart d e)) (h d)

  push_death : (o : ℕ) (phase : DyingPhase) (stack : List Activity) → ((weak : ℕ) → Includes (death_waits phase) weak → P weak o) → Waited stack
      → Waited (Dying (record { object = o; phase = phase }) ∷ stack)
  push_death o phase stack waits h d m = either m (λ e. let same : record { object = o; phase = phase } ≡ d = cc in subst (λ (z : Death). (weak : ℕ)
      → Includes (death_waits z.phase) weak → P weak z.object) same waits) (h d)

  starts : (script : Script) (spec : FrameSpec) (u : World) → Waited u.stack → Waited (start_frame script spec u).1.stack
  starts script spec u h = starts_either (λ lines w. Waited w.stack) script spec u h (λ some. push_other (begun_frame script spec) u.stack (λ d e. cc) h)

  -- what goes on in another activity's step
  module _ (objects after : List Object) (below : List Activity) (now_refers : (weak o : ℕ) → RefersNow objects weak o → P weak o) where
    perhaps : (b : Bool) (weak n : ℕ) → Includes (if b then weak ∷ [] else []) n → weak ≡ n
    perhaps true weak n m = either m (λ e. e) (λ none. absurd none)
    perhaps false weak n m = absurd m

    continues_waited : (top a : Activity) → Continues objects after top a → Waited (top ∷ below) → Waited (a ∷ below)
    continues_waited top a (DeathGoesOn o phase next waits none) h = push_death o next below (λ weak m. h (record { object = o; phase = phase }) (inl refl) weak (waits weak m)) (pop top below h)
    continues_waited top a (DeathClears o weak waiting weaks t first lost) h = push_death o (Clearing (waiting ++ (if t then weak ∷ [] else []))) below
        (λ n m. either (Includes-append_cases waiting (if t then weak ∷ [] else []) n m) (h (record { object = o; phase = Clearing waiting }) (inl refl) n)
        (λ k. subst (λ w. P w o) (perhaps t weak n k) (now_refers weak o (refers_now has_weak_references objects o weak weaks first)))) (pop top below h)
    continues_waited top a (CollectionGoesOn c d same begun early) h = push_other (Collecting d) below (λ e i. cc) (pop top below h)

    tops_waited : (top : Activity) (tops : List Activity) → Tops objects after top tops → Waited (top ∷ below) → Waited (tops ++ below)
    tops_waited top tops (TopEnds a gone) h = pop a below h
    tops_waited top tops (GivesFunction f references few) h = push_other (Releasing references) below (λ d e. cc) (pop top below h)
    tops_waited top tops (GivesReference o references) h = push_other (Releasing references) below (λ d e. cc) (pop top below h)
    tops_waited top tops (BeginsDeath o references) h = push_death o Finalizer (Releasing references ∷ below) (λ weak m. absurd m)
        (push_other (Releasing references) below (λ d e. cc) (pop top below h))
    tops_waited top tops (TopGoesOn b a c held) h = continues_waited b a c h
    tops_waited top tops (GivesReferences b a references few c held) h = push_other (Releasing references) (a ∷ below) (λ d e. cc) (continues_waited b a c h)

  advance_waited : (script : Script) (top : Activity) (below : List Activity) (v : World) → ((weak o : ℕ) → RefersNow v.objects weak o → P weak o)
      → Waited (top ∷ below) → (lines : List Event) (after : World) → Advance script v top below lines after → Waited after.stack
  advance_waited script top below v refers h lines after (Plainly tops objects numbers ls t c n none) = tops_waited v.objects objects below refers top tops t h
  advance_waited script top below v refers h lines after (WithFrame spec a objects s c held m) =
      starts script spec (record v { objects = objects; stack = a ∷ below }) (continues_waited v.objects objects below refers top a c h)

  emptied_waited : (a : Activity) (below : List Activity) → HasCommands a → Waited below → Waited (emptied a ∷ below)
  emptied_waited (TopLevel commands) below ha rest = push_other (TopLevel []) below (λ d e. cc) rest
  emptied_waited (Framed f) below ha rest = push_other (Framed (record f { commands = [] })) below (λ d e. cc) rest
  emptied_waited (ShuttingDown started) below ha rest = push_other (ShuttingDown started) below (λ d e. cc) rest
  emptied_waited a below ha rest = absurd ha

  module _ (script : Script) where
    abbrev StepWaits : World → List Event → World → Type 0
    StepWaits w events after = Waited after.stack

    command_waited : (w : World) (command : Command) (a : Activity) (below : List Activity) (v : World) → HasCommands a → Waited below → CommandSteps script StepWaits w command (on a below v) a below
    command_waited w command a below v ha rest = record {
      stays = λ lines answers. here;
      stops = λ lines answers. emptied_waited a below ha rest;
      changes = λ wants_memory lines given_up after shape. push_other (Releasing given_up) after.stack (λ d e. cc)
          (subst Waited (sym (changes_leave (on a below v) command wants_memory lines given_up after shape).stack) here);
      calls = λ f k. starts script (record { sort = CallFrame; proc = procedure_of (on a below v) f.serial; subject = f.serial; func = Some f.serial }) (on a below v) here;
      asks = λ g low e. push_other (new_collection g true (on a below v)) (a ∷ below) (λ d e. cc) here;
    }
      where
        here : Waited (a ∷ below)
        here = push_other a below (no_death a ha) rest

    waits_in_steps : Steps script (λ w. ((weak o : ℕ) → RefersNow w.objects weak o → P weak o) × Waited w.stack) StepWaits
    waits_in_steps = record {
      starts_due = λ a below v ha g e k. push_other (new_collection g false (on a below v)) (a ∷ below) (λ d e. cc) k.1;
      ends = λ a lines below v last k. k.1;
      shuts_down = λ below v k. push_other (ShuttingDown false) below (λ d e. cc) (pop (TopLevel []) below k.1);
      gives_up = λ name below v e k. push_other (Releasing _) (ShuttingDown false ∷ below) (λ d e. cc) k.1;
      collects_last = λ below v k. push_other (new_collection 2 false (on (ShuttingDown false) below v)) (ShuttingDown true ∷ below) (λ d e. cc)
          (push_other (ShuttingDown true) below (λ d e. cc) (pop (ShuttingDown false) below k.1));
      commands = λ command a b below v takes hb k. command_waited (on a below v) command b below v hb (pop a below k.1);
      frame_ends = λ f below v left k. advance_waited script (Framed f) below v k.0 k.1 _ _ (frame_end_advances script f below v);
      releases = λ references below v k. advance_waited script (Releasing references) below v k.0 k.1 _ _ (released_advances script references below v);
      dies = λ d below v k. advance_waited script (Dying d) below v k.0 k.1 _ _ (dying_advances script d.object below v d.phase);
      collects = λ c below v events after step k. advance_waited script (Collecting c) below v k.0 k.1 events after (phase_advances script c below v c.phase events after step);
    }

    pub step_waited : (w : World) (events : List Event) (after : World) → Step script w events after → ((weak o : ℕ) → RefersNow w.objects weak o → P weak o) → Waited w.stack → Waited after.stack
    step_waited w events after step refers h = any_step script (λ u. ((weak o : ℕ) → RefersNow u.objects weak o → P weak o) × Waited u.stack) StepWaits waits_in_steps w events after step (refers, h)
