-- In every world of a run, unheld objects are dying.
use Rattle.std.proofs.Common.{◌≡◌, refl, sym, ◌∙◌, subst, ℕ, ◌<◌, true, false, inl, List, [], ◌∷◌, length, Some, None}
use Rattle.std.specs.Prelude.{flat_map}
use Rattle.std.proofs.lemmas.List.{length-replicate}
use Rattle.cg_value.specs.declared.KindCode.TheVariants.{List as ListKind, Tuple, Weak}
use Rattle.cg_script.specs.declared.Script.{Script}
use Rattle.cg_script.specs.declared.Command.{Command}
use Rattle.cg_script.specs.Texts.{TextsAreKnown, command_texts}
use Rattle.cg_graph.specs.Member.{Includes}
use Rattle.cg_graph.specs.Object.{Object}
use Rattle.cg_graph.specs.Value.{reference_in}
use Rattle.cg_graph.proofs.Members.{either, Includes-append_left, Includes-append_right, Includes-map}
use Rattle.cg_machine.specs.declared.event.FrameSort.TheVariants.{Call as CallFrame}
use Rattle.cg_machine.specs.World.{World, Activity, TopLevel, Framed, Releasing, Dying, DyingPhase, Calling, opening, push, with_stack, ShuttingDown}
use Rattle.cg_machine.specs.Holdings.{holds}
use Rattle.cg_machine.specs.Frame.{procedure_of}
use Rattle.cg_machine.specs.Effects.{Changes, bound, given_up_by}
use Rattle.cg_machine.specs.Commands.{new_collection}
use Rattle.cg_laws.specs.Origins.{commands_on}
use Rattle.cg_machine.specs.Run.{Run, StepTaken, last_world}
use Rattle.cg_laws.specs.Laws.{UnheldIsDying}
use Rattle.cg_represents.specs.Orderly.{all_waits}
use Rattle.cg_laws.proofs.UnheldCommands.{hand_known}
use Rattle.cg_laws.proofs.CommandRefs.{option_free}
use Rattle.cg_laws.proofs.HeldLivesDeaths.{HasOrder}
use Rattle.cg_laws.proofs.Unreferred.{lives_within}
use Rattle.cg_laws.proofs.Invariants.{CommandSteps, FromFrame, FromTop, HasCommands, Steps, Takes, any_step, emptied, on}
use Rattle.cg_laws.proofs.Origins.{IsAllOfScript}
use Rattle.cg_laws.proofs.OriginsOfRuns.{opening_origin, step_origin}
use Rattle.cg_laws.proofs.PrintableTexts.{commands_name_texts}
use Rattle.cg_laws.proofs.UnheldRuns.{taken_calm}
use Rattle.cg_laws.proofs.HeldLivesRuns.{gone_forgotten, taken_orderly, lives_or_not}
use Rattle.cg_represents.proofs.Serials.{Rises}
use Rattle.cg_laws.proofs.ShapeLaws.{changes_leave}
use Rattle.cg_laws.proofs.Unheld.{Calm}
use Rattle.cg_promises.proofs.HoldersMove.{IsMinded, IsSingle, Minded, degree_free, keeps_same, push_minded, starts_minded, turn_minded}
use Rattle.cg_promises.proofs.HoldersMoveDeaths.{dying_minded, frame_end_minded, released_minded}
use Rattle.cg_promises.proofs.HoldersMoveCollections.{phase_minded}
use Rattle.cg_promises.proofs.HoldersMoveCommands.{IsHandMade, Shifts, shape_shifts, binds_shift}
use Rattle.cg_promises.proofs.FinalizerOnceRuns.{Fit, opening_fit, step_fit}

taken_member : (command : Command) (a b : Activity) (below : List Activity) → Takes command a b → Includes (flat_map commands_on (a ∷ below)) command
taken_member command a b below (FromTop commands) = inl refl
taken_member command a b below (FromFrame f commands left) = Includes-append_left f.commands (flat_map commands_on below) command (subst (λ cs. Includes cs command) (sym left) (inl refl))

module _ (script : Script) (count : ℕ) (below : List Activity) (v : World) where
  abbrev MindedOn : Activity → Type 0
  MindedOn a = Minded count v.objects v.names (a ∷ below)

  emptied_minded : (a : Activity) → HasCommands a → MindedOn a → MindedOn (emptied a)
  emptied_minded (TopLevel commands) ha h = turn_minded count (TopLevel commands) (TopLevel []) below v.objects v.objects v.names [] (keeps_same v.objects) (λ n i. i, λ n i. absurd i, λ n. refl) h
  emptied_minded (Framed f) ha h = turn_minded count (Framed f) (Framed (record f { commands = [] })) below v.objects v.objects v.names []
      (keeps_same v.objects) (λ n i. i, λ n i. absurd i, λ n. refl) h
  emptied_minded (ShuttingDown started) ha h = h
  emptied_minded a ha h = absurd ha

  taken_minded : (command : Command) (a b : Activity) → Takes command a b → MindedOn a → MindedOn b
  taken_minded command a b (FromTop commands) h = turn_minded count (TopLevel (command ∷ commands)) (TopLevel commands) below v.objects v.objects v.names []
      (keeps_same v.objects) (λ n i. i, λ n i. absurd i, λ n. refl) h
  taken_minded command a b (FromFrame f commands left) h = turn_minded count (Framed f) (Framed (record f { commands = commands })) below v.objects v.objects
      v.names [] (keeps_same v.objects) (λ n i. i, λ n i. absurd i, λ n. refl) h

  module _ (a : Activity) (ha : HasCommands a) (rises : Rises 1 v.next_serial v.objects) (calm : Calm script (on a below v)) (order : HasOrder (on a below v)) (h : MindedOn a) where
    abbrev now : World
    now = on a below v

    shifts_minded : (next : World) (given : List ℕ) → next.stack ≡ a ∷ below → Shifts now given next → IsMinded count (push (Releasing given) next)
    shifts_minded next given same s = subst (λ st. Minded count next.objects next.names (Releasing given ∷ st)) (sym same) (record {
      minds = λ n m free. either (s.lives n m)
          (λ old. h.minds n old (record {
            names_none = λ i. either (s.names n i) free.names_none (λ g. free.stack_none (Includes-append_left given (flat_map holds (a ∷ below)) n g));
            root_not = free.root_not;
            entries_none = λ x i e. either (s.entries x i n e) (λ y. free.entries_none y.0 y.1 y.2) (λ g. free.stack_none (Includes-append_left given (flat_map holds (a ∷ below)) n g));
            stack_none = λ i. free.stack_none (Includes-append_right given (flat_map holds (a ∷ below)) n i);
          }))
          (λ held. absurd (free.names_none held));
      single = s.single h.single;
      count = s.count ∙ h.count;
    })

    hand_made : (command : Command) → IsHandMade now rises command
    hand_made command u hand n m = either (lives_or_not v.objects n) (λ l. (lives_within 1 v.next_serial v.objects n rises l).1)
        (λ g. absurd (option_free (reference_in u) n (hand_known script now rises calm.over command u hand n (gone_forgotten now order calm.referred n g)) m))

    command_minded : (w : World) (command : Command) → ((t : ℕ) → Includes (command_texts command) t → t < count) → CommandSteps script (λ w events. IsMinded count) w command now a below
    command_minded w command fits = record {
      stays = λ lines answers. h;
      stops = λ lines answers. emptied_minded a ha h;
      changes = λ wants_memory lines given_up after shape. shifts_minded after given_up (changes_leave now command wants_memory lines given_up after shape).stack
          (shape_shifts now rises command (hand_made command) (λ t m. subst (λ c. t < c) (sym h.count) (fits t m)) (Changes wants_memory lines given_up after) shape);
      calls = λ f k. starts_minded count script (record { sort = CallFrame; proc = procedure_of now f.serial; subject = f.serial; func = Some f.serial }) now h;
      asks = λ g low e. push_minded count (new_collection g true now) v.objects v.names (a ∷ below) (λ n. refl) h;
    }

-- what waits in a death is a weak reference
waits_code : (o : ℕ) (phase : DyingPhase) (below : List Activity) (v : World) → HasOrder (with_stack (Dying (record { object = o; phase = phase }) ∷ below) v)
    → (waiting : List ℕ) → phase ≡ Calling waiting → (weak : ℕ) → Includes waiting weak → (x : Object) → Includes v.objects x → x.serial ≡ weak → x.code ≡ Weak
waits_code o (Calling waits) below v order waiting e weak m x i s = let same : waits ≡ waiting = cc
    in (order.waiting weak (Includes-append_left waits (all_waits below) weak (subst (λ ws. Includes ws weak) (sym same) m)) x i s).code
waits_code o phase below v order waiting e weak m x i s = cc

module _ (script : Script) (known : TextsAreKnown script) where
  abbrev count : ℕ
  count = length script.names

  abbrev Holds : World → Type 0
  Holds w = Fit script w × IsAllOfScript script w × IsMinded count w

  minds_steps : Steps script Holds (λ w events. IsMinded count)
  minds_steps = record {
    starts_due = λ a below v ha g e k. push_minded count (new_collection g false (on a below v)) v.objects v.names (a ∷ below) (λ n. refl) k.2;
    ends = λ a lines below v last k. record { minds = k.2.minds; single = k.2.single; count = k.2.count };
    shuts_down = λ below v k. turn_minded count (TopLevel []) (ShuttingDown false) below v.objects v.objects v.names [] (keeps_same v.objects) (λ n i. i, λ n i. absurd i, λ n. refl) k.2;
    gives_up = λ name below v e k. let w : World = on (ShuttingDown false) below v in
        shifts_minded script count below v (ShuttingDown false) tt k.0.sound.rises k.0.calm k.0.order k.2 (bound w name None) (given_up_by w name) refl (binds_shift w k.0.sound.rises name None);
    collects_last = λ below v k. push_minded count (new_collection 2 false (on (ShuttingDown false) below v)) v.objects v.names (ShuttingDown true ∷ below) (λ n. refl)
        (turn_minded count (ShuttingDown false) (ShuttingDown true) below v.objects v.objects v.names [] (keeps_same v.objects) (λ n i. i, λ n i. absurd i, λ n. refl) k.2);
    commands = λ command a b below v takes hb k. command_minded script count below v b hb k.0.sound.rises (taken_calm script below v command a b takes k.0.calm)
        (taken_orderly command a b below v takes k.0.order) (taken_minded script count below v command a b takes k.2)
        (on a below v) command (commands_name_texts script known command (k.1.commands command (taken_member command a b below takes)));
    frame_ends = λ f below v left k. frame_end_minded count f below v k.2;
    releases = λ references below v k. released_minded count references below v k.2;
    dies = λ d below v k. dying_minded script count d.object below v k.0.sound.rises d.phase (waits_code d.object d.phase below v k.0.order) k.2;
    collects = λ c below v events after step k. phase_minded script count c below v k.0.sound.rises k.0.order.garbage c.phase events after step k.2;
  }

  pub minded_after : (w : World) (steps : List StepTaken) → Run script w steps → Fit script w → IsAllOfScript script w → IsMinded count w → IsMinded count (last_world w steps)
  minded_after w [] run fit of_script h = h
  minded_after w (step ∷ steps) run fit of_script h = minded_after step.world steps run.1 (step_fit script w step.events step.world run.0 fit)
      (step_origin script w step.events step.world run.0 of_script)
      (any_step script Holds (λ w events. IsMinded count) minds_steps w step.events step.world run.0 (fit, of_script, h))

  pub opening_minded : (budget : ℕ) → IsMinded (length script.names) (opening script budget)
  opening_minded budget = record {
    minds = λ n m free. either m (λ e. absurd (free.root_not (sym e))) (λ no. absurd no);
    single = λ x m. either m (λ e. subst IsSingle e (λ c. let no : ListKind ≡ Weak = c in absurd (cc), λ c. let no : ListKind ≡ Tuple = c in absurd (cc))) (λ no. absurd no);
    count = length-replicate (length script.names) None;
  }

pub unheld_dying : UnheldIsDying
unheld_dying script budget steps known run begins x m none =
    let w = last_world (opening script budget) steps in
    (minded_after script known (opening script budget) steps run (opening_fit script budget) (opening_origin script budget)
    (opening_minded script known budget)).minds x.serial (Includes-map (λ (z : Object). z.serial) w.objects x m) (degree_free w x.serial none)
