-- In every world of a run, whatever is held lives, and whatever waits has its callback.
use Rattle.std.proofs.Common.{◌≡◌, ◌≢◌, refl, sym, ◌∙◌, ap, subst, ℕ, zero, suc, length, replicate, Bool, true, false, inl, inr, ◌⊎◌, List, [], ◌∷◌, ◌++◌, Some, None, arith, Option}
use Rattle.std.specs.Prelude.{flat_map}
use Rattle.cg_value.specs.declared.KindCode.TheVariants.{List as ListKind, Weak}
use Rattle.cg_script.specs.declared.Script.{Script}
use Rattle.cg_script.specs.declared.Command.{Command}
use Rattle.cg_graph.specs.Member.{Includes, includes}
use Rattle.cg_graph.specs.Value.{references}
use Rattle.cg_graph.specs.Object.{Object, serials}
use Rattle.cg_graph.specs.Holdings.{name_holdings, occurrences, graph_of, entry_holdings}
use Rattle.cg_graph.proofs.Members.{either, Includes-of, includes-of, Includes-append_left, Includes-append_right, Includes-append_cases, Includes-map, Includes-map_cases}
use Rattle.cg_machine.specs.declared.event.Event.{Event}
use Rattle.cg_machine.specs.declared.event.FrameSort.{FrameSort}
use Rattle.cg_machine.specs.declared.event.FrameSort.TheVariants.{Del, Call as CallFrame}
use Rattle.cg_machine.specs.World.{World, Activity, TopLevel, Framed, Collecting, Frame, Collection, Start, Turn, DyingPhase, Finalizer, AfterFinalizer, Clearing, Calling, AfterCall, AfterLegacy, Detaching, opening, garbage_list, push, with_stack, ShuttingDown}
use Rattle.cg_machine.specs.Holdings.{holds, collect_holds, holdings}
use Rattle.cg_machine.specs.Frame.{procedure_of}
use Rattle.cg_machine.specs.Weak.{callback_in, is_function}
use Rattle.cg_machine.specs.Effects.{Changes}
use Rattle.cg_machine.specs.Commands.{new_collection}
use Rattle.cg_machine.specs.Collect.{is_condemned}
use Rattle.cg_machine.specs.Run.{StepTaken, Step, Run, last_world}
use Rattle.cg_represents.specs.Orderly.{waits_of, all_waits, IsWaiting, HasFunction, AreDeathsOfOthers, IsDeathIn}
use Rattle.cg_laws.specs.Laws.{WorldsAreOrderly}
use Rattle.cg_represents.proofs.Serials.{Rises}
use Rattle.cg_laws.proofs.InvariantOfRuns.{Sound, opening_sound}
use Rattle.cg_laws.proofs.MeasureNumber.{step_falls}
use Rattle.cg_laws.proofs.ShapeLaws.{changes_leave}
use Rattle.cg_laws.proofs.Unreferred.{Forgotten, AreReferred, some_later, none_later, lives_within, IsLater}
use Rattle.cg_laws.proofs.Unheld.{IsLocalHeld, IsOver, AreOver, not_dying, Stands, Calm, held_by_member}
use Rattle.cg_laws.proofs.Releasing.{entry_holder}
use Rattle.cg_laws.proofs.UnheldCommands.{Mild, Comes, was_there, is_new, shape_mild}
use Rattle.cg_laws.proofs.HeldLives.{IsClearing, Orderly, push_orderly, turns_fewer, waits_held, MayRefer, CallsNone}
use Rattle.cg_laws.proofs.HeldLivesDeaths.{HasOrder, starts_orderly, gives_up_orderly, frame_end_orderly, released_orderly, dying_orderly}
use Rattle.cg_laws.proofs.HeldLivesCollections.{phase_orderly}
use Rattle.cg_laws.proofs.UnheldRuns.{no_death, taken_calm, step_calm, opening_calm, death_stands}
use Rattle.cg_laws.proofs.Invariants.{HasCommands, Takes, FromTop, FromFrame, emptied, on, CommandSteps, Steps, any_step, del_shaped}
use Rattle.cg_script.specs.declared.Command.TheVariants.{Del}

-- what does not live is forgotten
pub gone_forgotten : (w : World) → HasOrder w → AreReferred w.objects → (o : ℕ) → ¬ Includes (serials w.objects) o → Forgotten w o
gone_forgotten w h referred o gone = record {
  unheld = record {
    quiet = λ x m. record { entries = λ k. gone (h.entries_live x m o k); untracked = λ e. absurd (not_own x m e); refers_to_none = λ e. absurd (not_own x m e) };
    names = λ m. gone (h.names_live o m);
    root = λ e. gone (subst (Includes (serials w.objects)) (sym e) h.root_lives);
    stack = λ m. gone (h.stack_lives o m);
  };
  unreferred = λ x m e. let z = referred x m o e in not_own z.0 z.1 z.2;
}
  where
    not_own : (x : Object) → Includes w.objects x → x.serial ≢ o
    not_own x m e = gone (subst (Includes (serials w.objects)) e (Includes-map (λ (z : Object). z.serial) w.objects x m))

pub lives_or_not : (objects : List Object) (o : ℕ) → Includes (serials objects) o ⊎ (¬ Includes (serials objects) o)
lives_or_not objects o = go (includes (serials objects) o) refl
  where
    go : (b : Bool) → includes (serials objects) o ≡ b → Includes (serials objects) o ⊎ (¬ Includes (serials objects) o)
    go true e = inl (Includes-of (serials objects) o e)
    go false e = inr (λ m. let no : true ≡ false = sym (includes-of (serials objects) o m) ∙ e in cc)

module _ (script : Script) (w : World) (rises : Rises 1 w.next_serial w.objects) (over : AreOver w.stack) (referred : AreReferred w.objects) (h : HasOrder w)
    (after : World) (given_up : List ℕ) (same_stack : after.stack ≡ w.stack) (mild : Mild script w rises over after given_up) where
  lasts_live : (o : ℕ) → Includes (serials w.objects) o → Includes (serials after.objects) o
  lasts_live o m =
      let x = Includes-map_cases (λ (z : Object). z.serial) w.objects o m in
      let y = mild.lasts x.0 x.1 in
      subst (Includes (serials after.objects)) (y.2.serial ∙ x.2) (Includes-map (λ (z : Object). z.serial) after.objects y.0 y.1)

  -- what is held afterwards lives
  live : (o : ℕ) → (Forgotten after o → ⊥) → Includes (serials after.objects) o
  live o held = either (lives_or_not after.objects o) (λ m. m) (λ gone. absurd (held (mild.forgotten o (inl gone) (gone_forgotten w h referred o (λ m. gone (lasts_live o m))))))

  given_live : (o : ℕ) → Includes given_up o → Includes (serials after.objects) o
  given_live o m = either (lives_or_not after.objects o) (λ k. k) (λ gone. absurd (mild.given o (gone_forgotten w h referred o (λ k. gone (lasts_live o k))) m))

  within : (o : ℕ) → Includes (serials w.objects) o → w.next_serial ≢ o
  within o m e = let bounds = lives_within 1 w.next_serial w.objects o rises m in omega (arith, bounds.1, e)

  waits_live : (weak : ℕ) → Includes (all_waits w.stack) weak → Includes (serials w.objects) weak
  waits_live weak m = h.stack_lives weak (waits_held w.stack weak m)

  functions_last : (f : ℕ) → HasFunction w.objects f → HasFunction after.objects f
  functions_last f z =
      let y = mild.lasts z.0 z.1 in
      let code : y.0.code ≡ z.0.code = y.2.code in
      let same : is_function y.0 ≡ is_function z.0 = cc in
      (y.0, y.1, y.2.serial ∙ z.2, same ∙ z.3)

  callbacks : (y : Object) → Comes script w rises over y → y.code ≡ Weak → (f : ℕ) → Includes (references y.entries) f → HasFunction after.objects f
  callbacks y (was_there x m later same condemned placed) e f k =
      let code : x.code ≡ Weak = sym later.code ∙ e in
      functions_last f (h.callbacks x m code f (subst (λ es. Includes (references es) f) (either same (λ k. k) (λ k. absurd (k.0 code))) k))
  callbacks y (is_new serial condemned apart weak_alone functions) e f k = functions_last f (functions e f k)

  codes : (y : Object) → Comes script w rises over y → (r : ℕ) → y.referent ≡ Some r → y.code ≡ Weak
  codes y (was_there x m later same condemned placed) r e = later.code ∙ h.codes x m r (some_later x y later r e)
  codes y (is_new serial condemned apart weak_alone functions) r e = weak_alone r e

  garbage : (y : Object) → Comes script w rises over y → y.serial ≡ 1 → y.code ≡ ListKind
  garbage y (was_there x m later same condemned placed) e = later.code ∙ h.garbage x m (sym later.serial ∙ e)
  garbage y (is_new serial condemned apart weak_alone functions) e = absurd (within 1 h.root_lives (sym serial ∙ e))

  waiting : (weak : ℕ) → Includes (all_waits w.stack) weak → (y : Object) → Comes script w rises over y → y.serial ≡ weak → IsWaiting y
  waiting weak k y (was_there x m later same condemned placed) e =
      let was = h.waiting weak k x m (sym later.serial ∙ e) in
      record { code = later.code ∙ was.code; referent = none_later x y later was.referent; callback = λ n. was.callback (ap callback_in (sym (either same (λ k. k) (λ k. absurd (k.0 was.code)))) ∙ n) }
  waiting weak k y (is_new serial condemned apart weak_alone functions) e = absurd (within weak (waits_live weak k) (sym serial ∙ e))

  -- an object without a callback gets none
  quiet : (y x : Object) → Includes w.objects x → IsLater x y → (y.entries ≡ x.entries) ⊎ (x.code ≢ Weak) × ((o : ℕ) → Forgotten w o → x.serial ≢ o) → callback_in x.entries ≡ None → CallsNone y
  quiet y x m later same n = go y.referent refl
    where
      go : (r : Option ℕ) → y.referent ≡ r → CallsNone y
      go None e = inl e
      go (Some r) e = inr (ap callback_in (either same (λ k. k) (λ k. absurd (k.0 (h.codes x m r (some_later x y later r e))))) ∙ n)

  marked : (y : Object) → Comes script w rises over y → is_condemned y ≡ true → (¬ Includes (all_waits w.stack) y.serial) × ((y.referent ≡ None) ⊎ MayRefer y.entries w.stack)
  marked y (was_there x m later same condemned placed) e =
      let was = h.condemned x m (condemned e) in (
        λ n. was.0 (subst (Includes (all_waits w.stack)) later.serial n),
        either was.1 (λ n. inl (none_later x y later n))
            (λ r. either r (λ c. inr (inl c)) (λ n. either (quiet y x m later same n) (λ k. inl k) (λ k. inr (inr k)))),
      )
  marked y (is_new serial condemned apart weak_alone functions) e = absurd (let no : true ≡ false = sym e ∙ condemned in cc)

  refers : (o : ℕ) → ((x : Object) → Includes w.objects x → x.serial ≡ o → CallsNone x) → Includes (serials w.objects) o → (y : Object) → Comes script w rises over y → y.serial ≡ o → CallsNone y
  refers o none lives y (was_there x m later same condemned placed) e = either (none x m (sym later.serial ∙ e)) (λ n. inl (none_later x y later n)) (λ n. quiet y x m later same n)
  refers o none lives y (is_new serial condemned apart weak_alone functions) e = absurd (within o lives (sym serial ∙ e))

  pub command_orderly : HasOrder after
  command_orderly = subst (Orderly after.objects after.names) (sym same_stack) (record {
    names_live = λ o m. live o (λ f. f.unheld.names m);
    root_lives = lasts_live 1 h.root_lives;
    entries_live = λ y m o k. live o (λ f. (f.unheld.quiet y m).entries k);
    stack_lives = λ o m. lasts_live o (h.stack_lives o m);
    deaths_live = λ d m. lasts_live d.object (h.deaths_live d m);
    callbacks = λ y m. callbacks y (mild.comes y m);
    codes = λ y m. codes y (mild.comes y m);
    garbage = λ y m. garbage y (mild.comes y m);
    waiting = λ weak k y m. waiting weak k y (mild.comes y m);
    once = h.once;
    condemned = λ y m. marked y (mild.comes y m);
    turns = λ c m o e. let t = h.turns c m o e
        in (
          t.0,
          λ y k i. refers o t.1 (h.stack_lives o (held_by_member w.stack (Collecting c) o m (subst (λ p. Includes (collect_holds p) o) (sym e)
              (inl refl)))) y (mild.comes y k) i,
        );
  })

-- the activity on top when a command is done
no_clearing : (a : Activity) (below : List Activity) → HasCommands a → IsClearing (a ∷ below) → ⊥
no_clearing (TopLevel commands) below h k = k
no_clearing (Framed f) below h k = k
no_clearing (ShuttingDown started) below h k = k
no_clearing a below h k = absurd h

no_waits : (a : Activity) → HasCommands a → waits_of a ≡ []
no_waits (TopLevel commands) h = refl
no_waits (Framed f) h = refl
no_waits (ShuttingDown started) h = refl
no_waits a h = absurd h

pub turned_orderly : (a b : Activity) (below : List Activity) (v : World) → HasCommands a → HasCommands b
    → ((o : ℕ) → Includes (holds b) o → Includes (holds a) o) → HasOrder (with_stack (a ∷ below) v) → HasOrder (with_stack (b ∷ below) v)
turned_orderly a b below v ha hb fewer h = turns_fewer a b h
    (λ o m. h.stack_lives o (Includes-append_left (holds a) (flat_map holds below) o (fewer o m))) (λ d e. absurd (no_death b hb d e))
    (λ weak m. absurd (subst (λ ws. Includes ws weak) (no_waits b hb) m)) (λ weak. let none : occurrences weak (waits_of b) ≡ 0 = ap (occurrences weak)
    (no_waits b hb) in omega (arith, none)) (λ c o e. absurd (no_collection b hb c e)) (λ x m e k. either k (λ n. absurd (no_clearing a below ha n))
    (λ n. inr (inr n)))
  where
    no_collection : (a : Activity) → HasCommands a → (c : Collection) → a ≢ Collecting c
    no_collection (TopLevel commands) h c e = cc
    no_collection (Framed f) h c e = cc
    no_collection (ShuttingDown started) h c e = cc
    no_collection a h c e = absurd h

collects_orderly : (a : Activity) (g : ℕ) (asked : Bool) (below : List Activity) (v : World) → HasCommands a → HasOrder (with_stack (a ∷ below) v)
    → HasOrder (push (new_collection g asked (with_stack (a ∷ below) v)) (with_stack (a ∷ below) v))
collects_orderly a g asked below v ha h = push_orderly (new_collection g asked (with_stack (a ∷ below) v)) refl
    (no_clearing a below ha) (λ o k. absurd k) (λ d e. cc) (λ c o e k. starts c o e k) h
  where
    starts : (c : Collection) (o : ℕ) → new_collection g asked (with_stack (a ∷ below) v) ≡ Collecting c → c.phase ≢ Turn o
    starts c o e k =
        let phase : Start ≡ c.phase = let same : record { generation = g; flags = v.numbers.flags; asked = asked; collected = 0; phase = Start } ≡ c = cc in ap (λ (z : Collection). z.phase) same in
        let no : Start ≡ Turn o = phase ∙ k in cc

emptied_orderly : (a : Activity) (below : List Activity) (v : World) → HasCommands a → HasOrder (on a below v) → HasOrder (on (emptied a) below v)
emptied_orderly (TopLevel commands) below v ha h = turned_orderly (TopLevel commands) (TopLevel []) below v tt tt (λ o k. k) h
emptied_orderly (Framed f) below v ha h = turned_orderly (Framed f) (Framed (record f { commands = [] })) below v tt tt (λ o k. k) h
emptied_orderly (ShuttingDown started) below v ha h = h
emptied_orderly a below v ha h = absurd ha

pub taken_orderly : (command : Command) (a b : Activity) (below : List Activity) (v : World) → Takes command a b → HasOrder (on a below v) → HasOrder (on b below v)
taken_orderly command a b below v (FromTop commands) h = turned_orderly (TopLevel (command ∷ commands)) (TopLevel commands) below v tt tt (λ o k. k) h
taken_orderly command a b below v (FromFrame f commands left) h = turned_orderly (Framed f) (Framed (record f { commands = commands })) below v tt tt (λ o k. k) h

command_does : (script : Script) (w : World) (command : Command) (a : Activity) (below : List Activity) (v : World) → HasCommands a
    → Rises 1 v.next_serial v.objects → Calm script (on a below v) → HasOrder (on a below v) → CommandSteps script (λ w events. HasOrder) w command
    (on a below v) a below
command_does script w command a below v ha rises c h = record {
  stays = λ lines answers. h;
  stops = λ lines answers. emptied_orderly a below v ha h;
  changes = λ wants_memory lines given_up after shape.
      let l = changes_leave (on a below v) command wants_memory lines given_up after shape in
      let m = shape_mild script (on a below v) rises c.over command (Changes wants_memory lines given_up after) shape in
      gives_up_orderly given_up after (λ k. no_clearing a below ha (subst IsClearing l.stack k)) (given_live script (on a below v) rises c.over c.referred h
      after given_up l.stack m) (command_orderly script (on a below v) rises c.over c.referred h after given_up l.stack m);
  calls = λ f k. starts_orderly script (record { sort = CallFrame; proc = procedure_of (on a below v) f.serial; subject = f.serial; func = Some f.serial }) (on a below v) (no_clearing a below ha)
      (λ o m. either m (λ e. subst (Includes (serials v.objects)) e (Includes-map (λ (z : Object). z.serial) v.objects f k.member)) (λ n. absurd n)) h;
  asks = λ g low e. collects_orderly a g true below v ha h;
}

keeps_order : (script : Script) → Steps script (λ w. (Sound w × Calm script w) × HasOrder w) (λ w events. HasOrder)
keeps_order script = record {
  starts_due = λ a below v ha g e k. collects_orderly a g false below v ha k.1;
  ends = λ a lines below v last k. k.1;
  shuts_down = λ below v k. turned_orderly (TopLevel []) (ShuttingDown false) below v tt tt (λ o i. i) k.1;
  gives_up = λ name below v e k. (command_does script (on (ShuttingDown false) below v) (Del name) (ShuttingDown false) below v tt k.0.0.rises k.0.1
      k.1).changes false [] _ _ (del_shaped (on (ShuttingDown false) below v) name);
  collects_last = λ below v k. collects_orderly (ShuttingDown true) 2 false below v tt (turned_orderly (ShuttingDown false) (ShuttingDown true) below v tt tt (λ o i. i) k.1);
  commands = λ command a b below v takes hb k. command_does script (on a below v) command b below v hb k.0.0.rises (taken_calm script below v command a b takes
      k.0.1) (taken_orderly command a b below v takes k.1);
  frame_ends = λ f below v left k. frame_end_orderly f below v k.1;
  releases = λ references below v k. released_orderly references below v k.1;
  dies = λ d below v k. dying_orderly script d.object below v k.0.0.rises d.phase k.0.1 k.1;
  collects = λ c below v events after step k. phase_orderly script c below v k.0.0.rises c.phase events after step k.1;
}

pub step_orderly : (script : Script) (w : World) (events : List Event) (after : World) → Step script w events after → Sound w → Calm script w → HasOrder w → HasOrder after
step_orderly script w events after step sound c h = any_step script (λ u. (Sound u × Calm script u) × HasOrder u) (λ u events. HasOrder) (keeps_order script) w events after step ((sound, c), h)

pub opening_orderly : (script : Script) (budget : ℕ) → HasOrder (opening script budget)
opening_orderly script budget = record {
  names_live = λ o m. absurd (no_names (length script.names) o m);
  root_lives = inl refl;
  entries_live = λ x m o k. absurd (none x m o k);
  stack_lives = λ o m. absurd m;
  deaths_live = λ d m. either m (λ e. cc) (λ n. absurd n);
  callbacks = λ x m e f k. absurd (none x m f k);
  codes = λ x m r e. either m (λ i. let no : None ≡ Some r = ap (λ (z : Object). z.referent) i ∙ e in absurd (cc)) (λ n. absurd n);
  garbage = λ x m e. either m (λ i. sym (ap (λ (z : Object). z.code) i)) (λ n. absurd n);
  waiting = λ weak k. absurd k;
  once = λ weak. omega arith;
  condemned = λ x m e. either m (λ i. let no : false ≡ true = ap is_condemned i ∙ e in absurd (cc)) (λ n. absurd n);
  turns = λ c m o e. either m (λ i. cc) (λ n. absurd n);
}
  where
    none : (x : Object) → Includes (garbage_list ∷ []) x → (o : ℕ) → ¬ Includes (references x.entries) o
    none x m o k = either m (λ i. subst (λ (z : Object). Includes (references z.entries) o) (sym i) k) (λ n. n)

    no_names : (n o : ℕ) → ¬ Includes (name_holdings (replicate n None)) o
    no_names zero o k = k
    no_names (suc n) o k = no_names n o k

pub orderly_after : (script : Script) (w : World) (steps : List StepTaken) → Sound w → Calm script w → HasOrder w → Run script w steps
    → Calm script (last_world w steps) × HasOrder (last_world w steps)
orderly_after script w [] sound calm h run = (calm, h)
orderly_after script w (step ∷ steps) sound calm h run =
    orderly_after script step.world steps (step_falls script w step.events step.world run.0 sound).0 (step_calm script w step.events step.world run.0 sound
    calm) (step_orderly script w step.events step.world run.0 sound calm h) run.1

death_in : (script : Script) (w : World) (o : ℕ) (phase : DyingPhase) → Includes (serials w.objects) o → Stands script w o phase → IsDeathIn w.objects (record { object = o; phase = phase })
death_in script w o Finalizer lives h = record { lives = lives; refers_to_none = λ x m. (h.quiet x m).refers_to_none; untracked = λ t x m. (h.quiet x m).untracked; unreferred = λ t. cc }
death_in script w o AfterFinalizer lives h = record { lives = lives; refers_to_none = h.refers_to_none; untracked = λ t. cc; unreferred = λ t. cc }
death_in script w o (Clearing waiting) lives h = record { lives = lives; refers_to_none = λ x m. (h.0.quiet x m).refers_to_none; untracked = λ t x m. (h.0.quiet x m).untracked; unreferred = λ t. cc }
death_in script w o (Calling waiting) lives h = record {
  lives = lives;
  refers_to_none = λ x m. (h.0.unheld.quiet x m).refers_to_none;
  untracked = λ t x m. (h.0.unheld.quiet x m).untracked;
  unreferred = λ t. h.0.unreferred;
}
death_in script w o (AfterCall weak callback waiting) lives h = record {
  lives = lives;
  refers_to_none = h.0.refers_to_none;
  untracked = λ t x m. (h.1.unheld.quiet x m).untracked;
  unreferred = λ t. h.1.unreferred;
}
death_in script w o AfterLegacy lives h = record { lives = lives; refers_to_none = h.0.refers_to_none; untracked = λ t. cc; unreferred = λ t. cc }
death_in script w o Detaching lives h = record { lives = lives; refers_to_none = λ x m. (h.0.quiet x m).refers_to_none; untracked = λ t x m. (h.0.quiet x m).untracked; unreferred = λ t. cc }
death_in script w o phase lives h = record {
  lives = lives;
  refers_to_none = λ x m. (h.unheld.quiet x m).refers_to_none;
  untracked = λ t x m. (h.unheld.quiet x m).untracked;
  unreferred = λ t. h.unreferred;
}

pub held_live : (w : World) → HasOrder w → (o : ℕ) → Includes (holdings w) o → Includes (serials w.objects) o
held_live w h o m = either (Includes-append_cases (names ++ (1 ∷ []) ++ entries) (flat_map holds w.stack) o m) front (h.stack_lives o)
  where
    names : List ℕ
    names = name_holdings w.names

    entries : List ℕ
    entries = entry_holdings (graph_of w.objects)

    named : Includes (names ++ (1 ∷ [])) o → Includes (serials w.objects) o
    named k = either (Includes-append_cases names (1 ∷ []) o k) (h.names_live o) (λ n. either n (λ e. subst (Includes (serials w.objects)) e h.root_lives) (λ n. absurd n))

    front : Includes (names ++ (1 ∷ []) ++ entries) o → Includes (serials w.objects) o
    front k = either (Includes-append_cases (names ++ (1 ∷ [])) entries o k) named (λ n. let x = entry_holder w.objects o n in h.entries_live x.0 x.1 o x.2)

-- the locals of frames are held, and deaths are of different objects
local_held : (sort : FrameSort) (o : ℕ) (below : List Activity) → IsLocalHeld sort o below → sort ≢ CallFrame → Includes (flat_map holds below) o
local_held CallFrame o below h other = absurd (other refl)
local_held sort o below h other = h

locals_held : (stack : List Activity) → AreOver stack → (f : Frame) → Includes stack (Framed f) → f.sort ≢ CallFrame → Includes (flat_map holds stack) f.subject
locals_held [] h f m other = absurd m
locals_held (a ∷ below) h f (inl e) other = Includes-append_right (holds a) (flat_map holds below) f.subject (local_held f.sort f.subject below (subst (λ b. IsOver b below) e h.0) other)
locals_held (a ∷ below) h f (inr m) other = Includes-append_right (holds a) (flat_map holds below) f.subject (locals_held below h.1 f m other)

deaths_of_others : (stack : List Activity) → AreOver stack → AreDeathsOfOthers stack
deaths_of_others [] h = tt
deaths_of_others (a ∷ below) h = (λ d i e m. not_dying d.object below e (subst (λ b. IsOver b below) i h.0) m, deaths_of_others below h.1)

pub worlds_orderly : WorldsAreOrderly
worlds_orderly script budget steps run =
    let w = last_world (opening script budget) steps in
    let both = orderly_after script (opening script budget) steps (opening_sound script budget) (opening_calm script budget) (opening_orderly script budget) run in record {
      held_live = held_live w both.1;
      referents = λ x m r e. (both.1.codes x m r e, both.0.referred x m r e);
      callbacks = both.1.callbacks;
      locals = λ f m other. both.1.stack_lives f.subject (locals_held w.stack both.0.over f m other);
      others = deaths_of_others w.stack both.0.over;
      deaths = λ d m. death_in script w d.object d.phase (both.1.deaths_live d m) (death_stands script w w.stack both.0.stack d m);
      waiting = both.1.waiting;
      once = both.1.once;
      condemned = λ x m e. (both.1.condemned x m e).0;
    }
