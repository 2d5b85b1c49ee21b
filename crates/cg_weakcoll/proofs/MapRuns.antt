-- What a look-up in a weak value map finds.
use Rattle.std.proofs.Common.{◌≡◌, ◌≢◌, refl, sym, ◌∙◌, ap, subst, ℕ, zero, suc, ◌+◌, ◌<◌, false, cond, inl, inr, ◌⊎◌, List, [], ◌∷◌, ◌++◌, length, Option, Some, None, Ok, arith}
use Rattle.std.specs.Prelude.{count_by, option_and_then, slice_get, slice_set}
use Rattle.std.proofs.lemmas.List.{append_assoc}
use Rattle.std.proofs.lemmas.List.Sums.{sum_by-append}
use Rattle.cg_value.specs.declared.Val.{Val}
use Rattle.cg_value.specs.declared.Val.TheVariants.{Ref}
use Rattle.cg_script.specs.declared.Script.{Script}
use Rattle.cg_script.specs.declared.Operand.{Operand}
use Rattle.cg_script.specs.declared.Operand.TheVariants.{Name}
use Rattle.cg_script.specs.declared.Command.{Command}
use Rattle.cg_script.specs.declared.Command.TheVariants.{Get, Deref}
use Rattle.cg_graph.proofs.Members.{either}
use Rattle.cg_machine.specs.declared.event.Event.{Event}
use Rattle.cg_machine.specs.World.{World, Activity, TopLevel, Framed, Releasing, Running, push, with_stack}
use Rattle.cg_machine.specs.Operands.{value_of}
use Rattle.cg_laws.specs.Origins.{commands_on}
use Rattle.cg_machine.specs.Effects.{bound, given_up_by}
use Rattle.cg_machine.specs.Commands.{DoesEffect}
use Rattle.cg_laws.specs.Laws.{is_enter}
use Rattle.cg_machine.specs.Run.{StepTaken, Step, Run, events_of, last_world}
use Rattle.cg_laws.proofs.Sums.{tally, tally-append}
use Rattle.cg_laws.proofs.Ending.{last_world-append}
use Rattle.cg_promises.proofs.FinalizerOnceRuns.{run_back, run_front}
use Rattle.cg_weakcoll.specs.Maps.{LookFinds, Look, Looks, before_second, before_third, referent_value, steps_before_third, steps_of}
use Rattle.cg_weakcoll.proofs.CommandsUsedUp.{Burns, step_burns, weight}
use Rattle.cg_weakcoll.proofs.TakenCommands.{Derefs, Done, Gets, changes_so, deref_derefs, get_gets, taken_done}

stays_none : (names : List (Option Val)) (x : ℕ) (u v : Val) → option_and_then (λ v. v) (slice_get (slice_set names x (Some u)) x) ≡ Some v → u ≡ v
stays_none [] x u v h = absurd (let no : None ≡ Some v = h in cc)
stays_none (p ∷ names) zero u v h = let same : u ≡ v = cc in same
stays_none (p ∷ names) (suc x) u v h = stays_none names x u v h

bound_there : (names : List (Option Val)) (x : ℕ) (u v : Val) → option_and_then (λ v. v) (slice_get names x) ≡ Some v → option_and_then (λ v. v) (slice_get (slice_set names x (Some u)) x) ≡ Some u
bound_there [] x u v h = absurd (let no : None ≡ Some v = h in cc)
bound_there (p ∷ names) zero u v h = refl
bound_there (p ∷ names) (suc x) u v h = bound_there names x u v h

-- an activity with commands left
weight_of_commands : (a : Activity) → commands_on a ≢ [] → weight a ≡ suc (length (commands_on a))
weight_of_commands (TopLevel commands) some = refl
weight_of_commands (Framed f) some = refl
weight_of_commands a some = absurd (some refl)

pub count_append : (xs ys : List Event) → count_by is_enter (xs ++ ys) ≡ count_by is_enter xs + count_by is_enter ys
count_append xs ys = sum_by-append (λ e. cond (is_enter e) 1 0) xs ys

-- While no frame begins, the top activity keeps its names, or has taken a command.
module _ (script : Script) (top : Activity) (below : List Activity) (some : commands_on top ≢ []) (names : List (Option Val)) where
  abbrev Still : World → Type 0
  Still w = ((tops : List Activity) × (w.stack ≡ tops ++ top ∷ below) × (tally weight tops ≡ 0) × (w.names ≡ names)) ⊎ (tally weight w.stack < tally weight (top ∷ below))

  module _ (w after : World) (b : Burns w after) where
    was : tally weight w.stack ≡ weight b.top + tally weight b.below
    was = ap (tally weight) b.was

    now : tally weight after.stack ≡ tally weight b.tops + tally weight b.below
    now = ap (tally weight) b.now ∙ tally-append weight b.tops b.below

    on_top : w.stack ≡ top ∷ below → w.names ≡ names → Still after
    on_top is same =
        let both : b.top ∷ b.below ≡ top ∷ below = sym b.was ∙ is in
        let first : b.top ≡ top = cc in
        let rest : b.below ≡ below = cc in
        either (b.burnt.next (subst (λ (a : Activity). commands_on a ≢ []) (sym first) some))
        (λ less. let t : weight b.top ≡ weight top = ap weight first in let r : tally weight b.below ≡ tally weight below = ap (tally weight) rest in inr (omega (arith, less, now, t, r)))
        (λ waits. inl (
          waits.0 ∷ [],
          b.now ∙ ap (λ (st : List Activity). st ++ b.below) waits.1 ∙ ap (λ (a : Activity). waits.0 ∷ a ∷ b.below) first
              ∙ ap (λ (st : List Activity). waits.0 ∷ top ∷ st) rest,
          (let light = waits.2 in omega (arith, light)),
          waits.3 ∙ same,
        ))

    under : (a : Activity) (tops : List Activity) → w.stack ≡ a ∷ tops ++ top ∷ below → tally weight (a ∷ tops) ≡ 0 → w.names ≡ names → Still after
    under a tops is light same =
        let both : b.top ∷ b.below ≡ a ∷ (tops ++ top ∷ below) = sym b.was ∙ is in
        let first : b.top ≡ a = cc in
        let rest : b.below ≡ tops ++ top ∷ below = cc in
        let none : weight b.top ≡ 0 = (let t : weight b.top ≡ weight a = ap weight first in omega (arith, t, light)) in
        inl (
          b.tops ++ tops,
          b.now ∙ ap (λ (st : List Activity). b.tops ++ st) rest ∙ sym (append_assoc b.tops tops (top ∷ below)),
          (let l = b.burnt.light in omega (arith, l, none, light, tally-append weight b.tops tops)),
          b.burnt.kept none ∙ same,
        )

  step_still : (w after : World) → Burns w after → Still w → Still after
  step_still w after b (inl ([], is, light, same)) = on_top w after b is same
  step_still w after b (inl (a ∷ tops, is, light, same)) = under w after b a tops is light same
  step_still w after b (inr less) = let l = b.burnt.light in inr (omega (arith, less, l, was w after b, now w after b))

  running_first : (w : World) (steps : List StepTaken) → Run script w steps → (last_world w steps).outcome ≡ Running → w.outcome ≡ Running
  running_first w [] run running = running
  running_first w (step ∷ steps) run running = run.0.running

  run_still : (w : World) (steps : List StepTaken) → Run script w steps → count_by is_enter (events_of steps) ≡ 0 → (last_world w steps).outcome ≡ Running → Still w → Still (last_world w steps)
  run_still w [] run quiet running still = still
  run_still w (step ∷ steps) run quiet running still =
      let counts = count_append step.events (events_of steps) in
      let here : count_by is_enter step.events ≡ 0 = omega (arith, counts, quiet) in
      let later : count_by is_enter (events_of steps) ≡ 0 = omega (arith, counts, quiet) in
      run_still step.world steps run.1 later running (step_still w step.world (step_burns script w step.events step.world run.0 here (running_first step.world steps run.1 running)) still)

  -- So names stay until its next command is taken.
  pub names_stay : (w : World) (steps : List StepTaken) → Run script w steps → count_by is_enter (events_of steps) ≡ 0 → (last_world w steps).outcome ≡ Running
      → (given_up : List ℕ) → w.stack ≡ Releasing given_up ∷ top ∷ below → w.names ≡ names
      → (next : Activity) → (last_world w steps).stack ≡ next ∷ below → commands_on next ≡ commands_on top → (last_world w steps).names ≡ names
  names_stay w steps run quiet running given_up is same next later left =
      either (run_still w steps run quiet running (inl (Releasing given_up ∷ [], is, refl, same))) (λ k. k.3)
      (λ less.
      let heavy : weight next ≡ weight top = weight_of_commands next (λ e. some (sym left ∙ e)) ∙ ap (λ (cs : List Command). suc (length cs)) left ∙ sym (weight_of_commands top some) in
      let all : tally weight (last_world w steps).stack ≡ weight next + tally weight below = ap (tally weight) later in
      absurd (omega (arith, less, heavy, all)))

-- the steps of a look-up
pub record Parts (script : Script) (w : World) (look : Look) : Type 0 where
  pub world : last_world w (steps_before_third look) ≡ before_third look
  pub front : Run script w (steps_before_third look)
  pub second : Step script (before_second look) look.second.events look.second.world
  pub late : Run script look.second.world look.late
  pub third : Step script (before_third look) look.third.events look.third.world

pub parts : (script : Script) (w : World) (look : Look) → Run script w (steps_of look) → Parts script w look
parts script w look run =
    let world : last_world w (steps_before_third look) ≡ before_third look = last_world-append w (look.first ∷ look.early) (look.second ∷ look.late) in
    let front = run_front script w (steps_before_third look) (look.third ∷ []) run in
    let back = run_back script w (look.first ∷ look.early) (look.second ∷ look.late) front in
    let last = run_back script w (steps_before_third look) (look.third ∷ []) run in
    record { world = world; front = front; second = back.0; late = back.1; third = subst (λ (z : World). Step script z look.third.events look.third.world) world last.0 }

-- what a look-up finds; the variable holds the weak reference before the third command
pub record Found (look : Look) (x : ℕ) (map key : Operand) : Type 0 where
  pub finds : LookFinds look x map key
  pub held : value_of (before_third look) (Name x) ≡ Some (Ref finds.weak)

module _ (script : Script) (w : World) (look : Look) (p : Parts script w look) (x : ℕ) (map key : Operand) (looks : Looks w x map key look) where
  got : Done script (before_second look) (Get x map key) (Deref x (Name x) ∷ looks.rest) looks.below look.second
  got = taken_done script (before_second look) (Get x map key) (Deref x (Name x) ∷ looks.rest) looks.below look.second p.second looks.gets

  asked : Done script (before_third look) (Deref x (Name x)) looks.rest looks.below look.third
  asked = taken_done script (before_third look) (Deref x (Name x)) looks.rest looks.below look.third p.third looks.derefs

  abbrev at_second : World
  at_second = with_stack (got.top ∷ looks.below) (before_second look)

  abbrev at_third : World
  at_third = with_stack (asked.top ∷ looks.below) (before_third look)

  pub found : Found look x map key
  found = record {
    finds = record {
      weak = d.weak;
      under = record {
        dict = g.dict;
        at = g.at;
        map_is = sym (got.values map) ∙ g.map_is;
        key_is = sym (got.values key) ∙ g.key_is;
        entry = g.entry ∙ ap (λ v. Some v) same;
      };
      reference = d.reference;
      member = d.member;
      serial = d.serial;
      code = d.code;
      value = ap (λ (z : World). value_of z (Name x)) third_so.1 ∙ bound_there (before_third look).names x (referent_value d.reference.referent) (Ref d.weak) d.word_is;
    };
    held = d.word_is;
  }
    where
      g : Gets at_second x map key got.what
      g = get_gets at_second x map key got.what got.is

      d : Derefs at_third x (Name x) asked.what
      d = deref_derefs at_third x (Name x) asked.what asked.is

      second_so : (look.second.events ≡ []) × (look.second.world ≡ push (Releasing (given_up_by at_second x)) (bound at_second x (Some g.val)))
      second_so = changes_so script at_second false [] (given_up_by at_second x) (bound at_second x (Some g.val)) look.second.events look.second.world
          looks.gets.accepted (subst (λ e. DoesEffect script at_second (Ok e) look.second.events look.second.world) g.is got.does)

      third_so : (look.third.events ≡ []) × (look.third.world ≡ push (Releasing (given_up_by at_third x)) (bound at_third x (Some (referent_value d.reference.referent))))
      third_so = changes_so script at_third false [] (given_up_by at_third x) (bound at_third x (Some (referent_value d.reference.referent))) look.third.events
          look.third.world looks.derefs.accepted (subst (λ e. DoesEffect script at_third (Ok e) look.third.events look.third.world) d.is asked.does)

      names : (before_third look).names ≡ slice_set (before_second look).names x (Some g.val)
      names = names_stay script got.top looks.below (λ e. absurd (let no : Deref x (Name x) ∷ looks.rest ≡ [] = sym got.commands ∙ e in cc)) (slice_set (before_second look).names x (Some g.val))
          look.second.world look.late p.late (let counts = count_append look.second.events (events_of look.late) in let none = looks.no_frame in omega (arith, counts, none)) p.third.running
          (given_up_by at_second x) (ap (λ (z : World). z.stack) second_so.1) (ap (λ (z : World). z.names) second_so.1) looks.derefs.top looks.derefs.stack (looks.derefs.commands ∙ sym got.commands)

      same : g.val ≡ Ref d.weak
      same = stays_none (before_second look).names x g.val (Ref d.weak) (subst (λ (ns : List (Option Val)). option_and_then (λ v. v) (slice_get ns x) ≡ Some (Ref d.weak)) names d.word_is)
