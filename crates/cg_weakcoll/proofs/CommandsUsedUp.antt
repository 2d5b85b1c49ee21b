-- While no frame begins, commands only become fewer, and an activity without commands binds no name. So names stay until the
-- activity that was on top takes its next command.
use Rattle.std.proofs.Common.{◌≡◌, ◌≢◌, refl, ap, ℕ, suc, ◌<◌, ◌≤◌, true, false, inl, inr, ◌⊎◌, List, [], ◌∷◌, ◌++◌, length, Option, arith}
use Rattle.std.specs.Prelude.{count_by}
use Rattle.cg_value.specs.declared.Val.{Val}
use Rattle.cg_script.specs.declared.Script.{Script}
use Rattle.cg_script.specs.declared.Command.{Command}
use Rattle.cg_graph.specs.Object.{Object}
use Rattle.cg_machine.specs.declared.event.Event.{Event}
use Rattle.cg_machine.specs.World.{World, Numbers, Activity, TopLevel, Framed, Releasing, Dying, Collecting, ShuttingDown, Running, Ended, push}
use Rattle.cg_machine.specs.Collect.{waits}
use Rattle.cg_laws.specs.Origins.{commands_on}
use Rattle.cg_machine.specs.Commands.{new_collection}
use Rattle.cg_laws.specs.Laws.{is_enter}
use Rattle.cg_machine.specs.Run.{Step}
use Rattle.cg_laws.proofs.Advances.{Advance, Plainly, WithFrame, Continues, DeathGoesOn, Tops, TopEnds, GivesFunction, TopGoesOn, GivesReferences}
use Rattle.cg_laws.proofs.Advancing.{frame_end_advances, released_advances, dying_advances, phase_advances}
use Rattle.cg_laws.proofs.Sums.{tally}
use Rattle.cg_laws.proofs.ShapeLaws.{changes_leave}
use Rattle.cg_laws.proofs.Invariants.{HasCommands, Takes, FromTop, FromFrame, Steps, any_step, emptied, on}
use Rattle.cg_promises.proofs.KeptRuns.{starts_none}

-- the work that an activity has left: its commands, and its end
abbrev pub weight : Activity → ℕ
weight (TopLevel commands) = suc (length commands)
weight (Framed f) = suc (length f.commands)
weight (ShuttingDown started) = 1
weight a = 0

-- A step of the top activity, which others replace.
pub record Burnt (top : Activity) (tops : List Activity) (names now : List (Option Val)) : Type 0 where
  pub light : tally weight tops ≤ weight top
  pub kept : weight top ≡ 0 → now ≡ names
  -- an activity with commands takes one, or waits for a due collection
  pub next : commands_on top ≢ [] → (tally weight tops < weight top) ⊎ ((c : Activity) × (tops ≡ c ∷ top ∷ []) × (weight c ≡ 0) × (now ≡ names))

pub record Burns (w after : World) : Type 0 where
  pub top : Activity
  pub below : List Activity
  pub tops : List Activity
  pub was : w.stack ≡ top ∷ below
  pub now : after.stack ≡ tops ++ below
  pub burnt : Burnt top tops w.names after.names

-- where no frame begins and the run goes on
abbrev pub BurnsSo : World → List Event → World → Type 0
BurnsSo w events after = count_by is_enter events ≡ 0 → after.outcome ≡ Running → Burns w after

idle : (a : Activity) (below tops : List Activity) (w after : World) → weight a ≡ 0 → commands_on a ≡ [] → w.stack ≡ a ∷ below → after.stack ≡ tops ++ below
    → tally weight tops ≡ 0 → after.names ≡ w.names → Burns w after
idle a below tops w after light none was now idle_tops names = record {
  top = a;
  below = below;
  tops = tops;
  was = was;
  now = now;
  burnt = record { light = omega (arith, light, idle_tops); kept = λ e. names; next = λ some. absurd (some none) };
}

takes_one : (a : Activity) (below tops : List Activity) (w after : World) → w.stack ≡ a ∷ below → after.stack ≡ tops ++ below → tally weight tops < weight a → Burns w after
takes_one a below tops w after was now less = record {
  top = a;
  below = below;
  tops = tops;
  was = was;
  now = now;
  burnt = record {
    light = omega (arith, less);
    kept = λ e. absurd (omega (arith, less, e));
    next = λ some. inl less;
  };
}

closes : (a : Activity) (below tops : List Activity) (w after : World) → commands_on a ≡ [] → 0 < weight a → w.stack ≡ a ∷ below → after.stack ≡ tops ++ below
    → tally weight tops ≤ weight a → Burns w after
closes a below tops w after none some was now light = record {
  top = a;
  below = below;
  tops = tops;
  was = was;
  now = now;
  burnt = record { light = light; kept = λ e. absurd (omega (arith, some, e)); next = λ k. absurd (k none) };
}

-- what goes on in another activity's step
continues_idle : (before after : List Object) (top a : Activity) → Continues before after top a → (weight top ≡ 0) × (commands_on top ≡ []) × (weight a ≡ 0)
continues_idle before after top a (DeathGoesOn o phase next waits none) = (refl, refl, refl)
continues_idle before after top a other = (refl, refl, refl)

module _ (script : Script) (below : List Activity) (v : World) where
  stands : (top : Activity) → (commands_on top ≡ []) → (objects : List Object) (numbers : Numbers) (tops : List Activity) → Tops v.objects objects top tops
      → Burns (on top below v) (record v { objects = objects; numbers = numbers; stack = tops ++ below })
  stands top none objects numbers tops (TopEnds a gone) = ends a none
    where
      w : World
      w = record v { objects = objects; numbers = numbers; stack = below }

      ends : (a : Activity) → commands_on a ≡ [] → Burns (on a below v) w
      ends (Releasing references) e = idle (Releasing references) below [] (on (Releasing references) below v) w refl refl refl refl refl refl
      ends (Dying d) e = idle (Dying d) below [] (on (Dying d) below v) w refl refl refl refl refl refl
      ends (Collecting c) e = idle (Collecting c) below [] (on (Collecting c) below v) w refl refl refl refl refl refl
      ends a e = closes a below [] (on a below v) w e (omega arith) refl refl (omega arith)
  stands top none objects numbers tops (GivesFunction f references few) = closes top below tops (on top below v) _ none (omega arith) refl refl (omega arith)
  stands top none objects numbers tops (TopGoesOn b a c held) = let k = continues_idle v.objects objects b a c in idle b below (a ∷ []) (on b below v) _ k.0 k.1 refl refl (omega (arith, k.2)) refl
  stands top none objects numbers tops (GivesReferences b a references few c held) = let k = continues_idle v.objects objects b a c
      in idle b below (Releasing references ∷ a ∷ []) (on b below v) _ k.0 k.1 refl refl (omega (arith, k.2)) refl
  stands top none objects numbers tops other = idle top below tops (on top below v) _ refl refl refl refl refl refl

  advance_burns : (top : Activity) → (commands_on top ≡ []) → (lines : List Event) (after : World) → Advance script v top below lines after → BurnsSo (on top below v) lines after
  advance_burns top none lines after (Plainly tops objects numbers ls t c n shown) quiet running = stands top none objects numbers tops t
  advance_burns top none lines after (WithFrame spec a objects s c held m) quiet running =
      absurd (starts_none script spec (record v { objects = objects; stack = a ∷ below }) _ _ (refl, refl) quiet running)

fewer : (command : Command) (a b : Activity) → Takes command a b → weight b < weight a
fewer command a b (FromTop commands) = omega arith
fewer command a b (FromFrame f commands left) = let longer : length f.commands ≡ suc (length commands) = ap length left in omega (arith, longer)

emptied_light : (b : Activity) → HasCommands b → weight (emptied b) ≤ weight b
emptied_light (TopLevel commands) h = omega arith
emptied_light (Framed f) h = omega arith
emptied_light (ShuttingDown started) h = omega arith
emptied_light b h = absurd h

ends_never : (w : World) (lines : List Event) → BurnsSo w lines (record w { outcome = Ended })
ends_never w lines quiet running = absurd (let no : Ended ≡ Running = running in cc)

burns_steps : (script : Script) → Steps script (λ w. Unit {0}) BurnsSo
burns_steps script = record {
  starts_due = λ a below v ha g e k quiet running. record {
    top = a;
    below = below;
    tops = new_collection g false (on a below v) ∷ a ∷ [];
    was = refl;
    now = refl;
    burnt = record { light = omega arith; kept = λ i. refl; next = λ some. inr (new_collection g false (on a below v), refl, refl, refl) };
  };
  ends = λ a lines below v last k. ends_never (on a below v) lines;
  shuts_down = λ below v k quiet running. closes (TopLevel []) below (ShuttingDown false ∷ []) (on (TopLevel []) below v) (on (ShuttingDown false) below v) refl (omega arith) refl refl (omega arith);
  gives_up = λ name below v e k quiet running. closes (ShuttingDown false) below (Releasing _ ∷ ShuttingDown false ∷ []) (on (ShuttingDown false) below v) _ refl (omega arith) refl refl (omega arith);
  collects_last = λ below v k quiet running. closes (ShuttingDown false) below (new_collection 2 false (on (ShuttingDown false) below v) ∷ ShuttingDown true
      ∷ []) (on (ShuttingDown false) below v) _ refl (omega arith) refl refl (omega arith);
  commands = λ command a b below v takes hb k. record {
    stays = λ lines answers quiet running. takes_one a below (b ∷ []) (on a below v) (on b below v) refl refl (omega (arith, fewer command a b takes));
    stops = λ lines answers quiet running. takes_one a below (emptied b ∷ []) (on a below v) (on (emptied b) below v) refl refl (omega (arith, fewer command a b takes, emptied_light b hb));
    changes = λ wants_memory lines given_up after shape quiet running. takes_one a below (Releasing given_up ∷ b ∷ []) (on a below v)
        (push (Releasing given_up) after) refl (ap (λ st. Releasing given_up ∷ st) (changes_leave (on b below v) command wants_memory lines given_up after
        shape).stack) (omega (arith, fewer command a b takes));
    calls = λ f h quiet running. absurd (starts_none script _ _ _ _ (refl, refl) quiet running);
    asks = λ g low e quiet running. takes_one a below (new_collection g true (on b below v) ∷ b ∷ []) (on a below v)
        (push (new_collection g true (on b below v)) (on b below v)) refl refl (omega (arith, fewer command a b takes));
  };
  frame_ends = λ f below v left k. advance_burns script below v (Framed f) left _ _ (frame_end_advances script f below v);
  releases = λ references below v k. advance_burns script below v (Releasing references) refl _ _ (released_advances script references below v);
  dies = λ d below v k. advance_burns script below v (Dying d) refl _ _ (dying_advances script d.object below v d.phase);
  collects = λ c below v events after step k. advance_burns script below v (Collecting c) refl events after (phase_advances script c below v c.phase events after step);
}

pub step_burns : (script : Script) (w : World) (events : List Event) (after : World) → Step script w events after → count_by is_enter events ≡ 0 → after.outcome ≡ Running → Burns w after
step_burns script w events after step quiet running = any_step script (λ u. Unit {0}) BurnsSo (burns_steps script) w events after step tt quiet running
