-- In every world of a run, generations are 0, 1 and 2.
use Rattle.std.proofs.Common.{◌≡◌, sym, subst, ℕ, ◌≤◌, Bool, true, false, not, ◌&&◌, List, [], ◌∷◌, Some, None, arith}
use Rattle.std.specs.Prelude.{◌/◌, ◌==◌, ◌||◌, nat_lt, if◌then◌else◌}
use Rattle.cg_value.specs.declared.Val.{Val}
use Rattle.cg_value.specs.declared.Place.{Place}
use Rattle.cg_value.specs.declared.Place.TheVariants.{Gen, Frozen}
use Rattle.cg_value.specs.declared.KindCode.{KindCode}
use Rattle.cg_value.specs.declared.KindCode.TheVariants.{Dict}
use Rattle.cg_script.specs.declared.Script.{Script}
use Rattle.cg_script.specs.declared.Command.{Command}
use Rattle.cg_graph.specs.Value.{put}
use Rattle.cg_graph.specs.Object.{Object, first_place, is_tracked, with_entries, with_place}
use Rattle.cg_graph.proofs.Members.{either, Includes-append_cases}
use Rattle.cg_machine.specs.declared.event.FrameSort.TheVariants.{Call}
use Rattle.cg_machine.specs.World.{World, Numbers, Activity, TopLevel, Framed, Releasing, Dying, Collecting, opening, push, with_change, ShuttingDown}
use Rattle.cg_machine.specs.Holdings.{is_collecting}
use Rattle.cg_machine.specs.Frame.{procedure_of}
use Rattle.cg_machine.specs.Effects.{Changes, Collects, Effect, frozen, may_track, tracked_by, unfrozen}
use Rattle.cg_machine.specs.Operands.{is_dict}
use Rattle.cg_machine.specs.Commands.{new_collection}
use Rattle.cg_machine.specs.Due.{due, due_generation, is_due}
use Rattle.cg_machine.specs.Run.{Run, StepTaken, last_world}
use Rattle.cg_laws.proofs.Invariants.{CommandSteps, FromFrame, FromTop, HasCommands, Steps, Takes, any_step, emptied, on, del_shaped}
use Rattle.cg_laws.proofs.ShapeLaws.{changes_leave}
use Rattle.cg_represents.proofs.Shapes.{Shape, Makes, Edits, Puts, Freezes, Unfreezes, StartsFrame, StartsCollection, Ends, AsksWhy}
use Rattle.cg_laws.proofs.Advancing.{frame_end_advances, released_advances, dying_advances, phase_advances}
use Rattle.cg_promises.proofs.Generations.{AreYoung, IsYoung, IsYoungWorld, Young, entries_young, map_young, push_young, advance_young, starts_young, test_young, turn_young}
use Rattle.cg_script.specs.declared.Command.TheVariants.{Del}

due_young : (n : Numbers) → due_generation n ≤ 2
due_young n = go (nat_lt n.two_threshold n.two_count && not (nat_lt n.pending (n.total / 4))) (nat_lt n.one_threshold n.one_count)
  where
    go : (a b : Bool) → (if a then 2 else if b then 1 else 0) ≤ 2
    go true b = omega arith
    go false true = omega arith
    go false false = omega arith

due_is_young : (w : World) (g : ℕ) → due w ≡ Some g → g ≤ 2
due_is_young w g e = go (is_due w.numbers && not (is_collecting w)) e
  where
    go : (b : Bool) → (if b then Some (due_generation w.numbers) else None) ≡ Some g → g ≤ 2
    go true k = let same : due_generation w.numbers ≡ g = cc in subst (λ n. n ≤ 2) same (due_young w.numbers)
    go false k = absurd (let no : None ≡ Some g = k in cc)

unfrozen_young : (p : Place) → IsYoung p → IsYoung (unfrozen p)
unfrozen_young Frozen k = omega arith
unfrozen_young p k = k

frozen_young : (p : Place) → IsYoung p → IsYoung (frozen p)
frozen_young (Gen i) k = tt
frozen_young p k = k

first_young : (kind : KindCode) → IsYoung (first_place kind)
first_young Dict = tt
first_young k = omega arith

module _ (w : World) (h : AreYoung w.objects) where
  abbrev Ages : Effect → Type 0
  Ages (Changes wants_memory lines given_up after) = AreYoung after.objects
  Ages (Collects g) = g ≤ 2
  Ages effect = Unit {0}

  put_young : (x : Object) (key v : Val) → AreYoung (with_change (λ y. tracked_by w key v (with_entries (put x.entries key v) y)) x.serial w).objects
  put_young x key v = test_young (λ y. tracked_by w key v (with_entries (put x.entries key v) y)) (λ z. z.serial == x.serial) w.objects
      (λ y m t k. go (is_dict y && not (is_tracked y) && (may_track w key || may_track w v)) (with_entries (put x.entries key v) y) k) h
    where
      go : (b : Bool) (y : Object) → IsYoung y.place → IsYoung (if b then with_place (Gen 0) y else y).place
      go true y k = omega arith
      go false y k = k

  shape_young : (command : Command) (e : Effect) → Shape w command e → Ages e
  shape_young command e (Makes name kind class entries referent own parts) = λ y m. either (Includes-append_cases w.objects _ y m) (h y)
      (λ k. either k (λ i. subst (λ (z : Object). IsYoung z.place) i (first_young kind)) (λ no. absurd no))
  shape_young command e (Edits wants x entries given k mutable edit) = entries_young entries x.serial w.objects h
  shape_young command e (Puts x key v k mutable hand_key hand room) = put_young x key v
  shape_young command e (Freezes is) = map_young (λ x. with_place (frozen x.place) x) w.objects (λ x m k. frozen_young x.place k) h
  shape_young command e (Unfreezes is) = map_young (λ x. with_place (unfrozen x.place) x) w.objects (λ x m k. unfrozen_young x.place k) h
  shape_young command e (StartsFrame f k) = tt
  shape_young command e (StartsCollection g low) = low
  shape_young command e Ends = tt
  shape_young command e (AsksWhy x k calm) = tt
  shape_young command e shape = h

module _ (script : Script) (below : List Activity) (v : World) where
  abbrev YoungOn : Activity → Type 0
  YoungOn a = Young v.objects (a ∷ below)

  emptied_young : (a : Activity) → HasCommands a → YoungOn a → YoungOn (emptied a)
  emptied_young (TopLevel commands) ha h = turn_young (TopLevel commands) (TopLevel []) below v.objects v.objects h.places (λ c e. cc) h
  emptied_young (Framed f) ha h = turn_young (Framed f) (Framed (record f { commands = [] })) below v.objects v.objects h.places (λ c e. cc) h
  emptied_young (ShuttingDown started) ha h = h
  emptied_young a ha h = absurd ha

  taken_young : (command : Command) (a b : Activity) → Takes command a b → YoungOn a → YoungOn b
  taken_young command a b (FromTop commands) h = turn_young (TopLevel (command ∷ commands)) (TopLevel commands) below v.objects v.objects h.places (λ c e. cc) h
  taken_young command a b (FromFrame f commands left) h = turn_young (Framed f) (Framed (record f { commands = commands })) below v.objects v.objects h.places (λ c e. cc) h

  begun_young : (a : Activity) (g : ℕ) (asked : Bool) → g ≤ 2 → YoungOn a → IsYoungWorld (push (new_collection g asked (on a below v)) (on a below v))
  begun_young a g asked low h = push_young (new_collection g asked (on a below v)) (a ∷ below) v.objects (λ c e. let same : g ≡ c.generation = cc in subst (λ n. n ≤ 2) same low) h

  command_young : (w : World) (command : Command) (a : Activity) → HasCommands a → YoungOn a → CommandSteps script (λ w events. IsYoungWorld) w command (on a below v) a below
  command_young w command a ha h = record {
    stays = λ lines answers. h;
    stops = λ lines answers. emptied_young a ha h;
    changes = λ wants_memory lines given_up after shape. push_young (Releasing given_up) after.stack after.objects (λ c e. cc)
        (subst (Young after.objects) (sym (changes_leave (on a below v) command wants_memory lines given_up after shape).stack)
        (record { places = shape_young (on a below v) h.places command (Changes wants_memory lines given_up after) shape; ages = h.ages }));
    calls = λ f k. starts_young script (record { sort = Call; proc = procedure_of (on a below v) f.serial; subject = f.serial; func = Some f.serial }) (on a below v) h;
    asks = λ g low e. begun_young a g true low h;
  }

young_steps : (script : Script) → Steps script IsYoungWorld (λ w events. IsYoungWorld)
young_steps script = record {
  starts_due = λ a below v ha g e k. begun_young script below v a g false (due_is_young (on a below v) g e) k;
  ends = λ a lines below v last k. record { places = k.places; ages = k.ages };
  shuts_down = λ below v k. turn_young (TopLevel []) (ShuttingDown false) below v.objects v.objects k.places (λ c e. cc) k;
  gives_up = λ name below v e k. (command_young script below v (on (ShuttingDown false) below v) (Del name) (ShuttingDown false) tt k).changes false [] _ _
      (del_shaped (on (ShuttingDown false) below v) name);
  collects_last = λ below v k. begun_young script below v (ShuttingDown true) 2 false (omega arith) (turn_young (ShuttingDown false) (ShuttingDown true) below
      v.objects v.objects k.places (λ c e. cc) k);
  commands = λ command a b below v takes hb k. command_young script below v (on a below v) command b hb (taken_young script below v command a b takes k);
  frame_ends = λ f below v left k. advance_young script (Framed f) below v _ _ (frame_end_advances script f below v) k;
  releases = λ references below v k. advance_young script (Releasing references) below v _ _ (released_advances script references below v) k;
  dies = λ d below v k. advance_young script (Dying d) below v _ _ (dying_advances script d.object below v d.phase) k;
  collects = λ c below v events after step k. advance_young script (Collecting c) below v events after (phase_advances script c below v c.phase events after step) k;
}

pub young_after : (script : Script) (w : World) (steps : List StepTaken) → Run script w steps → IsYoungWorld w → IsYoungWorld (last_world w steps)
young_after script w [] run h = h
young_after script w (step ∷ steps) run h = young_after script step.world steps run.1 (any_step script IsYoungWorld (λ w events. IsYoungWorld) (young_steps script) w step.events step.world run.0 h)

pub opening_young : (script : Script) (budget : ℕ) → IsYoungWorld (opening script budget)
opening_young script budget = record {
  places = λ x m. either m (λ e. subst (λ (z : Object). IsYoung z.place) e tt) (λ no. absurd no);
  ages = λ c m. either m (λ e. cc) (λ no. absurd no);
}
