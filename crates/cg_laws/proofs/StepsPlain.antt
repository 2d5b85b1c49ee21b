-- A step of another activity pushes no collection except a new one where there was none, and keeps the garbage list.
use Rattle.std.proofs.Common.{◌≡◌, ◌≢◌, refl, sym, ◌∙◌, ap, subst, ℕ, ◌<◌, Bool, true, false, not, inl, inr, ◌⊎◌, List, [], ◌∷◌, ◌++◌, Some, None}
use Rattle.std.specs.Prelude.{◌&&◌, if◌then◌else◌}
use Rattle.std.specs.List.{list_any}
use Rattle.cg_value.specs.declared.Place.TheVariants.{Untracked}
use Rattle.cg_script.specs.declared.Script.{Script}
use Rattle.cg_script.specs.declared.Command.{Command}
use Rattle.cg_graph.specs.Member.{Includes}
use Rattle.cg_graph.specs.Value.{references}
use Rattle.cg_graph.specs.Object.{Object, entries_of, with_entries}
use Rattle.cg_graph.proofs.Members.{either}
use Rattle.cg_machine.specs.declared.event.Event.{Event}
use Rattle.cg_machine.specs.declared.event.FrameSort.TheVariants.{Del, Call as CallFrame}
use Rattle.cg_machine.specs.declared.event.FrameSpec.{FrameSpec}
use Rattle.cg_machine.specs.World.{World, Activity, TopLevel, Framed, Releasing, Dying, Collecting, Finalizer, Collection, Start, with_stack, ShuttingDown}
use Rattle.cg_machine.specs.Holdings.{is_collection, is_collecting}
use Rattle.cg_machine.specs.Frame.{start_frame, procedure_of}
use Rattle.cg_machine.specs.Effects.{Changes}
use Rattle.cg_machine.specs.Commands.{new_collection}
use Rattle.cg_machine.specs.Due.{due, is_due, due_generation}
use Rattle.cg_machine.specs.Run.{Step}
use Rattle.cg_laws.proofs.ShapeLaws.{changes_leave}
use Rattle.cg_laws.proofs.Unheld.{Calm}
use Rattle.cg_laws.proofs.Advances.{Advance, Plainly, WithFrame, HasChanged, NothingChanges, ChangesEach, LosesEntries, GetsEntry, LosesObject, Followed, IsMoved, StaysThere, IsUntracked, IsRevived, IsPlaced, Finalizes, Soon, Late, asides, Continues, DeathGoesOn, Tops, TopEnds, GivesFunction, GivesReference, BeginsDeath, TopGoesOn, GivesReferences, fewer_references}
use Rattle.cg_laws.proofs.Starting.{begun_frame, starts_either}
use Rattle.cg_laws.proofs.Advancing.{frame_end_advances, released_advances, dying_advances, phase_advances}
use Rattle.cg_laws.proofs.Invariants.{HasCommands, emptied, on, CommandSteps, Steps, any_step, del_shaped, last_has}
use Rattle.cg_laws.proofs.GarbageKept.{HasGarbageList, KeepsList, entries_name_not, same_list, list_kept, list_trans, without_kept}
use Rattle.cg_laws.proofs.GarbageCommands.{shape_kept}
use Rattle.cg_script.specs.declared.Command.TheVariants.{Del}
use Rattle.cg_laws.proofs.InvariantOfRuns.{HasBottom}

-- The collections of a stack are those below, or a new one where there was none.
abbrev pub StartsAlone : List Activity → List Activity → Type 0
StartsAlone below stack = (c : Collection) → Includes stack (Collecting c) → Includes below (Collecting c) ⊎ (list_any is_collection below ≡ false) × (c.phase ≡ Start)

below_alone : (below : List Activity) → StartsAlone below below
below_alone below c m = inl m

with_alone : (a : Activity) (below stack : List Activity) → is_collection a ≡ false → StartsAlone below stack → StartsAlone below (a ∷ stack)
with_alone a below stack none h c m = either m (λ e. let no : false ≡ true = sym none ∙ ap is_collection e in absurd (cc)) (h c)

pub record IsPlain (objects : List Object) (below : List Activity) (after : World) : Type 0 where
  pub stack : StartsAlone below after.stack
  pub list : KeepsList objects after.objects

starts_plain : (script : Script) (spec : FrameSpec) (objects : List Object) (below : List Activity) (u : World) → IsPlain objects below u → IsPlain objects below (start_frame script spec u).1
starts_plain script spec objects below u h = starts_either (λ lines. IsPlain objects below) script spec u (record { stack = h.stack; list = h.list })
    (λ some. record { stack = with_alone (begun_frame script spec) below u.stack refl h.stack; list = h.list })

-- a dying object is not the garbage list
finalizes_other : (script : Script) (below : List Activity) (v : World) (top : Activity) (o : ℕ) → Finalizes top o → Calm script (on top below v) → o ≢ 1
finalizes_other script below v top o (Soon d) c = c.stack.0.root
finalizes_other script below v top o (Late d) c = c.stack.0.unheld.root

module _ (script : Script) (below : List Activity) (v : World) (top : Activity) (none : is_collection top ≡ false) (c : Calm script (on top below v)) where
  no_collection_here : is_collection top ≡ true → ⊥
  no_collection_here e = let no : true ≡ false = sym e ∙ none in cc

  list_place : (x y : Object) → IsMoved top x y → x.serial ≡ 1 → x.place ≡ Untracked → y.place ≡ Untracked
  list_place x y (StaysThere e) i p = sym e ∙ p
  list_place x y (IsUntracked e) i p = e
  list_place x y (IsRevived f e) i p = absurd (finalizes_other script below v top x.serial f c i)
  list_place x y (IsPlaced d is k) i p = absurd (no_collection_here (ap is_collection is))

  changed_list : (tops : List Activity) (lines : List Event) (before after : List Object) → HasChanged top tops lines before after → KeepsList before after
  changed_list tops lines before after (NothingChanges objects) = same_list objects
  changed_list tops lines before after (ChangesEach f test objects aside) = λ y m e.
      let x = asides top tops lines f test objects aside y m in
      let i : x.0.serial ≡ 1 = sym x.2.later.serial ∙ e in
      record {
        was = x.0;
        member = x.1;
        serial = i;
        code = x.2.later.code;
        place = list_place x.0 y x.2.moved i;
        names = λ o h. subst (λ es. ¬ Includes (references es) o) (sym x.2.entries) (h x.0 x.1 i);
      }
  changed_list tops lines before after (LosesEntries es s objects owns fewer) = list_kept (with_entries es) s objects (λ x. refl) (λ x m i e.
      record {
        was = x;
        member = m;
        serial = e;
        code = refl;
        place = λ p. p;
        names = λ o h k. entries_name_not objects o h
            (subst (λ n. Includes (references (entries_of objects n)) o) (sym i ∙ e) (fewer_references es (entries_of objects s) fewer o k));
      })
  changed_list tops lines before after (GetsEntry o objects is) = absurd (no_collection_here is)
  changed_list tops lines before after (LosesObject o objects owns line) = without_kept o objects
  changed_list tops lines before after (Followed first now last h k) = list_trans first now last (changed_list tops lines first now h) (changed_list tops lines now last k)

-- what goes on is a collection only if the top is one
continues_alone : (before after : List Object) (top a : Activity) → Continues before after top a → is_collection a ≡ is_collection top
continues_alone before after top a (DeathGoesOn o phase next waits none) = refl
continues_alone before after top a other = refl

tops_alone : (before after : List Object) (top : Activity) (tops below : List Activity) → Tops before after top tops → is_collection top ≡ false → StartsAlone below (tops ++ below)
tops_alone before after top tops below (TopEnds a gone) none = below_alone below
tops_alone before after top tops below (GivesFunction f references few) none = with_alone (Releasing references) below below refl (below_alone below)
tops_alone before after top tops below (GivesReference o references) none = with_alone (Releasing references) below below refl (below_alone below)
tops_alone before after top tops below (BeginsDeath o references) none = with_alone (Dying (record { object = o; phase = Finalizer })) below
    (Releasing references ∷ below) refl (with_alone (Releasing references) below below refl (below_alone below))
tops_alone before after top tops below (TopGoesOn t a c held) none = with_alone a below below (continues_alone before after t a c ∙ none) (below_alone below)
tops_alone before after top tops below (GivesReferences t a references few c held) none = with_alone (Releasing references) below (a ∷ below) refl
    (with_alone a below below (continues_alone before after t a c ∙ none) (below_alone below))

advance_plain : (script : Script) (below : List Activity) (v : World) (top : Activity) → Calm script (on top below v) → (lines : List Event) (after : World)
    → Advance script v top below lines after → is_collection top ≡ false → IsPlain v.objects below after
advance_plain script below v top c lines after (Plainly tops objects numbers ls t h n shown) none = record {
  stack = tops_alone v.objects objects top tops below
      t none;
  list = changed_list script below v top none c tops ls v.objects objects h;
}
advance_plain script below v top c lines after (WithFrame spec a objects s g held h) none =
    starts_plain script spec v.objects below (record v { objects = objects; stack = a ∷ below })
    (record {
      stack = tops_alone v.objects objects top (a ∷ []) below (TopGoesOn top a g held) none;
      list = changed_list script below v top none c [] []
          v.objects objects h;
    })

-- commands are no collection
no_collection : (a : Activity) → HasCommands a → is_collection a ≡ false
no_collection (TopLevel commands) h = refl
no_collection (Framed f) h = refl
no_collection (ShuttingDown started) h = refl
no_collection a h = absurd h

free_below : (a : Activity) (below : List Activity) → HasCommands a → list_any is_collection (a ∷ below) ≡ false → list_any is_collection below ≡ false
free_below (TopLevel commands) below h e = e
free_below (Framed f) below h e = e
free_below (ShuttingDown started) below h e = e
free_below a below h e = absurd h

-- a new collection where there is none
begins_alone : (a : Activity) (g : ℕ) (asked : Bool) (below : List Activity) (w : World) → HasCommands a → list_any is_collection below ≡ false
    → StartsAlone below (new_collection g asked w ∷ a ∷ below)
begins_alone a g asked below w h free c m = either m (λ e. inr (free, phase e)) (λ k. with_alone a below below (no_collection a h) (below_alone below) c k)
  where
    phase : new_collection g asked w ≡ Collecting c → c.phase ≡ Start
    phase e = let same : record { generation = g; flags = w.numbers.flags; asked = asked; collected = 0; phase = Start } ≡ c = cc in ap (λ (z : Collection). z.phase) (sym same)

-- a collection is due only where there is none
due_alone : (w : World) (g : ℕ) → due w ≡ Some g → is_collecting w ≡ false
due_alone w g e = go (is_due w.numbers) (is_collecting w) refl e
  where
    go : (b t : Bool) → is_collecting w ≡ t → (if b && not t then Some (due_generation w.numbers) else None) ≡ Some g → is_collecting w ≡ false
    go b false i k = i
    go true true i k = absurd (let no : None ≡ Some g = k in cc)
    go false true i k = absurd (let no : None ≡ Some g = k in cc)

module _ (script : Script) (a : Activity) (below : List Activity) (v : World) (ha : HasCommands a) (garbage : HasGarbageList v.objects) (made : 1 < v.next_serial) where
  abbrev u : World
  u = with_stack (a ∷ below) v

  commands_alone : StartsAlone below (a ∷ below)
  commands_alone = with_alone a below below (no_collection a ha) (below_alone below)

  unchanged : (top : Activity) → HasCommands top → IsPlain v.objects below (with_stack (top ∷ below) v)
  unchanged top k = record { stack = with_alone top below below (no_collection top k) (below_alone below); list = same_list v.objects }

  emptied_plain : (top : Activity) → HasCommands top → IsPlain v.objects below (on (emptied top) below v)
  emptied_plain (TopLevel commands) k = unchanged (TopLevel []) tt
  emptied_plain (Framed f) k = unchanged (Framed (record f { commands = [] })) tt
  emptied_plain (ShuttingDown started) k = unchanged (ShuttingDown started) tt
  emptied_plain top k = absurd k

-- any step of an activity other than a collection
abbrev pub IsPlainUnder : List Object → List Activity → World → Type 0
IsPlainUnder objects [] after = Unit {0}
IsPlainUnder objects (a ∷ below) after = is_collection a ≡ false → IsPlain objects below after

abbrev StepIsPlain : World → List Event → World → Type 0
StepIsPlain w events after = IsPlainUnder w.objects w.stack after

abbrev IsReady : Script → World → Type 0
IsReady script w = HasGarbageList w.objects × (1 < w.next_serial) × Calm script w × HasBottom w.stack

command_plain : (script : Script) (command : Command) (b a : Activity) (below : List Activity) (v : World) → HasCommands a → HasGarbageList v.objects
    → 1 < v.next_serial → CommandSteps script StepIsPlain (on b below v) command (on a below v) a below
command_plain script command b a below v ha garbage made = record {
  stays = λ lines answers none. unchanged script a below v ha garbage made a ha;
  stops = λ lines answers none. emptied_plain script a below v ha garbage made a ha;
  changes = λ wants_memory lines given_up after shape none. record {
    stack = with_alone (Releasing given_up) below after.stack refl
        (subst (StartsAlone below) (sym (changes_leave (on a below v) command wants_memory lines given_up after shape).stack)
        (commands_alone script a below v ha garbage made));
    list = shape_kept (on a below v) garbage made command (Changes wants_memory lines given_up after) shape;
  };
  calls = λ f k none. starts_plain script (record { sort = CallFrame; proc = procedure_of (on a below v) f.serial; subject = f.serial; func = Some f.serial })
      v.objects below (on a below v) (unchanged script a below v ha garbage made a ha);
  asks = λ g low e none. record { stack = begins_alone a g true below (on a below v) ha (free_below a below ha e); list = same_list v.objects };
}

-- nothing is below the shutdown
none_below : (below : List Activity) → below ≡ [] → list_any is_collection below ≡ false
none_below below e = ap (list_any is_collection) e

steps_plain : (script : Script) → Steps script (IsReady script) StepIsPlain
steps_plain script = record {
  starts_due = λ a below v ha g e k none. record { stack = begins_alone a g false below (on a below v) ha (free_below a below ha (due_alone (on a below v) g e)); list = same_list v.objects };
  ends = λ a lines below v last k none. record { stack = with_alone a below below (no_collection a (last_has (on a below v) a lines last)) (below_alone below); list = same_list v.objects };
  shuts_down = λ below v k none. record { stack = with_alone (ShuttingDown false) below below refl (below_alone below); list = same_list v.objects };
  gives_up = λ name below v e k. (command_plain script (Del name) (ShuttingDown false) (ShuttingDown false) below v tt k.0 k.1).changes false [] _ _
      (del_shaped (on (ShuttingDown false) below v) name);
  collects_last = λ below v k none. record { stack = begins_alone (ShuttingDown true) 2 false below (on (ShuttingDown false) below v) tt (none_below below k.3); list = same_list v.objects };
  commands = λ command a b below v takes hb k. command_plain script command a b below v hb k.0 k.1;
  frame_ends = λ f below v left k. advance_plain script below v (Framed f) k.2 _ _ (frame_end_advances script f below v);
  releases = λ references below v k. advance_plain script below v (Releasing references) k.2 _ _ (released_advances script references below v);
  dies = λ d below v k. advance_plain script below v (Dying d) k.2 _ _ (dying_advances script d.object below v d.phase);
  collects = λ c below v events after step k. advance_plain script below v (Collecting c) k.2 events after (phase_advances script c below v c.phase events after step);
}

pub step_plain : (script : Script) (w : World) (events : List Event) (after : World) → Step script w events after → HasGarbageList w.objects → 1 < w.next_serial
    → Calm script w → HasBottom w.stack → IsPlainUnder w.objects w.stack after
step_plain script w events after step garbage made c bottom = any_step script (IsReady script) StepIsPlain (steps_plain script) w events after step (garbage, made, c, bottom)
