-- What a step does that takes a command without refusing it: `ref`, `get` and `deref`.
use Rattle.std.proofs.Common.{◌≡◌, refl, sym, ◌∙◌, ap, subst, ℕ, Bool, true, false, inl, inr, List, [], ◌∷◌, Option, Some, None, Result, Ok, Err}
use Rattle.std.specs.Prelude.{if◌then◌else◌, ok_or, option_map, unwrap_or}
use Rattle.cg_value.specs.declared.Val.{Val}
use Rattle.cg_value.specs.declared.Val.TheVariants.{None as Nothing, Ref}
use Rattle.cg_value.specs.declared.Entry.{Entry}
use Rattle.cg_value.specs.declared.KindCode.{KindCode}
use Rattle.cg_value.specs.declared.KindCode.TheVariants.{Weak}
use Rattle.cg_script.specs.declared.Script.{Script}
use Rattle.cg_script.specs.declared.Operand.{Operand}
use Rattle.cg_script.specs.declared.Operand.TheVariants.{None as NoneWord}
use Rattle.cg_script.specs.declared.Command.{Command}
use Rattle.cg_script.specs.declared.Command.TheVariants.{MakeRef, Bind, Get, Deref}
use Rattle.cg_graph.specs.Member.{Includes}
use Rattle.cg_graph.specs.Value.{value_at}
use Rattle.cg_graph.specs.Object.{Object, entries_of, object_at}
use Rattle.cg_machine.specs.declared.event.Event.{Event}
use Rattle.cg_machine.specs.declared.event.Event.TheVariants.{Made, Refused}
use Rattle.cg_machine.specs.World.{World, Activity, TopLevel, Framed, Releasing, Frame, push, with_stack}
use Rattle.cg_machine.specs.Operands.{is_weak, object, object_of, tested, value_of}
use Rattle.cg_laws.specs.Origins.{commands_on}
use Rattle.cg_machine.specs.Refusals.{◌>>=◌, no_memory, no_name}
use Rattle.cg_machine.specs.Effects.{Effect, Changes, bound, given_up_by, with_new}
use Rattle.cg_machine.specs.Commands.{effect, refused, DoesEffect}
use Rattle.cg_machine.specs.Frame.{Yields}
use Rattle.cg_machine.specs.Due.{due}
use Rattle.cg_machine.specs.Run.{StepTaken, Step, StepOf, TopLevelStep, FrameStep, CommandInFrame}
use Rattle.cg_represents.proofs.Lists.{found_at}
use Rattle.cg_weakcoll.specs.Maps.{TakesCommand, referent_value}

-- no refusal is printed
abbrev pub IsAccepted : List Event → Type 0
IsAccepted events = (n : ℕ) → ¬ Includes events (Refused n)

not_refused : (n : ℕ) (u : World) (events : List Event) (after : World) → IsAccepted events → Yields (refused n u) events after → ⊥
not_refused n u events after none step = none n (subst (λ (es : List Event). Includes es (Refused n)) (sym step.0) (inl refl))

accepts : (script : Script) (u : World) (r : Result Effect ℕ) (events : List Event) (after : World) → IsAccepted events → DoesEffect script u r events after
    → (e : Effect) × (r ≡ Ok e) × DoesEffect script u (Ok e) events after
accepts script u (Err n) events after none step = absurd (not_refused n u events after none step)
accepts script u (Ok e) events after none step = (e, refl, step)

-- a command that changes the world
pub changes_so : (script : Script) (u : World) (wants_memory : Bool) (lines : List Event) (given_up : List ℕ) (next : World) (events : List Event) (after : World) → IsAccepted events
    → DoesEffect script u (Ok (Changes wants_memory lines given_up next)) events after → (events ≡ lines) × (after ≡ push (Releasing given_up) next)
changes_so script u wants_memory lines given_up next events after none (inl step) = (step.0, step.1)
changes_so script u wants_memory lines given_up next events after none (inr step) = absurd (not_refused no_memory u events after none step.1)

-- what a step that takes a command does
pub record Took (script : Script) (w : World) (command : Command) (left : List Command) (below : List Activity) (step : StepTaken) : Type 0 where
  pub top : Activity
  pub commands : commands_on top ≡ left
  pub values : (operand : Operand) → value_of (with_stack (top ∷ below) w) operand ≡ value_of w operand
  pub does : DoesEffect script (with_stack (top ∷ below) w) (effect (with_stack (top ∷ below) w) command) step.events step.world

-- where it is not refused
pub record Done (script : Script) (w : World) (command : Command) (left : List Command) (below : List Activity) (step : StepTaken) : Type 0 where
  pub top : Activity
  pub commands : commands_on top ≡ left
  pub values : (operand : Operand) → value_of (with_stack (top ∷ below) w) operand ≡ value_of w operand
  pub what : Effect
  pub is : effect (with_stack (top ∷ below) w) command ≡ Ok what
  pub does : DoesEffect script (with_stack (top ∷ below) w) (Ok what) step.events step.world

-- words mean the same whatever commands are left
top_values : (cs ds : List Command) (below : List Activity) (w : World) (operand : Operand) → value_of (with_stack (TopLevel cs ∷ below) w) operand
    ≡ value_of (with_stack (TopLevel ds ∷ below) w) operand
top_values cs ds below w NoneWord = refl
top_values cs ds below w other = refl

frame_values : (f : Frame) (cs : List Command) (below : List Activity) (w : World) (operand : Operand)
    → value_of (with_stack (Framed (record f { commands = cs }) ∷ below) w) operand ≡ value_of (with_stack (Framed f ∷ below) w) operand
frame_values f cs below w NoneWord = refl
frame_values f cs below w other = refl

module _ (script : Script) (w : World) (command : Command) (left : List Command) (below : List Activity) (step : StepTaken) where
  same_world : (a : Activity) → w.stack ≡ a ∷ below → with_stack (a ∷ below) w ≡ w
  same_world a e = ap (λ (st : List Activity). with_stack st w) (sym e)

  by_top : (a : Activity) → w.stack ≡ a ∷ below → commands_on a ≡ command ∷ left → due w ≡ None → StepOf script w (a ∷ below) step.events step.world → Took script w command left below step
  by_top (TopLevel commands) e c d s =
      let first = subst (λ (cs : List Command). TopLevelStep script w (due w) cs below step.events step.world) c s in
      let does = subst (λ (m : Option ℕ). TopLevelStep script w m (command ∷ left) below step.events step.world) d first in
      record {
        top = TopLevel left;
        commands = refl;
        values = λ operand. top_values left commands below w operand ∙ ap (λ (z : World). value_of z operand)
            (same_world (TopLevel commands) e);
        does = does;
      }
  by_top (Framed f) e c d s =
      let first = subst (λ (cs : List Command). FrameStep script w f cs below step.events step.world) c s in
      let does = subst (λ (m : Option ℕ). CommandInFrame script w m f command left below step.events step.world) d first in
      record {
        top = Framed (record f { commands = left });
        commands = refl;
        values = λ operand. frame_values f left below w operand
            ∙ ap (λ (z : World). value_of z operand) (same_world (Framed f) e);
        does = does;
      }
  by_top a e c d s = absurd (let no : [] ≡ command ∷ left = c in cc)

  pub taken : (top : Activity) → w.stack ≡ top ∷ below → commands_on top ≡ command ∷ left → due w ≡ None → Step script w step.events step.world → Took script w command left below step
  taken top stack commands not_due s = by_top top stack commands not_due (subst (λ (st : List Activity). StepOf script w st step.events step.world) stack s.step)

  pub taken_done : Step script w step.events step.world → TakesCommand w (command ∷ left) below step → Done script w command left below step
  taken_done s t =
      let k = taken t.top t.stack t.commands t.not_due s in
      let r = accepts script (with_stack (k.top ∷ below) w) (effect (with_stack (k.top ∷ below) w) command) step.events step.world t.accepted k.does in
      record { top = k.top; commands = k.commands; values = k.values; what = r.0; is = r.1; does = r.2 }

-- Checks in order; the last one passes.
then_ok : {A B : Type 0} (m : Result A ℕ) (f : A → Result B ℕ) (y : B) → (m >>= f) ≡ Ok y → (x : A) × (m ≡ Ok x) × (f x ≡ Ok y)
unfolding ◌>>=◌
then_ok (Ok x) f y h = (x, refl, h)
then_ok (Err n) f y h = absurd (let no : Err n ≡ Ok y = h in cc)

ok_found : {X : Type 0} (m : Option X) (n : ℕ) (x : X) → ok_or m n ≡ Ok x → m ≡ Some x
ok_found {X} None n x h = absurd (let no : ◌≡◌ {A = Result X ℕ} (Err n) (Ok x) = h in cc)
ok_found (Some y) n x h = let same : y ≡ x = cc in ap (λ z. Some z) same

ok_tested : (test : Object → Bool) (n : ℕ) (y x : Object) → tested test n y ≡ Ok x → (y ≡ x) × (test x ≡ true)
ok_tested test n y x h = go (test y) refl h
  where
    go : (b : Bool) → test y ≡ b → (if b then Ok y else Err n) ≡ Ok x → (y ≡ x) × (test x ≡ true)
    go true t k = let same : y ≡ x = cc in (same, ap test (sym same) ∙ t)
    go false t k = absurd (let no : ◌≡◌ {A = Result Object ℕ} (Err n) (Ok x) = k in cc)

unwrapped : (a b : Effect) → ◌≡◌ {A = Result Effect ℕ} (Ok a) (Ok b) → b ≡ a
unwrapped a b i = cc

-- an object, by the value that refers to it
pub record IsObject (w : World) (v : Val) (x : Object) : Type 0 where
  pub serial : ℕ
  pub value : v ≡ Ref serial
  pub at : object_at w.objects serial ≡ Some x

refers : (w : World) (v : Val) (x : Object) → object_of w v ≡ Some x → IsObject w v x
refers w (Ref o) x h = record { serial = o; value = refl; at = h }
refers w v x h = absurd (let no : None ≡ Some x = h in cc)

ok_object : (w : World) (test : Object → Bool) (n : ℕ) (v : Val) (x : Object) → object w test n v ≡ Ok x → IsObject w v x × (test x ≡ true)
ok_object w test n v x h =
    let a = then_ok (ok_or (object_of w v) n) (λ y. tested test n y) x h in
    let t = ok_tested test n a.0 x a.2 in
    (refers w v x (ok_found (object_of w v) n a.0 a.1 ∙ ap (λ z. Some z) t.0), t.1)

-- `x = none`
pub none_binds : (u : World) (x : ℕ) (e : Effect) → effect u (Bind x NoneWord) ≡ Ok e → e ≡ Changes false [] (given_up_by u x) (bound u x (Some Nothing))
none_binds u x e h =
    let v = then_ok _ _ e h in
    unwrapped (Changes false [] (given_up_by u x) (bound u x (Some v.0))) e v.2 ∙ ap (λ (n : Val). Changes false [] (given_up_by u x) (bound u x (Some n)))
    (sym (inner v.0 (ok_found (Some Nothing) no_name v.0 v.1)))
  where
    inner : (n : Val) → Some Nothing ≡ Some n → Nothing ≡ n
    inner n i = cc

-- `x = get m k`
pub record Gets (u : World) (x : ℕ) (map key : Operand) (e : Effect) : Type 0 where
  pub dict : ℕ
  pub at : Val
  pub val : Val
  pub map_is : value_of u map ≡ Some (Ref dict)
  pub key_is : value_of u key ≡ Some at
  pub entry : value_at (entries_of u.objects dict) at ≡ Some val
  pub is : e ≡ Changes false [] (given_up_by u x) (bound u x (Some val))

pub get_gets : (u : World) (x : ℕ) (map key : Operand) (e : Effect) → effect u (Get x map key) ≡ Ok e → Gets u x map key e
get_gets u x map key e h =
    let d = then_ok _ _ e h in
    let k = then_ok _ _ e d.2 in
    let o = then_ok _ _ e k.2 in
    let t = then_ok _ _ e o.2 in
    let v = then_ok _ _ e t.2 in
    let object = (ok_object u _ _ d.0 o.0 o.1).0 in
    record {
      dict = object.serial;
      at = k.0;
      val = v.0;
      map_is = ok_found (value_of u map) _ d.0 d.1 ∙ ap (λ z. Some z) object.value;
      key_is = ok_found (value_of u key) _ k.0 k.1;
      entry = ap (λ (m : Option Object). value_at (unwrap_or (option_map (λ (z : Object). z.entries) m) []) k.0) object.at ∙ ok_found (value_at o.0.entries k.0) _ v.0 v.1;
      is = unwrapped (Changes false [] (given_up_by u x) (bound u x (Some v.0))) e v.2;
    }

-- a refused one binds nothing
pub get_refused : (script : Script) (u : World) (x : ℕ) (map key : Operand) (events : List Event) (after : World) (n : ℕ)
    → DoesEffect script u (effect u (Get x map key)) events after → Includes events (Refused n) → after.names ≡ u.names
get_refused script u x map key events after n does m = go (effect u (Get x map key)) refl does
  where
    never : (v : Val) → DoesEffect script u (Ok (Changes false [] (given_up_by u x) (bound u x (Some v)))) events after → ⊥
    never v (inl step) = subst (λ (es : List Event). Includes es (Refused n)) step.0 m
    never v (inr step) = let no : false ≡ true = step.0 in cc

    go : (r : Result Effect ℕ) → effect u (Get x map key) ≡ r → DoesEffect script u r events after → after.names ≡ u.names
    go (Err k) e step = ap (λ (z : World). z.names) step.1
    go (Ok e) is step = let g = get_gets u x map key e is in absurd (never g.val (subst (λ k. DoesEffect script u (Ok k) events after) g.is step))

weak_code : (k : KindCode) → elim k [ Weak ↦ true | _ ↦ false ] ≡ true → k ≡ Weak
weak_code Weak e = refl
weak_code k e = absurd (let no : false ≡ true = e in cc)

-- `x = deref w`
pub record Derefs (u : World) (x : ℕ) (word : Operand) (e : Effect) : Type 0 where
  pub weak : ℕ
  pub reference : Object
  pub word_is : value_of u word ≡ Some (Ref weak)
  pub member : Includes u.objects reference
  pub serial : reference.serial ≡ weak
  pub code : reference.code ≡ Weak
  pub is : e ≡ Changes false [] (given_up_by u x) (bound u x (Some (referent_value reference.referent)))

referent_is : (m : Option ℕ) → elim m [ None ↦ Nothing | Some o ↦ Ref o ] ≡ referent_value m
referent_is None = refl
referent_is (Some o) = refl

pub deref_derefs : (u : World) (x : ℕ) (word : Operand) (e : Effect) → effect u (Deref x word) ≡ Ok e → Derefs u x word e
deref_derefs u x word e h =
    let v = then_ok _ _ e h in
    let o = then_ok _ _ e v.2 in
    let object = ok_object u is_weak _ v.0 o.0 o.1 in
    let found = found_at u.objects object.0.serial o.0 object.0.at in
    record {
      weak = object.0.serial;
      reference = o.0;
      word_is = ok_found (value_of u word) _ v.0 v.1 ∙ ap (λ z. Some z) object.0.value;
      member = found.0;
      serial = found.1;
      code = weak_code o.0.code object.1;
      is = unwrapped (Changes false [] (given_up_by u x) (bound u x (Some (elim o.0.referent [ None ↦ Nothing | Some r ↦ Ref r ])))) e o.2
          ∙ ap (λ r. Changes false [] (given_up_by u x) (bound u x (Some r))) (referent_is o.0.referent);
    }

-- `x = ref v f`
pub record Refs (u : World) (x : ℕ) (target : Operand) (e : Effect) : Type 0 where
  pub object : ℕ
  pub entries : List Entry
  pub target_is : value_of u target ≡ Some (Ref object)
  pub is : e ≡ Changes true (Made Weak u.next_serial ∷ []) (given_up_by u x) (bound (with_new u Weak None entries (Some object)) x (Some (Ref u.next_serial)))

pub ref_refs : (u : World) (x : ℕ) (target callback : Operand) (e : Effect) → effect u (MakeRef x target callback) ≡ Ok e → Refs u x target e
ref_refs u x target callback e h =
    let v = then_ok _ _ e h in
    let f = then_ok _ _ e v.2 in
    let o = then_ok _ _ e f.2 in
    let es = then_ok _ _ e o.2 in
    let first = then_ok _ _ e es.2 in
    let second = then_ok _ _ e first.2 in
    let object = (ok_object u _ _ v.0 o.0 o.1).0 in
    let found = found_at u.objects object.serial o.0 object.at in
    record {
      object = o.0.serial;
      entries = es.0;
      target_is = ok_found (value_of u target) _ v.0 v.1 ∙ ap (λ z. Some z) (object.value ∙ ap (λ n. Ref n) (sym found.1));
      is = unwrapped (Changes true (Made Weak u.next_serial ∷ []) (given_up_by u x) (bound (with_new u Weak None es.0 (Some o.0.serial)) x (Some (Ref u.next_serial)))) e second.2;
    }
