-- What the commands of an exit finalizer do, exactly.
use Rattle.std.proofs.Common.{◌≡◌, refl, ℕ, ◌+◌, Bool, true, false, inl, inr, ◌⊎◌, List, [], ◌∷◌, length, Option, Some, None, Result, Ok, Err}
use Rattle.std.specs.Prelude.{if◌then◌else◌, nat_le, nat_lt, ok_or}
use Rattle.cg_value.specs.declared.KindCode.{KindCode}
use Rattle.cg_value.specs.declared.KindCode.TheVariants.{Func, Weak}
use Rattle.cg_value.specs.declared.Val.{Val}
use Rattle.cg_value.specs.declared.Val.TheVariants.{None as Nothing, Ref}
use Rattle.cg_value.specs.declared.Entry.{Entry}
use Rattle.cg_script.specs.declared.Script.{Script}
use Rattle.cg_script.specs.declared.Command.TheVariants.{Call, Del, Deref, MakeFunc, MakeRef, Quit}
use Rattle.cg_script.specs.declared.Operand.{Operand}
use Rattle.cg_script.specs.declared.Operand.TheVariants.{Name}
use Rattle.cg_graph.proofs.Members.{either}
use Rattle.cg_graph.specs.Object.{Object}
use Rattle.cg_graph.specs.Value.{item}
use Rattle.cg_machine.specs.declared.event.Event.{Event}
use Rattle.cg_machine.specs.declared.event.Event.TheVariants.{Made}
use Rattle.cg_machine.specs.declared.event.FrameSort.TheVariants.{Call as CallFrame}
use Rattle.cg_machine.specs.World.{World, Releasing, push, with_stack}
use Rattle.cg_machine.specs.Frame.{Yields, procedure_of, start_frame}
use Rattle.cg_machine.specs.Weak.{has_weak_references, is_function}
use Rattle.cg_graph.specs.declared.limits.TheConstants.{MOST_ENTRIES, MOST_OBJECTS}
use Rattle.cg_machine.specs.Refusals.{◌>>=◌, entry_limit, no_memory, no_name, not_callable, not_weak, object_limit, unless, wrong_kind}
use Rattle.cg_machine.specs.Operands.{is_weak, object, object_of, tested, value_of}
use Rattle.cg_machine.specs.Effects.{Changes, Effect, Quits, binds, bound, callback_entries, entry_count, given_up_by, live, makes, with_new}
use Rattle.cg_machine.specs.Commands.{CommandStep, DoesEffect, refused, without_commands}

module _ (script : Script) (u : World) (events : List Event) (after : World) where
  abbrev pub IsRefused : Type 0
  IsRefused = (n : ℕ) × Yields (refused n u) events after

  asks : {A : Type 0} (m : Option A) (n : ℕ) (f : A → Result Effect ℕ) → DoesEffect script u (ok_or m n >>= f) events after → IsRefused
      ⊎ ((x : A) × (m ≡ Some x) × DoesEffect script u (f x) events after)
  unfolding ◌>>=◌
  asks None n f step = inl (n, step)
  asks (Some x) n f step = inr (x, refl, step)

  checks : (b : Bool) (n : ℕ) (f : Unit {0} → Result Effect ℕ) → DoesEffect script u (unless b n >>= f) events after → IsRefused ⊎ DoesEffect script u (f tt) events after
  unfolding ◌>>=◌
  checks true n f step = inr step
  checks false n f step = inl (n, step)

  finds : (test : Object → Bool) (n : ℕ) (v : Val) (f : Object → Result Effect ℕ) → DoesEffect script u (object u test n v >>= f) events after → IsRefused
      ⊎ ((x : Object) × (object_of u v ≡ Some x) × (test x ≡ true) × DoesEffect script u (f x) events after)
  unfolding ◌>>=◌
  finds test n v f step = go (object_of u v) refl step
    where
      tests : (x : Object) → object_of u v ≡ Some x → (b : Bool) → test x ≡ b → DoesEffect script u ((if b then Ok x else Err n) >>= f) events after → IsRefused
          ⊎ ((x : Object) × (object_of u v ≡ Some x) × (test x ≡ true) × DoesEffect script u (f x) events after)
      tests x at true t s = inr (x, at, t, s)
      tests x at false t s = inl (n, s)

      go : (m : Option Object) → object_of u v ≡ m → DoesEffect script u ((ok_or m n >>= tested test n) >>= f) events after → IsRefused
          ⊎ ((x : Object) × (object_of u v ≡ Some x) × (test x ≡ true) × DoesEffect script u (f x) events after)
      go None at s = inl (n, s)
      go (Some x) at s = tests x at (test x) refl s

  -- `del x`
  pub del_step : (name : ℕ) → CommandStep script u (Del name) events after → IsRefused ⊎ Yields ([], push (Releasing (given_up_by u name)) (bound u name None)) events after
  del_step name step = either (asks (value_of u (Name name)) no_name _ step) (λ r. inl r) (λ k. either k.2 (λ y. inr y) (λ k. absurd (let no : false ≡ true = k.0 in cc)))

  -- `quit v`
  abbrev pub Quitted : Val → Type 0
  Quitted Nothing = Yields ([], with_stack (without_commands u.stack) u) events after
  Quitted v = Yields ([], push (Releasing []) u) events after

  quitted : (v : Val) → DoesEffect script u (Ok (elim v [ Nothing ↦ Quits | _ ↦ Changes false [] [] u ])) events after → Quitted v
  quitted Nothing step = step
  quitted v step = either step (λ y. y) (λ k. absurd (let no : false ≡ true = k.0 in cc))

  pub quit_step : (operand : Operand) → CommandStep script u (Quit operand) events after → IsRefused ⊎ ((v : Val) × (value_of u operand ≡ Some v) × Quitted v)
  quit_step operand step = either (asks (value_of u operand) no_name _ step) (λ r. inl r) (λ k. inr (k.0, k.1, quitted k.0 k.2))

  -- `call f`
  pub record IsCall (operand : Operand) : Type 0 where
    pub value : Val
    pub is : value_of u operand ≡ Some value
    pub object : Object
    pub found : object_of u value ≡ Some object
    pub function : is_function object ≡ true
    pub begins : Yields (start_frame script (record { sort = CallFrame; proc = procedure_of u object.serial; subject = object.serial; func = Some object.serial }) u) events after

  pub call_step : (operand : Operand) → CommandStep script u (Call operand) events after → IsRefused ⊎ IsCall operand
  call_step operand step = either (asks (value_of u operand) no_name _ step) (λ r. inl r) (λ k. either (finds is_function not_callable k.0 _ k.2) (λ r. inl r)
      (λ x. inr (record { value = k.0; is = k.1; object = x.0; found = x.1; function = x.2; begins = x.3 })))

  -- `x = deref w`
  abbrev pub referent_value : Option ℕ → Val
  referent_value None = Nothing
  referent_value (Some o) = Ref o

  pub record IsDeref (name : ℕ) (operand : Operand) : Type 0 where
    pub value : Val
    pub is : value_of u operand ≡ Some value
    pub object : Object
    pub found : object_of u value ≡ Some object
    pub yields : Yields ([], push (Releasing (given_up_by u name)) (bound u name (Some (referent_value object.referent)))) events after

  pub deref_step : (name : ℕ) (operand : Operand) → CommandStep script u (Deref name operand) events after → IsRefused ⊎ IsDeref name operand
  deref_step name operand step = either (asks (value_of u operand) no_name _ step) (λ r. inl r) (λ k. either (finds is_weak not_weak k.0 _ k.2) (λ r. inl r)
      (λ x. inr (record { value = k.0; is = k.1; object = x.0; found = x.1; yields = binds_to x.0 x.0.referent x.3 })))
    where
      binds_to : (x : Object) (r : Option ℕ) → DoesEffect script u (binds u name (elim r [ None ↦ Nothing | Some o ↦ Ref o ])) events after
          → Yields ([], push (Releasing (given_up_by u name)) (bound u name (Some (referent_value r)))) events after
      binds_to x None s = either s (λ y. y) (λ k. absurd (let no : false ≡ true = k.0 in cc))
      binds_to x (Some o) s = either s (λ y. y) (λ k. absurd (let no : false ≡ true = k.0 in cc))

  makes_step : (name : ℕ) (kind : KindCode) (class : Option ℕ) (entries : List Entry) (referent : Option ℕ) → DoesEffect script u (makes u name kind class entries referent) events after
      → IsRefused ⊎ Yields (Made kind u.next_serial ∷ [], push (Releasing (given_up_by u name)) (bound (with_new u kind class entries referent) name (Some (Ref u.next_serial)))) events after
  makes_step name kind class entries referent step = either (checks (nat_lt (live u) MOST_OBJECTS) object_limit _ step) (λ r. inl r)
      (λ k. either (checks (nat_le (entry_count u + length entries) MOST_ENTRIES) entry_limit _ k) (λ r. inl r)
      (λ d. either d (λ y. inr y) (λ r. inl (no_memory, r.1))))

  -- `x = func P`
  pub func_step : (name proc : ℕ) → CommandStep script u (MakeFunc name proc []) events after
      → IsRefused ⊎ Yields (Made Func u.next_serial ∷ [], push (Releasing (given_up_by u name)) (bound (with_new u Func (Some proc) [] None) name (Some (Ref u.next_serial)))) events after
  unfolding ◌>>=◌
  func_step name proc step = makes_step name Func (Some proc) [] None step

  -- `x = ref y f`
  pub record IsRef (name : ℕ) (target callback : Operand) : Type 0 where
    pub value : Val
    pub is : value_of u target ≡ Some value
    pub function : Val
    pub calls : value_of u callback ≡ Some function
    pub object : Object
    pub found : object_of u value ≡ Some object
    pub entries : List Entry
    pub entries_are : (entries ≡ []) ⊎ (entries ≡ item function ∷ [])
    pub yields : Yields (Made Weak u.next_serial ∷ [], push (Releasing (given_up_by u name)) (bound (with_new u Weak None entries (Some object.serial)) name (Some (Ref u.next_serial)))) events after

  called_back : (f : Val) (k : List Entry → Result Effect ℕ) → DoesEffect script u (callback_entries u f >>= k) events after → IsRefused
      ⊎ ((entries : List Entry) × ((entries ≡ []) ⊎ (entries ≡ item f ∷ [])) × DoesEffect script u (k entries) events after)
  unfolding ◌>>=◌
  called_back Nothing k step = inr ([], inl refl, step)
  called_back (Ref i) k step = go (object u is_function not_callable (Ref i)) step
    where
      go : (r : Result Object ℕ) → DoesEffect script u ((r >>= λ x. Ok (item (Ref i) ∷ [])) >>= k) events after → IsRefused
          ⊎ ((entries : List Entry) × ((entries ≡ []) ⊎ (entries ≡ item (Ref i) ∷ [])) × DoesEffect script u (k entries) events after)
      go (Ok x) s = inr (item (Ref i) ∷ [], inr refl, s)
      go (Err n) s = inl (n, s)
  called_back v k step = inl (not_callable, step)

  pub ref_step : (name : ℕ) (target callback : Operand) → CommandStep script u (MakeRef name target callback) events after → IsRefused ⊎ IsRef name target callback
  ref_step name target callback step = either (asks (value_of u target) no_name _ step) (λ r. inl r) (λ v. either (asks (value_of u callback) no_name _ v.2)
      (λ r. inl r) (λ f. either (finds has_weak_references wrong_kind v.0 _ f.2) (λ r. inl r)
      (λ x. either (called_back f.0 _ x.3) (λ r. inl r) (λ es. either (makes_step name Weak None es.0 (Some x.0.serial) es.2) (λ r. inl r)
      (λ y. inr (record { value = v.0; is = v.1; function = f.0; calls = f.1; object = x.0; found = x.1; entries = es.0; entries_are = es.1; yields = y }))))))
