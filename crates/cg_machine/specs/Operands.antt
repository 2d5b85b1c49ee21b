-- What the operands of a command stand for, and tests of the kind that a command expects. (Ours.)
use Rattle.std.specs.Prelude.{ℕ, Bool, true, false, not, ◌&&◌, ◌==◌, List, [], ◌∷◌, Option, Some, None, Result, Ok, Err, if◌then◌else◌, option_map, option_and_then, ok_or, slice_get}
use Rattle.cg_value.specs.declared.Val.{Val}
use Rattle.cg_value.specs.declared.Val.TheVariants.{None as Nothing, Int, Str, Ref}
use Rattle.cg_value.specs.declared.KindCode.TheVariants.{List as ListKind, Tuple, Dict, Weak}
use Rattle.cg_script.specs.declared.Operand.{Operand}
use Rattle.cg_script.specs.declared.Operand.TheVariants.{None as NoneWord, Int as IntWord, Str as StrWord, Name, SelfLocal, WeakLocal, Cell, Garbage}
use Rattle.cg_graph.specs.Value.{reference_in}
use Rattle.cg_graph.specs.Object.{Object, object_at, entries_of}
use Rattle.cg_machine.specs.declared.event.FrameSort.{FrameSort}
use Rattle.cg_machine.specs.declared.event.FrameSort.TheVariants.{Del as DelFrame, Legacy, Callback, Call as CallFrame}
use Rattle.cg_machine.specs.World.{World, Activity, Framed, Frame}
use Rattle.cg_machine.specs.Refusals.{◌>>=◌, no_name}

-- the top frame
abbrev pub frame_on : List Activity → Option Frame
frame_on (Framed f ∷ below) = Some f
frame_on _ = None

-- the object whose finalizer or legacy finalizer runs
abbrev pub self_in : FrameSort → ℕ → Option ℕ
self_in DelFrame o = Some o
self_in Legacy o = Some o
self_in Callback o = None
self_in CallFrame o = None

-- the weak reference whose callback runs
abbrev pub weak_in : FrameSort → ℕ → Option ℕ
weak_in DelFrame o = None
weak_in Legacy o = None
weak_in Callback o = Some o
weak_in CallFrame o = None

-- the value of an operand, if it has one
abbrev pub value_of : World → Operand → Option Val
value_of w NoneWord = Some Nothing
value_of w (IntWord n) = Some (Int n)
value_of w (StrWord s) = Some (Str s)
value_of w (Name x) = option_and_then (λ v. v) (slice_get w.names x)
value_of w SelfLocal = option_map Ref (option_and_then (λ f. self_in f.sort f.subject) (frame_on w.stack))
value_of w WeakLocal = option_map Ref (option_and_then (λ f. weak_in f.sort f.subject) (frame_on w.stack))
value_of w (Cell i) = option_and_then (λ f. option_and_then (λ o. option_map (λ e. e.val) (slice_get (entries_of w.objects o) i)) f.function) (frame_on w.stack)
value_of w Garbage = Some (Ref 1)

-- refused where an operand is unbound, or a local that the frame lacks
abbrev pub value : World → Operand → Result Val ℕ
value w operand = ok_or (value_of w operand) no_name

-- the values of operands, or the first refusal
abbrev pub values : World → List Operand → Result (List Val) ℕ
values w [] = Ok []
values w (operand ∷ operands) = do
  v ← value w operand
  vs ← values w operands
  Ok (v ∷ vs)

-- the object that a value refers to
abbrev pub object_of : World → Val → Option Object
object_of w v = option_and_then (object_at w.objects) (reference_in v)

-- tests of the kind that a command expects
abbrev pub is_list : Object → Bool
is_list x = elim x.code [ ListKind ↦ true | _ ↦ false ]

-- a list that is not the garbage list
abbrev pub is_script_list : Object → Bool
is_script_list x = is_list x && not (x.serial == 1)

-- a list or a tuple
abbrev pub is_sequence : Object → Bool
is_sequence x = elim x.code [ ListKind ↦ true | Tuple ↦ true | _ ↦ false ]

-- a dictionary
abbrev pub is_dict : Object → Bool
is_dict x = elim x.code [ Dict ↦ true | _ ↦ false ]

-- a weak reference
abbrev pub is_weak : Object → Bool
is_weak x = elim x.code [ Weak ↦ true | _ ↦ false ]

-- any kind
abbrev pub any_object : Object → Bool
any_object x = true

-- an object that passes a test
abbrev pub tested : (Object → Bool) → ℕ → Object → Result Object ℕ
tested test refusal x = if test x then Ok x else Err refusal

-- the object that a value refers to, where it passes the test
abbrev pub object : World → (Object → Bool) → ℕ → Val → Result Object ℕ
object w test refusal v = do
  x ← ok_or (object_of w v) refusal
  tested test refusal x
