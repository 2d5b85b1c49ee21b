-- The objects that values refer to, and the kinds that commands expect. (Ours.)
use Rattle.std.specs.Prelude.{◌≡◌, ℕ, Bool, true, false, [], Some, None, Result}
use Rattle.std.specs.FinMap as fin
use Rattle.cg_value.specs.declared.Val.{Val}
use Rattle.cg_value.specs.declared.Val.TheVariants.{Ref}
use Rattle.cg_value.specs.declared.KindCode.{KindCode}
use Rattle.cg_value.specs.declared.Place.TheVariants.{Untracked}
use Rattle.cg_graph.specs.Object.{Object}
use Rattle.cg_graph.specs.Store.{Store, Node, object_from}
use Rattle.cg_machine.specs.World.{World}
use Rattle.cg_represents.specs.Represents.{Represents}
use Rattle.cg_machine.specs.Effects.{is_hashable}
use Rattle.cg_machine.specs.Refusals.{◌>>=◌, unless, unhashable, wrong_kind}
use Rattle.cg_script.specs.declared.command.Operand.{Operand}
use Rattle.cg_machine.specs.Operands.{value, object, object_of, any_object, is_list, is_script_list, is_sequence, is_dict, is_weak}
use Rattle.cg_machine.specs.Weak.{is_function, has_weak_references}
use Rattle.cg_commands.specs.declared.done.Refusal.{Refusal}
use Rattle.cg_commands.specs.declared.done.Refusal.TheVariants.{WrongKind, NotWeak, NotCallable}
use Rattle.cg_commands.specs.Refusals.{Declines}
use Rattle.cg_commands.specs.declared.operands.Wanted.{Wanted}
use Rattle.cg_commands.specs.declared.operands.Wanted.TheVariants as wanted

-- the machine's test of each kind
abbrev pub test_of : Wanted → Object → Bool
test_of wanted.Any = any_object
test_of wanted.List = is_list
test_of wanted.ScriptList = is_script_list
test_of wanted.Sequence = is_sequence
test_of wanted.Dict = is_dict
test_of wanted.Func = is_function
test_of wanted.Referable = has_weak_references
test_of wanted.Weak = is_weak

-- why an object of another kind is refused
abbrev pub refusal_of : Wanted → Refusal
refusal_of wanted.Weak = NotWeak
refusal_of wanted.Func = NotCallable
refusal_of other = WrongKind

-- The value refers to this live object, which passes the test.
pub record RefersTo (store : Store) (test : Object → Bool) (v : Val) (o : ℕ) : Type 0 where
  pub node : Node
  pub refers : v ≡ Ref o
  pub found : fin.get store.nodes o ≡ Some node
  pub passes : test (object_from store.rows o node) ≡ true

-- It refers to no object that passes: in every world that the heap represents, the machine gives this refusal.
abbrev pub HasNoObject : Store → (Object → Bool) → ℕ → Val → Refusal → Type 0
HasNoObject store test number v refusal = (w : World) → Represents store w → Declines refusal (object w test number v)

-- the object that an operand refers to, where it passes the test
abbrev pub target_in : World → Operand → (Object → Bool) → ℕ → Result Object ℕ
target_in w operand test refusal = do
  v ← value w operand
  object w test refusal v

-- the value of an operand that is read after another one
abbrev pub value_after : World → Operand → Operand → Result Val ℕ
value_after w first second = do
  _ ← value w first
  value w second

-- an object of which only the kind and the serial are known: the tests need no more
abbrev pub bare : KindCode → ℕ → Object
bare code o = record { serial = o; code = code; class = None; entries = []; place = Untracked; finalized = false; referent = None }

-- The answer to a question about the object that a value refers to, in every world that the heap represents; it is no for
-- a value without an object.
abbrev pub Tells : Store → (Object → Bool) → Val → Bool → Type 0
Tells store question v answer = (w : World) → Represents store w → elim (object_of w v) [ None ↦ false | Some x ↦ question x ] ≡ answer

-- whether the value may be a key, in every such world
abbrev pub IsKey : Store → Val → Bool → Type 0
IsKey store v answer = (w : World) → Represents store w → is_hashable w v ≡ answer

-- Why a value with a key is refused, in every such world: it refers to no dictionary, or else the key is not allowed.
abbrev pub DeclinesKey : Store → Val → Val → Refusal → Type 0
DeclinesKey store v key refusal = (w : World) → Represents store w → Declines refusal (object w is_dict wrong_kind v >>= (λ x. unless (is_hashable w key) unhashable))
