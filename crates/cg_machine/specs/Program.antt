-- What the machine reads in a script: its commands, procedures and classes. (The script language is ours.)
use Rattle.std.specs.Prelude.{ℕ, List, [], Option, None, slice_get, option_map, option_and_then, unwrap_or}
use Rattle.cg_script.specs.declared.Script.{Script}
use Rattle.cg_script.specs.declared.ClassDef.{ClassDef}
use Rattle.cg_script.specs.declared.Command.{Command}
use Rattle.cg_value.specs.declared.KindCode.{KindCode}
use Rattle.cg_value.specs.declared.KindCode.TheVariants.{List as ListKind, Tuple, Dict, Inst, Func, Weak}
use Rattle.cg_graph.specs.Object.{Object}
pub use Rattle.cg_script.specs.Items.{commands_of, procedures, classes, profile_of, declares_shutdown}

-- the body of a procedure; none where the script has no such procedure
abbrev pub body_of : Script → ℕ → List Command
body_of script p = unwrap_or (option_map (λ x. x.body) (slice_get (procedures script.items) p)) []

-- the number of an object's class, which instances alone have
abbrev pub class_number : KindCode → Option ℕ → Option ℕ
class_number ListKind class = None
class_number Tuple class = None
class_number Dict class = None
class_number Inst class = class
class_number Func class = None
class_number Weak class = None

-- the class of an instance
abbrev pub class_of : Script → Object → Option ClassDef
class_of script x = option_and_then (λ c. slice_get (classes script.items) c) (class_number x.code x.class)

-- the finalizer of an object's class (PEP 442, `tp_finalize`, a class's `__del__`)
abbrev pub finalizer_of : Script → Object → Option ℕ
finalizer_of script x = option_and_then (λ c. c.del) (class_of script x)

-- its legacy finalizer (PEP 442, "legacy finalizers", `tp_del`)
abbrev pub legacy_of : Script → Object → Option ℕ
legacy_of script x = option_and_then (λ c. c.legacy) (class_of script x)
