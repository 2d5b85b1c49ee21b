-- The six kinds in order. (Ours.)
use Rattle.std.specs.Prelude.{List, [], ◌∷◌}
use Rattle.cg_value.specs.declared.KindCode.{KindCode}
use Rattle.cg_value.specs.declared.KindCode.TheVariants.{List as ListKind, Tuple, Dict, Inst, Func, Weak}

-- the kinds, in the order of their codes
abbrev pub six_kinds : List KindCode
six_kinds = ListKind ∷ Tuple ∷ Dict ∷ Inst ∷ Func ∷ Weak ∷ []
