-- The model of any of the six kinds is that of the kind it holds. (Ours.)
use Rattle.cg_kinds.specs.declared.body_slab.BodySlab.{BodySlab}
use Rattle.cg_kinds.specs.declared.list.ListItems.{ListItems}
use Rattle.cg_kinds.specs.declared.tuple.TupleItems.{TupleItems}
use Rattle.cg_kinds.specs.declared.pairs.Pairs.{Pairs}
use Rattle.cg_kinds.specs.declared.pairs.Dictionary.{Dictionary}
use Rattle.cg_kinds.specs.declared.pairs.Instance.{Instance}
use Rattle.cg_kinds.specs.declared.func.Cells.{Cells}
use Rattle.cg_kinds.specs.declared.weak.Callback.{Callback}
use Rattle.cg_any_kind.specs.declared.AnyKind.{AnyKind}
use Rattle.cg_any_kind.specs.declared.AnyKind.TheVariants.{List, Tuple, Dict, Inst, Func, Weak}

-- applies the function for the kind
abbrev pub by_kind : {T : Type 0} → (BodySlab ListItems → T) → (BodySlab TupleItems → T) → (BodySlab (Pairs Dictionary) → T) → (BodySlab (Pairs Instance) → T)
    → (BodySlab Cells → T) → (BodySlab Callback → T) → AnyKind → T
by_kind list tuple dict inst func weak (List k) = list k
by_kind list tuple dict inst func weak (Tuple k) = tuple k
by_kind list tuple dict inst func weak (Dict k) = dict k
by_kind list tuple dict inst func weak (Inst k) = inst k
by_kind list tuple dict inst func weak (Func k) = func k
by_kind list tuple dict inst func weak (Weak k) = weak k
