use Rattle.std.proofs.Common.{◌∙◌, sym, arith}
use Rattle.cg_kinds.proofs.ItemLemmas.{found-first, found-none, found-nothing}
use Rattle.cg_kinds.proofs.items.find_item.Goals.{else-count-gt0-via-then-count-gt0+else-eq, else-count-gt0-via-else-count-gt0}
use Rattle.cg_kinds.proofs.items.find_item.Goals as goal

pub returns-then-eq : goal.returns-then-eq
returns-then-eq c values count = found-first c.args.key values (sym c.eq.ensures ∙ c.if-eq.true) (omega (arith, count, c.if-count-gt0.true))

pub returns-else-count-gt0 : goal.returns-else-count-gt0
returns-else-count-gt0 c values count = elim c.else-count-gt0.branch [
  | else-count-gt0-via-then-count-gt0+else-eq w ↦ found-none c.args.key values (sym w.eq.ensures ∙ w.if-eq.false)
  | else-count-gt0-via-else-count-gt0 w ↦ found-nothing c.args.key values (omega (arith, count, w.if-count-gt0.false))
]
