use Rattle.std.proofs.Common.{◌≡◌, true, false, ap, ◌∙◌}
use Rattle.std.specs.Prelude.{is_some}
use Rattle.cg_arena.proofs.index.SlotIndex.slot_by_row.Goals as goal

pub unreachable-requires : goal.unreachable-requires
unreachable-requires c = let both : false ≡ true = ap is_some c.in-None.ensures.value ∙ c.requires in cc
