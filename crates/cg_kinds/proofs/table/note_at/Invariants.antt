use Rattle.std.proofs.Common.{◌≡◌, ◌≤◌, ◌*◌, length, take}
use Rattle.cg_graph.specs.Value.{references}
use Rattle.cg_kinds.specs.Pairs.{pairs_of, picked}
use Rattle.cg_kinds.proofs.table.note_at.Given as goal

abbrev pub invariant-indexes : goal.invariant-indexes
invariant-indexes l = record {
  noted : take l.count l.found ≡ references (picked (pairs_of l.map.entries) (take l.index-index l.indexes));
  few : l.count ≤ 2 * l.index-index;
  room : length l.found ≡ length l.fn.found;
}
