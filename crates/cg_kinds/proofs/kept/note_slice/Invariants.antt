use Rattle.std.proofs.Common.{◌≡◌, ◌≤◌, ◌*◌, length, map, take}
use Rattle.cg_graph.specs.Value.{references}
use Rattle.cg_kinds.proofs.kept.note_slice.Given as goal

abbrev pub invariant-parts : goal.invariant-parts
invariant-parts g l = record {
  noted : take l.references l.found ≡ references (map g.T.KeepsEntry.kept (take l.part-index l.part-items));
  few : l.references ≤ 2 * l.part-index;
  room : length l.found ≡ length l.fn.found;
}
