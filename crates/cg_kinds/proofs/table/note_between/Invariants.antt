use Rattle.std.proofs.Common.{◌≡◌, ◌≤◌, ◌-◌, ◌*◌, length, take, drop}
use Rattle.cg_graph.specs.Value.{references}
use Rattle.cg_kinds.specs.Pairs.{pairs_of}
use Rattle.cg_kinds.proofs.table.note_between.Given as goal

abbrev pub invariant-pairs : goal.invariant-pairs
invariant-pairs l = record {
  noted : take l.count l.found ≡ references (take (l.index - l.from) (drop l.from (pairs_of l.map.entries)));
  few : l.count ≤ 2 * (l.index - l.from);
  room : length l.found ≡ length l.fn.found;
}
