use Rattle.std.proofs.Common.{◌≡◌, ◌≤◌, ◌-◌, length, map, take, drop}
use Rattle.cg_graph.specs.Value.{item, references}
use Rattle.cg_kinds.specs.Values.{values_in}
use Rattle.cg_kinds.proofs.values.note_each.Given as goal

abbrev pub invariant-places : goal.invariant-places
invariant-places l = record {
  noted : take l.count l.found ≡ references (take (l.at - l.from) (drop l.from (map item (values_in l.sorts l.numbers))));
  few : l.count ≤ l.at - l.from;
  room : length l.found ≡ length l.fn.found;
}
