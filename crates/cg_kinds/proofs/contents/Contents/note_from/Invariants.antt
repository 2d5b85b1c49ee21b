use Rattle.std.proofs.Common.{◌≡◌, ◌≤◌, ◌-◌, ◌*◌, length, take, drop}
use Rattle.cg_graph.specs.Value.{references}
use Rattle.cg_kinds.proofs.contents.Contents.note_from.Given as goal

abbrev pub invariant-entries : goal.invariant-entries
invariant-entries g l = record {
  noted : take l.references l.found ≡ references (take (l.i - l.from) (drop l.from (g.Self.Contents.body l.self).entries));
  few : l.references ≤ 2 * (l.i - l.from);
  room : length l.found ≡ length l.fn.found;
}
