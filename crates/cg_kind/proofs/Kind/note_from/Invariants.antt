use Rattle.std.proofs.Common.{◌≡◌, ◌≤◌, ◌-◌, ◌*◌, length, take, drop}
use Rattle.cg_graph.specs.Value.{references}
use Rattle.cg_kind.specs.Bodies.{entries_at}
use Rattle.cg_kind.proofs.Kind.note_from.Given as goal

abbrev pub invariant-entries : goal.invariant-entries
invariant-entries g l = record {
  noted : take l.references l.found ≡ references (take (l.i - l.from) (drop l.from (entries_at (g.Self.Kind.bodies l.self) l.at)));
  few : l.references ≤ 2 * (l.i - l.from);
  room : length l.found ≡ length l.fn.found;
}
