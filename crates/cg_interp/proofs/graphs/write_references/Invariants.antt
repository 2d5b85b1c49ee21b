use Rattle.std.proofs.Common.{◌≤◌, take}
use Rattle.std.specs.Io.KnownBytes.{Appends}
use Rattle.cg_graph.specs.Value.{references}
use Rattle.cg_graph.specs.Store.{entries_of}
use Rattle.cg_interp.proofs.GraphText.{references_text}
use Rattle.cg_interp.proofs.graphs.write_references.Given as goal

-- the references of the entries so far were written
abbrev pub invariant-entries : goal.invariant-entries
invariant-entries g l = record {
  wrote : Appends (g.K.Sink.written l.fn.sink) (g.K.Sink.written l.sink) (references_text l.heap l.detection (references (take l.i (entries_of l.heap l.object))));
  later : g.K.Sink.faults l.fn.sink ≤ g.K.Sink.faults l.sink;
}
