use Rattle.std.proofs.Common.{◌≤◌, length}
use Rattle.cg_graph.specs.Store.{list_at}
use Rattle.cg_trial.proofs.Lists.{ahead}
use Rattle.cg_interp.proofs.GraphText.{WritesAlong}
use Rattle.cg_records.specs.Text.{numbered}
use Rattle.cg_interp.proofs.graphs.write_all_at.Given as goal

-- the objects so far were written
abbrev pub invariant-objects : goal.invariant-objects
invariant-objects g l = record {
  so_far : WritesAlong l.heap l.fn.place (numbered l.word) l.cursor (g.K.Sink.written l.fn.sink) (g.K.Sink.written l.sink);
  later : g.K.Sink.faults l.fn.sink ≤ g.K.Sink.faults l.sink;
}

abbrev pub decreases-objects : goal.decreases-objects
decreases-objects g l = length (ahead l.cursor (list_at l.heap l.fn.place))
