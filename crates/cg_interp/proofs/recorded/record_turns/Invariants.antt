use Rattle.std.proofs.Common.{◌≤◌}
use Rattle.cg_interp.specs.Turns.{StaysFit}
use Rattle.cg_interp.specs.Recording.{RecordedSo}
use Rattle.cg_interp.proofs.MeasureOfTurns.{falling}
use Rattle.cg_interp.proofs.recorded.record_turns.Given as goal

-- the records of the run so far were written, and the engine represents the world after it
abbrev pub invariant-turns : goal.invariant-turns
invariant-turns g l = record {
  so : RecordedSo l.script l.fn.engine.first_budget (g.K.Sink.written l.fn.sink) l.engine l.unfinished (g.K.Sink.written l.sink);
  fit : StaysFit l.fn.engine l.engine;
  later : g.K.Sink.faults l.fn.sink ≤ g.K.Sink.faults l.sink;
}

abbrev pub decreases-turns : goal.decreases-turns
decreases-turns g l = falling l.script l.engine
