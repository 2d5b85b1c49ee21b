use Rattle.std.proofs.Common.{◌≤◌}
use Rattle.cg_interp.specs.Turns.{StaysFit}
use Rattle.cg_interp.specs.Running.{Ran}
use Rattle.cg_interp.proofs.MeasureOfTurns.{falling}
use Rattle.cg_interp.proofs.run.run_turns.Given as goal

-- the text of the run so far was written or is held, and the engine represents the world after it
abbrev pub invariant-turns : goal.invariant-turns
invariant-turns g l = record {
  ran : Ran l.script l.fn.engine.first_budget (g.K.Sink.written l.fn.sink) l.engine (g.K.Sink.written l.sink) l.text.bytes;
  fit : StaysFit l.fn.engine l.engine;
  later : g.K.Sink.faults l.fn.sink ≤ g.K.Sink.faults l.sink;
}

abbrev pub decreases-turns : goal.decreases-turns
decreases-turns g l = falling l.script l.engine
