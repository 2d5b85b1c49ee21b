use Rattle.std.proofs.Common.{◌≤◌, take}
use Rattle.std.specs.Prelude.{flat_map}
use Rattle.cg_machine.specs.Lines.{line}
use Rattle.cg_interp.specs.Running.{Gathers}
use Rattle.cg_interp.proofs.writing.write_events.Given as goal

-- the lines of the events so far were gathered
abbrev pub invariant-events : goal.invariant-events
invariant-events g l = record {
  gathered : Gathers (g.K.Sink.written l.fn.sink) (g.K.Sink.written l.sink) l.fn.text.bytes l.text.bytes (flat_map (line l.names) (take l.event-index l.events));
  later : g.K.Sink.faults l.fn.sink ≤ g.K.Sink.faults l.sink;
}
