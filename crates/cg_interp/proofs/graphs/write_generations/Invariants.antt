use Rattle.std.proofs.Common.{◌≤◌}
use Rattle.std.specs.Io.KnownBytes.{Appends}
use Rattle.cg_interp.specs.declared.graphs.Detection.TheVariants.{First}
use Rattle.cg_interp.specs.Graphs.{members_text, generations_below}
use Rattle.cg_interp.proofs.graphs.write_generations.Given as goal

-- the generations so far were written
abbrev pub invariant-generations : goal.invariant-generations
invariant-generations g l = record {
  wrote : Appends (g.K.Sink.written l.fn.sink) (g.K.Sink.written l.sink) (members_text l.script l.heap (First l.generation) (generations_below l.heap l.i));
  later : g.K.Sink.faults l.fn.sink ≤ g.K.Sink.faults l.sink;
}
