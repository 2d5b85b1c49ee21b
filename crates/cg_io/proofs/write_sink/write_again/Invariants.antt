use Rattle.std.specs.Io.KnownBytes.{Keeps}
use Rattle.cg_io.proofs.write_sink.write_again.Given as goal

-- an interrupted write wrote nothing
abbrev pub invariant-tries : goal.invariant-tries
invariant-tries g l = Keeps (g.W.Write.contents l.fn.inner) (g.W.Write.contents l.inner)
