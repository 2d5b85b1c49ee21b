use Rattle.std.specs.Io.KnownBytes.{Keeps}
use Rattle.cg_io.proofs.read_source.read_patiently.Given as goal

-- an interrupted read consumed nothing
abbrev pub invariant-tries : goal.invariant-tries
invariant-tries g l = Keeps (g.R.Read.remaining l.fn.inner) (g.R.Read.remaining l.inner)
