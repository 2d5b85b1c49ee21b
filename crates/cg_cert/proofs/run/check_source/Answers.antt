use Rattle.std.proofs.Common.{subst, List, ℕ}
use Rattle.cg_cert.specs.Statuses.{ToldFront}
use Rattle.cg_cert.proofs.CheckFacts.{told_front}
use Rattle.cg_cert.proofs.run.check_source.Goals as goal

pub returns-in-Ok-clause-write : goal.returns-in-Ok-clause-write
returns-in-Ok-clause-write g c = λ e.
    told_front (g.S.Source.left c.args.source.now) (g.S.Source.left c.read_up_to.new.source) c.in-Ok.bytes.items c.in-Ok.ensures.bytes c.in-Ok.ensures.end _ _
    (subst (λ (bs : List ℕ). ToldFront bs (g.K.Sink.written c.args.sink.now) (g.K.Sink.written c.check_read.new.sink)) c.as_slice.ensures.value (c.check_read.ensures.write e))
