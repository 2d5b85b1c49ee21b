use Rattle.cg_cert.specs.Judged.{serials_of}
use Rattle.cg_cert.proofs.Ascending.{told_once, known}
use Rattle.cg_cert.proofs.table.position_at.Goals as goal

pub returns-then-is_at : goal.returns-then-is_at
returns-then-is_at c = known (serials_of c.args.members.now) _ _ (told_once (serials_of c.args.members.now) c.args.places.now c.requires) (c.is_at.ensures c.if-is_at.true)
