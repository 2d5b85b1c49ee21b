use Rattle.std.proofs.Common.{length}
use Rattle.cg_ask.proofs.WouldGo.{dead_not_reached}
use Rattle.cg_ask.proofs.Marking.{member_of}
use Rattle.cg_ask.proofs.laws.dead_is_let_go.Goals as goal

pub returns : goal.returns
returns c = λ ms dropped o right are dies r. record { reached = r; by_these = λ other. dead_not_reached ms dropped o right (λ x m. member_of (length ms) dropped x are m) dies other }
