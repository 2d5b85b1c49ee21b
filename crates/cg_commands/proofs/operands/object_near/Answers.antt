use Rattle.std.proofs.Common.{sym, ◌∙◌, subst}
use Rattle.cg_commands.specs.Refusals.{number_of}
use Rattle.cg_commands.specs.Objects.{test_of, refusal_of, HasNoObject}
use Rattle.cg_commands.proofs.Reading.{object-none, object-other}
use Rattle.cg_commands.proofs.operands.object_near.Goals as goal

pub returns-in_default-clause-err : goal.returns-in_default-clause-err
returns-in_default-clause-err g c =
    subst (HasNoObject c.args.heap.now (test_of c.args.wanted) (number_of (refusal_of c.args.wanted)) c.args.val) (sym c.refusal.ensures)
    (object-none _ _ _ c.in_default.not-Ref)

pub returns-else-admits-clause-err : goal.returns-else-admits-clause-err
returns-else-admits-clause-err g c =
    subst (HasNoObject c.args.heap.now (test_of c.args.wanted) (number_of (refusal_of c.args.wanted)) c.args.val) (sym c.refusal-else-admits.ensures)
    (object-other _ _ _ _ _ c.in-Ref.is (c.requires _ c.in-Ref.is) c.locate.ensures (sym c.admits.ensures ∙ c.if-admits.false))
