use Rattle.cg_commands.proofs.Steps.{tells-object, tells-none}
use Rattle.cg_commands.proofs.queries.is_finalized.Goals as goal

pub returns-in_default : goal.returns-in_default
returns-in_default g c = tells-none _ (λ x. x.finalized) _ c.in_default.not-Ref

pub returns : goal.returns
returns g c = tells-object c.args.heap.now (λ x. x.finalized) _ _ _ c.in-Ref.is (c.requires _ c.in-Ref.is) c.is_finalized.ensures
