use Rattle.std.proofs.Common.{◌∙◌, ap, is_some}
use Rattle.cg_interp.proofs.GraphText.{given_err, on_err, member_cut, references_cut}
use Rattle.cg_interp.proofs.graphs.write_member.Goals as goal

pub returns-in_err-write_member_line-clause-err : goal.returns-in_err-write_member_line-clause-err
returns-in_err-write_member_line-clause-err g c =
    given_err _ _ (member_cut c.args.script.now c.args.heap.now c.args.detection c.args.object _ _ c.refs.ensures.count (c.is_some-legacy.ensures
    ∙ ap is_some c.finalizers_of.ensures.legacy) _ _ c.in_err-write_member_line.ensures.err)

pub returns-clause-err : goal.returns-clause-err
returns-clause-err g c =
    on_err _ _ _
    (λ part. references_cut c.args.script.now c.args.heap.now c.args.detection c.args.object _ _ c.refs.ensures.count (c.is_some-legacy.ensures
    ∙ ap is_some c.finalizers_of.ensures.legacy) _ _ _ c.in_ok-write_member_line.ensures.ok part)
    c.write_references.ensures.err
