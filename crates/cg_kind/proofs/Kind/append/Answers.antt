use Rattle.std.proofs.Common.{◌∙◌}
use Rattle.cg_kind.proofs.BodyLemmas.{appended}
use Rattle.cg_kind.proofs.Kind.append.Goals as goal

pub returns-clause-ok : goal.returns-clause-ok
returns-clause-ok g c =
    appended _ _ _ c.args.at _ _ c.args.val c.in_ok-reserve.ensures.ok
    (c.append_reserved.ensures.appends (c.in_ok-reserve.ensures.same_kind ∙ c.requires.list))
