use Rattle.cg_cert.specs.Judged.{serials_of}
use Rattle.cg_cert.proofs.NamesAndPositions.{named_by_more, if_none}
use Rattle.cg_search.proofs.Places.{includes_next}
use Rattle.cg_cert.proofs.table.rows_of.Goals as goal

pub returns-in-None-clause-none : goal.returns-in-None-clause-none
returns-in-None-clause-none c = λ named.
    if_none _ _ c.in-None.is c.in_ok-row.ensures.none
    (named_by_more (serials_of c.args.members.now) c.as_slice.result.now c.args.members.now _ (includes_next c.args.members.now c.members.at c.index-members-at.result c.members-test.true)
    c.as_slice.ensures named)
