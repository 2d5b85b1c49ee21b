use Rattle.std.proofs.Common.{sym, ◌∙◌}
use Rattle.cg_cert.proofs.NamesAndPositions.{located_before, locates_more, some_of, none_of}
use Rattle.cg_cert.proofs.table.positions_of.Goals as goal

pub returns-then-is_some-clause-none : goal.returns-then-is_some-clause-none
returns-then-is_some-clause-none c =
    let found = some_of c.in_ok-insert.field-0 (sym c.is_some.ensures ∙ c.if-is_some.true) in
    located_before c.args.members.now c.members.at c.index-members-at.result c.members.table found.0 c.members-test.true c.members.invariant (sym c.in_ok-insert.ensures.old ∙ found.1)

pub members-preserved : goal.members-preserved
members-preserved c =
    let none = none_of c.in_ok-insert.field-0 (sym c.is_some.ensures ∙ c.if-is_some.false) in
    locates_more c.args.members.now c.members.at c.index-members-at.result c.members.table c.insert.new.self c.members-test.true c.members.invariant
    (sym c.in_ok-insert.ensures.old ∙ none) c.in_ok-insert.ensures.updates
