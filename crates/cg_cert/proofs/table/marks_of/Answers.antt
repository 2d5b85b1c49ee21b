use Rattle.std.proofs.Common.{true, false, arith}
use Rattle.cg_cert.specs.Judged.{serials_of}
use Rattle.cg_cert.proofs.NamesAndPositions.{position_some, no_name, marked_before, marks_more, mark_there, at_place}
use Rattle.cg_search.proofs.Places.{includes_next}
use Rattle.cg_cert.proofs.table.marks_of.Goals as goal

pub returns-in_default-clause-none : goal.returns-in_default-clause-none
returns-in_default-clause-none c = λ set.
    no_name (serials_of c.args.members.now) _ _ c.position_at.ensures c.in_default.is (set.named _ (includes_next c.args.serials.now c.serials.serial-index 0 c.serials-test.true))

pub index-requires : goal.index-requires
index-requires c =
    let within = mark_there (serials_of c.args.members.now) _ _ c.in-Some.at c.serials.marks.items c.serials.invariant (position_some _ _ _ _ c.in-Some.is c.position_at.ensures) in
    omega arith

pub returns-then-index-clause-none : goal.returns-then-index-clause-none
returns-then-index-clause-none c =
    let names = serials_of c.args.members.now in
    let is = position_some _ _ _ _ c.in-Some.is c.position_at.ensures in
    let within = mark_there names _ _ c.in-Some.at c.serials.marks.items c.serials.invariant is in
    marked_before names c.args.serials.now c.serials.serial-index 0 c.in-Some.at c.serials.marks.items c.serials-test.true c.serials.invariant is
    (at_place c.serials.marks.items c.in-Some.at true c.index.result.now within c.index.ensures c.if-index.true)

pub index_mut-requires : goal.index_mut-requires
index_mut-requires c =
    let within = mark_there (serials_of c.args.members.now) _ _ c.in-Some.at c.serials.marks.items c.serials.invariant (position_some _ _ _ _ c.in-Some.is c.position_at.ensures) in
    omega arith

pub serials-preserved : goal.serials-preserved
serials-preserved c =
    let names = serials_of c.args.members.now in
    let is = position_some _ _ _ _ c.in-Some.is c.position_at.ensures in
    let within = mark_there names _ _ c.in-Some.at c.serials.marks.items c.serials.invariant is in
    marks_more names c.args.serials.now c.serials.serial-index 0 c.in-Some.at c.serials.marks.items c.serials-test.true c.serials.invariant is
    (at_place c.serials.marks.items c.in-Some.at false c.index.result.now within c.index.ensures c.if-index.false)
