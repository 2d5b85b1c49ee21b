use Rattle.std.proofs.Common.{◌≡◌, ◌<◌, length, sym, ◌∙◌, arith}
use Rattle.std.proofs.lemmas.Bool.{eqb-true, eqb-false}
use Rattle.cg_records.proofs.Read.{no_line, no_step, read_more, found_end, none_end}
use Rattle.cg_records.proofs.reading.read_lines.Goals as goal

pub returns-in_default-clause-none : goal.returns-in_default-clause-none
returns-in_default-clause-none c = λ records small is.
    let some : 0 < length c.lines.rest.now = omega (arith, eqb-false (length c.lines.rest.now) 0 (sym c.is_empty.ensures ∙ c.lines-test.true)) in
    no_line c.args.bytes.now c.lines.rest.now c.lines.draft c.lines.invariant records small is some c.in_default.ensures.none

pub returns-in_default-2-clause-none : goal.returns-in_default-2-clause-none
returns-in_default-2-clause-none c = λ records small is.
    no_step c.args.bytes.now c.lines.rest.now c.lines.draft c.lines.invariant records small is c.in-Some.line c.in-Some.after.now c.in-Some.ensures.fits
    c.in-Some.ensures.found (sym c.in_ok-next.ensures ∙ c.in_default-2.is)

pub lines-preserved : goal.lines-preserved
lines-preserved c =
    read_more c.args.bytes.now c.lines.rest.now c.in-Some.after.now c.lines.draft c.in-Some-2.next c.in-Some.line c.lines.invariant c.in-Some.ensures.fits
    c.in-Some.ensures.found (sym c.in_ok-next.ensures ∙ c.in-Some-2.is)

pub returns-clause-found : goal.returns-clause-found
returns-clause-found c =
    let none_left : length c.lines.rest.now ≡ 0 = eqb-true (length c.lines.rest.now) 0 (sym c.is_empty.ensures ∙ c.lines-test.false) in
    found_end c.args.bytes.now c.lines.rest.now c.lines.draft c.lines.invariant none_left c.records_of.result c.records_of.ensures.found

pub returns-clause-none : goal.returns-clause-none
returns-clause-none c =
    let none_left : length c.lines.rest.now ≡ 0 = eqb-true (length c.lines.rest.now) 0 (sym c.is_empty.ensures ∙ c.lines-test.false) in
    none_end c.args.bytes.now c.lines.rest.now c.lines.draft c.lines.invariant none_left c.records_of.result c.records_of.ensures.none
