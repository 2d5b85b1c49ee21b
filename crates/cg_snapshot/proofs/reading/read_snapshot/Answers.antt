use Rattle.std.proofs.Common.{◌≡◌, ◌<◌, ◌≤◌, ◌-◌, ◌+◌, ◌^◌, length, take, drop, take_all, subst, sym, ◌∙◌, arith}
use Rattle.std.proofs.lemmas.Bool.{eqb-true, eqb-false}
use Rattle.cg_snapshot.specs.declared.line.Line.{Line}
use Rattle.cg_snapshot.specs.Lines.{raw_line, IsLine}
use Rattle.cg_snapshot.specs.Text.{HasNoFeed}
use Rattle.cg_snapshot.proofs.CutBytes.{lacks_before, cut_there}
use Rattle.cg_snapshot.proofs.DistinctRows.{if_some, if_none}
use Rattle.cg_snapshot.proofs.Read.{no_feed, no_line, no_step, read_more, read_end, no_end}
use Rattle.cg_snapshot.proofs.reading.read_snapshot.Goals as goal

pub returns-then-end-rest : goal.returns-then-end-rest
returns-then-end-rest c =
    let rest = c.lines.rest.now in
    let some : ¬ (length c.lines.rest.now ≡ 0) = eqb-false (length c.lines.rest.now) 0 (sym c.is_empty.ensures ∙ c.lines-test.true) in
    let small : c.lines.number < 2 ^ 64 = omega arith in
    let lacks = lacks_before 10 rest c.place_of-end.result c.place_of-end.ensures.before in
    let ends : length c.lines.rest.now ≤ c.place_of-end.result = omega arith in
    no_feed c.args.bytes.now rest c.lines.draft c.lines.number c.lines.invariant small (omega (arith, some)) (subst HasNoFeed (take_all c.place_of-end.result rest ends) lacks)

pub returns-in_default : goal.returns-in_default
returns-in_default c =
    let rest = c.lines.rest.now in
    let end = c.place_of-end.result in
    let small : c.lines.number < 2 ^ 64 = omega arith in
    let within : c.place_of-end.result < length c.lines.rest.now = omega (arith, c.place_of-end.ensures.within, c.if-end-rest.false) in
    no_line c.args.bytes.now rest c.lines.draft c.lines.number c.lines.invariant small (take end rest) (take (length rest - (end + 1)) (drop (end + 1) rest))
    (cut_there 10 rest end within (c.place_of-end.ensures.found within)) (lacks_before 10 rest end c.place_of-end.ensures.before)
    (if_none _ _ c.in_default.is c.in_ok-line.ensures.none)

pub returns-in_default-2 : goal.returns-in_default-2
returns-in_default-2 c =
    let rest = c.lines.rest.now in
    let end = c.place_of-end.result in
    let small : c.lines.number < 2 ^ 64 = omega arith in
    let within : c.place_of-end.result < length c.lines.rest.now = omega (arith, c.place_of-end.ensures.within, c.if-end-rest.false) in
    no_step c.args.bytes.now rest c.lines.draft c.lines.number c.lines.invariant small (take end rest) (take (length rest - (end + 1)) (drop (end + 1) rest))
    c.in-Some.line (cut_there 10 rest end within (c.place_of-end.ensures.found within)) (lacks_before 10 rest end c.place_of-end.ensures.before)
    (if_some _ _ (λ (l : Line). IsLine l) c.in-Some.is c.in_ok-line.ensures.fits) (if_some _ _ (λ (l : Line). take end rest ≡ raw_line l) c.in-Some.is
    c.in_ok-line.ensures.found) (sym c.in_ok-next.ensures ∙ c.in_default-2.is)

pub lines-preserved : goal.lines-preserved
lines-preserved c =
    let rest = c.lines.rest.now in
    let end = c.place_of-end.result in
    let within : c.place_of-end.result < length c.lines.rest.now = omega (arith, c.place_of-end.ensures.within, c.if-end-rest.false) in
    read_more c.args.bytes.now rest (take end rest) (take (length rest - (end + 1)) (drop (end + 1) rest)) c.lines.draft c.in-Some-2.next c.lines.number c.in-Some.line c.lines.invariant
    (if_some _ _ (λ (l : Line). IsLine l) c.in-Some.is c.in_ok-line.ensures.fits) (cut_there 10 rest end within (c.place_of-end.ensures.found within))
    (if_some _ _ (λ (l : Line). take end rest ≡ raw_line l) c.in-Some.is c.in_ok-line.ensures.found) (sym c.in_ok-next.ensures ∙ c.in-Some-2.is)

pub returns-in-Some-snapshot_of : goal.returns-in-Some-snapshot_of
returns-in-Some-snapshot_of c =
    let empty : length c.lines.rest.now ≡ 0 = eqb-true (length c.lines.rest.now) 0 (sym c.is_empty.ensures ∙ c.lines-test.false) in
    let small : c.lines.number < 2 ^ 64 = omega arith in
    read_end c.args.bytes.now c.lines.rest.now c.lines.draft c.lines.number c.lines.invariant small empty c.in-Some-snapshot_of.snapshot c.in-Some-snapshot_of.ensures.found

pub returns-in-None : goal.returns-in-None
returns-in-None c =
    let empty : length c.lines.rest.now ≡ 0 = eqb-true (length c.lines.rest.now) 0 (sym c.is_empty.ensures ∙ c.lines-test.false) in
    let small : c.lines.number < 2 ^ 64 = omega arith in
    no_end c.args.bytes.now c.lines.rest.now c.lines.draft c.lines.number c.lines.invariant small empty c.in-None.ensures.none
