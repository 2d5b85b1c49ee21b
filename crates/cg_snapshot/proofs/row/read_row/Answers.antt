use Rattle.cg_snapshot.proofs.DistinctRows.{word_is, behind_is}
use Rattle.cg_snapshot.proofs.DistinctRows.{if_none}
use Rattle.cg_snapshot.proofs.row.read_row.Goals as goal

pub returns-in_default-clause-none : goal.returns-in_default-clause-none
returns-in_default-clause-none c = λ r fits is.
    if_none _ _ c.in_default.is c.read_kind.ensures.none r.kind (word_is c.args.raw.now c.cut_word.result.0.now c.cut_word.result.1.now c.cut_word.ensures.whole
    c.cut_word.ensures.word c.cut_word.ensures.tail r is)

pub returns-in_default-2-clause-none : goal.returns-in_default-2-clause-none
returns-in_default-2-clause-none c = λ r fits is.
    if_none _ _ c.in_default-2.is c.in_ok-but.ensures.none r.but fits.but
    (behind_is c.args.raw.now c.cut_word.result.0.now c.cut_word.result.1.now c.cut_word.ensures.whole c.cut_word.ensures.word c.cut_word.ensures.tail r is
    c.in_ok-numbers.numbers c.in_ok-numbers.rest.now fits c.in_ok-numbers.ensures.found c.in_ok-numbers.ensures.small c.in_ok-numbers.ensures.tail
    c.in_ok-numbers.ensures.stops)
