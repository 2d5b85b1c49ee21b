use Rattle.std.proofs.Common.{◌≡◌, sym, ◌∙◌}
use Rattle.cg_script.specs.Words.{decimal_value}
use Rattle.cg_words.proofs.Numbers.{digits_are_read, number_within, number_below, number_above}
use Rattle.cg_words.proofs.words.number_in.Goals as goal

pub returns-in-Ok-clause-number : goal.returns-in-Ok-clause-number
returns-in-Ok-clause-number c =
    let digits = sym c.is_numeral.ensures ∙ c.if-not-is_numeral.false in
    let read = digits_are_read c.args.word.now c.parse.result c.parse.ensures.value.0 digits in
    let same : decimal_value c.args.word.now ≡ c.in-Ok.number = cc in
    number_within c.args.least c.args.most c.args.word.now c.in-Ok.number digits same c.if-least-number.true c.if-number-most.true

pub returns-in_default-clause-number : goal.returns-in_default-clause-number
returns-in_default-clause-number c =
    let digits = sym c.is_numeral.ensures ∙ c.if-not-is_numeral.false in
    let read = digits_are_read c.args.word.now c.parse.result c.parse.ensures.value.0 digits in
    let same : decimal_value c.args.word.now ≡ c.in-Ok.number = cc in
    number_above c.args.least c.args.most c.args.word.now c.in-Ok.number same c.if-number-most.false

pub returns-in_default-2-clause-number : goal.returns-in_default-2-clause-number
returns-in_default-2-clause-number c =
    let digits = sym c.is_numeral.ensures ∙ c.if-not-is_numeral.false in
    let read = digits_are_read c.args.word.now c.parse.result c.parse.ensures.value.0 digits in
    let same : decimal_value c.args.word.now ≡ c.in-Ok.number = cc in
    number_below c.args.least c.args.most c.args.word.now c.in-Ok.number same c.if-least-number.false

pub returns-in_default-3-clause-number : goal.returns-in_default-3-clause-number
returns-in_default-3-clause-number c =
    let digits = sym c.is_numeral.ensures ∙ c.if-not-is_numeral.false in
    let read = digits_are_read c.args.word.now c.parse.result c.parse.ensures.value.0 digits in
    absurd (cc)
