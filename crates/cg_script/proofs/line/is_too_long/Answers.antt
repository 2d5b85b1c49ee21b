use Rattle.std.proofs.Common.{arith, ◌∙◌}
use Rattle.std.proofs.lemmas.Bool.Decides.{nat_tests}
use Rattle.cg_script.proofs.Split.{too_many, all_found, not_many}
use Rattle.cg_script.proofs.line.is_too_long.Goals as goal

pub returns-then-words-gt-MOST_WORDS-clause-long : goal.returns-then-words-gt-MOST_WORDS-clause-long
returns-then-words-gt-MOST_WORDS-clause-long c = too_many c.args.words.now _ c.requires _ _ c.if-words-gt-MOST_WORDS.true

pub returns-else-line-gt-MOST_LINE_BYTES-clause-long : goal.returns-else-line-gt-MOST_LINE_BYTES-clause-long
returns-else-line-gt-MOST_LINE_BYTES-clause-long c = (let f = c.if-line-gt-MOST_LINE_BYTES.false in grind (arith, nat_tests, f)) ∙ not_many c.args.words.now _
    c.requires _ _ c.if-words-gt-MOST_WORDS.false

pub returns-else-line-gt-MOST_LINE_BYTES-clause-words : goal.returns-else-line-gt-MOST_LINE_BYTES-clause-words
returns-else-line-gt-MOST_LINE_BYTES-clause-words c = λ short. all_found c.args.words.now _ c.requires c.if-words-gt-MOST_WORDS.false
