use Rattle.std.proofs.Common.{arith}
use Rattle.std.proofs.lemmas.Bool.Decides.{nat_tests}
use Rattle.cg_script.proofs.Split.{full_found, none_found, one_found}
use Rattle.cg_script.proofs.pieces.push_word.Goals as goal

pub returns-then-len-eq-MOST_FOUND-clause-words : goal.returns-then-len-eq-MOST_FOUND-clause-words
returns-then-len-eq-MOST_FOUND-clause-words c = full_found c.args.words.now.items _ (grind (arith, nat_tests, c.len.ensures, c.if-len-eq-MOST_FOUND.true))

pub returns-then-not-is_empty-clause-words : goal.returns-then-not-is_empty-clause-words
returns-then-not-is_empty-clause-words c =
    one_found c.args.words.now.items c.push_reserved.new.self.items c.args.piece c.push_reserved.ensures.items (omega (arith, c.len.ensures, c.requires.few, c.if-len-eq-MOST_FOUND.false))
    (grind (arith, nat_tests, c.is_empty.ensures, c.if-not-is_empty.true))

pub returns-else-not-is_empty-clause-words : goal.returns-else-not-is_empty-clause-words
returns-else-not-is_empty-clause-words c =
    none_found c.args.words.now.items c.args.piece.now c.requires.few (grind (arith, nat_tests, c.is_empty.ensures, c.if-not-is_empty.false))
