use Rattle.std.proofs.Common.{Some}
use Rattle.std.proofs.lemmas.List.Elements.{All-set}
use Rattle.cg_script.specs.Lexicons.{IsRemembered}
use Rattle.cg_script.proofs.Lexicons.{remembered_on, learned_so}
use Rattle.cg_script.proofs.lexicon.Lexicon.learn.Goals as goal

pub invariant_of-self : goal.invariant_of-self
invariant_of-self c =
    remembered_on c.intern.result c.self.inside.names c.intern.new.self c.text_of_identifier.result.now c.self.inside.variables c.intern.ensures.ok c.intern.ensures.err c.self.invariant

pub invariant_of-self-2 : goal.invariant_of-self-2
invariant_of-self-2 c =
    let more = remembered_on c.intern.result c.self.inside.names c.intern.new.self c.text_of_identifier.result.now c.self.inside.variables c.intern.ensures.ok c.intern.ensures.err c.self.invariant in
    let learned = learned_so c.self.inside.names c.intern.new.self c.args.word.now c.text_of_identifier.result.now c.in_ok-number.number c.requires.variable
    c.text_of_identifier.ensures c.in_ok-number.ensures.ok c.in_ok-number.ensures.number in
    All-set (IsRemembered c.intern.new.self) c.self.inside.variables c.place_of.result (Some c.in_ok-number.number) learned more
