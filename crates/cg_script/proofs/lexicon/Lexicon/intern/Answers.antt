use Rattle.cg_script.proofs.Lexicons.{remembered_on}
use Rattle.cg_script.proofs.lexicon.Lexicon.intern.Goals as goal

pub invariant_of-self : goal.invariant_of-self
invariant_of-self c = remembered_on c.intern.result c.self.inside.names c.intern.new.self c.args.text.now c.self.inside.variables c.intern.ensures.ok c.intern.ensures.err c.self.invariant
