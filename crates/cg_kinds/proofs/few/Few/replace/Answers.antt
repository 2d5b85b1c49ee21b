use Rattle.cg_kinds.proofs.KeysOnce.{once_replaced}
use Rattle.cg_kinds.proofs.few.Few.replace.Goals as goal

pub invariant_of-self : goal.invariant_of-self
invariant_of-self c = once_replaced c.self.inside.pairs.items c.replace_in-replaced.new.pairs.items c.args.key c.args.val c.replace_in-replaced.result
    c.replace_in-replaced.ensures.put c.replace_in-replaced.ensures.stays c.self.invariant
