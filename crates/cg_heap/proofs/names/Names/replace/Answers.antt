use Rattle.std.proofs.Common.{length, ap, ◌∙◌, arith}
use Rattle.std.specs.Prelude.{is_some}
use Rattle.cg_heap.specs.Names.{values_of}
use Rattle.cg_heap.proofs.NameLemmas.{stored}
use Rattle.cg_heap.proofs.names.Names.replace.Goals as goal

pub invariant_of-self : goal.invariant_of-self
invariant_of-self c = stored (values_of c.self.inside.names.items) c.self.inside.upper c.args.name c.args.val _ _ c.self.invariant c.replace-old.ensures.set
    (let m = c.max-self-inside.ensures in omega (arith, m)) (let m = c.max-self-inside.ensures in let r = c.requires in let within = c.self.invariant.0
    in let n = ap length c.self.view_is in omega (arith, m, r, n, within)) (λ v e. let m = c.max-self-inside.ensures in omega (arith, m))

pub invariant_of-self-else-is_some : goal.invariant_of-self-else-is_some
invariant_of-self-else-is_some c = stored (values_of c.self.inside.names.items) c.self.inside.upper c.args.name c.args.val _ _ c.self.invariant
    c.replace-old.ensures.set (omega arith) c.self.invariant.0 (λ v e. absurd (let none = c.if-is_some.ensures ∙ ap is_some e in cc))
