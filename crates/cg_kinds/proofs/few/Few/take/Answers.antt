use Rattle.std.proofs.Common.{◌∙◌, sym, ap, subst, Some, length, arith}
use Rattle.std.specs.Prelude.{slice_get}
use Rattle.std.proofs.lemmas.Option.{slice_get-get_or}
use Rattle.cg_kinds.specs.Pairs.{AreKeysOnce}
use Rattle.cg_kinds.proofs.KeysOnce.{once_remove}
use Rattle.cg_kinds.proofs.few.Few.take.Goals as goal

pub invariant_of-self : goal.invariant_of-self
invariant_of-self c = subst AreKeysOnce (sym c.remove.ensures.items) (once_remove c.self.inside.pairs.items c.args.i c.self.invariant)

pub returns-clause-entry : goal.returns-clause-entry
returns-clause-entry c =
    ap (λ l. slice_get l c.args.i) (sym c.self.view_is)
    ∙ slice_get-get_or c.self.inside.pairs.items c.args.i _ (omega (arith, c.requires, ap length c.self.view_is)) ∙ ap Some (sym (c.entry.ensures ∙ c.remove.ensures.value))
