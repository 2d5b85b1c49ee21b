use Rattle.std.proofs.Common.{◌≡◌, ◌∙◌, sym, ap, subst, None}
use Rattle.cg_graph.specs.Value.{value_at, put}
use Rattle.cg_kinds.specs.Pairs.{AreKeysOnce}
use Rattle.cg_kinds.proofs.FewLemmas.{put_new}
use Rattle.cg_kinds.proofs.KeysOnce.{once_put}
use Rattle.cg_kinds.proofs.few.Few.push.Goals as goal

pub invariant_of-self : goal.invariant_of-self
invariant_of-self c = subst AreKeysOnce (sym c.in_err-push_to.ensures.err) c.self.invariant

pub invariant_of-self-2 : goal.invariant_of-self-2
invariant_of-self-2 c =
    let absent : value_at c.self.inside.pairs.items c.args.key ≡ None = ap (λ es. value_at es c.args.key) c.self.view_is ∙ c.requires.new in
    subst AreKeysOnce (put_new c.self.inside.pairs.items c.args.key c.args.val absent ∙ sym c.in_ok-push_to.ensures.ok) (once_put c.self.inside.pairs.items c.args.key c.args.val c.self.invariant)

pub returns-clause-ok : goal.returns-clause-ok
returns-clause-ok c =
    let absent : value_at c.self.inside.pairs.items c.args.key ≡ None = ap (λ es. value_at es c.args.key) c.self.view_is ∙ c.requires.new in
    c.in_ok-push_to.ensures.ok ∙ sym (put_new c.self.inside.pairs.items c.args.key c.args.val absent) ∙ ap (λ es. put es c.args.key c.args.val) c.self.view_is
