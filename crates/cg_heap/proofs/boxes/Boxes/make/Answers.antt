use Rattle.std.proofs.Common.{ap, sym, subst, ◌∙◌}
use Rattle.std.specs.FinMap as fin
use Rattle.std.proofs.lemmas.Result.{IfOk-weaker, on_err_weaker}
use Rattle.cg_kind.specs.Calls.{IsParts}
use Rattle.cg_heap.proofs.BoxLemmas.{box_kind, box_bodies, six_after, box_unchanged, box_made}
use Rattle.cg_heap.proofs.boxes.Boxes.make.Goals as goal

pub make-made-requires : goal.make-made-requires
make-made-requires g c = subst (λ k. IsParts k c.args.parts.now) (sym (box_kind _ _ _ c.self.invariant c.self.view_is c.args.code c.index_of.ensures.index c.index_mut-kind.ensures.value)) c.requires

pub invariant_of-self : goal.invariant_of-self
invariant_of-self g c = six_after _ _ _ c.self.invariant c.self.view_is c.args.code c.index_of.ensures.index c.index_mut-kind.ensures.value c.make-made.new.self c.make-made.ensures.same_kind

pub returns-clause-made : goal.returns-clause-made
returns-clause-made g c = IfOk-weaker c.make-made.result _ _ (λ at e. box_made _ _ _ c.self.invariant c.self.view_is c.args.code c.index_of.ensures.index c.index_mut-kind.ensures.value c.make-made.new.self
    c.make-made.ensures.same_kind at c.args.parts.now e) c.make-made.ensures.made

pub returns-clause-vacant : goal.returns-clause-vacant
returns-clause-vacant g c = IfOk-weaker c.make-made.result _ _ (λ at e. ap (λ b. fin.get b at) (sym (box_bodies _ _ _ c.self.invariant c.self.view_is c.args.code c.index_of.ensures.index
    c.index_mut-kind.ensures.value)) ∙ e) c.make-made.ensures.vacant

pub returns-clause-err : goal.returns-clause-err
returns-clause-err g c = on_err_weaker c.make-made.result (box_unchanged _ _ _ c.self.invariant c.self.view_is c.args.code c.index_of.ensures.index c.index_mut-kind.ensures.value c.make-made.new.self
    c.make-made.ensures.same_kind) c.make-made.ensures.err
