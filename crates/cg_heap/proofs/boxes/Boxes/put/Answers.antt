use Rattle.std.proofs.Common.{IsSome, sym, subst, ◌∙◌}
use Rattle.std.proofs.lemmas.Result.{IfOk-weaker, on_ok_weaker, on_err_weaker}
use Rattle.cg_value.specs.declared.KindCode.{KindCode}
use Rattle.cg_kind.specs.Bodies.{Bodies, Holds, entries_at, spare_at, with_body}
use Rattle.cg_kind.specs.Calls.{CanPut, value_under, after_put}
use Rattle.cg_heap.proofs.BoxLemmas.{box_kind, box_bodies, six_after, box_written, box_unchanged}
use Rattle.cg_heap.proofs.boxes.Boxes.put.Goals as goal

pub put-put-requires-clause-held : goal.put-put-requires-clause-held
put-put-requires-clause-held g c = subst (λ b. Holds b c.args.seat.body) (sym (box_bodies _ _ _ c.self.invariant c.self.view_is c.args.seat.code c.index_of.ensures.index c.index_mut-kind.ensures.value))
    c.requires.held

pub put-put-requires-clause-can : goal.put-put-requires-clause-can
put-put-requires-clause-can g c = subst (λ (q : KindCode × Bodies). CanPut q.0 (entries_at q.1 c.args.seat.body) c.args.key) (λ i. (
  sym (box_kind _ _ _ c.self.invariant c.self.view_is c.args.seat.code
      c.index_of.ensures.index c.index_mut-kind.ensures.value) i,
  sym (box_bodies _ _ _ c.self.invariant c.self.view_is c.args.seat.code c.index_of.ensures.index c.index_mut-kind.ensures.value) i,
))
    c.requires.can

pub invariant_of-self : goal.invariant_of-self
invariant_of-self g c = six_after _ _ _ c.self.invariant c.self.view_is c.args.seat.code c.index_of.ensures.index c.index_mut-kind.ensures.value c.put-put.new.self c.put-put.ensures.same_kind

pub returns-clause-ok : goal.returns-clause-ok
returns-clause-ok g c = on_ok_weaker c.put-put.result (box_written _ _ _ c.self.invariant c.self.view_is c.args.seat.code c.index_of.ensures.index c.index_mut-kind.ensures.value c.put-put.new.self
    c.put-put.ensures.same_kind (λ k b. with_body b c.args.seat.body (after_put k (entries_at b c.args.seat.body) c.args.key c.args.val) (spare_at b c.args.seat.body))) c.put-put.ensures.ok

pub returns-clause-replaced : goal.returns-clause-replaced
returns-clause-replaced g c = IfOk-weaker c.put-put.result _ _ (λ was e. e ∙ (λ i. value_under (box_kind _ _ _ c.self.invariant c.self.view_is c.args.seat.code c.index_of.ensures.index
    c.index_mut-kind.ensures.value i) (entries_at (box_bodies _ _ _ c.self.invariant c.self.view_is c.args.seat.code c.index_of.ensures.index c.index_mut-kind.ensures.value i) c.args.seat.body)
    c.args.key)) c.put-put.ensures.replaced

pub returns-clause-present : goal.returns-clause-present
returns-clause-present g c = λ h. c.put-put.ensures.present (subst IsSome (sym (λ i. value_under (box_kind _ _ _ c.self.invariant c.self.view_is c.args.seat.code c.index_of.ensures.index
    c.index_mut-kind.ensures.value i) (entries_at (box_bodies _ _ _ c.self.invariant c.self.view_is c.args.seat.code c.index_of.ensures.index c.index_mut-kind.ensures.value i) c.args.seat.body)
    c.args.key)) h)

pub returns-clause-err : goal.returns-clause-err
returns-clause-err g c = on_err_weaker c.put-put.result (box_unchanged _ _ _ c.self.invariant c.self.view_is c.args.seat.code c.index_of.ensures.index c.index_mut-kind.ensures.value c.put-put.new.self
    c.put-put.ensures.same_kind) c.put-put.ensures.err
