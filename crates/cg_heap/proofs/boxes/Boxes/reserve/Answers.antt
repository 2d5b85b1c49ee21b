use Rattle.std.proofs.Common.{◌≤◌, refl, sym, subst}
use Rattle.std.proofs.lemmas.Result.{on_ok_weaker, on_err_weaker}
use Rattle.cg_value.specs.declared.KindCode.TheVariants as code
use Rattle.cg_kind.specs.Bodies.{Bodies, Holds, spare_at}
use Rattle.cg_heap.proofs.BoxLemmas.{box_kind, box_bodies, six_after, box_after, box_unchanged, box_reserved}
use Rattle.cg_heap.proofs.boxes.Boxes.reserve.Goals as goal

pub reserve-reserved-requires : goal.reserve-reserved-requires
reserve-reserved-requires g c = subst (λ b. Holds b c.args.list) (sym (box_bodies _ _ _ c.self.invariant c.self.view_is code.List refl c.index_mut-lists.ensures.value)) c.requires

pub invariant_of-self : goal.invariant_of-self
invariant_of-self g c = six_after _ _ _ c.self.invariant c.self.view_is code.List refl c.index_mut-lists.ensures.value c.reserve-reserved.new.self c.reserve-reserved.ensures.same_kind

pub returns-clause-ok : goal.returns-clause-ok
returns-clause-ok g c = on_ok_weaker c.reserve-reserved.result (box_reserved _ _ _ c.self.invariant c.self.view_is code.List refl c.index_mut-lists.ensures.value c.reserve-reserved.new.self
    c.reserve-reserved.ensures.same_kind c.args.list) c.reserve-reserved.ensures.ok

pub returns-clause-room : goal.returns-clause-room
returns-clause-room g c = on_ok_weaker c.reserve-reserved.result (subst (λ b. c.args.n ≤ spare_at b c.args.list) (sym (box_after _ _ _ c.self.invariant c.self.view_is code.List refl
    c.index_mut-lists.ensures.value c.reserve-reserved.new.self c.reserve-reserved.ensures.same_kind))) (c.reserve-reserved.ensures.room (box_kind _ _ _ c.self.invariant c.self.view_is code.List refl
    c.index_mut-lists.ensures.value))

pub returns-clause-no_less : goal.returns-clause-no_less
returns-clause-no_less g c = on_ok_weaker c.reserve-reserved.result (subst (λ (q : Bodies × Bodies). spare_at q.0 c.args.list ≤ spare_at q.1 c.args.list) (λ i. (
  box_bodies _ _ _ c.self.invariant
      c.self.view_is code.List refl c.index_mut-lists.ensures.value i,
  sym (box_after _ _ _ c.self.invariant c.self.view_is code.List refl c.index_mut-lists.ensures.value c.reserve-reserved.new.self
      c.reserve-reserved.ensures.same_kind) i,
))) c.reserve-reserved.ensures.no_less

pub returns-clause-err : goal.returns-clause-err
returns-clause-err g c = on_err_weaker c.reserve-reserved.result (box_unchanged _ _ _ c.self.invariant c.self.view_is code.List refl c.index_mut-lists.ensures.value c.reserve-reserved.new.self
    c.reserve-reserved.ensures.same_kind) c.reserve-reserved.ensures.err
