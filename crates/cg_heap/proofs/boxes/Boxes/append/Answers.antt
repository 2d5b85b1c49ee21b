use Rattle.std.proofs.Common.{refl, sym, subst}
use Rattle.std.proofs.lemmas.Result.{on_ok_weaker, on_err_weaker}
use Rattle.cg_value.specs.declared.KindCode.TheVariants as code
use Rattle.cg_kind.specs.Bodies.{Holds}
use Rattle.cg_heap.proofs.BoxLemmas.{box_kind, box_bodies, six_after, box_unchanged, box_appended}
use Rattle.cg_heap.proofs.boxes.Boxes.append.Goals as goal

pub append-appended-requires-clause-held : goal.append-appended-requires-clause-held
append-appended-requires-clause-held g c = subst (λ b. Holds b c.args.list) (sym (box_bodies _ _ _ c.self.invariant c.self.view_is code.List refl c.index_mut-lists.ensures.value)) c.requires

pub append-appended-requires-clause-list : goal.append-appended-requires-clause-list
append-appended-requires-clause-list g c = box_kind _ _ _ c.self.invariant c.self.view_is code.List refl c.index_mut-lists.ensures.value

pub invariant_of-self : goal.invariant_of-self
invariant_of-self g c = six_after _ _ _ c.self.invariant c.self.view_is code.List refl c.index_mut-lists.ensures.value c.append-appended.new.self c.append-appended.ensures.same_kind

pub returns-clause-ok : goal.returns-clause-ok
returns-clause-ok g c = on_ok_weaker c.append-appended.result (box_appended _ _ _ c.self.invariant c.self.view_is code.List refl c.index_mut-lists.ensures.value c.append-appended.new.self
    c.append-appended.ensures.same_kind c.args.list c.args.val) c.append-appended.ensures.ok

pub returns-clause-err : goal.returns-clause-err
returns-clause-err g c = on_err_weaker c.append-appended.result (box_unchanged _ _ _ c.self.invariant c.self.view_is code.List refl c.index_mut-lists.ensures.value c.append-appended.new.self
    c.append-appended.ensures.same_kind) c.append-appended.ensures.err
