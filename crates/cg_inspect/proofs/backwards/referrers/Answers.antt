use Rattle.std.proofs.Common.{◌∙◌, ◌+◌, sym, ap, ℕ, Vec, Global, arith}
use Rattle.cg_graph.specs.Member.{includes}
use Rattle.cg_graph.specs.Value.{references}
use Rattle.cg_graph.specs.Store.{entries_of}
use Rattle.cg_inspect.proofs.Looks.{looked_more, looked_all}
use Rattle.cg_inspect.proofs.Objects.{live_at, filter_yes, filter_no, listed_all}
use Rattle.cg_inspect.proofs.backwards.referrers.Goals.{then-has_reference+in_ok-push, else-has_reference}
use Rattle.cg_inspect.proofs.backwards.referrers.Goals as goal

pub objects-init : goal.objects-init
objects-init g c = (c.new-listed.ensures.items, omega arith)

pub has_reference-requires : goal.has_reference-requires
has_reference-requires g c = live_at c.args.heap.now c.deref-holder-items.result.now c.objects.holder-index (c.deref-holder-items.ensures.value ∙ c.in_ok-objects.ensures) c.objects-test.true

pub objects-preserved : goal.objects-preserved
objects-preserved g c = (
  elim c.if-has_reference.branch [
    | then-has_reference+in_ok-push w ↦
        filter_yes (λ s. includes (references (entries_of c.args.heap.now s)) c.args.object) c.deref-holder-items.result.now c.objects.listed.items
        c.if-has_reference.listed.items c.objects.holder-index c.objects-test.true c.objects.invariant.0
        (sym c.has_reference.ensures.found ∙ w.if-has_reference.true) (ap (λ (v : Vec ℕ Global). v.items) w.listed-is ∙ w.in_ok-push.ensures.items)
    | else-has_reference w ↦
        filter_no (λ s. includes (references (entries_of c.args.heap.now s)) c.args.object) c.deref-holder-items.result.now c.objects.listed.items
        c.if-has_reference.listed.items c.objects.holder-index c.objects-test.true c.objects.invariant.0
        (sym c.has_reference.ensures.found ∙ w.if-has_reference.false) (ap (λ (v : Vec ℕ Global). v.items) w.listed-is)
  ],
  looked_more c.args.heap.now c.deref-holder-items.result.now c.objects.holder-index c.args.steps.now c.objects.steps c.has_reference.new.steps
      c.objects-test.true c.objects.invariant.1 c.has_reference.ensures.looks,
)

pub returns-clause-listed : goal.returns-clause-listed
returns-clause-listed g c = listed_all c.args.heap.now c.args.object c.deref-holder-items.result.now c.objects.listed.items c.objects.holder-index
    (c.deref-holder-items.ensures.value ∙ c.in_ok-objects.ensures) c.objects.invariant.0 c.objects-test.false

pub returns-clause-looks : goal.returns-clause-looks
returns-clause-looks g c = looked_all c.args.heap.now c.deref-holder-items.result.now c.objects.holder-index c.args.steps.now c.objects.steps
    (c.deref-holder-items.ensures.value ∙ c.in_ok-objects.ensures) c.objects.invariant.1

pub returns-in_err-push-clause-looks : goal.returns-in_err-push-clause-looks
returns-in_err-push-clause-looks g c =
    looked_all c.args.heap.now c.deref-holder-items.result.now (c.objects.holder-index + 1) c.args.steps.now c.has_reference.new.steps (c.deref-holder-items.ensures.value ∙ c.in_ok-objects.ensures)
    (looked_more c.args.heap.now c.deref-holder-items.result.now c.objects.holder-index c.args.steps.now c.objects.steps c.has_reference.new.steps
    c.objects-test.true c.objects.invariant.1 c.has_reference.ensures.looks)
