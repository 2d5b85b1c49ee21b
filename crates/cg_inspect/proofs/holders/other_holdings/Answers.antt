use Rattle.std.proofs.Common.{◌∙◌, ◌+◌, subst, List, ℕ}
use Rattle.cg_graph.specs.Member.{Includes}
use Rattle.cg_inspect.proofs.Objects.{serial_lives, live_at}
use Rattle.cg_inspect.proofs.Looks.{looked_more, looked_all}
use Rattle.cg_inspect.proofs.Holdings.{lowered_next, lowered_all}
use Rattle.cg_inspect.proofs.holders.other_holdings.Goals as goal

pub in_degrees-requires : goal.in_degrees-requires
in_degrees-requires g c = λ o m. serial_lives c.args.heap.now o (subst (λ (l : List ℕ). Includes l o) c.requires m)

pub referents-requires : goal.referents-requires
referents-requires g c = live_at c.args.heap.now c.args.objects.now c.objects.object-index c.requires c.objects-test.true

pub objects-preserved : goal.objects-preserved
objects-preserved g c = (
  lowered_next c.args.heap.now c.args.objects.now c.deref.result.now c.args.objects.now c.objects.object-index c.objects.numbers.entries
      c.lower_all.new.numbers.entries c.objects-test.true c.objects.invariant.0
      (c.deref.ensures.value ∙ c.in_ok-references.ensures.listed) c.in_ok-lower_all.ensures,
  looked_more c.args.heap.now c.args.objects.now c.objects.object-index c.args.steps.now c.objects.steps c.referents.new.steps c.objects-test.true
      c.objects.invariant.1 c.in_ok-references.ensures.looks,
)

pub returns-clause-numbers : goal.returns-clause-numbers
returns-clause-numbers g c = lowered_all c.args.heap.now c.args.objects.now c.objects.object-index c.objects.numbers.entries c.requires c.objects-test.false c.objects.invariant.0

pub returns-clause-looks : goal.returns-clause-looks
returns-clause-looks g c = looked_all c.args.heap.now c.args.objects.now c.objects.object-index c.args.steps.now c.objects.steps c.requires c.objects.invariant.1

pub returns-in_err-references-clause-looks : goal.returns-in_err-references-clause-looks
returns-in_err-references-clause-looks g c =
    looked_all c.args.heap.now c.args.objects.now (c.objects.object-index + 1) c.args.steps.now c.referents.new.steps c.requires
    (looked_more c.args.heap.now c.args.objects.now c.objects.object-index c.args.steps.now c.objects.steps c.referents.new.steps c.objects-test.true
    c.objects.invariant.1 c.in_err-references.ensures.looks)

pub returns-in_err-lower_all-clause-looks : goal.returns-in_err-lower_all-clause-looks
returns-in_err-lower_all-clause-looks g c =
    looked_all c.args.heap.now c.args.objects.now (c.objects.object-index + 1) c.args.steps.now c.referents.new.steps c.requires
    (looked_more c.args.heap.now c.args.objects.now c.objects.object-index c.args.steps.now c.objects.steps c.referents.new.steps c.objects-test.true
    c.objects.invariant.1 c.in_ok-references.ensures.looks)
