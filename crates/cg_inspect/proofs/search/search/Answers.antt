use Rattle.std.proofs.Common.{◌∙◌, ◌+◌, ℕ, List, Some, subst, sym, arith}
use Rattle.cg_inspect.specs.Inspection.{HeldElse, arrows_of, entry_number_in_all}
use Rattle.cg_inspect.specs.Findings.{FindsInOrder, AreInOrder}
use Rattle.cg_inspect.specs.Order.{references_by}
use Rattle.cg_search.proofs.Trails.{spread_first}
use Rattle.cg_inspect.proofs.Orders.{order_first, order_more}
use Rattle.cg_inspect.proofs.Looks.{searched_all, searched_more, searched_next}
use Rattle.cg_inspect.proofs.Objects.{few_objects}
use Rattle.cg_inspect.proofs.Holdings.{turn_live, turn_within, turn_spread, turns_end, turns_over}
use Rattle.cg_inspect.proofs.search.search.Goals as goal

pub turns-init : goal.turns-init
turns-init g c = (
  spread_first (HeldElse c.args.heap.now c.args.object) (arrows_of c.args.heap.now) c.in_ok-found.found.entries c.in_ok-found.ensures.found,
  omega (arith, c.in_ok-found.ensures.looks),
  order_first (references_by c.args.heap.now) (HeldElse c.args.heap.now c.args.object) c.in_ok-found.found.entries c.in_ok-found.ensures.found c.in_ok-found.ensures.order,
)

pub referents-requires : goal.referents-requires
referents-requires g c = turn_live c.args.heap.now c.sound.ensures.live c.args.object c.turns.found.entries c.turns.at c.turns.invariant.0 c.in-Some.holder
    c.in-Some.field-0-1 (sym c.found_at.ensures ∙ c.in-Some.is)

pub overflow_add-at : goal.overflow_add-at
overflow_add-at g c =
    let within = turn_within c.args.heap.now c.sound.ensures.live c.args.object c.turns.found.entries c.turns.at c.turns.invariant.0 c.args.objects.now
    c.in-Some.holder c.in-Some.field-0-1 c.requires (sym c.found_at.ensures ∙ c.in-Some.is) in
    let few = few_objects c.args.heap.now c.args.objects.now c.sound.ensures.objects c.requires in
    omega (arith, within, few)

pub turns-smaller : goal.turns-smaller
turns-smaller g c =
    let within = turn_within c.args.heap.now c.sound.ensures.live c.args.object c.turns.found.entries c.turns.at c.turns.invariant.0 c.args.objects.now
    c.in-Some.holder c.in-Some.field-0-1 c.requires (sym c.found_at.ensures ∙ c.in-Some.is) in
    omega (arith, within)

pub turns-preserved : goal.turns-preserved
turns-preserved g c = (
  turn_spread c.args.heap.now c.sound.ensures.live c.args.object c.turns.found.entries c.turns.at c.turns.invariant.0 c.in-Some.holder c.in-Some.field-0-1
      c.deref.result.now c.find_all.new.found.entries (sym c.found_at.ensures ∙ c.in-Some.is)
      (c.deref.ensures.value ∙ c.in_ok-references.ensures.listed) c.in_ok-find_all.ensures.finds,
  searched_next c.args.heap.now c.sound.ensures.live c.args.object c.turns.found.entries c.turns.at c.turns.invariant.0 c.in-Some.holder c.in-Some.field-0-1 (sym c.found_at.ensures ∙ c.in-Some.is)
      (c.args.steps.now + entry_number_in_all c.args.heap.now) c.turns.steps c.referents.new.steps c.turns.invariant.1 c.in_ok-references.ensures.looks
      c.deref.result.now c.find_all.new.found.entries c.in_ok-find_all.ensures.finds,
  order_more (references_by c.args.heap.now) c.turns.found.entries c.find_all.new.found.entries c.turns.at c.in-Some.holder c.in-Some.field-0-1
      c.turns.invariant.2 (sym c.found_at.ensures ∙ c.in-Some.is)
      (subst (λ (l : List ℕ). FindsInOrder c.turns.found.entries l (Some c.turns.at) c.find_all.new.found.entries) (c.deref.ensures.value
      ∙ c.in_ok-references.ensures.listed) c.in_ok-find_all.ensures),
)

pub returns-clause-found : goal.returns-clause-found
returns-clause-found g c = turns_over c.args.heap.now c.sound.ensures.live c.args.object c.turns.found.entries c.turns.at c.turns.invariant.0 (sym c.found_at.ensures ∙ c.in_default.is)

pub returns-clause-order : goal.returns-clause-order
returns-clause-order g c =
    subst (AreInOrder (references_by c.args.heap.now) c.turns.found.entries) (turns_end c.args.heap.now c.sound.ensures.live c.args.object c.turns.found.entries
    c.turns.at c.turns.invariant.0 (sym c.found_at.ensures ∙ c.in_default.is)) c.turns.invariant.2

pub returns-in_err-references-clause-looks : goal.returns-in_err-references-clause-looks
returns-in_err-references-clause-looks g c =
    let all = entry_number_in_all c.args.heap.now in
    let more = searched_more c.args.heap.now c.sound.ensures.live c.args.object c.turns.found.entries c.turns.at c.turns.invariant.0 c.in-Some.holder
    c.in-Some.field-0-1 (sym c.found_at.ensures ∙ c.in-Some.is)
    (c.args.steps.now + all) c.turns.steps c.referents.new.steps c.turns.invariant.1 c.in_err-references.ensures.looks in
    let most = searched_all c.args.heap.now c.sound.ensures.live c.args.object c.turns.found.entries c.turns.at c.turns.invariant.0 (c.turns.at + 1)
    (c.args.steps.now + all) c.referents.new.steps more in
    omega (arith, most)

pub returns-in_err-find_all-clause-looks : goal.returns-in_err-find_all-clause-looks
returns-in_err-find_all-clause-looks g c =
    let all = entry_number_in_all c.args.heap.now in
    let more = searched_more c.args.heap.now c.sound.ensures.live c.args.object c.turns.found.entries c.turns.at c.turns.invariant.0 c.in-Some.holder
    c.in-Some.field-0-1 (sym c.found_at.ensures ∙ c.in-Some.is)
    (c.args.steps.now + all) c.turns.steps c.referents.new.steps c.turns.invariant.1 c.in_ok-references.ensures.looks in
    let most = searched_all c.args.heap.now c.sound.ensures.live c.args.object c.turns.found.entries c.turns.at c.turns.invariant.0 (c.turns.at + 1)
    (c.args.steps.now + all) c.referents.new.steps more in
    omega (arith, most)

pub returns-clause-looks : goal.returns-clause-looks
returns-clause-looks g c =
    let all = entry_number_in_all c.args.heap.now in
    let most = searched_all c.args.heap.now c.sound.ensures.live c.args.object c.turns.found.entries c.turns.at c.turns.invariant.0 c.turns.at
    (c.args.steps.now + all) c.turns.steps c.turns.invariant.1 in
    omega (arith, most)
