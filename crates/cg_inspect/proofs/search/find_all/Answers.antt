use Rattle.std.proofs.Common.{take, take_all, subst, sym, List, ℕ, Some, get_or}
use Rattle.std.proofs.lemmas.List.{take_more}
use Rattle.cg_inspect.specs.Findings.{FindsInOrder}
use Rattle.cg_inspect.proofs.Positions.{none_in_order, more_in_order}
use Rattle.cg_inspect.proofs.search.find_all.Goals as goal

pub references-init : goal.references-init
references-init c = none_in_order c.args.found.now.entries (Some c.args.holder)

pub references-preserved : goal.references-preserved
references-preserved c =
    subst (λ (l : List ℕ). FindsInOrder c.args.found.now.entries l (Some c.args.holder) c.find.new.found.entries)
    (sym (take_more c.args.references.now c.references.object-index 0 c.references-test.true))
    (more_in_order c.args.found.now.entries (Some c.args.holder) c.references.found.entries c.find.new.found.entries
    (take c.references.object-index c.args.references.now) (get_or c.args.references.now c.references.object-index 0) c.references.invariant
    c.in_ok-find.ensures)

pub returns : goal.returns
returns c =
    subst (λ (l : List ℕ). FindsInOrder c.args.found.now.entries l (Some c.args.holder) c.references.found.entries) (take_all c.references.object-index
    c.args.references.now c.references-test.false) c.references.invariant
