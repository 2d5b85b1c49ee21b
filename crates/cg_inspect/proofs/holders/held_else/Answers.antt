use Rattle.std.proofs.Common.{sym, ap, subst, get_or, [], ◌∷◌, None}
use Rattle.cg_inspect.specs.Findings.{RiseBy, FindsInOrder}
use Rattle.cg_inspect.specs.Inspection.{HeldElse}
use Rattle.cg_inspect.proofs.Holdings.{start_held, start_unheld, start_all}
use Rattle.cg_inspect.proofs.Objects.{Ascends, ascends_serials}
use Rattle.cg_inspect.proofs.Positions.{roots_in_order}
use Rattle.cg_inspect.proofs.holders.held_else.Goals.{then-is_held_else+in_ok-find, else-is_held_else}
use Rattle.cg_inspect.proofs.holders.held_else.Goals as goal

pub objects-preserved : goal.objects-preserved
objects-preserved g c =
    elim c.if-is_held_else.branch [
      | then-is_held_else+in_ok-find w ↦
          let added = subst (λ m. FindsInOrder c.objects.found.entries (get_or c.args.objects.now c.objects.holder-index 0 ∷ []) None m.entries) (sym w.found-is) w.in_ok-find.ensures in (
            start_held c.args.heap.now c.args.object c.args.objects.now c.objects.holder-index c.in_ok-numbers.numbers.entries c.objects-test.true
                c.in_ok-numbers.ensures.numbers c.is_held_else.result c.is_held_else.ensures c.objects.found.entries c.if-is_held_else.found.entries
                c.objects.invariant.0 w.if-is_held_else.true
                added.finds,
            roots_in_order (HeldElse c.args.heap.now c.args.object) c.args.objects.now c.objects.holder-index c.objects.found.entries
                c.if-is_held_else.found.entries (subst Ascends (sym c.requires) (ascends_serials c.args.heap.now)) c.objects-test.true c.objects.invariant.0
                c.objects.invariant.1 added,
          )
      | else-is_held_else w ↦ (
        start_unheld c.args.heap.now c.args.object c.args.objects.now c.objects.holder-index c.in_ok-numbers.numbers.entries c.objects-test.true
            c.in_ok-numbers.ensures.numbers c.is_held_else.result c.is_held_else.ensures c.objects.found.entries c.if-is_held_else.found.entries
            c.objects.invariant.0 w.if-is_held_else.false
            (ap (λ m. m.entries) w.found-is),
        subst (λ m. RiseBy (λ o. o) m.entries) (sym w.found-is) c.objects.invariant.1,
      )
    ]

pub returns-clause-found : goal.returns-clause-found
returns-clause-found g c = start_all c.args.heap.now c.sound.ensures.live c.args.object c.args.objects.now c.objects.holder-index c.objects.found.entries
    c.requires c.objects-test.false c.objects.invariant.0
