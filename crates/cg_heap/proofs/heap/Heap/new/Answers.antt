use Rattle.std.proofs.Common.{ap, ◌∙◌, []}
use Rattle.cg_value.specs.declared.KindCode.TheVariants as code
use Rattle.cg_heap.specs.Boxes.{boxes_with_body, spare_in_box}
use Rattle.cg_heap.proofs.NewHeap.{opened, first-live, first-room, first-fresh}
use Rattle.cg_heap.proofs.heap.Heap.new.Goals as goal

pub add-requires-clause-fresh : goal.add-requires-clause-fresh
add-requires-clause-fresh g c = first-fresh c.new-arena.result c.new-arena.ensures

pub inc-requires-clause-has : goal.inc-requires-clause-has
inc-requires-clause-has g c = first-live c.in_ok-body.body c.add.new.self.room c.new-arena.result c.add.new.self c.in_ok-add.ensures.ok

pub inc-requires-clause-room : goal.inc-requires-clause-room
inc-requires-clause-room g c = first-room c.in_ok-body.body c.add.new.self.room c.new-arena.result c.add.new.self c.in_ok-add.ensures.ok

pub invariant_of-result : goal.invariant_of-result
invariant_of-result g c = (opened c.args.names c.in_ok-body.body c.add.new.self.room c.requires.names c.make.new.self (c.in_ok-body.ensures.made
    ∙ ap (λ b. boxes_with_body b code.List c.in_ok-body.body [] (spare_in_box c.make.new.self code.List c.in_ok-body.body)) (c.new-boxes.ensures
    ∙ c.requires.empty)) c.new-arena.result c.add.new.self c.inc.new.self c.new-arena.ensures c.in_ok-add.ensures.ok c.inc.ensures c.in_ok-names.names
    c.in_ok-names.ensures _ c.new-2.ensures).keeps

pub returns : goal.returns
returns g c = (opened c.args.names c.in_ok-body.body c.add.new.self.room c.requires.names c.make.new.self (c.in_ok-body.ensures.made
    ∙ ap (λ b. boxes_with_body b code.List c.in_ok-body.body [] (spare_in_box c.make.new.self code.List c.in_ok-body.body)) (c.new-boxes.ensures
    ∙ c.requires.empty)) c.new-arena.result c.add.new.self c.inc.new.self c.new-arena.ensures c.in_ok-add.ensures.ok c.inc.ensures c.in_ok-names.names
    c.in_ok-names.ensures _ c.new-2.ensures).is
