use Rattle.std.proofs.Common.{◌≡◌, refl, sym, ap, ◌∙◌}
use Rattle.indexmap.specs.IndexMap.{spare}
use Rattle.cg_arena.specs.Table.{rows_of}
use Rattle.cg_arena.specs.Nodes.{count_in, count_of, node_numbered, with_node_changed}
use Rattle.cg_arena.specs.Slots.{with_number}
use Rattle.cg_arena.proofs.Sound.{found, node_here, field_kept, field_view}
use Rattle.cg_arena.proofs.arena.Arena.set_gc_to_count.Goals as goal

pub slot_near-at-requires : goal.slot_near-at-requires
slot_near-at-requires c = found c.self.inside.slots c.self.inside.ends c.self.inside.index c.self.invariant (spare c.self.inside.index.rows) c.args.self.now c.self.view_is c.args.serial c.requires.has

pub invariant_of-self : goal.invariant_of-self
invariant_of-self c =
    field_kept (with_number c.slot_near-at.result.1.count) (λ x. refl) (λ x. refl) (λ x. refl) (λ x. refl) c.self.inside.slots c.self.inside.ends
    c.self.inside.index c.self.invariant c.slot_near-at.result.0
    c.set_number.new.slots c.set_number.ensures

pub returns : goal.returns
returns c =
    let count : count_of c.args.self.now c.args.serial ≡ c.slot_near-at.result.1.count = ap count_in
    (node_here c.self.inside.slots c.self.inside.ends (rows_of c.self.inside.slots) (spare c.self.inside.index.rows) c.args.self.now c.self.view_is
    c.args.serial c.slot_near-at.result.0 c.slot_near-at.result.1 c.slot_near-at.ensures.at c.slot_near-at.ensures.slot) in
    field_view (with_number c.slot_near-at.result.1.count) (λ x. refl) (λ x. refl) (λ x. refl) (λ x. refl) c.self.inside.slots c.self.inside.ends
    c.self.inside.index c.self.invariant c.slot_near-at.result.0
    c.set_number.new.slots c.set_number.ensures (spare c.self.inside.index.rows) c.args.self.now c.self.view_is
    (node_numbered c.slot_near-at.result.1.count) c.args.serial c.slot_near-at.result.1 c.slot_near-at.ensures.at c.slot_near-at.ensures.slot refl
    ∙ ap (λ n. with_node_changed (node_numbered n) c.args.serial c.args.self.now) (sym count)
