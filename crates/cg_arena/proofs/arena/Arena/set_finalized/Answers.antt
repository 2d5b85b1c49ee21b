use Rattle.std.proofs.Common.{refl}
use Rattle.indexmap.specs.IndexMap.{spare}
use Rattle.cg_arena.specs.Nodes.{node_finalized}
use Rattle.cg_arena.specs.Slots.{with_mark}
use Rattle.cg_arena.proofs.Sound.{found, field_kept, field_view, node_of-with_mark}
use Rattle.cg_arena.proofs.arena.Arena.set_finalized.Goals as goal

pub slot_of-at-requires : goal.slot_of-at-requires
slot_of-at-requires c = found c.self.inside.slots c.self.inside.ends c.self.inside.index c.self.invariant (spare c.self.inside.index.rows) c.args.self.now c.self.view_is c.args.serial c.requires

pub invariant_of-self : goal.invariant_of-self
invariant_of-self c =
    field_kept with_mark (λ x. refl) (λ x. refl) (λ x. refl) (λ x. refl) c.self.inside.slots c.self.inside.ends c.self.inside.index c.self.invariant c.slot_of-at.result.0
    c.mark_finalized.new.slots c.mark_finalized.ensures

pub returns : goal.returns
returns c =
    field_view with_mark (λ x. refl) (λ x. refl) (λ x. refl) (λ x. refl) c.self.inside.slots c.self.inside.ends c.self.inside.index c.self.invariant c.slot_of-at.result.0
    c.mark_finalized.new.slots c.mark_finalized.ensures (spare c.self.inside.index.rows) c.args.self.now c.self.view_is
    node_finalized c.args.serial c.slot_of-at.result.1 c.slot_of-at.ensures.at c.slot_of-at.ensures.slot (node_of-with_mark c.slot_of-at.result.1)
