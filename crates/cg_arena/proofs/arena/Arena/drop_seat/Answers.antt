use Rattle.std.proofs.Common.{◌≡◌, ◌<◌, ◌≤◌, IfSome, refl, sym, ap, ◌∙◌, subst}
use Rattle.std.specs.Prelude.{slice_set}
use Rattle.indexmap.specs.IndexMap.{spare}
use Rattle.cg_arena.specs.Table.{rows_of, room_of}
use Rattle.cg_arena.specs.Slots.{before_of, after_of}
use Rattle.cg_arena.specs.Nodes.{ArenaNode, without_node}
use Rattle.cg_arena.specs.Links.{ListEnds, ends_without, tied}
use Rattle.cg_arena.proofs.Sound.{StandsFor, found, slot_placed, node_here}
use Rattle.cg_arena.proofs.Sizes.{end_read}
use Rattle.cg_arena.proofs.Drops.{neighbours_there, left_there, dropped}
use Rattle.cg_arena.proofs.arena.Arena.drop_seat.Goals as goal

pub slot_of-at-requires : goal.slot_of-at-requires
slot_of-at-requires c = found c.self.inside.slots c.self.inside.ends c.self.inside.index c.self.invariant (spare c.self.inside.index.rows) c.args.self.now c.self.view_is c.args.serial c.requires.has

pub number_of-from-requires : goal.number_of-from-requires
number_of-from-requires c = slot_placed c.self.inside.slots c.self.inside.ends (rows_of c.self.inside.slots) c.self.invariant.sound c.slot_of-at.result.0
    c.slot_of-at.result.1 c.slot_of-at.ensures.slot

pub unlink-requires : goal.unlink-requires
unlink-requires c =
    let there = neighbours_there c.self.inside.slots (tied (before_of c.slot_of-at.result.1) (after_of c.slot_of-at.result.1) c.self.inside.slots)
    c.self.inside.ends (rows_of c.self.inside.slots) c.self.invariant.sound c.args.serial c.slot_of-at.result.0 c.slot_of-at.result.1 c.slot_of-at.ensures.at
    c.slot_of-at.ensures.slot c.number_of-from.result c.number_of-from.ensures.number c.number_of-from.ensures.below refl in
    record {
      size = subst (λ (e : ListEnds). 0 < e.size)
          (sym (end_read c.self.inside.ends c.self.invariant.sound.ten c.number_of-from.result c.number_of-from.ensures.below _)) there.0;
      before = there.1.0;
      after = there.1.1;
    }

pub remove-requires-2 : goal.remove-requires-2
remove-requires-2 c =
    left_there c.self.inside.slots c.unlink.new.slots c.self.inside.ends (rows_of c.self.inside.slots) c.self.invariant.sound c.args.serial
    c.slot_of-at.result.0 c.slot_of-at.result.1 c.slot_of-at.ensures.at c.slot_of-at.ensures.slot
    c.number_of-from.result c.number_of-from.ensures.number c.number_of-from.ensures.below c.unlink.ensures.slots

done : (c : goal.After-remove-2) → StandsFor c.remove-2.new.self (slice_set c.self.inside.ends c.number_of-from.result c.unlink.new.ends) c.remove.new.self
    (spare c.remove.new.self.rows) (without_node c.args.serial (record c.args.self.now { room = room_of (spare c.remove.new.self.rows) c.remove-2.new.self }))
    × (c.args.self.now.room ≤ room_of (spare c.remove.new.self.rows) c.remove-2.new.self)
done c =
    dropped c.self.inside.slots c.unlink.new.slots c.remove-2.new.self c.self.inside.ends c.self.inside.index c.remove.new.self c.self.invariant
    (spare c.self.inside.index.rows) c.args.self.now c.self.view_is
    c.args.serial c.slot_of-at.result.0 c.slot_of-at.result.1 c.slot_of-at.ensures.at c.slot_of-at.ensures.slot
    c.number_of-from.result c.number_of-from.ensures.number c.number_of-from.ensures.below c.unlink.ensures.slots c.unlink.new.ends
    (c.unlink.ensures.ends ∙ ap (ends_without (before_of c.slot_of-at.result.1) (after_of c.slot_of-at.result.1)) (end_read c.self.inside.ends c.self.invariant.sound.ten c.number_of-from.result c.number_of-from.ensures.below _))
    c.remove-2.ensures.updates c.remove-2.ensures.len c.remove.ensures.index
    (spare c.remove.new.self.rows) c.remove-2.ensures.capacity c.remove-2.ensures.key_is_next c.remove.ensures.room

pub invariant_of-self : goal.invariant_of-self
invariant_of-self c = (done c).0.kept

pub returns-clause-drops : goal.returns-clause-drops
returns-clause-drops c = (done c).0.view

pub returns-clause-room : goal.returns-clause-room
returns-clause-room c = (done c).1

pub returns-clause-code : goal.returns-clause-code
returns-clause-code c = subst (λ o. IfSome o (λ (n : ArenaNode). c.slot_of-at.result.1.code ≡ n.code))
    (sym (node_here c.self.inside.slots c.self.inside.ends (rows_of c.self.inside.slots) (spare c.self.inside.index.rows) c.args.self.now c.self.view_is
    c.args.serial c.slot_of-at.result.0 c.slot_of-at.result.1 c.slot_of-at.ensures.at c.slot_of-at.ensures.slot)) refl

pub returns-clause-body : goal.returns-clause-body
returns-clause-body c = subst (λ o. IfSome o (λ (n : ArenaNode). c.slot_of-at.result.1.body ≡ n.body))
    (sym (node_here c.self.inside.slots c.self.inside.ends (rows_of c.self.inside.slots) (spare c.self.inside.index.rows) c.args.self.now c.self.view_is
    c.args.serial c.slot_of-at.result.0 c.slot_of-at.result.1 c.slot_of-at.ensures.at c.slot_of-at.ensures.slot)) refl
