use Rattle.std.proofs.Common.{◌≡◌, ◌+◌, ◌<◌, ◌^◌, Some, ap, sym, ◌∙◌, subst, arith, refl}
use Rattle.std.specs.Prelude.{IfSome, slice_set, slice_index_or}
use Rattle.std.proofs.lemmas.List.{length-set}
use Rattle.slab.specs.Slab.{ContainsKey}
use Rattle.indexmap.specs.IndexMap.{spare}
use Rattle.cg_arena.specs.Slots.{place_in_slot, before_of, after_of, placed_last, with_after}
use Rattle.cg_arena.specs.Nodes.{with_node_moved}
use Rattle.cg_arena.specs.Links.{ListEnds, rewritten, link_set, tied, ends_without, ends_joined, one_end}
use Rattle.cg_arena.specs.Table.{ends_at, rows_of}
use Rattle.cg_arena.proofs.Sound.{StandsFor, found, slot_placed}
use Rattle.cg_arena.proofs.Sizes.{end_read}
use Rattle.cg_arena.proofs.Drops.{neighbours_there, left_there}
use Rattle.cg_arena.proofs.Moves.{room_for_one, moved}
use Rattle.cg_arena.proofs.arena.Arena.move_near.Goals as goal
use Rattle.cg_arena.proofs.arena.Arena.move_near.Goals.{After-place_last, After-append}

pub slot_near-at-requires : goal.slot_near-at-requires
slot_near-at-requires c = found c.self.inside.slots c.self.inside.ends c.self.inside.index c.self.invariant (spare c.self.inside.index.rows) c.args.self.now c.self.view_is c.args.serial c.requires.has

pub number_of-from-requires : goal.number_of-from-requires
number_of-from-requires c = slot_placed c.self.inside.slots c.self.inside.ends (rows_of c.self.inside.slots) c.self.invariant.sound c.slot_near-at.result.0
    c.slot_near-at.result.1 c.slot_near-at.ensures.slot

pub overflow_cast-at : goal.overflow_cast-at
overflow_cast-at c =
    let low = (c.self.invariant.sound.placed c.slot_near-at.result.0 c.slot_near-at.result.1.place (ap place_in_slot c.slot_near-at.ensures.slot)).1 in
    omega (arith, low)

pub unlink-requires : goal.unlink-requires
unlink-requires c =
    let there = neighbours_there c.self.inside.slots (tied (before_of c.slot_near-at.result.1) (after_of c.slot_near-at.result.1) c.self.inside.slots)
    c.self.inside.ends (rows_of c.self.inside.slots) c.self.invariant.sound c.args.serial c.slot_near-at.result.0 c.slot_near-at.result.1
    c.slot_near-at.ensures.at c.slot_near-at.ensures.slot c.number_of-from.result c.number_of-from.ensures.number c.number_of-from.ensures.below refl in
    record {
      size = subst (λ (e : ListEnds). 0 < e.size)
          (sym (end_read c.self.inside.ends c.self.invariant.sound.ten c.number_of-from.result c.number_of-from.ensures.below _)) there.0;
      before = there.1.0;
      after = there.1.1;
    }

pub place_last-requires : goal.place_last-requires
place_last-requires c =
    left_there c.self.inside.slots c.unlink.new.slots c.self.inside.ends (rows_of c.self.inside.slots) c.self.invariant.sound c.args.serial
    c.slot_near-at.result.0 c.slot_near-at.result.1 c.slot_near-at.ensures.at c.slot_near-at.ensures.slot
    c.number_of-from.result c.number_of-from.ensures.number c.number_of-from.ensures.below c.unlink.ensures.slots

-- the list that the node leaves, and then the last slot of the one that it joins
left_is : (c : After-place_last) → c.unlink.new.ends ≡ ends_without (before_of c.slot_near-at.result.1) (after_of c.slot_near-at.result.1)
    (ends_at c.self.inside.ends c.number_of-from.result)
left_is c =
    c.unlink.ensures.ends
    ∙ ap (ends_without (before_of c.slot_near-at.result.1) (after_of c.slot_near-at.result.1))
    (end_read c.self.inside.ends c.self.invariant.sound.ten c.number_of-from.result c.number_of-from.ensures.below c.index-self-from.result)

read_joined : (c : After-place_last) (e : ListEnds) → slice_index_or (slice_set c.self.inside.ends c.number_of-from.result c.unlink.new.ends) c.number_of-to.result e
    ≡ ends_at (slice_set c.self.inside.ends c.number_of-from.result c.unlink.new.ends) c.number_of-to.result
read_joined c =
    end_read (slice_set c.self.inside.ends c.number_of-from.result c.unlink.new.ends)
    (length-set c.self.inside.ends c.number_of-from.result c.unlink.new.ends ∙ c.self.invariant.sound.ten) c.number_of-to.result c.number_of-to.ensures.below

placed_is : (c : After-place_last) → c.place_last.new.slots ≡ rewritten (placed_last c.args.place (ends_at (slice_set c.self.inside.ends c.number_of-from.result
    c.unlink.new.ends) c.number_of-to.result).last) c.slot_near-at.result.0 c.unlink.new.slots
placed_is c =
    c.place_last.ensures
    ∙ ap (λ b. rewritten (placed_last c.args.place b) c.slot_near-at.result.0 c.unlink.new.slots)
    (c.last-before.ensures ∙ ap (λ (e : ListEnds). e.last) (read_joined c _))

joined_fits : (c : After-place_last) → ((ends_at (slice_set c.self.inside.ends c.number_of-from.result c.unlink.new.ends) c.number_of-to.result).size + 1 < 2 ^ 64)
    × IfSome (ends_at (slice_set c.self.inside.ends c.number_of-from.result c.unlink.new.ends) c.number_of-to.result).last (ContainsKey c.place_last.new.slots)
joined_fits c =
    room_for_one c.self.inside.slots c.unlink.new.slots c.place_last.new.slots c.place_last.new.slots
    c.self.inside.ends c.self.inside.index c.self.invariant (spare c.self.inside.index.rows) c.args.self.now c.self.view_is
    c.args.serial c.slot_near-at.result.0 c.slot_near-at.result.1 c.slot_near-at.ensures.at c.slot_near-at.ensures.slot
    c.number_of-from.result c.number_of-from.ensures.number c.number_of-from.ensures.below c.unlink.ensures.slots c.unlink.new.ends (left_is c)
    c.args.place c.number_of-to.result c.number_of-to.ensures.number c.number_of-to.ensures.below (placed_is c)

pub append-requires : goal.append-requires
append-requires c =
    let placed = (goal.at.append-requires c).After-place_last in
    record {
      size = subst (λ (e : ListEnds). e.size + 1 < 2 ^ 64) (sym (read_joined placed _)) (joined_fits placed).0;
      low = (c.self.invariant.sound.placed c.slot_near-at.result.0 c.slot_near-at.result.1.place (ap place_in_slot c.slot_near-at.ensures.slot)).1;
      last = subst (λ (e : ListEnds). IfSome e.last (ContainsKey c.place_last.new.slots)) (sym (read_joined placed _)) (joined_fits placed).1;
    }

done : (c : After-append) → StandsFor c.append.new.slots (slice_set (slice_set c.self.inside.ends c.number_of-from.result c.unlink.new.ends) c.number_of-to.result
    c.append.new.ends) c.self.inside.index (spare c.self.inside.index.rows) (with_node_moved c.args.serial c.args.place c.args.self.now)
done c =
    let placed : After-place_last = c.before.before.before.before.before in
    moved c.self.inside.slots c.unlink.new.slots c.place_last.new.slots c.append.new.slots
    c.self.inside.ends c.self.inside.index c.self.invariant (spare c.self.inside.index.rows) c.args.self.now c.self.view_is
    c.args.serial c.slot_near-at.result.0 c.slot_near-at.result.1 c.slot_near-at.ensures.at c.slot_near-at.ensures.slot
    c.number_of-from.result c.number_of-from.ensures.number c.number_of-from.ensures.below c.unlink.ensures.slots c.unlink.new.ends (left_is placed)
    c.args.place c.number_of-to.result c.number_of-to.ensures.number c.number_of-to.ensures.below (placed_is placed)
    (c.append.ensures.slots ∙ ap (λ (e : ListEnds). link_set with_after e.last (Some c.slot_near-at.result.0) c.place_last.new.slots) (read_joined placed _))
    c.append.new.ends (c.append.ensures.ends ∙ ap (λ e. ends_joined e (one_end c.slot_near-at.result.0)) (read_joined placed _))

pub invariant_of-self : goal.invariant_of-self
invariant_of-self c = (done (goal.at.invariant_of-self c).After-append).kept

pub returns : goal.returns
returns c = (done (goal.at.returns c).After-append).view
