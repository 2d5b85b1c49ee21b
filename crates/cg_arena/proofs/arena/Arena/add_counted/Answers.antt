use Rattle.std.proofs.Common.{◌≡◌, ◌+◌, ◌≤◌, Some, ap, sym, ◌∙◌, subst}
use Rattle.std.specs.Prelude.{IfSome, slice_set}
use Rattle.slab.specs.Slab.{get, ContainsKey}
use Rattle.indexmap.specs.IndexMap.{spare}
use Rattle.cg_arena.specs.Nodes.{ArenaNode, new_node, with_node}
use Rattle.cg_arena.specs.Slots.{link_to, with_after}
use Rattle.cg_arena.specs.Links.{ListEnds, link_set, ends_joined, one_end}
use Rattle.cg_arena.specs.Table.{ends_at, rows_of, room_of}
use Rattle.cg_arena.proofs.Sound.{StandsFor}
use Rattle.cg_arena.proofs.Sizes.{end_read}
use Rattle.cg_arena.proofs.Adds.{last_still_there, added}
use Rattle.cg_arena.proofs.arena.Arena.add_counted.Goals as goal
use Rattle.cg_arena.proofs.arena.Arena.add_counted.Goals.{After-append}

pub append-requires-clause-last : goal.append-requires-clause-last
append-requires-clause-last c =
    subst (λ (e : ListEnds). IfSome e.last (ContainsKey c.occupy.new.slots))
    (sym (end_read c.self.inside.ends c.self.invariant.sound.ten c.number_of-list.result c.number_of-list.ensures.below _))
    (last_still_there c.self.inside.slots c.occupy.new.slots c.self.inside.ends (rows_of c.self.inside.slots) c.self.invariant.sound c.self.inside.slots.vacant_key _
    (ap (get c.self.inside.slots) (sym c.vacant_key-at.ensures.value) ∙ c.vacant_key-at.ensures.vacant) c.occupy.ensures.updates c.number_of-list.result c.number_of-list.ensures.below)

last_is : (c : After-append) → c.last-before.result ≡ (ends_at c.self.inside.ends c.number_of-list.result).last
last_is c = c.last-before.ensures ∙ ap (λ (e : ListEnds). e.last) (end_read c.self.inside.ends c.self.invariant.sound.ten c.number_of-list.result c.number_of-list.ensures.below _)

done : (c : After-append) → StandsFor c.append.new.slots (slice_set c.self.inside.ends c.number_of-list.result c.append.new.ends) c.note.new.self
    (spare c.note.new.self.rows) (with_node c.args.serial (record (new_node c.args.code c.args.class c.args.body c.args.place) { count = c.args.count })
    (record c.args.self.now { room = room_of (spare c.note.new.self.rows) c.append.new.slots })) × (c.args.self.now.room ≤ room_of (spare c.note.new.self.rows)
    c.append.new.slots + 1)
done c =
    added c.self.inside.slots c.occupy.new.slots c.append.new.slots c.self.inside.ends c.self.inside.index c.note.new.self c.self.invariant
    (spare c.self.inside.index.rows) c.args.self.now c.self.view_is
    c.args.serial c.vacant_key-at.result (record c.new-slot.result { count = c.args.count }) (record (new_node c.args.code c.args.class c.args.body c.args.place) { count = c.args.count })
    (ap (λ (m : ArenaNode). record m { count = c.args.count }) c.new-slot.ensures.node) c.new-slot.ensures.serial c.new-slot.ensures.after c.requires.fresh
    c.vacant_key-at.ensures.value c.requires.room c.vacant_key-at.ensures.vacant c.occupy.ensures.updates c.occupy.ensures.len c.occupy.ensures.few c.note.ensures.below
    c.note.ensures.noted c.note.ensures.others c.note.ensures.rows
    c.number_of-list.result c.number_of-list.ensures.number c.number_of-list.ensures.below
    (c.new-slot.ensures.before ∙ ap link_to (last_is c))
    (c.append.ensures.slots ∙ ap (λ (e : ListEnds). link_set with_after e.last (Some c.vacant_key-at.result) c.occupy.new.slots) (end_read c.self.inside.ends c.self.invariant.sound.ten c.number_of-list.result c.number_of-list.ensures.below _))
    c.append.new.ends (c.append.ensures.ends ∙ ap (λ e. ends_joined e (one_end c.vacant_key-at.result)) (end_read c.self.inside.ends c.self.invariant.sound.ten c.number_of-list.result c.number_of-list.ensures.below _))
    (spare c.note.new.self.rows)

pub invariant_of-self : goal.invariant_of-self
invariant_of-self c = (done (goal.at.invariant_of-self c).After-append).0.kept

pub returns-clause-adds : goal.returns-clause-adds
returns-clause-adds c = (done (goal.at.returns-clause-adds c).After-append).0.view

pub returns-clause-room : goal.returns-clause-room
returns-clause-room c = (done (goal.at.returns-clause-room c).After-append).1
