use Rattle.cg_heap.proofs.Calls.{stands, has_node, count_fits, root_live}
use Rattle.cg_heap.proofs.Saves.{garbage_held, room_to_save, after_save}
use Rattle.cg_heap.proofs.heap.Heap.save.Goals as goal

pub body_of-garbage-requires : goal.body_of-garbage-requires
body_of-garbage-requires g c = has_node (stands c.self.inside.arena c.self.invariant c.self.view_is) 1 (root_live (stands c.self.inside.arena c.self.invariant c.self.view_is))

pub append_reserved-requires-clause-held : goal.append_reserved-requires-clause-held
append_reserved-requires-clause-held g c = garbage_held (stands c.self.inside.arena c.self.invariant c.self.view_is) c.body_of-garbage.result c.body_of-garbage.ensures

pub append_reserved-requires-clause-room : goal.append_reserved-requires-clause-room
append_reserved-requires-clause-room g c = room_to_save (stands c.self.inside.arena c.self.invariant c.self.view_is) c.body_of-garbage.result c.body_of-garbage.ensures c.args.object c.requires.live
    c.requires.other c.requires.new

pub inc-requires-clause-has : goal.inc-requires-clause-has
inc-requires-clause-has g c = has_node (stands c.self.inside.arena c.self.invariant c.self.view_is) c.args.object c.requires.live

pub inc-requires-clause-room : goal.inc-requires-clause-room
inc-requires-clause-room g c = count_fits (stands c.self.inside.arena c.self.invariant c.self.view_is) c.args.object

pub invariant_of-self : goal.invariant_of-self
invariant_of-self g c = (after_save (stands c.self.inside.arena c.self.invariant c.self.view_is) c.body_of-garbage.result c.body_of-garbage.ensures c.args.object c.requires.live c.requires.other
    c.requires.new _ c.append_reserved.ensures _ c.inc.ensures).keeps

pub returns : goal.returns
returns g c = (after_save (stands c.self.inside.arena c.self.invariant c.self.view_is) c.body_of-garbage.result c.body_of-garbage.ensures c.args.object c.requires.live c.requires.other c.requires.new
    _ c.append_reserved.ensures _ c.inc.ensures).is
