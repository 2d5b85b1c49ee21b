use Rattle.std.proofs.Common.{◌+◌, arith}
use Rattle.indexmap.specs.IndexMap.{spare}
use Rattle.cg_arena.proofs.Sound.{count_kept, count_here, up_view}
use Rattle.cg_arena.proofs.arena.Arena.inc_near.Goals as goal

pub overflow_add-count : goal.overflow_add-count
overflow_add-count c =
    let count = count_here c.self.inside.slots c.self.inside.ends c.self.inside.index c.self.invariant (spare c.self.inside.index.rows) c.args.self.now
    c.self.view_is c.args.serial c.args.near.slot c.in-Some.slot c.in-Some.ensures.node c.in-Some.ensures.serial in
    omega (arith, count, c.requires.room)

pub invariant_of-self : goal.invariant_of-self
invariant_of-self c = count_kept c.self.inside.slots c.self.inside.ends c.self.inside.index c.self.invariant (c.in-Some.slot.count + 1) c.args.near.slot c.set_count.new.slots c.set_count.ensures

pub returns-in-Some : goal.returns-in-Some
returns-in-Some c = up_view c.self.inside.slots c.self.inside.ends c.self.inside.index c.self.invariant (spare c.self.inside.index.rows) c.args.self.now
    c.self.view_is c.args.serial c.args.near.slot c.in-Some.slot c.in-Some.ensures.node c.in-Some.ensures.serial c.set_count.new.slots c.set_count.ensures
