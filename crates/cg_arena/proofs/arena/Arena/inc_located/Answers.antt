use Rattle.std.proofs.Common.{◌+◌, refl, arith}
use Rattle.indexmap.specs.IndexMap.{spare}
use Rattle.cg_arena.specs.Index.{HasRow}
use Rattle.cg_arena.proofs.Sound.{count_kept, found_by_row, count_here, up_view}
use Rattle.cg_arena.proofs.arena.Arena.inc_located.Goals as goal
use Rattle.cg_arena.proofs.arena.Arena.inc_located.Goals.{In-None}

pub overflow_add-count : goal.overflow_add-count
overflow_add-count c =
    let count = count_here c.self.inside.slots c.self.inside.ends c.self.inside.index c.self.invariant (spare c.self.inside.index.rows) c.args.self.now
    c.self.view_is c.args.serial c.guess-guess.result c.in-Some.slot c.in-Some.ensures.node c.in-Some.ensures.serial in
    omega (arith, count, c.requires.room)

row : (c : In-None) → HasRow c.self.inside.slots c.self.inside.index c.args.serial
row c = found_by_row c.self.inside.slots c.self.inside.ends c.self.inside.index c.self.invariant (spare c.self.inside.index.rows) c.args.self.now c.self.view_is
    c.args.serial c.requires.has c.guess-guess.result c.guess-guess.ensures (c.in-None.ensures.none refl)

pub inc_by_row-requires : goal.inc_by_row-requires
inc_by_row-requires c =
    let r = row (goal.at.inc_by_row-requires c).In-None in
    let count = count_here c.self.inside.slots c.self.inside.ends c.self.inside.index c.self.invariant (spare c.self.inside.index.rows) c.args.self.now
    c.self.view_is c.args.serial r.at r.slot r.there r.serial_is in
    (r, omega (arith, count, c.requires.room))

pub invariant_of-self : goal.invariant_of-self
invariant_of-self c = count_kept c.self.inside.slots c.self.inside.ends c.self.inside.index c.self.invariant (c.in-Some.slot.count + 1) c.guess-guess.result c.set_count.new.slots c.set_count.ensures

pub invariant_of-self-in-None : goal.invariant_of-self-in-None
invariant_of-self-in-None c =
    let r = row (goal.at.invariant_of-self-in-None c).In-None in
    count_kept c.self.inside.slots c.self.inside.ends c.self.inside.index c.self.invariant (r.slot.count + 1) r.at c.inc_by_row.new.slots (c.inc_by_row.ensures r)

pub returns-in-Some : goal.returns-in-Some
returns-in-Some c = up_view c.self.inside.slots c.self.inside.ends c.self.inside.index c.self.invariant (spare c.self.inside.index.rows) c.args.self.now
    c.self.view_is c.args.serial c.guess-guess.result c.in-Some.slot c.in-Some.ensures.node c.in-Some.ensures.serial c.set_count.new.slots c.set_count.ensures

pub returns-in-None : goal.returns-in-None
returns-in-None c =
    let r = row (goal.at.returns-in-None c).In-None in
    up_view c.self.inside.slots c.self.inside.ends c.self.inside.index c.self.invariant (spare c.self.inside.index.rows) c.args.self.now c.self.view_is
    c.args.serial r.at r.slot r.there r.serial_is c.inc_by_row.new.slots (c.inc_by_row.ensures r)
