use Rattle.std.proofs.Common.{◌-◌, refl, arith}
use Rattle.indexmap.specs.IndexMap.{spare}
use Rattle.std.specs.FinMap as fin
use Rattle.std.specs.Prelude.{◌==◌}
use Rattle.cg_arena.specs.Index.{HasRow}
use Rattle.cg_arena.proofs.Sound.{count_kept, found_by_row, count_here, down_view, down_to_none, counted_there}
use Rattle.cg_arena.proofs.arena.Arena.dec.Goals as goal
use Rattle.cg_arena.proofs.arena.Arena.dec.Goals.{In-None}

pub overflow_sub-count : goal.overflow_sub-count
overflow_sub-count c =
    let count = count_here c.self.inside.slots c.self.inside.ends c.self.inside.index c.self.invariant (spare c.self.inside.index.rows) c.args.self.now
    c.self.view_is c.args.serial c.guess-guess.result c.in-Some.slot c.in-Some.ensures.node c.in-Some.ensures.serial in
    omega (arith, count, c.requires)

row : (c : In-None) → HasRow c.self.inside.slots c.self.inside.index c.args.serial
row c = found_by_row c.self.inside.slots c.self.inside.ends c.self.inside.index c.self.invariant (spare c.self.inside.index.rows) c.args.self.now c.self.view_is
    c.args.serial (counted_there (fin.get c.args.self.now.nodes c.args.serial) c.requires) c.guess-guess.result c.guess-guess.ensures
    (c.in-None.ensures.none refl)

pub dec_by_row-requires : goal.dec_by_row-requires
dec_by_row-requires c =
    let r = row (goal.at.dec_by_row-requires c).In-None in
    let count = count_here c.self.inside.slots c.self.inside.ends c.self.inside.index c.self.invariant (spare c.self.inside.index.rows) c.args.self.now
    c.self.view_is c.args.serial r.at r.slot r.there r.serial_is in
    (r, omega (arith, count, c.requires))

pub invariant_of-self : goal.invariant_of-self
invariant_of-self c = count_kept c.self.inside.slots c.self.inside.ends c.self.inside.index c.self.invariant (c.in-Some.slot.count - 1) c.guess-guess.result c.set_count.new.slots c.set_count.ensures

pub invariant_of-self-in-None : goal.invariant_of-self-in-None
invariant_of-self-in-None c =
    let r = row (goal.at.invariant_of-self-in-None c).In-None in
    count_kept c.self.inside.slots c.self.inside.ends c.self.inside.index c.self.invariant (r.slot.count - 1) r.at c.dec_by_row.new.slots (c.dec_by_row.ensures.falls r)

pub returns-in-Some-clause-falls : goal.returns-in-Some-clause-falls
returns-in-Some-clause-falls c = down_view c.self.inside.slots c.self.inside.ends c.self.inside.index c.self.invariant (spare c.self.inside.index.rows)
    c.args.self.now c.self.view_is c.args.serial c.guess-guess.result c.in-Some.slot c.in-Some.ensures.node c.in-Some.ensures.serial c.set_count.new.slots
    c.set_count.ensures

pub returns-in-Some-clause-none : goal.returns-in-Some-clause-none
returns-in-Some-clause-none c = down_to_none c.self.inside.slots c.self.inside.ends c.self.inside.index c.self.invariant (spare c.self.inside.index.rows)
    c.args.self.now c.self.view_is c.args.serial c.guess-guess.result c.in-Some.slot c.in-Some.ensures.node c.in-Some.ensures.serial
    (c.in-Some.slot.count - 1 == 0) refl _ (returns-in-Some-clause-falls c)

pub returns-in-None-clause-falls : goal.returns-in-None-clause-falls
returns-in-None-clause-falls c =
    let r = row (goal.at.returns-in-None-clause-falls c).In-None in
    down_view c.self.inside.slots c.self.inside.ends c.self.inside.index c.self.invariant (spare c.self.inside.index.rows) c.args.self.now c.self.view_is
    c.args.serial r.at r.slot r.there r.serial_is c.dec_by_row.new.slots (c.dec_by_row.ensures.falls r)

pub returns-in-None-clause-none : goal.returns-in-None-clause-none
returns-in-None-clause-none c =
    let r = row (goal.at.returns-in-None-clause-none c).In-None in
    down_to_none c.self.inside.slots c.self.inside.ends c.self.inside.index c.self.invariant (spare c.self.inside.index.rows) c.args.self.now c.self.view_is
    c.args.serial r.at r.slot r.there r.serial_is c.dec_by_row.result (c.dec_by_row.ensures.none r) _ (returns-in-None-clause-falls c)
