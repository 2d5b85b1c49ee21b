use Rattle.std.proofs.Common.{◌∙◌, arith}
use Rattle.cg_graph.specs.Store.{list_at}
use Rattle.cg_trial.specs.View.{view_of}
use Rattle.cg_trial.proofs.CountBounds.{is_ready, is_counted, is_apart}
use Rattle.cg_trial.proofs.Passes.{but_numbers_more, ready_same, list_same}
use Rattle.cg_trial.proofs.Splits.{sieved_of, counted_room, apart_same, entries_same}
use Rattle.cg_trial.proofs.subtraction.sift.Goals as goal

pub copy-unheld-requires-clause-ready : goal.copy-unheld-requires-clause-ready
copy-unheld-requires-clause-ready g c = is_ready c.args.members c.args.heap.now c.sound.ensures

pub subtract-unheld-requires-clause-ready : goal.subtract-unheld-requires-clause-ready
subtract-unheld-requires-clause-ready g c = ready_same c.args.members _ _ (is_ready c.args.members c.args.heap.now c.sound.ensures) c.copy-unheld.ensures.same

pub subtract-unheld-requires-clause-room : goal.subtract-unheld-requires-clause-room
subtract-unheld-requires-clause-room g c = counted_room c.args.members (view_of c.args.heap.now) (view_of c.copy-unheld.new.heap) c.copy-unheld.ensures.same c.copy-unheld.ensures.copied (is_counted c.args.members c.args.heap.now c.sound.ensures)

pub take_out-requires-clause-ready : goal.take_out-requires-clause-ready
take_out-requires-clause-ready g c = ready_same c.args.members _ _ (is_ready c.args.members c.args.heap.now c.sound.ensures) (but_numbers_more c.copy-unheld.ensures.same c.subtract-unheld.ensures.lowered.rest)

pub take_out-requires-clause-alone : goal.take_out-requires-clause-alone
take_out-requires-clause-alone g c = apart_same c.args.members (view_of c.args.heap.now) (view_of c.subtract-unheld.new.heap) (but_numbers_more c.copy-unheld.ensures.same
    c.subtract-unheld.ensures.lowered.rest) (is_apart c.args.members c.args.heap.now c.sound.ensures)

pub take_out-requires-clause-none : goal.take_out-requires-clause-none
take_out-requires-clause-none g c = list_same c.args.aside (but_numbers_more c.copy-unheld.ensures.same c.subtract-unheld.ensures.lowered.rest) ∙ c.requires.none

pub returns-clause-sifted : goal.returns-clause-sifted
returns-clause-sifted g c = sieved_of c.args.members _ _ _ _ c.copy-unheld.ensures.same c.copy-unheld.ensures.copied c.subtract-unheld.ensures.lowered c.take_out.ensures.sifted

pub returns-clause-least : goal.returns-clause-least
returns-clause-least g c =
    let same = c.copy-unheld.ensures.same in
    let first = entries_same (view_of c.args.heap.now) (view_of c.copy-unheld.new.heap) (list_at c.copy-unheld.new.heap c.args.members) (list_at c.args.heap.now c.args.members) same.same (list_same c.args.members same) in
    omega (arith, first, c.subtract-unheld.ensures.looks, c.take_out.ensures.later)

pub returns-clause-most : goal.returns-clause-most
returns-clause-most g c =
    let same = c.copy-unheld.ensures.same in
    let both = but_numbers_more same c.subtract-unheld.ensures.lowered.rest in
    let first = entries_same (view_of c.args.heap.now) (view_of c.copy-unheld.new.heap) (list_at c.copy-unheld.new.heap c.args.members) (list_at c.args.heap.now c.args.members) same.same (list_same c.args.members same) in
    let second = entries_same (view_of c.args.heap.now) (view_of c.subtract-unheld.new.heap) (list_at c.subtract-unheld.new.heap c.args.members) (list_at c.args.heap.now c.args.members) both.same (list_same c.args.members both) in
    omega (arith, first, second, c.subtract-unheld.ensures.looks, c.take_out.ensures.looks)
