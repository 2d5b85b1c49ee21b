use Rattle.std.proofs.Common.{refl, inl, sym, arith}
use Rattle.cg_value.specs.declared.Place.TheVariants.{Pend}
use Rattle.cg_graph.specs.Store.{list_at}
use Rattle.cg_trial.proofs.PlacesOfObjects.{where_is}
use Rattle.cg_death.proofs.RowSplits.{head_in}
use Rattle.cg_collect.proofs.Garbage.{not_garbage}
use Rattle.cg_collect.proofs.NothingIsMade.{keeps_all}
use Rattle.cg_collect.proofs.Pending.{turn-called, turn-all_called}
use Rattle.cg_collect.proofs.TakingTurns.{goes_on, runs}
use Rattle.cg_collect.proofs.weak.call_one.Goals as goal

pub frame_of_callback-requires-clause-live : goal.frame_of_callback-requires-clause-live
frame_of_callback-requires-clause-live g c = (where_is c.args.heap.now c.sound.ensures.listed Pend c.in-Some.weak (head_in (list_at c.args.heap.now Pend) c.in-Some.weak (sym c.in-Some.ensures))).0

pub frame_of_callback-requires-clause-callback : goal.frame_of_callback-requires-clause-callback
frame_of_callback-requires-clause-callback g c = (c.requires.ready.1 c.in-Some.weak (head_in (list_at c.args.heap.now Pend) c.in-Some.weak (sym c.in-Some.ensures))).1

-- a waiting weak reference is not the garbage list
pub returns-in-Some-clause-takes : goal.returns-in-Some-clause-takes
returns-in-Some-clause-takes g c = λ script facts policy.
    let at = (where_is c.args.heap.now c.sound.ensures.listed Pend c.in-Some.weak (head_in (list_at c.args.heap.now Pend) c.in-Some.weak (sym c.in-Some.ensures))).1 in
    runs c.runs.ensures (turn-called script facts c.args.heap.now policy c.in-Some.weak (sym c.in-Some.ensures) c.frame_of_callback.result c.frame_of_callback.ensures.frame)
    tt refl (not_garbage c.args.heap.now c.in-Some.weak Pend c.requires.ready.0.0.garbage at (λ e. cc)) (λ n few. few) (omega arith, refl) (keeps_all c.args.heap.now)

pub returns-in-None-clause-takes : goal.returns-in-None-clause-takes
returns-in-None-clause-takes g c = λ script facts policy.
    goes_on c.to.ensures (turn-all_called script facts c.args.heap.now policy (sym c.in-None.ensures))
    c.requires.ready.0.0 tt (inl (omega arith)) (λ n few. omega (arith, few)) (omega arith, refl) (keeps_all c.args.heap.now)
