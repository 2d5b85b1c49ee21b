use Rattle.std.proofs.Common.{List, ℕ, subst, arith}
use Rattle.std.proofs.lemmas.List.{length-take}
use Rattle.cg_graph.specs.Member.{Includes}
use Rattle.cg_graph.specs.Store.{entries_of}
use Rattle.cg_kind.specs.declared.notes.TheConstants.{AT_ONCE}
use Rattle.cg_trial.specs.View.{view_of}
use Rattle.cg_trial.specs.Sift.{Woken}
use Rattle.cg_trial.proofs.Entries.{live_same, next_live}
use Rattle.cg_trial.proofs.Passes.{same_itself}
use Rattle.cg_trial.proofs.Backward.{waking_back-first_block, waking_back-alone}
use Rattle.cg_trial.proofs.subtraction.take_back_from_last.Goals as goal

pub take_back_each_from_last-requires-clause-live : goal.take_back_each_from_last-requires-clause-live
take_back_each_from_last-requires-clause-live g c = λ p h.
    next_live c.args.search.members (view_of c.args.heap.now) (view_of c.args.heap.now) c.args.object 0 c.requires.ready c.requires.live (same_itself (view_of c.args.heap.now)) p
    (subst (λ (xs : List ℕ). Includes xs p) c.note_near-first.ensures.references h)

pub take_back_behind-requires-clause-long : goal.take_back_behind-requires-clause-long
take_back_behind-requires-clause-long g c = omega (arith, c.if-first-lt-AT_ONCE.false, c.note_near-first.ensures.next, length-take AT_ONCE (entries_of c.args.heap.now c.args.object))

pub take_back_each_from_last-requires-else-first-lt-AT_ONCE-clause-live : goal.take_back_each_from_last-requires-else-first-lt-AT_ONCE-clause-live
take_back_each_from_last-requires-else-first-lt-AT_ONCE-clause-live g c = λ p h.
    live_same (view_of c.args.heap.now) (view_of c.take_back_behind.new.heap) p c.take_back_behind.ensures.woken.same
    (next_live c.args.search.members (view_of c.args.heap.now) (view_of c.args.heap.now) c.args.object 0 c.requires.ready c.requires.live (same_itself (view_of c.args.heap.now)) p
    (subst (λ (xs : List ℕ). Includes xs p) c.note_near-first.ensures.references h))

pub returns-then-first-lt-AT_ONCE-clause-woken : goal.returns-then-first-lt-AT_ONCE-clause-woken
returns-then-first-lt-AT_ONCE-clause-woken g c =
    waking_back-alone c.args.search c.args.object (view_of c.args.heap.now) (view_of c.take_back_each_from_last.new.heap) (omega (arith, c.if-first-lt-AT_ONCE.true, c.note_near-first.ensures.next))
    (subst (λ (xs : List ℕ). Woken c.args.search xs (view_of c.args.heap.now) (view_of c.take_back_each_from_last.new.heap)) c.note_near-first.ensures.references c.take_back_each_from_last.ensures.woken)

pub returns-then-first-lt-AT_ONCE-clause-looks : goal.returns-then-first-lt-AT_ONCE-clause-looks
returns-then-first-lt-AT_ONCE-clause-looks g c = omega (arith, c.note_near-first.ensures.steps, length-take AT_ONCE (entries_of c.args.heap.now c.args.object))

pub returns-else-first-lt-AT_ONCE-clause-woken : goal.returns-else-first-lt-AT_ONCE-clause-woken
returns-else-first-lt-AT_ONCE-clause-woken g c =
    waking_back-first_block c.args.search c.args.object (view_of c.args.heap.now) (view_of c.take_back_behind.new.heap) (view_of c.take_back_each_from_last-else-first-lt-AT_ONCE.new.heap) c.take_back_behind.ensures.woken
    (subst (λ (xs : List ℕ). Woken c.args.search xs (view_of c.take_back_behind.new.heap) (view_of c.take_back_each_from_last-else-first-lt-AT_ONCE.new.heap)) c.note_near-first.ensures.references c.take_back_each_from_last-else-first-lt-AT_ONCE.ensures.woken)

pub returns-else-first-lt-AT_ONCE-clause-looks : goal.returns-else-first-lt-AT_ONCE-clause-looks
returns-else-first-lt-AT_ONCE-clause-looks g c =
    omega (arith, c.note_near-first.ensures.steps, c.take_back_behind.ensures.looks, length-take AT_ONCE (entries_of c.args.heap.now c.args.object))
