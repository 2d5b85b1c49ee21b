use Rattle.std.proofs.Common.{refl, inl, ap, subst, ℕ, false, Option, arith}
use Rattle.cg_value.specs.declared.Place.TheVariants.{Cand}
use Rattle.cg_graph.specs.Member.{Includes}
use Rattle.cg_graph.specs.Store.{list_at}
use Rattle.cg_machine.specs.Program.{profile_of}
use Rattle.cg_trial.proofs.PlacesOfObjects.{where_is}
use Rattle.cg_collect.specs.declared.phase.Phase.TheVariants as phase_of
use Rattle.cg_collect.specs.Ready.{IsAt}
use Rattle.cg_collect.proofs.NothingIsMade.{keeps_all}
use Rattle.cg_collect.proofs.TakingTurns.{at_phase, leads_to, goes_on, tells}
use Rattle.cg_collect.proofs.StartLines.{ready_weak, walk_told, next_from, next_at, steps_condemned, steps_told}
use Rattle.cg_collect.proofs.start.tell_condemned.Goals as goal

pub next-requires : goal.next-requires
next-requires g c =
    let here : Includes (list_at c.args.heap.now Cand) c.in-Some.object = subst (λ (n : Option ℕ). IsAt n (list_at c.args.heap.now Cand)) c.in-Some.is c.requires.ready.2 in
    (where_is c.args.heap.now c.sound.ensures.listed Cand c.in-Some.object here).0

pub returns-in-Some : goal.returns-in-Some
returns-in-Some g c = λ script facts policy.
    let here : Includes (list_at c.args.heap.now Cand) c.in-Some.object = subst (λ (n : Option ℕ). IsAt n (list_at c.args.heap.now Cand)) c.in-Some.is c.requires.ready.2 in
    at_phase (ap phase_of.Telling c.in-Some.is)
    (tells c.tells.ensures (steps_condemned script facts c.args.heap.now policy c.in-Some.object c.next.result (next_from c.args.heap.now c.sound.ensures.listed Cand
    c.in-Some.object here c.next.result c.next.ensures))
    (c.requires.ready.0, c.requires.ready.1, next_at c.args.heap.now c.sound.ensures.listed Cand c.in-Some.object here c.next.result c.next.ensures) tt
    (λ n none. none) (omega arith, refl) (keeps_all c.args.heap.now))

pub returns-in-None : goal.returns-in-None
returns-in-None g c = λ script facts policy.
    at_phase (ap phase_of.Telling c.in-None.is) (goes_on (leads_to c.to.ensures c.weak_phase.ensures) (steps_told script facts c.args.heap.now policy)
    (ready_weak c.args.heap.now c.sound.ensures.listed c.requires.ready.0 c.requires.ready.1 facts.generation)
    (walk_told c.args.heap.now c.sound.ensures.listed c.requires.ready.0 c.requires.ready.1 (profile_of script.items) false) (inl (omega arith))
    (λ n none. none) (omega arith, refl) (keeps_all c.args.heap.now))
