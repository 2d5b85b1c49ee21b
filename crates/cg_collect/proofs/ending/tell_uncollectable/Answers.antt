use Rattle.std.proofs.Common.{refl, inl, ap, subst, arith}
use Rattle.cg_value.specs.declared.Place.TheVariants.{Gen}
use Rattle.cg_graph.specs.Store.{list_at}
use Rattle.cg_trial.proofs.PlacesOfObjects.{where_is}
use Rattle.cg_machine.specs.Collect.{older}
use Rattle.cg_collect.specs.declared.phase.Phase.TheVariants as phase_of
use Rattle.cg_collect.specs.Ready.{IsAt}
use Rattle.cg_collect.proofs.NothingIsMade.{keeps_all}
use Rattle.cg_collect.proofs.StartLines.{next_from, next_at}
use Rattle.cg_collect.proofs.Stopping.{turn-uncollectable, turn-all_told}
use Rattle.cg_collect.proofs.TakingTurns.{at_phase, goes_on, tells}
use Rattle.cg_collect.proofs.ending.tell_uncollectable.Goals as goal

pub next-requires : goal.next-requires
next-requires g c =
    (where_is c.args.heap.now c.sound.ensures.listed (Gen (older c.args.facts.generation)) c.in-Some.object
    (subst (λ n. IsAt n (list_at c.args.heap.now (Gen (older c.args.facts.generation)))) c.in-Some.is c.requires.ready.1)).0

pub returns-in-Some : goal.returns-in-Some
returns-in-Some g c = λ script policy.
    let there = subst (λ n. IsAt n (list_at c.args.heap.now (Gen (older c.args.facts.generation)))) c.in-Some.is c.requires.ready.1 in
    at_phase (ap (λ n. phase_of.Uncollectable c.args.first n c.args.number) c.in-Some.is) (tells c.tells.ensures
    (turn-uncollectable script c.args.facts c.args.heap.now policy c.args.first c.in-Some.object c.next.result c.args.number
    (next_from c.args.heap.now c.sound.ensures.listed (Gen (older c.args.facts.generation)) c.in-Some.object there c.next.result c.next.ensures))
    (c.requires.ready.0, next_at c.args.heap.now c.sound.ensures.listed (Gen (older c.args.facts.generation)) c.in-Some.object there c.next.result c.next.ensures)
    tt (λ n few. few) (omega arith, refl) (keeps_all c.args.heap.now))

pub returns-in-None : goal.returns-in-None
returns-in-None g c = λ script policy.
    at_phase (ap (λ n. phase_of.Uncollectable c.args.first n c.args.number) c.in-None.is) (goes_on c.to.ensures (turn-all_told script c.args.facts c.args.heap.now policy c.args.first c.args.number)
    c.requires.ready.0 tt (inl (omega arith)) (λ n few. few) (omega arith, refl) (keeps_all c.args.heap.now))
