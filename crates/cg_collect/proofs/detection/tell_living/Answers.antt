use Rattle.std.proofs.Common.{refl, inl, subst, sym, ap, ◌∙◌, arith}
use Rattle.cg_value.specs.declared.Place.TheVariants.{Gen, Cand}
use Rattle.cg_graph.specs.Member.{Includes}
use Rattle.cg_graph.specs.Store.{list_at}
use Rattle.cg_trial.proofs.PlacesOfObjects.{where_is}
use Rattle.cg_machine.specs.Collect.{older}
use Rattle.cg_collect.specs.declared.phase.Phase.TheVariants as phase_of
use Rattle.cg_collect.specs.Phases.{from_on}
use Rattle.cg_collect.specs.Ready.{IsAt}
use Rattle.cg_collect.proofs.NothingIsMade.{keeps_all}
use Rattle.cg_collect.proofs.TakingTurns.{at_phase, goes_on, tells}
use Rattle.cg_collect.proofs.StartLines.{from_first, at_first}
use Rattle.cg_collect.proofs.StartLines.{next_from, next_at}
use Rattle.cg_collect.proofs.Detecting.{turn-living, turn-all_living}
use Rattle.cg_collect.proofs.detection.tell_living.Goals as goal

pub next-requires : goal.next-requires
next-requires g c =
    (where_is c.args.heap.now c.sound.ensures.listed (Gen (older c.args.facts.generation)) c.in-Some.object
    (subst (λ n. IsAt n (list_at c.args.heap.now (Gen (older c.args.facts.generation)))) c.in-Some.is c.requires.ready.1)).0

pub returns-in-Some : goal.returns-in-Some
returns-in-Some g c = λ script policy.
    let there = subst (λ n. IsAt n (list_at c.args.heap.now (Gen (older c.args.facts.generation)))) c.in-Some.is c.requires.ready.1 in
    at_phase (ap phase_of.Living c.in-Some.is) (tells c.tells.ensures
    (turn-living script c.args.facts c.args.heap.now policy c.in-Some.object c.next.result (next_from c.args.heap.now c.sound.ensures.listed
    (Gen (older c.args.facts.generation)) c.in-Some.object there c.next.result c.next.ensures))
    (c.requires.ready.0, next_at c.args.heap.now c.sound.ensures.listed (Gen (older c.args.facts.generation)) c.in-Some.object there c.next.result c.next.ensures)
    tt (λ n few. few) (omega arith, refl) (keeps_all c.args.heap.now))

pub returns-in-None : goal.returns-in-None
returns-in-None g c = λ script policy.
    at_phase (ap phase_of.Living c.in-None.is) (goes_on c.to.ensures (turn-all_living script c.args.facts c.args.heap.now policy c.first.result c.first.ensures) (
      c.requires.ready.0,
      subst (λ n. IsAt n (list_at c.args.heap.now Cand)) (sym c.first.ensures) (at_first (list_at c.args.heap.now Cand)),
      λ o m. inl (subst (λ l. Includes l o) (sym (ap (λ n. from_on n (list_at c.args.heap.now Cand)) c.first.ensures ∙ from_first (list_at c.args.heap.now Cand))) m),
    )
    tt (inl (omega arith)) (λ n few. few) (omega arith, refl) (keeps_all c.args.heap.now))
