use Rattle.std.proofs.Common.{inl, inr, refl, ap, subst, sym, ◌∙◌, arith}
use Rattle.cg_value.specs.declared.Place.TheVariants.{Gen}
use Rattle.cg_graph.specs.Store.{list_at}
use Rattle.cg_trial.proofs.PlacesOfObjects.{where_is}
use Rattle.cg_machine.specs.Collect.{older}
use Rattle.cg_collect.specs.declared.phase.Phase.TheVariants as phase_of
use Rattle.cg_collect.specs.Ready.{IsAt}
use Rattle.cg_collect.proofs.NothingIsMade.{keeps_all}
use Rattle.cg_collect.proofs.StartLines.{next_from, next_at}
use Rattle.cg_collect.proofs.Stopping.{turn-saved_told, turn-not_saved, turn-stopping, around_shorter}
use Rattle.cg_collect.proofs.TakingTurns.{at_phase, goes_on, tells}
use Rattle.cg_collect.proofs.ending.tell_saved.Goals as goal

pub returns-in_default : goal.returns-in_default
returns-in_default g c = λ policy.
    at_phase (ap (λ n. phase_of.Saved n c.args.number) c.in_default.is) (goes_on c.to.ensures (turn-stopping c.args.script.now c.args.facts c.args.heap.now policy c.args.number)
    tt tt (inl (omega arith)) (λ n few. few) (omega arith, refl) (keeps_all c.args.heap.now))

pub next-requires : goal.next-requires
next-requires g c =
    (where_is c.args.heap.now c.sound.ensures.listed (Gen (older c.args.facts.generation)) c.in-Some.object
    (subst (λ n. IsAt n (list_at c.args.heap.now (Gen (older c.args.facts.generation)))) c.in-Some.is c.requires.ready)).0

pub is_saved-requires : goal.is_saved-requires
is_saved-requires g c =
    (where_is c.args.heap.now c.sound.ensures.listed (Gen (older c.args.facts.generation)) c.in-Some.object
    (subst (λ n. IsAt n (list_at c.args.heap.now (Gen (older c.args.facts.generation)))) c.in-Some.is c.requires.ready)).0

pub returns-then-is_saved : goal.returns-then-is_saved
returns-then-is_saved g c = λ policy.
    let there = subst (λ n. IsAt n (list_at c.args.heap.now (Gen (older c.args.facts.generation)))) c.in-Some.is c.requires.ready in
    at_phase (ap (λ n. phase_of.Saved n c.args.number) c.in-Some.is) (tells c.tells.ensures
    (turn-saved_told c.args.script.now c.args.facts c.args.heap.now policy c.in-Some.object c.next.result c.args.number
    (next_from c.args.heap.now c.sound.ensures.listed (Gen (older c.args.facts.generation)) c.in-Some.object there c.next.result c.next.ensures) (sym c.is_saved.ensures ∙ c.if-is_saved.true))
    (next_at c.args.heap.now c.sound.ensures.listed (Gen (older c.args.facts.generation)) c.in-Some.object there c.next.result c.next.ensures)
    tt (λ n few. few) (omega arith, refl) (keeps_all c.args.heap.now))

pub returns-else-is_saved : goal.returns-else-is_saved
returns-else-is_saved g c = λ policy.
    let there = subst (λ n. IsAt n (list_at c.args.heap.now (Gen (older c.args.facts.generation)))) c.in-Some.is c.requires.ready in
    at_phase (ap (λ n. phase_of.Saved n c.args.number) c.in-Some.is) (goes_on c.to-else-is_saved.ensures
    (turn-not_saved c.args.script.now c.args.facts c.args.heap.now policy c.in-Some.object c.next.result c.args.number
    (next_from c.args.heap.now c.sound.ensures.listed (Gen (older c.args.facts.generation)) c.in-Some.object there c.next.result c.next.ensures) (sym c.is_saved.ensures ∙ c.if-is_saved.false))
    (next_at c.args.heap.now c.sound.ensures.listed (Gen (older c.args.facts.generation)) c.in-Some.object there c.next.result c.next.ensures)
    tt (inr (refl, omega (arith, around_shorter c.args.heap.now c.sound.ensures.listed (Gen (older c.args.facts.generation)) c.in-Some.object there c.next.result c.next.ensures)))
    (λ n few. few) (omega arith, refl) (keeps_all c.args.heap.now))
