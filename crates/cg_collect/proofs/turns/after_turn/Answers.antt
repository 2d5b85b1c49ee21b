use Rattle.std.proofs.Common.{inr, refl, ap, ◌∙◌, arith}
use Rattle.cg_graph.specs.Changes.{moved}
use Rattle.cg_value.specs.declared.Place.TheVariants.{Gen}
use Rattle.cg_machine.specs.Collect.{older}
use Rattle.cg_collect.proofs.NothingIsMade.{keeps_all, keeps-moved}
use Rattle.cg_collect.proofs.TakingTurns.{in_heap, goes_on}
use Rattle.cg_collect.proofs.ClearingTurns.{turn-older, turn-died, apart_older, others_left, none_but_others}
use Rattle.cg_collect.proofs.turns.after_turn.Goals as goal

-- One that has died has no place.
pub returns-then-not-has : goal.returns-then-not-has
returns-then-not-has g c = λ script policy.
    let store = c.args.heap.now in
    goes_on c.to.ensures (turn-died store c.args.object (λ live. absurd (let there = c.has.ensures.1 live in cc)) script c.args.facts policy) c.requires.ready.0 tt
    (inr (refl, omega (arith, none_but_others store c.sound.ensures.listed c.args.object (λ live. absurd (let there = c.has.ensures.1 live in cc)))))
    (λ n few. few) (omega arith, refl) (keeps_all store)

-- One that lives moves to the older generation.
pub move_to-requires-clause-live : goal.move_to-requires-clause-live
move_to-requires-clause-live g c = c.has.ensures.0 c.if-not-has.false

pub returns : goal.returns
returns g c = λ script policy.
    let store = c.args.heap.now in
    let live = c.has.ensures.0 c.if-not-has.false in
    in_heap (c.move_to.ensures ∙ ap (λ k. moved c.args.object (Gen k) store) c.older.ensures) (goes_on c.to-2.ensures (turn-older store c.args.object script c.args.facts policy)
    (apart_older store c.sound.ensures.listed c.args.object live c.args.facts.generation c.requires.ready.1 c.requires.ready.0) tt
    (inr (refl, omega (arith, others_left store c.sound.ensures.listed c.args.object live c.args.facts.generation))) (λ n few. few) (omega arith, refl)
    (keeps-moved c.args.object (Gen (older c.args.facts.generation)) store))
