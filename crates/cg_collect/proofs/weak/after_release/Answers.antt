use Rattle.std.proofs.Common.{◌≡◌, ◌∙◌, ℕ, List, length, ap, refl, inr, arith}
use Rattle.std.specs.Prelude.{◌==◌, not, filter}
use Rattle.cg_value.specs.declared.Place.TheVariants.{Gen, Pend}
use Rattle.cg_graph.specs.Store.{list_at}
use Rattle.cg_graph.specs.Changes.{moved}
use Rattle.cg_machine.specs.Collect.{older}
use Rattle.cg_collect.proofs.NothingIsMade.{keeps_all, keeps-moved}
use Rattle.cg_collect.proofs.Pending.{turn-died, turn-aged, older_place, apart_away, callbacks_away, others_are_all, all_have_callbacks, others_wait, no_more_wait}
use Rattle.cg_collect.proofs.TakingTurns.{in_heap, goes_on}
use Rattle.cg_collect.proofs.weak.after_release.Goals as goal

-- One that lives moves to the older generation.
pub move_to-requires-clause-live : goal.move_to-requires-clause-live
move_to-requires-clause-live g c = c.has.ensures.0 c.if-has.true

pub returns-then-has : goal.returns-then-has
returns-then-has g c = λ script policy.
    let live = c.has.ensures.0 c.if-has.true in
    let place = older_place c.args.facts.generation c.requires.generation in
    let wait = ap (λ (l : List ℕ). length l) (others_wait c.args.heap.now c.args.weak c.sound.ensures.listed live c.args.facts.generation c.requires.generation) in
    in_heap (c.move_to.ensures ∙ ap (λ k. moved c.args.weak (Gen k) c.args.heap.now) c.older.ensures)
    (goes_on c.to.ensures (turn-aged script c.args.facts c.args.heap.now policy c.args.weak c.sound.ensures.listed live c.args.facts.generation c.requires.generation refl) (
      apart_away c.args.heap.now c.sound.ensures.listed c.args.weak live (Gen (older c.args.facts.generation)) place c.requires.ready.2 (λ e. cc) (λ e. cc) (λ e. cc) (λ e. cc) c.requires.ready.0,
      callbacks_away c.args.heap.now c.sound.ensures.listed c.args.weak live (Gen (older c.args.facts.generation)) place (λ e. cc) c.requires.ready.1,
    )
    tt (inr (refl, omega (arith, no_more_wait c.args.heap.now c.args.weak c.sound.ensures.listed live c.args.facts.generation c.requires.generation)))
    (λ n few. omega (arith, few, wait)) (omega arith, refl)
    (keeps-moved c.args.weak (Gen (older c.args.facts.generation)) c.args.heap.now))

-- One that has died is counted.
pub returns-else-has : goal.returns-else-has
returns-else-has g c = λ script policy.
    let all : length (filter (λ q. not (q == c.args.weak)) (list_at c.args.heap.now Pend)) ≡ length (list_at c.args.heap.now Pend) =
    ap (λ (l : List ℕ). length l) (others_are_all c.args.heap.now c.sound.ensures.listed c.args.weak (λ live. absurd (let there = c.has.ensures.1 live in cc))) in
    record {
      steps = turn-died script c.args.facts c.args.heap.now policy c.args.weak c.sound.ensures.listed (λ live. absurd (let there = c.has.ensures.1 live in cc));
      ready = (c.requires.ready.0, all_have_callbacks c.args.heap.now c.sound.ensures.listed c.args.weak (λ live. absurd (let there = c.has.ensures.1 live in cc)) c.requires.ready.1);
      walk = tt;
      falls = λ went. inr (refl, omega arith);
      few = λ n few. omega (arith, few, all);
      gives_up = tt;
      hands_out = tt;
      onward = (omega arith, refl);
      keeps = keeps_all c.args.heap.now;
    }
