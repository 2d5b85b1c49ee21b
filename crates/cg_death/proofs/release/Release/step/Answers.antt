use Rattle.std.proofs.Common.{◌≡◌, ℕ, List, Option, Some, sym, ◌∙◌, ap, subst, ◌∷◌, ◌++◌, drop, option_to_list}
use Rattle.cg_death.specs.declared.answer.DeathStep.TheVariants as answer_of
use Rattle.cg_death.specs.Activities.{references_left}
use Rattle.cg_death.specs.Answers.{ReleaseSteps, once_released, release_answer}
use Rattle.cg_death.proofs.Releases.{gives_up, pops}
use Rattle.cg_death.proofs.release.Release.step.Goals as goal

first_taken : {left after : List ℕ} {r : Option ℕ} {o : ℕ} → left ≡ option_to_list r ++ after → r ≡ Some o → left ≡ o ∷ after
first_taken {after = after} taken is = taken ∙ ap (λ r. option_to_list r ++ after) is

pub returns-in-Some-clause-left : goal.returns-in-Some-clause-left
returns-in-Some-clause-left g c = sym (ap (drop 1) (first_taken c.take_first.ensures.taken c.in-Some.is))

pub returns-in-Some-clause-rest : goal.returns-in-Some-clause-rest
returns-in-Some-clause-rest g c =
    c.give_up.ensures.rest
    ∙ sym (ap (λ left. once_released left c.args.heap.now) (first_taken c.take_first.ensures.taken c.in-Some.is))

pub returns-in-Some-clause-answer : goal.returns-in-Some-clause-answer
returns-in-Some-clause-answer g c =
    c.give_up.ensures.answer
    ∙ sym (ap (λ left. release_answer left c.give_up.new.heap) (first_taken c.take_first.ensures.taken c.in-Some.is))

pub returns-in-Some-clause-steps : goal.returns-in-Some-clause-steps
returns-in-Some-clause-steps g c =
    subst (λ left. ReleaseSteps c.args.heap.now left c.give_up.new.heap (references_left c.take_first.new.self) c.give_up.result)
    (sym (first_taken c.take_first.ensures.taken c.in-Some.is))
    (subst (λ a. ReleaseSteps c.args.heap.now (c.in-Some.object ∷ references_left c.take_first.new.self) c.give_up.new.heap (references_left c.take_first.new.self) a) (sym c.give_up.ensures.answer)
    (gives_up c.args.heap.now c.give_up.new.heap c.in-Some.object (references_left c.take_first.new.self) c.give_up.ensures.rest))

pub returns-in-None-clause-left : goal.returns-in-None-clause-left
returns-in-None-clause-left g c = c.in-None.ensures.none ∙ sym (ap (drop 1) (c.in-None.ensures.taken ∙ c.in-None.ensures.none))

pub returns-in-None-clause-rest : goal.returns-in-None-clause-rest
returns-in-None-clause-rest g c = sym (ap (λ left. once_released left c.args.heap.now) (c.in-None.ensures.taken ∙ c.in-None.ensures.none))

pub returns-in-None-clause-answer : goal.returns-in-None-clause-answer
returns-in-None-clause-answer g c = sym (ap (λ left. release_answer left c.args.heap.now) (c.in-None.ensures.taken ∙ c.in-None.ensures.none))

pub returns-in-None-clause-steps : goal.returns-in-None-clause-steps
returns-in-None-clause-steps g c =
    subst (λ left. ReleaseSteps c.args.heap.now left c.args.heap.now (references_left c.take_first.new.self) answer_of.Gone) (sym c.in-None.ensures.taken)
    (subst (λ left. ReleaseSteps c.args.heap.now left c.args.heap.now left answer_of.Gone) (sym c.in-None.ensures.none) (pops c.args.heap.now))
