use Rattle.std.proofs.Common.{◌∙◌, ap, subst}
use Rattle.cg_death.specs.Activities.{references_left}
use Rattle.cg_collect.specs.Collections.{once_given_up, give_up_answer}
use Rattle.cg_collect.proofs.GivingUp.{goes_on_with}
use Rattle.cg_collect.proofs.collection.Collection.give_up.Goals as goal

pub returns-in_default : goal.returns-in_default
returns-in_default g c =
    let went = goes_on_with c.args.self.now c.step-answer.new.self c.step-answer.result c.in_default.not-Died c.in_default.not-Gone in
    record {
      none = tt;
      some = record {
        before = c.in-Some.release;
        had = c.in-Some.is;
        after = c.step-answer.new.self;
        rest = c.step-answer.ensures.left;
        heap = c.step-answer.ensures.rest;
        collection = went.0 ∙ ap (once_given_up c.args.self.now c.step-answer.new.self) c.step-answer.ensures.answer;
        told = went.1 ∙ ap give_up_answer c.step-answer.ensures.answer;
        steps = subst (λ a. Rattle.cg_death.specs.Answers.ReleaseSteps c.args.heap.now (references_left c.in-Some.release) c.step-answer.new.heap
            (references_left c.step-answer.new.self) a) c.step-answer.ensures.answer c.step-answer.ensures.steps;
        unheld = tt;
      };
    }
