use Rattle.cg_machine.proofs.line.push_words.Goals as goal

pub returns-in-GcCollectable-clause-words : goal.returns-in-GcCollectable-clause-words
returns-in-GcCollectable-clause-words c = rw (c.in-GcCollectable.is) c.about-in-GcCollectable.ensures.bytes

pub returns-in-BudgetSpent-clause-words : goal.returns-in-BudgetSpent-clause-words
returns-in-BudgetSpent-clause-words c = rw (c.in-BudgetSpent.is) c.plain-in-BudgetSpent.ensures.bytes
