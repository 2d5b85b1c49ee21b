use Rattle.std.proofs.Common.{◌≡◌, ℕ, Some, ap, ◌∙◌, subst}
use Rattle.std.specs.Prelude.{◌==◌, if◌then◌else◌}
use Rattle.cg_arena.specs.Table.{row_of}
use Rattle.cg_arena.specs.Index.{guess_at}
use Rattle.cg_arena.proofs.Indexes.{displaced_found}
use Rattle.cg_arena.proofs.index.SlotIndex.note.Goals as goal

pub returns-in-Some-clause-others : goal.returns-in-Some-clause-others
returns-in-Some-clause-others c = λ k q is differs leads.
    displaced_found c.args.slots.now c.args.self.now c.add_row-in-Some.new.self c.requires.named c.args.serial c.in-Some.other c.in-Some.ensures.some
    (λ j apart. ap (λ h. guess_at h j) c.add_row-in-Some.ensures.hints ∙ c.if-not-tell.ensures.others j apart)
    (subst (λ g. (j : ℕ) → row_of c.add_row-in-Some.new.self.rows.entries j ≡ (if c.in-Some.other == j then Some g else row_of c.args.self.now.rows.entries j))
    c.guess-guess.ensures c.add_row-in-Some.ensures.rows)
    k q is leads
