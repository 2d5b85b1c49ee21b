use Rattle.std.proofs.Common.{sym, ◌∙◌, inl}
use Rattle.cg_arena.proofs.Guesses.{guess-lost, guess-same, guess-still}
use Rattle.cg_arena.proofs.hints.Hints.forget.Goals as goal

pub returns-then-guess-slot-clause-others : goal.returns-then-guess-slot-clause-others
returns-then-guess-slot-clause-others c = λ q. guess-lost c.args.self.now c.index_of-index.result 0 c.args.slot q (sym (c.in-Some.ensures.item.3.1 0) ∙ c.if-guess-slot.true)

pub returns-else-guess-slot-clause-others : goal.returns-else-guess-slot-clause-others
returns-else-guess-slot-clause-others c = λ q. inl (guess-still c.args.self.now c.index_of-index.result c.in-Some.guess.now q (sym (c.in-Some.ensures.item.3.1 0)) c.in-Some.ensures.item.3.0)

pub returns-then-guess-slot-clause-forgotten : goal.returns-then-guess-slot-clause-forgotten
returns-then-guess-slot-clause-forgotten c = λ is. sym is ∙ guess-same c.args.self.now c.index_of-index.result 0 c.args.serial c.index_of-index.ensures c.in-Some.ensures.item.3.0

pub returns-else-guess-slot-clause-forgotten : goal.returns-else-guess-slot-clause-forgotten
returns-else-guess-slot-clause-forgotten c =
    λ is. absurd (c.if-guess-slot.false (sym (guess-same c.args.self.now c.index_of-index.result c.in-Some.guess.now c.args.serial c.index_of-index.ensures
    c.in-Some.ensures.item.3.0) ∙ is))
