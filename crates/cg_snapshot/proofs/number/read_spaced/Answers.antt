use Rattle.std.proofs.Common.{◌≢◌, ℕ, ◌^◌, ◌<◌, List, ◌++◌}
use Rattle.cg_records.proofs.Options.{if_none}
use Rattle.cg_snapshot.specs.Rows.{spaced, IsTail}
use Rattle.cg_snapshot.proofs.Numbers.{not_spaced}
use Rattle.cg_snapshot.proofs.number.read_spaced.Goals as goal

pub returns-in_err-number-clause-none : goal.returns-in_err-number-clause-none
returns-in_err-number-clause-none c =
    let none : (number : ℕ) (rest : List ℕ) → number < 2 ^ 64 → IsTail rest → c.args.bytes.now ≢ spaced number ++ rest =
    λ number rest small tail. not_spaced c.args.bytes.now c.in_ok-behind.behind.now c.cut_word.result.0.now c.cut_word.result.1.now number rest small tail
    c.in_ok-behind.ensures c.cut_word.ensures.whole c.cut_word.ensures.word c.cut_word.ensures.tail c.in_err-number.ensures.none in
    if_none _ _ none
