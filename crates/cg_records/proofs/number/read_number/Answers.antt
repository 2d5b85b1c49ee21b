use Rattle.std.proofs.Common.{◌≢◌, ℕ, ◌^◌, ◌<◌, List, ◌∷◌, ◌++◌, arith}
use Rattle.std.specs.Prelude.{decimal}
use Rattle.cg_records.proofs.Numbers.{ends_at}
use Rattle.cg_records.proofs.Options.{if_none}
use Rattle.cg_records.proofs.number.read_number.Goals as goal

pub returns-then-end-bytes-clause-none : goal.returns-then-end-bytes-clause-none
returns-then-end-bytes-clause-none c = λ n rest small is.
    let at = ends_at c.args.bytes.now c.args.stop c.place_of-end.result n rest c.requires small c.place_of-end.ensures.before c.place_of-end.ensures.found is
    in omega (arith, at.0, c.if-end-bytes.true)

pub returns-in_err-number-clause-none : goal.returns-in_err-number-clause-none
returns-in_err-number-clause-none c =
    let none : (n : ℕ) (rest : List ℕ) → n < 2 ^ 64 → c.args.bytes.now ≢ decimal n ++ c.args.stop ∷ rest = λ n rest small is.
    let at = ends_at c.args.bytes.now c.args.stop c.place_of-end.result n rest c.requires small c.place_of-end.ensures.before c.place_of-end.ensures.found is
    in c.in_err-number.ensures.none n small at.1 in
    if_none _ _ none
