use Rattle.std.proofs.Common.{◌<◌, ◌++◌, length, Err}
use Rattle.cg_script.specs.Texts.{operand_texts}
use Rattle.cg_commands.proofs.TextLemmas.{all_left, all_right}
use Rattle.std.proofs.lemmas.Result.{err_from_is_err_and}
use Rattle.cg_commands.specs.Answers.{gives}
use Rattle.cg_commands.proofs.FirstRefusal.{stops, stops_second, goes_on, goes_on_two}
use Rattle.cg_commands.proofs.Steps.{with_key}
use Rattle.cg_commands.proofs.entries.put.Goals as goal

pub two_values-requires-clause-first : goal.two_values-requires-clause-first
two_values-requires-clause-first g c = all_left (λ n. n < length c.args.heap.now.names) _ _ (all_left (λ n. n < length c.args.heap.now.names) _ _ c.requires.spelled.known)

pub two_values-requires-clause-second : goal.two_values-requires-clause-second
two_values-requires-clause-second g c =
    all_right (λ n. n < length c.args.heap.now.names) (operand_texts c.args.dict.now) _ (all_left (λ n. n < length c.args.heap.now.names) _ _ c.requires.spelled.known)

pub value_located-requires-clause-known : goal.value_located-requires-clause-known
value_located-requires-clause-known g c = all_right (λ n. n < length c.args.heap.now.names) (operand_texts c.args.dict.now ++ operand_texts c.args.key.now) _ c.requires.spelled.known

pub returns-in_err-dict : goal.returns-in_err-dict
returns-in_err-dict g c =
    let p = err_from_is_err_and c.from_residual.result c.from_residual.ensures.1 in rw (p.1, p.2) (stops_second _ _ _ _ _ _ c.in_err-dict.ensures.err)

pub returns-in_err-val : goal.returns-in_err-val
returns-in_err-val g c =
    let p = err_from_is_err_and c.from_residual-in_err-val.result c.from_residual-in_err-val.ensures.1 in rw (p.1, p.2)
    (goes_on_two _ _ _ _ _ _ _ _ (Err c.in_err-val.field-0.0) c.in_ok-dict.ensures.first c.in_ok-dict.ensures.second
    (stops _ _ _ _ _ c.in_err-val.ensures.err))

pub returns-in_err-check_key : goal.returns-in_err-check_key
returns-in_err-check_key g c =
    let p = err_from_is_err_and c.from_residual-in_err-check_key.result c.from_residual-in_err-check_key.ensures.1 in rw (p.1, p.2)
    (goes_on_two _ _ _ _ _ _ _ _ (Err c.in_err-check_key.field-0.0) c.in_ok-dict.ensures.first c.in_ok-dict.ensures.second
    (goes_on _ _ _ _ _ _ (Err c.in_err-check_key.field-0.0) c.in_ok-val.ensures.ok
    (stops_second _ _ _ _ _ _ (λ w s. c.in_err-check_key.ensures.err w s.represents))))

pub returns : goal.returns
returns g c =
    goes_on_two _ _ _ _ _ _ _ _ (gives c.put_under.result) c.in_ok-dict.ensures.first c.in_ok-dict.ensures.second
    (goes_on _ _ _ _ _ _ (gives c.put_under.result) c.in_ok-val.ensures.ok
    (with_key _ _ _ _ c.in_ok-check_key.ensures.key _ _ (gives c.put_under.result) (c.put_under.ensures c.args.locals.now)))
