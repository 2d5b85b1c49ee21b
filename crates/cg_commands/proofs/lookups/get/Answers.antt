use Rattle.std.proofs.Common.{◌<◌, length, Err}
use Rattle.std.proofs.lemmas.List.Elements.{All-head, All-tail}
use Rattle.cg_commands.proofs.TextLemmas.{all_left}
use Rattle.std.proofs.lemmas.Result.{err_from_is_err_and}
use Rattle.cg_commands.specs.Answers.{gives}
use Rattle.cg_commands.proofs.FirstRefusal.{stops_second, goes_on_two}
use Rattle.cg_commands.proofs.Steps.{with_key}
use Rattle.cg_commands.proofs.lookups.get.Goals as goal

pub two_values-requires-clause-first : goal.two_values-requires-clause-first
two_values-requires-clause-first g c = all_left (λ n. n < length c.args.heap.now.names) _ _ (All-tail (λ n. n < length c.args.heap.now.names) c.args.name _ c.requires.spelled.known)

pub bind_under-requires-clause-name : goal.bind_under-requires-clause-name
bind_under-requires-clause-name g c = All-head (λ n. n < length c.args.heap.now.names) c.args.name _ c.requires.spelled.known

pub returns-in_err-dict : goal.returns-in_err-dict
returns-in_err-dict g c =
    let p = err_from_is_err_and c.from_residual.result c.from_residual.ensures.1 in rw (p.1, p.2) (stops_second _ _ _ _ _ _ c.in_err-dict.ensures.err)

pub returns-in_err-check_key : goal.returns-in_err-check_key
returns-in_err-check_key g c =
    let p = err_from_is_err_and c.from_residual-in_err-check_key.result c.from_residual-in_err-check_key.ensures.1 in rw (p.1, p.2)
    (goes_on_two _ _ _ _ _ _ _ _ (Err c.in_err-check_key.field-0.0) c.in_ok-dict.ensures.first c.in_ok-dict.ensures.second
    (stops_second _ _ _ _ _ _ (λ w s. c.in_err-check_key.ensures.err w s.represents)))

pub returns : goal.returns
returns g c =
    goes_on_two _ _ _ _ _ _ _ _ (gives c.bind_under.result) c.in_ok-dict.ensures.first c.in_ok-dict.ensures.second
    (with_key _ _ _ _ c.in_ok-check_key.ensures.key _ _ (gives c.bind_under.result) c.bind_under.ensures)
