use Rattle.std.proofs.lemmas.Result.{err_from_is_err_and}
use Rattle.cg_machine.specs.Effects.{is_hashable}
use Rattle.cg_machine.specs.Operands.{object}
use Rattle.cg_machine.specs.Refusals.{unhashable, unless}
use Rattle.cg_commands.specs.declared.operands.Wanted.TheVariants as wanted
use Rattle.cg_commands.specs.Refusals.{number_of}
use Rattle.cg_commands.specs.Objects.{test_of, refusal_of}
use Rattle.cg_commands.proofs.FirstRefusal.{declines_then}
use Rattle.cg_commands.proofs.Steps.{no-key}
use Rattle.cg_commands.proofs.keys.check_key.Goals as goal

pub returns-in_err-_dict-clause-err : goal.returns-in_err-_dict-clause-err
returns-in_err-_dict-clause-err g c =
    let p = err_from_is_err_and c.from_residual.result c.from_residual.ensures.1 in rw (p.1, p.2)
    (λ w r. declines_then c.in_err-_dict.field-0.0 (object w (test_of wanted.Dict) (number_of (refusal_of wanted.Dict)) c.args.val)
    (λ x. unless (is_hashable w c.args.key) unhashable) (c.in_err-_dict.ensures.err w r))

pub returns-then-not-is_hashable-clause-err : goal.returns-then-not-is_hashable-clause-err
returns-then-not-is_hashable-clause-err g c =
    no-key c.args.heap.now (test_of wanted.Dict) (number_of (refusal_of wanted.Dict)) c.args.val c.in_ok-_dict._dict c.in_ok-_dict.ensures.ok c.args.key
    c.is_hashable.result c.is_hashable.ensures c.if-not-is_hashable.true
