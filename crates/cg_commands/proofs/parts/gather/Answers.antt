use Rattle.std.proofs.Common.{sym, ◌∙◌, ap, subst, ◌<◌, ◌++◌, [], ◌∷◌, take, get_or, length}
use Rattle.std.proofs.lemmas.List.{take_more, drop_more, take-append-drop}
use Rattle.std.proofs.lemmas.Result.{err_from_is_err_and}
use Rattle.cg_script.specs.Texts.{operand_texts}
use Rattle.cg_script.specs.declared.command.Operand.TheVariants as operand
use Rattle.cg_commands.specs.Parts.{Gathers}
use Rattle.cg_commands.proofs.PartLemmas.{gathers-more, gathers-stop}
use Rattle.cg_commands.proofs.TextLemmas.{all_at}
use Rattle.cg_commands.proofs.parts.gather.Goals as goal

pub value-requires-clause-known : goal.value-requires-clause-known
value-requires-clause-known g c = all_at (λ n. n < length c.args.heap.now.names) operand_texts _ _ operand.None c.loop-operand-test.true c.requires.known

pub returns-in_err-val-clause-err : goal.returns-in_err-val-clause-err
returns-in_err-val-clause-err g c =
    let p = err_from_is_err_and c.from_residual.result c.from_residual.ensures.1 in rw (p.1, p.2)
    (gathers-stop _ _ _ _ c.loop-operand.invariant _ _ _ (sym (take-append-drop c.loop-operand.operand-index c.args.operands.now)
    ∙ ap (λ l. take c.loop-operand.operand-index c.args.operands.now ++ l) (drop_more c.args.operands.now c.loop-operand.operand-index operand.None c.loop-operand-test.true)) _
    c.in_err-val.ensures.err)

pub loop-operand-preserved : goal.loop-operand-preserved
loop-operand-preserved g c =
    subst (λ ops. Gathers c.args.heap.now c.args.locals.now ops c.push.new.self) (sym (take_more c.args.operands.now c.loop-operand.operand-index operand.None c.loop-operand-test.true))
    (subst (λ ps. Gathers c.args.heap.now c.args.locals.now (take c.loop-operand.operand-index c.args.operands.now ++ get_or c.args.operands.now
    c.loop-operand.operand-index operand.None ∷ []) ps) (sym c.push.ensures)
    (gathers-more _ _ _ _ c.loop-operand.invariant _ _ c.in_ok-val.ensures.ok c.in_ok-val.ensures.live))
