use Rattle.std.proofs.Common.{◌∙◌, ap, ◌++◌, ◌∷◌, []}
use Rattle.std.proofs.lemmas.Result.{err_from_is_err_and}
use Rattle.cg_graph.specs.Value.{item}
use Rattle.cg_commands.proofs.PartLemmas.{callback-function, callback-refused}
use Rattle.cg_commands.proofs.parts.callback_parts.Goals as goal

pub returns-in_err-_function-in_default : goal.returns-in_err-_function-in_default
returns-in_err-_function-in_default g c =
    let p = err_from_is_err_and c.from_residual.result c.from_residual.ensures.1 in rw (p.1, p.2)
    (record {
      ok = tt;
      err = callback-refused _ _ _ _ c.in_err-_function-in_default.ensures.err c.in_default.not-None;
    })

pub returns-in_ok-_function-in_default : goal.returns-in_ok-_function-in_default
returns-in_ok-_function-in_default g c = record {
  ok = callback-function _ _ _ _ c.in_ok-_function-in_default.ensures.ok c.in_default.not-None c.requires _ (c.push.ensures ∙ ap (λ ps. ps ++ item c.args.callback ∷ []) c.new-parts.ensures);
  err = tt;
}
