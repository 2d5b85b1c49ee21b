use Rattle.std.proofs.Common.{Bor, ℕ, List, ap, ◌∙◌, arith}
use Rattle.std.proofs.lemmas.Bool.Decides.{nat_tests}
use Rattle.cg_script.specs.declared.command.Operand.{Operand}
use Rattle.cg_script.specs.Tables.{named}
use Rattle.cg_script.specs.Words.{atoms}
use Rattle.cg_script.proofs.RowsByLength.{named_like, none_alike}
use Rattle.cg_script.proofs.word.atom_among_like.Goals as goal

pub returns-then-is_empty : goal.returns-then-is_empty
returns-then-is_empty c =
    none_alike (λ (row : Bor (List ℕ) × Operand). (row.0.now, row.1)) c.atoms_like-rows.result.now c.args.word.now (grind (arith, nat_tests, c.if-is_empty.true, c.is_empty.ensures))
    ∙ ap (λ rows. named rows c.args.word.now) c.atoms_like-rows.ensures ∙ named_like c.args.word.now atoms

pub returns : goal.returns
returns c = c.named.ensures ∙ ap (λ rows. named rows c.args.word.now) c.atoms_like-rows.ensures ∙ named_like c.args.word.now atoms
