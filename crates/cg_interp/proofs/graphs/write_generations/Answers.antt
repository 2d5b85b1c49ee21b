use Rattle.std.proofs.Common.{◌+◌, arith}
use Rattle.cg_records.specs.Text.{member_text}
use Rattle.cg_interp.specs.declared.graphs.Detection.TheVariants.{First}
use Rattle.cg_interp.specs.Graphs.{member_in}
use Rattle.cg_interp.proofs.GraphText.{given_err, generations_cut}
use Rattle.cg_interp.proofs.graphs.write_generations.Goals as goal

pub returns-in_err-write_members_at-clause-err : goal.returns-in_err-write_members_at-clause-err
returns-in_err-write_members_at-clause-err g c =
    given_err _ _
    (generations_cut (λ o. member_text (member_in c.args.script.now c.args.heap.now (First c.args.generation) o)) c.args.heap.now (c.args.generation + 1)
    c.generations.i (omega (arith, c.generations-test.true)) _ _ _
    c.generations.invariant.wrote c.in_err-write_members_at.ensures.err)
