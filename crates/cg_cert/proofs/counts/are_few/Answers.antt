use Rattle.std.proofs.Common.{ap, List, ℕ, length, arith, take_all}
use Rattle.std.specs.List.{concat}
use Rattle.std.specs.Global.{Vec}
use Rattle.cg_cert.specs.Positions.{rows_in}
use Rattle.cg_cert.proofs.CountsOfMembers.{rows_next}
use Rattle.cg_cert.proofs.counts.are_few.Goals as goal

pub rows-preserved : goal.rows-preserved
rows-preserved c =
    let next = rows_next c.args.rows.now c.rows.row-index c.row-item.result c.rows-test.true c.row-item.is in
    let more = c.in-Some.ensures in
    record { value = omega (arith, next, more.1, c.len.ensures, c.rows.invariant.value); small = omega (arith, more.0, more.1) }

pub returns : goal.returns
returns c = λ e.
    let all = ap (λ (rs : List (Vec ℕ)). length (concat (rows_in rs))) (take_all c.rows.row-index c.args.rows.now (omega (arith, c.rows-test.false))) in
    omega (arith, all, c.rows.invariant.value, c.rows.invariant.small)
