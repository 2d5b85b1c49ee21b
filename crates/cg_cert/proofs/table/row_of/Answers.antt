use Rattle.std.proofs.Common.{sym, subst, List, ℕ, take, ◌+◌}
use Rattle.cg_cert.specs.Judged.{serials_of}
use Rattle.cg_cert.specs.Positions.{IsRowOf}
use Rattle.cg_cert.proofs.NamesAndPositions.{no_name, row_more}
use Rattle.cg_search.proofs.Places.{includes_next}
use Rattle.cg_cert.proofs.table.row_of.Goals as goal

pub returns-in-None-clause-none : goal.returns-in-None-clause-none
returns-in-None-clause-none c = λ named.
    no_name (serials_of c.args.members.now) _ _ c.position_near.ensures c.in-None.is (named _ (includes_next c.args.serials.now c.serials.serial-index 0 c.serials-test.true))

pub serials-preserved : goal.serials-preserved
serials-preserved c =
    subst (λ (xs : List ℕ). IsRowOf (serials_of c.args.members.now) (take (c.serials.serial-index + 1) c.args.serials.now) xs) (sym c.in_ok-push-in-Some.ensures.items)
    (row_more (serials_of c.args.members.now) c.args.serials.now c.serials.row.items c.serials.serial-index c.in-Some.found 0 c.serials-test.true
    ((c.position_near.ensures _).0 c.in-Some.is) c.serials.invariant)
