use Rattle.std.proofs.Common.{◌≡◌, ◌≢◌}
use Rattle.std.proofs.lemmas.Result.{IfOk-weaker}
use Rattle.cg_snapshot.specs.declared.row.Row.{Row}
use Rattle.cg_snapshot.specs.Rows.{raw_of, IsRow}
use Rattle.cg_snapshot.proofs.MeaningOfLines.{read_found, read_fits, read_none, no_row}
use Rattle.cg_snapshot.proofs.DistinctRows.{if_some, if_none}
use Rattle.cg_snapshot.proofs.line.read_line.Goals as goal

pub returns-in-Some-clause-found : goal.returns-in-Some-clause-found
returns-in-Some-clause-found c =
    let is = if_some _ _ (λ (r : Row). c.args.raw.now ≡ raw_of r) c.in-Some.is c.in_ok-row.ensures.found in
    let fits = if_some _ _ (λ (r : Row). IsRow r) c.in-Some.is c.in_ok-row.ensures.fits in
    IfOk-weaker c.line_of.result _ _ (λ o e. read_found c.args.raw.now c.in-Some.row is fits o e) c.line_of.ensures

pub returns-in-Some-clause-fits : goal.returns-in-Some-clause-fits
returns-in-Some-clause-fits c =
    let is = if_some _ _ (λ (r : Row). c.args.raw.now ≡ raw_of r) c.in-Some.is c.in_ok-row.ensures.found in
    let fits = if_some _ _ (λ (r : Row). IsRow r) c.in-Some.is c.in_ok-row.ensures.fits in
    IfOk-weaker c.line_of.result _ _ (λ o e. read_fits c.args.raw.now c.in-Some.row is fits o e) c.line_of.ensures

pub returns-in-Some-clause-none : goal.returns-in-Some-clause-none
returns-in-Some-clause-none c =
    let is = if_some _ _ (λ (r : Row). c.args.raw.now ≡ raw_of r) c.in-Some.is c.in_ok-row.ensures.found in
    let fits = if_some _ _ (λ (r : Row). IsRow r) c.in-Some.is c.in_ok-row.ensures.fits in
    IfOk-weaker c.line_of.result _ _ (λ o e. read_none c.args.raw.now c.in-Some.row is fits o e) c.line_of.ensures

pub returns-in-None-clause-none : goal.returns-in-None-clause-none
returns-in-None-clause-none c =
    let none : (r : Row) → IsRow r → c.args.raw.now ≢ raw_of r = if_none _ _ c.in-None.is c.in_ok-row.ensures.none in
    no_row c.args.raw.now none
