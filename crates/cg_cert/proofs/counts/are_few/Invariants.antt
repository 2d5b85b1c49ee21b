use Rattle.std.proofs.Common.{◌≡◌, ◌<◌, ◌^◌, take, length}
use Rattle.std.specs.List.{concat}
use Rattle.cg_cert.specs.Positions.{rows_in}
use Rattle.cg_cert.proofs.counts.are_few.Given as goal

abbrev pub invariant-rows : goal.invariant-rows
invariant-rows l = record {
  value : l.total ≡ length (concat (rows_in (take l.row-index l.rows)));
  small : l.total < 2 ^ 64;
}
