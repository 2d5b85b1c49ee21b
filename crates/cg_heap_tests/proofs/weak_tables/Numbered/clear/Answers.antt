use Rattle.std.proofs.Common.{◌<◌}
use Rattle.std.proofs.lemmas.List.Elements.{All-same}
use Rattle.std.specs.Prelude.{if◌then◌else◌}
use Rattle.cg_graph.specs.Rows.{Row, with_row_waiting, without_row}
use Rattle.cg_weak.proofs.CallerLemmas.{each-cleared}
use Rattle.cg_heap_tests.proofs.weak_tables.Numbered.clear.Goals as goal

pub invariant_of-self : goal.invariant_of-self
invariant_of-self c =
    All-same (λ (r : Row). r.weak < c.self.inside.next) c.clear.new.self.rows (if c.args.wait then with_row_waiting c.args.weak c.self.inside.table.rows
    else without_row c.args.weak c.self.inside.table.rows) c.clear.ensures.rows
    (each-cleared (λ (r : Row). r.weak < c.self.inside.next) (λ r lower. lower) c.args.weak c.args.wait c.self.inside.table.rows c.self.invariant)
