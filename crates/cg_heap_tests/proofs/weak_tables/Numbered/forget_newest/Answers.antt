use Rattle.std.proofs.Common.{◌<◌, refl, sym, ◌∙◌, subst}
use Rattle.std.specs.Prelude.{IsSome}
use Rattle.std.proofs.lemmas.List.Elements.{All-same}
use Rattle.cg_graph.specs.Rows.{Row, without_row}
use Rattle.cg_weak.proofs.RowLists.{each-without}
use Rattle.cg_weak.proofs.CallerLemmas.{newest_waits}
use Rattle.cg_heap_tests.proofs.weak_tables.Numbered.forget_newest.Goals as goal

pub forget-requires : goal.forget-requires
forget-requires c =
    subst IsSome (sym (newest_waits c.self.inside.table.rows c.referent_of-referent.ensures.rising c.args.referent c.in_ok-weak.weak (sym c.newest_waiting.ensures ∙ c.in_ok-weak.was))) refl

pub invariant_of-self : goal.invariant_of-self
invariant_of-self c =
    All-same (λ (r : Row). r.weak < c.self.inside.next) c.forget.new.self.rows (without_row c.in_ok-weak.weak c.self.inside.table.rows) c.forget.ensures.rows
    (each-without (λ (r : Row). r.weak < c.self.inside.next) c.in_ok-weak.weak c.self.inside.table.rows c.self.invariant)
