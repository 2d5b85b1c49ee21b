use Rattle.std.proofs.Common.{sym, subst, ◌∙◌, ap, ℕ}
use Rattle.cg_value.specs.declared.Place.TheVariants.{Gen}
use Rattle.cg_graph.specs.Store.{Store}
use Rattle.cg_heap.specs.Calls.{merged}
use Rattle.cg_collect.specs.Starting.{GetOlder}
use Rattle.cg_collect.proofs.Merging.{gets_older}
use Rattle.cg_collect.proofs.start.get_older.Goals as goal

pub returns-then-generation-lt2 : goal.returns-then-generation-lt2
returns-then-generation-lt2 g c =
    let is = c.merge.ensures ∙ ap (λ (j : ℕ). merged (Gen c.args.generation) (Gen j) c.args.heap.now) c.older.ensures in
    subst (λ (s : Store). GetOlder c.args.generation c.args.heap.now s) (sym is) (gets_older c.args.generation c.args.heap.now)
