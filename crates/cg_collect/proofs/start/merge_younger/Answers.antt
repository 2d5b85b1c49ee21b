use Rattle.std.proofs.Common.{◌≡◌, sym, ◌∙◌, ap, subst, ℕ, arith}
use Rattle.cg_value.specs.declared.Place.TheVariants.{Gen}
use Rattle.cg_graph.specs.Store.{Store}
use Rattle.cg_heap.specs.Calls.{merged}
use Rattle.cg_collect.specs.Starting.{MergesYounger}
use Rattle.cg_collect.proofs.Merging.{merges_one, merges_two}
use Rattle.cg_collect.proofs.start.merge_younger.Goals as goal

pub returns-in-1 : goal.returns-in-1
returns-in-1 g c =
    subst (λ (n : ℕ). MergesYounger n c.args.heap.now c.merge.new.self) (sym c.in-1.is)
    (subst (λ (s : Store). MergesYounger 1 c.args.heap.now s) (sym c.merge.ensures) (merges_one c.args.heap.now))

pub returns-in_default : goal.returns-in_default
returns-in_default g c =
    let two : c.args.generation ≡ 2 = omega arith in
    let is = c.merge-in_default-2.ensures ∙ ap (λ (s : Store). merged (Gen 1) (Gen 2) s) c.merge-in_default.ensures in
    subst (λ (n : ℕ). MergesYounger n c.args.heap.now c.merge-in_default-2.new.self) (sym two)
    (subst (λ (s : Store). MergesYounger 2 c.args.heap.now s) (sym is) (merges_two c.args.heap.now))
