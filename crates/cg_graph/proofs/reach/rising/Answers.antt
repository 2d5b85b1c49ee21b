use Rattle.std.proofs.Common.{subst, sym, refl, List, ℕ, ◌≡◌, ◌+◌, take, get_or, arith}
use Rattle.std.specs.Prelude.{◌↔◌}
use Rattle.std.specs.Ordering.{nat_cmp}
use Rattle.std.specs.BTreeSet.{insert_key}
use Rattle.cg_graph.specs.Member.{Includes}
use Rattle.std.proofs.lemmas.Result.{IfOk-weaker}
use Rattle.std.proofs.lemmas.Map.Keys.{IsStrictlyIncreasing-from_sorted}
use Rattle.std.specs.List.Sorted.{IsStrictlyIncreasing}
use Rattle.cg_graph.proofs.PlainReach.{one_more, all_in}
use Rattle.cg_graph.proofs.reach.rising.Goals as goal

pub loop-object-preserved : goal.loop-object-preserved
loop-object-preserved c = let put : c.insert.new.self.keys ≡ insert_key nat_cmp c.loop-object.set.keys (get_or c.args.objects.now c.loop-object.object-index 0) = c.in_ok-insert.ensures.keys in
    subst (λ (ks : List ℕ). (p : ℕ) → Includes ks p ↔ Includes (take (c.loop-object.object-index + 1) c.args.objects.now) p) (sym put)
    (one_more c.args.objects.now c.loop-object.set.keys c.loop-object.object-index _ c.loop-object.invariant (omega arith) refl)

pub returns-clause-same : goal.returns-clause-same
returns-clause-same c = IfOk-weaker c.listed.result _ _ (λ list same. all_in _ _ _ _ c.loop-object.invariant (omega arith) same) c.listed.ensures.same

pub returns-clause-rising : goal.returns-clause-rising
returns-clause-rising c = IfOk-weaker c.listed.result _ _ (λ list same. subst IsStrictlyIncreasing (sym same) (IsStrictlyIncreasing-from_sorted _ c.listed.ensures.ordered)) c.listed.ensures.same
