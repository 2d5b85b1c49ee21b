-- Reachability in a heap equals reachability in its objects and holdings.
use Rattle.std.proofs.Common.{◌≡◌, ℕ, List, sym, subst, arith}
use Rattle.std.specs.Prelude.{◌↔◌}
use Rattle.cg_value.specs.declared.Place.{Place}
use Rattle.cg_graph.specs.Member.{Includes}
use Rattle.cg_graph.specs.Object.{Object, objects_at, serials_at}
use Rattle.cg_graph.specs.Holdings.{graph_of, occurrences}
use Rattle.cg_graph.specs.Reach.{Reach, Unreachable, IsOutsideHeld, edges}
use Rattle.cg_graph.specs.Store.{Store, objects_of, count_of}
use Rattle.cg_graph.specs.Reachable.{IsReachable, IsUnreachable}
use Rattle.cg_graph.proofs.Search.{Reach-mono}

module _ (store : Store) (holdings : List ℕ) (p : Place) (counts : (o : ℕ) → count_of store o ≡ occurrences o holdings) where
  there : (objects : List Object) → objects_of store ≡ objects → (o : ℕ) → IsReachable store p o
      → Reach (IsOutsideHeld holdings (graph_of (objects_at objects p))) (Includes (serials_at objects p)) (edges (graph_of (objects_at objects p))) o
  there objects is o r =
      subst (λ (xs : List Object). Reach (IsOutsideHeld holdings (graph_of (objects_at xs p))) (Includes (serials_at xs p)) (edges (graph_of (objects_at xs p))) o) is
      (Reach-mono (λ q h. let e = counts q in omega (arith, h, e)) (λ q h. h) (λ e h. h) r)

  back : (objects : List Object) → objects_of store ≡ objects → (o : ℕ) → Reach (IsOutsideHeld holdings (graph_of (objects_at objects p)))
      (Includes (serials_at objects p)) (edges (graph_of (objects_at objects p))) o → IsReachable store p o
  back objects is o r =
      Reach-mono (λ q h. let e = counts q in omega (arith, h, e)) (λ q h. h) (λ e h. h)
      (subst (λ (xs : List Object). Reach (IsOutsideHeld holdings (graph_of (objects_at xs p))) (Includes (serials_at xs p)) (edges (graph_of (objects_at xs p))) o) (sym is) r)

  -- if these are the objects, and each count is the number of occurrences in the holdings
  pub reachable_alike : (objects : List Object) → objects_of store ≡ objects → (o : ℕ) → IsReachable store p o ↔ Reach
      (IsOutsideHeld holdings (graph_of (objects_at objects p))) (Includes (serials_at objects p)) (edges (graph_of (objects_at objects p))) o
  reachable_alike objects is o = (there objects is o, back objects is o)

  pub unreachable_alike : (objects : List Object) → objects_of store ≡ objects → (o : ℕ)
      → IsUnreachable store p o ↔ Unreachable (IsOutsideHeld holdings (graph_of (objects_at objects p))) (Includes (serials_at objects p)) (edges (graph_of (objects_at objects p))) o
  unreachable_alike objects is o = (
    λ u. record { member = subst (λ (xs : List Object). Includes (serials_at xs p) o) is u.member; no_path = λ r. u.no_path (back objects is o r) },
    λ u. record { member = subst (λ (xs : List Object). Includes (serials_at xs p) o) (sym is) u.member; no_path = λ r. u.no_path (there objects is o r) },
  )
