-- Reachability of an object is decidable.
use Rattle.std.proofs.Common.{◌≡◌, sym, ◌∙◌, ℕ, Bool, true, false, inl, inr, ◌⊎◌}
use Rattle.std.specs.Prelude.{◌||◌, nat_lt}
use Rattle.std.proofs.lemmas.Bool.{lt-ltb, ltb-true}
use Rattle.cg_graph.specs.Member.{includes}
use Rattle.cg_graph.specs.Object.{serials}
use Rattle.cg_graph.specs.Holdings.{entry_holdings, graph_of, occurrences}
use Rattle.cg_graph.specs.Reach.{edges}
use Rattle.cg_graph.proofs.Members.{either, cases_of, or_left, or_right, true_or, Includes-of, includes-of}
use Rattle.cg_graph.proofs.Search.{Reach-mono, reached, reached_all, reached_only}
use Rattle.cg_machine.specs.World.{World}
use Rattle.cg_machine.specs.Holdings.{holdings, is_dying}
use Rattle.cg_laws.specs.Laws.{IsRooted}
use Rattle.cg_promises.specs.Reached.{IsReached}

module _ (w : World) where
  rooted : ℕ → Bool
  rooted o = is_dying w o || nat_lt (occurrences o (entry_holdings (graph_of w.objects))) (occurrences o (holdings w))

  rooted_true : (o : ℕ) → IsRooted w o → rooted o ≡ true
  unfolding rooted
  rooted_true o (inl d) = or_left (is_dying w o) (nat_lt (occurrences o (entry_holdings (graph_of w.objects))) (occurrences o (holdings w))) d
  rooted_true o (inr more) = or_right (is_dying w o) (nat_lt (occurrences o (entry_holdings (graph_of w.objects))) (occurrences o (holdings w)))
      (lt-ltb (occurrences o (entry_holdings (graph_of w.objects))) (occurrences o (holdings w)) more)

  true_rooted : (o : ℕ) → rooted o ≡ true → IsRooted w o
  unfolding rooted
  true_rooted o t = either (true_or (is_dying w o) (nat_lt (occurrences o (entry_holdings (graph_of w.objects))) (occurrences o (holdings w))) t) (λ d. inl d)
      (λ k. inr (ltb-true (occurrences o (entry_holdings (graph_of w.objects))) (occurrences o (holdings w)) k))

  pub reached_decided : (o : ℕ) → IsReached w o ⊎ ¬ IsReached w o
  reached_decided o = either (cases_of (includes (reached rooted (serials w.objects) (edges (graph_of w.objects))) o))
      (λ t. inl (Reach-mono true_rooted (λ n i. i) (λ e i. i) (reached_only rooted (serials w.objects) (edges (graph_of w.objects)) o
      (Includes-of (reached rooted (serials w.objects) (edges (graph_of w.objects))) o t))))
      (λ f. inr (λ path. let m = reached_all rooted (serials w.objects) (edges (graph_of w.objects)) o (Reach-mono rooted_true (λ n i. i) (λ e i. i) path)
      in let no : true ≡ false = sym (includes-of (reached rooted (serials w.objects) (edges (graph_of w.objects))) o m) ∙ f in cc))
