-- Shortest paths of one or two members, and the case without a path.
use Rattle.std.proofs.Common.{◌≡◌, refl, subst, ℕ, ◌≤◌, true, false, List, [], ◌∷◌, length, Some, arith}
use Rattle.std.specs.Prelude.{slice_get}
use Rattle.cg_graph.specs.Member.{includes}
use Rattle.cg_graph.proofs.Members.{either, Includes-of}
use Rattle.cg_search.specs.Places.{is_marked}
use Rattle.cg_search.proofs.Edges.{edge_in, marks_of_is, is_of_marks}
use Rattle.cg_snapshot.specs.declared.heap.Member.{Member}
use Rattle.cg_ask.specs.Asked.{rows_of, IsHeld, IsOther, IsWay, IsShortest, HasNone}
use Rattle.cg_ask.proofs.HolderPaths.{ways_are_reach}
use Rattle.cg_heap_rows.proofs.Tables.{clash}
use Rattle.cg_heap_rows.proofs.Sets.{held, held_just, others, others_just, reached_without, reached_without_just, ReachesAllWithout}

module _ (ms : List Member) (without : List ℕ) where
  is_held : (o : ℕ) → is_marked (held ms) o ≡ true → IsHeld ms o
  is_held o e = ((held_just ms).just o).0 (marks_of_is (held ms) o e)

  is_other : (o : ℕ) → is_marked (others ms without) o ≡ true → IsOther ms without o
  is_other o e = ((others_just ms without).just o).0 (marks_of_is (others ms without) o e)

  -- a member held from outside
  pub by_one : (o : ℕ) → is_marked (held ms) o ≡ true → is_marked (others ms without) o ≡ true → IsShortest ms without (o ∷ []) o
  by_one o h i = record {
    is_way = record { leads = (is_held o h, refl); others = λ x m. either m (λ e. subst (λ y. IsOther ms without y) e (is_other o i)) (λ f. absurd f) };
    shortest = longer;
  }
    where
      longer : (path : List ℕ) → IsWay ms without path o → 1 ≤ length path
      longer [] w = absurd w.leads
      longer (x ∷ path) w = omega arith

  -- a member that is not, through one that is
  pub by_two : (o p : ℕ) (row : List ℕ) → is_marked (held ms) o ≡ true → is_marked (held ms) p ≡ false → is_marked (others ms without) o ≡ true
      → is_marked (others ms without) p ≡ true → slice_get (rows_of ms) o ≡ Some row → includes row p ≡ true
      → IsShortest ms without (o ∷ p ∷ []) p
  by_two o p row h free i j at refers = record {
    is_way = record {
      leads = (is_held o h, (edge_in (rows_of ms) o row p at (Includes-of row p refers), refl));
      others = λ x m. either m (λ e. subst (λ y. IsOther ms without y) e (is_other o i)) (λ k. either k (λ e. subst (λ y. IsOther ms without y) e (is_other p j)) (λ f. absurd f));
    };
    shortest = longer;
  }
    where
      longer : (path : List ℕ) → IsWay ms without path p → 2 ≤ length path
      longer [] w = absurd w.leads
      longer (x ∷ []) w = absurd (clash (is_of_marks (held ms) p (((held_just ms).just p).1 (subst (λ y. IsHeld ms y) w.leads.1 w.leads.0))) free)
      longer (x ∷ y ∷ path) w = omega arith

  -- a member that the search does not find
  pub by_no_path : (o : ℕ) → ReachesAllWithout ms without → is_marked (reached_without ms without) o ≡ false → HasNone ms without o
  by_no_path o settled missed path w = clash (is_of_marks (reached_without ms without) o (((reached_without_just ms without settled).just o).1 ((ways_are_reach ms without o).1 (path, w)))) missed
