-- No count overflows.
use Rattle.std.proofs.Common.{◌≡◌, ℕ, ◌+◌, ◌*◌, ◌<◌, ◌≤◌, List, [], ◌∷◌, length, Option, Some, None, IsSome, refl, ap, inl, inr, arith, sum_by}
use Rattle.std.specs.Prelude.{◌==◌}
use Rattle.std.proofs.lemmas.Bool.{cases_eq, eq-eqb, ne_eqb}
use Rattle.std.proofs.lemmas.List.Sums.{sum_by-cons}
use Rattle.std.specs.Ordering.{nat_cmp}
use Rattle.std.specs.FinMap as fin
use Rattle.cg_kind.specs.Bodies.{Bodies}
use Rattle.cg_graph.specs.Maps.{total, part}
use Rattle.cg_graph.specs.Holdings.{occurrences, name_holdings}
use Rattle.cg_graph.specs.Value.{references}
use Rattle.cg_graph.specs.Store.{Store, Node, held_within, held_by, inner, outside_of, outside_in, IsLive}
use Rattle.cg_graph.proofs.Maps.{total-remove}
use Rattle.cg_arena.specs.Nodes.{ArenaNode, count_in}
use Rattle.cg_heap.specs.declared.heap.objects.Objects.{Objects}
use Rattle.cg_heap.proofs.ReferenceLemmas.{names-le, occurrences-le, occurrences-one, one_if, references-le}
use Rattle.cg_heap.specs.Keeps.{HeapKeeps, Alike, size, RowsAndHolds}

sum-le : (s : ℕ) (es : List (ℕ × Node)) → sum_by (λ e. held_by s e.1) es ≤ 2 * sum_by (λ e. size e.1) es
sum-le s [] = omega arith
sum-le s (e ∷ es) =
    omega (
      arith,
      sum_by-cons {X = ℕ × Node} (λ e. held_by s e.1) e es,
      sum_by-cons {X = ℕ × Node} (λ e. size e.1) e es,
      occurrences-le s (references e.1.entries),
      references-le e.1.entries,
      sum-le s es,
    )

pub outside-le : (store : Store) (s : ℕ) → outside_of store s ≤ total (λ n. n.outside) store.nodes
outside-le store s = at (fin.get store.nodes s) (total-remove (λ (n : Node). n.outside) store.nodes s)
  where
    at : (x : Option Node) → total (λ n. n.outside) (fin.remove store.nodes s) + part (λ n. n.outside) x ≡ total (λ n. n.outside) store.nodes → outside_in x ≤ total (λ n. n.outside) store.nodes
    at None e = omega arith
    at (Some n) e = omega (arith, e)

pub inner-le : (store : Store) (s : ℕ) → inner store s ≤ length store.names + 1 + 2 * total size store.nodes
unfolding held_within
inner-le store s = omega (arith, occurrences-le s (name_holdings store.names), names-le store.names, occurrences-le s (1 ∷ []), sum-le s (fin.entries store.nodes))

pub room-below : (all : List Bodies) (nodes : fin.FinMap nat_cmp ArenaNode) (objects : Objects) (number : ℕ) (store : Store) → HeapKeeps all nodes objects number store
    → RowsAndHolds store → (s : ℕ) → count_in (fin.get nodes s) < 4000000000
room-below all nodes objects number store ok rest s =
    omega (arith, ok.counted s, inner-le store s, outside-le store s, ok.sized, ok.entry_limit, ok.garbage, ok.names, rest.holds)

-- the nodes and the store agree on liveness
pub live-node : (all : List Bodies) (nodes : fin.FinMap nat_cmp ArenaNode) (objects : Objects) (number : ℕ) (store : Store) → HeapKeeps all nodes objects number store
    → (s : ℕ) → IsLive store s → IsSome (fin.get nodes s)
live-node all nodes objects number store ok s live = known (fin.get nodes s) (fin.get store.nodes s) (ok.shape.alike s) live
  where
    known : (a : Option ArenaNode) (x : Option Node) → Alike all a x → IsSome x → IsSome a
    known None None h l = l
    known None (Some x) h l = absurd h
    known (Some n) x h l = refl

pub one-enough : (store : Store) (o : ℕ) → 0 < outside_of store o → (s : ℕ) → occurrences s (o ∷ []) ≤ outside_of store s
one-enough store o has s =
    elim (cases_eq o s) [
      | inl same ↦
          let is : one_if (o == s) ≡ 1 = ap one_if (eq-eqb o s same) in
          let there : outside_of store o ≡ outside_of store s = ap (outside_of store) same in
          omega (arith, is, there, has, occurrences-one s o)
      | inr differs ↦
          let is : one_if (o == s) ≡ 0 = ap one_if (ne_eqb o s differs) in
          omega (arith, is, occurrences-one s o)
    ]

pub counted-has : (all : List Bodies) (nodes : fin.FinMap nat_cmp ArenaNode) (objects : Objects) (number : ℕ) (store : Store) → HeapKeeps all nodes objects number store
    → (s : ℕ) → 0 < outside_of store s → 0 < count_in (fin.get nodes s)
counted-has all nodes objects number store ok s has = omega (arith, ok.counted s, has)
