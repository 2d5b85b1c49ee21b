-- An unheld object stays unheld after a change of a heap that adds no hold of it.
use Rattle.std.proofs.Common.{◌≡◌, refl, ap, ℕ, ◌+◌, ◌≤◌, List, [], ◌∷◌, Option, Some, None, IsSome, Bool, true, false, arith}
use Rattle.std.specs.Prelude.{◌==◌, if◌then◌else◌}
use Rattle.std.specs.FinMap as fin
use Rattle.cg_value.specs.declared.Entry.{Entry}
use Rattle.cg_value.specs.declared.Place.{Place}
use Rattle.cg_graph.specs.Maps.{mapped}
use Rattle.cg_graph.specs.Value.{references}
use Rattle.cg_graph.specs.Holdings.{occurrences, name_holdings}
use Rattle.cg_graph.specs.Store.{Store, Node, inner, held_within, held_by, count_of, IsLive, entries_of, entries_in}
use Rattle.cg_graph.specs.Changes.{held, more, unheld, less, moved, with_place, rewritten, with_entries}
use Rattle.cg_graph.proofs.Maps.{total-mapped, total-changed}
use Rattle.cg_heap.proofs.HoldLemmas.{entries_hold, outside-held, outside-unheld, outside-moved, outside-rewritten}
use Rattle.cg_heap.proofs.CallerLemmas.{lives_on, kinds-held, kinds-unheld, kinds-moved, kinds-rewritten}
use Rattle.cg_death.specs.Activities.{IsUnheld}

-- what entries hold, where the entries stay
inner-mapped : (store : Store) (g : ℕ → Node → Node) → ((s : ℕ) (n : Node) → (g s n).entries ≡ n.entries) → (o : ℕ) → held_within store.names (mapped g store.nodes) o ≡ inner store o
unfolding held_within
inner-mapped store g same o =
    ap (λ k. occurrences o (name_holdings store.names) + occurrences o (1 ∷ []) + k)
    (total-mapped g (held_by o) (held_by o) store.nodes (λ s n. ap (λ es. occurrences o (references es)) (same s n)))

inner-held : (refs : List ℕ) (store : Store) (o : ℕ) → inner (held refs store) o ≡ inner store o
inner-held refs store o = inner-mapped store (λ s n. more (occurrences s refs) n) (λ s n. refl) o

inner-unheld : (refs : List ℕ) (store : Store) (o : ℕ) → inner (unheld refs store) o ≡ inner store o
inner-unheld refs store o = inner-mapped store (λ s n. less (occurrences s refs) n) (λ s n. refl) o

inner-placed : (o : ℕ) (p : Place) (store : Store) (q : ℕ) → inner (moved o p store) q ≡ inner store q
inner-placed o p store q = inner-mapped store (λ s n. if s == o then with_place p n else n) (λ s n. known (s == o) n) q
  where
    known : (b : Bool) (n : Node) → (if b then with_place p n else n).entries ≡ n.entries
    known true n = refl
    known false n = refl

-- entries that hold it no more often
inner-lower : (store : Store) (o : ℕ) (es : List Entry) (s : ℕ) → IsLive store o → occurrences s (references es) ≤ occurrences s
    (references (entries_of store o)) → inner (rewritten o es store) s ≤ inner store s
unfolding held_within
inner-lower store o es s live fewer = known (fin.get store.nodes o) refl live
  where
    in_all : (a b c d : ℕ) → a + b ≡ c + d → d ≤ b → a ≤ c
    in_all a b c d e l = omega arith

    known : (x : Option Node) → fin.get store.nodes o ≡ x → IsSome x → inner (rewritten o es store) s ≤ inner store s
    known None at h = cc
    known (Some x) at h =
        let was : occurrences s (references (entries_of store o)) ≡ occurrences s (references x.entries) = ap (λ y. occurrences s (references (entries_in y))) at in
        let balance = total-changed (held_by s) (with_entries es) store.nodes o x at in
        omega (arith, was, balance, fewer)

module _ (store : Store) (o : ℕ) (u : IsUnheld store o) where
  pub unheld-unheld : (refs : List ℕ) → IsUnheld (unheld refs store) o
  unheld-unheld refs = record {
    live = lives_on store (unheld refs store) (kinds-unheld refs store) o u.live;
    none = omega (arith, inner-unheld refs store o, outside-unheld refs store o, u.none);
  }

  pub unheld-held : (refs : List ℕ) → occurrences o refs ≡ 0 → IsUnheld (held refs store) o
  unheld-held refs nothing = record {
    live = lives_on store (held refs store) (kinds-held refs store) o u.live;
    none = omega (arith, inner-held refs store o, outside-held refs store o (λ h. u.live), nothing, u.none);
  }

  pub unheld-rewritten : (weak : ℕ) (es : List Entry) → IsLive store weak → occurrences o (references es) ≤ occurrences o (references (entries_of store weak)) → IsUnheld (rewritten weak es store) o
  unheld-rewritten weak es live fewer = record {
    live = lives_on store (rewritten weak es store) (kinds-rewritten weak es store) o u.live;
    none = omega (arith, inner-lower store weak es o live fewer, outside-rewritten weak es store o, u.none);
  }

  pub held_by_none : (weak : ℕ) → occurrences o (references (entries_of store weak)) ≡ 0
  held_by_none weak = omega (arith, entries_hold store weak o, u.none)

-- one that lost its last hold, and moved
pub unheld-moved : (store : Store) (o : ℕ) (p : Place) → IsLive store o → count_of store o ≡ 0 → IsUnheld (moved o p store) o
unheld-moved store o p live nothing = record {
  live = lives_on store (moved o p store) (kinds-moved o p store) o live;
  none = omega (arith, inner-placed o p store o, outside-moved o p store o, nothing);
}
