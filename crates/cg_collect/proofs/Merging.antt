-- A generation is merged into another.
use Rattle.std.proofs.Common.{◌≡◌, ◌≢◌, refl, sym, ◌∙◌, ap, subst, ℕ, ◌+◌, ◌<◌, inl, inr, Bool, true, false, Option, Some, None, arith}
use Rattle.std.specs.Prelude.{◌==◌, if◌then◌else◌, option_map, nat_le}
use Rattle.std.specs.FinMap as fin
use Rattle.std.proofs.lemmas.Bool.{cases_eq, eq-eqb, ne_eqb}
use Rattle.std.proofs.lemmas.Bool.Decides.{nat_tests}
use Rattle.cg_value.specs.declared.Place.{Place}
use Rattle.cg_value.specs.declared.Place.TheVariants.{Untracked, Gen, Frozen, Cand, Seen, Back, Legacy, Pend}
use Rattle.cg_graph.specs.Places.{place_number}
use Rattle.cg_graph.specs.Store.{Store, Node, place_of, place_in}
use Rattle.cg_graph.specs.Changes.{with_place}
use Rattle.cg_graph.proofs.Maps.{get-mapped}
use Rattle.cg_machine.specs.Collect.{merged_place, older}
use Rattle.cg_heap.specs.Calls.{merged, place_merged}
use Rattle.cg_trial.specs.Split.{IsSameButPlaces, IsSameNode}
use Rattle.cg_collect.specs.Starting.{MergesYounger, GetOlder}
use Rattle.cg_collect.proofs.PlacesOfObjects.{same_more}

-- where an object is after a generation moved to another
abbrev went_to : ℕ → ℕ → Place → Place
went_to i j (Gen k) = if k == i then Gen j else Gen k
went_to i j p = p

other_number : (i c : ℕ) (j : ℕ) (p : Place) → c < 7 → (if c == 7 + i then Gen j else p) ≡ p
other_number i c j p below = ap (λ b. if b then Gen j else p) (ne_eqb c (7 + i) (λ e. absurd (omega (arith, e, below))))

went-numbered : (i j : ℕ) (p : Place) → (if place_number p == 7 + i then Gen j else p) ≡ went_to i j p
went-numbered i j (Gen k) = elim (cases_eq k i) [
  | inl same ↦ ap (λ b. if b then Gen j else Gen k) (eq-eqb (7 + k) (7 + i) (ap (λ n. 7 + n) same) ∙ sym (eq-eqb k i same))
  | inr differs ↦ ap (λ b. if b then Gen j else Gen k) (ne_eqb (7 + k) (7 + i) (λ e. differs (omega (arith, e))) ∙ sym (ne_eqb k i differs))
]
went-numbered i j Untracked = other_number i 0 j Untracked (omega arith)
went-numbered i j Frozen = other_number i 1 j Frozen (omega arith)
went-numbered i j Cand = other_number i 2 j Cand (omega arith)
went-numbered i j Seen = other_number i 3 j Seen (omega arith)
went-numbered i j Back = other_number i 4 j Back (omega arith)
went-numbered i j Legacy = other_number i 5 j Legacy (omega arith)
went-numbered i j Pend = other_number i 6 j Pend (omega arith)

module _ (i j : ℕ) (store : Store) where
  place_merged-is : (n : Node) → (place_merged (Gen i) (Gen j) n).place ≡ went_to i j n.place
  place_merged-is n = go (place_number n.place == 7 + i) ∙ went-numbered i j n.place
    where
      go : (b : Bool) → (if b then with_place (Gen j) n else n).place ≡ (if b then Gen j else n.place)
      go true = refl
      go false = refl

  pub place-merged : (s : ℕ) → place_of (merged (Gen i) (Gen j) store) s ≡ went_to i j (place_of store s)
  place-merged s = ap place_in (get-mapped (λ s n. place_merged (Gen i) (Gen j) n) store.nodes s) ∙ known (fin.get store.nodes s)
    where
      known : (x : Option Node) → place_in (option_map (place_merged (Gen i) (Gen j)) x) ≡ went_to i j (place_in x)
      known None = refl
      known (Some n) = place_merged-is n

  pub merged_same : IsSameButPlaces store (merged (Gen i) (Gen j) store)
  merged_same = record {
    nodes = λ s. subst (IsSameNode (fin.get store.nodes s)) (sym (get-mapped (λ s n. place_merged (Gen i) (Gen j) n) store.nodes s)) (known (fin.get store.nodes s));
    last = refl;
    names = refl;
    rows = refl;
  }
    where
      go : (b : Bool) (n : Node) → (if b then with_place (Gen j) n else n) ≡ record n { place = (if b then with_place (Gen j) n else n).place; number = (if b then with_place (Gen j) n else n).number }
      go true n = refl
      go false n = refl

      known : (x : Option Node) → IsSameNode x (option_map (place_merged (Gen i) (Gen j)) x)
      known None = tt
      known (Some n) = go (place_number n.place == 7 + i) n

one_merges : (p : Place) → went_to 0 1 p ≡ merged_place 1 p
one_merges (Gen k) = grind (arith, nat_tests)
one_merges p = refl

two_merge_at : (k : ℕ) → went_to 1 2 (if k == 0 then Gen 2 else Gen k) ≡ (if nat_le k 2 then Gen 2 else Gen k)
two_merge_at k = elim (cases_eq k 0) [
  | inl zero ↦ ap (λ b. went_to 1 2 (if b then Gen 2 else Gen k)) (eq-eqb k 0 zero) ∙ grind (arith, nat_tests)
  | inr more ↦ ap (λ b. went_to 1 2 (if b then Gen 2 else Gen k)) (ne_eqb k 0 more) ∙ grind (arith, nat_tests)
]

two_merge : (p : Place) → went_to 1 2 (went_to 0 2 p) ≡ merged_place 2 p
two_merge (Gen k) = two_merge_at k
two_merge p = refl

pub merges_one : (store : Store) → MergesYounger 1 store (merged (Gen 0) (Gen 1) store)
merges_one store = record { same = merged_same 0 1 store; places = λ o. place-merged 0 1 store o ∙ one_merges (place_of store o) }

pub merges_two : (store : Store) → MergesYounger 2 store (merged (Gen 1) (Gen 2) (merged (Gen 0) (Gen 2) store))
merges_two store = record {
  same = same_more store (merged (Gen 0) (Gen 2) store) (merged (Gen 1) (Gen 2) (merged (Gen 0) (Gen 2) store)) (merged_same 0 2 store) (merged_same 1 2 (merged (Gen 0) (Gen 2) store));
  places = λ o. place-merged 1 2 (merged (Gen 0) (Gen 2) store) o ∙ ap (went_to 1 2) (place-merged 0 2 store o) ∙ two_merge (place_of store o);
}

went_from : (i j : ℕ) (p : Place) → p ≡ Gen i → went_to i j p ≡ Gen j
went_from i j p e = ap (went_to i j) e ∙ ap (λ b. if b then Gen j else Gen i) (eq-eqb i i refl)

went_not : (i j : ℕ) (p : Place) → p ≢ Gen i → went_to i j p ≡ p
went_not i j (Gen k) differ = ap (λ b. if b then Gen j else Gen k) (ne_eqb k i (λ e. differ (ap Gen e)))
went_not i j p differ = refl

pub gets_older : (g : ℕ) (store : Store) → GetOlder g store (merged (Gen g) (Gen (older g)) store)
gets_older g store = record {
  same = merged_same g (older g) store;
  moved = λ o at. place-merged g (older g) store o ∙ went_from g (older g) (place_of store o) at;
  others = λ o differ. place-merged g (older g) store o ∙ went_not g (older g) (place_of store o) differ;
}
