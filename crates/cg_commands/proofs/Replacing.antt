-- The merges of `freeze` and `unfreeze`, in terms of objects.
use Rattle.std.proofs.Common.{◌≡◌, ◌≢◌, refl, sym, ◌∙◌, ap, subst, ℕ, ◌+◌, ◌<◌, ◌⊎◌, inl, inr, Bool, true, false, [], length, map, Option, Some, None, arith}
use Rattle.std.specs.Prelude.{◌==◌, if◌then◌else◌, option_map}
use Rattle.std.proofs.lemmas.Bool.{ne_eqb, cases_eq}
use Rattle.std.proofs.lemmas.List.{get_or-set_other, length-map}
use Rattle.std.specs.FinMap as fin
use Rattle.cg_value.specs.declared.Place.{Place}
use Rattle.cg_value.specs.declared.Place.TheVariants.{Untracked, Gen, Frozen, Cand, Seen, Back, Legacy, Pend}
use Rattle.cg_graph.specs.Object.{Object, with_place as object_placed}
use Rattle.cg_graph.specs.Places.{place_number}
use Rattle.cg_graph.specs.Store.{Store, Node, objects_of, object_from, list_at, outside_of, outside_in}
use Rattle.cg_graph.specs.Changes.{with_place}
use Rattle.cg_graph.proofs.Maps.{get-mapped, same_map}
use Rattle.cg_graph.proofs.Objects.{objects-mapped}
use Rattle.cg_graph.specs.Maps.{mapped}
use Rattle.cg_heap.specs.Calls.{merged, place_merged, IsListed}
use Rattle.cg_heap.proofs.CallerLemmas.{total-merged}
use Rattle.cg_machine.specs.Effects.{frozen, unfrozen}
use Rattle.cg_commands.specs.Places.{Replaces}

-- the outside holds and the waiting weak references after a merge
module _ (p q : Place) (store : Store) where
  outside-merged : (s : ℕ) → outside_of (merged p q store) s ≡ outside_of store s
  outside-merged s = ap outside_in (get-mapped (λ s n. place_merged p q n) store.nodes s) ∙ known (fin.get store.nodes s)
    where
      go : (b : Bool) (n : Node) → (if b then with_place q n else n).outside ≡ n.outside
      go true n = refl
      go false n = refl

      known : (x : Option Node) → outside_in (option_map (λ n. place_merged p q n) x) ≡ outside_in x
      known None = refl
      known (Some n) = go (place_number n.place == place_number p) n

  waiting-merged : 6 ≢ place_number p → 6 ≢ place_number q → list_at (merged p q store) Pend ≡ list_at store Pend
  waiting-merged from to = get_or-set_other _ (place_number p) 6 [] [] from ∙ get_or-set_other store.lists (place_number q) 6 _ [] to

-- the three merges of `freeze`
abbrev all_merged : Store → Store
all_merged store = merged (Gen 2) Frozen (merged (Gen 1) Frozen (merged (Gen 0) Frozen store))

-- and what they do to one node
abbrev iced : Node → Node
iced n = place_merged (Gen 2) Frozen (place_merged (Gen 1) Frozen (place_merged (Gen 0) Frozen n))

iced_at : (p : Place) (n : Node) → place_number p < 10 → iced (with_place p n) ≡ with_place (frozen p) n
iced_at Untracked n h = refl
iced_at Frozen n h = refl
iced_at Cand n h = refl
iced_at Seen n h = refl
iced_at Back n h = refl
iced_at Legacy n h = refl
iced_at Pend n h = refl
iced_at (Gen i) n h = go (cases_eq i 0) (cases_eq i 1)
  where
    go : (i ≡ 0) ⊎ (i ≢ 0) → (i ≡ 1) ⊎ (i ≢ 1) → iced (with_place (Gen i) n) ≡ with_place Frozen n
    go (inl zero) one = subst (λ j. iced (with_place (Gen j) n) ≡ with_place Frozen n) (sym zero) refl
    go (inr some) (inl one) = subst (λ j. iced (with_place (Gen j) n) ≡ with_place Frozen n) (sym one) refl
    go (inr some) (inr more) = let two : i ≡ 2 = omega arith in subst (λ j. iced (with_place (Gen j) n) ≡ with_place Frozen n) (sym two) refl

-- what `unfreeze` does to one node
thawed_at : (p : Place) (n : Node) → place_merged Frozen (Gen 2) (with_place p n) ≡ with_place (unfrozen p) n
thawed_at Untracked n = refl
thawed_at Frozen n = refl
thawed_at Cand n = refl
thawed_at Seen n = refl
thawed_at Back n = refl
thawed_at Legacy n = refl
thawed_at Pend n = refl
thawed_at (Gen i) n = ap (λ b. if b then with_place (Gen 2) n else with_place (Gen i) n) (ne_eqb (7 + i) 1 (λ e. absurd (omega (arith, e))))

module _ (store : Store) where
  pub unfreezes : Replaces unfrozen store (merged Frozen (Gen 2) store)
  unfreezes = record {
    objects = objects;
    outside = outside-merged Frozen (Gen 2) store;
    waiting = waiting-merged Frozen (Gen 2) store (omega arith) (omega arith);
    keeps = record {
      last = refl;
      names = refl;
      rows = refl;
      objects = ap length objects ∙ length-map (objects_of store) (λ (x : Object). object_placed (unfrozen x.place) x);
      holds = total-merged Frozen (Gen 2) store;
    };
  }
    where
      objects : objects_of (merged Frozen (Gen 2) store) ≡ map (λ x. object_placed (unfrozen x.place) x) (objects_of store)
      objects = objects-mapped store (λ s n. place_merged Frozen (Gen 2) n) (λ x. object_placed (unfrozen x.place) x) (λ s n. ap (object_from store.rows s) (thawed_at n.place n))

  module _ (listed : IsListed store) where
    iced_nodes : (all_merged store).nodes ≡ mapped (λ s n. with_place (frozen n.place) n) store.nodes
    iced_nodes = same_map (all_merged store).nodes (mapped (λ s n. with_place (frozen n.place) n) store.nodes)
        (λ q.
        get-mapped (λ s n. place_merged (Gen 2) Frozen n) (merged (Gen 1) Frozen (merged (Gen 0) Frozen store)).nodes q
        ∙ ap (option_map (place_merged (Gen 2) Frozen)) (get-mapped (λ s n. place_merged (Gen 1) Frozen n) (merged (Gen 0) Frozen store).nodes q)
        ∙ ap (λ x. option_map (place_merged (Gen 2) Frozen) (option_map (place_merged (Gen 1) Frozen) x)) (get-mapped (λ s n. place_merged (Gen 0) Frozen n) store.nodes q)
        ∙ known (fin.get store.nodes q) (listed.placed q)
        ∙ sym (get-mapped (λ s n. with_place (frozen n.place) n) store.nodes q))
      where
        known : (x : Option Node) → ((n : Node) → x ≡ Some n → place_number n.place < 10) → option_map (place_merged (Gen 2) Frozen)
            (option_map (place_merged (Gen 1) Frozen) (option_map (place_merged (Gen 0) Frozen) x)) ≡ option_map (λ n. with_place (frozen n.place) n) x
        known None placed = refl
        known (Some n) placed = ap Some (iced_at n.place n (placed n refl))

    iced_objects : objects_of (all_merged store) ≡ map (λ x. object_placed (frozen x.place) x) (objects_of store)
    iced_objects =
        ap (λ m. objects_of (record store { nodes = m })) iced_nodes
        ∙ objects-mapped store (λ s n. with_place (frozen n.place) n) (λ x. object_placed (frozen x.place) x) (λ s n. refl)

    pub freezes : Replaces frozen store (all_merged store)
    freezes = record {
      objects = iced_objects;
      outside = λ s. outside-merged (Gen 2) Frozen second s ∙ outside-merged (Gen 1) Frozen first s ∙ outside-merged (Gen 0) Frozen store s;
      waiting =
          waiting-merged (Gen 2) Frozen second (omega arith) (omega arith)
          ∙ waiting-merged (Gen 1) Frozen first (omega arith) (omega arith)
          ∙ waiting-merged (Gen 0) Frozen store (omega arith) (omega arith);
      keeps = record {
        last = refl;
        names = refl;
        rows = refl;
        objects = ap length iced_objects ∙ length-map (objects_of store) (λ (x : Object). object_placed (frozen x.place) x);
        holds = total-merged (Gen 2) Frozen second ∙ total-merged (Gen 1) Frozen first ∙ total-merged (Gen 0) Frozen store;
      };
    }
      where
        first : Store
        first = merged (Gen 0) Frozen store

        second : Store
        second = merged (Gen 1) Frozen first
