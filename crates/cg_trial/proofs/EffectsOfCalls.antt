-- The effect of a heap's calls on what the search sees of it.
use Rattle.std.proofs.Common.{◌≡◌, ◌≢◌, refl, sym, ◌∙◌, ap, subst, ℕ, ◌+◌, ◌<◌, inl, inr, List, [], ◌∷◌, ◌++◌, Bool, true, false, cond, set, Option, Some, None, IsSome, arith}
use Rattle.std.specs.Prelude.{◌==◌, if◌then◌else◌, is_some, option_map, IfSome}
use Rattle.std.specs.FinMap as fin
use Rattle.std.specs.Ordering.{nat_cmp}
use Rattle.std.proofs.lemmas.Bool.{eq-eqb, ne_eqb, cases_eq}
use Rattle.std.proofs.lemmas.List.{get_or-set_same, get_or-set_other, length-set}
use Rattle.cg_value.specs.declared.Place.{Place}
use Rattle.cg_graph.specs.Maps.{mapped, changed}
use Rattle.cg_graph.specs.Places.{place_number, list_of, without_serial, leaves_list, move_between}
use Rattle.cg_graph.specs.Store.{Store, Node, list_at, place_of, place_in, IsLive, entries_in, held_within, held_by, outside_in}
use Rattle.cg_graph.specs.Changes.{moved, with_place}
use Rattle.cg_graph.proofs.Maps.{get-mapped, total-mapped, get-changed_same, get-changed_other}
use Rattle.cg_arena.specs.Nodes.{IsPlace}
use Rattle.cg_heap.specs.Calls.{IsListed, merged, place_merged, with_node, with_number}
use Rattle.cg_trial.specs.View.{view_of, IsSame, Numbered, Moved, Merged, bare_node, number_in}
use Rattle.cg_trial.proofs.Lists.{without-absent}
use Rattle.cg_trial.proofs.PlacesOfObjects.{one_place, apart, is_there}

-- a change of nodes that keeps everything but places and numbers
module _ (store new : Store) (g : ℕ → Node → Node) (nodes : new.nodes ≡ mapped g store.nodes) (names : new.names ≡ store.names) (last : new.last ≡ store.last) (rows : new.rows ≡ store.rows)
    (bare : (s : ℕ) (n : Node) → bare_node (g s n) ≡ bare_node n) where
  node_at : (s : ℕ) → fin.get new.nodes s ≡ option_map (g s) (fin.get store.nodes s)
  node_at s = ap (λ (m : fin.FinMap nat_cmp Node). fin.get m s) nodes ∙ get-mapped g store.nodes s

  -- what is seen of an optional node, where the change keeps that
  seen_at : {A : Type 0} (see : Option Node → A) → ((s : ℕ) (n : Node) → see (Some (g s n)) ≡ see (Some n)) → (s : ℕ) → see (fin.get new.nodes s) ≡ see (fin.get store.nodes s)
  seen_at see same s = ap see (node_at s) ∙ known (fin.get store.nodes s)
    where
      known : (x : Option Node) → see (option_map (g s) x) ≡ see x
      known None = refl
      known (Some n) = same s n

  held_at : (s : ℕ) → held_within new.names new.nodes s ≡ held_within store.names store.nodes s
  unfolding held_within
  held_at s =
      let same = total-mapped g (held_by s) (held_by s) store.nodes (λ q n. ap (λ m. held_by s m) (bare q n)) in
      (λ i. held_within (names i) (nodes i) s) ∙ omega (arith, same)

  pub same_view : IsSame (view_of store) (view_of new)
  same_view = record {
    lives = λ i s. seen_at is_some (λ q n. refl) s i;
    hold = λ i s. seen_at entries_in (λ q n. ap (λ m. m.entries) (bare q n)) s i;
    degrees = λ i s. held_at s i + seen_at outside_in (λ q n. ap (λ m. m.outside) (bare q n)) s i;
    bares = λ i s. seen_at (option_map bare_node) (λ q n. ap Some (bare q n)) s i;
    besides = λ i. record { last = last i; names = names i; rows = rows i };
  }

-- a change of one node
bare_changed : (f : Node → Node) (o : ℕ) → ((n : Node) → bare_node (f n) ≡ bare_node n) → (s : ℕ) (n : Node) → bare_node (if s == o then f n else n) ≡ bare_node n
bare_changed f o same s n = go (s == o)
  where
    go : (b : Bool) → bare_node (if b then f n else n) ≡ bare_node n
    go true = same n
    go false = refl

-- another number
pub numbered : (store new : Store) (o k : ℕ) → new ≡ with_node (with_number k) o store → IsLive store o → Numbered o k (view_of store) (view_of new)
numbered store new o k is live = subst (λ (s : Store). Numbered o k (view_of store) (view_of s)) (sym is) (record {
  rest = record {
    same = same_view store (with_node (with_number k) o store) (λ s x. if s == o then with_number k x else x) refl refl refl refl (bare_changed (with_number k) o (λ n. refl));
    places = refl;
  };
  numbers = λ p. elim (cases_eq p o) [
    | inl same ↦
        ap number_in (get-changed_same (with_number k) o store.nodes p same)
        ∙ known (fin.get store.nodes p) (subst (IsLive store) (sym same) live)
        ∙ sym (ap (λ b. cond b k (number_in (fin.get store.nodes p))) (eq-eqb p o same))
    | inr differs ↦
        ap number_in (get-changed_other (with_number k) o store.nodes p differs)
        ∙ sym (ap (λ b. cond b k (number_in (fin.get store.nodes p))) (ne_eqb p o differs))
  ];
})
  where
    known : (x : Option Node) → IsSome x → number_in (option_map (with_number k) x) ≡ k
    known None h = absurd (cc)
    known (Some n) h = refl

-- changing a place keeps the numbers
number_placed : (store : Store) (o : ℕ) (p : Place) (q : ℕ) → number_in (fin.get (changed (with_place p) o store.nodes) q) ≡ number_in (fin.get store.nodes q)
number_placed store o p q = ap number_in (get-mapped (λ s x. if s == o then with_place p x else x) store.nodes q) ∙ known (q == o) (fin.get store.nodes q)
  where
    known : (b : Bool) (x : Option Node) → number_in (option_map (λ n. if b then with_place p n else n) x) ≡ number_in x
    known b None = refl
    known true (Some n) = refl
    known false (Some n) = refl

-- one object moves to the end of a place
module _ (store : Store) (listed : IsListed store) (o : ℕ) (live : IsLive store o) (p : Place) (is_place : IsPlace p) where
  abbrev here : ℕ
  here = place_number (place_of store o)

  here_below : here < 10
  here_below = known (fin.get store.nodes o) refl live
    where
      known : (x : Option Node) → fin.get store.nodes o ≡ x → IsSome x → here < 10
      known None at h = absurd (cc)
      known (Some n) at h = subst (λ (y : Option Node). place_number (place_in y) < 10) (sym at) (listed.placed o n at)

  left_at : (q : Place) → list_of (leaves_list store.lists o here) (place_number q) ≡ without_serial o (list_at store q)
  left_at q = elim (cases_eq (place_number q) here) [
    | inl same ↦
        ap (list_of (leaves_list store.lists o here)) same
        ∙ get_or-set_same store.lists here (without_serial o (list_of store.lists here)) [] (omega (arith, listed.ten, here_below))
        ∙ ap (λ k. without_serial o (list_of store.lists k)) (sym same)
    | inr differs ↦
        get_or-set_other store.lists here (place_number q) (without_serial o (list_of store.lists here)) [] differs
        ∙ sym (without-absent o (list_at store q) (apart store listed (place_of store o) q o (λ e. differs (sym (ap place_number e))) (is_there store listed (place_of store o) o live refl)))
  ]

  abbrev lists : List (List ℕ)
  lists = move_between store.lists o here (place_number p)

  last_there : list_of lists (place_number p) ≡ without_serial o (list_at store p) ++ o ∷ []
  last_there =
      get_or-set_same (leaves_list store.lists o here) (place_number p) (list_of (leaves_list store.lists o here) (place_number p) ++ o ∷ []) []
      (omega (arith, listed.ten, is_place, length-set store.lists here (without_serial o (list_of store.lists here))))
      ∙ ap (λ (xs : List ℕ). xs ++ o ∷ []) (left_at p)

  other_list : (q : Place) → q ≢ p → list_of lists (place_number q) ≡ without_serial o (list_at store q)
  other_list q differ =
      get_or-set_other (leaves_list store.lists o here) (place_number p) (place_number q) (list_of (leaves_list store.lists o here) (place_number p) ++ o ∷ []) [] (λ e. differ (one_place q p e))
      ∙ left_at q

  pub moved_view : (new : Store) → new ≡ moved o p store → Moved o p (view_of store) (view_of new)
  moved_view new is = subst (λ (s : Store). Moved o p (view_of store) (view_of s)) (sym is) (record {
    same = same_view store (moved o p store) (λ s x. if s == o then with_place p x else x) refl refl refl refl (bare_changed (with_place p) o (λ n. refl));
    numbers = λ i q. number_placed store o p q i;
    last = last_there;
    others = other_list;
  })

-- all objects of one place move to the end of another
module _ (store : Store) (listed : IsListed store) (p q : Place) (differ : p ≢ q) (below_p : IsPlace p) (below_q : IsPlace q) where
  bare_merged : (s : ℕ) (n : Node) → bare_node (place_merged p q n) ≡ bare_node n
  bare_merged s n = go (place_number n.place == place_number p)
    where
      go : (b : Bool) → bare_node (if b then with_place q n else n) ≡ bare_node n
      go true = refl
      go false = refl

  number_merged : (s : ℕ) → number_in (fin.get (merged p q store).nodes s) ≡ number_in (fin.get store.nodes s)
  number_merged s = ap number_in (get-mapped (λ s n. place_merged p q n) store.nodes s) ∙ known (fin.get store.nodes s)
    where
      go : (b : Bool) (n : Node) → (if b then with_place q n else n).number ≡ n.number
      go true n = refl
      go false n = refl

      known : (x : Option Node) → number_in (option_map (λ n. place_merged p q n) x) ≡ number_in x
      known None = refl
      known (Some n) = go (place_number n.place == place_number p) n

  apart_numbers : place_number q ≢ place_number p
  apart_numbers e = differ (one_place p q (sym e))

  abbrev first_set : List (List ℕ)
  first_set = set store.lists (place_number q) (list_at store q ++ list_at store p)

  pub merged_view : (new : Store) → new ≡ merged p q store → Merged p q (view_of store) (view_of new)
  merged_view new is = subst (λ (s : Store). Merged p q (view_of store) (view_of s)) (sym is) (record {
    same = same_view store (merged p q store) (λ s n. place_merged p q n) refl refl refl refl bare_merged;
    numbers = λ i s. number_merged s i;
    joined =
        get_or-set_other first_set (place_number p) (place_number q) [] [] apart_numbers
        ∙ get_or-set_same store.lists (place_number q) (list_at store q ++ list_at store p) [] (omega (arith, listed.ten, below_q));
    emptied = get_or-set_same first_set (place_number p) [] [] (omega (arith, listed.ten, below_p, length-set store.lists (place_number q) (list_at store q ++ list_at store p)));
    others = λ r h k.
        get_or-set_other first_set (place_number p) (place_number r) [] [] (λ e. h (one_place r p e))
        ∙ get_or-set_other store.lists (place_number q) (place_number r) (list_at store q ++ list_at store p) [] (λ e. k (one_place r q e));
  })

-- the number that the heap returns
pub number_told : (store : Store) (o k : ℕ) → IsLive store o → IfSome (fin.get store.nodes o) (λ n. k ≡ n.number) → k ≡ number_in (fin.get store.nodes o)
number_told store o k live told = known (fin.get store.nodes o) live told
  where
    known : (x : Option Node) → IsSome x → IfSome x (λ n. k ≡ n.number) → k ≡ number_in x
    known None h t = absurd (cc)
    known (Some n) h t = t
