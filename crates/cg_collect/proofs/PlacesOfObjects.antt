-- Where the objects of a heap are, as nodes, as lists and as objects; and what stays of a heap whose objects move.
use Rattle.std.proofs.Common.{◌≡◌, ◌≢◌, refl, sym, ◌∙◌, ap, subst, ℕ, ◌≤◌, ◌⊎◌, inl, inr, Bool, true, false, cond, List, [], ◌∷◌, length, map, Option, Some, None, IsSome, arith}
use Rattle.std.specs.Prelude.{◌↔◌, filter, option_map}
use Rattle.std.specs.FinMap as fin
use Rattle.cg_value.specs.declared.KindCode.{KindCode}
use Rattle.cg_value.specs.declared.Place.{Place}
use Rattle.cg_value.specs.declared.Place.TheVariants.{Untracked}
use Rattle.cg_graph.specs.Maps.{mapped}
use Rattle.cg_graph.specs.Member.{Includes}
use Rattle.cg_graph.specs.Value.{references}
use Rattle.cg_graph.specs.Object.{Object, with_place, is_at, objects_at, serials, serials_at}
use Rattle.cg_graph.specs.Holdings.{occurrences}
use Rattle.cg_graph.specs.Reach.{edges}
use Rattle.cg_graph.specs.Reachable.{graph_at, StandsAt}
use Rattle.cg_graph.specs.Store.{Store, Node, list_at, objects_of, object_from, entries_of, entries_in, outside_of, outside_in, place_of, place_in, IsLive, HasCode}
use Rattle.cg_graph.proofs.Maps.{get-mapped, same_map}
use Rattle.cg_graph.proofs.Members.{Includes-map, Includes-map_cases, Includes-filter, Includes-filter_cases}
use Rattle.cg_graph.proofs.Objects.{objects-mapped}
use Rattle.cg_heap.specs.Calls.{IsListed}
use Rattle.cg_machine.specs.Collect.{SameMembers}
use Rattle.cg_represents.proofs.Places.{place_at_is, place_is}
use Rattle.cg_represents.proofs.Lists.{no_longer}
use Rattle.cg_trial.specs.View.{number_in}
use Rattle.cg_trial.specs.Split.{IsSameNode, IsSameButPlaces}
use Rattle.cg_trial.proofs.Lists.{occurs, occurs_in, occurrences-cons, none_or_some}
use Rattle.cg_trial.proofs.Splits.{arrow}
use Rattle.cg_trial.proofs.Objects.{once_key, found, finds, edges_of_objects, objects_of_edges}
use Rattle.cg_trial.proofs.PlacesOfObjects.{once_at, where_is, is_there}

-- maps that do the same to each member
pub map_alike : {X Y : Type 0} (f g : X → Y) (xs : List X) → ((x : X) → Includes xs x → f x ≡ g x) → map f xs ≡ map g xs
map_alike f g [] same = refl
map_alike f g (x ∷ xs) same = λ i. same x (inl refl) i ∷ map_alike f g xs (λ y m. same y (inr m)) i

pub map_map : {X Y Z : Type 0} (f : Y → Z) (g : X → Y) (xs : List X) → map f (map g xs) ≡ map (λ x. f (g x)) xs
map_map f g [] = refl
map_map f g (x ∷ xs) = ap (λ l. f (g x) ∷ l) (map_map f g xs)

pub map_itself : {X : Type 0} (xs : List X) → map (λ x. x) xs ≡ xs
map_itself [] = refl
map_itself (x ∷ xs) = ap (λ l. x ∷ l) (map_itself xs)

-- lists without repetition that have the same members
pub same_times : (xs ys : List ℕ) → ((o : ℕ) → occurrences o xs ≤ 1) → ((o : ℕ) → occurrences o ys ≤ 1) → ((o : ℕ) → Includes xs o ↔ Includes ys o) → SameMembers xs ys
same_times xs ys once twice same o = go (none_or_some (occurrences o xs)) (none_or_some (occurrences o ys))
  where
    go : (occurrences o xs ≡ 0) ⊎ (1 ≤ occurrences o xs) → (occurrences o ys ≡ 0) ⊎ (1 ≤ occurrences o ys) → occurrences o xs ≡ occurrences o ys
    go (inl none) (inl nothing) = none ∙ sym nothing
    go (inl none) (inr some) = absurd (omega (arith, none, occurs xs o ((same o).1 (occurs_in ys o some))))
    go (inr some) (inl nothing) = absurd (omega (arith, nothing, occurs ys o ((same o).0 (occurs_in xs o some))))
    go (inr some) (inr more) = omega (arith, some, more, once o, twice o)

pub same_length : (xs ys : List ℕ) → SameMembers xs ys → length xs ≡ length ys
same_length xs ys same = omega (arith, no_longer xs ys same, no_longer ys xs (λ o. sym (same o)))

-- an object in a place lives, except perhaps in that of the untracked
pub lives_at : (store : Store) (o : ℕ) (p : Place) → place_of store o ≡ p → Untracked ≢ p → IsLive store o
lives_at store o p at tracked = known (fin.get store.nodes o) at
  where
    known : (x : Option Node) → place_in x ≡ p → IsSome x
    known None e = absurd (tracked e)
    known (Some n) e = refl

pub node_of_live : (store : Store) (o : ℕ) → IsLive store o → (n : Node) × (fin.get store.nodes o ≡ Some n)
node_of_live store o live = known (fin.get store.nodes o) live
  where
    known : (x : Option Node) → IsSome x → (n : Node) × (x ≡ Some n)
    known None h = absurd (cc)
    known (Some n) h = (n, refl)

module _ (store : Store) where
  -- an object is that of a node
  pub node_there : (x : Object) → Includes (objects_of store) x → (n : Node) × (fin.get store.nodes x.serial ≡ Some n) × (object_from store.rows x.serial n ≡ x)
  node_there x h =
      let (e, entry, made) = Includes-map_cases (λ (e : ℕ × Node). object_from store.rows e.0 e.1) (fin.entries store.nodes) x h in
      let serial : e.0 ≡ x.serial = ap (λ (y : Object). y.serial) made in
      let got : fin.get store.nodes e.0 ≡ Some e.1 = fin.get-entries store.nodes e.0 ∙ found (fin.entries store.nodes) e (once_key store.nodes) entry in
      (e.1, ap (fin.get store.nodes) (sym serial) ∙ got, ap (λ s. object_from store.rows s e.1) (sym serial) ∙ made)

  pub place_there : (x : Object) → Includes (objects_of store) x → place_of store x.serial ≡ x.place
  place_there x h = let (n, got, made) = node_there x h in ap place_in got ∙ ap (λ (y : Object). y.place) made

  pub live_there : (x : Object) → Includes (objects_of store) x → IsLive store x.serial
  live_there x h = let (n, got, made) = node_there x h in subst IsSome (sym got) refl

  pub entries_there : (x : Object) → Includes (objects_of store) x → x.entries ≡ entries_of store x.serial
  entries_there x h = let (n, got, made) = node_there x h in sym (ap entries_in got ∙ ap (λ (y : Object). y.entries) made)

  pub code_there : (x : Object) → Includes (objects_of store) x → HasCode store x.serial x.code
  code_there x h = let (n, got, made) = node_there x h in (n, got, ap (λ (y : Object). y.code) made)

  -- a node is that of an object
  pub object_there : (o : ℕ) (n : Node) → fin.get store.nodes o ≡ Some n → Includes (objects_of store) (object_from store.rows o n)
  object_there o n got = Includes-map (λ (e : ℕ × Node). object_from store.rows e.0 e.1) (fin.entries store.nodes) (o, n) (finds (fin.entries store.nodes) o n
      (sym (fin.get-entries store.nodes o) ∙ got))

  -- the objects of a place
  pub stands_at : (p : Place) (o : ℕ) → IsLive store o → place_of store o ≡ p → StandsAt store p o
  stands_at p o live at =
      let (n, got) = node_of_live store o live in
      let place : n.place ≡ p = sym (ap place_in got) ∙ at in
      Includes-map (λ (x : Object). x.serial) (objects_at (objects_of store) p) (object_from store.rows o n)
      (Includes-filter (is_at p) (objects_of store) (object_from store.rows o n) (place_at_is n.place p place) (object_there o n got))

  pub stood_at : (p : Place) (o : ℕ) → StandsAt store p o → IsLive store o × (place_of store o ≡ p)
  stood_at p o h =
      let (x, member, serial) = Includes-map_cases (λ (x : Object). x.serial) (objects_at (objects_of store) p) o h in
      let (there, at) = Includes-filter_cases (is_at p) (objects_of store) x member in
      (subst (IsLive store) serial (live_there x there), ap (place_of store) (sym serial) ∙ place_there x there ∙ place_is x.place p at)

  -- edges are the references of those objects
  pub edge_at : (p : Place) (o q : ℕ) → IsLive store o → place_of store o ≡ p → Includes (references (entries_of store o)) q → Includes (edges (graph_at store p)) (arrow o q)
  edge_at p o q live at refers =
      let (n, got) = node_of_live store o live in
      let place : n.place ≡ p = sym (ap place_in got) ∙ at in
      edges_of_objects (objects_at (objects_of store) p) o q (object_from store.rows o n)
      (Includes-filter (is_at p) (objects_of store) (object_from store.rows o n) (place_at_is n.place p place) (object_there o n got))
      refl (subst (λ es. Includes (references es) q) (ap entries_in got) refers)

  pub edge_back : (p : Place) (o q : ℕ) → Includes (edges (graph_at store p)) (arrow o q) → Includes (references (entries_of store o)) q
  edge_back p o q h =
      let (x, member, serial, refers) = objects_of_edges (objects_at (objects_of store) p) o q h in
      let (there, at) = Includes-filter_cases (is_at p) (objects_of store) x member in
      subst (λ es. Includes (references es) q) (entries_there x there ∙ ap (entries_of store) serial) refers

  -- each object once
  abbrev keys : List (ℕ × Node) → List ℕ
  keys es = map (λ e. e.0) es

  serials_are : (es : List (ℕ × Node)) → serials (map (λ e. object_from store.rows e.0 e.1) es) ≡ keys es
  serials_are [] = refl
  serials_are (e ∷ es) = ap (λ l. e.0 ∷ l) (serials_are es)

  fewer : (p : Object → Bool) (o : ℕ) (objects : List Object) → occurrences o (serials (filter p objects)) ≤ occurrences o (serials objects)
  fewer p o [] = omega arith
  fewer p o (x ∷ objects) = go (p x) (fewer p o objects)
    where
      go : (b : Bool) → occurrences o (serials (filter p objects)) ≤ occurrences o (serials objects)
          → occurrences o (serials (cond b (x ∷ filter p objects) (filter p objects))) ≤ occurrences o (x.serial ∷ serials objects)
      go true h = omega (arith, h, occurrences-cons o x.serial (serials (filter p objects)), occurrences-cons o x.serial (serials objects))
      go false h = omega (arith, h, occurrences-cons o x.serial (serials objects))

  pub once_among : (test : Object → Bool) (o : ℕ) → occurrences o (serials (filter test (objects_of store))) ≤ 1
  once_among test o =
      let same : occurrences o (serials (objects_of store)) ≡ occurrences o (keys (fin.entries store.nodes)) = ap (occurrences o) (serials_are (fin.entries store.nodes)) in
      omega (arith, fewer test o (objects_of store), same, once_key store.nodes o)

  once_there : (p : Place) (o : ℕ) → occurrences o (serials_at (objects_of store) p) ≤ 1
  once_there p o = once_among (is_at p) o

  module _ (listed : IsListed store) where
    -- the list of a place has the objects that are there
    pub list_has : (p : Place) → SameMembers (list_at store p) (serials_at (objects_of store) p)
    list_has p =
        same_times (list_at store p) (serials_at (objects_of store) p) (once_at store listed p) (once_there p)
        (λ o. (λ h. let at = where_is store listed p o h in stands_at p o at.0 at.1, λ h. let at = stood_at p o h in is_there store listed p o at.0 at.1))

    pub list_length : (p : Place) → length (list_at store p) ≡ length (serials_at (objects_of store) p)
    list_length p = same_length (list_at store p) (serials_at (objects_of store) p) (list_has p)

    -- a list is empty if no object is there
    pub empty_at : (p : Place) → ((o : ℕ) → IsLive store o → place_of store o ≢ p) → list_at store p ≡ []
    empty_at p nobody = known (list_at store p) refl
      where
        known : (xs : List ℕ) → list_at store p ≡ xs → xs ≡ []
        known [] e = refl
        known (x ∷ xs) e = let at = where_is store listed p x (subst (λ l. Includes l x) (sym e) (inl refl)) in absurd (nobody x at.0 at.1)

    pub nobody_at : (p : Place) → list_at store p ≡ [] → (o : ℕ) → IsLive store o → place_of store o ≢ p
    nobody_at p empty o live at = subst (λ l. Includes l o) empty (is_there store listed p o live at)

-- only places and numbers change
same_node_more : (a b c : Option Node) → IsSameNode a b → IsSameNode b c → IsSameNode a c
same_node_more None None None p q = tt
same_node_more None None (Some k) p q = absurd q
same_node_more None (Some m) c p q = absurd p
same_node_more (Some n) None c p q = absurd p
same_node_more (Some n) (Some m) None p q = absurd q
same_node_more (Some n) (Some m) (Some k) p q = q ∙ ap {A = Node} (λ (x : Node). record x { place = k.place; number = k.number }) p

same_node_itself : (a : Option Node) → IsSameNode a a
same_node_itself None = tt
same_node_itself (Some n) = refl

pub same_itself : (store : Store) → IsSameButPlaces store store
same_itself store = record { nodes = λ s. same_node_itself (fin.get store.nodes s); last = refl; names = refl; rows = refl }

pub same_more : (a b c : Store) → IsSameButPlaces a b → IsSameButPlaces b c → IsSameButPlaces a c
same_more a b c s t = record {
  nodes = λ o. same_node_more (fin.get a.nodes o) (fin.get b.nodes o) (fin.get c.nodes o) (s.nodes o) (t.nodes o);
  last = t.last ∙ s.last;
  names = t.names ∙ s.names;
  rows = t.rows ∙ s.rows;
}

entries_same : (a b : Option Node) → IsSameNode a b → entries_in b ≡ entries_in a
entries_same None None h = refl
entries_same (Some n) (Some m) h = ap (λ (x : Node). x.entries) h
entries_same a b h = absurd h

outside_same : (a b : Option Node) → IsSameNode a b → outside_in b ≡ outside_in a
outside_same None None h = refl
outside_same (Some n) (Some m) h = ap (λ (x : Node). x.outside) h
outside_same a b h = absurd h

live_same : (a b : Option Node) → IsSameNode a b → IsSome a → IsSome b
live_same None b h l = absurd (cc)
live_same (Some n) None h l = absurd h
live_same (Some n) (Some m) h l = refl

live_back_same : (a b : Option Node) → IsSameNode a b → IsSome b → IsSome a
live_back_same None None h l = l
live_back_same None (Some m) h l = absurd h
live_back_same (Some n) b h l = refl

node_kept : (a b : Option Node) → IsSameNode a b → b ≡ option_map (λ (n : Node). record n { place = place_in b; number = number_in b }) a
node_kept None None h = refl
node_kept (Some n) (Some m) h = ap Some h
node_kept a b h = absurd h

module _ (old new : Store) (same : IsSameButPlaces old new) where
  pub live_on : (s : ℕ) → IsLive old s → IsLive new s
  live_on s live = live_same (fin.get old.nodes s) (fin.get new.nodes s) (same.nodes s) live

  pub live_back : (s : ℕ) → IsLive new s → IsLive old s
  live_back s live = live_back_same (fin.get old.nodes s) (fin.get new.nodes s) (same.nodes s) live

  pub entries_on : (s : ℕ) → entries_of new s ≡ entries_of old s
  entries_on s = entries_same (fin.get old.nodes s) (fin.get new.nodes s) (same.nodes s)

  pub outside_on : (s : ℕ) → outside_of new s ≡ outside_of old s
  outside_on s = outside_same (fin.get old.nodes s) (fin.get new.nodes s) (same.nodes s)

  abbrev replaced : ℕ → Node → Node
  replaced s n = record n { place = place_of new s; number = number_in (fin.get new.nodes s) }

  node_on : (s : ℕ) → fin.get new.nodes s ≡ option_map (replaced s) (fin.get old.nodes s)
  node_on s = node_kept (fin.get old.nodes s) (fin.get new.nodes s) (same.nodes s)

  pub code_on : (s : ℕ) (c : KindCode) → HasCode old s c → HasCode new s c
  code_on s c (n, got, is) = (replaced s n, node_on s ∙ ap (option_map (replaced s)) got, is)

  pub code_back : (s : ℕ) (c : KindCode) → HasCode new s c → HasCode old s c
  code_back s c (m, got, is) =
      let (n, was) = node_of_live old s (live_back s (subst IsSome (sym got) refl)) in
      let here : Some m ≡ Some (replaced s n) = sym got ∙ node_on s ∙ ap (option_map (replaced s)) was in
      let node : m ≡ replaced s n = cc in
      (n, was, sym (ap (λ (x : Node). x.code) node) ∙ is)

  nodes_are : new.nodes ≡ mapped replaced old.nodes
  nodes_are = same_map new.nodes (mapped replaced old.nodes) (λ q. node_on q ∙ sym (get-mapped replaced old.nodes q))

  pub objects_on : objects_of new ≡ map (λ x. with_place (place_of new x.serial) x) (objects_of old)
  objects_on =
      (λ i. map (λ (e : ℕ × Node). object_from (same.rows i) e.0 e.1) (fin.entries (nodes_are i)))
      ∙ objects-mapped old replaced (λ x. with_place (place_of new x.serial) x) (λ s n. refl)
