-- Binding names, moving and changing objects, and freeing them.
use Rattle.std.proofs.Common.{◌≡◌, ◌≢◌, ℕ, ◌+◌, ◌-◌, ◌<◌, ◌≤◌, Bool, true, false, List, [], length, get_or, set, Option, Some, None, IsSome, refl, sym, ap, ◌∙◌, subst, inl, inr, arith}
use Rattle.std.specs.Prelude.{◌==◌, if◌then◌else◌, slice_get}
use Rattle.std.proofs.lemmas.Bool.{cases_eq}
use Rattle.std.proofs.lemmas.List.{length-set}
use Rattle.std.proofs.lemmas.List.Sums.{sum_by-set}
use Rattle.std.proofs.lemmas.Option.{slice_get_within, get_or_from_slice_get}
use Rattle.std.specs.FinMap as fin
use Rattle.cg_value.specs.declared.Val.{Val}
use Rattle.cg_value.specs.declared.Place.{Place}
use Rattle.cg_value.specs.declared.KindCode.{KindCode}
use Rattle.cg_kind.specs.Bodies.{Bodies}
use Rattle.cg_graph.specs.Maps.{mapped, changed, total, part}
use Rattle.cg_graph.specs.Holdings.{occurrences}
use Rattle.cg_graph.specs.Value.{references, references_of_value}
use Rattle.cg_graph.specs.Places.{place_number}
use Rattle.cg_graph.specs.Store.{Store, Node, held_within, held_by, inner, count_of, IsLive, entries_of, entries_in, outside_in, place_of, place_in}
use Rattle.cg_graph.specs.Changes.{held, named, with_place}
use Rattle.cg_graph.proofs.Maps.{total-remove, get-remove_same, get-remove_other}
use Rattle.cg_arena.specs.Nodes.{ArenaNode, Nodes, count_in, counted_up, node_placed, node_finalized, node_numbered, place_of as arena_place_of, place_in as arena_place_in, place_merged as arena_place_merged}
use Rattle.cg_heap.specs.declared.heap.objects.Objects.{Objects}
use Rattle.cg_heap.proofs.HoldLemmas.{outside-held, name-sum, name_holds}
use Rattle.cg_heap.specs.Boxes.{code_index, bodies_at, HasBody, spare_in_box}
use Rattle.cg_heap.specs.Keeps.{HeapKeeps, Alike, size, one, node_from, seat_in, IsWellMade, IsWellMadeAt, IsGarbage}
use Rattle.cg_heap.specs.Calls.{place_merged, marked, with_number}
use Rattle.cg_heap.proofs.HeapIsStore.{shape-up, shape-held, up-counts, held-inner, held-ones, held-well, held-sizes, held-entries, keeps-counts, seat-up}
use Rattle.cg_heap.proofs.Rewrites.{object-of, bodies_gone, spare-left}
use Rattle.cg_heap.proofs.TakenEntries.{held-live}
use Rattle.cg_value.specs.declared.Entry.{Entry}
use Rattle.cg_value.specs.declared.KindCode.TheVariants.{List as ListKind}

module _ (all : List Bodies) (v : Nodes) (objects : Objects) (number : ℕ) (store : Store) (ok : HeapKeeps all v.nodes objects number store) where
  -- a name gets another value
  module _ (i : ℕ) (old new : Option Val) (was : slice_get store.names i ≡ Some old) (live : (s : ℕ) → 0 < occurrences s (references_of_value new) → IsSome (fin.get v.nodes s)) where
    abbrev pub bound : Store
    bound = held (references_of_value old) (named i new store)

    within : i < length store.names
    within = slice_get_within store.names i old was

    inner-named : (s : ℕ) → inner (named i new store) s + occurrences s (references_of_value old) ≡ inner store s + occurrences s (references_of_value new)
    unfolding held_within
    inner-named s =
        let at : get_or store.names i old ≡ old = get_or_from_slice_get store.names i old old was in
        let here : occurrences s (references_of_value (get_or store.names i old)) ≡ occurrences s (references_of_value old) = ap (λ v. occurrences s (references_of_value v)) at in
        omega (arith, name-sum s (set store.names i new), name-sum s store.names, sum_by-set (λ v. occurrences s (references_of_value v)) store.names i new old within, here)

    old_live : (s : ℕ) → 0 < occurrences s (references_of_value old) → IsLive (named i new store) s
    old_live s there = held-live all v.nodes objects number store ok s (omega (arith, name_holds store i old was s, there))

    pub keeps-named : HeapKeeps all (counted_up (references_of_value new) v).nodes objects number bound
    keeps-named =
        record {
          shape = shape-up all v.nodes bound (shape-held all v.nodes (named i new store) (record {
            six = ok.shape.six;
            alike = ok.shape.alike;
            apart = ok.shape.apart;
            below = ok.shape.below;
          }) (references_of_value old)) (references_of_value new);
          counted = λ s. omega (
            arith,
            ok.counted s,
            inner-named s,
            held-inner (references_of_value old) (named i new store) s,
            outside-held (references_of_value old) (named i new store) s (old_live s),
            up-counts (references_of_value new) v.nodes s (live s),
          );
          well = held-well (references_of_value old) (named i new store) ok.well;
          numbered = held-ones (references_of_value old) (named i new store) ∙ ok.numbered;
          sized = omega (arith, held-sizes (references_of_value old) (named i new store), ap length (held-entries (references_of_value old) (named i new store) 1), ok.sized);
          object_limit = ok.object_limit;
          entry_limit = ok.entry_limit;
          saves = subst IsGarbage (sym (held-entries (references_of_value old) (named i new store) 1)) ok.saves;
          root = record {
            body = ok.root.body;
            seat = seat-up (references_of_value new) v.nodes 1 ∙ ok.root.seat;
            enough = ok.root.enough;
            ready = subst (λ (e : List Entry). objects.savable ≤ length e + spare_in_box all ListKind ok.root.body) (sym (held-entries (references_of_value old) (named i new store) 1)) ok.root.ready;
          };
          garbage = subst (λ e. length e ≤ 1000000) (sym (held-entries (references_of_value old) (named i new store) 1)) ok.garbage;
          names = omega (arith, length-set store.names i new, ok.names);
        }

  -- An object is changed in its node and in the store, except its entries, seat and counts.
  module _ (f : ArenaNode → ArenaNode) (g : Node → Node) (at : (n : ArenaNode) → seat_in (Some (f n)) ≡ seat_in (Some n)) (pair : (x : Node) (n : ArenaNode)
      (k : ℕ) → x ≡ node_from all n k → g x ≡ node_from all (f n) k) (es : (x : Node) → (g x).entries ≡ x.entries) (out : (x : Node) → (g x).outside
      ≡ x.outside) (count : (n : ArenaNode) → (f n).count ≡ n.count) (well : (x : Node) → IsWellMade x → IsWellMade (g x)) where
    abbrev f_if : Bool → ArenaNode → ArenaNode
    f_if b n = if b then f n else n

    abbrev g_if : Bool → Node → Node
    g_if b x = if b then g x else x

    at_if : (b : Bool) (n : ArenaNode) → seat_in (Some (f_if b n)) ≡ seat_in (Some n)
    at_if true n = at n
    at_if false n = refl

    pair_if : (b : Bool) (x : Node) (n : ArenaNode) (k : ℕ) → x ≡ node_from all n k → g_if b x ≡ node_from all (f_if b n) (g_if b x).outside
    pair_if true x n k e = pair x n k e ∙ ap (node_from all (f n)) (sym (ap (λ (y : Node). y.outside) e) ∙ sym (out x))
    pair_if false x n k e = e ∙ ap (node_from all n) (sym (ap (λ (y : Node). y.outside) e))

    es_if : (b : Bool) (x : Node) → (g_if b x).entries ≡ x.entries
    es_if true x = es x
    es_if false x = refl

    counts_if : (b : Bool) (n : ArenaNode) (x : Node) (inside : ℕ) → n.count ≡ inside + x.outside → (f_if b n).count ≡ inside + (g_if b x).outside
    counts_if true n x inside c = count n ∙ c ∙ ap (λ k. inside + k) (sym (out x))
    counts_if false n x inside c = c

    well_if : (b : Bool) (x : Node) → IsWellMade x → IsWellMade (g_if b x)
    well_if true x h = well x h
    well_if false x h = h

    pub keeps-changed : (o : ℕ) → HeapKeeps all (changed f o v.nodes) objects number (record store { nodes = changed g o store.nodes })
    keeps-changed o =
        keeps-counts all v objects number store ok (λ s n. f_if (s == o) n) (λ s x. g_if (s == o) x)
        (λ s n. at_if (s == o) n)
        (λ s x n k e. pair_if (s == o) x n k e)
        (λ s x. es_if (s == o) x)
        (λ s n x inside e c. counts_if (s == o) n x inside c)
        (λ s x h. well_if (s == o) x h)

  -- an object moves
  pub keeps-moved : (o : ℕ) (p : Place) → HeapKeeps all (changed (node_placed p) o v.nodes) objects number (record store { nodes = changed (with_place p) o store.nodes })
  keeps-moved o p = keeps-changed (node_placed p) (with_place p) (λ n. refl) (λ x n k e. ap (with_place p) e) (λ x. refl) (λ x. refl) (λ n. refl)
      (λ x h. record { items = h.items; classed = h.classed; single = h.single }) o

  pub keeps-marked : (o : ℕ) → HeapKeeps all (changed node_finalized o v.nodes) objects number (record store { nodes = changed marked o store.nodes })
  keeps-marked o = keeps-changed node_finalized marked (λ n. refl) (λ x n k e. ap marked e) (λ x. refl) (λ x. refl) (λ n. refl)
      (λ x h. record { items = h.items; classed = h.classed; single = h.single }) o

  pub keeps-numbered : (o k : ℕ) → HeapKeeps all (changed (node_numbered k) o v.nodes) objects number (record store { nodes = changed (with_number k) o store.nodes })
  keeps-numbered o k = keeps-changed (node_numbered k) (with_number k) (λ n. refl) (λ x n j e. ap (with_number k) e) (λ x. refl) (λ x. refl) (λ n. refl)
      (λ x h. record { items = h.items; classed = h.classed; single = h.single }) o

  -- all objects of a place move to another
  pub keeps-merged : (p q : Place) → HeapKeeps all (mapped (λ s n. arena_place_merged p q n) v.nodes) objects number (record store { nodes = mapped (λ s n. place_merged p q n) store.nodes })
  keeps-merged p q =
      keeps-counts all v objects number store ok (λ s n. arena_place_merged p q n) (λ s x. place_merged p q x)
      (λ s n. at (place_number n.place == place_number p) n)
      (λ s x n k e. pair x n k e)
      (λ s x. same (place_number x.place == place_number p) x)
      (λ s n x inside e c. counts (place_number n.place == place_number p) (place_number x.place == place_number p) n x inside c)
      (λ s x h. good (place_number x.place == place_number p) x h)
    where
      at : (b : Bool) (n : ArenaNode) → seat_in (Some (if b then node_placed q n else n)) ≡ seat_in (Some n)
      at true n = refl
      at false n = refl

      alike : (b : Bool) (n : ArenaNode) (k : ℕ) → (if b then with_place q (node_from all n k) else node_from all n k)
          ≡ node_from all (if b then node_placed q n else n) (if b then with_place q (node_from all n k) else node_from all n k).outside
      alike true n k = refl
      alike false n k = refl

      pair : (x : Node) (n : ArenaNode) (k : ℕ) → x ≡ node_from all n k → place_merged p q x ≡ node_from all (arena_place_merged p q n) (place_merged p q x).outside
      pair x n k e = subst (λ y. place_merged p q y ≡ node_from all (arena_place_merged p q n) (place_merged p q y).outside) (sym e) (alike (place_number n.place == place_number p) n k)

      same : (b : Bool) (x : Node) → (if b then with_place q x else x).entries ≡ x.entries
      same true x = refl
      same false x = refl

      counts : (b d : Bool) (n : ArenaNode) (x : Node) (inside : ℕ) → n.count ≡ inside + x.outside → (if b then node_placed q n else n).count ≡ inside + (if d then with_place q x else x).outside
      counts true true n x inside c = c
      counts true false n x inside c = c
      counts false true n x inside c = c
      counts false false n x inside c = c

      good : (b : Bool) (x : Node) → IsWellMade x → IsWellMade (if b then with_place q x else x)
      good true x h = record { items = h.items; classed = h.classed; single = h.single }
      good false x h = h

  -- nodes and objects have the same places
  pub same-place : (o : ℕ) → arena_place_of v o ≡ place_of store o
  same-place o = known (fin.get v.nodes o) (fin.get store.nodes o) (ok.shape.alike o)
    where
      known : (a : Option ArenaNode) (x : Option Node) → Alike all a x → arena_place_in a ≡ place_in x
      known None None h = refl
      known None (Some x) h = absurd h
      known (Some n) None h = absurd h
      known (Some n) (Some x) h = sym (ap (λ (y : Node). place_in (Some y)) h.0)

  -- an object is freed
  module _ (o : ℕ) (n : ArenaNode) (found : fin.get v.nodes o ≡ Some n) (none : count_of store o ≡ 0) (empty : entries_of store o ≡ []) where
    not_root : o ≢ 1
    unfolding held_within
    not_root e =
        let root : count_of store 1 ≡ 0 = ap (count_of store) (sym e) ∙ none in
        absurd (omega (arith, root))

    -- the garbage list stays
    pub others : (total one (fin.remove store.nodes o) ≡ objects.live) × (0 < objects.live)
    unfolding held_within
    others =
        let (x, at, is, h) = object-of all v.nodes store.nodes o n (ok.shape.alike o) found in
        let here : part one (fin.get store.nodes o) ≡ 1 = ap (part one) at in
        let root : IsLive store 1 = held-live all v.nodes objects number store ok 1 (omega arith) in
        let kept : part one (fin.get (fin.remove store.nodes o) 1) ≡ 1 = ap (part one) (get-remove_other store.nodes o 1 (λ e. not_root (sym e))) ∙ counts_one (fin.get store.nodes 1) root in
        let first = total-remove one store.nodes o in
        let second = total-remove one (fin.remove store.nodes o) 1 in
        (omega (arith, first, here, ok.numbered), omega (arith, first, second, here, kept, ok.numbered))
      where
        counts_one : (y : Option Node) → IsSome y → part one y ≡ 1
        counts_one None h = absurd (cc)
        counts_one (Some y) h = refl

    abbrev pub all_gone : List Bodies
    all_gone = set all (code_index n.code) (fin.remove (bodies_at all n.code) n.body)

    pub keeps-gone : HeapKeeps all_gone (fin.remove v.nodes o) (record objects { live = objects.live - 1 }) number (record store { nodes = fin.remove store.nodes o })
    unfolding held_within
    keeps-gone =
        record {
          shape = record {
            six = length-set all (code_index n.code) (fin.remove (bodies_at all n.code) n.body) ∙ ok.shape.six;
            alike = bodies_gone all v.nodes store ok.shape o n found;
            apart = λ p q b e h. ok.shape.apart p q b (kept_where p b e) (kept_where q b h);
            below = λ s h. ok.shape.below s (kept_live s h);
          };
          counted = counted;
          well = well_kept;
          numbered = omega (arith, others.0, others.1);
          sized = omega (arith, sizes, ok.sized, root-kept);
          object_limit = omega (arith, ok.object_limit);
          entry_limit = ok.entry_limit;
          saves = subst IsGarbage (sym (ap entries_in (get-remove_other store.nodes o 1 (λ e. not_root (sym e))))) ok.saves;
          root = record {
            body = ok.root.body;
            seat = ap seat_in (get-remove_other v.nodes o 1 (λ e. not_root (sym e))) ∙ ok.root.seat;
            enough = omega (arith, ok.root.enough);
            ready =
                let kept : spare_in_box all_gone ListKind ok.root.body ≡ spare_in_box all ListKind ok.root.body = spare-left all v.nodes store ok.shape o n
                found 1 ListKind ok.root.body (λ e. not_root (sym e)) ok.root.seat in
                omega (arith, kept, root-kept, ok.root.ready);
          };
          garbage = omega (arith, root-kept, ok.garbage);
          names = ok.names;
        }
      where
        there : (x : Node) × (fin.get store.nodes o ≡ Some x) × (x ≡ node_from all n x.outside) × HasBody all n.code n.body
        there = object-of all v.nodes store.nodes o n (ok.shape.alike o) found

        no_entries : there.0.entries ≡ []
        no_entries = ap entries_in (sym there.1) ∙ empty

        kept_where : (p : ℕ) (b : KindCode × ℕ) → seat_in (fin.get (fin.remove v.nodes o) p) ≡ Some b → seat_in (fin.get v.nodes p) ≡ Some b
        kept_where p b e =
            elim (cases_eq p o) [
              | inl same ↦ let e' : seat_in None ≡ Some b = ap seat_in (sym (get-remove_same v.nodes o p same)) ∙ e in absurd (cc)
              | inr differs ↦ ap seat_in (sym (get-remove_other v.nodes o p differs)) ∙ e
            ]

        kept_live : (s : ℕ) → IsSome (fin.get (fin.remove store.nodes o) s) → IsLive store s
        kept_live s h =
            elim (cases_eq s o) [
              | inl same ↦ rw (ap (fin.get store.nodes) same, there.1) refl
              | inr differs ↦ subst IsSome (get-remove_other store.nodes o s differs) h
            ]

        well_kept : (s : ℕ) → IsWellMadeAt (fin.get (fin.remove store.nodes o) s)
        well_kept s =
            elim (cases_eq s o) [
              | inl same ↦ subst IsWellMadeAt (sym (get-remove_same store.nodes o s same)) tt
              | inr differs ↦ subst IsWellMadeAt (sym (get-remove_other store.nodes o s differs)) (ok.well s)
            ]

        nothing : (s : ℕ) → part (held_by s) (fin.get store.nodes o) ≡ 0
        nothing s = ap (part (held_by s)) there.1 ∙ ap (λ es. occurrences s (references es)) no_entries

        inner-gone : (s : ℕ) → inner (record store { nodes = fin.remove store.nodes o }) s ≡ inner store s
        inner-gone s = omega (arith, total-remove (held_by s) store.nodes o, nothing s)

        sizes : total size (fin.remove store.nodes o) ≡ total size store.nodes
        sizes =
            let no_size : part size (fin.get store.nodes o) ≡ 0 = ap (part size) there.1 ∙ ap length no_entries in
            omega (arith, total-remove size store.nodes o, no_size)

        root-kept : length (entries_in (fin.get (fin.remove store.nodes o) 1)) ≡ length (entries_of store 1)
        root-kept = ap (λ x. length (entries_in x)) (get-remove_other store.nodes o 1 (λ e. not_root (sym e)))

        counted : (s : ℕ) → count_in (fin.get (fin.remove v.nodes o) s) ≡ count_of (record store { nodes = fin.remove store.nodes o }) s
        counted s =
            elim (cases_eq s o) [
              | inl same ↦
                  let left = ap count_in (get-remove_same v.nodes o s same) in
                  let right = ap outside_in (get-remove_same store.nodes o s same) in
                  let was : count_of store s ≡ 0 = ap (count_of store) same ∙ none in
                  omega (arith, left, right, was, inner-gone s)
              | inr differs ↦
                  let left = ap count_in (get-remove_other v.nodes o s differs) in
                  let right = ap outside_in (get-remove_other store.nodes o s differs) in
                  omega (arith, left, right, ok.counted s, inner-gone s)
            ]
