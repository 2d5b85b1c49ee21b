-- A heap represents exactly one store; the effect of counts and holds on it.
use Rattle.std.proofs.Common.{◌≡◌, ℕ, ◌+◌, ◌-◌, ◌<◌, ◌≤◌, List, [], ◌∷◌, length, Option, Some, None, IsSome, refl, sym, ap, ◌∙◌, subst, inl, inr, arith}
use Rattle.std.specs.Prelude.{option_map}
use Rattle.std.proofs.lemmas.Bool.{cases_eq}
use Rattle.std.specs.Ordering.{nat_cmp}
use Rattle.std.specs.FinMap as fin
use Rattle.cg_value.specs.declared.Val.{Val}
use Rattle.cg_value.specs.declared.KindCode.{KindCode}
use Rattle.cg_kind.specs.Bodies.{Bodies}
use Rattle.cg_graph.specs.Maps.{mapped, total}
use Rattle.cg_graph.specs.Holdings.{occurrences, name_holdings}
use Rattle.cg_graph.specs.Value.{references}
use Rattle.cg_graph.specs.Rows.{Row}
use Rattle.cg_graph.specs.Store.{Store, Node, held_within, held_by, inner, count_of, entries_of, entries_in, outside_of, outside_in}
use Rattle.cg_graph.specs.Changes.{more, less, held, unheld}
use Rattle.cg_graph.proofs.Maps.{get-mapped, total-mapped, same_map}
use Rattle.cg_arena.specs.Nodes.{ArenaNode, Nodes, count_in, counted_up, counted_down, node_counted_up, node_counted_down}
use Rattle.cg_heap.specs.declared.heap.objects.Objects.{Objects}
use Rattle.cg_heap.specs.Boxes.{HasBody, spare_in_box}
use Rattle.cg_heap.specs.Keeps.{HeapKeeps, Shape, Alike, node_from, bare_nodes, nodes_from, store_of, seat_in, size, one, IsWellMade, IsWellMadeAt, IsGarbage, RowsAndHolds}
use Rattle.cg_value.specs.declared.Entry.{Entry}
use Rattle.cg_value.specs.declared.KindCode.TheVariants.{List as ListKind}

-- what is held depends only on the entries
pub within-mapped : (g : ℕ → Node → Node) → ((s : ℕ) (x : Node) → (g s x).entries ≡ x.entries) → (names : List (Option Val)) (m : fin.FinMap nat_cmp Node)
    (s : ℕ) → held_within names (mapped g m) s ≡ held_within names m s
unfolding held_within
within-mapped g same names m s =
    ap (λ k. occurrences s (name_holdings names) + occurrences s (1 ∷ []) + k)
    (total-mapped g (held_by s) (held_by s) m (λ q x. ap (λ es. occurrences s (references es)) (same q x)))

abbrev emptied : ℕ → Node → Node
emptied s x = record x { outside = 0 }

bare-mapped : (all : List Bodies) (nodes : fin.FinMap nat_cmp ArenaNode) (m : fin.FinMap nat_cmp Node) → ((s : ℕ) → Alike all (fin.get nodes s) (fin.get m s)) → bare_nodes all nodes ≡ mapped emptied m
bare-mapped all nodes m alike =
    same_map _ _
    (λ q. get-mapped (λ s n. node_from all n 0) nodes q ∙ same q (fin.get nodes q) (fin.get m q) (alike q) ∙ sym (get-mapped emptied m q))
  where
    same : (q : ℕ) (a : Option ArenaNode) (x : Option Node) → Alike all a x → option_map (λ n. node_from all n 0) a ≡ option_map (emptied q) x
    same q None None h = refl
    same q None (Some x) h = absurd h
    same q (Some n) None h = absurd h
    same q (Some n) (Some x) h = sym (ap (λ y. Some (emptied q y)) h.0)

-- nodes that agree with the counts of a map are that map
pub nodes-are : (all : List Bodies) (names : List (Option Val)) (nodes : fin.FinMap nat_cmp ArenaNode) (m : fin.FinMap nat_cmp Node)
    → ((s : ℕ) → Alike all (fin.get nodes s) (fin.get m s)) → ((s : ℕ) → count_in (fin.get nodes s) ≡ held_within names m s + outside_in (fin.get m s))
    → nodes_from all names nodes ≡ m
unfolding nodes_from
nodes-are all names nodes m alike counted =
    same_map _ _
    (λ q.
    get-mapped (λ s n. node_from all n (n.count - held_within names (bare_nodes all nodes) s)) nodes q
    ∙ same q (fin.get nodes q) (fin.get m q) (alike q) (counted q))
  where
    within-bare : (q : ℕ) → held_within names (bare_nodes all nodes) q ≡ held_within names m q
    within-bare q = ap (λ b. held_within names b q) (bare-mapped all nodes m alike) ∙ within-mapped emptied (λ s x. refl) names m q

    same : (q : ℕ) (a : Option ArenaNode) (x : Option Node) → Alike all a x → count_in a ≡ held_within names m q + outside_in x
        → option_map (λ n. node_from all n (n.count - held_within names (bare_nodes all nodes) q)) a ≡ x
    same q None None h c = refl
    same q None (Some x) h c = absurd h
    same q (Some n) None h c = absurd h
    same q (Some n) (Some x) h c =
        let out : n.count - held_within names (bare_nodes all nodes) q ≡ x.outside = omega (arith, c, within-bare q) in
        ap (λ k. Some (node_from all n k)) out ∙ sym (ap Some h.0)

-- The fields represent the store, and the struct's invariant holds.
pub record Closed (all : List Bodies) (v : Nodes) (names : List (Option Val)) (last : ℕ) (rows : List Row) (objects : Objects) (number : ℕ) (store : Store) : Type 0 where
  pub keeps : HeapKeeps all v.nodes objects number (store_of all v names last rows) × RowsAndHolds (store_of all v names last rows)
  pub is : store_of all v names last rows ≡ store

pub closed : (all : List Bodies) (v : Nodes) (objects : Objects) (number : ℕ) (store : Store) → HeapKeeps all v.nodes objects number store → RowsAndHolds store → v.lists
    ≡ store.lists → Closed all v store.names store.last store.rows objects number store
closed all v objects number store ok rest lists =
    record {
      keeps = subst (λ s. HeapKeeps all v.nodes objects number s × RowsAndHolds s) (sym is) (ok, rest);
      is = is;
    }
  where
    is : store_of all v store.names store.last store.rows ≡ store
    is i = record { nodes = nodes-are all store.names v.nodes store.nodes ok.shape.alike ok.counted i; last = store.last; names = store.names; lists = lists i; rows = store.rows }

-- the place holds a body
abbrev HeldAt : List Bodies → Option (KindCode × ℕ) → Type 0
HeldAt all None = Unit {0}
HeldAt all (Some b) = HasBody all b.0 b.1

abbrev with_outside : Node → ℕ → Node
with_outside y k = record y { outside = k }

-- look-ups in mapped maps
alike-counted : (all : List Bodies) (f : ArenaNode → ArenaNode) → ((n : ArenaNode) (k : ℕ) → node_from all (f n) k ≡ node_from all n k)
    → ((n : ArenaNode) → seat_in (Some (f n)) ≡ seat_in (Some n)) → (a : Option ArenaNode) (x : Option Node) → Alike all a x → Alike all (option_map f a) x
alike-counted all f same at None None h = tt
alike-counted all f same at None (Some x) h = absurd h
alike-counted all f same at (Some n) None h = absurd h
alike-counted all f same at (Some n) (Some x) h = (h.0 ∙ sym (same n x.outside), subst (HeldAt all) (sym (at n)) h.1)

alike-outside : (all : List Bodies) (g : Node → Node) → ((x : Node) (n : ArenaNode) (k : ℕ) → x ≡ node_from all n k → g x ≡ node_from all n (g x).outside)
    → (a : Option ArenaNode) (x : Option Node) → Alike all a x → Alike all a (option_map g x)
alike-outside all g same None None h = tt
alike-outside all g same None (Some x) h = absurd h
alike-outside all g same (Some n) None h = absurd h
alike-outside all g same (Some n) (Some x) h = (same x n x.outside h.0, h.1)

pub is_live-mapped : {X Y : Type 0} (g : ℕ → X → Y) (m : fin.FinMap nat_cmp X) (s : ℕ) → IsSome (fin.get (mapped g m) s) → IsSome (fin.get m s)
is_live-mapped {X} g m s h = known (fin.get m s) (subst IsSome (get-mapped g m s) h)
  where
    known : (x : Option X) → IsSome (option_map (g s) x) → IsSome x
    known None h = h
    known (Some x) h = refl

pub live-mapped : {X Y : Type 0} (g : ℕ → X → Y) (m : fin.FinMap nat_cmp X) (s : ℕ) → IsSome (fin.get m s) → IsSome (fin.get (mapped g m) s)
live-mapped {X} g m s h = subst IsSome (sym (get-mapped g m s)) (known (fin.get m s) h)
  where
    known : (x : Option X) → IsSome x → IsSome (option_map (g s) x)
    known None h = h
    known (Some x) h = refl

pub entries-mapped_nodes : (g : ℕ → Node → Node) → ((s : ℕ) (x : Node) → (g s x).entries ≡ x.entries) → (m : fin.FinMap nat_cmp Node) (s : ℕ)
    → entries_in (fin.get (mapped g m) s) ≡ entries_in (fin.get m s)
entries-mapped_nodes g same m s = ap entries_in (get-mapped g m s) ∙ known (fin.get m s)
  where
    known : (x : Option Node) → entries_in (option_map (g s) x) ≡ entries_in x
    known None = refl
    known (Some x) = same s x

alike-both : (all : List Bodies) (f : ArenaNode → ArenaNode) (g : Node → Node) → ((n : ArenaNode) → seat_in (Some (f n)) ≡ seat_in (Some n))
    → ((x : Node) (n : ArenaNode) (k : ℕ) → x ≡ node_from all n k → g x ≡ node_from all (f n) (g x).outside) → (a : Option ArenaNode) (x : Option Node)
    → Alike all a x → Alike all (option_map f a) (option_map g x)
alike-both all f g at pair None None h = tt
alike-both all f g at pair None (Some x) h = absurd h
alike-both all f g at pair (Some n) None h = absurd h
alike-both all f g at pair (Some n) (Some x) h = (pair x n x.outside h.0, subst (HeldAt all) (sym (at n)) h.1)

-- nodes and objects changed in the same way
module _ (f : ℕ → ArenaNode → ArenaNode) (g : ℕ → Node → Node) (all : List Bodies) (nodes : fin.FinMap nat_cmp ArenaNode) (store : Store)
    (ok : Shape all nodes store) (at : (s : ℕ) (n : ArenaNode) → seat_in (Some (f s n)) ≡ seat_in (Some n)) (pair : (s : ℕ) (x : Node) (n : ArenaNode) (k : ℕ)
    → x ≡ node_from all n k → g s x ≡ node_from all (f s n) (g s x).outside) where
  alike-after : (s : ℕ) → Alike all (fin.get (mapped f nodes) s) (fin.get (mapped g store.nodes) s)
  alike-after s =
      rw (get-mapped f nodes s, get-mapped g store.nodes s)
      (alike-both all (f s) (g s) (at s) (pair s) _ _ (ok.alike s))

  where-after : (s : ℕ) → seat_in (fin.get (mapped f nodes) s) ≡ seat_in (fin.get nodes s)
  where-after s = ap seat_in (get-mapped f nodes s) ∙ known (fin.get nodes s)
    where
      known : (a : Option ArenaNode) → seat_in (option_map (f s) a) ≡ seat_in a
      known None = refl
      known (Some n) = at s n

  pub shape-counts : Shape all (mapped f nodes) (record store { nodes = mapped g store.nodes })
  shape-counts =
      record {
        six = ok.six;
        alike = alike-after;
        apart = λ o p b e h. ok.apart o p b (sym (where-after o) ∙ e) (sym (where-after p) ∙ h);
        below = λ s h. ok.below s (is_live-mapped g store.nodes s h);
      }

-- counting moves no body
pub seat-up : (refs : List ℕ) (nodes : fin.FinMap nat_cmp ArenaNode) (s : ℕ) → seat_in (fin.get (mapped (λ s n. node_counted_up (occurrences s refs) n) nodes) s) ≡ seat_in (fin.get nodes s)
seat-up refs nodes s = ap seat_in (get-mapped (λ s n. node_counted_up (occurrences s refs) n) nodes s) ∙ known (fin.get nodes s)
  where
    known : (a : Option ArenaNode) → seat_in (option_map (node_counted_up (occurrences s refs)) a) ≡ seat_in a
    known None = refl
    known (Some n) = refl

module _ (all : List Bodies) (nodes : fin.FinMap nat_cmp ArenaNode) (store : Store) (ok : Shape all nodes store) (refs : List ℕ) where
  pub shape-up : Shape all (mapped (λ s n. node_counted_up (occurrences s refs) n) nodes) store
  shape-up = record {
    six = ok.six;
    alike = λ s. rw (get-mapped (λ s n. node_counted_up (occurrences s refs) n) nodes s) (alike-counted all (node_counted_up (occurrences s refs)) (λ n k. refl) (λ n. refl) _ _ (ok.alike s));
    apart = λ o p b e h. ok.apart o p b (sym (seat-up refs nodes o) ∙ e) (sym (seat-up refs nodes p) ∙ h);
    below = ok.below;
  }

  pub shape-held : Shape all nodes (held refs store)
  shape-held = record {
    six = ok.six;
    alike = λ s. rw (get-mapped (λ s x. more (occurrences s refs) x) store.nodes s) (alike-outside all (more (occurrences s refs))
        (λ x n k e. ap (λ y. with_outside y (x.outside + occurrences s refs)) e) _ _ (ok.alike s));
    apart = ok.apart;
    below = λ s h. ok.below s (is_live-mapped (λ s x. more (occurrences s refs) x) store.nodes s h);
  }

-- a held object is live
pub up-counts : (refs : List ℕ) (nodes : fin.FinMap nat_cmp ArenaNode) (s : ℕ) → (0 < occurrences s refs → IsSome (fin.get nodes s))
    → count_in (fin.get (mapped (λ s n. node_counted_up (occurrences s refs) n) nodes) s) ≡ count_in (fin.get nodes s) + occurrences s refs
up-counts refs nodes s live = ap count_in (get-mapped (λ s n. node_counted_up (occurrences s refs) n) nodes s) ∙ known (fin.get nodes s) live
  where
    known : (a : Option ArenaNode) → (0 < occurrences s refs → IsSome a) → count_in (option_map (node_counted_up (occurrences s refs)) a) ≡ count_in a + occurrences s refs
    known (Some n) h = refl
    known None h = elim (cases_eq (occurrences s refs) 0) [
      | inl none ↦ omega (arith, none)
      | inr there ↦ let live = h (omega (arith, there)) in cc
    ]

pub held-inner : (refs : List ℕ) (store : Store) (s : ℕ) → inner (held refs store) s ≡ inner store s
held-inner refs store s = within-mapped (λ s n. more (occurrences s refs) n) (λ s x. refl) store.names store.nodes s

pub held-ones : (refs : List ℕ) (store : Store) → total one (held refs store).nodes ≡ total one store.nodes
held-ones refs store = total-mapped (λ s n. more (occurrences s refs) n) one one store.nodes (λ s x. refl)

pub held-sizes : (refs : List ℕ) (store : Store) → total size (held refs store).nodes ≡ total size store.nodes
held-sizes refs store = total-mapped (λ s n. more (occurrences s refs) n) size size store.nodes (λ s x. refl)

pub held-entries : (refs : List ℕ) (store : Store) (s : ℕ) → entries_of (held refs store) s ≡ entries_of store s
held-entries refs store s = entries-mapped_nodes (λ s n. more (occurrences s refs) n) (λ s x. refl) store.nodes s

-- a property of each object is kept
pub well-mapped : (g : ℕ → Node → Node) (m : fin.FinMap nat_cmp Node) → ((s : ℕ) (x : Node) → IsWellMade x → IsWellMade (g s x))
    → ((s : ℕ) → IsWellMadeAt (fin.get m s)) → (s : ℕ) → IsWellMadeAt (fin.get (mapped g m) s)
well-mapped g m well was s = subst IsWellMadeAt (sym (get-mapped g m s)) (known (fin.get m s) (was s))
  where
    known : (x : Option Node) → IsWellMadeAt x → IsWellMadeAt (option_map (g s) x)
    known None h = tt
    known (Some x) h = well s x h

pub held-well : (refs : List ℕ) (store : Store) → ((s : ℕ) → IsWellMadeAt (fin.get store.nodes s)) → (s : ℕ) → IsWellMadeAt (fin.get (held refs store).nodes s)
held-well refs store = well-mapped (λ s n. more (occurrences s refs) n) store.nodes (λ s x h. record { items = h.items; classed = h.classed; single = h.single })

module _ (all : List Bodies) (v : Nodes) (objects : Objects) (number : ℕ) (store : Store) (ok : HeapKeeps all v.nodes objects number store) where
  -- counts and holds changed in the same way
  module _ (f : ℕ → ArenaNode → ArenaNode) (g : ℕ → Node → Node) (at : (s : ℕ) (n : ArenaNode) → seat_in (Some (f s n)) ≡ seat_in (Some n))
      (pair : (s : ℕ) (x : Node) (n : ArenaNode) (k : ℕ) → x ≡ node_from all n k → g s x ≡ node_from all (f s n) (g s x).outside) (es : (s : ℕ) (x : Node)
      → (g s x).entries ≡ x.entries) (counts : (s : ℕ) (n : ArenaNode) (x : Node) (within : ℕ) → fin.get store.nodes s ≡ Some x → n.count ≡ within + x.outside
      → (f s n).count ≡ within + (g s x).outside) (well : (s : ℕ) (x : Node) → IsWellMade x → IsWellMade (g s x)) where
    abbrev after : Store
    after = record store { nodes = mapped g store.nodes }

    inner-after : (s : ℕ) → inner after s ≡ inner store s
    inner-after s = within-mapped g es store.names store.nodes s

    counted-after : (s : ℕ) → count_in (fin.get (mapped f v.nodes) s) ≡ count_of after s
    counted-after s =
        ap count_in (get-mapped f v.nodes s)
        ∙ known (fin.get v.nodes s) (fin.get store.nodes s) (inner store s) refl (ok.shape.alike s) (ok.counted s)
        ∙ ap (λ k. k + outside_in (option_map (g s) (fin.get store.nodes s))) (sym (inner-after s))
        ∙ ap (λ x. inner after s + outside_in x) (sym (get-mapped g store.nodes s))
      where
        known : (a : Option ArenaNode) (x : Option Node) (within : ℕ) → fin.get store.nodes s ≡ x → Alike all a x → count_in a ≡ within + outside_in x
            → count_in (option_map (f s) a) ≡ within + outside_in (option_map (g s) x)
        known None None within e h c = c
        known None (Some x) within e h c = absurd h
        known (Some n) None within e h c = absurd h
        known (Some n) (Some x) within e h c = counts s n x within e c

    pub keeps-counts : HeapKeeps all (mapped f v.nodes) objects number after
    keeps-counts =
        record {
          shape = shape-counts f g all v.nodes store ok.shape at pair;
          counted = counted-after;
          well = well-mapped g store.nodes well ok.well;
          numbered = total-mapped g one one store.nodes (λ s x. refl) ∙ ok.numbered;
          sized = total-mapped g size size store.nodes (λ s x. ap length (es s x)) ∙ ok.sized ∙ ap (λ e. number + length e) (sym (entries-mapped_nodes g es store.nodes 1));
          object_limit = ok.object_limit;
          entry_limit = ok.entry_limit;
          saves = subst IsGarbage (sym (entries-mapped_nodes g es store.nodes 1)) ok.saves;
          root = record {
            body = ok.root.body;
            seat = where-after f g all v.nodes store ok.shape at pair 1 ∙ ok.root.seat;
            enough = ok.root.enough;
            ready = subst (λ (e : List Entry). objects.savable ≤ length e + spare_in_box all ListKind ok.root.body) (sym (entries-mapped_nodes g es store.nodes 1)) ok.root.ready;
          };
          garbage = subst (λ e. length e ≤ 1000000) (sym (entries-mapped_nodes g es store.nodes 1)) ok.garbage;
          names = ok.names;
        }

  -- one more hold for each reference
  pub keeps-held : (refs : List ℕ) → HeapKeeps all (counted_up refs v).nodes objects number (held refs store)
  keeps-held refs =
      keeps-counts (λ s n. node_counted_up (occurrences s refs) n) (λ s n. more (occurrences s refs) n) (λ s n. refl)
      (λ s x n k e. ap (λ y. with_outside y (x.outside + occurrences s refs)) e)
      (λ s x. refl)
      (λ s n x within e c. omega (arith, c))
      (λ s x h. record { items = h.items; classed = h.classed; single = h.single })

  pub keeps-unheld : (refs : List ℕ) → ((s : ℕ) → occurrences s refs ≤ outside_of store s) → HeapKeeps all (counted_down refs v).nodes objects number (unheld refs store)
  keeps-unheld refs enough =
      keeps-counts (λ s n. node_counted_down (occurrences s refs) n) (λ s n. less (occurrences s refs) n) (λ s n. refl)
      (λ s x n k e. ap (λ y. with_outside y (x.outside - occurrences s refs)) e)
      (λ s x. refl)
      (λ s n x within e c. let few = enough s in let is = ap outside_in e in omega (arith, c, few, is))
      (λ s x h. record { items = h.items; classed = h.classed; single = h.single })
