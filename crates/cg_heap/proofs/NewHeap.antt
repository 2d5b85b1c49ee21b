-- A heap with only the garbage list.
use Rattle.std.proofs.Common.{◌≡◌, ◌≢◌, ℕ, zero, suc, ◌<◌, List, [], ◌∷◌, length, replicate, Option, Some, None, IsSome, refl, sym, ap, ◌∙◌, subst, inl, inr, arith}
use Rattle.std.specs.Prelude.{◌==◌}
use Rattle.std.proofs.lemmas.Bool.{cases_eq, ne_eqb}
use Rattle.std.proofs.lemmas.List.Elements.{All-nil}
use Rattle.std.specs.Ordering.{nat_cmp}
use Rattle.std.specs.FinMap as fin
use Rattle.cg_value.specs.declared.Val.{Val}
use Rattle.cg_value.specs.declared.Val.TheVariants as val
use Rattle.cg_value.specs.declared.Entry.{Entry}
use Rattle.cg_value.specs.declared.Place.TheVariants.{Untracked}
use Rattle.cg_graph.specs.Rows.{Row}
use Rattle.cg_graph.specs.Store.{IsLive, HasCode}
use Rattle.cg_heap.specs.declared.heap.objects.Objects.{Objects}
use Rattle.cg_heap.proofs.ReferenceLemmas.{occurrences-one, one_if, occurrences-le}
use Rattle.cg_heap.specs.Keeps.{RowsAndHolds}
use Rattle.cg_heap.proofs.CallerLemmas.{total-empty, opening_total}
use Rattle.cg_value.specs.declared.KindCode.TheVariants.{List as ListKind, Weak}
use Rattle.cg_kind.specs.Bodies.{Bodies, body_of, entries_of as body_entries}
use Rattle.cg_graph.specs.Maps.{part}
use Rattle.cg_graph.specs.Holdings.{occurrences, name_holdings}
use Rattle.cg_graph.specs.Store.{held_within, held_by, inner, count_of, entries_of, entries_in, outside_in}
use Rattle.cg_graph.specs.Changes.{opening_store, garbage_node, with_entries}
use Rattle.cg_graph.proofs.Maps.{total-insert, get-insert_same, get-insert_other}
use Rattle.cg_arena.specs.Nodes.{ArenaNode, Nodes, count_in, counted_up, with_node, with_room, new_node, no_nodes}
use Rattle.cg_heap.specs.Boxes.{bodies_at, boxes_with_body, spare_in_box}
use Rattle.cg_heap.specs.Keeps.{HeapKeeps, Shape, size, one, seat_in, IsWellMadeAt, IsGarbage, IsSaved}
use Rattle.cg_heap.proofs.HeapIsStore.{Closed, closed, shape-up, up-counts, seat-up}

abbrev empties : List Bodies
empties = replicate 6 fin.empty

no_names : (n s : ℕ) → occurrences s (name_holdings (replicate n None)) ≡ 0
no_names zero s = refl
no_names (suc n) s = no_names n s

length_replicate : (n : ℕ) (x : Option Val) → length (replicate n x) ≡ n
length_replicate zero x = refl
length_replicate (suc n) x = ap suc (length_replicate n x)

none_live : {X : Type 0} {Y : Type 0} (y : Option X) → y ≡ None → IsSome y → Y
none_live None e h = absurd (cc)
none_live (Some x) e h = absurd (cc)

-- no object is live, and none can be saved
abbrev no_objects : Objects
no_objects = record { live = 0; savable = 0 }

module _ (n body spare room : ℕ) where
  abbrev boxes : List Bodies
  boxes = boxes_with_body empties ListKind body [] spare

  abbrev node : ArenaNode
  node = new_node ListKind None body Untracked

  abbrev first_nodes : Nodes
  first_nodes = with_node 1 node (no_nodes room)

  none-other : (q : ℕ) → q ≢ 1 → fin.get first_nodes.nodes q ≡ None
  none-other q differs = get-insert_other fin.empty 1 q node differs ∙ fin.get-empty nat_cmp q

  none-other_object : (q : ℕ) → q ≢ 1 → fin.get (opening_store n).nodes q ≡ None
  none-other_object q differs = get-insert_other fin.empty 1 q garbage_node differs ∙ fin.get-empty nat_cmp q

  body-there : fin.get (bodies_at boxes ListKind) body ≡ Some (body_of [] spare)
  body-there = get-insert_same fin.empty body body (body_of [] spare) refl

  shape-opening : Shape boxes first_nodes.nodes (opening_store n)
  shape-opening = record {
    six = refl;
    alike = λ q. elim (cases_eq q 1) [
      | inl same ↦
          rw (get-insert_same fin.empty 1 q node same, get-insert_same fin.empty 1 q garbage_node same)
          (ap (λ b. with_entries (body_entries b) garbage_node) (sym body-there), rw body-there refl)
      | inr differs ↦ rw (none-other q differs, none-other_object q differs) tt
    ];
    apart = λ o p b e h. elim (cases_eq o 1) [
      | inl same ↦ elim (cases_eq p 1) [
        | inl same' ↦ same ∙ sym same'
        | inr differs ↦ let no_node : None ≡ Some b = ap seat_in (sym (none-other p differs)) ∙ h in absurd (cc)
      ]
      | inr differs ↦ let no_node : None ≡ Some b = ap seat_in (sym (none-other o differs)) ∙ e in absurd (cc)
    ];
    below = λ s h. elim (cases_eq s 1) [
      | inl same ↦ omega (arith, same)
      | inr differs ↦ none_live (fin.get (opening_store n).nodes s) (none-other_object s differs) h
    ];
  }

  inner-opening : (s : ℕ) → inner (opening_store n) s ≡ occurrences s (1 ∷ [])
  unfolding held_within
  inner-opening s =
      let none : part (held_by s) (fin.get fin.empty 1) ≡ 0 = ap (part (held_by s)) (fin.get-empty nat_cmp 1) in
      let nothing = total-empty (held_by s) in
      omega (arith, no_names n s, total-insert (held_by s) fin.empty 1 garbage_node, none, nothing)

  counted-opening : (s : ℕ) → count_in (fin.get (counted_up (1 ∷ []) first_nodes).nodes s) ≡ count_of (opening_store n) s
  counted-opening s =
      let up = up-counts (1 ∷ []) first_nodes.nodes s (λ there. elim (cases_eq s 1) [
        | inl same ↦ subst IsSome (sym (get-insert_same fin.empty 1 s node same)) refl
        | inr differs ↦ let none : one_if (1 == s) ≡ 0 = ap one_if (ne_eqb 1 s (λ e. differs (sym e))) in absurd (omega (arith, there, none, occurrences-one s 1))
      ]) in
      elim (cases_eq s 1) [
        | inl same ↦
            let a : count_in (fin.get first_nodes.nodes s) ≡ 0 = ap count_in (get-insert_same fin.empty 1 s node same) in
            let b : outside_in (fin.get (opening_store n).nodes s) ≡ 0 = ap outside_in (get-insert_same fin.empty 1 s garbage_node same) in
            omega (arith, up, a, b, inner-opening s)
        | inr differs ↦
            let a : count_in (fin.get first_nodes.nodes s) ≡ 0 = ap count_in (none-other s differs) in
            let b : outside_in (fin.get (opening_store n).nodes s) ≡ 0 = ap outside_in (none-other_object s differs) in
            omega (arith, up, a, b, inner-opening s)
      ]

  root-opening : entries_of (opening_store n) 1 ≡ []
  root-opening = ap entries_in (get-insert_same fin.empty 1 1 garbage_node refl)

  pub keeps-opening : n < 1073741824 → HeapKeeps boxes (counted_up (1 ∷ []) first_nodes).nodes no_objects 0 (opening_store n)
  keeps-opening few = record {
    shape = shape-up boxes first_nodes.nodes (opening_store n) shape-opening (1 ∷ []);
    counted = counted-opening;
    well = λ s. elim (cases_eq s 1) [
      | inl same ↦ subst IsWellMadeAt (sym (get-insert_same fin.empty 1 s garbage_node same))
          (record {
            items = λ list. All-nil (λ (e : Entry). e.key ≡ val.None);
            classed = refl;
            single = λ weak. (
              All-nil (λ (e : Entry). e.key ≡ val.None),
              omega arith,
            );
          })
      | inr differs ↦ subst IsWellMadeAt (sym (none-other_object s differs)) tt
    ];
    numbered =
        let none : part one (fin.get fin.empty 1) ≡ 0 = ap (part one) (fin.get-empty nat_cmp 1) in
        let nothing = total-empty one in
        omega (arith, total-insert one fin.empty 1 garbage_node, none, nothing);
    sized =
        let none : part size (fin.get fin.empty 1) ≡ 0 = ap (part size) (fin.get-empty nat_cmp 1) in
        let nothing = total-empty size in
        omega (arith, total-insert size fin.empty 1 garbage_node, none, nothing, ap length root-opening);
    object_limit = omega arith;
    entry_limit = omega arith;
    saves = subst IsGarbage (sym root-opening) (record { saved = All-nil IsSaved; once = λ s. omega (arith, occurrences-le s (1 ∷ [])) });
    root = record {
      body = body;
      seat = seat-up (1 ∷ []) first_nodes.nodes 1 ∙ ap seat_in (get-insert_same fin.empty 1 1 node refl);
      enough = omega arith;
      ready = omega arith;
    };
    garbage = omega (arith, ap length root-opening);
    names = omega (arith, length_replicate n None, few);
  }

kept-opening : (n : ℕ) → RowsAndHolds (opening_store n)
kept-opening n = record {
  rows = record { rise = tt; weak = All-nil (λ r. HasCode (opening_store n) r.weak Weak); referent = All-nil (λ r. IsLive (opening_store n) r.referent) };
  holds = omega (arith, opening_total n);
}

-- the fields of a new heap
pub opened : (n body room : ℕ) → n < 1073741824 → (all : List Bodies) → all ≡ boxes_with_body empties ListKind body [] (spare_in_box all ListKind body)
    → (v w x : Nodes) → v ≡ no_nodes v.room → w ≡ with_node 1 (new_node ListKind None body Untracked) (with_room room v) → x ≡ counted_up (1 ∷ []) w
    → (names : List (Option Val)) → names ≡ replicate n None → (rows : List Row) → rows ≡ []
    → Closed all x names 1 rows no_objects 0 (opening_store n)
opened n body room few all made v w x none added counted names unbound rows empty =
    subst (λ rs. Closed all x names 1 rs no_objects 0 (opening_store n)) (sym empty)
    (subst (λ bs. Closed bs x names 1 [] no_objects 0 (opening_store n)) (sym made)
    (subst (λ z. Closed (boxes n body (spare_in_box all ListKind body) room) z names 1 [] no_objects 0 (opening_store n))
    (sym (counted ∙ ap (counted_up (1 ∷ [])) (added ∙ ap (λ u. with_node 1 (new_node ListKind None body Untracked) (with_room room u)) none)))
    (subst (λ ns. Closed (boxes n body (spare_in_box all ListKind body) room) (counted_up (1 ∷ []) (first_nodes n body (spare_in_box all ListKind body) room))
    ns 1 [] no_objects 0 (opening_store n)) (sym unbound)
    (closed (boxes n body (spare_in_box all ListKind body) room) (counted_up (1 ∷ []) (first_nodes n body (spare_in_box all ListKind body) room)) no_objects 0
    (opening_store n) (keeps-opening n body (spare_in_box all ListKind body) room few) (kept-opening n) refl))))

pub first-added : (body room : ℕ) (v w : Nodes) → w ≡ with_node 1 (new_node ListKind None body Untracked) (with_room room v) → fin.get w.nodes 1 ≡ Some (new_node ListKind None body Untracked)
first-added body room v w e = ap (λ (u : Nodes). fin.get u.nodes 1) e ∙ get-insert_same v.nodes 1 1 (new_node ListKind None body Untracked) refl

pub first-live : (body room : ℕ) (v w : Nodes) → w ≡ with_node 1 (new_node ListKind None body Untracked) (with_room room v) → IsSome (fin.get w.nodes 1)
first-live body room v w e = subst IsSome (sym (first-added body room v w e)) refl

pub first-room : (body room : ℕ) (v w : Nodes) → w ≡ with_node 1 (new_node ListKind None body Untracked) (with_room room v) → count_in (fin.get w.nodes 1) < 4294967295
first-room body room v w e = let none : count_in (fin.get w.nodes 1) ≡ 0 = ap count_in (first-added body room v w e) in omega (arith, none)

pub first-fresh : (v : Nodes) → v ≡ no_nodes v.room → fin.get v.nodes 1 ≡ None
first-fresh v e = ap (λ (u : Nodes). fin.get u.nodes 1) e ∙ fin.get-empty nat_cmp 1
