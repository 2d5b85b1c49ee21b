-- Making an object.
use Rattle.std.proofs.Common.{◌≡◌, ◌≢◌, ℕ, ◌+◌, ◌<◌, ◌≤◌, List, [], ◌∷◌, length, set, Option, Some, None, IsSome, refl, sym, ap, ◌∙◌, subst, inl, inr, arith}
use Rattle.std.specs.Prelude.{◌==◌}
use Rattle.std.proofs.lemmas.Bool.{cases_eq, eq-eqb, ne_eqb}
use Rattle.std.proofs.lemmas.List.{get_or-set_same, get_or-set_other, length-set}
use Rattle.std.specs.FinMap as fin
use Rattle.cg_value.specs.declared.Entry.{Entry}
use Rattle.cg_value.specs.declared.KindCode.{KindCode}
use Rattle.cg_kind.specs.Bodies.{Bodies, with_body, body_of, entries_of as body_entries, spare_of}
use Rattle.cg_kind.specs.Calls.{IsParts}
use Rattle.cg_graph.specs.Maps.{part}
use Rattle.cg_graph.specs.Object.{first_place}
use Rattle.cg_graph.specs.Holdings.{occurrences}
use Rattle.cg_graph.specs.Value.{references}
use Rattle.cg_graph.specs.Store.{Store, Node, held_within, held_by, inner, count_of, IsLive, entries_of, entries_in, outside_of, outside_in}
use Rattle.cg_graph.specs.Changes.{made, new_node, with_entries}
use Rattle.cg_graph.proofs.Maps.{total-insert, get-insert_same, get-insert_other}
use Rattle.cg_arena.specs.Nodes.{ArenaNode, Nodes, count_in, counted_up, node_counted_up, with_node, new_node as new_arena_node}
use Rattle.cg_heap.specs.declared.heap.objects.Objects.{Objects}
use Rattle.cg_heap.proofs.ReferenceLemmas.{occurrences-one, one_if}
use Rattle.cg_heap.specs.Boxes.{code_index, bodies_at, HasBody, spare_in_box}
use Rattle.cg_heap.specs.Keeps.{HeapKeeps, Shape, Alike, size, one, node_from, seat_in, HasClass, IsWellMadeAt, IsGarbage}
use Rattle.cg_heap.proofs.BoxLemmas.{code_index-below}
use Rattle.cg_heap.proofs.HeapIsStore.{shape-up, up-counts, live-mapped, seat-up}
use Rattle.cg_heap.proofs.Room.{live-node}
use Rattle.cg_heap.proofs.Rewrites.{same_code, node_seated, object-of}
use Rattle.cg_heap.proofs.TakenEntries.{held-live}
use Rattle.cg_value.specs.declared.KindCode.TheVariants.{List as ListKind}

no_body : {X : Type 0} {Y : Type 0} (y : Option X) → y ≡ None → IsSome y → Y
no_body None e h = absurd (cc)
no_body (Some x) e h = absurd (cc)

module _ (all : List Bodies) (v : Nodes) (objects : Objects) (number : ℕ) (store : Store) (ok : HeapKeeps all v.nodes objects number store) (code : KindCode)
    (class : Option ℕ) (parts : List Entry) (body spare : ℕ) (vacant : fin.get (bodies_at all code) body ≡ None) (live : (s : ℕ)
    → 0 < occurrences s (references parts) → IsLive store s) (is_parts : IsParts code parts) (class_fits : HasClass code class) where
  abbrev serial : ℕ
  serial = store.last + 1

  abbrev after : Store
  after = made code class parts store

  abbrev pub all_made : List Bodies
  all_made = set all (code_index code) (with_body (bodies_at all code) body parts spare)

  abbrev pub added : Nodes
  added = with_node serial (new_arena_node code class body (first_place code)) v

  not_live : IsLive store serial → ⊥
  not_live h = absurd (omega (arith, ok.shape.below serial h))

  pub fresh : fin.get v.nodes serial ≡ None
  fresh = known (fin.get v.nodes serial) (fin.get store.nodes serial) (ok.shape.alike serial) not_live
    where
      known : (a : Option ArenaNode) (x : Option Node) → Alike all a x → (IsSome x → ⊥) → a ≡ None
      known None x h dead = refl
      known (Some n) None h dead = absurd h
      known (Some n) (Some x) h dead = absurd (dead refl)

  fresh_object : fin.get store.nodes serial ≡ None
  fresh_object = known (fin.get store.nodes serial) not_live
    where
      known : (x : Option Node) → (IsSome x → ⊥) → x ≡ None
      known None dead = refl
      known (Some x) dead = absurd (dead refl)

  made-same : (c : KindCode) → c ≡ code → bodies_at all_made c ≡ with_body (bodies_at all code) body parts spare
  made-same c e =
      ap (bodies_at all_made) e
      ∙ get_or-set_same all (code_index code) (with_body (bodies_at all code) body parts spare) fin.empty (omega (arith, ok.shape.six, code_index-below code))

  made-other : (c : KindCode) → c ≢ code → bodies_at all_made c ≡ bodies_at all c
  made-other c differs =
      get_or-set_other all (code_index code) (code_index c) (with_body (bodies_at all code) body parts spare) fin.empty (λ e. differs (same_code c code e))

  made-here : fin.get (bodies_at all_made code) body ≡ Some (body_of parts spare)
  made-here = ap (λ m. fin.get m body) (made-same code refl) ∙ get-insert_same (bodies_at all code) body body (body_of parts spare) refl

  made-kept : (m : ArenaNode) → HasBody all m.code m.body → fin.get (bodies_at all_made m.code) m.body ≡ fin.get (bodies_at all m.code) m.body
  made-kept m holds =
      elim (cases_eq (code_index m.code) (code_index code)) [
        | inl same ↦
            let is : m.code ≡ code = same_code m.code code same in
            ap (λ x. fin.get x m.body) (made-same m.code is)
            ∙ get-insert_other (bodies_at all code) body m.body (body_of parts spare)
            (λ b. no_body (fin.get (bodies_at all m.code) m.body) ((λ i. fin.get (bodies_at all (is i)) (b i)) ∙ vacant) holds)
            ∙ ap (λ c. fin.get (bodies_at all c) m.body) (sym is)
        | inr other ↦ ap (λ x. fin.get x m.body) (made-other m.code (λ e. other (ap code_index e)))
      ]

  where-other : (p : ℕ) → p ≢ serial → seat_in (fin.get added.nodes p) ≡ seat_in (fin.get v.nodes p)
  where-other p differs = ap seat_in (get-insert_other v.nodes serial p _ differs)

  where-same : (p : ℕ) → p ≡ serial → seat_in (fin.get added.nodes p) ≡ Some (code, body)
  where-same p same = ap seat_in (get-insert_same v.nodes serial p _ same)

  no-other : {Y : Type 0} (p : ℕ) (b : KindCode × ℕ) → seat_in (fin.get v.nodes p) ≡ Some b → b ≡ (code, body) → Y
  no-other {Y} p b e is = known (fin.get v.nodes p) (fin.get store.nodes p) (ok.shape.alike p) e
    where
      known : (a : Option ArenaNode) (x : Option Node) → Alike all a x → seat_in a ≡ Some b → Y
      known None x h e = absurd (cc)
      known (Some n) None h e = absurd h
      known (Some n) (Some x) h e =
          let here : ◌≡◌ {A = KindCode × ℕ} (n.code, n.body) (code, body) = some_same e ∙ is in
          no_body (fin.get (bodies_at all n.code) n.body) (ap (λ (q : KindCode × ℕ). fin.get (bodies_at all q.0) q.1) here ∙ vacant) h.1
        where
          some_same : {x y : KindCode × ℕ} → Some x ≡ Some y → x ≡ y
          some_same e = cc

  pair_of : {b : KindCode × ℕ} → Some (code, body) ≡ Some b → b ≡ (code, body)
  pair_of e = cc

  pub shape-made : Shape all_made added.nodes after
  shape-made =
      record {
        six = length-set all (code_index code) (with_body (bodies_at all code) body parts spare) ∙ ok.shape.six;
        alike = λ q. elim (cases_eq q serial) [
          | inl same ↦
              rw (get-insert_same v.nodes serial q (new_arena_node code class body (first_place code)) same, get-insert_same store.nodes serial q (new_node code class parts) same)
              (ap (λ b. with_entries (body_entries b) (new_node code class parts)) (sym made-here), rw made-here refl)
          | inr differs ↦
              rw (get-insert_other v.nodes serial q (new_arena_node code class body (first_place code)) differs, get-insert_other store.nodes serial q (new_node code class parts) differs)
              (known (fin.get v.nodes q) (fin.get store.nodes q) (ok.shape.alike q))
        ];
        apart = λ o p b e h. elim (cases_eq o serial) [
          | inl same ↦ elim (cases_eq p serial) [
            | inl same' ↦ same ∙ sym same'
            | inr differs ↦ no-other p b (sym (where-other p differs) ∙ h) (pair_of (sym (where-same o same) ∙ e))
          ]
          | inr differs ↦ elim (cases_eq p serial) [
            | inl same ↦ no-other o b (sym (where-other o differs) ∙ e) (pair_of (sym (where-same p same) ∙ h))
            | inr differs' ↦ ok.shape.apart o p b (sym (where-other o differs) ∙ e) (sym (where-other p differs') ∙ h)
          ]
        ];
        below = λ s h. elim (cases_eq s serial) [
          | inl same ↦ omega (arith, same)
          | inr differs ↦
              let was : IsLive store s = subst IsSome (get-insert_other store.nodes serial s (new_node code class parts) differs) h in
              omega (arith, ok.shape.below s was)
        ];
      }
    where
      known : (a : Option ArenaNode) (x : Option Node) → Alike all a x → Alike all_made a x
      known None None h = tt
      known None (Some x) h = absurd h
      known (Some m) None h = absurd h
      known (Some m) (Some x) h =
          let kept = made-kept m h.1 in
          (h.0 ∙ ap (λ b. with_entries (body_entries b) (node_from all m x.outside)) (sym kept), rw kept h.1)

  inner-made : (s : ℕ) → inner after s ≡ inner store s + occurrences s (references parts)
  unfolding held_within
  inner-made s =
      let none : part (held_by s) (fin.get store.nodes serial) ≡ 0 = ap (part (held_by s)) fresh_object in
      omega (arith, total-insert (held_by s) store.nodes serial (new_node code class parts), none)

  -- a part is live with the new node too
  live-added : (s : ℕ) → 0 < occurrences s (references parts) → IsSome (fin.get added.nodes s)
  live-added s there =
      elim (cases_eq s serial) [
        | inl same ↦ subst IsSome (sym (get-insert_same v.nodes serial s (new_arena_node code class body (first_place code)) same)) refl
        | inr differs ↦ subst IsSome (sym (get-insert_other v.nodes serial s (new_arena_node code class body (first_place code)) differs))
            (live-node all v.nodes objects number store ok s (live s there))
      ]

  pub made-counts : (s : ℕ) → count_in (fin.get (counted_up (serial ∷ []) added).nodes s) ≡ count_in (fin.get added.nodes s) + occurrences s (serial ∷ [])
  made-counts s =
      up-counts (serial ∷ []) added.nodes s
      (λ there. elim (cases_eq serial s) [
        | inl same ↦ subst IsSome (sym (get-insert_same v.nodes serial s (new_arena_node code class body (first_place code)) (sym same))) refl
        | inr differs ↦
            let none : one_if (serial == s) ≡ 0 = ap one_if (ne_eqb serial s differs) in
            absurd (omega (arith, there, none, occurrences-one s serial))
      ])

  abbrev pub counts : Nodes
  counts = counted_up (references parts) (counted_up (serial ∷ []) added)

  all-counts : (s : ℕ) → count_in (fin.get counts.nodes s) ≡ count_in (fin.get added.nodes s) + occurrences s (serial ∷ []) + occurrences s (references parts)
  all-counts s =
      up-counts (references parts) (counted_up (serial ∷ []) added).nodes s (λ there. live-mapped (λ s n. node_counted_up (occurrences s (serial ∷ [])) n) added.nodes s (live-added s there))
      ∙ ap (λ k. k + occurrences s (references parts)) (made-counts s)

  counted-made : (s : ℕ) → count_in (fin.get counts.nodes s) ≡ count_of after s
  counted-made s =
      elim (cases_eq serial s) [
        | inl same ↦
            let one : one_if (serial == s) ≡ 1 = ap one_if (eq-eqb serial s same) in
            let node : count_in (fin.get added.nodes s) ≡ 0 = ap count_in (get-insert_same v.nodes serial s (new_arena_node code class body (first_place code)) (sym same)) in
            let out : outside_of after s ≡ 1 = ap outside_in (get-insert_same store.nodes serial s (new_node code class parts) (sym same)) in
            let was : count_in (fin.get v.nodes s) ≡ 0 = ap (λ k. count_in (fin.get v.nodes k)) (sym same) ∙ ap count_in fresh in
            omega (arith, all-counts s, one, occurrences-one s serial, node, out, was, ok.counted s, inner-made s)
        | inr differs ↦
            let one : one_if (serial == s) ≡ 0 = ap one_if (ne_eqb serial s differs) in
            let node : count_in (fin.get added.nodes s) ≡ count_in (fin.get v.nodes s) =
            ap count_in (get-insert_other v.nodes serial s (new_arena_node code class body (first_place code)) (λ e. differs (sym e))) in
            let out : outside_of after s ≡ outside_of store s = ap outside_in (get-insert_other store.nodes serial s (new_node code class parts) (λ e. differs (sym e))) in
            omega (arith, all-counts s, one, occurrences-one s serial, node, out, ok.counted s, inner-made s)
      ]

  root_live : IsLive store 1
  unfolding held_within
  root_live = held-live all v.nodes objects number store ok 1 (omega arith)

  root-kept : entries_of after 1 ≡ entries_of store 1
  root-kept =
      ap entries_in (get-insert_other store.nodes serial 1 (new_node code class parts) (λ e. absurd (let low = ok.shape.below 1 root_live in omega (arith, e, low))))

  well-made : (s : ℕ) → IsWellMadeAt (fin.get after.nodes s)
  well-made s =
      elim (cases_eq s serial) [
        | inl same ↦ subst IsWellMadeAt (sym (get-insert_same store.nodes serial s (new_node code class parts) same)) (record {
          items = λ list. subst (λ c. IsParts c parts) list is_parts;
          classed = class_fits;
          single = λ weak. subst (λ c. IsParts c parts) weak is_parts;
        })
        | inr differs ↦ subst IsWellMadeAt (sym (get-insert_other store.nodes serial s (new_node code class parts) differs)) (ok.well s)
      ]

  spare-made : spare_in_box all_made ListKind ok.root.body ≡ spare_in_box all ListKind ok.root.body
  spare-made =
      let (m, at, c, b) = node_seated (fin.get v.nodes 1) ListKind ok.root.body ok.root.seat in
      let (x, found, is, has) = object-of all v.nodes store.nodes 1 m (ok.shape.alike 1) at in
      (λ i. spare_in_box all_made (sym c i) (sym b i)) ∙ ap spare_of (made-kept m has) ∙ (λ i. spare_in_box all (c i) (b i))

  pub keeps-made : objects.live < objects.savable → objects.live < 1000000 → number + length parts ≤ 4000000
      → HeapKeeps all_made counts.nodes (record objects { live = objects.live + 1 }) (number + length parts) after
  keeps-made more few fits =
      record {
        shape = shape-up all_made (counted_up (serial ∷ []) added).nodes after (shape-up all_made added.nodes after shape-made (serial ∷ [])) (references parts);
        counted = counted-made;
        well = well-made;
        numbered =
            let none : part one (fin.get store.nodes serial) ≡ 0 = ap (part one) fresh_object in
            omega (arith, total-insert one store.nodes serial (new_node code class parts), none, ok.numbered);
        sized =
            let none : part size (fin.get store.nodes serial) ≡ 0 = ap (part size) fresh_object in
            omega (arith, total-insert size store.nodes serial (new_node code class parts), none, ok.sized, ap length root-kept);
        object_limit = omega (arith, few);
        entry_limit = fits;
        saves = subst IsGarbage (sym root-kept) ok.saves;
        root = record {
          body = ok.root.body;
          seat = seat-up (references parts) (counted_up (serial ∷ []) added).nodes 1 ∙ seat-up (serial ∷ []) added.nodes 1
              ∙ where-other 1 (λ e. let low = ok.shape.below 1 root_live in absurd (omega (arith, e, low))) ∙ ok.root.seat;
          enough = omega (arith, more);
          ready =
              let len : length (entries_of after 1) ≡ length (entries_of store 1) = ap length root-kept in
              omega (arith, spare-made, len, ok.root.ready);
        };
        garbage = subst (λ es. length es ≤ 1000000) (sym root-kept) ok.garbage;
        names = ok.names;
      }
