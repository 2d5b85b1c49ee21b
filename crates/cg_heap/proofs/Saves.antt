-- The garbage list: its room, and saving an object.
use Rattle.std.proofs.Common.{◌≡◌, ◌≢◌, ℕ, suc, ◌+◌, ◌-◌, ◌<◌, ◌≤◌, List, [], ◌∷◌, ◌++◌, length, Option, Some, None, IsSome, refl, sym, ap, ◌∙◌, subst, inl, inr, arith, length-append}
use Rattle.std.specs.Prelude.{All, IfSome, ◌==◌}
use Rattle.std.proofs.lemmas.Bool.{cases_eq, eq-eqb, ne_eqb}
use Rattle.std.proofs.lemmas.List.{set-get_or}
use Rattle.std.proofs.lemmas.List.Elements.{All-head, All-tail, All-push}
use Rattle.std.proofs.lemmas.Option.{some_pair_parts}
use Rattle.std.specs.Ordering.{nat_cmp}
use Rattle.std.specs.FinMap as fin
use Rattle.cg_value.specs.declared.Val.{Val}
use Rattle.cg_value.specs.declared.Val.TheVariants as val
use Rattle.cg_value.specs.declared.Entry.{Entry}
use Rattle.cg_value.specs.declared.KindCode.TheVariants.{List as ListKind}
use Rattle.cg_kind.specs.Bodies.{Body, Bodies, body_of, entries_of as body_entries, spare_of, with_body}
use Rattle.cg_graph.specs.Maps.{total, part}
use Rattle.cg_graph.specs.Holdings.{occurrences}
use Rattle.cg_graph.specs.Value.{references, entry_references, item}
use Rattle.cg_graph.specs.Rows.{Row}
use Rattle.cg_graph.specs.Store.{Store, Node, IsLive, entries_of, entries_in}
use Rattle.cg_graph.specs.Changes.{rewritten, with_entries}
use Rattle.cg_graph.proofs.Maps.{same_map, total-remove, get-insert_same, get-insert_other, get-remove_other}
use Rattle.cg_arena.specs.Nodes.{ArenaNode, Nodes, counted_up}
use Rattle.cg_heap.specs.declared.heap.objects.Objects.{Objects}
use Rattle.cg_heap.proofs.HoldLemmas.{outside-rewritten}
use Rattle.cg_heap.proofs.ReferenceLemmas.{occurrences-append, push-item, occurrences-le, occurrences-one, one_if}
use Rattle.cg_heap.specs.Boxes.{HasBody, code_index, bodies_at, entries_in_box, spare_in_box, boxes_with, boxes_with_body}
use Rattle.cg_heap.specs.Keeps.{HeapKeeps, Shape, store_of, one, seat_in, IsSaved, IsGarbage, IsWellMade, CanSave, CanSaveOneMore}
use Rattle.cg_heap.proofs.HeapIsStore.{Closed, closed, shape-up, seat-up, up-counts}
use Rattle.cg_heap.proofs.Room.{live-node}
use Rattle.cg_heap.proofs.Rewrites.{node_seated, object-of, rewritten-same, shape-written, spare-written, inner-written, ones-written, well-written, sizes-written, entries-written}
use Rattle.cg_heap.proofs.TakenEntries.{held-live}
use Rattle.cg_heap.proofs.Puts.{well-append}
use Rattle.cg_heap.proofs.CallerLemmas.{kinds-rewritten, total-rewritten}
use Rattle.cg_heap.proofs.RowsAndHolds.{kept}
use Rattle.cg_heap.proofs.Calls.{has_node, root_live, garbage_is, garbage_seat}
use Rattle.cg_heap.proofs.CallsOnSeats.{has_body, entries_are}

one_there : (y : Option Node) → IsSome y → part one y ≡ 1
one_there None h = absurd (cc)
one_there (Some y) h = refl

occurs_head : (x : ℕ) (xs : List ℕ) → occurrences x (x ∷ xs) ≡ suc (occurrences x xs)
occurs_head x xs =
    let one : one_if (x == x) ≡ 1 = ap one_if (eq-eqb x x refl) in
    omega (arith, occurrences-append x (x ∷ []) xs, occurrences-one x x, one)

-- distinct serials of objects are at most as many as the objects
pub no_more_than : (xs : List ℕ) (m : fin.FinMap nat_cmp Node) → ((s : ℕ) → occurrences s xs ≤ 1) → ((s : ℕ) → 0 < occurrences s xs → IsSome (fin.get m s)) → length xs ≤ total one m
no_more_than [] m once live = omega arith
no_more_than (x ∷ xs) m once live =
    let rest = no_more_than xs (fin.remove m x) (λ s. omega (arith, occurrences-append s (x ∷ []) xs, once s)) (λ s there.
    subst IsSome (sym (get-remove_other m x s (λ same.
    let twice : occurrences x xs ≡ occurrences s xs = ap (λ k. occurrences k xs) (sym same) in
    absurd (omega (arith, occurs_head x xs, once x, twice, there)))))
    (live s (omega (arith, occurrences-append s (x ∷ []) xs, there)))) in
    let here : part one (fin.get m x) ≡ 1 = one_there (fin.get m x) (live x (omega (arith, occurs_head x xs))) in
    omega (arith, rest, total-remove one m x, here)

-- each entry of the garbage list holds one object
saved_length : (es : List Entry) → All IsSaved es → length (references es) ≡ length es
saved_length [] h = refl
saved_length (e ∷ es) h =
    let (s, is) = All-head IsSaved e es h in
    let one : length (entry_references e) ≡ 1 = ap (λ y. length (entry_references y)) is in
    omega (arith, one, length-append (entry_references e) (references es), saved_length es (All-tail IsSaved e es h))

module _ (all : List Bodies) (v : Nodes) (objects : Objects) (number : ℕ) (store : Store) (ok : HeapKeeps all v.nodes objects number store) (n : ArenaNode) (found : fin.get v.nodes 1 ≡ Some n) where
  saved_live : (s : ℕ) → 0 < occurrences s (1 ∷ references (entries_of store 1)) → IsLive store s
  saved_live s has =
      let (x, at, is, body) = object-of all v.nodes store.nodes 1 n (ok.shape.alike 1) found in
      elim (cases_eq s 1) [
        | inl same ↦ subst (IsLive store) (sym same) (subst IsSome (sym at) refl)
        | inr differs ↦
            let none : one_if (1 == s) ≡ 0 = ap one_if (ne_eqb 1 s (λ e. differs (sym e))) in
            let was : occurrences s (references x.entries) ≡ occurrences s (references (entries_of store 1)) = ap (λ y. occurrences s (references (entries_in y))) (sym at) in
            held-live all v.nodes objects number store ok s (omega (
              arith,
              inner-written store 1 x at [] s,
              was,
              has,
              none,
              occurrences-one s 1,
              occurrences-append s (1 ∷ []) (references (entries_of store 1)),
            ))
      ]

  -- the garbage list names live objects, each once
  pub saved_fit : length (entries_of store 1) ≤ objects.live
  saved_fit =
      let fits = no_more_than (1 ∷ references (entries_of store 1)) store.nodes ok.saves.once saved_live in
      omega (arith, fits, saved_length (entries_of store 1) ok.saves.saved, ok.numbered)

  -- and fewer than all if it does not name this one
  module _ (o : ℕ) (live : IsLive store o) (other : o ≢ 1) (new : occurrences o (references (entries_of store 1)) ≡ 0) where
    once_more : (s : ℕ) → occurrences s (o ∷ 1 ∷ references (entries_of store 1)) ≤ 1
    once_more s =
        elim (cases_eq s o) [
          | inl same ↦
              let none : one_if (1 == s) ≡ 0 = ap one_if (ne_eqb 1 s (λ e. other (sym same ∙ sym e))) in
              let here : occurrences s (references (entries_of store 1)) ≡ 0 = ap (λ k. occurrences k (references (entries_of store 1))) same ∙ new in
              omega (
                arith,
                occurrences-append s (o ∷ []) (1 ∷ references (entries_of store 1)),
                occurrences-append s (1 ∷ [])
                    (references (entries_of store 1)),
                occurrences-le s (o ∷ []),
                occurrences-one s 1,
                none,
                here,
              )
          | inr differs ↦
              let none : one_if (o == s) ≡ 0 = ap one_if (ne_eqb o s (λ e. differs (sym e))) in
              omega (arith, occurrences-append s (o ∷ []) (1 ∷ references (entries_of store 1)), occurrences-one s o, none, ok.saves.once s)
        ]

    live_too : (s : ℕ) → 0 < occurrences s (o ∷ 1 ∷ references (entries_of store 1)) → IsLive store s
    live_too s has =
        elim (cases_eq s o) [
          | inl same ↦ subst (IsLive store) (sym same) live
          | inr differs ↦
              let none : one_if (o == s) ≡ 0 = ap one_if (ne_eqb o s (λ e. differs (sym e))) in
              saved_live s (omega (arith, occurrences-append s (o ∷ []) (1 ∷ references (entries_of store 1)), occurrences-one s o, none, has))
        ]

    pub saved_fewer : length (entries_of store 1) < objects.live
    saved_fewer =
        let fits = no_more_than (o ∷ 1 ∷ references (entries_of store 1)) store.nodes once_more live_too in
        omega (arith, fits, saved_length (entries_of store 1) ok.saves.saved, ok.numbered)

    abbrev es : List Entry
    es = entries_of store 1 ++ item (val.Ref o) ∷ []

    keeps-saved : n.code ≡ ListKind → n.body ≡ ok.root.body → (spare : ℕ) → spare_in_box all n.code n.body ≤ spare + 1
        → HeapKeeps (boxes_with_body all n.code n.body es spare) (counted_up (o ∷ []) v).nodes objects number (rewritten 1 es store)
    keeps-saved list at_root spare less =
        let (x, at, is, body) = object-of all v.nodes store.nodes 1 n (ok.shape.alike 1) found in
        let now : entries_of (rewritten 1 es store) 1 ≡ es = entries-written store 1 x at es in
        let len : length x.entries ≡ length (entries_of store 1) = ap (λ y. length (entries_in y)) (sym at) in
        let longer : length es ≡ length (entries_of store 1) + 1 = length-append (entries_of store 1) (item (val.Ref o) ∷ []) in
        let after : length (entries_of (rewritten 1 es store) 1) ≡ length es = ap length now in
        record {
          shape = shape-up _ v.nodes (rewritten 1 es store) (shape-written all v.nodes store ok.shape 1 n found es spare) (o ∷ []);
          counted = λ s.
              let was : occurrences s (references x.entries) ≡ occurrences s (references (entries_of store 1)) = ap (λ y. occurrences s (references (entries_in y))) (sym at) in
              omega (
                arith,
                ok.counted s,
                inner-written store 1 x at es s,
                was,
                push-item s (entries_of store 1) (val.Ref o),
                outside-rewritten 1 es store s,
                up-counts (o ∷ []) v.nodes s (λ has. elim (cases_eq s o) [
                  | inl same ↦ subst (λ k. IsSome (fin.get v.nodes k)) (sym same) (live-node all v.nodes objects number store ok o live)
                  | inr differs ↦
                      let none : one_if (o == s) ≡ 0 = ap one_if (ne_eqb o s (λ e. differs (sym e))) in
                      absurd (omega (arith, has, none, occurrences-one s o))
                ]),
              );
          well = well-written store 1 x at es ok.well (λ good. subst (λ (l : List Entry). IsWellMade (with_entries (l ++ item (val.Ref o) ∷ []) x))
              (sym (ap entries_in at)) (well-append x (val.Ref o) (ap (λ (y : Node). y.code) is ∙ list) good));
          numbered = ones-written store 1 x at es ∙ ok.numbered;
          sized = omega (arith, sizes-written store 1 x at es, len, longer, after, ok.sized);
          object_limit = ok.object_limit;
          entry_limit = ok.entry_limit;
          saves = subst IsGarbage (sym now) (record {
            saved = All-push IsSaved (entries_of store 1) (item (val.Ref o)) ok.saves.saved (o, refl);
            once = λ s. omega (
              arith,
              once_more s,
              occurrences-append s (o ∷ []) (1 ∷ references (entries_of store 1)),
              occurrences-append s (1 ∷ [])
                  (references es),
              occurrences-append s (1 ∷ []) (references (entries_of store 1)),
              push-item s (entries_of store 1) (val.Ref o),
            );
          });
          root = record {
            body = ok.root.body;
            seat = seat-up (o ∷ []) v.nodes 1 ∙ ok.root.seat;
            enough = ok.root.enough;
            ready =
                let spare_now : spare_in_box (boxes_with_body all n.code n.body es spare) ListKind ok.root.body ≡ spare =
                (λ i. spare_in_box (boxes_with_body all n.code n.body es spare) (sym list i) (sym at_root i)) ∙ spare-written all v.nodes store ok.shape 1 n
                found es spare in
                let spare_was : spare_in_box all n.code n.body ≡ spare_in_box all ListKind ok.root.body = (λ i. spare_in_box all (list i) (at_root i)) in
                omega (arith, spare_now, spare_was, less, longer, after, ok.root.ready);
          };
          garbage = omega (arith, after, longer, saved_fewer, ok.object_limit);
          names = ok.names;
        }

  -- the garbage list gets more room
  keeps-reserved : n.code ≡ ListKind → n.body ≡ ok.root.body → (spare savable : ℕ) → objects.live ≤ savable → savable ≤ length (entries_of store 1) + spare
      → HeapKeeps (boxes_with_body all n.code n.body (entries_of store 1) spare) v.nodes (record objects { savable = savable }) number store
  keeps-reserved list at_root spare savable enough ready = record {
    shape = subst (λ s. Shape (boxes_with_body all n.code n.body (entries_of store 1) spare) v.nodes s) (rewritten-same store 1)
        (shape-written all v.nodes store ok.shape 1 n found (entries_of store 1) spare);
    counted = ok.counted;
    well = ok.well;
    numbered = ok.numbered;
    sized = ok.sized;
    object_limit = ok.object_limit;
    entry_limit = ok.entry_limit;
    saves = ok.saves;
    root = record {
      body = ok.root.body;
      seat = ok.root.seat;
      enough = enough;
      ready =
          let spare_now : spare_in_box (boxes_with_body all n.code n.body (entries_of store 1) spare) ListKind ok.root.body ≡ spare =
          (λ i. spare_in_box (boxes_with_body all n.code n.body (entries_of store 1) spare) (sym list i) (sym at_root i)) ∙ spare-written all v.nodes store
          ok.shape 1 n found (entries_of store 1) spare in
          omega (arith, spare_now, ready);
    };
    garbage = ok.garbage;
    names = ok.names;
  }

-- a fact of the body that a node names
pub body_told : (P : ℕ → Type 0) (a : Option ArenaNode) (body : ℕ) → IfSome a (λ n. body ≡ n.body) → P body → IfSome a (λ n. P n.body)
body_told P None body told h = tt
body_told P (Some n) body told h = subst P told h

pub told_body : (P : ℕ → Type 0) (a : Option ArenaNode) (body : ℕ) → IsSome a → IfSome a (λ n. body ≡ n.body) → IfSome a (λ n. P n.body) → P body
told_body P None body some told h = absurd (cc)
told_body P (Some n) body some told h = subst P (sym told) h

-- a body written as it is
body_there : (b : Option Body) → IsSome b → b ≡ Some (body_of (body_entries b) (spare_of b))
body_there None there = absurd (cc)
body_there (Some b) there = refl

pub same_body : (all : List Bodies) (body : ℕ) → HasBody all ListKind body → all
    ≡ boxes_with_body all ListKind body (entries_in_box all ListKind body) (spare_in_box all ListKind body)
same_body all body held =
    let is = body_there (fin.get (bodies_at all ListKind) body) held in
    let inserted : with_body (bodies_at all ListKind) body (entries_in_box all ListKind body) (spare_in_box all ListKind body) ≡ bodies_at all ListKind =
    same_map _ _ (λ q. elim (cases_eq q body) [
      | inl same ↦ get-insert_same (bodies_at all ListKind) body q (body_of (entries_in_box all ListKind body) (spare_in_box all ListKind body)) same
          ∙ sym is ∙ ap (fin.get (bodies_at all ListKind)) (sym same)
      | inr differs ↦ get-insert_other (bodies_at all ListKind) body q (body_of (entries_in_box all ListKind body) (spare_in_box all ListKind body)) differs
    ]) in
    sym (ap (boxes_with all ListKind) inserted ∙ set-get_or all (code_index ListKind) fin.empty)

-- there is room already
pub can_already : (a : Option ArenaNode) (all : List Bodies) (objects : Objects) → objects.live < objects.savable → IfSome a (λ n. CanSave all objects n.body)
    → IfSome a (λ n. CanSaveOneMore all all objects.live objects.savable n.body)
can_already None all objects more can = tt
can_already (Some n) all objects more can = record { same = same_body all n.body can.held; more = more; ready = can.ready }

module _ {all : List Bodies} {v : Nodes} {names : List (Option Val)} {last : ℕ} {rows : List Row} {objects : Objects} {number : ℕ} {old : Store}
    (h : Closed all v names last rows objects number old) (body : ℕ) (told : IfSome (fin.get v.nodes 1) (λ n. body ≡ n.body)) where
  abbrev was : Store
  was = store_of all v names last rows

  abbrev root : (n : ArenaNode) × (fin.get v.nodes 1 ≡ Some n) × (n.code ≡ ListKind) × (n.body ≡ body)
  root = node_seated (fin.get v.nodes 1) ListKind body (garbage_seat h body told)

  at_root : root.0.body ≡ h.keeps.0.root.body
  at_root = root.3 ∙ garbage_is h body told

  pub garbage_held : HasBody all ListKind body
  garbage_held = has_body h 1 ListKind body (garbage_seat h body told)

  garbage_entries : entries_in_box all ListKind body ≡ entries_of old 1
  garbage_entries = entries_are h 1 ListKind body (garbage_seat h body told)

  entries_was : entries_of old 1 ≡ entries_of was 1
  entries_was = ap (λ s. entries_of s 1) (sym h.is)

  garbage_length : length (entries_in_box all ListKind body) ≡ length (entries_of was 1)
  garbage_length = ap length (garbage_entries ∙ entries_was)

  garbage_room : spare_in_box all ListKind body ≡ spare_in_box all ListKind h.keeps.0.root.body
  garbage_room = ap (spare_in_box all ListKind) (garbage_is h body told)

  can_save_here : CanSave all objects body
  can_save_here = record {
    held = garbage_held;
    few = omega (arith, garbage_length, saved_fit all v objects number was h.keeps.0 root.0 root.1);
    ready = omega (arith, garbage_length, garbage_room, h.keeps.0.root.ready);
  }

  -- after reserving room
  reserved_here : (savable : ℕ) (all' : List Bodies) → CanSaveOneMore all all' objects.live savable body
      → Closed all' v names last rows (record objects { savable = savable }) number old
  reserved_here savable all' can =
      subst (λ s. Closed all' v names last rows (record objects { savable = savable }) number s) h.is
      (subst (λ bs. Closed bs v names last rows (record objects { savable = savable }) number was)
      (sym (can.same ∙ (λ i. boxes_with_body all (sym root.2 i) (sym root.3 i) ((garbage_entries ∙ entries_was) i) (spare_in_box all' ListKind body))))
      (closed (boxes_with_body all root.0.code root.0.body (entries_of was 1) (spare_in_box all' ListKind body)) v (record objects { savable = savable }) number was
      (keeps-reserved all v objects number was h.keeps.0 root.0 root.1 root.2 at_root (spare_in_box all' ListKind body) savable (omega (arith, can.more))
      (omega (arith, garbage_length, can.ready)))
      h.keeps.1 refl))

  -- after saving an object
  module _ (o : ℕ) (live : IsLive old o) (other : o ≢ 1) (new : occurrences o (references (entries_of old 1)) ≡ 0) where
    live_was : IsLive was o
    live_was = subst (λ s. IsLive s o) (sym h.is) live

    new_was : occurrences o (references (entries_of was 1)) ≡ 0
    new_was = subst (λ s. occurrences o (references (entries_of s 1)) ≡ 0) (sym h.is) new

    pub room_to_save : 0 < spare_in_box all ListKind body
    room_to_save =
        let fewer = saved_fewer all v objects number was h.keeps.0 root.0 root.1 o live_was other new_was in
        omega (arith, fewer, garbage_room, h.keeps.0.root.enough, h.keeps.0.root.ready)

    pub after_save : (all' : List Bodies) → all' ≡ boxes_with_body all ListKind body (entries_in_box all ListKind body ++ item (val.Ref o) ∷ [])
        (spare_in_box all ListKind body - 1) → (v' : Nodes) → v' ≡ counted_up (o ∷ []) v
        → Closed all' v' names last rows objects number (rewritten 1 (entries_of old 1 ++ item (val.Ref o) ∷ []) old)
    after_save all' is v' counts =
        subst (λ s. Closed all' v' names last rows objects number (rewritten 1 (entries_of s 1 ++ item (val.Ref o) ∷ []) s)) h.is
        (subst (λ bs. Closed bs v' names last rows objects number (rewritten 1 (entries_of was 1 ++ item (val.Ref o) ∷ []) was))
        (sym (is ∙ (λ i. boxes_with_body all (sym root.2 i) (sym root.3 i) ((garbage_entries ∙ entries_was) i ++ item (val.Ref o) ∷ [])
        (spare_in_box all ListKind body - 1))))
        (subst (λ w. Closed (boxes_with_body all root.0.code root.0.body (entries_of was 1 ++ item (val.Ref o) ∷ []) (spare_in_box all ListKind body - 1)) w
        names last rows objects number (rewritten 1 (entries_of was 1 ++ item (val.Ref o) ∷ []) was)) (sym counts)
        (closed (boxes_with_body all root.0.code root.0.body (entries_of was 1 ++ item (val.Ref o) ∷ []) (spare_in_box all ListKind body - 1))
        (counted_up (o ∷ []) v) objects number (rewritten 1 (entries_of was 1 ++ item (val.Ref o) ∷ []) was)
        (keeps-saved all v objects number was h.keeps.0 root.0 root.1 o live_was other new_was root.2 at_root (spare_in_box all ListKind body - 1)
        (let same : spare_in_box all root.0.code root.0.body ≡ spare_in_box all ListKind body = (λ i. spare_in_box all (root.2 i) (root.3 i)) in omega (arith, same)))
        (kept was (rewritten 1 (entries_of was 1 ++ item (val.Ref o) ∷ []) was) (kinds-rewritten 1 (entries_of was 1 ++ item (val.Ref o) ∷ []) was) refl
        (omega (arith, total-rewritten 1 (entries_of was 1 ++ item (val.Ref o) ∷ []) was, h.keeps.1.holds)) h.keeps.1)
        refl)))

module _ {all : List Bodies} {v : Nodes} {names : List (Option Val)} {last : ℕ} {rows : List Row} {objects : Objects} {number : ℕ} {old : Store}
    (h : Closed all v names last rows objects number old) where
  -- the node of the garbage list names its body
  root_told : IfSome (fin.get v.nodes 1) (λ n. h.keeps.0.root.body ≡ n.body)
  root_told = known (fin.get v.nodes 1) h.keeps.0.root.seat
    where
      known : (a : Option ArenaNode) → seat_in a ≡ Some (ListKind, h.keeps.0.root.body) → IfSome a (λ n. h.keeps.0.root.body ≡ n.body)
      known None e = tt
      known (Some n) e = sym (some_pair_parts n.code ListKind n.body h.keeps.0.root.body e).1

  -- before and after room for one more object is reserved
  pub can_save : IfSome (fin.get v.nodes 1) (λ n. CanSave all objects n.body)
  can_save = body_told (λ b. CanSave all objects b) (fin.get v.nodes 1) h.keeps.0.root.body root_told (can_save_here h h.keeps.0.root.body root_told)

  pub after_reserve : (savable : ℕ) (all' : List Bodies) → IfSome (fin.get v.nodes 1) (λ n. CanSaveOneMore all all' objects.live savable n.body)
      → Closed all' v names last rows (record objects { savable = savable }) number old
  after_reserve savable all' can =
      reserved_here h h.keeps.0.root.body root_told savable all'
      (told_body (λ b. CanSaveOneMore all all' objects.live savable b) (fin.get v.nodes 1) h.keeps.0.root.body (has_node h 1 (root_live h)) root_told can)

  pub can_make : (savable : ℕ) (all' : List Bodies) → IfSome (fin.get v.nodes 1) (λ n. CanSaveOneMore all all' objects.live savable n.body) → objects.live < savable
  can_make savable all' can =
      (told_body (λ b. CanSaveOneMore all all' objects.live savable b) (fin.get v.nodes 1) h.keeps.0.root.body (has_node h 1 (root_live h)) root_told can).more
