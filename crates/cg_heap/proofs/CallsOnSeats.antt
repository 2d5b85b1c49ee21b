-- The effect of calls on one object's entries, by its seat.
use Rattle.std.proofs.Common.{◌≡◌, ◌≢◌, ℕ, suc, ◌+◌, ◌-◌, ◌<◌, ◌≤◌, List, [], ◌∷◌, ◌++◌, length, remove, slice_get, Option, Some, None, IsSome, refl, sym, ap, ◌∙◌, subst, inl, inr, arith, length-append}
use Rattle.std.specs.Prelude.{All, ◌&&◌, ◌||◌, IfSome}
use Rattle.std.proofs.lemmas.Bool.{cases_eq}
use Rattle.std.proofs.lemmas.Option.{some_pair_parts, slice_get_within}
use Rattle.std.specs.FinMap as fin
use Rattle.cg_value.specs.declared.Val.{Val}
use Rattle.cg_value.specs.declared.Entry.{Entry}
use Rattle.cg_value.specs.declared.KindCode.{KindCode}
use Rattle.cg_value.specs.declared.KindCode.TheVariants.{List as ListKind}
use Rattle.cg_kind.specs.Bodies.{Bodies}
use Rattle.cg_kind.specs.Calls.{AreItems, CanPut, value_under, after_put, after_take, after_take_key, spare_after_leave}
use Rattle.cg_kind.proofs.KeyLemmas.{stands_somewhere, after_take-key}
use Rattle.cg_graph.specs.Holdings.{occurrences}
use Rattle.cg_graph.specs.Value.{references, entry_references, references_of_value, item, without_last, without_key, entry_at as entry_under}
use Rattle.cg_graph.specs.Places.{place_number, leaves_list}
use Rattle.cg_graph.specs.Rows.{Row}
use Rattle.cg_graph.specs.Store.{Store, Node, count_of, IsLive, HasCode, entries_of, entries_in}
use Rattle.cg_graph.specs.Changes.{held, rewritten, gone, with_entries}
use Rattle.cg_arena.specs.Nodes.{ArenaNode, Nodes, counted_up, with_room, without_node}
use Rattle.cg_heap.specs.declared.heap.objects.Objects.{Objects}
use Rattle.cg_heap.proofs.ReferenceLemmas.{occurrences-append, references-remove, length-remove, last-remove, push-item, refs-are, reference-le, entry-le}
use Rattle.cg_heap.specs.Boxes.{HasBody, entries_in_box, boxes_with_body, boxes_without, spare_in_box}
use Rattle.cg_heap.specs.Keeps.{store_of, seat_in, IsWellMade, IsWellMadeAt, IsSaved}
use Rattle.cg_heap.specs.Calls.{HasFewHolds, number_less, code_in, code_of, IsMutable, CanTake, CanPutIn, IsLiveValue, value_in, with_put, is_dict_at, may_be_tracked, becomes_tracked}
use Rattle.cg_heap.proofs.HeapIsStore.{Closed, closed}
use Rattle.cg_heap.proofs.Rewrites.{object-of, node_seated}
use Rattle.cg_heap.proofs.TakenEntries.{keeps-taken, enough}
use Rattle.cg_heap.proofs.Puts.{keeps-put, replaced-balance, replaced-were, replaced-length, added-put, added-balance, well-put, well-append, well-remove, well-last, All-remove}
use Rattle.cg_heap.proofs.Moves.{same-place, keeps-gone, others}
use Rattle.cg_heap.proofs.CountAll.{counted_twice}
use Rattle.cg_heap.specs.Weak.{IsInNoRow}
use Rattle.cg_heap.specs.Keeps.{outside_total}
use Rattle.cg_heap.proofs.CallerLemmas.{KeepsKinds, kinds-held, kinds-rewritten, total-held, total-rewritten}
use Rattle.cg_heap.proofs.RowsAndHolds.{kept, kept-gone}
use Rattle.std.proofs.lemmas.List.Elements.{All-take}
use Rattle.cg_heap.proofs.Calls.{has_node, total_is, holds_fit, keeps-aside, held-none, takes, place_told}
use Rattle.cg_heap.proofs.TrackedDictionaries.{dict_here}
use Rattle.cg_value.specs.declared.Place.{Place}

module _ {all : List Bodies} {v : Nodes} {names : List (Option Val)} {last : ℕ} {rows : List Row} {objects : Objects} {number : ℕ} {old : Store}
    (h : Closed all v names last rows objects number old) where
  abbrev was : Store
  was = store_of all v names last rows

  -- an object, by its seat
  module _ (o : ℕ) (code : KindCode) (body : ℕ) (seat : seat_in (fin.get v.nodes o) ≡ Some (code, body)) where
    abbrev there : (n : ArenaNode) × (fin.get v.nodes o ≡ Some n) × (n.code ≡ code) × (n.body ≡ body)
    there = node_seated (fin.get v.nodes o) code body seat

    object_there : (x : Node) × (fin.get old.nodes o ≡ Some x) × (x.code ≡ code) × (x.entries ≡ entries_in_box all code body) × HasBody all code body
    object_there =
        let (x, at, is, has) = object-of all v.nodes was.nodes o there.0 (h.keeps.0.shape.alike o) there.1 in (
          x,
          ap (λ (s : Store). fin.get s.nodes o) (sym h.is) ∙ at,
          ap (λ (y : Node). y.code) is ∙ there.2,
          ap (λ (y : Node). y.entries) is ∙ (λ i. entries_in_box all (there.2 i) (there.3 i)),
          subst (λ (q : KindCode × ℕ). HasBody all q.0 q.1) (λ i. (there.2 i, there.3 i)) has,
        )

    pub has_body : HasBody all code body
    has_body = object_there.4

    pub entries_are : entries_in_box all code body ≡ entries_of old o
    entries_are = sym object_there.3 ∙ sym (ap entries_in object_there.1)

    pub code_is : code ≡ code_of old o
    code_is = sym object_there.2 ∙ sym (ap code_in object_there.1)

    -- an object has one kind
    pub has_code : HasCode old o code
    has_code = (object_there.0, object_there.1, object_there.2)

    pub no_other : (c : KindCode) → code ≢ c → HasCode old o c → ⊥
    no_other c differs has = differs (sym object_there.2 ∙ ap code_in (sym object_there.1 ∙ has.1) ∙ has.2)

    well_there : (x : Node) → fin.get old.nodes o ≡ Some x → IsWellMade x
    well_there x at = subst IsWellMadeAt (ap (λ (s : Store). fin.get s.nodes o) h.is ∙ at) (h.keeps.0.well o)

    pub has_number : 0 < length (entries_of old o) → o ≢ 1 → 0 < number
    has_number some other = enough all v objects number was h.keeps.0 o there.0 there.1 [] 0 (subst (λ s. 0 < length (entries_of s o)) (sym h.is) some) other

    boxes_are : (es : List Entry) (spare : ℕ) → boxes_with_body all code body es spare ≡ boxes_with_body all there.0.code there.0.body es spare
    boxes_are es spare = λ i. boxes_with_body all (sym there.2 i) (sym there.3 i) es spare

    -- new entries and holds free no object
    kinds-put : (refs : List ℕ) (es : List Entry) → KeepsKinds was (held refs (rewritten o es was))
    kinds-put refs es s c has = kinds-held refs (rewritten o es was) s c (kinds-rewritten o es was s c has)

    -- after changing entries
    after_entries : (es : List Entry) (spare : ℕ) (all' : List Bodies) → all' ≡ boxes_with_body all code body es spare → (ups outs : List ℕ)
        → ((s : ℕ) → occurrences s (references es) + occurrences s outs ≡ occurrences s (references (entries_of old o)) + occurrences s ups)
        → ((s : ℕ) → occurrences s outs ≤ occurrences s (references (entries_of old o))) → ((s : ℕ) → 0 < occurrences s ups → IsLive old s)
        → outside_total old + length outs < 2147483648 → o ≢ 1
        → ((x : Node) → fin.get old.nodes o ≡ Some x → IsWellMade x → IsWellMade (with_entries es x)) → (number' : ℕ) → number' + length (entries_of old o)
        ≡ number + length es → number' ≤ 4000000 → (v' : Nodes) → v' ≡ counted_up ups v
        → Closed all' v' names last rows objects number' (held outs (rewritten o es old))
    after_entries es spare all' is ups outs balance were live fits other well number' sizes limit v' counts =
        subst (λ s. Closed all' v' names last rows objects number' (held outs (rewritten o es s))) h.is
        (subst (λ bs. Closed bs v' names last rows objects number' (held outs (rewritten o es was))) (sym (is ∙ boxes_are es spare))
        (subst (λ w. Closed (boxes_with_body all there.0.code there.0.body es spare) w names last rows objects number' (held outs (rewritten o es was))) (sym counts)
        (closed (boxes_with_body all there.0.code there.0.body es spare) (counted_up ups v) objects number' (held outs (rewritten o es was))
        (keeps-put all v objects number was h.keeps.0 o there.0 there.1 es spare ups outs
        (λ s. balance s ∙ ap (λ st. occurrences s (references (entries_of st o)) + occurrences s ups) (sym h.is))
        (λ s. subst (λ st. occurrences s outs ≤ occurrences s (references (entries_of st o))) (sym h.is) (were s))
        (λ s there. has_node h s (live s there))
        other
        (λ x at. well x (ap (λ (s : Store). fin.get s.nodes o) (sym h.is) ∙ at))
        number'
        (ap (λ st. number' + length (entries_of st o)) h.is ∙ sizes)
        limit)
        (kept was (held outs (rewritten o es was)) (kinds-put outs es) refl (omega (arith, total-held outs (rewritten o es was), total-rewritten o es was, total_is h, fits)) h.keeps.1)
        refl)))

    -- after taking an entry
    after_leave : (es : List Entry) (spare : ℕ) (all' : List Bodies) → all' ≡ boxes_with_body all code body es spare → (refs : List ℕ)
        → ((s : ℕ) → occurrences s (references (entries_of old o)) ≡ occurrences s (references es) + occurrences s refs) → length (entries_of old o)
        ≡ suc (length es)
        → ((x : Node) → fin.get old.nodes o ≡ Some x → IsWellMade x → IsWellMade (with_entries es x)) → (o ≡ 1 → spare_in_box all code body + 1 ≤ spare)
        → (o ≡ 1 → All IsSaved (entries_of old o) → All IsSaved es) → (number' : ℕ) → number' ≡ number_less o number → outside_total old + length refs <
        2147483648
        → Closed all' v names last rows objects number' (held refs (rewritten o es old))
    after_leave es spare all' is refs split shorter well room saved number' less fits =
        subst (λ k. Closed all' v names last rows objects k (held refs (rewritten o es old))) (sym less)
        (subst (λ s. Closed all' v names last rows objects (number_less o number) (held refs (rewritten o es s))) h.is
        (subst (λ bs. Closed bs v names last rows objects (number_less o number) (held refs (rewritten o es was))) (sym (is ∙ boxes_are es spare))
        (closed (boxes_with_body all there.0.code there.0.body es spare) v objects (number_less o number) (held refs (rewritten o es was))
        (keeps-taken all v objects number was h.keeps.0 o there.0 there.1 es spare refs
        (subst (λ st. (s : ℕ) → occurrences s (references (entries_of st o)) ≡ occurrences s (references es) + occurrences s refs) (sym h.is) split)
        (subst (λ st. length (entries_of st o) ≡ suc (length es)) (sym h.is) shorter)
        (λ x at. well x (ap (λ (s : Store). fin.get s.nodes o) (sym h.is) ∙ at))
        (λ same. subst (λ (q : KindCode × ℕ). spare_in_box all q.0 q.1 + 1 ≤ spare) (λ i. (sym there.2 i, sym there.3 i)) (room same))
        (λ same. subst (λ st. All IsSaved (entries_of st o) → All IsSaved es) (sym h.is) (saved same)))
        (kept was (held refs (rewritten o es was)) (kinds-put refs es) refl (omega (arith, total-held refs (rewritten o es was), total-rewritten o es was, total_is h, fits)) h.keeps.1)
        refl)))

    entries_of_object : (x : Node) → fin.get old.nodes o ≡ Some x → x.entries ≡ entries_of old o
    entries_of_object x at = sym (ap entries_in at)

    after_removal : (i : ℕ) (e : Entry) → slice_get (entries_of old o) i ≡ Some e → (spare : ℕ) (all' : List Bodies) → all' ≡ boxes_with_body all code body
        (remove (entries_of old o) i) spare → (o ≡ 1 → spare_in_box all code body + 1 ≤ spare) → (number' : ℕ) → number' ≡ number_less o number
        → HasFewHolds old
        → Closed all' v names last rows objects number' (held (entry_references e) (rewritten o (remove (entries_of old o) i) old))
    after_removal i e at spare all' is room number' less few =
        after_leave (remove (entries_of old o) i) spare all' is (entry_references e)
        (λ s. references-remove s (entries_of old o) i e at)
        (length-remove (entries_of old o) i e at)
        (λ x found good. subst (λ es. IsWellMade (with_entries (remove es i) x)) (entries_of_object x found)
        (well-remove x i (let len = subst (λ es. length es ≡ suc (length (remove es i))) (sym (entries_of_object x found)) (length-remove (entries_of old o) i e at) in omega (arith, len)) good))
        room (λ same saved. All-remove IsSaved (entries_of old o) i saved)
        number' less (holds_fit h few (entry_references e) (entry-le e))

    pub after_detach : (e : Entry) → entries_of old o ≡ without_last (entries_of old o) ++ e ∷ [] → (spare : ℕ) (all' : List Bodies) → all'
        ≡ boxes_with_body all code body (without_last (entries_of old o)) spare → (o ≡ 1 → spare_in_box all code body + 1 ≤ spare) → (number' : ℕ) → number'
        ≡ number_less o number → HasFewHolds old
        → Closed all' v names last rows objects number' (held (entry_references e) (rewritten o (without_last (entries_of old o)) old))
    after_detach e at spare all' is room number' less few =
        let rest = last-remove (entries_of old o) (without_last (entries_of old o)) e at in
        after_leave (without_last (entries_of old o)) spare all' is (entry_references e) rest.1 rest.2
        (λ x found good. subst (λ es. IsWellMade (with_entries (without_last es) x)) (entries_of_object x found)
        (well-last x (let len = subst (λ es. length es ≡ suc (length (without_last es))) (sym (entries_of_object x found)) rest.2 in omega (arith, len)) good))
        room (λ same saved. All-take IsSaved (length (entries_of old o) - 1) (entries_of old o) saved)
        number' less (holds_fit h few (entry_references e) (entry-le e))

    pub after_append : (x : Val) (spare : ℕ) (all' : List Bodies) → all' ≡ boxes_with_body all code body (entries_of old o ++ item x ∷ []) spare → code
        ≡ ListKind → o ≢ 1 → IsLiveValue old x → number < 4000000 → (v' : Nodes) → v' ≡ counted_up (references_of_value (Some x)) v
        → Closed all' v' names last rows objects (number + 1) (rewritten o (entries_of old o ++ item x ∷ []) old)
    after_append x spare all' is list other live fits v' counts =
        subst (λ s. Closed all' v' names last rows objects (number + 1) s) (held-none (rewritten o (entries_of old o ++ item x ∷ []) old))
        (after_entries (entries_of old o ++ item x ∷ []) spare all' is (references_of_value (Some x)) []
        (λ s. omega (arith, push-item s (entries_of old o) x))
        (λ s. omega arith)
        (λ s there. live s (refs-are x s there))
        (omega (arith, total_is h, h.keeps.1.holds))
        other
        (λ y found good. subst (λ es. IsWellMade (with_entries (es ++ item x ∷ []) y)) (entries_of_object y found) (well-append y x (ap code_in (sym found) ∙ sym code_is ∙ list) good))
        (number + 1) (omega (arith, length-append (entries_of old o) (item x ∷ []))) (omega (arith, fits)) v' counts)

    -- after replacing the value under a key
    pub after_replace : (key x was_val : Val) → IsMutable (code_of old o) → value_in old o key ≡ Some was_val → (spare : ℕ) (all' : List Bodies) → all'
        ≡ boxes_with_body all code body (after_put (code_of old o) (entries_of old o) key x) spare → o ≢ 1 → IsLiveValue old x → HasFewHolds old → (v' : Nodes)
        → v' ≡ counted_up (references_of_value (Some x)) v
        → Closed all' v' names last rows objects number (held (references_of_value (Some was_val)) (rewritten o (after_put (code_of old o) (entries_of old o) key x) old))
    after_replace key x was_val mutable at spare all' is other live few v' counts =
        let same : length (after_put (code_of old o) (entries_of old o) key x) ≡ length (entries_of old o) = replaced-length (code_of old o) (entries_of old o)
        key x mutable (subst IsSome (sym at) refl) in
        after_entries (after_put (code_of old o) (entries_of old o) key x) spare all' is (references_of_value (Some x)) (references_of_value (Some was_val))
        (replaced-balance (code_of old o) (entries_of old o) key x was_val items_here mutable at)
        (replaced-were (code_of old o) (entries_of old o) key was_val items_here mutable at)
        (λ s there. live s (refs-are x s there))
        (holds_fit h few (references_of_value (Some was_val)) (let one = reference-le was_val in omega (arith, one)))
        other
        (λ y found good. subst (λ (q : KindCode × List Entry). IsWellMade (with_entries (after_put q.0 q.1 key x) y))
        (λ i. (ap code_in (sym found) i, entries_of_object y found i)) (well-put y key x (subst IsMutable (sym (ap code_in (sym found))) mutable) good))
        number (omega (arith, same)) h.keeps.0.entry_limit v' counts
      where
        items_here : code_of old o ≡ ListKind → AreItems (entries_of old o)
        items_here list =
            let (x, at, c, es, has) = object_there in
            subst AreItems (entries_of_object x at) ((well_there x at).items (ap code_in (sym at) ∙ list))

    -- after adding a key
    pub after_add : (key x : Val) → IsMutable (code_of old o) → CanPut (code_of old o) (entries_of old o) key → value_in old o key ≡ None
        → (spare : ℕ) (all' : List Bodies) → all' ≡ boxes_with_body all code body (after_put (code_of old o) (entries_of old o) key x) spare → o ≢ 1
        → IsLiveValue old key → IsLiveValue old x → number < 4000000 → (v1 v' : Nodes) → v1 ≡ counted_up (references_of_value (Some x)) v → v'
        ≡ counted_up (references_of_value (Some key)) v1
        → Closed all' v' names last rows objects (number + 1) (held [] (rewritten o (after_put (code_of old o) (entries_of old o) key x) old))
    after_add key x mutable can none spare all' is other live_key live_val fits v1 v' first second =
        let added = added-put (code_of old o) (entries_of old o) key x mutable can none in
        after_entries (after_put (code_of old o) (entries_of old o) key x) spare all' is (references_of_value (Some x) ++ references_of_value (Some key)) []
        (λ s. ap (λ es. occurrences s (references es) + 0) added ∙ added-balance (entries_of old o) key x s)
        (λ s. omega arith)
        (λ s there. elim (cases_eq (occurrences s (references_of_value (Some x))) 0) [
          | inl none ↦ live_key s (refs-are key s (omega (arith, there, none, occurrences-append s (references_of_value (Some x)) (references_of_value (Some key)))))
          | inr some ↦ live_val s (refs-are x s (omega (arith, some)))
        ])
        (omega (arith, total_is h, h.keeps.1.holds))
        other
        (λ y found good. subst (λ (q : KindCode × List Entry). IsWellMade (with_entries (after_put q.0 q.1 key x) y))
        (λ i. (ap code_in (sym found) i, entries_of_object y found i)) (well-put y key x (subst IsMutable (sym (ap code_in (sym found))) mutable) good))
        (number + 1) (let len = ap length added in omega (arith, len, length-append (entries_of old o) (record { key = key; val = x } ∷ []))) (omega (arith, fits)) v'
        (second ∙ ap (counted_up (references_of_value (Some key))) first ∙ counted_twice (references_of_value (Some x)) (references_of_value (Some key))
        (references_of_value (Some x) ++ references_of_value (Some key)) v (λ s. occurrences-append s (references_of_value (Some x))
        (references_of_value (Some key))))

    -- after freeing the body and the node
    pub after_free : count_of old o ≡ 0 → entries_of old o ≡ [] → IsInNoRow o old.rows → (all' : List Bodies) → all' ≡ boxes_without all code body
        → (room : ℕ) (v' : Nodes) → v' ≡ without_node o (with_room room v) → Closed all' v' names last rows (record objects { live = objects.live - 1 }) number (gone o old)
    after_free none empty no_row all' is room v' e =
        subst (λ s. Closed all' v' names last rows (record objects { live = objects.live - 1 }) number (gone o s)) h.is
        (subst (λ bs. Closed bs v' names last rows (record objects { live = objects.live - 1 }) number (gone o was)) (sym (is ∙ (λ i. boxes_without all (sym there.2 i) (sym there.3 i))))
        (subst (λ w. Closed (boxes_without all there.0.code there.0.body) w names last rows (record objects { live = objects.live - 1 }) number (gone o was)) (sym e)
        (closed (boxes_without all there.0.code there.0.body) (without_node o (with_room room v)) (record objects { live = objects.live - 1 }) number (gone o was)
        (keeps-aside (keeps-gone all v objects number was h.keeps.0 o there.0 there.1 none_was empty_was))
        (kept-gone o was (subst (IsInNoRow o) (sym (ap (λ (s : Store). s.rows) h.is)) no_row) h.keeps.1)
        (ap (λ q. leaves_list v.lists o (place_number q)) (same-place all v objects number was h.keeps.0 o)))))
      where
        none_was : count_of was o ≡ 0
        none_was = subst (λ s. count_of s o ≡ 0) (sym h.is) none

        empty_was : entries_of was o ≡ []
        empty_was = subst (λ s. entries_of s o ≡ []) (sym h.is) empty

    pub has_object : count_of old o ≡ 0 → entries_of old o ≡ [] → 0 < objects.live
    has_object none empty = (others all v objects number was h.keeps.0 o there.0 there.1 (subst (λ s. count_of s o ≡ 0) (sym h.is) none) (subst (λ s. entries_of s o ≡ []) (sym h.is) empty)).1

    -- the same, by the boxes
    pub is_list : HasCode old o ListKind → code ≡ ListKind
    is_list (x, at, list) = code_is ∙ ap code_in at ∙ list

    pub entry_here : (i : ℕ) (e : Entry) → slice_get (entries_in_box all code body) i ≡ Some e → slice_get (entries_of old o) i ≡ Some e
    entry_here i e at = ap (λ es. slice_get es i) (sym entries_are) ∙ at

    pub within_here : (i : ℕ) → i < length (entries_of old o) → i < length (entries_in_box all code body)
    within_here i h = subst (λ es. i < length es) (sym entries_are) h

    pub value_here : (key : Val) → value_under code (entries_in_box all code body) key ≡ value_in old o key
    value_here key = λ i. value_under (code_is i) (entries_are i) key

    -- the garbage list has room for one more item
    room_left : o ≡ 1 → spare_in_box all code body + 1 ≤ spare_after_leave code (spare_in_box all code body)
    room_left same =
        let parts = some_pair_parts code ListKind body h.keeps.0.root.body (sym seat ∙ ap (λ k. seat_in (fin.get v.nodes k)) same ∙ h.keeps.0.root.seat) in
        let is : spare_after_leave code (spare_in_box all code body) ≡ spare_in_box all code body + 1 = ap (λ c. spare_after_leave c (spare_in_box all code body)) parts.0 in
        omega (arith, is)

    pub after_taking : CanTake old o → (i : ℕ) (e : Entry) → slice_get (entries_in_box all code body) i ≡ Some e → (all' : List Bodies) → all'
        ≡ boxes_with_body all code body (after_take code (entries_in_box all code body) i) (spare_after_leave code (spare_in_box all code body)) → (number' : ℕ)
        → number' ≡ number_less o number → HasFewHolds old
        → Closed all' v names last rows objects number' (held (entry_references e) (rewritten o (remove (entries_of old o) i) old))
    after_taking can i e at all' is number' less few =
        after_removal i e (entry_here i e at) (spare_after_leave code (spare_in_box all code body)) all'
        (is ∙ ap (λ es. boxes_with_body all code body es (spare_after_leave code (spare_in_box all code body))) ((λ j. after_take (code_is j) (entries_are j) i)
        ∙ takes (code_of old o) can.1 (entries_of old o) i))
        room_left
        number' less few

    -- the entry of a key
    pub some_with_key : (key : Val) (e : Entry) → Some e ≡ entry_under (entries_in_box all code body) key → 0 < length (entries_of old o)
    some_with_key key e under =
        let (i, there) = stands_somewhere key (entries_in_box all code body) e (sym under) in
        omega (arith, slice_get_within (entries_of old o) i e (entry_here i e there.here))

    pub after_taking_key : CanTake old o → (key : Val) (e : Entry) → Some e ≡ entry_under (entries_in_box all code body) key → (all' : List Bodies) → all'
        ≡ boxes_with_body all code body (after_take_key code (entries_in_box all code body) key) (spare_after_leave code (spare_in_box all code body))
        → (number' : ℕ) → number' ≡ number_less o number → HasFewHolds old
        → Closed all' v names last rows objects number' (held (entry_references e) (rewritten o (without_key (entries_of old o) key) old))
    after_taking_key can key e under all' is number' less few =
        let (i, there) = stands_somewhere key (entries_in_box all code body) e (sym under) in
        let rest : without_key (entries_of old o) key ≡ remove (entries_of old o) i = subst (λ es. without_key es key ≡ remove es i) entries_are there.rest in
        subst (λ es. Closed all' v names last rows objects number' (held (entry_references e) (rewritten o es old))) (sym rest)
        (after_taking can i e there.here all'
        (is ∙ ap (λ es. boxes_with_body all code body es (spare_after_leave code (spare_in_box all code body))) (sym (after_take-key code (entries_in_box all code body) key i e there)))
        number' less few)

    pub after_detaching : (e : Entry) → entries_in_box all code body ≡ without_last (entries_in_box all code body) ++ e ∷ [] → (all' : List Bodies) → all'
        ≡ boxes_with_body all code body (without_last (entries_in_box all code body)) (spare_after_leave code (spare_in_box all code body)) → (number' : ℕ)
        → number' ≡ number_less o number → HasFewHolds old
        → Closed all' v names last rows objects number' (held (entry_references e) (rewritten o (without_last (entries_of old o)) old))
    after_detaching e at all' is number' less few =
        after_detach e (subst (λ es. es ≡ without_last es ++ e ∷ []) entries_are at) (spare_after_leave code (spare_in_box all code body)) all'
        (is ∙ ap (λ es. boxes_with_body all code body (without_last es) (spare_after_leave code (spare_in_box all code body))) entries_are) room_left number' less few

    pub some_entries : (e : Entry) → entries_in_box all code body ≡ without_last (entries_in_box all code body) ++ e ∷ [] → 0 < length (entries_of old o)
    some_entries e at =
        let len = ap length (subst (λ es. es ≡ without_last es ++ e ∷ []) entries_are at) in
        omega (arith, len, length-append (without_last (entries_of old o)) (e ∷ []))

    pub after_appending : (list : HasCode old o ListKind) (x : Val) (spare : ℕ) (all' : List Bodies) → all' ≡ boxes_with_body all ListKind body
        (entries_in_box all ListKind body ++ item x ∷ []) spare → o ≢ 1 → IsLiveValue old x → number < 4000000 → (v' : Nodes) → v'
        ≡ counted_up (references_of_value (Some x)) v
        → Closed all' v' names last rows objects (number + 1) (rewritten o (entries_of old o ++ item x ∷ []) old)
    after_appending list x spare all' is other live fits v' counts =
        after_append x spare all'
        (is ∙ ap (λ c. boxes_with_body all c body (entries_in_box all c body ++ item x ∷ []) spare) (sym (is_list list))
        ∙ ap (λ es. boxes_with_body all code body (es ++ item x ∷ []) spare) entries_are)
        (is_list list) other live fits v' counts

    put_here : (key x : Val) (spare : ℕ) → boxes_with_body all code body (after_put code (entries_in_box all code body) key x) spare ≡ boxes_with_body all code
        body (after_put (code_of old o) (entries_of old o) key x) spare
    put_here key x spare = ap (λ es. boxes_with_body all code body es spare) (λ i. after_put (code_is i) (entries_are i) key x)

    pub after_replacing : (key x was_val : Val) → CanPutIn old o key → value_under code (entries_in_box all code body) key ≡ Some was_val
        → (spare : ℕ) (all' : List Bodies) → all' ≡ boxes_with_body all code body (after_put code (entries_in_box all code body) key x) spare → o ≢ 1
        → IsLiveValue old x → HasFewHolds old → (v' : Nodes) → v' ≡ counted_up (references_of_value (Some x)) v
        → Closed all' v' names last rows objects number (with_put old o key x)
    after_replacing key x was_val can at spare all' is other live few v' counts =
        let here : value_in old o key ≡ Some was_val = sym (value_here key) ∙ at in
        subst (λ w. Closed all' v' names last rows objects number (held (references_of_value w) (rewritten o (after_put (code_of old o) (entries_of old o) key x) old))) (sym here)
        (after_replace key x was_val can.1 here spare all' (is ∙ put_here key x spare) other live few v' counts)

    pub after_adding : (key x : Val) → CanPutIn old o key → value_in old o key ≡ None → (spare : ℕ) (all' : List Bodies) → all' ≡ boxes_with_body all code body
        (after_put code (entries_in_box all code body) key x) spare → o ≢ 1 → IsLiveValue old key → IsLiveValue old x → number < 4000000 → (v1 v' : Nodes) → v1
        ≡ counted_up (references_of_value (Some x)) v → v' ≡ counted_up (references_of_value (Some key)) v1
        → Closed all' v' names last rows objects (number + 1) (with_put old o key x)
    after_adding key x can none spare all' is other live_key live_val fits v1 v' first second =
        subst (λ w. Closed all' v' names last rows objects (number + 1) (held (references_of_value w) (rewritten o (after_put (code_of old o) (entries_of old o) key x) old))) (sym none)
        (after_add key x can.1 can.2 none spare all' (is ∙ put_here key x spare) other live_key live_val fits v1 v' first second)

    -- whether a put makes the object tracked, by its kind and place
    pub tracks_put : (key x : Val) (place : Place) → IsLive old o → IfSome (fin.get v.nodes o) (λ n. place ≡ n.place)
        → (is_dict_at code place && (may_be_tracked old key || may_be_tracked old x)) ≡ becomes_tracked old o key x
    tracks_put key x place live told = ap (λ b. b && (may_be_tracked old key || may_be_tracked old x)) (dict_here (fin.get old.nodes o) code place live code_is (place_told h o live place told))
