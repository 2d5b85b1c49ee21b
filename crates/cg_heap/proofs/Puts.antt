-- An entry added, or its value replaced.
use Rattle.std.proofs.Common.{◌≡◌, ◌≢◌, ℕ, zero, suc, ◌+◌, ◌<◌, ◌≤◌, Bool, true, false, List, [], ◌∷◌, ◌++◌, length, set, Option, Some, None, IsSome, refl, sym, ap, ◌∙◌, subst, arith, pos, negsuc}
use Rattle.std.specs.Prelude.{if◌then◌else◌, slice_get, option_map, remove, ◌==◌, All}
use Rattle.std.proofs.lemmas.List.{length-set}
use Rattle.std.proofs.lemmas.List.Elements.{All-set, All-push, All-take, All-head, All-tail, All-cons}
use Rattle.std.specs.FinMap as fin
use Rattle.cg_value.specs.declared.Val.{Val}
use Rattle.cg_value.specs.declared.Val.TheVariants as val
use Rattle.cg_value.specs.declared.Entry.{Entry}
use Rattle.cg_value.specs.declared.KindCode.{KindCode}
use Rattle.cg_value.specs.declared.KindCode.TheVariants.{List as ListKind, Tuple, Dict, Inst, Func, Weak}
use Rattle.cg_kind.specs.Bodies.{Bodies}
use Rattle.cg_kind.specs.Calls.{AreItems, CanPut, value_under, after_put}
use Rattle.cg_graph.specs.Holdings.{occurrences}
use Rattle.cg_graph.specs.Value.{references, entry_references, references_of_value, same_value, value_at, item, put, without_last}
use Rattle.cg_graph.specs.Store.{Store, Node, IsLive, entries_of, entries_in}
use Rattle.cg_graph.specs.Changes.{held, rewritten, with_entries}
use Rattle.cg_arena.specs.Nodes.{ArenaNode, Nodes, counted_up}
use Rattle.cg_heap.specs.declared.heap.objects.Objects.{Objects}
use Rattle.cg_heap.proofs.HoldLemmas.{outside-held, outside-rewritten}
use Rattle.cg_heap.proofs.ReferenceLemmas.{occurrences-append, references-append}
use Rattle.cg_heap.specs.Keeps.{HeapKeeps, IsWellMade, IsGarbage}
use Rattle.cg_heap.specs.Calls.{IsMutable}
use Rattle.cg_heap.proofs.HeapIsStore.{shape-up, shape-held, up-counts, held-inner, held-ones, held-well, held-sizes, held-entries, live-mapped, seat-up}
use Rattle.cg_heap.proofs.Rewrites.{all_after, object-of, shape-written, inner-written, ones-written, well-written, sizes-written, entries-written_other, spare-kept}
use Rattle.cg_heap.proofs.TakenEntries.{held-live}
use Rattle.cg_heap.specs.Boxes.{spare_in_box}

-- Changed entries: what enters is counted, what leaves is held.
pub keeps-put : (all : List Bodies) (v : Nodes) (objects : Objects) (number : ℕ) (store : Store) (ok : HeapKeeps all v.nodes objects number store) (o : ℕ) (n : ArenaNode)
    (found : fin.get v.nodes o ≡ Some n) (es : List Entry) (spare : ℕ) (ups outs : List ℕ)
    → ((s : ℕ) → occurrences s (references es) + occurrences s outs ≡ occurrences s (references (entries_of store o)) + occurrences s ups)
    → ((s : ℕ) → occurrences s outs ≤ occurrences s (references (entries_of store o)))
    → ((s : ℕ) → 0 < occurrences s ups → IsSome (fin.get v.nodes s)) → o ≢ 1 → ((x : Node) → fin.get store.nodes o ≡ Some x → IsWellMade x
    → IsWellMade (with_entries es x)) → (number' : ℕ) → number' + length (entries_of store o) ≡ number + length es → number' ≤ 4000000
    → HeapKeeps (all_after all v.nodes store ok.shape o n found es spare) (counted_up ups v).nodes objects number' (held outs (rewritten o es store))
keeps-put all v objects number store ok o n found es spare ups outs balance were live other well number' sizes limit =
    let (x, at, is, h) = object-of all v.nodes store.nodes o n (ok.shape.alike o) found in
    let len : length x.entries ≡ length (entries_of store o) = ap (λ y. length (entries_in y)) (sym at) in
    let same_root : entries_of (held outs (rewritten o es store)) 1 ≡ entries_of store 1 = held-entries outs (rewritten o es store) 1 ∙ entries-written_other store o x at es 1 (λ e. other (sym e)) in
    let root : length (entries_of (held outs (rewritten o es store)) 1) ≡ length (entries_of store 1) = ap length same_root in
    record {
      shape = shape-up _ v.nodes (held outs (rewritten o es store)) (shape-held _ v.nodes (rewritten o es store) (shape-written all v.nodes store ok.shape o n found es spare) outs) ups;
      counted = λ s.
          let was : occurrences s (references x.entries) ≡ occurrences s (references (entries_of store o)) = ap (λ y. occurrences s (references (entries_in y))) (sym at) in
          omega (
            arith,
            ok.counted s,
            inner-written store o x at es s,
            was,
            balance s,
            outside-rewritten o es store s,
            held-inner outs (rewritten o es store) s,
            outside-held outs (rewritten o es store) s (out_live x at s),
            up-counts ups v.nodes s (live s),
          );
      well = held-well outs (rewritten o es store) (well-written store o x at es ok.well (well x at));
      numbered = held-ones outs (rewritten o es store) ∙ ones-written store o x at es ∙ ok.numbered;
      sized = omega (arith, held-sizes outs (rewritten o es store), sizes-written store o x at es, len, root, ok.sized, sizes);
      object_limit = ok.object_limit;
      entry_limit = limit;
      saves = subst IsGarbage (sym same_root) ok.saves;
      root = record {
        body = ok.root.body;
        seat = seat-up ups v.nodes 1 ∙ ok.root.seat;
        enough = ok.root.enough;
        ready =
            let kept : spare_in_box (all_after all v.nodes store ok.shape o n found es spare) ListKind ok.root.body ≡ spare_in_box all ListKind ok.root.body =
            spare-kept all v.nodes store ok.shape o n found es spare 1 ListKind ok.root.body (λ e. other (sym e)) ok.root.seat in
            omega (arith, kept, root, ok.root.ready);
      };
      garbage = omega (arith, root, ok.garbage);
      names = ok.names;
    }
  where
    out_live : (x : Node) → fin.get store.nodes o ≡ Some x → (s : ℕ) → 0 < occurrences s outs → IsLive (rewritten o es store) s
    out_live x at s there =
        let was : occurrences s (references x.entries) ≡ occurrences s (references (entries_of store o)) = ap (λ y. occurrences s (references (entries_in y))) (sym at) in
        let sum = inner-written store o x at [] s in
        live-mapped (λ s x. if s == o then with_entries es x else x) store.nodes s (held-live all v.nodes objects number store ok s (omega (arith, sum, was, were s, there)))

some_value : {x y : Val} → Some x ≡ Some y → x ≡ y
some_value e = cc

abbrev pair : Val → Val → Entry
pair key v = record { key = key; val = v }

-- a value replaced under an existing key: at this entry, or further on
module _ (key v old : Val) (s : ℕ) where
  replaces_next : (b : Bool) (e : Entry) (es rest : List Entry) (was : Option Val) → (if b then Some e.val else was) ≡ Some old
      → (was ≡ Some old → occurrences s (references rest) + occurrences s (references_of_value (Some old)) ≡ occurrences s (references es) + occurrences s (references_of_value (Some v)))
      → occurrences s (references (if b then pair e.key v ∷ es else e ∷ rest)) + occurrences s (references_of_value (Some old))
      ≡ occurrences s (references (e ∷ es)) + occurrences s (references_of_value (Some v))
  replaces_next true e es rest was at more =
      let same : occurrences s (references_of_value (Some e.val)) ≡ occurrences s (references_of_value (Some old)) = ap (λ x. occurrences s (references_of_value (Some x))) (some_value at) in
      omega (
        arith,
        same,
        occurrences-append s (entry_references (pair e.key v)) (references es),
        occurrences-append s (references_of_value (Some v)) (references_of_value (Some e.key)),
        occurrences-append s (entry_references e) (references es),
        occurrences-append s (references_of_value (Some e.val)) (references_of_value (Some e.key)),
      )
  replaces_next false e es rest was at more =
      omega (arith, more at, occurrences-append s (entry_references e) (references rest), occurrences-append s (entry_references e) (references es))

  put_replaces : (es : List Entry) → value_at es key ≡ Some old → occurrences s (references (put es key v)) + occurrences s (references_of_value (Some old))
      ≡ occurrences s (references es) + occurrences s (references_of_value (Some v))
  put_replaces [] at = absurd (cc)
  put_replaces (e ∷ es) at = replaces_next (same_value e.key key) e es (put es key v) (value_at es key) at (put_replaces es)

length_next : (b : Bool) (e : Entry) (v : Val) (es rest : List Entry) (was : Option Val) → IsSome (if b then Some e.val else was)
    → (IsSome was → length rest ≡ length es) → length (if b then pair e.key v ∷ es else e ∷ rest) ≡ suc (length es)
length_next true e v es rest was at more = refl
length_next false e v es rest was at more = ap suc (more at)

put_length : (es : List Entry) (key v : Val) → IsSome (value_at es key) → length (put es key v) ≡ length es
put_length [] key v at = absurd (cc)
put_length (e ∷ es) key v at = length_next (same_value e.key key) e v es (put es key v) (value_at es key) at (put_length es key v)

adds_next : (b : Bool) (e : Entry) (v : Val) (es rest added : List Entry) (was : Option Val) → (if b then Some e.val else was) ≡ None
    → (was ≡ None → rest ≡ es ++ added) → (if b then pair e.key v ∷ es else e ∷ rest) ≡ e ∷ es ++ added
adds_next true e v es rest added was at more = absurd (cc)
adds_next false e v es rest added was at more = ap (λ l. e ∷ l) (more at)

-- a new key goes last
put_adds : (es : List Entry) (key v : Val) → value_at es key ≡ None → put es key v ≡ es ++ pair key v ∷ []
put_adds [] key v at = refl
put_adds (e ∷ es) key v at = adds_next (same_value e.key key) e v es (put es key v) (pair key v ∷ []) (value_at es key) at (put_adds es key v)

-- an item of a list replaced
item_next : (s : ℕ) (v old : Val) (es : List Entry) (i : ℕ) → AreItems es → option_map (λ e. e.val) (slice_get es i) ≡ Some old
    → occurrences s (references (set es i (item v))) + occurrences s (references_of_value (Some old)) ≡ occurrences s (references es) + occurrences s
    (references_of_value (Some v))
item_next s v old [] i items at = absurd (cc)
item_next s v old (e ∷ es) zero items at =
    let no_key : occurrences s (references_of_value (Some e.key)) ≡ 0 = ap (λ k. occurrences s (references_of_value (Some k))) (All-head (λ (x : Entry). x.key ≡ val.None) e es items) in
    let same : occurrences s (references_of_value (Some e.val)) ≡ occurrences s (references_of_value (Some old)) = ap (λ x. occurrences s (references_of_value (Some x))) (some_value at) in
    omega (
      arith,
      no_key,
      same,
      occurrences-append s (entry_references (item v)) (references es),
      occurrences-append s (references_of_value (Some v)) [],
      occurrences-append s (entry_references e) (references es),
      occurrences-append s (references_of_value (Some e.val)) (references_of_value (Some e.key)),
    )
item_next s v old (e ∷ es) (suc i) items at =
    omega (
      arith,
      item_next s v old es i (All-tail (λ (x : Entry). x.key ≡ val.None) e es items) at,
      occurrences-append s (entry_references e)
          (references (set es i (item v))),
      occurrences-append s (entry_references e) (references es),
    )

-- a value replaced, in a mutable kind
pub replaced-balance : (c : KindCode) (es : List Entry) (key v old : Val) → (c ≡ ListKind → AreItems es) → IsMutable c → value_under c es key ≡ Some old
    → (s : ℕ) → occurrences s (references (after_put c es key v)) + occurrences s (references_of_value (Some old)) ≡ occurrences s (references es) + occurrences
    s (references_of_value (Some v))
replaced-balance ListKind es val.None v old items mutable at s = absurd (cc)
replaced-balance ListKind es (val.Int (pos i)) v old items mutable at s = item_next s v old es i (items refl) at
replaced-balance ListKind es (val.Int (negsuc i)) v old items mutable at s = absurd (cc)
replaced-balance ListKind es (val.Str n) v old items mutable at s = absurd (cc)
replaced-balance ListKind es (val.Ref o) v old items mutable at s = absurd (cc)
replaced-balance Tuple es key v old items mutable at s = absurd mutable
replaced-balance Dict es key v old items mutable at s = put_replaces key v old s es at
replaced-balance Inst es key v old items mutable at s = put_replaces key v old s es at
replaced-balance Func es key v old items mutable at s = absurd mutable
replaced-balance Weak es key v old items mutable at s = absurd mutable

pub replaced-length : (c : KindCode) (es : List Entry) (key v : Val) → IsMutable c → IsSome (value_under c es key) → length (after_put c es key v) ≡ length es
replaced-length ListKind es val.None v mutable at = refl
replaced-length ListKind es (val.Int (pos i)) v mutable at = length-set es i (item v)
replaced-length ListKind es (val.Int (negsuc i)) v mutable at = refl
replaced-length ListKind es (val.Str n) v mutable at = refl
replaced-length ListKind es (val.Ref o) v mutable at = refl
replaced-length Tuple es key v mutable at = refl
replaced-length Dict es key v mutable at = put_length es key v at
replaced-length Inst es key v mutable at = put_length es key v at
replaced-length Func es key v mutable at = refl
replaced-length Weak es key v mutable at = refl

-- the replaced value was held
pub replaced-were : (c : KindCode) (es : List Entry) (key old : Val) → (c ≡ ListKind → AreItems es) → IsMutable c → value_under c es key ≡ Some old → (s : ℕ)
    → occurrences s (references_of_value (Some old)) ≤ occurrences s (references es)
replaced-were c es key old items mutable at s = omega (arith, replaced-balance c es key val.None old items mutable at s)

none_there : (es : List Entry) (i : ℕ) → i < length es → option_map (λ e. e.val) (slice_get es i) ≡ None → ⊥
none_there [] i h at = absurd (omega (arith, h))
none_there (e ∷ es) zero h at = absurd (cc)
none_there (e ∷ es) (suc i) h at = none_there es i (omega (arith, h)) at

-- a list takes values only at its indices
pub list_has : (es : List Entry) (key : Val) → CanPut ListKind es key → value_under ListKind es key ≡ None → ⊥
list_has es key (i, is, h) none = none_there es i h (ap (value_under ListKind es) (sym is) ∙ none)

-- a new key
pub added-put : (c : KindCode) (es : List Entry) (key v : Val) → IsMutable c → CanPut c es key → value_under c es key ≡ None → after_put c es key v ≡ es ++ pair key v ∷ []
added-put ListKind es key v mutable can none = absurd (list_has es key can none)
added-put Tuple es key v mutable can none = absurd mutable
added-put Dict es key v mutable can none = put_adds es key v none
added-put Inst es key v mutable can none = put_adds es key v none
added-put Func es key v mutable can none = absurd mutable
added-put Weak es key v mutable can none = absurd mutable

pub added-balance : (es : List Entry) (key v : Val) (s : ℕ) → occurrences s (references (es ++ pair key v ∷ [])) + 0 ≡ occurrences s (references es) +
    occurrences s (references_of_value (Some v) ++ references_of_value (Some key))
added-balance es key v s = omega (arith, references-append s es (pair key v ∷ []), occurrences-append s (references_of_value (Some v) ++ references_of_value (Some key)) [])

-- What is true of an object stays true with other entries.
pub well-put : (x : Node) (key v : Val) → IsMutable x.code → IsWellMade x → IsWellMade (with_entries (after_put x.code x.entries key v) x)
well-put x key v mutable h = record {
  items = λ list. subst (λ c. AreItems (after_put c x.entries key v)) (sym list) (items_put x.entries key v (h.items list));
  classed = h.classed;
  single = λ weak. absurd (subst IsMutable weak mutable);
}
  where
    items_put : (es : List Entry) (key v : Val) → AreItems es → AreItems (after_put ListKind es key v)
    items_put es val.None v h = h
    items_put es (val.Int (pos i)) v h = All-set (λ (e : Entry). e.key ≡ val.None) es i (item v) refl h
    items_put es (val.Int (negsuc i)) v h = h
    items_put es (val.Str n) v h = h
    items_put es (val.Ref o) v h = h

pub well-append : (x : Node) (v : Val) → x.code ≡ ListKind → IsWellMade x → IsWellMade (with_entries (x.entries ++ item v ∷ []) x)
well-append x v list h = record {
  items = λ is. All-push (λ (e : Entry). e.key ≡ val.None) x.entries (item v) (h.items is) refl;
  classed = h.classed;
  single = λ weak. absurd (not_both x.code list weak);
}
  where
    not_both : (c : KindCode) → c ≡ ListKind → c ≡ Weak → ⊥
    not_both c e f = let both : ListKind ≡ Weak = sym e ∙ f in absurd (cc)

pub All-remove : (P : Entry → Type 0) (es : List Entry) (i : ℕ) → All P es → All P (remove es i)
All-remove P [] zero h = h
All-remove P [] (suc i) h = h
All-remove P (e ∷ es) zero h = All-tail P e es h
All-remove P (e ∷ es) (suc i) h = All-cons P e (remove es i) (All-head P e es h) (All-remove P es i (All-tail P e es h))

pub well-fewer : (x : Node) (es : List Entry) → (AreItems x.entries → AreItems es) → length es ≤ length x.entries → IsWellMade x → IsWellMade (with_entries es x)
well-fewer x es items fewer h = record {
  items = λ list. items (h.items list);
  classed = h.classed;
  single = λ weak. let was = h.single weak in (items was.0, omega (arith, fewer, was.1));
}

pub well-remove : (x : Node) (i : ℕ) → length (remove x.entries i) ≤ length x.entries → IsWellMade x → IsWellMade (with_entries (remove x.entries i) x)
well-remove x i fewer = well-fewer x (remove x.entries i) (All-remove (λ (e : Entry). e.key ≡ val.None) x.entries i) fewer

pub well-last : (x : Node) → length (without_last x.entries) ≤ length x.entries → IsWellMade x → IsWellMade (with_entries (without_last x.entries) x)
well-last x fewer = well-fewer x (without_last x.entries) (All-take (λ (e : Entry). e.key ≡ val.None) _ x.entries) fewer
