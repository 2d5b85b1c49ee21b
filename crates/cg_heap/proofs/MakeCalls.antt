-- The effect of making an object and binding a name to it.
use Rattle.std.proofs.Common.{◌≡◌, ℕ, ◌+◌, ◌-◌, ◌<◌, ◌≤◌, List, [], ◌∷◌, set, slice_get, Option, Some, None, refl, sym, ap, ◌∙◌, subst, arith}
use Rattle.std.specs.Prelude.{option_map}
use Rattle.std.specs.FinMap as fin
use Rattle.cg_value.specs.declared.Val.{Val}
use Rattle.cg_value.specs.declared.Val.TheVariants as val
use Rattle.cg_value.specs.declared.Entry.{Entry}
use Rattle.cg_value.specs.declared.KindCode.{KindCode}
use Rattle.cg_kind.specs.Bodies.{Bodies}
use Rattle.cg_graph.specs.Holdings.{occurrences}
use Rattle.cg_graph.specs.Value.{references_of_value}
use Rattle.cg_graph.specs.Rows.{Row}
use Rattle.cg_graph.specs.Store.{Store, IsLive, outside_of, outside_in}
use Rattle.cg_graph.specs.Changes.{held, unheld, named, made, new_node}
use Rattle.cg_graph.proofs.Maps.{same_map, get-mapped, get-insert_same}
use Rattle.cg_arena.specs.Nodes.{ArenaNode, Nodes, count_in, counted_up, counted_down, node_counted_up, node_counted_down}
use Rattle.cg_heap.specs.Keeps.{store_of, outside_total}
use Rattle.cg_heap.specs.Calls.{HasFewHolds, IsLiveValue, made_named}
use Rattle.cg_heap.specs.Weak.{attached}
use Rattle.cg_heap.specs.declared.heap.objects.Objects.{Objects}
use Rattle.cg_heap.proofs.ReferenceLemmas.{refs-are}
use Rattle.cg_heap.proofs.HeapIsStore.{Closed}
use Rattle.cg_heap.proofs.Room.{one-enough}
use Rattle.cg_heap.proofs.CallerLemmas.{kinds-unheld, lives_on, total-made, total-unheld_one}
use Rattle.cg_heap.proofs.HoldLemmas.{outside_live}
use Rattle.cg_heap.proofs.Calls.{after_unhold, after_name}

-- counts that fall and rise again are unchanged
counted_again : (refs : List ℕ) (v : Nodes) → ((s : ℕ) → occurrences s refs ≤ count_in (fin.get v.nodes s)) → v ≡ counted_up refs (counted_down refs v)
counted_again refs v enough =
    λ i. record v {
      nodes = same_map v.nodes (counted_up refs (counted_down refs v)).nodes (λ s.
          known (occurrences s refs) (fin.get v.nodes s) (enough s)
          ∙ sym (get-mapped (λ s n. node_counted_up (occurrences s refs) n) (counted_down refs v).nodes s
          ∙ ap (option_map (node_counted_up (occurrences s refs))) (get-mapped (λ s n. node_counted_down (occurrences s refs) n) v.nodes s))) i;
    }
  where
    known : (k : ℕ) (a : Option ArenaNode) → k ≤ count_in a → a ≡ option_map (node_counted_up k) (option_map (node_counted_down k) a)
    known k None enough = refl
    known k (Some n) enough = let same : n.count ≡ (n.count - k) + k = omega (arith, enough) in ap (λ c. Some (record n { count = c })) same

-- an object whose hold was given up lives
still_lives : (store : Store) (o : ℕ) → 0 < outside_of store o → IsLiveValue (unheld (o ∷ []) store) (val.Ref o)
still_lives store o has s e =
    let same : o ≡ s = cc in
    subst (IsLive (unheld (o ∷ []) store)) same (lives_on store (unheld (o ∷ []) store) (kinds-unheld (o ∷ []) store) o (outside_live store o has))

module _ {all : List Bodies} {v : Nodes} {names : List (Option Val)} {last : ℕ} {rows : List Row} {objects : Objects} {number : ℕ} {old : Store} (h : Closed all v names last rows objects number old) where
  -- a name takes over an outside hold: the counts stay
  pub after_hand_over : (i : ℕ) (old_val : Option Val) → slice_get names i ≡ Some old_val → (o : ℕ) → 0 < outside_of old o → outside_total old ≤ 2147483646
      → (names' : List (Option Val)) → names' ≡ set names i (Some (val.Ref o))
      → Closed all v names' last rows objects number (held (references_of_value old_val) (named i (Some (val.Ref o)) (unheld (o ∷ []) old)))
  after_hand_over i old_val at o has few names' is =
      let few_left : HasFewHolds (unheld (o ∷ []) old) = omega (arith, few, total-unheld_one o old has) in
      after_name (after_unhold h o has (counted_down (o ∷ []) v) refl) i old_val (Some (val.Ref o)) at
      (λ s there. still_lives old o has s (refs-are (val.Ref o) s there)) few_left v (counted_again (o ∷ []) v enough) names' is
    where
      enough : (s : ℕ) → occurrences s (o ∷ []) ≤ count_in (fin.get v.nodes s)
      enough s = omega (arith, h.keeps.0.counted s, one-enough (store_of all v names last rows) o (subst (λ st. 0 < outside_of st o) (sym h.is) has) s)

module _ (code : KindCode) (class : Option ℕ) (parts : List Entry) (referent : Option ℕ) (store mid : Store) (is : mid ≡ attached (store.last + 1) referent (made code class parts store)) where
  -- a new object is held once from outside
  pub new_held : (n : ℕ) → n ≡ store.last + 1 → 0 < outside_of mid n
  new_held n same =
      let one : outside_of mid n ≡ 1 = (λ i. outside_of (is i) (same i)) ∙ ap outside_in (get-insert_same store.nodes (store.last + 1) (store.last + 1) (new_node code class parts) refl) in
      omega (arith, one)

  pub few_with_new : HasFewHolds store → outside_total mid ≤ 2147483646
  few_with_new few =
      let now : outside_total mid ≡ outside_total (attached (store.last + 1) referent (made code class parts store)) = ap outside_total is in
      let low : outside_total store < 2147483646 = few in
      omega (arith, now, low, total-made code class parts store)

  -- a name takes the hold over
  pub named_new : (n : ℕ) → n ≡ store.last + 1 → (name : ℕ) (old : Option Val) (new : Store)
      → new ≡ held (references_of_value old) (named name (Some (val.Ref n)) (unheld (n ∷ []) mid)) → new ≡ made_named name old code class parts referent store
  named_new n same name old new now = now ∙ (λ i. held (references_of_value old) (named name (Some (val.Ref (same i))) (unheld (same i ∷ []) (is i))))
