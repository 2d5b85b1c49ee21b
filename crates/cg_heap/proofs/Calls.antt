-- The effect of a heap's calls on its store.
use Rattle.std.proofs.Common.{Result, Ok, Err, ◌≡◌, ℕ, ◌+◌, ◌<◌, ◌≤◌, List, [], ◌∷◌, length, set, remove, slice_get, Option, Some, None, IsSome, refl, sym, ap, ◌∙◌, subst, arith}
use Rattle.std.specs.Prelude.{OnErr, option_map, IfSome}
use Rattle.std.proofs.lemmas.Option.{some_pair_parts}
use Rattle.std.specs.Ordering.{nat_cmp}
use Rattle.std.specs.FinMap as fin
use Rattle.cg_value.specs.declared.Val.{Val}
use Rattle.cg_value.specs.declared.Val.TheVariants as val
use Rattle.cg_value.specs.declared.Entry.{Entry}
use Rattle.cg_value.specs.declared.Place.{Place}
use Rattle.cg_value.specs.declared.KindCode.{KindCode}
use Rattle.cg_value.specs.declared.KindCode.TheVariants.{List as ListKind, Tuple, Dict, Inst, Func, Weak}
use Rattle.cg_kind.specs.Bodies.{Body, Bodies}
use Rattle.cg_kind.specs.Calls.{IsParts, after_put, after_take}
use Rattle.cg_graph.specs.Object.{first_place}
use Rattle.cg_graph.specs.Holdings.{occurrences}
use Rattle.cg_graph.specs.Value.{references, references_of_value}
use Rattle.cg_graph.specs.Places.{place_number, list_of, move_between}
use Rattle.cg_graph.specs.Rows.{Row}
use Rattle.cg_graph.specs.Store.{Store, Node, outside_of, count_of, IsLive, HasCode, entries_of, place_of, held_within}
use Rattle.cg_graph.specs.Changes.{held, unheld, rewritten, named, moved, made, more}
use Rattle.cg_graph.proofs.Maps.{same_map, get-mapped}
use Rattle.cg_arena.specs.Nodes.{ArenaNode, Nodes, count_in, counted_up, counted_down, node_counted_up, new_node as new_arena_node, with_room, with_node as with_arena_node, with_node_changed, with_node_moved, with_lists_merged, node_finalized, node_numbered, following, IsListed as IsArenaListed, count_in_list, place_of as arena_place_of, place_in as arena_place_in}
use Rattle.cg_heap.specs.declared.heap.objects.Objects.{Objects}
use Rattle.cg_heap.proofs.ReferenceLemmas.{occurrences-le, reference-le, name-le, references-le}
use Rattle.cg_heap.specs.Boxes.{HasBody, bodies_at, boxes_with_body}
use Rattle.cg_heap.specs.Keeps.{HeapKeeps, Alike, store_of, node_from, seat_in, HasClass}
use Rattle.cg_heap.specs.Calls.{HasFewHolds, object_number, entry_number, code_of, IsMutable, IsLiveValue, value_in, with_put, merged, marked, with_number, with_node, IsSound, IsListed}
use Rattle.cg_heap.proofs.HeapIsStore.{Closed, closed, keeps-held, keeps-unheld, live-mapped}
use Rattle.cg_heap.proofs.Room.{room-below, live-node, one-enough, counted-has}
use Rattle.cg_heap.proofs.TakenEntries.{held-live}
use Rattle.cg_heap.proofs.Moves.{keeps-named, keeps-moved, keeps-marked, keeps-numbered, keeps-merged, same-place}
use Rattle.cg_heap.proofs.CountAll.{count-le, none-counted}
use Rattle.cg_heap.proofs.Makes.{keeps-made}
use Rattle.cg_heap.specs.Keeps.{RowsAndHolds, outside_total}
use Rattle.cg_heap.proofs.CallerLemmas.{lives_on, kinds-held, kinds-unheld, kinds-rewritten, kinds-moved, kinds-merged, kinds-with_node, kinds-made, total-held, total-unheld, total-moved, total-merged, total-with_node, total-made}
use Rattle.cg_heap.proofs.RowsAndHolds.{kept}

-- the fields of a heap, and the store they represent
pub stands : {all : List Bodies} (v : Nodes) {names : List (Option Val)} {last : ℕ} {rows : List Row} {objects : Objects} {number : ℕ} {old : Store}
    → HeapKeeps all v.nodes objects number (store_of all v names last rows) × RowsAndHolds (store_of all v names last rows) → store_of all v names last rows
    ≡ old → Closed all v names last rows objects number old
stands v ok view = record { keeps = ok; is = view }

-- a fact that holds after an error
pub on_err : {T E P : Type 0} (r : Result T E) → P → OnErr r P
on_err (Ok t) fact = tt
on_err (Err e) fact = fact

-- an atom is not counted
pub uncounted : (v : Nodes) (x : Val) → ((s : ℕ) → x ≡ val.Ref s → ⊥) → v ≡ counted_up (references_of_value (Some x)) v
uncounted v val.None h = none-counted v
uncounted v (val.Int n) h = none-counted v
uncounted v (val.Str n) h = none-counted v
uncounted v (val.Ref o) h = absurd (h o refl)

-- the effect of raising a count
pub still_live : (v w : Nodes) (refs : List ℕ) → w ≡ counted_up refs v → (s : ℕ) → IsSome (fin.get v.nodes s) → IsSome (fin.get w.nodes s)
still_live v w refs e s live = subst (λ (z : Nodes). IsSome (fin.get z.nodes s)) (sym e) (live-mapped (λ s n. node_counted_up (occurrences s refs) n) v.nodes s live)

-- after raising a count there is room again
pub count_fits_after : (x : Val) (v w : Nodes) → w ≡ counted_up (references_of_value (Some x)) v → ((s : ℕ) → count_in (fin.get v.nodes s) < 4294967294)
    → (s : ℕ) → count_in (fin.get w.nodes s) < 4294967295
count_fits_after x v w e fits s =
    subst (λ (z : Nodes). count_in (fin.get z.nodes s) < 4294967295) (sym e)
    (omega (arith, count-le (references_of_value (Some x)) v s, occurrences-le s (references_of_value (Some x)), reference-le x, fits s))

-- a put frees no object
pub live_put : (store : Store) (o : ℕ) (key val : Val) (q : ℕ) → IsLive store q → IsLive (with_put store o key val) q
live_put store o key val q live =
    lives_on (rewritten o (after_put (code_of store o) (entries_of store o) key val) store) (with_put store o key val)
    (kinds-held (references_of_value (value_in store o key)) (rewritten o (after_put (code_of store o) (entries_of store o) key val) store)) q
    (lives_on store (rewritten o (after_put (code_of store o) (entries_of store o) key val) store) (kinds-rewritten o (after_put (code_of store o) (entries_of store o) key val) store) q live)

-- holding no references changes nothing
pub held-none : (store : Store) → held [] store ≡ store
held-none store = λ i. record store { nodes = same_map (held [] store).nodes store.nodes (λ q. get-mapped (λ s n. more 0 n) store.nodes q ∙ known (fin.get store.nodes q)) i }
  where
    known : (x : Option Node) → option_map (more 0) x ≡ x
    known None = refl
    known (Some n) = let same : n.outside + 0 ≡ n.outside = omega arith in ap (λ k. Some (record n { outside = k })) same

pub takes : (c : KindCode) → IsMutable c → (es : List Entry) (i : ℕ) → after_take c es i ≡ remove es i
takes ListKind k es i = refl
takes Tuple k es i = absurd k
takes Dict k es i = refl
takes Inst k es i = refl
takes Func k es i = absurd k
takes Weak k es i = absurd k

-- the places' lists and the rows do not matter here
pub keeps-aside : {all : List Bodies} {nodes : fin.FinMap nat_cmp ArenaNode} {objects : Objects} {number : ℕ} {store : Store} {lists : List (List ℕ)} {rows : List Row}
    → HeapKeeps all nodes objects number store → HeapKeeps all nodes objects number (record store { lists = lists; rows = rows })
keeps-aside ok = record {
  shape = record { six = ok.shape.six; alike = ok.shape.alike; apart = ok.shape.apart; below = ok.shape.below };
  counted = ok.counted;
  well = ok.well;
  numbered = ok.numbered;
  sized = ok.sized;
  object_limit = ok.object_limit;
  entry_limit = ok.entry_limit;
  saves = ok.saves;
  root = record { body = ok.root.body; seat = ok.root.seat; enough = ok.root.enough; ready = ok.root.ready };
  garbage = ok.garbage;
  names = ok.names;
}

module _ {all : List Bodies} {v : Nodes} {names : List (Option Val)} {last : ℕ} {rows : List Row} {objects : Objects} {number : ℕ} {old : Store}
    (h : Closed all v names last rows objects number old) where
  abbrev pub was : Store
  was = store_of all v names last rows

  pub has_node : (o : ℕ) → IsLive old o → IsSome (fin.get v.nodes o)
  has_node o live = live-node all v.nodes objects number was h.keeps.0 o (subst (λ s. IsLive s o) (sym h.is) live)

  count_below : (o : ℕ) → count_in (fin.get v.nodes o) < 4000000000
  count_below o = room-below all v.nodes objects number was h.keeps.0 h.keeps.1 o

  pub count_fits : (o : ℕ) → count_in (fin.get v.nodes o) < 4294967295
  count_fits o = omega (arith, count_below o)

  -- room for two more
  pub count_fits_twice : (o : ℕ) → count_in (fin.get v.nodes o) < 4294967294
  count_fits_twice o = omega (arith, count_below o)

  pub total_is : outside_total was ≡ outside_total old
  total_is = ap outside_total h.is

  -- there is room for two more holds
  pub holds_fit : HasFewHolds old → (refs : List ℕ) → length refs ≤ 2 → outside_total old + length refs < 2147483648
  holds_fit few refs two = let holds : outside_total old < 2147483646 = few in omega (arith, holds, two)

  pub has_count : (o : ℕ) → 0 < outside_of old o → 0 < count_in (fin.get v.nodes o)
  has_count o has = counted-has all v.nodes objects number was h.keeps.0 o (subst (λ s. 0 < outside_of s o) (sym h.is) has)

  pub count_is : (o : ℕ) → count_in (fin.get v.nodes o) ≡ count_of old o
  count_is o = h.keeps.0.counted o ∙ ap (λ s. count_of s o) h.is

  -- a live value has a node
  pub live_value : (x : Val) → IsLiveValue old x → (s : ℕ) → x ≡ val.Ref s → IsSome (fin.get v.nodes s)
  live_value x live s e = has_node s (live s e)

  -- a field of the node equals the object's
  pub field_is : {Y : Type 0} (f : ArenaNode → Y) (g : Node → Y) → ((n : ArenaNode) (k : ℕ) → g (node_from all n k) ≡ f n) → (o : ℕ) (y : Y)
      → IfSome (fin.get v.nodes o) (λ n. y ≡ f n) → IfSome (fin.get old.nodes o) (λ n. y ≡ g n)
  field_is {Y} f g same o y told = subst (λ (s : Store). IfSome (fin.get s.nodes o) (λ n. y ≡ g n)) h.is (known (fin.get v.nodes o) (fin.get was.nodes o) (h.keeps.0.shape.alike o) told)
    where
      known : (a : Option ArenaNode) (x : Option Node) → Alike all a x → IfSome a (λ n. y ≡ f n) → IfSome x (λ n. y ≡ g n)
      known None None k t = tt
      known None (Some x) k t = absurd k
      known (Some n) None k t = absurd k
      known (Some n) (Some x) k t = t ∙ sym (same n x.outside) ∙ ap g (sym k.0)

  pub count_told : (o : ℕ) → IsLive old o → (k : ℕ) → IfSome (fin.get v.nodes o) (λ n. k ≡ n.count) → k ≡ count_of old o
  count_told o live k told = known (fin.get v.nodes o) (has_node o live) told ∙ count_is o
    where
      known : (a : Option ArenaNode) → IsSome a → IfSome a (λ n. k ≡ n.count) → k ≡ count_in a
      known None l t = absurd (cc)
      known (Some n) l t = t

  pub place_same : (o : ℕ) → arena_place_of v o ≡ place_of old o
  place_same o = same-place all v objects number was h.keeps.0 o ∙ ap (λ s. place_of s o) h.is

  pub place_told : (o : ℕ) → IsLive old o → (p : Place) → IfSome (fin.get v.nodes o) (λ n. p ≡ n.place) → p ≡ place_of old o
  place_told o live p told = known (fin.get v.nodes o) (has_node o live) told ∙ place_same o
    where
      known : (a : Option ArenaNode) → IsSome a → IfSome a (λ n. p ≡ n.place) → p ≡ arena_place_in a
      known None l t = absurd (cc)
      known (Some n) l t = t

  pub next_here : (o : ℕ) → following o (list_of v.lists (place_number (arena_place_of v o))) ≡ following o (list_of old.lists (place_number (place_of old o)))
  next_here o = λ i. following o (list_of (h.is i).lists (place_number (place_same o i)))

  -- after counting and holding
  pub after_hold : (refs : List ℕ) → outside_total old + length refs < 2147483648 → (v' : Nodes) → v' ≡ counted_up refs v → Closed all v' names last rows objects number (held refs old)
  after_hold refs fits v' e =
      subst (λ s. Closed all v' names last rows objects number (held refs s)) h.is
      (subst (λ w. Closed all w names last rows objects number (held refs was)) (sym e)
      (closed all (counted_up refs v) objects number (held refs was) (keeps-held all v objects number was h.keeps.0 refs)
      (kept was (held refs was) (kinds-held refs was) refl (omega (arith, total-held refs was, total_is, fits)) h.keeps.1) refl))

  pub after_unhold : (o : ℕ) → 0 < outside_of old o → (v' : Nodes) → v' ≡ counted_down (o ∷ []) v → Closed all v' names last rows objects number (unheld (o ∷ []) old)
  after_unhold o has v' e =
      subst (λ s. Closed all v' names last rows objects number (unheld (o ∷ []) s)) h.is
      (subst (λ w. Closed all w names last rows objects number (unheld (o ∷ []) was)) (sym e)
      (closed all (counted_down (o ∷ []) v) objects number (unheld (o ∷ []) was)
      (keeps-unheld all v objects number was h.keeps.0 (o ∷ []) (one-enough was o (subst (λ s. 0 < outside_of s o) (sym h.is) has)))
      (kept was (unheld (o ∷ []) was) (kinds-unheld (o ∷ []) was) refl (omega (arith, total-unheld (o ∷ []) was, h.keeps.1.holds)) h.keeps.1) refl))

  -- after rebinding a name
  pub after_name : (i : ℕ) (old_val new : Option Val) → slice_get names i ≡ Some old_val → ((s : ℕ) → 0 < occurrences s (references_of_value new)
      → IsLive old s) → HasFewHolds old → (v' : Nodes) → v' ≡ counted_up (references_of_value new) v → (names' : List (Option Val)) → names' ≡ set names i new
      → Closed all v' names' last rows objects number (held (references_of_value old_val) (named i new old))
  after_name i old_val new at live few v' counts names' is =
      subst (λ ns. Closed all v' ns last rows objects number (held (references_of_value old_val) (named i new old))) (sym is)
      (subst (λ s. Closed all v' (set names i new) last rows objects number (held (references_of_value old_val) (named i new s))) h.is
      (subst (λ w. Closed all w (set names i new) last rows objects number (held (references_of_value old_val) (named i new was))) (sym counts)
      (closed all (counted_up (references_of_value new) v) objects number (held (references_of_value old_val) (named i new was))
      (keeps-named all v objects number was h.keeps.0 i old_val new at (λ s there. has_node s (live s there)))
      (kept was (held (references_of_value old_val) (named i new was)) (kinds-held (references_of_value old_val) (named i new was)) refl
      (let fits = holds_fit few (references_of_value old_val) (let one = name-le old_val in omega (arith, one))
      in omega (arith, total-held (references_of_value old_val) (named i new was), total_is, fits)) h.keeps.1) refl)))

  -- after changing places, marks or numbers
  pub after_move : (o : ℕ) (p : Place) (v' : Nodes) → v' ≡ with_node_moved o p v → Closed all v' names last rows objects number (moved o p old)
  after_move o p v' e =
      subst (λ s. Closed all v' names last rows objects number (moved o p s)) h.is
      (subst (λ w. Closed all w names last rows objects number (moved o p was)) (sym e)
      (closed all (with_node_moved o p v) objects number (moved o p was) (keeps-aside (keeps-moved all v objects number was h.keeps.0 o p))
      (kept was (moved o p was) (kinds-moved o p was) refl (omega (arith, total-moved o p was, h.keeps.1.holds)) h.keeps.1)
      (ap (λ q. move_between v.lists o (place_number q) (place_number p)) (same-place all v objects number was h.keeps.0 o))))

  pub after_merge : (p q : Place) (v' : Nodes) → v' ≡ with_lists_merged p q v → Closed all v' names last rows objects number (merged p q old)
  after_merge p q v' e =
      subst (λ s. Closed all v' names last rows objects number (merged p q s)) h.is
      (subst (λ w. Closed all w names last rows objects number (merged p q was)) (sym e)
      (closed all (with_lists_merged p q v) objects number (merged p q was) (keeps-aside (keeps-merged all v objects number was h.keeps.0 p q))
      (kept was (merged p q was) (kinds-merged p q was) refl (omega (arith, total-merged p q was, h.keeps.1.holds)) h.keeps.1) refl))

  pub after_mark : (o : ℕ) (v' : Nodes) → v' ≡ with_node_changed node_finalized o v → Closed all v' names last rows objects number (with_node marked o old)
  after_mark o v' e =
      subst (λ s. Closed all v' names last rows objects number (with_node marked o s)) h.is
      (subst (λ w. Closed all w names last rows objects number (with_node marked o was)) (sym e)
      (closed all (with_node_changed node_finalized o v) objects number (with_node marked o was) (keeps-marked all v objects number was h.keeps.0 o)
      (kept was (with_node marked o was) (kinds-with_node marked (λ n. refl) o was) refl (omega (arith, total-with_node marked (λ n. refl) o was, h.keeps.1.holds)) h.keeps.1) refl))

  pub after_number : (o k : ℕ) (v' : Nodes) → v' ≡ with_node_changed (node_numbered k) o v → Closed all v' names last rows objects number (with_node (with_number k) o old)
  after_number o k v' e =
      subst (λ s. Closed all v' names last rows objects number (with_node (with_number k) o s)) h.is
      (subst (λ w. Closed all w names last rows objects number (with_node (with_number k) o was)) (sym e)
      (closed all (with_node_changed (node_numbered k) o v) objects number (with_node (with_number k) o was) (keeps-numbered all v objects number was h.keeps.0 o k)
      (kept was (with_node (with_number k) o was) (kinds-with_node (with_number k) (λ n. refl) o was) refl
      (omega (arith, total-with_node (with_number k) (λ n. refl) o was, h.keeps.1.holds)) h.keeps.1) refl))

  -- each object is once in the list of its place
  places_alike : (s : ℕ) → option_map (λ (n : ArenaNode). n.place) (fin.get v.nodes s) ≡ option_map (λ (n : Node). n.place) (fin.get was.nodes s)
  places_alike s = known (fin.get v.nodes s) (fin.get was.nodes s) (h.keeps.0.shape.alike s)
    where
      known : (a : Option ArenaNode) (x : Option Node) → Alike all a x → option_map (λ (n : ArenaNode). n.place) a ≡ option_map (λ (n : Node). n.place) x
      known None None k = refl
      known None (Some x) k = absurd k
      known (Some n) None k = absurd k
      known (Some n) (Some x) k = sym (ap (λ (y : Node). Some y.place) k.0)

  is_listed : IsArenaListed v → IsListed was
  is_listed listed = record {
    ten = listed.ten;
    placed = λ s n at. known s (fin.get v.nodes s) refl n.place (places_alike s ∙ ap (option_map (λ (y : Node). y.place)) at);
    once = λ p s below. listed.once p s below ∙ ap (count_in_list p) (places_alike s);
  }
    where
      known : (s : ℕ) (a : Option ArenaNode) → fin.get v.nodes s ≡ a → (p : Place) → option_map (λ (n : ArenaNode). n.place) a ≡ Some p → place_number p < 10
      known s None at p is = absurd (cc)
      known s (Some n) at p is = let same : n.place ≡ p = some_place is in subst (λ q. place_number q < 10) same (listed.placed s n at)
        where
          some_place : {q r : Place} → Some q ≡ Some r → q ≡ r
          some_place e = cc

  root_kind : HasCode was 1 ListKind
  root_kind = known (fin.get v.nodes 1) (fin.get was.nodes 1) h.keeps.0.root.seat (h.keeps.0.shape.alike 1) refl
    where
      known : (a : Option ArenaNode) (x : Option Node) → seat_in a ≡ Some (ListKind, h.keeps.0.root.body) → Alike all a x → fin.get was.nodes 1 ≡ x → HasCode was 1 ListKind
      known None x e same at = absurd (cc)
      known (Some n) None e same at = absurd same
      known (Some n) (Some x) e same at = (x, at, ap (λ (y : Node). y.code) same.0 ∙ (some_pair_parts n.code ListKind n.body h.keeps.0.root.body e).0)

  -- the public invariant of every heap
  pub is_sound : IsArenaListed v → IsSound old
  is_sound listed = subst IsSound h.is (record {
    live = held-live all v.nodes objects number was h.keeps.0;
    fits = λ s. omega (arith, h.keeps.0.counted s, count_below s);
    below = h.keeps.0.shape.below;
    well = h.keeps.0.well;
    listed = is_listed listed;
    root = root_kind;
    garbage = h.keeps.0.saves;
    rows = h.keeps.1.rows;
    objects = omega (arith, h.keeps.0.numbered, h.keeps.0.object_limit);
    entries = omega (arith, h.keeps.0.sized, h.keeps.0.entry_limit);
  })

  pub objects_are : objects.live ≡ object_number old
  objects_are = let here : objects.live ≡ object_number was = omega (arith, h.keeps.0.numbered) in here ∙ ap object_number h.is

  pub entries_counted : number ≡ entry_number old
  entries_counted = let here : number ≡ entry_number was = omega (arith, h.keeps.0.sized) in here ∙ ap entry_number h.is

  pub with_rows : (rows' : List Row) → rows' ≡ rows → Closed all v names last rows' objects number old
  with_rows rows' is = subst (λ r. Closed all v names last r objects number old) (sym is) h

  -- boxes and nodes unchanged, with other room
  pub as_before : (all' : List Bodies) → all' ≡ all → Closed all' v names last rows objects number old
  as_before all' is = subst (λ bs. Closed bs v names last rows objects number old) (sym is) h

  pub with_other_room : (v' : Nodes) (room : ℕ) → v' ≡ with_room room v → Closed all v' names last rows objects number old
  with_other_room v' room is = subst (λ w. Closed all w names last rows objects number old) (sym is) (record { keeps = h.keeps; is = h.is })

  -- without bodies of a kind there is no object of the kind
  pub none_of_kind : (code : KindCode) → bodies_at all code ≡ fin.empty → (s : ℕ) → HasCode old s code → ⊥
  none_of_kind code none s has =
      let (x, at, is) = subst (λ (st : Store). HasCode st s code) (sym h.is) has in
      known (fin.get v.nodes s) x (subst (Alike all (fin.get v.nodes s)) at (h.keeps.0.shape.alike s)) is
    where
      gone : (b : Option Body) → b ≡ None → IsSome b → ⊥
      gone None e held = absurd (cc)
      gone (Some b) e held = absurd (cc)

      known : (a : Option ArenaNode) (x : Node) → Alike all a (Some x) → x.code ≡ code → ⊥
      known None x k is = k
      known (Some n) x k is =
          let of_kind : n.code ≡ code = sym (ap (λ (y : Node). y.code) k.0) ∙ is in
          gone (fin.get (bodies_at all code) n.body) (ap (λ (m : Bodies). fin.get m n.body) none ∙ fin.get-empty nat_cmp n.body) (subst (λ c. HasBody all c n.body) of_kind k.1)

  -- there is room for the references of a new object
  pub parts_fit : (parts : List Entry) → length parts ≤ 4000000 → (s : ℕ) → count_in (fin.get v.nodes s) + occurrences s (references parts) < 4294967294
  parts_fit parts fits s = omega (arith, count_below s, occurrences-le s (references parts), references-le parts, fits)

  -- the garbage root holds the garbage list
  pub root_live : IsLive old 1
  unfolding held_within
  root_live = subst (λ s. IsLive s 1) h.is (held-live all v.nodes objects number was h.keeps.0 1 (omega arith))

  -- the body of the garbage list
  pub garbage_is : (body : ℕ) → IfSome (fin.get v.nodes 1) (λ n. body ≡ n.body) → body ≡ h.keeps.0.root.body
  garbage_is body told = known (fin.get v.nodes 1) h.keeps.0.root.seat told
    where
      known : (a : Option ArenaNode) → seat_in a ≡ Some (ListKind, h.keeps.0.root.body) → IfSome a (λ n. body ≡ n.body) → body ≡ h.keeps.0.root.body
      known None e t = absurd (cc)
      known (Some n) e t = t ∙ (some_pair_parts n.code ListKind n.body h.keeps.0.root.body e).1

  pub garbage_seat : (body : ℕ) → IfSome (fin.get v.nodes 1) (λ n. body ≡ n.body) → seat_in (fin.get v.nodes 1) ≡ Some (ListKind, body)
  garbage_seat body told = h.keeps.0.root.seat ∙ ap (λ b. Some (ListKind, b)) (sym (garbage_is body told))

  -- after making an object
  abbrev one_more : Objects
  one_more = record objects { live = objects.live + 1 }

  pub after_make : objects.live < objects.savable → (code : KindCode) (class : Option ℕ) (parts : List Entry) → IsParts code parts → HasClass code class
      → ((s : ℕ) → 0 < occurrences s (references parts) → IsLive old s) → HasFewHolds old → objects.live < 1000000 → number + length parts ≤ 4000000
      → (body : ℕ) → fin.get (bodies_at all code) body ≡ None → (spare : ℕ) (all' : List Bodies) → all' ≡ boxes_with_body all code body parts spare
      → (room : ℕ) (v' : Nodes) → v' ≡ counted_up (references parts) (counted_up ((last + 1) ∷ []) (with_arena_node (last + 1) (new_arena_node code class body (first_place code)) (with_room room v)))
      → Closed all' v' names (last + 1) rows one_more (number + length parts) (made code class parts old)
  after_make more code class parts is_parts class_fits live holds few fits body vacant spare all' is room v' counts =
      subst (λ s. Closed all' v' names (last + 1) rows one_more (number + length parts) (made code class parts s)) h.is
      (subst (λ bs. Closed bs v' names (last + 1) rows one_more (number + length parts) (made code class parts was)) (sym is)
      (subst (λ w. Closed (boxes_with_body all code body parts spare) w names (last + 1) rows one_more (number + length parts) (made code class parts was)) (sym counts)
      (closed (boxes_with_body all code body parts spare)
      (counted_up (references parts) (counted_up ((last + 1) ∷ []) (with_arena_node (last + 1) (new_arena_node code class body (first_place code))
      (with_room room v)))) one_more (number + length parts) (made code class parts was)
      (keeps-made all (with_room room v) objects number was h.keeps.0 code class parts body spare vacant (λ s there. subst (λ o. IsLive o s) (sym h.is) (live s there)) is_parts class_fits
      more few fits)
      (kept was (made code class parts was) (kinds-made code class parts was h.keeps.0.shape.below) refl
      (let low : outside_total old < 2147483646 = holds in omega (arith, total-made code class parts was, total_is, low)) h.keeps.1)
      refl)))
