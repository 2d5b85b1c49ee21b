-- A put: an item replaced, or a key that gets a value.
use Rattle.std.proofs.Common.{◌≡◌, ◌≢◌, refl, sym, ◌∙◌, ap, subst, ℕ, suc, ◌<◌, ◌≤◌, Bool, true, false, not, ◌&&◌, ◌||◌, List, [], ◌∷◌, ◌++◌, length, get_or, set, Option, Some, None, IsSome, Result, Ok, Err, inl, inr, arith}
use Rattle.std.specs.Prelude.{◌⊎◌, ◌==◌, slice_get, ◌↔◌, ℤ, pos, negsuc, nat_lt, if◌then◌else◌, is_some, is_none, is_ok, option_map, option_to_list, IsOk, IfOk, OnOk}
use Rattle.std.proofs.lemmas.Result.{IfOk-at_ok}
use Rattle.std.proofs.lemmas.Bool.{false≢true}
use Rattle.std.proofs.lemmas.Bool.Decides.{leb_tells}
use Rattle.std.proofs.lemmas.List.{append-nil}
use Rattle.std.proofs.lemmas.Option.{slice_get-get_or}
use Rattle.std.specs.FinMap as fin
use Rattle.cg_value.specs.declared.Val.{Val}
use Rattle.cg_value.specs.declared.Val.TheVariants as val
use Rattle.cg_value.specs.declared.Entry.{Entry}
use Rattle.cg_value.specs.declared.KindCode.{KindCode}
use Rattle.cg_value.specs.declared.KindCode.TheVariants as kind
use Rattle.cg_value.specs.declared.Place.{Place}
use Rattle.cg_value.specs.declared.Place.TheVariants.{Untracked, Gen}
use Rattle.cg_kind.specs.Calls.{value_under, after_put}
use Rattle.cg_graph.specs.Holdings.{occurrences}
use Rattle.cg_graph.specs.Value.{item, value_at, same_value, put as put_entries, references, references_of_value, reference_in, entry_references}
use Rattle.cg_graph.specs.Object.{Object, change, with_entries, with_place as object_with_place, same_place, is_tracked, may_be_tracked as object_may_be_tracked}
use Rattle.cg_graph.specs.Store.{Store, Node, IsLive, HasCode, object_from, entries_of, entries_in, place_of, place_in}
use Rattle.cg_graph.specs.Changes.{more, held, moved, rewritten, with_place, with_entries as node_with_entries}
use Rattle.cg_graph.proofs.Maps.{get-mapped, get-changed_same}
use Rattle.cg_graph.proofs.Members.{true_and}
use Rattle.cg_heap.specs.declared.fault.HeapFault.{HeapFault}
use Rattle.cg_heap.specs.declared.fault.HeapFault.TheVariants as fault
use Rattle.cg_heap.specs.Keeps.{IsWellMade, IsWellMadeAt}
use Rattle.cg_heap.specs.Calls.{IsSound, code_of, value_in, with_put, entry_number, may_be_tracked, node_may_be_tracked, is_dict_at, is_untracked_dict, becomes_tracked, tracked_if}
use Rattle.cg_heap.proofs.CallerLemmas.{kinds-rewritten, lives_on}
use Rattle.cg_heap.proofs.HoldLemmas.{entries_hold}
use Rattle.cg_heap.proofs.ReferenceLemmas.{occurrences-append}
use Rattle.cg_machine.specs.World.{World, Releasing, push, with_change}
use Rattle.cg_machine.specs.Effects.{Effect, Changes, has_room, sets_entries, puts, tracked_by, may_track, valid_index}
use Rattle.cg_machine.specs.Operands.{is_dict}
use Rattle.cg_machine.specs.Refusals.{◌>>=◌}
use Rattle.cg_represents.specs.Represents.{Represents}
use Rattle.cg_represents.proofs.Places.{place_is}
use Rattle.cg_commands.specs.declared.done.Done.TheVariants.{Changed}
use Rattle.cg_commands.specs.declared.locals.Locals.{Locals}
use Rattle.cg_commands.specs.declared.keys.Keyed.{Keyed}
use Rattle.cg_commands.specs.declared.keys.Keyed.TheVariants as keyed
use Rattle.cg_commands.specs.Refusals.{refusal_by}
use Rattle.cg_commands.specs.Objects.{RefersTo, bare}
use Rattle.cg_commands.specs.Keys.{kind_of}
use Rattle.cg_commands.specs.Answers.{PerformsOnHeap}
use Rattle.cg_commands.proofs.EntryLemmas.{code-here, refills}
use Rattle.cg_commands.proofs.Steps.{entries-here}
use Rattle.cg_commands.proofs.ChangesOfHeaps.{released, refilled, tracked, change-alike}
use Rattle.cg_commands.proofs.Reading.{object-at_node}
use Rattle.cg_commands.proofs.Limits.{room, one_fits, fault-refused}

-- an index that is a position
pub index_is : (z : ℤ) (len i : ℕ) → valid_index z len ≡ Some i → (z ≡ pos i) × (i < len)
index_is (negsuc n) len i h = cc
index_is (pos n) len i h = known (nat_lt n len) (leb_tells (suc n) len) h
  where
    known : (b : Bool) → ((b ≡ true) × (suc n ≤ len)) ⊎ ((b ≡ false) × (len < suc n)) → (if b then Some n else None) ≡ Some i → (pos n ≡ pos i) × (i < len)
    known true (inl t) h = let same : n ≡ i = cc in (ap pos same, omega (arith, t.1, same))
    known true (inr t) h = cc
    known false t h = cc

-- the items of a list have no keys
pub item_alone : (store : Store) → IsSound store → (o : ℕ) (n : Node) → fin.get store.nodes o ≡ Some n → n.code ≡ kind.List → (i : ℕ) (e : Entry)
    → i < length n.entries → get_or n.entries i e ≡ e → entry_references e ≡ references_of_value (Some e.val)
item_alone store sound o n found list i e within at =
    let well : IsWellMade n = subst IsWellMadeAt found (sound.well o) in
    let none : (get_or n.entries i e).key ≡ val.None = well.items list i e within in
    ap (λ k. option_to_list (reference_in e.val) ++ option_to_list (reference_in k)) (ap (λ (x : Entry). x.key) (sym at) ∙ none)
    ∙ append-nil (option_to_list (reference_in e.val))

module _ (store : Store) (sound : IsSound store) (locals : Option Locals) (test : Object → Bool) (v : Val) (o : ℕ) (there : RefersTo store test v o)
    (list : there.node.code ≡ kind.List) (z : ℤ) (i : ℕ) (e : Entry) (at : z ≡ pos i) (here : slice_get (entries_of store o) i ≡ Some e) where
  list_code : code_of store o ≡ kind.List
  list_code = code-here store o kind.List (there.node, there.found, list)

  entries : entries_of store o ≡ there.node.entries
  entries = entries-here store locals test v o there

  found_value : value_in store o (val.Int z) ≡ Some e.val
  found_value = (λ j. value_under (list_code j) (entries_of store o) (val.Int (at j))) ∙ ap (option_map (λ e. e.val)) here

  -- the item at an index of a list is there, so nothing is refused
  pub sets-there : IsSome (value_in store o (val.Int z))
  sets-there = subst IsSome (sym found_value) refl

  -- and is replaced
  pub sets : (value : Val) (was : Option Val) (given : Entry) (new : Store) → i < length (entries_of store o)
      → new ≡ tracked_if (becomes_tracked store o (val.Int z) value) o (with_put store o (val.Int z) value) → was ≡ value_in store o (val.Int z) → entry_references given ≡ references_of_value was
      → PerformsOnHeap store locals (λ w. sets_entries w (object_from store.rows o there.node) (set there.node.entries i (item value)) (entry_references e)) new (Ok (Changed None given))
  sets value was given new within is told refs =
      refills store sound locals test v o there es i e given new here (refs ∙ ap references_of_value (told ∙ found_value) ∙ sym alone)
      (is ∙ untouched ∙ (λ j. held (references_of_value (found_value j)) (rewritten o (after j) store)) ∙ ap (λ rs. held rs (rewritten o es store)) (sym alone))
    where
      es : List Entry
      es = set there.node.entries i (item value)

      within_node : i < length there.node.entries
      within_node = subst (λ (es : List Entry). i < length es) entries within

      alone : entry_references e ≡ references_of_value (Some e.val)
      alone =
          let there_is : Some (get_or there.node.entries i e) ≡ Some e = sym (slice_get-get_or there.node.entries i e within_node) ∙ ap (λ es. slice_get es i) (sym entries) ∙ here in
          item_alone store sound o there.node there.found list i e within_node (cc)

      after : after_put (code_of store o) (entries_of store o) (val.Int z) value ≡ es
      after = (λ j. after_put (list_code j) (entries j) (val.Int (at j)) value)

      no_dict : is_untracked_dict (fin.get store.nodes o) ≡ false
      no_dict = ap is_untracked_dict there.found ∙ ap (λ c. is_dict_at c there.node.place) list

      untouched : tracked_if (becomes_tracked store o (val.Int z) value) o (with_put store o (val.Int z) value) ≡ with_put store o (val.Int z) value
      untouched = ap (λ b. tracked_if (b && (may_be_tracked store (val.Int z) || may_be_tracked store value)) o (with_put store o (val.Int z) value)) no_dict

-- a refusal is not Ok
pub never_ok : {X : Type 0} (r : Result X HeapFault) (f : HeapFault) → r ≡ Err f → IsOk r → ⊥
never_ok r f is ok = false≢true (ap is_ok (sym is) ∙ ok)

-- the value under a key is held by the entries
value_at-le : (s : ℕ) (es : List Entry) (key : Val) → occurrences s (references_of_value (value_at es key)) ≤ occurrences s (references es)
value_at-le s [] key = omega arith
value_at-le s (e ∷ es) key = go (value_at-le s es key) (same_value e.key key)
  where
    go : occurrences s (references_of_value (value_at es key)) ≤ occurrences s (references es) → (b : Bool)
        → occurrences s (references_of_value (if b then Some e.val else value_at es key)) ≤ occurrences s (references (e ∷ es))
    go rest true = omega (arith, occurrences-append s (entry_references e) (references es), occurrences-append s (option_to_list (reference_in e.val)) (option_to_list (reference_in e.key)))
    go rest false = omega (arith, occurrences-append s (entry_references e) (references es), rest)

-- whether a value may be tracked
abbrev node_of : KindCode → Place → Node
node_of c p = record { code = c; class = None; entries = []; finalized = false; place = p; number = 0; outside = 0 }

may-track : (store : Store) (w : World) → Represents store w → (v : Val) → may_track w v ≡ may_be_tracked store v
may-track store w r val.None = refl
may-track store w r (val.Int n) = refl
may-track store w r (val.Str n) = refl
may-track store w r (val.Ref s) =
    ap (λ y. elim y [ None ↦ false | Some y ↦ object_may_be_tracked y ]) (object-at_node store w r s)
    ∙ known (fin.get store.nodes s)
  where
    by_code : (c : KindCode) (p : Place) → object_may_be_tracked (object_from store.rows s (node_of c p)) ≡ node_may_be_tracked (Some (node_of c p))
    by_code kind.List p = refl
    by_code kind.Tuple p = refl
    by_code kind.Dict p = refl
    by_code kind.Inst p = refl
    by_code kind.Func p = refl
    by_code kind.Weak p = refl

    known : (n : Option Node) → elim (option_map (object_from store.rows s) n) [ None ↦ false | Some y ↦ object_may_be_tracked y ] ≡ node_may_be_tracked n
    known None = refl
    known (Some n) = by_code n.code n.place

module _ (store : Store) (sound : IsSound store) (locals : Option Locals) (what : Keyed) (o : ℕ) (c : KindCode) (same : c ≡ kind_of what) (has : HasCode store o c)
    (key value : Val) where
  abbrev n : Node
  n = has.0

  abbrev es : List Entry
  es = put_entries n.entries key value

  here : entries_of store o ≡ n.entries
  here = ap entries_in has.1

  code : code_of store o ≡ kind_of what
  code = code-here store o c has ∙ same

  under : value_in store o key ≡ value_at n.entries key
  under = (λ j. value_under (code j) (here j) key) ∙ by what
    where
      by : (what : Keyed) → value_under (kind_of what) n.entries key ≡ value_at n.entries key
      by keyed.Dict = refl
      by keyed.Inst = refl

  after : after_put (code_of store o) (entries_of store o) key value ≡ es
  after = (λ j. after_put (code j) (here j) key value) ∙ by what
    where
      by : (what : Keyed) → after_put (kind_of what) n.entries key value ≡ es
      by keyed.Dict = refl
      by keyed.Inst = refl

  -- what the machine does where memory suffices
  abbrev changed_world : World → World
  changed_world w = with_change (λ y. tracked_by w key value (with_entries es y)) o w

  abbrev puts_with : Option Val → World → Result Effect ℕ
  puts_with old w = (if is_some old then Ok tt else has_room w 1) >>= (λ _. Ok (Changes (is_none old) [] (references_of_value old) (changed_world w)))

  -- refused for room or memory, if the key is new
  pub puts-refused : {X : Type 0} (f : HeapFault) (r : Result X HeapFault) → r ≡ Err f
      → ((r ≡ Err fault.EntryLimit) ↔ ((value_in store o key ≡ None) × (4000000 ≤ entry_number store))) → r ≢ Err fault.ObjectLimit
      → (IsSome (value_in store o key) → IsOk r) → (new : Store) → new ≡ store → PerformsOnHeap store locals (λ w. puts w (object_from store.rows o n) key
      value) new (Err (refusal_by f))
  puts-refused f r is limit objects present new same = subst (λ old. PerformsOnHeap store locals (λ w. puts_with old w) new (Err (refusal_by f))) (sym none ∙ under)
      (fault-refused store locals f [] [] changed_world r is (λ h. (limit.0 h).1, λ h. limit.1 (none, h)) objects new same)
    where
      absent : (x : Option Val) → value_in store o key ≡ x → x ≡ None
      absent None is = refl
      absent (Some x) at = absurd (never_ok r f is (present (subst IsSome (sym at) refl)))

      none : value_in store o key ≡ None
      none = absent (value_in store o key) refl

  -- whether the object becomes tracked
  abbrev becomes : World → Node → Bool
  becomes w m = is_dict (object_from store.rows o m) && not (is_tracked (object_from store.rows o m)) && (may_track w key || may_track w value)

  becomes-told : (w : World) → Represents store w → becomes w n ≡ becomes_tracked store o key value
  becomes-told w r =
      (λ j. is_dict (object_from store.rows o n) && not (is_tracked (object_from store.rows o n)) && (may-track store w r key j || may-track store w r value j))
      ∙ ap (λ b. b && (may_be_tracked store key || may_be_tracked store value))
      (ap (λ c. is_dict (bare c o) && not (not (same_place n.place Untracked))) (has.2 ∙ same) ∙ by what ∙ sym (ap is_untracked_dict has.1 ∙ ap (λ c. is_dict_at c n.place) (has.2 ∙ same)))
    where
      twice : (b : Bool) → not (not b) ≡ b
      twice true = refl
      twice false = refl

      by : (what : Keyed) → (is_dict (bare (kind_of what) o) && not (not (same_place n.place Untracked))) ≡ is_dict_at (kind_of what) n.place
      by keyed.Dict = twice (same_place n.place Untracked)
      by keyed.Inst = refl

  -- the heap after the put, and the world
  module _ (w : World) (r : Represents store w) where
    abbrev now : Bool
    now = becomes_tracked store o key value

    abbrev refs : List ℕ
    refs = references_of_value (value_in store o key)

    abbrev filled : Store
    filled = rewritten o es store

    refs_live : (q : ℕ) → 0 < occurrences q refs → IsLive filled q
    refs_live q some =
        let same : occurrences q refs ≡ occurrences q (references_of_value (value_at n.entries key)) = ap (λ x. occurrences q (references_of_value x)) under in
        let all : occurrences q (references (entries_of store o)) ≡ occurrences q (references n.entries) = ap (λ es. occurrences q (references es)) here in
        lives_on store filled (kinds-rewritten o es store) q (sound.live q (omega (arith, some, same, all, value_at-le q n.entries key, entries_hold store o q)))

    -- before it may become tracked
    abbrev before : World
    before = push (Releasing refs) (with_change (with_entries es) o w)

    first : Represents (held refs filled) before
    first = released filled (with_change (with_entries es) o w) (refilled store w r o es) refs refs_live

    -- two consecutive changes
    change-twice : (f g : Object → Object) → ((y : Object) → (g y).serial ≡ y.serial) → (xs : List Object) → change f o (change g o xs) ≡ change (λ y. f (g y)) o xs
    change-twice f g same [] = refl
    change-twice f g same (y ∷ ys) = (λ j. one (y.serial == o) refl j ∷ change-twice f g same ys j)
      where
        one : (b : Bool) → (y.serial == o) ≡ b → (if (if (y.serial == o) then g y else y).serial == o then f (if (y.serial == o) then g y else y)
            else (if (y.serial == o) then g y else y)) ≡ (if (y.serial == o) then f (g y) else y)
        one true is = (λ j. if (if is j then g y else y).serial == o then f (if is j then g y else y) else (if is j then g y else y))
            ∙ ap (λ b. if b then f (g y) else g y) (ap (λ k. k == o) (same y) ∙ is) ∙ sym (ap (λ b. if b then f (g y) else y) is)
        one false is = (λ j. if (if is j then g y else y).serial == o then f (if is j then g y else y) else (if is j then g y else y))
            ∙ ap (λ b. if b then f y else y) is ∙ sym (ap (λ b. if b then f (g y) else y) is)

    abbrev tracks : Bool → Object → Object
    tracks b y = if b then object_with_place (Gen 0) y else y

    moved-if : (b : Bool) → now ≡ b → Represents (tracked_if b o (held refs filled)) (push (Releasing refs) (with_change (λ y. tracks b (with_entries es y)) o w))
    moved-if true is =
        subst (λ os. Represents (moved o (Gen 0) (held refs filled)) (record (push (Releasing refs) w) { objects = os }))
        (change-twice (object_with_place (Gen 0)) (with_entries es) (λ y. refl) w.objects) (tracked (held refs filled) before first o untracked)
      where
        was : is_dict_at (kind_of what) n.place ≡ true
        was = ap (λ c. is_dict_at c n.place) (sym (has.2 ∙ same)) ∙ ap is_untracked_dict (sym has.1) ∙ (true_and (is_untracked_dict (fin.get store.nodes o)) _ is).0

        place : (what : Keyed) → is_dict_at (kind_of what) n.place ≡ true → same_place n.place Untracked ≡ true
        place keyed.Dict h = h
        place keyed.Inst h = cc

        untracked : place_of (held refs filled) o ≡ Untracked
        untracked =
            ap place_in (get-mapped (λ s n. more (occurrences s refs) n) filled.nodes o ∙ ap (option_map (more (occurrences o refs)))
            (get-changed_same (node_with_entries es) o store.nodes o refl ∙ ap (option_map (node_with_entries es)) has.1))
            ∙ place_is n.place Untracked (place what was)
    moved-if false is = first

    -- the change is the machine's
    world-is : change (λ y. tracks now (with_entries es y)) o w.objects ≡ change (λ y. tracked_by w key value (with_entries es y)) o w.objects
    world-is =
        subst (λ os. change (λ y. tracks now (with_entries es y)) o os ≡ change (λ y. tracked_by w key value (with_entries es y)) o os) r.objects
        (change-alike store o n (λ m. put_at now m) (λ m. put_at (becomes w m) m) (λ y. tracks now (with_entries es y))
        (λ y. tracked_by w key value (with_entries es y)) (λ s m. placed now s m) (λ s m. placed (becomes w m) s m) has.1
        (ap (λ b. put_at b n) (sym (becomes-told w r))))
      where
        put_at : Bool → Node → Node
        put_at b m = if b then with_place (Gen 0) (node_with_entries es m) else node_with_entries es m

        placed : (b : Bool) (s : ℕ) (m : Node) → object_from store.rows s (put_at b m) ≡ tracks b (with_entries es (object_from store.rows s m))
        placed true s m = refl
        placed false s m = refl

    put-represents : (new : Store) → new ≡ tracked_if now o (with_put store o key value) → Represents new (push (Releasing refs) (changed_world w))
    put-represents new is =
        subst (λ st. Represents st (push (Releasing refs) (changed_world w))) (sym (is ∙ ap (λ l. tracked_if now o (held refs (rewritten o l store))) after))
        (subst (λ os. Represents (tracked_if now o (held refs filled)) (record (push (Releasing refs) w) { objects = os })) world-is (moved-if now refl))

  -- and done otherwise
  pub puts-performs : (r : Result (Option Val) HeapFault) (was : Option Val) → r ≡ Ok was
      → ((r ≡ Err fault.EntryLimit) ↔ ((value_in store o key ≡ None) × (4000000 ≤ entry_number store))) → (new : Store)
      → OnOk r (new ≡ tracked_if (becomes_tracked store o key value) o (with_put store o key value)) → IfOk r (λ was. was ≡ value_in store o key)
      → (e : Entry) → entry_references e ≡ references_of_value was
      → PerformsOnHeap store locals (λ w. puts w (object_from store.rows o n) key value) new (Ok (Changed None e))
  unfolding ◌>>=◌
  puts-performs r was is limit new put told e refs_are w s =
      record {
        wants_memory = is_none (value_at n.entries key);
        after = changed_world w;
        is = ap (λ q. q >>= (λ _. Ok (Changes (is_none (value_at n.entries key)) [] (references_of_value (value_at n.entries key)) (changed_world w)))) (checked (value_at n.entries key) refl)
            ∙ ap (λ rs. Ok (Changes (is_none (value_at n.entries key)) [] rs (changed_world w))) (sym (refs_is ∙ ap references_of_value under));
        represents = subst (λ rs. Represents new (push (Releasing rs) (changed_world w))) (sym refs_is) (put-represents w s.represents new (IfOk-at_ok _ is put));
      }
    where
      refs_is : entry_references e ≡ references_of_value (value_in store o key)
      refs_is = refs_are ∙ ap references_of_value (IfOk-at_ok (λ was. was ≡ value_in store o key) is told)

      checked : (old : Option Val) → value_at n.entries key ≡ old → (if is_some old then Ok tt else has_room w 1) ≡ Ok tt
      checked (Some x) at = refl
      checked None at = room store w s.represents 1 (one_fits store r (λ e. let no' = sym is ∙ e in cc) (λ full. limit.1 (under ∙ at, full)))
