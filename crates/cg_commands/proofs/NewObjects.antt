-- An object that the heap makes is the world's new object.
use Rattle.std.proofs.Common.{◌≡◌, refl, sym, ◌∙◌, ap, subst, ℕ, ◌+◌, ◌<◌, Bool, true, false, not, ◌&&◌, cond, List, [], ◌∷◌, ◌++◌, map, filter, reverse, Option, Some, None, IsSome, arith}
use Rattle.std.specs.Prelude.{◌==◌, find, option_map}
use Rattle.std.specs.List.{All}
use Rattle.std.proofs.lemmas.Bool.{eq-eqb, ne_eqb}
use Rattle.std.proofs.lemmas.List.{get_or-set_other}
use Rattle.std.proofs.lemmas.List.Elements.{All-head, All-tail}
use Rattle.std.specs.Ordering.{nat_cmp, eq_by_cmp}
use Rattle.std.specs.Cmp.{unsigned_tied}
use Rattle.std.specs.FinMap as fin
use Rattle.cg_value.specs.declared.Entry.{Entry}
use Rattle.cg_value.specs.declared.KindCode.{KindCode}
use Rattle.cg_value.specs.declared.KindCode.TheVariants as kind
use Rattle.cg_value.specs.declared.Place.TheVariants.{Pend}
use Rattle.cg_graph.specs.Member.{Includes}
use Rattle.cg_graph.specs.Holdings.{occurrences}
use Rattle.cg_graph.specs.Object.{first_place}
use Rattle.cg_graph.specs.Places.{place_number, list_of, joins_list}
use Rattle.cg_graph.specs.Rows.{Row, referent_in, waiting_in, waits_with, new_row}
use Rattle.cg_graph.specs.Store.{Store, Node, object_from, objects_of, list_at}
use Rattle.cg_graph.specs.Changes.{made, new_node, unheld, less}
use Rattle.cg_graph.proofs.Objects.{objects-same, objects-made}
use Rattle.cg_graph.proofs.Members.{either, Includes-append_cases}
use Rattle.cg_heap.specs.Calls.{IsSound}
use Rattle.cg_heap.specs.Weak.{attached, with_new_row}
use Rattle.cg_heap.proofs.CallerLemmas.{live_of_kind}
use Rattle.cg_heap.proofs.HoldLemmas.{outside-unheld, outside-made}
use Rattle.cg_machine.specs.World.{World}
use Rattle.cg_machine.specs.Effects.{with_new}
use Rattle.cg_represents.specs.Represents.{Represents, CollectionWaits}

-- a search in a list with one more member at the end
find-keeps : (p : Row → Bool) (rows : List Row) (x : Row) → p x ≡ false → find p (rows ++ x ∷ []) ≡ find p rows
find-keeps p [] x no' = ap (λ b. cond b (Some x) None) no'
find-keeps p (r ∷ rows) x no' = ap (cond (p r) (Some r)) (find-keeps p rows x no')

find-last : (p : Row → Bool) (rows : List Row) (x : Row) → p x ≡ true → find p rows ≡ None → find p (rows ++ x ∷ []) ≡ Some x
find-last p [] x yes' none = ap (λ b. cond b (Some x) None) yes'
find-last p (r ∷ rows) x yes' none = go (p r) none (find-last p rows x yes')
  where
    go : (b : Bool) → cond b (Some r) (find p rows) ≡ None → (find p rows ≡ None → find p (rows ++ x ∷ []) ≡ Some x) → cond b (Some r) (find p (rows ++ x ∷ [])) ≡ Some x
    go true h next = absurd (cc)
    go false h next = next h

filter-keeps : (p : Row → Bool) (rows : List Row) (x : Row) → p x ≡ false → filter p (rows ++ x ∷ []) ≡ filter p rows
filter-keeps p [] x no' = ap (λ b. cond b (x ∷ []) []) no'
filter-keeps p (r ∷ rows) x no' = ap (λ l. cond (p r) (r ∷ l) l) (filter-keeps p rows x no')

false-right : (b : Bool) → (b && false) ≡ false
false-right true = refl
false-right false = refl

find-fresh : (s : ℕ) (rows : List Row) → All (λ r. r.weak < s) rows → find (λ r. (r.weak == s) && not r.waits) rows ≡ None
find-fresh s [] below = refl
find-fresh s (r ∷ rows) below =
    let first : r.weak < s = All-head (λ (r : Row). r.weak < s) r rows below in
    ap (λ b. cond (b && not r.waits) (Some r) (find (λ r. (r.weak == s) && not r.waits) rows)) (ne_eqb r.weak s (λ e. absurd (omega (arith, first, e))))
    ∙ find-fresh s rows (All-tail (λ (r : Row). r.weak < s) r rows below)

module _ (store : Store) (w : World) (r : Represents store w) (sound : IsSound store) (code : KindCode) (class : Option ℕ) (parts : List Entry) where
  abbrev s : ℕ
  s = store.last + 1

  below_rows : All (λ r. r.weak < s) store.rows
  below_rows k d within = let low = sound.below _ (live_of_kind store _ kind.Weak (sound.rows.weak k d within)) in omega (arith, low)

  module _ (referent : Option ℕ) where
    abbrev rows : List Row
    rows = with_new_row s referent store.rows

    -- the object, before and after its outside hold is given up
    abbrev made_store : Store
    made_store = attached s referent (made code class parts store)

    abbrev after : Store
    after = unheld (s ∷ []) made_store

    own : (x : Option ℕ) → referent_in (with_new_row s x store.rows) s ≡ x
    own None = ap (option_map (λ r. r.referent)) (find-fresh s store.rows below_rows)
    own (Some t) = ap (option_map (λ r. r.referent)) (find-last (λ r. (r.weak == s) && not r.waits) store.rows (new_row s t)
        (ap (λ b. b && true) (eq-eqb s s refl)) (find-fresh s store.rows below_rows))

    others : (x : Option ℕ) (q : ℕ) → q < s → referent_in (with_new_row s x store.rows) q ≡ referent_in store.rows q
    others None q low = refl
    others (Some t) q low = ap (option_map (λ r. r.referent)) (find-keeps (λ r. (r.weak == q) && not r.waits) store.rows (new_row s t)
        (ap (λ b. b && true) (ne_eqb s q (λ e. absurd (omega (arith, low, e))))))

    waits-kept : (x : Option ℕ) (o : ℕ) → waiting_in (with_new_row s x store.rows) o ≡ waiting_in store.rows o
    waits-kept None o = refl
    waits-kept (Some t) o = ap (λ l. reverse (map (λ r. r.weak) l)) (filter-keeps (waits_with o) store.rows (new_row s t) (false-right (t == o)))

    waiting-old : (x : Option ℕ) (row : Row) → Includes (with_new_row s x store.rows) row → row.waits ≡ true → Includes store.rows row
    waiting-old None row m waits = m
    waiting-old (Some t) row m waits = either (Includes-append_cases store.rows (new_row s t ∷ []) row m) (λ h. h)
        (λ h. either h (λ e. let same : false ≡ row.waits = ap (λ (r : Row). r.waits) e in cc) (λ k. absurd k))

    same-rows : (es : List (ℕ × Node)) → ((q : ℕ) → IsSome (fin.find nat_cmp q es) → q < s) → map (λ (e : ℕ × Node). object_from rows e.0 e.1) es
        ≡ map (λ (e : ℕ × Node). object_from store.rows e.0 e.1) es
    same-rows [] below = refl
    same-rows (e ∷ es) below =
        let first : e.0 < s = below e.0 (subst (λ b. IsSome (cond b (Some e.1) (fin.find nat_cmp e.0 es))) (sym (unsigned_tied e.0 e.0 ∙ eq-eqb e.0 e.0 refl)) refl) in
        (λ i. record {
          serial = e.0;
          code = e.1.code;
          class = e.1.class;
          entries = e.1.entries;
          place = e.1.place;
          finalized = e.1.finalized;
          referent = others referent e.0 first i;
        } ∷ same-rows es (λ q h. below q (later q h)) i)
      where
        later : (q : ℕ) → IsSome (fin.find nat_cmp q es) → IsSome (fin.find nat_cmp q (e ∷ es))
        later q h = elim (eq_by_cmp nat_cmp q e.0) as (λ b. IsSome (cond b (Some e.1) (fin.find nat_cmp q es))) [ true ↦ refl | false ↦ h ]

    object-new : object_from rows s (new_node code class parts) ≡ record {
      serial = w.next_serial;
      code = code;
      class = class;
      entries = parts;
      place = first_place code;
      finalized = false;
      referent = referent;
    }
    object-new i = record { serial = sym r.next_serial i; code = code; class = class; entries = parts; place = first_place code; finalized = false; referent = own referent i }

    objects-after : objects_of after ≡ (with_new w code class parts referent).objects
    objects-after =
        objects-same made_store (λ q n. less (occurrences q (s ∷ [])) n) (λ q n. refl)
        ∙ objects-made (record store { rows = rows }) code class parts sound.below
        ∙ (λ i. (same-rows (fin.entries store.nodes) (λ q h. let low = sound.below q (subst IsSome (sym (fin.get-entries store.nodes q)) h) in omega (arith, low)) ∙ r.objects) i ++ object-new i ∷ [])

    pending : list_at after Pend ≡ list_at store Pend
    pending = known code
      where
        known : (c : KindCode) → list_of (joins_list store.lists s (place_number (first_place c))) 6 ≡ list_of store.lists 6
        known kind.List = get_or-set_other store.lists 7 6 (list_of store.lists 7 ++ s ∷ []) [] (omega arith)
        known kind.Tuple = get_or-set_other store.lists 7 6 (list_of store.lists 7 ++ s ∷ []) [] (omega arith)
        known kind.Dict = get_or-set_other store.lists 0 6 (list_of store.lists 0 ++ s ∷ []) [] (omega arith)
        known kind.Inst = get_or-set_other store.lists 7 6 (list_of store.lists 7 ++ s ∷ []) [] (omega arith)
        known kind.Func = get_or-set_other store.lists 7 6 (list_of store.lists 7 ++ s ∷ []) [] (omega arith)
        known kind.Weak = get_or-set_other store.lists 7 6 (list_of store.lists 7 ++ s ∷ []) [] (omega arith)

    pub represents-new : Represents after (with_new w code class parts referent)
    represents-new = record {
      objects = objects-after;
      next_serial = ap (λ k. k + 1) r.next_serial;
      names = r.names;
      outside = λ q. omega (arith, outside-unheld (s ∷ []) made_store q, outside-made code class parts store sound.below q, r.outside q);
      deaths = λ d m. r.deaths d m ∙ sym (waits-kept referent d.object);
      no_others = λ row m waits. r.no_others row (waiting-old referent row m waits) waits;
      collection = λ c m. subst (λ l. CollectionWaits c.phase l) (sym pending) (r.collection c m);
    }
