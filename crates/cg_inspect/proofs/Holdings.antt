-- How often roots hold an object, as it is computed: its in-degree less the references of all entries.
use Rattle.std.proofs.Common.{◌≡◌, refl, sym, ◌∙◌, ap, subst, ℕ, ◌≢◌, ◌+◌, ◌-◌, ◌<◌, ◌≤◌, ◌⊎◌, inl, inr, Bool, true, false, List, [], ◌∷◌, ◌++◌, length, map, take, drop, Option, Some, None, IsTrue, get_or, take_all, arith, append_assoc}
use Rattle.std.specs.Prelude.{◌==◌, ◌||◌, ◌↔◌, flat_map, slice_get, option_map, if◌then◌else◌}
use Rattle.std.proofs.lemmas.Bool.{eq-eqb, ne_eqb, cases_eq, cases_lt}
use Rattle.std.proofs.lemmas.List.{append-nil, take_more}
use Rattle.std.proofs.lemmas.Option.{slice_get_within, get_or_from_slice_get}
use Rattle.std.proofs.lemmas.List.Folds.{list_any-append}
use Rattle.cg_value.specs.declared.Entry.{Entry}
use Rattle.cg_graph.specs.declared.Edge.{Edge}
use Rattle.cg_graph.specs.Member.{Includes, includes}
use Rattle.cg_graph.specs.Value.{references, entry_references, references_of_value}
use Rattle.cg_graph.specs.Object.{Object, serials}
use Rattle.cg_graph.specs.Holdings.{occurrences, name_holdings, entry_holdings, graph_of}
use Rattle.cg_graph.specs.Reach.{edges}
use Rattle.cg_graph.specs.Store.{Store, objects_of, entries_of, inner, count_of, outside_of, IsLive}
use Rattle.cg_graph.proofs.Members.{either, Includes-append_left, Includes-append_right, Includes-append_cases, Includes-map, Includes-map_cases, Includes-of, includes-of}
use Rattle.cg_graph.proofs.Objects.{occurrences-append, inner-holdings}
use Rattle.cg_heap.proofs.HoldLemmas.{outside_live, entries_hold}
use Rattle.cg_kind.proofs.References.{references_more, references_in_turn, references_split}
use Rattle.cg_trial.proofs.Lists.{occurs}
use Rattle.cg_trial.proofs.Objects.{edges_of_objects}
use Rattle.cg_inspect.specs.Inspection.{holdings_but_entries, HeldElse, arrows_of}
use Rattle.cg_inspect.specs.Numbers.{AreNumbers, AreLowered, number_of}
use Rattle.cg_search.specs.Walks.{Findings, objects_in, Finds, IsStart, IsTrail, IsTrailOf, HasSpread, IsOver}
use Rattle.cg_inspect.proofs.Objects.{entries_are, holdings-serials, live_serial, in_range}
use Rattle.cg_search.proofs.Trails.{next_taken, get_below, get_in, start_more, start_same, trail_of, spread_more}
use Rattle.cg_inspect.proofs.Found.{few_found}

pub references_next : (es : List Entry) (i : ℕ) (e : Entry) → slice_get es i ≡ Some e → references (take (i + 1) es)
    ≡ (references (take i es) ++ references_of_value (Some e.val)) ++ references_of_value (Some e.key)
references_next es i e at = references_in_turn es i e at

pub listed_next : (es : List Entry) (i : ℕ) (e : Entry) (listed half now : List ℕ) → slice_get es i ≡ Some e → listed ≡ references (take i es) → half ≡ listed
    ++ references_of_value (Some e.val) → now ≡ half ++ references_of_value (Some e.key)
    → now ≡ references (take (i + 1) es)
listed_next es i e listed half now at so val key = key ∙ ap (λ (l : List ℕ). l ++ references_of_value (Some e.key))
    (val ∙ ap (λ (l : List ℕ). l ++ references_of_value (Some e.val)) so) ∙ sym (references_next es i e at)

-- whether the first entries hold an object, and with one more
includes_append : (xs ys : List ℕ) (o : ℕ) → includes (xs ++ ys) o ≡ (includes xs o || includes ys o)
includes_append xs ys o = list_any-append (λ x. x == o) xs ys

pub held_by_next : (es : List Entry) (i : ℕ) (e : Entry) (o : ℕ) → slice_get es i ≡ Some e → includes (references (take i es)) o ≡ false
    → includes (entry_references e) o ≡ false → includes (references (take (i + 1) es)) o ≡ false
held_by_next es i e o at none here =
    ap (λ (l : List ℕ). includes l o) (references_more es i e at)
    ∙ includes_append (references (take i es)) (entry_references e) o
    ∙ (λ k. none k || here k)

pub held_by_one : (es : List Entry) (i : ℕ) (e : Entry) (o : ℕ) → slice_get es i ≡ Some e → includes (entry_references e) o ≡ true → includes (references es) o ≡ true
held_by_one es i e o at here =
    includes-of (references es) o
    (subst (λ (l : List ℕ). Includes l o) (sym (references_split es i e at))
    (Includes-append_right (references (take i es)) (entry_references e ++ references (drop (i + 1) es)) o (Includes-append_left (entry_references e)
    (references (drop (i + 1) es)) o (Includes-of (entry_references e) o here))))

pub numbers_more : (number : ℕ → ℕ) (objects : List ℕ) (object : ℕ) (old new : List (ℕ × ℕ)) → AreNumbers number objects old
    → ((s : ℕ) → number_of new s ≡ (if object == s then Some (number object) else number_of old s)) → AreNumbers number (objects ++ object ∷ []) new
numbers_more number objects object old new are now o m = go (cases_eq object o) (Includes-append_cases objects (object ∷ []) o m)
  where
    go : (object ≡ o) ⊎ (object ≢ o) → Includes objects o ⊎ Includes (object ∷ []) o → number_of new o ≡ Some (number o)
    go (inl same) k = now o ∙ ap (λ b. if b then Some (number object) else number_of old o) (eq-eqb object o same) ∙ ap (λ s. Some (number s)) same
    go (inr differs) (inl k) = now o ∙ ap (λ b. if b then Some (number object) else number_of old o) (ne_eqb object o differs) ∙ are o k
    go (inr differs) (inr k) = absurd (differs (either k (λ e. e) (λ f. absurd f)))

-- numbers lowered by references, and by further ones
pub numbers_lowered : (number : ℕ → ℕ) (objects refs more : List ℕ) (old new : List (ℕ × ℕ)) → AreNumbers (λ o. number o - occurrences o refs) objects old
    → AreLowered more old new → AreNumbers (λ o. number o - occurrences o (refs ++ more)) objects new
numbers_lowered number objects refs more old new are lowered o m =
    lowered o ∙ ap (option_map (λ n. n - occurrences o more)) (are o m)
    ∙ ap Some (omega (arith, occurrences-append o refs more))

pub flat_next : (f : ℕ → List ℕ) (xs : List ℕ) (i x : ℕ) → slice_get xs i ≡ Some x → flat_map f (take (i + 1) xs) ≡ flat_map f (take i xs) ++ f x
flat_next f xs i x at = ap (flat_map f) (next_taken xs i x at) ∙ flat_append (take i xs) (x ∷ []) ∙ ap (λ (l : List ℕ). flat_map f (take i xs) ++ l) (append-nil (f x))
  where
    flat_append : (ys zs : List ℕ) → flat_map f (ys ++ zs) ≡ flat_map f ys ++ flat_map f zs
    flat_append [] zs = refl
    flat_append (y ∷ ys) zs = ap (λ (l : List ℕ). f y ++ l) (flat_append ys zs) ∙ sym (append_assoc (f y) (flat_map f ys) (flat_map f zs))

-- over the objects of a list, by position
pub numbers_next : (number : ℕ → ℕ) (xs : List ℕ) (i n : ℕ) (old new : List (ℕ × ℕ)) → i < length xs → AreNumbers number (take i xs) old → n ≡ number (get_or xs i 0)
    → ((s : ℕ) → number_of new s ≡ (if get_or xs i 0 == s then Some n else number_of old s)) → AreNumbers number (take (i + 1) xs) new
numbers_next number xs i n old new low are value now =
    subst (λ (l : List ℕ). AreNumbers number l new) (sym (take_more xs i 0 low))
    (numbers_more number (take i xs) (get_or xs i 0) old new are (λ s. now s ∙ ap (λ v. if get_or xs i 0 == s then Some v else number_of old s) value))

module _ (store : Store) where
  abbrev held : List ℕ
  held = flat_map (λ p. references (entries_of store p)) (serials (objects_of store))

  -- the in-degree less all references of entries is what roots hold
  pub holdings-less : (o : ℕ) → count_of store o - occurrences o held ≡ holdings_but_entries store o
  holdings-less o =
      let e = ap (occurrences o) (holdings-serials store) in
      omega (
        arith,
        e,
        inner-holdings store o,
        occurrences-append o (name_holdings store.names ++ (1 ∷ [])) (entry_holdings (graph_of (objects_of store))),
        occurrences-append o (name_holdings store.names) (1 ∷ []),
      )

  pub numbers_at_last : (objects done : List ℕ) (numbers : List (ℕ × ℕ)) → objects ≡ serials (objects_of store) → done ≡ objects
      → AreNumbers (λ o. count_of store o - occurrences o (flat_map (λ p. references (entries_of store p)) done)) objects numbers → AreNumbers (holdings_but_entries store) objects numbers
  numbers_at_last objects done numbers all whole are o m =
      are o m ∙ ap Some (ap (λ (l : List ℕ). count_of store o - occurrences o (flat_map (λ p. references (entries_of store p)) l)) (whole ∙ all) ∙ holdings-less o)

  -- the arrows of an object are its references
  pub arrows_out : (o p : ℕ) → Includes (arrows_of store) (record { from = o; to = p }) → Includes (references (entries_of store o)) p
  arrows_out o p m = go (objects_of store) (λ x k. k) m
    where
      go : (xs : List Object) → ((x : Object) → Includes xs x → Includes (objects_of store) x) → Includes (edges (graph_of xs)) (record { from = o; to = p })
          → Includes (references (entries_of store o)) p
      go [] into m = absurd m
      go (x ∷ xs) into m =
          either (Includes-append_cases (map (λ r. record { from = x.serial; to = r }) (references x.entries)) (edges (graph_of xs)) (record { from = o; to = p }) m)
          (λ k.
          let r = Includes-map_cases (λ r. record { from = x.serial; to = r }) (references x.entries) (record { from = o; to = p }) k in
          let from : x.serial ≡ o = ap (λ (e : Edge). e.from) r.2 in
          let to : r.0 ≡ p = ap (λ (e : Edge). e.to) r.2 in
          subst (λ q. Includes (references (entries_of store q)) p) from
          (subst (λ es. Includes (references es) p) (sym (entries_are store x (into x (inl refl)))) (subst (Includes (references x.entries)) to r.1)))
          (λ k. go xs (λ y l. into y (inr l)) k)

  module _ (live : (s : ℕ) → 0 < inner store s → IsLive store s) where
    -- what roots hold lives
    pub held_lives : (object o : ℕ) → HeldElse store object o → IsLive store o
    held_lives object o h = go (cases_pos (outside_of store o))
      where
        cases_pos : (n : ℕ) → (n ≡ 0) ⊎ (0 < n)
        cases_pos n = elim (cases_eq n 0) [ inl e ↦ inl e | inr d ↦ inr (omega (arith, d)) ]

        go : (outside_of store o ≡ 0) ⊎ (0 < outside_of store o) → IsLive store o
        go (inr some) = outside_live store o some
        go (inl none) =
            live o (omega (
              arith,
              h,
              none,
              inner-holdings store o,
              occurrences-append o (name_holdings store.names ++ (1 ∷ [])) (entry_holdings (graph_of (objects_of store))),
              occurrences-append o (name_holdings store.names) (1 ∷ []),
            ))

    -- so does what an entry refers to
    pub referent_lives : (p o : ℕ) → Includes (references (entries_of store p)) o → IsLive store o
    referent_lives p o m = live o (omega (arith, occurs (references (entries_of store p)) o m, entries_hold store p o))

    pub arrows_in : (o p : ℕ) → IsLive store o → Includes (references (entries_of store o)) p → Includes (arrows_of store) (record { from = o; to = p })
    arrows_in o p lives m =
        let x = Includes-map_cases (λ (z : Object). z.serial) (objects_of store) o (live_serial store o lives) in
        edges_of_objects (objects_of store) o p x.0 x.1 x.2
        (subst (λ es. Includes (references es) p) (entries_are store x.0 x.1) (subst (λ q. Includes (references (entries_of store q)) p) (sym x.2) m))

-- one more object lowers the numbers of what its entries refer to
pub lowered_next : (store : Store) (xs refs objects : List ℕ) (i : ℕ) (old new : List (ℕ × ℕ)) → i < length xs
    → AreNumbers (λ o. count_of store o - occurrences o (flat_map (λ p. references (entries_of store p)) (take i xs))) objects old
    → refs ≡ references (entries_of store (get_or xs i 0)) → AreLowered refs old new
    → AreNumbers (λ o. count_of store o - occurrences o (flat_map (λ p. references (entries_of store p)) (take (i + 1) xs))) objects new
lowered_next store xs refs objects i old new low are is lowered =
    subst (λ (l : List ℕ). AreNumbers (λ o. count_of store o - occurrences o l) objects new) (sym (flat_next (λ p. references (entries_of store p)) xs i (get_or xs i 0) at))
    (numbers_lowered (count_of store) objects (flat_map (λ p. references (entries_of store p)) (take i xs)) (references (entries_of store (get_or xs i 0))) old
    new are (subst (λ (l : List ℕ). AreLowered l old new) is lowered))
  where
    at : slice_get xs i ≡ Some (get_or xs i 0)
    at = let r = get_below xs i low in r.1 ∙ ap Some (sym (get_or_from_slice_get xs i r.0 0 r.1))

pub lowered_all : (store : Store) (objects : List ℕ) (i : ℕ) (numbers : List (ℕ × ℕ)) → objects ≡ serials (objects_of store) → length objects ≤ i
    → AreNumbers (λ o. count_of store o - occurrences o (flat_map (λ p. references (entries_of store p)) (take i objects))) objects numbers → AreNumbers (holdings_but_entries store) objects numbers
lowered_all store objects i numbers all end are = numbers_at_last store objects (take i objects) numbers all (take_all i objects end) are

-- Which of the first objects roots hold, and with one more.
abbrev pub HeldAmong : Store → ℕ → List ℕ → ℕ → Type 0
HeldAmong store object done o = HeldElse store object o × Includes done o

module _ (store : Store) (object : ℕ) (xs : List ℕ) (i : ℕ) (numbers : List (ℕ × ℕ)) (low : i < length xs) (are : AreNumbers (holdings_but_entries store) xs numbers) (held : Bool)
    (says : (n : ℕ) → number_of numbers (get_or xs i 0) ≡ Some n → IsTrue held ↔ (occurrences (get_or xs i 0) (object ∷ []) < n)) where
  last : ℕ
  last = get_or xs i 0

  is_held : IsTrue held ↔ HeldElse store object last
  unfolding last
  is_held = says (holdings_but_entries store last) (are last (in_range xs i low))

  more_taken : take (i + 1) xs ≡ take i xs ++ last ∷ []
  unfolding last
  more_taken = take_more xs i 0 low

  into : (o : ℕ) → HeldAmong store object (take i xs) o → HeldAmong store object (take (i + 1) xs) o
  into o h = (h.0, subst (λ (l : List ℕ). Includes l o) (sym more_taken) (Includes-append_left (take i xs) (last ∷ []) o h.1))

  out : (o : ℕ) → HeldAmong store object (take (i + 1) xs) o → HeldAmong store object (take i xs) o ⊎ (last ≡ o)
  out o h = either (Includes-append_cases (take i xs) (last ∷ []) o (subst (λ (l : List ℕ). Includes l o) more_taken h.1)) (λ k. inl (h.0, k)) (λ k. inr (either k (λ e. e) (λ f. absurd f)))

  pub start_held : (old new : Findings) → IsStart (HeldAmong store object (take i xs)) old → held ≡ true → Finds old (get_or xs i 0 ∷ []) None new
      → IsStart (HeldAmong store object (take (i + 1) xs)) new
  unfolding last
  start_held old new a is_true f =
      start_more (HeldAmong store object (take i xs)) (HeldAmong store object (take (i + 1) xs)) old new (get_or xs i 0) a f
      (is_held.0 is_true, subst (λ (l : List ℕ). Includes l (get_or xs i 0)) (sym more_taken) (Includes-append_right (take i xs) (last ∷ []) (get_or xs i 0) (inl refl))) into out

  pub start_unheld : (old new : Findings) → IsStart (HeldAmong store object (take i xs)) old → held ≡ false → new ≡ old → IsStart (HeldAmong store object (take (i + 1) xs)) new
  unfolding last
  start_unheld old new a is_false same =
      subst (λ (l : Findings). IsStart (HeldAmong store object (take (i + 1) xs)) l) (sym same)
      (start_same (HeldAmong store object (take i xs)) (HeldAmong store object (take (i + 1) xs)) old a into
      (λ o h. either (out o h) (λ k. k) (λ e. let yes : held ≡ true = is_held.1 (subst (HeldElse store object) (sym e) h.0) in absurd (cc))))

pub start_all : (store : Store) (live : (s : ℕ) → 0 < inner store s → IsLive store s) (object : ℕ) (xs : List ℕ) (i : ℕ) (found : Findings) → xs
    ≡ serials (objects_of store) → length xs ≤ i → IsStart (HeldAmong store object (take i xs)) found
    → IsStart (HeldElse store object) found
start_all store live object xs i found all end a =
    start_same (HeldAmong store object (take i xs)) (HeldElse store object) found a (λ o h. h.0)
    (λ o h. (h, subst (λ (l : List ℕ). Includes l o) (sym (take_all i xs end ∙ all)) (live_serial store o (held_lives store live object o h))))

-- The search.
module _ (store : Store) (live : (s : ℕ) → 0 < inner store s → IsLive store s) (object : ℕ) where
  way_lives : (t : List ℕ) (o : ℕ) → IsTrail (HeldElse store object) (arrows_of store) t → IsTrailOf o t → IsLive store o
  way_lives [] o way e = absurd e
  way_lives (p ∷ []) o way e = subst (IsLive store) e (held_lives store live object p way)
  way_lives (p ∷ q ∷ t) o way e = subst (IsLive store) e (referent_lives store live q p (arrows_out store q p way.0))

  module _ (found : Findings) (place : ℕ) (h : HasSpread (HeldElse store object) (arrows_of store) found place) where
    pub found_lives : (o : ℕ) → Includes (objects_in found) o → IsLive store o
    found_lives o m = let r = trail_of found h.trails h.have o m in way_lives r.0 o (h.ways r.0 r.1) r.2

    pub turn_live : (o : ℕ) (holder : Option ℕ) → slice_get found place ≡ Some (o, holder) → IsLive store o
    turn_live o holder at = found_lives o (Includes-map (λ (e : ℕ × Option ℕ). e.0) found (o, holder) (get_in found place (o, holder) at))

    pub turn_within : (xs : List ℕ) (o : ℕ) (holder : Option ℕ) → xs ≡ serials (objects_of store) → slice_get found place ≡ Some (o, holder) → place + 1 ≤ length xs
    turn_within xs o holder all at =
        let low = slice_get_within found place (o, holder) at in
        let few = few_found found xs h.once (λ p m. subst (λ (l : List ℕ). Includes l p) (sym all) (live_serial store p (found_lives p m))) in
        omega (arith, low, few)

    pub turn_spread : (o : ℕ) (holder : Option ℕ) (refs : List ℕ) (new : Findings) → slice_get found place ≡ Some (o, holder) → refs
        ≡ references (entries_of store o) → Finds found refs (Some place) new
        → HasSpread (HeldElse store object) (arrows_of store) new (place + 1)
    turn_spread o holder refs new at is finds =
        spread_more (HeldElse store object) (arrows_of store) found new place o holder refs h at
        (λ r m. arrows_in store live o r (turn_live o holder at) (subst (λ (l : List ℕ). Includes l r) is m))
        (λ r m. subst (λ (l : List ℕ). Includes l r) (sym is) (arrows_out store o r m)) finds

  pub turns_end : (found : Findings) (place : ℕ) → HasSpread (HeldElse store object) (arrows_of store) found place → slice_get found place ≡ None → place ≡ length found
  turns_end found place h none = at_end (cases_lt place (length found))
    where
      at_end : (place < length found) ⊎ (length found ≤ place) → place ≡ length found
      at_end (inl low) = let r = get_below found place low in absurd (let e : Some r.0 ≡ None = sym r.1 ∙ none in cc)
      at_end (inr high) = let w = h.within in omega (arith, high, w)

  pub turns_over : (found : Findings) (place : ℕ) → HasSpread (HeldElse store object) (arrows_of store) found place → slice_get found place ≡ None
      → IsOver (HeldElse store object) (arrows_of store) found
  turns_over found place h none = subst (HasSpread (HeldElse store object) (arrows_of store) found) (turns_end found place h none) h
