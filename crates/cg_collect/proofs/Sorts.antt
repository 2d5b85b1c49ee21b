-- After the start, the machine allows the places of the objects: survivors are untracked or move to the older generation,
-- garbage is set aside or condemned.
use Rattle.std.proofs.Common.{◌≡◌, refl, sym, ◌∙◌, ap, subst, ℕ, ◌+◌, inl, inr, Bool, true, false, cond, not, ◌&&◌, ◌||◌, List, [], ◌∷◌, map, length, suc, Option, Some, None}
use Rattle.std.specs.Prelude.{◌==◌, ◌↔◌, if◌then◌else◌, option_map, unwrap_or, flat_map, count_by}
use Rattle.std.specs.List.{list_any}
use Rattle.std.specs.FinMap as fin
use Rattle.std.proofs.lemmas.Bool.{eqb-true, eq-eqb}
use Rattle.std.proofs.lemmas.List.Sums.{length-filter, sum_by-cons}
use Rattle.cg_value.specs.declared.KindCode.{KindCode}
use Rattle.cg_value.specs.declared.KindCode.TheVariants.{List as ListKind, Tuple, Dict, Inst, Func, Weak}
use Rattle.cg_value.specs.declared.Place.{Place}
use Rattle.cg_value.specs.declared.Place.TheVariants.{Untracked, Gen, Cand}
use Rattle.cg_script.specs.declared.Script.{Script}
use Rattle.cg_graph.specs.Member.{Includes}
use Rattle.cg_graph.specs.Value.{references}
use Rattle.cg_graph.specs.Object.{Object, object_at, with_place, same_place, is_at, objects_at, serials, is_tuple, is_tracked, may_be_tracked}
use Rattle.cg_graph.specs.Holdings.{occurrences}
use Rattle.cg_graph.specs.Reach.{first, next}
use Rattle.cg_graph.specs.Reachable.{IsReachable, IsUnreachable, StandsAt}
use Rattle.cg_graph.specs.Store.{Store, Node, objects_of, object_from, list_at, place_of, outside_of, count_of, HasCode}
use Rattle.cg_graph.proofs.Members.{either, true_and, Includes-filter_cases}
use Rattle.cg_graph.proofs.Objects.{object-at}
use Rattle.cg_graph.proofs.Reachable.{reachable_alike, unreachable_alike}
use Rattle.cg_machine.specs.World.{World, with_objects}
use Rattle.cg_machine.specs.Holdings.{holds, holdings}
use Rattle.cg_machine.specs.Operands.{is_dict}
use Rattle.cg_machine.specs.Collect.{older, Survives, IsGarbage, IsSetAside, has_none_tracked, untracked_if, untrack, IsTuplePass, Sorts, survivor_place, sorted, survivor_count}
use Rattle.cg_represents.proofs.Lists.{Reach-inside}
use Rattle.cg_heap.specs.Calls.{IsListed, code_may_be_tracked, node_may_be_tracked}
use Rattle.cg_trial.specs.Split.{IsSameButPlaces}
use Rattle.cg_trial.proofs.Worlds.{counts_alike}
use Rattle.cg_collect.specs.Starting.{IsLedByLegacy, has_tracked}
use Rattle.cg_represents.proofs.Places.{place_at_is, place_differs, place_is}
use Rattle.cg_collect.proofs.PlacesOfObjects.{map_alike, place_there, entries_there, code_there, lives_at, stands_at, stood_at, edge_at, edge_back, entries_on, code_on, objects_on, list_length}
use Rattle.cg_collect.proofs.Uncollectable.{legacy_alike}
use Rattle.cg_collect.proofs.Untracked.{trackable, any_alike, has_tracked_alike}
use Rattle.cg_collect.proofs.PlacesInStart.{Trace, at_or_not, s3, same13, same14, same15, same16, candidate_on, candidate_back, unmoved, unmoved3, unmoved4, survivor_test, dict_untracked, dict_stays, tuple_untracked, split_alike, tuple_or}

-- one of some objects may be tracked
abbrev may : List Object → ℕ → Bool
may objects o = unwrap_or (option_map may_be_tracked (object_at objects o)) false

-- as the nodes have it
may-node : (code : KindCode) (place : Place) (x : Object) → x.code ≡ code → x.place ≡ place → may_be_tracked x ≡ code_may_be_tracked code place
may-node Tuple place x e f = ap (λ c. if elim c [ ListKind ↦ false | Tuple ↦ true | Dict ↦ false | Inst ↦ false | Func ↦ false | Weak ↦ false ]
    then is_tracked x else true) e ∙ ap (λ p. not (same_place p Untracked)) f
may-node code place x e f = ap (λ c. if elim c [ ListKind ↦ false | Tuple ↦ true | Dict ↦ false | Inst ↦ false | Func ↦ false | Weak ↦ false ] then is_tracked x else true) e

may-store : (store : Store) (p : ℕ) → may (objects_of store) p ≡ trackable store p
may-store store p = ap (λ x. unwrap_or (option_map may_be_tracked x) false) (object-at store p) ∙ known (fin.get store.nodes p)
  where
    known : (x : Option Node) → unwrap_or (option_map may_be_tracked (option_map (object_from store.rows p) x)) false ≡ node_may_be_tracked x
    known None = refl
    known (Some n) = may-node n.code n.place (object_from store.rows p n) refl refl

-- maps that leave the same tracked
may-map : (f h : Object → Object) (xs : List Object) → ((x : Object) → Includes xs x → ((f x).serial ≡ x.serial) × ((h x).serial ≡ x.serial)
    × (may_be_tracked (f x) ≡ may_be_tracked (h x))) → (p : ℕ) → may (map f xs) p ≡ may (map h xs) p
may-map f h [] same p = refl
may-map f h (x ∷ xs) same p =
    let here = same x (inl refl) in
    ap (λ s. unwrap_or (option_map may_be_tracked (cond (s == p) (Some (f x)) (object_at (map f xs) p))) false) here.0
    ∙ go (x.serial == p) here.2 (may-map f h xs (λ y m. same y (inr m)) p)
    ∙ sym (ap (λ s. unwrap_or (option_map may_be_tracked (cond (s == p) (Some (h x)) (object_at (map h xs) p))) false) here.1)
  where
    go : (b : Bool) → may_be_tracked (f x) ≡ may_be_tracked (h x) → may (map f xs) p ≡ may (map h xs) p
        → unwrap_or (option_map may_be_tracked (cond b (Some (f x)) (object_at (map f xs) p))) false ≡ unwrap_or (option_map may_be_tracked (cond b (Some (h x)) (object_at (map h xs) p))) false
    go true e rec = e
    go false e rec = rec

may-placed : (b : Bool) (q : Place) (x : Object) → same_place (untracked_if b x).place Untracked ≡ same_place q Untracked → may_be_tracked (untracked_if b x) ≡ may_be_tracked (with_place q x)
may-placed true q x e = ap (λ c. if is_tuple x then not c else true) e
may-placed false q x e = ap (λ c. if is_tuple x then not c else true) e

serial-untracked : (b : Bool) (x : Object) → (untracked_if b x).serial ≡ x.serial
serial-untracked true x = refl
serial-untracked false x = refl

none_from : (b : Bool) → not b ≡ true → b ≡ false
none_from true h = absurd (cc)
none_from false h = refl

tuple_code : (x : Object) → is_tuple x ≡ true → x.code ≡ Tuple
tuple_code x h = known x.code h
  where
    known : (c : KindCode) → elim c [ ListKind ↦ false | Tuple ↦ true | Dict ↦ false | Inst ↦ false | Func ↦ false | Weak ↦ false ] ≡ true → c ≡ Tuple
    known Tuple e = refl
    known c e = absurd (cc)

is_tuple-of : (x : Object) → x.code ≡ Tuple → is_tuple x ≡ true
is_tuple-of x e = ap (λ c. elim c [ ListKind ↦ false | Tuple ↦ true | Dict ↦ false | Inst ↦ false | Func ↦ false | Weak ↦ false ]) e

dict_code : (x : Object) → is_dict x ≡ true → x.code ≡ Dict
dict_code x h = known x.code h
  where
    known : (c : KindCode) → elim c [ Dict ↦ true | _ ↦ false ] ≡ true → c ≡ Dict
    known Dict e = refl
    known c e = absurd (cc)

is_dict-of : (x : Object) → x.code ≡ Dict → is_dict x ≡ true
is_dict-of x e = ap (λ c. elim c [ Dict ↦ true | _ ↦ false ]) e

-- a node that has a kind has no other
one_code : (store : Store) (o : ℕ) (c d : KindCode) → HasCode store o c → HasCode store o d → c ≡ d
one_code store o c d (n, at, is) (m, there, kind) = let same : Some n ≡ Some m = sym at ∙ there in let node : n ≡ m = cc in sym is ∙ ap (λ (x : Node). x.code) node ∙ kind

module _ (script : Script) (g : ℕ) (s0 s1 s2 s4 s5 s6 : Store) (t : Trace script g s0 s1 s2 s4 s5 s6) where
  abbrev middle : Store
  middle = s3 script g s0 s1 s2 s4 s5 s6 t

  abbrev objects : List Object
  objects = objects_of s1

  -- the tuples that the pass untracked, and the places at the end
  abbrev pub chosen : Object → Bool
  chosen x = same_place (place_of middle x.serial) Untracked

  abbrev pub places : Object → Place
  places x = place_of s6 x.serial

  -- what may be tracked after the pass
  untracked_place : (x : Object) → Includes objects x → same_place (untracked_if (is_at (Gen g) x && chosen x) x).place Untracked ≡ same_place (place_of middle x.serial) Untracked
  untracked_place x m = either (at_or_not x.place (Gen g))
      (λ e. ap (λ b. same_place (untracked_if (b && chosen x) x).place Untracked) (place_at_is x.place (Gen g) e) ∙ picked (chosen x) refl e)
      (λ differ.
      ap (λ b. same_place (untracked_if (b && chosen x) x).place Untracked) (place_differs x.place (Gen g) differ)
      ∙ ap (λ p. same_place p Untracked) (sym (unmoved3 script g s0 s1 s2 s4 s5 s6 t x.serial (λ e. differ (sym (place_there s1 x m) ∙ e)) ∙ place_there s1 x m)))
    where
      picked : (b : Bool) → chosen x ≡ b → x.place ≡ Gen g → same_place (untracked_if b x).place Untracked ≡ chosen x
      picked true e at = sym e
      picked false e at = ap (λ p. same_place p Untracked) at ∙ sym e

  may-untrack : (p : ℕ) → may (untrack g chosen objects) p ≡ trackable middle p
  may-untrack p =
      may-map (λ x. untracked_if (is_at (Gen g) x && chosen x) x) (λ x. with_place (place_of middle x.serial) x) objects
      (λ x m. (serial-untracked (is_at (Gen g) x && chosen x) x, refl, may-placed (is_at (Gen g) x && chosen x) (place_of middle x.serial) x (untracked_place x m))) p
      ∙ ap (λ (os : List Object). may os p) (sym (objects_on s1 middle (same13 script g s0 s1 s2 s4 s5 s6 t)))
      ∙ may-store middle p

  none_untrack : (x : Object) → Includes objects x → has_none_tracked (untrack g chosen objects) x ≡ not (has_tracked middle x.serial)
  none_untrack x m =
      ap not
      (any_alike (may (untrack g chosen objects)) (trackable middle) may-untrack (references x.entries)
      ∙ ap (λ es. list_any (trackable middle) (references es)) (entries_there s1 x m ∙ sym (entries_on s1 middle (same13 script g s0 s1 s2 s4 s5 s6 t) x.serial)))

  none_before : (x : Object) → Includes objects x → has_none_tracked objects x ≡ not (has_tracked s1 x.serial)
  none_before x m = ap not (any_alike (may objects) (trackable s1) (may-store s1) (references x.entries) ∙ ap (λ es. list_any (trackable s1) (references es)) (entries_there s1 x m))

  here_at : (x : Object) → Includes (objects_at objects (Gen g)) x → Includes objects x × (place_of s1 x.serial ≡ Gen g)
  here_at x m = let (there, at) = Includes-filter_cases (is_at (Gen g)) objects x m in (there, place_there s1 x there ∙ place_is x.place (Gen g) at)

  -- a survivor that stayed tracked is a dictionary to be untracked
  abbrev goes_untracked : Object → Bool
  goes_untracked x = (g == 2) && is_dict x && has_none_tracked (untrack g chosen objects) x

  -- where a survivor goes
  survivor_is : (x : Object) → Includes objects x → place_of s1 x.serial ≡ Gen g → place_of s2 x.serial ≡ Gen g → places x ≡ survivor_place g (untrack g chosen objects) (untracked_if (chosen x) x)
  survivor_is x m at second = either (tuple_or script g s0 s1 s2 s4 s5 s6 t x.serial) (λ s. stayed (s ∙ second)) (λ went. tuple went.1)
    where
      tuple : place_of middle x.serial ≡ Untracked → places x ≡ survivor_place g (untrack g chosen objects) (untracked_if (chosen x) x)
      tuple third =
          tuple_untracked script g s0 s1 s2 s4 s5 s6 t x.serial third
          ∙ sym (ap (λ b. survivor_place g (untrack g chosen objects) (untracked_if b x)) (place_at_is (place_of middle x.serial) Untracked third))

      of_test : (b : Bool) → (goes_untracked x) ≡ b → place_of middle x.serial ≡ Gen g → places x ≡ (if b then Untracked else Gen (older g))
      of_test true e third =
          let parts = true_and ((g == 2) && is_dict x) (has_none_tracked (untrack g chosen objects) x) e in
          let tests = true_and (g == 2) (is_dict x) parts.0 in
          dict_untracked script g s0 s1 s2 s4 s5 s6 t x.serial (eqb-true g 2 tests.0) third
          (subst (HasCode middle x.serial) (dict_code x tests.1) (code_on s1 middle (same13 script g s0 s1 s2 s4 s5 s6 t) x.serial x.code (code_there s1 x m)))
          (none_from (has_tracked middle x.serial) (sym (none_untrack x m) ∙ parts.1))
      of_test false e third = dict_stays script g s0 s1 s2 s4 s5 s6 t x.serial third (λ h.
          let code : x.code ≡ Dict = one_code middle x.serial x.code Dict (code_on s1 middle (same13 script g s0 s1 s2 s4 s5 s6 t) x.serial x.code (code_there s1 x m)) h.1 in
          let all : (goes_untracked x) ≡ true = λ i. (eq-eqb g 2 h.0 i && is_dict-of x code i) && (none_untrack x m ∙ ap not h.2) i in
          let no : true ≡ false = sym all ∙ e in cc)

      tracked : x.place ≡ Gen g → (b : Bool) → (goes_untracked x) ≡ b → survivor_place g (untrack g chosen objects) x ≡ (if b then Untracked else Gen (older g))
      tracked place b e = ap (λ p. if not (not (same_place p Untracked)) || (goes_untracked x) then Untracked else Gen (older g)) place ∙ ap (λ c. if c then Untracked else Gen (older g)) e

      stayed : place_of middle x.serial ≡ Gen g → places x ≡ survivor_place g (untrack g chosen objects) (untracked_if (chosen x) x)
      stayed third =
          of_test (goes_untracked x) refl third
          ∙ sym (tracked (sym (place_there s1 x m) ∙ at) (goes_untracked x) refl)
          ∙ sym (ap (λ b. survivor_place g (untrack g chosen objects) (untracked_if b x)) (place_differs (place_of middle x.serial) Untracked (λ e. let k : Gen g ≡ Untracked = sym third ∙ e in cc)))

  module _ (v : World) (names : s1.names ≡ v.names) (outside : (o : ℕ) → outside_of s1 o ≡ occurrences o (flat_map holds v.stack)) where
    abbrev pub merged_world : World
    merged_world = with_objects objects v

    counts : (o : ℕ) → count_of s1 o ≡ occurrences o (holdings merged_world)
    counts o = counts_alike s1 objects v.names (flat_map holds v.stack) (record { same_objects = refl; same_names = names; outside = outside }) o

    survives : (o : ℕ) → IsReachable s1 (Gen g) o ↔ Survives merged_world (Gen g) o
    survives o = reachable_alike s1 (holdings merged_world) (Gen g) counts objects refl o

    garbage : (o : ℕ) → IsUnreachable s1 (Gen g) o ↔ IsGarbage merged_world (Gen g) o
    garbage o = unreachable_alike s1 (holdings merged_world) (Gen g) counts objects refl o

    -- what is uncollectable
    candidate : (o : ℕ) → IsGarbage merged_world (Gen g) o → place_of s5 o ≡ Cand
    candidate o k = candidate_on script g s0 s1 s2 s4 s5 s6 t o (t.splits.off o ((garbage o).1 k))

    garbage_at : (o : ℕ) → place_of s5 o ≡ Cand → IsGarbage merged_world (Gen g) o
    garbage_at o at =
        let second = candidate_back script g s0 s1 s2 s4 s5 s6 t o at in
        either (at_or_not (place_of s1 o) (Gen g))
        (λ e. either (t.splits.either_way o e) (λ kept. absurd (let k : Gen g ≡ Cand = sym kept.0 ∙ second in cc)) (λ off. (garbage o).0 off.1))
        (λ differ. absurd (t.splits.none o (sym (t.splits.others o differ) ∙ second)))

    stands : (o : ℕ) → IsGarbage merged_world (Gen g) o → StandsAt s5 Cand o
    stands o k = let at = candidate o k in stands_at s5 Cand o (lives_at s5 o Cand at (λ e. cc)) at

    abbrev same5 : IsSameButPlaces s1 s5
    same5 = same15 script g s0 s1 s2 s4 s5 s6 t

    aside_led : (o : ℕ) → IsSetAside script merged_world (Gen g) o → IsLedByLegacy script s5 o
    aside_led o (first held inside) = first (legacy_alike script s1 s5 same5 o ∙ held) (stands o inside)
    aside_led o (next {o = q} path edge inside) =
        let at = candidate q (Reach-inside path) in
        next (aside_led q path) (edge_at s5 Cand q o (lives_at s5 q Cand at (λ e. cc)) at (subst (λ es. Includes (references es) o)
        (sym (entries_on s1 s5 same5 q)) (edge_back s1 (Gen g) q o edge))) (stands o inside)

    led_aside : (o : ℕ) → IsLedByLegacy script s5 o → IsSetAside script merged_world (Gen g) o
    led_aside o (first held inside) = first (sym (legacy_alike script s1 s5 same5 o) ∙ held) (garbage_at o (stood_at s5 Cand o inside).1)
    led_aside o (next {o = q} path edge inside) =
        let k = garbage_at q (stood_at s5 Cand q (Reach-inside path)).1 in
        let was = stood_at s1 (Gen g) q ((garbage q).1 k).member in
        next (led_aside q path) (edge_at s1 (Gen g) q o was.0 was.1 (subst (λ es. Includes (references es) o) (entries_on s1 s5 same5 q)
        (edge_back s5 Cand q o edge))) (garbage_at o (stood_at s5 Cand o inside).1)

    tuple_pass : IsTuplePass merged_world g chosen
    tuple_pass = record {
      at_least = λ x m s e.
          let (there, at) = here_at x m in
          let tests = true_and (is_tuple x) (has_none_tracked objects x) e in
          let second = t.splits.kept x.serial ((survives x.serial).1 s) in
          let none : has_tracked s2 x.serial ≡ false = has_tracked_alike s1 s2 t.splits.same (split_alike script g s0 s1 s2 s4 s5 s6 t) x.serial
          ∙ none_from (has_tracked s1 x.serial) (sym (none_before x there) ∙ tests.1) in
          place_at_is (place_of middle x.serial) Untracked
          (t.untracks.tuples.at_least x.serial second (subst (HasCode s2 x.serial) (tuple_code x tests.0) (code_on s1 s2 t.splits.same x.serial x.code (code_there s1 x there))) none);
      at_most = λ x m e.
          let (there, at) = here_at x m in
          let third : place_of middle x.serial ≡ Untracked = place_is (place_of middle x.serial) Untracked e in
          either (t.untracks.tuples.at_most x.serial)
          (λ s. absurd (either (t.splits.either_way x.serial at)
          (λ kept. let k : Gen g ≡ Untracked = sym kept.0 ∙ sym s ∙ third in cc)
          (λ off. let k : Cand ≡ Untracked = sym off.0 ∙ sym s ∙ third in cc)))
          (λ went. (
            either (t.splits.either_way x.serial at) (λ kept. (survives x.serial).0 kept.1) (λ off. absurd (let k : Cand ≡ Gen g = sym off.0 ∙ went.stood in cc)),
            (λ i. is_tuple-of x (one_code s2 x.serial x.code Tuple (code_on s1 s2 t.splits.same x.serial x.code (code_there s1 x there)) went.of_kind) i
                && (none_untrack x there ∙ ap not went.none_tracked) i),
          ));
    }

    pub sorts : Sorts script g merged_world chosen places
    sorts = record {
      tuples = tuple_pass;
      survivors = λ x m s. let (there, at) = here_at x m in survivor_is x there at (t.splits.kept x.serial ((survives x.serial).1 s));
      set_aside = λ x m s. t.sets_aside.aside x.serial (aside_led x.serial s);
      condemned = λ x m k not_aside. either (t.sets_aside.others x.serial) (λ s. s ∙ candidate x.serial k) (λ led. absurd (not_aside (led_aside x.serial led)));
    }

  -- the objects after it
  place_after : (x : Object) → Includes objects x → with_place (places x) x ≡ (if is_at (Gen g) x then with_place (places x) x else x)
  place_after x m = either (at_or_not x.place (Gen g))
      (λ e. sym (ap (λ b. if b then with_place (places x) x else x) (place_at_is x.place (Gen g) e)))
      (λ differ.
      ap (λ p. with_place p x) (unmoved script g s0 s1 s2 s4 s5 s6 t x.serial (λ e. differ (sym (place_there s1 x m) ∙ e)) ∙ place_there s1 x m)
      ∙ sym (ap (λ b. if b then with_place (places x) x else x) (place_differs x.place (Gen g) differ)))

  pub objects_sorted : objects_of s6 ≡ sorted g places objects
  objects_sorted = objects_on s1 s6 (same16 script g s0 s1 s2 s4 s5 s6 t) ∙ map_alike (λ x. with_place (places x) x) (λ x. if is_at (Gen g) x then with_place (places x) x else x) objects place_after

  -- how many moved to the older generation
  count_alike : (p q : Object → Bool) (xs : List Object) → ((x : Object) → Includes xs x → p x ≡ q x) → count_by p xs ≡ count_by q xs
  count_alike p q [] same = refl
  count_alike p q (x ∷ xs) same =
      sum_by-cons (λ y. cond (p y) 1 0) x xs
      ∙ (λ i. cond {A = ℕ} (same x (inl refl) i) 1 0 + count_alike p q xs (λ y m. same y (inr m)) i)
      ∙ sym (sum_by-cons (λ y. cond (q y) 1 0) x xs)

  count_map : (p : Object → Bool) (f : Object → Object) (xs : List Object) → count_by p (map f xs) ≡ count_by (λ x. p (f x)) xs
  count_map p f [] = refl
  count_map p f (x ∷ xs) =
      sum_by-cons (λ y. cond (p y) 1 0) (f x) (map f xs)
      ∙ ap (λ n. cond {A = ℕ} (p (f x)) 1 0 + n) (count_map p f xs)
      ∙ sym (sum_by-cons (λ y. cond (p (f y)) 1 0) x xs)

  serials_length : (xs : List Object) → length (serials xs) ≡ length xs
  serials_length [] = refl
  serials_length (x ∷ xs) = ap (λ n. suc n) (serials_length xs)

  test_alike : (x : Object) → Includes objects x → is_at (Gen g) (with_place (place_of s4 x.serial) x) ≡ (is_at (Gen g) x && same_place (places x) (Gen (older g)))
  test_alike x m = either (at_or_not x.place (Gen g))
      (λ e.
      survivor_test script g s0 s1 s2 s4 s5 s6 t x.serial (place_there s1 x m ∙ e)
      ∙ sym (ap (λ b. b && same_place (places x) (Gen (older g))) (place_at_is x.place (Gen g) e)))
      (λ differ.
      ap (λ p. same_place p (Gen g)) (unmoved4 script g s0 s1 s2 s4 s5 s6 t x.serial (λ e. differ (sym (place_there s1 x m) ∙ e)) ∙ place_there s1 x m)
      ∙ place_differs x.place (Gen g) differ
      ∙ sym (ap (λ b. b && same_place (places x) (Gen (older g))) (place_differs x.place (Gen g) differ)))

  pub survivors_counted : IsListed s4 → length (list_at s4 (Gen g)) ≡ survivor_count g places objects
  survivors_counted listed =
      list_length s4 listed (Gen g)
      ∙ serials_length (objects_at (objects_of s4) (Gen g))
      ∙ length-filter (is_at (Gen g)) (objects_of s4)
      ∙ ap (count_by (is_at (Gen g))) (objects_on s1 s4 (same14 script g s0 s1 s2 s4 s5 s6 t))
      ∙ count_map (is_at (Gen g)) (λ x. with_place (place_of s4 x.serial) x) objects
      ∙ count_alike (λ x. is_at (Gen g) (with_place (place_of s4 x.serial) x)) (λ x. is_at (Gen g) x && same_place (places x) (Gen (older g))) objects test_alike
