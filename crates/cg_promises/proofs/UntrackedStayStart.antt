-- The start of a collection: an object that it untracks refers only to untracked tuples.
use Rattle.std.proofs.Common.{◌≡◌, refl, sym, ◌∙◌, ap, subst, ℕ, Bool, true, false, not, ◌&&◌, inl, inr, ◌⊎◌, List, [], ◌∷◌, map, Some}
use Rattle.std.specs.Prelude.{◌==◌, ◌||◌, nat_le, if◌then◌else◌, option_map, unwrap_or}
use Rattle.std.specs.List.{list_any}
use Rattle.std.proofs.lemmas.Bool.{not-true, not-false}
use Rattle.cg_value.specs.declared.Place.{Place}
use Rattle.cg_value.specs.declared.Place.TheVariants.{Untracked, Gen, Cand, Legacy}
use Rattle.cg_script.specs.declared.Script.{Script}
use Rattle.cg_graph.specs.Member.{Includes}
use Rattle.cg_graph.specs.Value.{references}
use Rattle.cg_graph.specs.Object.{Object, is_at, is_tracked, is_tuple, may_be_tracked, object_at, objects_at, same_place, with_place}
use Rattle.cg_graph.proofs.Members.{either, cases_of, or_left, or_right, true_and, true_or, Includes-filter, Includes-map, Includes-map_cases}
use Rattle.cg_machine.specs.Operands.{is_dict}
use Rattle.cg_machine.specs.World.{World}
use Rattle.cg_machine.specs.Collect.{has_none_tracked, merged_place, older, sorted, survivor_place, untrack, untracked_if, IsGarbage, IsSetAside, Sorts, Survives}
use Rattle.cg_represents.proofs.Serials.{Rises, Rises-map}
use Rattle.cg_laws.proofs.Lookups.{at_member, same_object}
use Rattle.cg_represents.proofs.Places.{place_is}
use Rattle.cg_laws.proofs.SetsApart.{is_tracked_at}
use Rattle.cg_laws.proofs.CollectionStarts.{serial_same}
use Rattle.cg_promises.proofs.UntrackedStay.{IsLoose, IsSlackOne, Still, map_still, test_still}

-- none of a list passes
any_of : (f : ℕ → Bool) (xs : List ℕ) (x : ℕ) → Includes xs x → f x ≡ true → list_any f xs ≡ true
any_of f [] x m t = absurd m
any_of f (y ∷ xs) x (inl e) t = or_left (f y) (list_any f xs) (subst (λ z. f z ≡ true) (sym e) t)
any_of f (y ∷ xs) x (inr m) t = or_right (f y) (list_any f xs) (any_of f xs x m t)

merged_untracked : (g : ℕ) (p : Place) → merged_place g p ≡ Untracked → p ≡ Untracked
merged_untracked g (Gen i) e = go (nat_le i g) e
  where
    go : (b : Bool) → (if b then Gen g else Gen i) ≡ Untracked → Gen i ≡ Untracked
    go true k = absurd (let no : Gen g ≡ Untracked = k in cc)
    go false k = k
merged_untracked g p e = e

pub merge_still : (hard : ℕ → Type 0) (g : ℕ) (objects : List Object) → Still hard objects (map (λ x. with_place (merged_place g x.place) x) objects)
merge_still hard g objects = map_still hard (λ x. with_place (merged_place g x.place) x) objects (λ x m. record {
  stays = record { serial = refl; code = refl; untracked = λ t u. ap (merged_place g) u };
  loses = inr (λ u. (merged_untracked g x.place u, λ o i. i));
})

-- an object that a pass untracks keeps its kind and entries
same_tuple : (b : Bool) (x : Object) → is_tuple (untracked_if b x) ≡ is_tuple x
same_tuple true x = refl
same_tuple false x = refl

same_dict : (b : Bool) (x : Object) → is_dict (untracked_if b x) ≡ is_dict x
same_dict true x = refl
same_dict false x = refl

same_none : (objects : List Object) (b : Bool) (x : Object) → has_none_tracked objects (untracked_if b x) ≡ has_none_tracked objects x
same_none objects true x = refl
same_none objects false x = refl

pub may_not : (a b : Bool) → (if a then b else true) ≡ false → (a ≡ true) × (b ≡ false)
may_not true b e = (refl, e)
may_not false b e = absurd (let no : true ≡ false = e in cc)

-- after the merge
module _ (script : Script) (g : ℕ) (w : World) (chosen : Object → Bool) (places : Object → Place) (next : ℕ) (rises : Rises 1 next w.objects) (sorts : Sorts script g w chosen places) where
  abbrev passed : List Object
  passed = untrack g chosen w.objects

  abbrev after : List Object
  after = sorted g places w.objects

  -- if such an object is untracked, it survives
  not_dead : (x : Object) → Includes (objects_at w.objects (Gen g)) x → places x ≡ Untracked → ¬ (¬ Survives w (Gen g) x.serial)
  not_dead x m u dead = aside (λ s. let no : Legacy ≡ Untracked = sym (sorts.set_aside x m s) ∙ u in cc)
    where
      garbage : IsGarbage w (Gen g) x.serial
      garbage = record { member = Includes-map (λ (z : Object). z.serial) (objects_at w.objects (Gen g)) x m; no_path = dead }

      aside : ¬ (¬ IsSetAside script w (Gen g) x.serial)
      aside n = let no : Cand ≡ Untracked = sym (sorts.condemned x m garbage n) ∙ u in cc

  abbrev test : Object → Bool
  test x = not (is_tracked (untracked_if (chosen x) x)) || (g == 2) && is_dict (untracked_if (chosen x) x) && has_none_tracked passed (untracked_if (chosen x) x)

  passes : (x : Object) → Includes (objects_at w.objects (Gen g)) x → places x ≡ Untracked → test x ≡ true
  passes x m u = either (cases_of (test x)) (λ e. e)
      (λ e. absurd (not_dead x m u (λ s. let placed : Gen (older g) ≡ Untracked = sym (sorts.survivors x m s ∙ ap (λ b. if b then Untracked else Gen (older g))
      e) ∙ u in let no : Gen (older g) ≡ Untracked = placed in cc)))

  -- it is a tuple or a dictionary without tracked objects in it
  abbrev IsBare : Object → Type 0
  IsBare x = ((is_tuple x ≡ true) ⊎ (is_dict x ≡ true)) × (has_none_tracked passed x ≡ true)

  untracked_bare : (c : Bool) (x : Object) → Includes (objects_at w.objects (Gen g)) x → is_at (Gen g) x ≡ true → chosen x ≡ c → not (is_tracked (untracked_if c x)) ≡ true → IsBare x
  untracked_bare true x m t k e = let parts = true_and (is_tuple x) (has_none_tracked passed x) (sorts.tuples.at_most x m k).1 in (inl parts.0, parts.1)
  untracked_bare false x m t k e = absurd (is_tracked_at (Gen g) x refl t (place_is x.place Untracked (not-false (same_place x.place Untracked) (not-true (is_tracked x) e))))

  bare : (x : Object) → Includes (objects_at w.objects (Gen g)) x → is_at (Gen g) x ≡ true → places x ≡ Untracked → IsBare x
  bare x m t u = either (true_or (not (is_tracked (untracked_if (chosen x) x))) ((g == 2) && is_dict (untracked_if (chosen x) x) && has_none_tracked passed (untracked_if (chosen x) x)) (passes x m u))
      (untracked_bare (chosen x) x m t refl)
      (λ e. let parts = true_and ((g == 2) && is_dict (untracked_if (chosen x) x)) (has_none_tracked passed (untracked_if (chosen x) x)) e in
      let dict = (true_and (g == 2) (is_dict (untracked_if (chosen x) x)) parts.0).1 in
      (inr (sym (same_dict (chosen x) x) ∙ dict), sym (same_none passed (chosen x) x) ∙ parts.1))

  -- what it refers to is an untracked tuple afterwards
  placed : (b c : Bool) (x : Object) → Includes w.objects x → is_at (Gen g) x ≡ b → chosen x ≡ c → is_tracked (untracked_if (b && c) x) ≡ false
      → (if b then with_place (places x) x else x).place ≡ Untracked
  placed false c x m t k u = place_is x.place Untracked (not-false (same_place x.place Untracked) u)
  placed true true x m t k u =
      let member = Includes-filter (is_at (Gen g)) w.objects x t m in
      sorts.survivors x member (sorts.tuples.at_most x member k).0 ∙ ap (λ d. survivor_place g passed (untracked_if d x)) k
  placed true false x m t k u = absurd (is_tracked_at (Gen g) x refl t (place_is x.place Untracked (not-false (same_place x.place Untracked) u)))

  sorted_tuple : (b : Bool) (x : Object) → is_tuple (if b then with_place (places x) x else x) ≡ is_tuple x
  sorted_tuple true x = refl
  sorted_tuple false x = refl

  sorted_serial : (b : Bool) (x : Object) → (if b then with_place (places x) x else x).serial ≡ x.serial
  sorted_serial true x = refl
  sorted_serial false x = refl

  loose_at : (o : ℕ) (x : Object) → Includes w.objects x → x.serial ≡ o → unwrap_or (option_map may_be_tracked (object_at passed o)) false ≡ false
      → (is_tuple x ≡ true) × ((if is_at (Gen g) x then with_place (places x) x else x).place ≡ Untracked)
  loose_at o x m s e =
      let b = is_at (Gen g) x && chosen x in
      let z = untracked_if b x in
      let serial : z.serial ≡ o = serial_same b x ∙ s in
      let at : object_at passed o ≡ Some z = subst (λ n. object_at passed n ≡ Some z) serial
      (at_member 1 next passed z (Rises-map (λ y. untracked_if (is_at (Gen g) y && chosen y) y) (λ y. serial_same (is_at (Gen g) y && chosen y) y) 1 next
      w.objects rises) (Includes-map (λ y. untracked_if (is_at (Gen g) y && chosen y) y) w.objects x m)) in
      let kind = may_not (is_tuple z) (is_tracked z) (sym (ap (λ q. unwrap_or (option_map may_be_tracked q) false) at) ∙ e) in
      (sym (same_tuple b x) ∙ kind.0, placed (is_at (Gen g) x) (chosen x) x m refl refl kind.1)

  not_tracked : (x : Object) (o : ℕ) → has_none_tracked passed x ≡ true → Includes (references x.entries) o → unwrap_or (option_map may_be_tracked (object_at passed o)) false ≡ false
  not_tracked x o e m = either (cases_of (unwrap_or (option_map may_be_tracked (object_at passed o)) false))
      (λ t. absurd (let all = any_of (λ n. unwrap_or (option_map may_be_tracked (object_at passed n)) false) (references x.entries) o m t in let no : true
      ≡ false = sym all ∙ not-true (list_any (λ n. unwrap_or (option_map may_be_tracked (object_at passed n)) false) (references x.entries)) e
      in cc)) (λ f. f)

  loose : (x : Object) (o : ℕ) → has_none_tracked passed x ≡ true → Includes (references x.entries) o → IsLoose after o
  loose x o e r y m s =
      let z = Includes-map_cases (λ x. if is_at (Gen g) x then with_place (places x) x else x) w.objects y m in
      let k = loose_at o z.0 z.1 (sym (sorted_serial (is_at (Gen g) z.0) z.0) ∙ ap (λ (q : Object). q.serial) z.2 ∙ s) (not_tracked x o e r) in
      (ap is_tuple (sym z.2) ∙ sorted_tuple (is_at (Gen g) z.0) z.0 ∙ k.0, ap (λ (q : Object). q.place) (sym z.2) ∙ k.1)

  -- those that the pass examines again
  abbrev pub Anew : ℕ → Type 0
  Anew n = (y : Object) → Includes after y → y.serial ≡ n → y.place ≡ Untracked → IsSlackOne after y

  slack_new : (x : Object) → Includes w.objects x → is_at (Gen g) x ≡ true → Anew x.serial
  slack_new x m t y i s u =
      let z = Includes-map_cases (λ x. if is_at (Gen g) x then with_place (places x) x else x) w.objects y i in
      let same : x ≡ z.0 = same_object 1 next w.objects x z.0 rises m z.1 (sym s ∙ ap (λ (q : Object). q.serial) (sym z.2) ∙ sorted_serial (is_at (Gen g) z.0) z.0) in
      let is : with_place (places x) x ≡ y = ap (λ b. if b then with_place (places x) x else x) (sym t) ∙ ap (λ (q : Object). if is_at (Gen g) q then with_place (places q) q else q) same ∙ z.2 in
      let k = bare x (Includes-filter (is_at (Gen g)) w.objects x t m) t (ap (λ (q : Object). q.place) is ∙ u) in
      subst (IsSlackOne after) is (k.0, λ o r. loose x o k.1 r)

  pub sort_still : Still Anew w.objects after
  sort_still = test_still Anew (λ x. with_place (places x) x) (is_at (Gen g)) w.objects (λ x m t. record {
    stays = record { serial = refl; code = refl; untracked = λ a u. absurd (is_tracked_at (Gen g) x refl t u) };
    loses = inl (slack_new x m t);
  })
