-- What the members of the final set still have to do, after one of them goes on or is freed; and what the garbage list
-- names.
use Rattle.std.proofs.Common.{◌≡◌, ◌≢◌, refl, sym, ◌∙◌, ap, subst, ℕ, suc, ◌+◌, ◌-◌, ◌*◌, ◌≤◌, Bool, true, false, cond, inl, inr, List, [], ◌∷◌, ◌++◌, length, length-append, Option, Some, None, arith}
use Rattle.std.specs.Prelude.{◌⊎◌, ◌==◌, sum_by, slice_get, option_map, if◌then◌else◌}
use Rattle.std.specs.FinMap as fin
use Rattle.std.proofs.lemmas.Bool.{cases_eq, eq-eqb, eqb-true, ne_eqb}
use Rattle.std.proofs.lemmas.List.Sums.{sum_by-cons}
use Rattle.cg_value.specs.declared.Val.TheVariants.{Ref}
use Rattle.cg_value.specs.declared.Entry.{Entry}
use Rattle.cg_graph.specs.Member.{Includes}
use Rattle.cg_graph.specs.Value.{references, item, last_entry}
use Rattle.cg_graph.specs.Holdings.{occurrences}
use Rattle.cg_graph.specs.Object.{Object, change, with_entries as object_entries}
use Rattle.cg_graph.specs.Places.{without_serial}
use Rattle.cg_graph.specs.Store.{Store, Node, IsLive, objects_of, entries_of, entries_in, place_of, place_in}
use Rattle.cg_graph.specs.Changes.{held, more, rewritten, with_entries}
use Rattle.cg_graph.proofs.Maps.{get-mapped, get-changed_other}
use Rattle.cg_graph.proofs.Members.{either, cases_of}
use Rattle.cg_graph.proofs.Objects.{objects-changed}
use Rattle.cg_machine.specs.Collect.{saved}
use Rattle.cg_heap.proofs.ReferenceLemmas.{push-item}
use Rattle.cg_trial.proofs.Lists.{none_or_some, occurrences-cons, occurs, occurs_in, sum_by-without}
use Rattle.cg_collect.proofs.PlacesOfObjects.{map_alike, map_itself, entries_there, live_there}

pub sum_alike : (f g : ℕ → ℕ) (xs : List ℕ) → ((q : ℕ) → Includes xs q → f q ≡ g q) → sum_by f xs ≡ sum_by g xs
sum_alike f g [] same = refl
sum_alike f g (x ∷ xs) same = omega (arith, sum_by-cons f x xs, sum_by-cons g x xs, same x (inl refl), sum_alike f g xs (λ q m. same q (inr m)))

-- a member of the list leaves it
pub sum-one_less : (f : ℕ → ℕ) (o : ℕ) (xs : List ℕ) → occurrences o xs ≡ 1 → sum_by f (without_serial o xs) + f o ≡ sum_by f xs
sum-one_less f o xs one =
    let taken : occurrences o xs * f o ≡ 1 * f o = ap (λ n. n * f o) one in
    omega (arith, sum_by-without f o xs, taken)

-- the members of a list without repetition
pub sum-within : (f : ℕ → ℕ) (ys xs : List ℕ) → ((o : ℕ) → occurrences o xs ≤ 1) → ((o : ℕ) → occurrences o ys ≤ occurrences o xs) → sum_by f ys ≤ sum_by f xs
sum-within f [] xs once fewer = omega arith
sum-within f (y ∷ ys) xs once fewer =
    let here : occurrences y (y ∷ ys) ≡ 1 + occurrences y ys = occurrences-cons y y ys ∙ ap (λ b. cond b 1 0 + occurrences y ys) (eq-eqb y y refl) in
    let one : occurrences y xs ≡ 1 = omega (arith, here, fewer y, once y) in
    let left = λ (o : ℕ). sum-one_less (λ x. cond {A = ℕ} (x == o) 1 0) y xs one in
    let rest = sum-within f ys (without_serial y xs) (λ o. omega (arith, left o, once o)) (λ o. omega (arith, left o, fewer o, occurrences-cons o y ys)) in
    omega (arith, rest, sum-one_less f y xs one, sum_by-cons f y ys)

pub sum-inside : (f : ℕ → ℕ) (ys xs : List ℕ) → ((o : ℕ) → occurrences o ys ≤ 1) → ((o : ℕ) → occurrences o xs ≤ 1) → ((o : ℕ) → Includes ys o → Includes xs o) → sum_by f ys ≤ sum_by f xs
sum-inside f ys xs one once inside = sum-within f ys xs once (λ o. fewer o (none_or_some (occurrences o ys)))
  where
    fewer : (o : ℕ) → (occurrences o ys ≡ 0) ⊎ (1 ≤ occurrences o ys) → occurrences o ys ≤ occurrences o xs
    fewer o (inl none) = omega (arith, none)
    fewer o (inr some) = omega (arith, one o, occurs xs o (inside o (occurs_in ys o some)))

-- the last of some entries
pub last_entry-append : (xs : List Entry) (e : Entry) → last_entry (xs ++ e ∷ []) ≡ Some e
last_entry-append [] e = refl
last_entry-append (x ∷ xs) e = ap (slice_get (x ∷ xs ++ e ∷ [])) len ∙ ap (slice_get (xs ++ e ∷ [])) shorter ∙ last_entry-append xs e
  where
    len : length (x ∷ xs ++ e ∷ []) - 1 ≡ suc (length xs)
    len = omega (arith, length-append xs (e ∷ []))

    shorter : length xs ≡ length (xs ++ e ∷ []) - 1
    shorter = omega (arith, length-append xs (e ∷ []))

-- a saved object is named besides the others
pub saved_names : (es : List Entry) (o q : ℕ) → Includes (references (es ++ item (Ref o) ∷ [])) q → Includes (references es) q ⊎ (q ≡ o)
saved_names es o q m = elim (cases_eq o q) [
  | inl same ↦ inr (sym same)
  | inr differs ↦
      let none : occurrences q (o ∷ []) ≡ 0 = occurrences-cons q o [] ∙ ap (λ b. cond {A = ℕ} b 1 0 + 0) (ne_eqb o q differs) in
      inl (occurs_in (references es) q (omega (arith, occurs (references (es ++ item (Ref o) ∷ [])) q m, push-item q es (Ref o), none)))
]

-- new entries of one object leave places and the entries of other objects
pub place-rewritten : (store : Store) (o : ℕ) (es : List Entry) (q : ℕ) → place_of (rewritten o es store) q ≡ place_of store q
place-rewritten store o es q = ap place_in (get-mapped (λ s x. if s == o then with_entries es x else x) store.nodes q) ∙ known (q == o) (fin.get store.nodes q)
  where
    known : (b : Bool) (x : Option Node) → place_in (option_map (λ n. if b then with_entries es n else n) x) ≡ place_in x
    known b None = refl
    known true (Some n) = refl
    known false (Some n) = refl

pub entries-rewritten_other : (store : Store) (o : ℕ) (es : List Entry) (q : ℕ) → q ≢ o → entries_of (rewritten o es store) q ≡ entries_of store q
entries-rewritten_other store o es q differs = ap entries_in (get-changed_other (with_entries es) o store.nodes q differs)

pub place-held : (refs : List ℕ) (store : Store) (q : ℕ) → place_of (held refs store) q ≡ place_of store q
place-held refs store q = ap place_in (get-mapped (λ s n. more (occurrences s refs) n) store.nodes q) ∙ known (fin.get store.nodes q)
  where
    known : (x : Option Node) → place_in (option_map (more (occurrences q refs)) x) ≡ place_in x
    known None = refl
    known (Some n) = refl

-- the garbage list after an object is saved
abbrev pub saved_entries : Store → ℕ → List Entry
saved_entries store o = entries_of store 1 ++ item (Ref o) ∷ []

-- a saved object, in the world and in the heap
pub objects-saved : (store : Store) (o : ℕ) → objects_of (rewritten 1 (entries_of store 1 ++ item (Ref o) ∷ []) store) ≡ saved o (objects_of store)
objects-saved store o =
    objects-changed store 1 (with_entries (saved_entries store o)) (object_entries (saved_entries store o)) (λ s n. refl)
    ∙ map_alike (λ x. if x.serial == 1 then object_entries (saved_entries store o) x else x) (λ x. if x.serial == 1
    then object_entries (x.entries ++ item (Ref o) ∷ []) x else x) (objects_of store) each
  where
    each : (x : Object) → Includes (objects_of store) x → (if x.serial == 1 then object_entries (saved_entries store o) x else x)
        ≡ (if x.serial == 1 then object_entries (x.entries ++ item (Ref o) ∷ []) x else x)
    each x m = either (cases_of (x.serial == 1))
        (λ yes.
        let its : entries_of store 1 ≡ x.entries = sym (entries_there store x m ∙ ap (entries_of store) (eqb-true x.serial 1 yes)) in
        λ i. if x.serial == 1 then object_entries (its i ++ item (Ref o) ∷ []) x else x)
        (λ no. ap (λ b. if b then object_entries (saved_entries store o) x else x) no ∙ sym (ap (λ b. if b then object_entries (x.entries ++ item (Ref o) ∷ []) x else x) no))

-- nothing changes if no object has the serial
pub change-absent : (store : Store) (f : Object → Object) (o : ℕ) → ¬ IsLive store o → change f o (objects_of store) ≡ objects_of store
change-absent store f o absent =
    map_alike (λ x. if x.serial == o then f x else x) (λ x. x) (objects_of store)
    (λ x m. either (cases_of (x.serial == o)) (λ yes. absurd (absent (subst (IsLive store) (eqb-true x.serial o yes) (live_there store x m)))) (λ no. ap (λ b. if b then f x else x) no))
    ∙ map_itself (objects_of store)
