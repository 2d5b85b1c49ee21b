-- How many entries are looked at: those of some objects, of all objects, and of those that a search finds.
use Rattle.std.proofs.Common.{◌≡◌, refl, ◌∙◌, ap, ℕ, ◌+◌, ◌<◌, ◌≤◌, inl, inr, List, [], ◌∷◌, length, take, get_or, Option, Some, sum_by, arith}
use Rattle.std.specs.Prelude.{slice_get}
use Rattle.std.proofs.lemmas.List.{take_more, take-append-le, map-append, length-map}
use Rattle.std.proofs.lemmas.List.Sums.{sum_by-cons, sum_by_push, sum_by-take-le}
use Rattle.std.proofs.lemmas.Option.{slice_get-map, slice_get_within, get_or_from_slice_get}
use Rattle.std.specs.Option.{option_map}
use Rattle.cg_graph.specs.Member.{Includes}
use Rattle.cg_graph.specs.Object.{Object, serials}
use Rattle.cg_graph.specs.Store.{Store, objects_of, entries_of, inner, IsLive}
use Rattle.cg_trial.proofs.Lists.{sum_by-some}
use Rattle.cg_inspect.specs.Inspection.{HeldElse, arrows_of, entry_number_in_all}
use Rattle.cg_search.specs.Walks.{Findings, objects_in, Finds, HasSpread}
use Rattle.cg_inspect.proofs.Objects.{entries_are, live_serial}
use Rattle.cg_inspect.proofs.Holdings.{found_lives}

module _ (store : Store) where
  abbrev pub entry_count : ℕ → ℕ
  entry_count s = length (entries_of store s)

  all_entries : sum_by entry_count (serials (objects_of store)) ≡ entry_number_in_all store
  all_entries = go (objects_of store) (λ x m. m)
    where
      go : (xs : List Object) → ((x : Object) → Includes xs x → Includes (objects_of store) x) → sum_by entry_count (serials xs) ≡ sum_by (λ x. length x.entries) xs
      go [] h = refl
      go (x ∷ xs) h =
          omega (
            arith,
            sum_by-cons entry_count x.serial (serials xs),
            sum_by-cons (λ (y : Object). length y.entries) x xs,
            ap length (entries_are store x (h x (inl refl))),
            go xs (λ y m. h y (inr m)),
          )

  pub looked_more : (objects : List ℕ) (i old before now : ℕ) → i < length objects → before ≤ old + sum_by entry_count (take i objects)
      → now ≤ before + length (entries_of store (get_or objects i 0)) → now ≤ old + sum_by entry_count (take (i + 1) objects)
  looked_more objects i old before now low so more =
      let sum = ap (sum_by entry_count) (take_more objects i 0 low) ∙ sum_by_push entry_count (take i objects) (get_or objects i 0) in
      omega (arith, so, more, sum)

  -- some objects have no more entries than all
  pub looked_all : (objects : List ℕ) (i old now : ℕ) → objects ≡ serials (objects_of store) → now ≤ old + sum_by entry_count (take i objects) → now ≤ old + entry_number_in_all store
  looked_all objects i old now all so =
      let sum = ap (sum_by entry_count) all ∙ all_entries in
      omega (arith, so, sum_by-take-le entry_count objects i, sum)

  module _ (live : (s : ℕ) → 0 < inner store s → IsLive store s) (object : ℕ) (found : Findings) (place : ℕ) (h : HasSpread (HeldElse store object) (arrows_of store) found place) where
    -- the objects found are among all objects, each once
    pub searched_all : (i old now : ℕ) → now ≤ old + sum_by entry_count (take i (objects_in found)) → now ≤ old + entry_number_in_all store
    searched_all i old now so =
        let some = sum_by-some entry_count (objects_in found) (serials (objects_of store)) h.once (λ o m. live_serial store o (found_lives store live object found place h o m)) in
        omega (arith, so, some, sum_by-take-le entry_count (objects_in found) i, all_entries)

    -- one more object found, which finds others
    module _ (holder : ℕ) (by : Option ℕ) (at : slice_get found place ≡ Some (holder, by)) (old before now : ℕ) (so : before ≤ old + sum_by entry_count
        (take place (objects_in found))) (more : now ≤ before + length (entries_of store holder)) where
      pub searched_more : now ≤ old + sum_by entry_count (take (place + 1) (objects_in found))
      searched_more =
          let there : get_or (objects_in found) place 0 ≡ holder =
          get_or_from_slice_get (objects_in found) place holder 0 (slice_get-map (λ (e : ℕ × Option ℕ). e.0) found place ∙ ap (option_map (λ (e : ℕ × Option ℕ). e.0)) at) in
          let low = slice_get_within found place (holder, by) at in
          looked_more (objects_in found) place old before now (omega (arith, low, length-map found (λ (e : ℕ × Option ℕ). e.0))) so (omega (arith, more, ap (λ o. length (entries_of store o)) there))

      pub searched_next : (refs : List ℕ) (new : Findings) → Finds found refs (Some place) new → now ≤ old + sum_by entry_count (take (place + 1) (objects_in new))
      searched_next refs new finds =
          let low = slice_get_within found place (holder, by) at in
          let same : take (place + 1) (objects_in new) ≡ take (place + 1) (objects_in found) =
          ap (λ (l : Findings). take (place + 1) (objects_in l)) finds.is
          ∙ ap (take (place + 1)) (map-append (λ (e : ℕ × Option ℕ). e.0) found finds.more)
          ∙ take-append-le (place + 1) (objects_in found) (objects_in finds.more) (omega (arith, low, length-map found (λ (e : ℕ × Option ℕ). e.0))) in
          omega (arith, searched_more, ap (sum_by entry_count) same)
