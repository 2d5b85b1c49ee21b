-- The entries that a turn looks at, and those of the first reachability pass, counted before the merge.
use Rattle.std.proofs.Common.{◌≡◌, refl, ◌∙◌, ap, ℕ, Bool, true, false, cond, List, [], ◌∷◌, ◌++◌, length, map, arith}
use Rattle.std.specs.Prelude.{sum_by}
use Rattle.std.proofs.lemmas.List.Sums.{sum_by-cons}
use Rattle.cg_value.specs.declared.Entry.{Entry}
use Rattle.cg_value.specs.declared.Place.TheVariants.{Gen}
use Rattle.cg_graph.specs.Object.{Object, with_place, is_at, objects_at}
use Rattle.cg_graph.specs.Store.{Store, objects_of, place_of}
use Rattle.cg_machine.specs.Collect.{merged_place}
use Rattle.cg_trial.specs.Split.{entry_number_at}
use Rattle.cg_collect.specs.Starting.{MergesYounger}
use Rattle.cg_collect.specs.Looks.{one_of, collected_from, entry_number_from}
use Rattle.cg_collect.proofs.PlacesOfObjects.{map_alike, objects_on, place_there}

pub one_there : (es front : List Entry) (e : Entry) → es ≡ front ++ e ∷ [] → one_of es ≡ 1
one_there es [] e is = ap one_of is
one_there es (x ∷ front) e is = ap one_of is

abbrev entries_among : List Object → ℕ
entries_among objects = sum_by (λ x. length x.entries) objects

module _ (g : ℕ) where
  abbrev moved_by : Object → Object
  moved_by x = with_place (merged_place g x.place) x

  -- an object has its entries wherever it is
  counted_before : (objects : List Object) → entries_among (objects_at (map moved_by objects) (Gen g)) ≡ entries_among (collected_from g objects)
  counted_before [] = refl
  counted_before (x ∷ objects) = go (is_at (Gen g) (moved_by x)) (counted_before objects)
    where
      go : (b : Bool) → entries_among (objects_at (map moved_by objects) (Gen g)) ≡ entries_among (collected_from g objects)
          → entries_among (cond b (moved_by x ∷ objects_at (map moved_by objects) (Gen g)) (objects_at (map moved_by objects) (Gen g)))
          ≡ entries_among (cond b (x ∷ collected_from g objects) (collected_from g objects))
      go true h = omega (
        arith,
        h,
        sum_by-cons {X = Object} (λ y. length y.entries) (moved_by x) (objects_at (map moved_by objects) (Gen g)),
        sum_by-cons {X = Object} (λ y. length y.entries) x (collected_from g objects),
      )
      go false h = h

pub entries-merged : (g : ℕ) (old new : Store) → MergesYounger g old new → entry_number_at new (Gen g) ≡ entry_number_from old g
entries-merged g old new merges =
    ap (λ (objects : List Object). entries_among (objects_at objects (Gen g)))
    (objects_on old new merges.same
    ∙ map_alike (λ x. with_place (place_of new x.serial) x) (moved_by g) (objects_of old)
    (λ x m. ap (λ p. with_place p x) (merges.places x.serial ∙ ap (merged_place g) (place_there old x m))))
    ∙ counted_before g (objects_of old)
