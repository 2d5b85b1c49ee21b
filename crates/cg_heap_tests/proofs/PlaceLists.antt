-- The objects of a place.
use Rattle.std.proofs.Common.{◌≡◌, ℕ, inl, inr, List, [], ◌∷◌, refl, subst}
use Rattle.std.specs.List.{All, AllByRecursion}
use Rattle.std.proofs.lemmas.List.Elements.{All-from_recursion}
use Rattle.cg_value.specs.declared.Place.{Place}
use Rattle.cg_graph.specs.Member.{Includes}
use Rattle.cg_graph.specs.Store.{Store, IsLive, list_at}
use Rattle.cg_heap.specs.Calls.{IsListed}
use Rattle.cg_trial.proofs.PlacesOfObjects.{where_is}

-- all of a list live
pub all_live : (store : Store) (listed : IsListed store) (p : Place) (xs : List ℕ) → xs ≡ list_at store p → All (λ o. IsLive store o) xs
all_live store listed p xs same = All-from_recursion (λ o. IsLive store o) xs (go xs (λ o h. (where_is store listed p o (subst (λ (ys : List ℕ). Includes ys o) same h)).0))
  where
    go : (ys : List ℕ) → ((o : ℕ) → Includes ys o → IsLive store o) → AllByRecursion (λ o. IsLive store o) ys
    go [] h = tt
    go (y ∷ ys) h = (h y (inl refl), go ys (λ o k. h o (inr k)))
