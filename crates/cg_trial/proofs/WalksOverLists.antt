-- A walk along the list of a place, object by object.
use Rattle.std.proofs.Common.{◌≡◌, ℕ, ◌<◌, List, [], ◌∷◌, ◌++◌, length, Option, Some, None, sym, ◌∙◌, ap, subst, append_assoc}
use Rattle.std.specs.Prelude.{slice_get}
use Rattle.cg_value.specs.declared.Place.{Place}
use Rattle.cg_graph.specs.Store.{Store, IsLive, list_at, place_of}
use Rattle.cg_arena.specs.Nodes.{following}
use Rattle.cg_heap.specs.Calls.{IsListed}
use Rattle.cg_trial.proofs.Lists.{IsAt, head_is, ahead}
use Rattle.cg_trial.proofs.PlacesOfObjects.{once_at, where_is, next_is}
use Rattle.cg_trial.proofs.Passes.{stands, turn_shorter, at_end}

-- the objects visited before the next one
abbrev pub Along : Store → Place → Option ℕ → List ℕ → Type 0
Along store p cursor front = (back : List ℕ) × IsAt (list_at store p) cursor front back

pub along_first : (store : Store) (p : Place) (cursor : Option ℕ) (front : List ℕ) → front ≡ [] → cursor ≡ slice_get (list_at store p) 0 → Along store p cursor front
along_first store p cursor front none is = (list_at store p, record { parts = ap (λ (xs : List ℕ). xs ++ list_at store p) (sym none); at = is })

pub along_live : (store : Store) (listed : IsListed store) (p : Place) (cursor : Option ℕ) (front : List ℕ) (o : ℕ) → Along store p cursor front → cursor ≡ Some o → IsLive store o
along_live store listed p cursor front o so is = (where_is store listed p o (stands (list_at store p) o front so.0 (subst (λ (k : Option ℕ). IsAt (list_at store p) k front so.0) is so.1))).0

pub along_more : (store : Store) (listed : IsListed store) (p : Place) (was cursor : Option ℕ) (front more : List ℕ) (o : ℕ) → Along store p was front → was
    ≡ Some o → cursor ≡ following o (list_at store (place_of store o)) → more ≡ front ++ o ∷ []
    → Along store p cursor more × (length (ahead cursor (list_at store p)) < length (ahead was (list_at store p)))
along_more store listed p was cursor front more o so is next items =
    let at : IsAt (list_at store p) (Some o) front so.0 = subst (λ (k : Option ℕ). IsAt (list_at store p) k front so.0) is so.1 in
    let head = head_is so.0 o at.at in
    let here : list_at store p ≡ front ++ o ∷ head.0 = at.parts ∙ ap (λ (b : List ℕ). front ++ b) head.1 in
    let after : IsAt (list_at store p) cursor (front ++ o ∷ []) head.0 = record {
      parts = here ∙ sym (append_assoc front (o ∷ []) head.0);
      at = next_is store listed o cursor next p front head.0 here;
    } in
    let shorter = turn_shorter (list_at store p) o cursor front so.0 head.0 (once_at store listed p) at head.1 after in (
      subst (λ (xs : List ℕ). Along store p cursor xs) (sym items) (head.0, after),
      subst (λ (k : Option ℕ). length (ahead cursor (list_at store p)) < length (ahead k (list_at store p))) (sym is) shorter,
    )

pub along_end : (store : Store) (p : Place) (cursor : Option ℕ) (front : List ℕ) → Along store p cursor front → cursor ≡ None → front ≡ list_at store p
along_end store p cursor front so is = sym (at_end (list_at store p) front so.0 (subst (λ (k : Option ℕ). IsAt (list_at store p) k front so.0) is so.1))
