-- What a write to one slot keeps in each slot.
use Rattle.std.proofs.Common.{◌≡◌, ◌≢◌, ℕ, zero, suc, ◌+◌, ◌-◌, ◌<◌, ◌≤◌, [], ◌∷◌, length, get_or, Option, Some, None, refl, sym, ap, ◌∙◌, inl, inr, arith}
use Rattle.std.specs.Prelude.{option_map, option_and_then, slice_set}
use Rattle.std.proofs.lemmas.Bool.{cases_eq, cases_lt}
use Rattle.std.proofs.lemmas.List.{get_or-set_same, get_or-set_other, set-get_or, get_or_past, set_past}
use Rattle.slab.specs.Slab.{Slab, get, with_value}
use Rattle.cg_value.specs.declared.Place.{Place}
use Rattle.cg_arena.specs.declared.slot.Slot.{Slot}
use Rattle.cg_arena.specs.Slots.{after_in, with_place}
use Rattle.cg_arena.specs.Links.{rewritten, place_set, all_placed, chain_from}

pub rewritten-occupied : (f : Slot → Slot) (k : ℕ) (s : Slab Slot) (x y : Slot) → y ≡ f x → Some x ≡ get s k → with_value s k y ≡ rewritten f k s
unfolding rewritten
rewritten-occupied f k s x y is found =
    ap (λ z. with_value s k z) is
    ∙ ap (λ o. record s { slots = slice_set s.slots k (option_map f o) }) found

pub rewritten-vacant : (f : Slot → Slot) (k : ℕ) (s : Slab Slot) → None ≡ get s k → s ≡ rewritten f k s
unfolding rewritten
rewritten-vacant f k s vacant =
    ap (λ xs. record s { slots = xs }) (sym (set-get_or s.slots k None))
    ∙ ap (λ o. record s { slots = slice_set s.slots k o }) (sym vacant)
    ∙ ap (λ o. record s { slots = slice_set s.slots k (option_map f o) }) vacant

module _ (f : Slot → Slot) (k : ℕ) (s : Slab Slot) where
  pub get-rewritten_same : get (rewritten f k s) k ≡ option_map f (get s k)
  unfolding rewritten
  get-rewritten_same = elim (cases_lt k (length s.slots)) [
    | inl within ↦ get_or-set_same s.slots k (option_map f (get s k)) None within
    | inr past ↦
        ap (λ xs. get_or xs k None) (set_past s.slots k (option_map f (get s k)) past)
        ∙ get_or_past s.slots k None past
        ∙ ap (option_map f) (sym (get_or_past s.slots k None past))
  ]

  pub get-rewritten_other : (j : ℕ) → j ≢ k → get (rewritten f k s) j ≡ get s j
  unfolding rewritten
  get-rewritten_other j differs = get_or-set_other s.slots k j (option_map f (get s k)) None differs

-- a part of each slot that the write keeps
module _ {X : Type 0} (part : Option Slot → X) (f : Slot → Slot) (keeps : (x : Slot) → part (Some (f x)) ≡ part (Some x)) (k : ℕ) (s : Slab Slot) where
  part-mapped : (o : Option Slot) → part (option_map f o) ≡ part o
  part-mapped None = refl
  part-mapped (Some x) = keeps x

  pub part-rewritten : (j : ℕ) → part (get (rewritten f k s) j) ≡ part (get s j)
  part-rewritten j = elim (cases_eq j k) [
    | inl same ↦
        ap (λ i. part (get (rewritten f k s) i)) same
        ∙ ap part (get-rewritten_same f k s)
        ∙ part-mapped (get s k)
        ∙ ap (λ i. part (get s i)) (sym same)
    | inr differs ↦ ap part (get-rewritten_other f k s j differs)
  ]

-- placing nodes keeps the links
chain-placed : (place : Place) (k : ℕ) (s : Slab Slot) (n : ℕ) (at : Option ℕ) → chain_from (rewritten (with_place place) k s) n at ≡ chain_from s n at
chain-placed place k s zero at = refl
chain-placed place k s (suc n) None = refl
chain-placed place k s (suc n) (Some j) =
    ap (λ o. j ∷ chain_from (rewritten (with_place place) k s) n o) (part-rewritten after_in (with_place place) (λ x. refl) k s j)
    ∙ ap (λ xs. j ∷ xs) (chain-placed place k s n (after_in (get s j)))

nowhere : (s : Slab Slot) (n : ℕ) → chain_from s n None ≡ []
nowhere s zero = refl
nowhere s (suc n) = refl

-- placing one node, then those after it
placed_more : (place : Place) (s : Slab Slot) (n : ℕ) (at : Option ℕ)
    → all_placed (chain_from (place_set at place s) n (option_and_then (λ k. after_in (get s k)) at)) place (place_set at place s)
    ≡ all_placed (chain_from s (suc n) at) place s
placed_more place s n None = ap (λ xs. all_placed xs place s) (nowhere s n)
placed_more place s n (Some k) = ap (λ xs. all_placed xs place (rewritten (with_place place) k s)) (chain-placed place k s n (after_in (get s k)))

-- one iteration of the loop over a list
pub placed_turn : (place : Place) (s new : Slab Slot) (n done : ℕ) (at next : Option ℕ) → done < n → new ≡ place_set at place s → next ≡ option_and_then (λ k. after_in (get s k)) at
    → all_placed (chain_from new (n - (done + 1)) next) place new ≡ all_placed (chain_from s (n - done) at) place s
placed_turn place s new n done at next below is goes =
    let left : n - done ≡ suc (n - (done + 1)) = omega arith in
    (λ i. all_placed (chain_from (is i) (n - (done + 1)) (goes i)) place (is i))
    ∙ placed_more place s (n - (done + 1)) at
    ∙ ap (λ m. all_placed (chain_from s m at) place s) (sym left)

pub placed_none : (place : Place) (s : Slab Slot) (n done : ℕ) (at : Option ℕ) → n ≤ done → all_placed (chain_from s (n - done) at) place s ≡ s
placed_none place s n done at past =
    let left : n - done ≡ 0 = omega arith in
    ap (λ m. all_placed (chain_from s m at) place s) left
