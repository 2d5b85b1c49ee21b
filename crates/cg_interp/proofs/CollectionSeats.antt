-- The seat of the collection, and the activities that the slots represent with its content.
use Rattle.std.proofs.Common.{◌≡◌, refl, sym, ◌∙◌, ap, ℕ, ◌+◌, Bool, true, false, cond, ◌||◌, List, [], ◌∷◌, ◌++◌, length, Option, None, Some, ◌≤◌, arith}
use Rattle.std.specs.Prelude.{count_by, map, reverse, option_to_list}
use Rattle.std.proofs.lemmas.List.{map-append, reverse-append}
use Rattle.std.proofs.lemmas.List.Folds.{list_any-append}
use Rattle.std.proofs.lemmas.List.Sums.{sum_by-cons, sum_by-append}
use Rattle.cg_collect.specs.declared.collection.Collection.{Collection}
use Rattle.cg_interp.specs.declared.slot.Slot.{Slot}
use Rattle.cg_interp.specs.declared.slot.Slot.TheVariants as slot
use Rattle.cg_interp.specs.Engines.{is_collecting, any_collecting}
use Rattle.cg_interp.specs.Slots.{filled, takes_seat, IsSeatOf, Seats}

none_of : (b : Bool) (n : ℕ) → cond b 1 0 + n ≡ 0 → (b ≡ false) × (n ≡ 0)
none_of true n none = absurd (omega (arith, none))
none_of false n none = (refl, omega (arith, none))

neither : (a b : Bool) → (a || (b || false)) ≡ false → (a ≡ false) × (b ≡ false)
neither false false idle = (refl, refl)
neither false true idle = absurd (cc)
neither true b idle = absurd (cc)

-- a slot other than the collection's is the same activity with any seat
alike : (one other : Option Collection) (top : Slot) → takes_seat top ≡ false → filled one top ≡ filled other top
alike one other (slot.Collecting asked) not = absurd (cc)
alike one other _ not = refl

-- so are several without the collection's slot
pub refilled : (one other : Option Collection) (slots : List Slot) → count_by takes_seat slots ≡ 0 → map (filled one) slots ≡ map (filled other) slots
refilled one other [] none = refl
refilled one other (top ∷ slots) none =
    let both = none_of (takes_seat top) (count_by takes_seat slots) (sym (sum_by-cons (λ s. cond (takes_seat s) 1 0) top slots) ∙ none) in
    ap (λ a. a ∷ map (filled one) slots) (alike one other top both.0) ∙ ap (λ l. filled other top ∷ l) (refilled one other slots both.1)

-- with a seated collection, exactly its slot is a collection
collects : (c : Collection) (top : Slot) → is_collecting (filled (Some c) top) ≡ takes_seat top
collects c (slot.Script next) = refl
collects c _ = refl

-- so if no collection is under way, no slot is the collection's
none_takes : (c : Collection) (slots : List Slot) → any_collecting (reverse (map (filled (Some c)) slots)) ≡ false → count_by takes_seat slots ≡ 0
none_takes c [] idle = refl
none_takes c (top ∷ slots) idle =
    let x = filled (Some c) top in
    let xs = map (filled (Some c)) slots in
    let both = neither (any_collecting (reverse xs)) (is_collecting x) (sym (ap any_collecting (reverse-append (x ∷ []) xs) ∙ list_any-append is_collecting (reverse xs) (x ∷ [])) ∙ idle) in
    let not = ap (λ b. cond {A = ℕ} b 1 0) (sym (collects c top) ∙ both.1) in
    let rest = none_takes c slots both.0 in
    omega (arith, not, rest, sum_by-cons (λ s. cond (takes_seat s) 1 0) top slots)

-- if no collection is under way, the seat is empty
pub vacant : (slots : List Slot) (seat : Option Collection) → IsSeatOf slots seat → any_collecting (reverse (map (filled seat) slots)) ≡ false → seat ≡ None
vacant slots None is idle = refl
vacant slots (Some c) is idle = let none = none_takes c slots idle in absurd (omega (arith, is, none))

at_most_one : (seat : Option Collection) → length (option_to_list seat) ≤ 1
at_most_one None = omega arith
at_most_one (Some c) = omega arith

-- a slot on top comes first
pub top_first : (seat : Option Collection) (slots : List Slot) (top : Slot) → reverse (map (filled seat) (slots ++ top ∷ [])) ≡ filled seat top ∷ reverse (map (filled seat) slots)
top_first seat slots top = ap reverse (map-append (filled seat) slots (top ∷ [])) ∙ reverse-append (map (filled seat) slots) (filled seat top ∷ [])

-- what a slot on top represents, and those below it with the seat without that one
module _ (slots : List Slot) (top : Slot) (without with : Option Collection) (seats : Seats top without with) where
  topmost : (takes_seat top ≡ true → count_by takes_seat slots ≡ 0) → reverse (map (filled with) (slots ++ top ∷ [])) ≡ filled with top ∷ reverse (map (filled without) slots)
  topmost none =
      top_first with slots top
      ∙ ap (λ l. filled with top ∷ reverse l) (same (takes_seat top) refl)
    where
      same : (b : Bool) → takes_seat top ≡ b → map (filled with) slots ≡ map (filled without) slots
      same true is = refilled with without slots (none is)
      same false is = ap (λ seat. map (filled seat) slots) (seats.leaves is)

  pub pushed_on : IsSeatOf slots without → reverse (map (filled with) (slots ++ top ∷ [])) ≡ filled with top ∷ reverse (map (filled without) slots)
  pushed_on is = topmost (λ takes. is ∙ ap (λ (seat : Option Collection). length (option_to_list seat)) (seats.takes takes).0)

  pub popped_off : IsSeatOf (slots ++ top ∷ []) with → reverse (map (filled with) (slots ++ top ∷ [])) ≡ filled with top ∷ reverse (map (filled without) slots)
  popped_off is = topmost (λ takes. let one = ap (λ b. cond {A = ℕ} b 1 0) takes in let most = at_most_one with
      in omega (arith, is, one, most, sum_by-append (λ s. cond (takes_seat s) 1 0) slots (top ∷ [])))
