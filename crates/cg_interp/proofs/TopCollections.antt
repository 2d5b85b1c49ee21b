-- The collection on top of the stack, in its seat.
use Rattle.std.proofs.Common.{◌≡◌, refl, sym, ◌∙◌, ap, subst, Bool, true, cond, List, [], ◌∷◌, ◌++◌, ℕ, arith, Option, None, Some, IsSome, map}
use Rattle.std.specs.Prelude.{count_by, reverse}
use Rattle.std.proofs.lemmas.List.Sums.{sum_by-append}
use Rattle.cg_collect.specs.declared.collection.Collection.{Collection}
use Rattle.cg_interp.specs.declared.activity.Activity.{Activity}
use Rattle.cg_interp.specs.declared.activity.Activity.TheVariants as activity
use Rattle.cg_interp.specs.declared.slot.Slot.{Slot}
use Rattle.cg_interp.specs.declared.slot.Slot.TheVariants as slot
use Rattle.cg_interp.specs.Stacks.{asked_in, asked_on, collection_in, collection_on, collecting, collecting_on}
use Rattle.cg_interp.specs.Slots.{filled, takes_seat, IsSeatOf}
use Rattle.cg_interp.proofs.CollectionSeats.{refilled, top_first}

last_slot : (x : Slot) (slots : List Slot) → (below : List Slot) × (top : Slot) × (x ∷ slots ≡ below ++ top ∷ [])
last_slot x [] = ([], x, refl)
last_slot x (y ∷ slots) = let (below, top, is) = last_slot y slots in (x ∷ below, top, ap (λ l. x ∷ l) is)

-- slots are none, or some with one on top
by_last : (P : List Slot → Type 0) → P [] → ((below : List Slot) (top : Slot) → P (below ++ top ∷ [])) → (slots : List Slot) → P slots
by_last P none some [] = none
by_last P none some (x ∷ slots) = let (below, top, is) = last_slot x slots in subst P (sym is) (some below top)

-- the slot of a collection takes the seat, which is taken
takes : (seat : Option Collection) (x : Slot) → IsSome (asked_in (filled seat x)) → takes_seat x ≡ true
takes seat (slot.Collecting asked) collects = refl
takes seat _ collects = absurd (cc)

nowhere : (x : Slot) → IsSome (asked_in (filled None x)) → ⊥
nowhere (slot.Script next) collects = absurd (cc)
nowhere _ collects = absurd (cc)

pub not_empty : (slots : List Slot) → IsSome (asked_on (reverse (map (filled None) slots))) → ⊥
not_empty = by_last (λ l. IsSome (asked_on (reverse (map (filled None) l))) → ⊥) (λ collects. absurd (cc))
    (λ below top collects. nowhere top (subst (λ l. IsSome (asked_on l)) (top_first None below top) collects))

-- it is the seated collection
seated_in : (c : Collection) (x : Slot) → takes_seat x ≡ true → collection_in (filled (Some c) x) ≡ Some c
seated_in c (slot.Collecting asked) is = refl
seated_in c _ is = absurd (cc)

pub seated_there : (c : Collection) (slots : List Slot) → IsSome (asked_on (reverse (map (filled (Some c)) slots))) → collection_on (reverse (map (filled (Some c)) slots)) ≡ Some c
seated_there c = by_last (λ l. IsSome (asked_on (reverse (map (filled (Some c)) l))) → collection_on (reverse (map (filled (Some c)) l)) ≡ Some c) (λ collects. absurd (cc))
    (λ below top collects.
    let first = top_first (Some c) below top in
    ap collection_on first ∙ seated_in c top (takes (Some c) top (subst (λ l. IsSome (asked_on l)) first collects)))

-- with another collection in the seat, that one is on top
replaced_in : (c d : Collection) (x : Slot) → takes_seat x ≡ true → filled (Some d) x ≡ collecting d (filled (Some c) x)
replaced_in c d (slot.Collecting asked) is = refl
replaced_in c d _ is = absurd (cc)

pub collection_replaced : (c d : Collection) (slots : List Slot) → IsSeatOf slots (Some c) → IsSome (asked_on (reverse (map (filled (Some c)) slots)))
    → reverse (map (filled (Some d)) slots) ≡ collecting_on d (reverse (map (filled (Some c)) slots))
collection_replaced c d = by_last (λ l. IsSeatOf l (Some c) → IsSome (asked_on (reverse (map (filled (Some c)) l)))
    → reverse (map (filled (Some d)) l) ≡ collecting_on d (reverse (map (filled (Some c)) l))) (λ seated collects. absurd (cc))
    (λ below top seated collects.
    let first = top_first (Some c) below top in
    let is = takes (Some c) top (subst (λ l. IsSome (asked_on l)) first collects) in
    let one = ap (λ b. cond {A = ℕ} b 1 0) is in
    let none : count_by takes_seat below ≡ 0 = omega (arith, seated, one, sum_by-append (λ s. cond (takes_seat s) 1 0) below (top ∷ [])) in
    top_first (Some d) below top
    ∙ ap (λ l. filled (Some d) top ∷ reverse l) (refilled (Some d) (Some c) below none)
    ∙ ap (λ a. a ∷ reverse (map (filled (Some c)) below)) (replaced_in c d top is)
    ∙ ap (collecting_on d) (sym first))

-- a stack with a collection on top, by its parts
pub collection_split : (activities : List Activity) (asked : Bool) → asked_on activities ≡ Some asked
    → (c : Collection) × (below : List Activity) × (activities ≡ activity.Collecting asked c ∷ below)
collection_split (activity.Collecting was c ∷ below) asked is = let same : was ≡ asked = cc in (c, below, ap (λ b. activity.Collecting b c ∷ below) same)
collection_split _ asked is = absurd (cc)

-- the collection on top is that one
pub same_collection : (activities below : List Activity) (asked : Bool) (c lent : Collection) → activities ≡ activity.Collecting asked c ∷ below → collection_on activities ≡ Some lent → lent ≡ c
same_collection activities below asked c lent top told = let same : Some lent ≡ Some c = sym told ∙ ap collection_on top in cc
