-- The slot on top of the stack, and a death in it.
use Rattle.std.proofs.Common.{◌≡◌, refl, sym, ◌∙◌, ap, ℕ, ◌+◌, ◌<◌, List, [], ◌∷◌, ◌++◌, length, arith, Option, None, Some, IsSome, map, take}
use Rattle.std.specs.Prelude.{get_or, reverse, set, IfSome, IfNone}
use Rattle.std.proofs.lemmas.List.{map-append, reverse-append, length-set, get_or-set_same, take_all, take_more, take-set}
use Rattle.cg_collect.specs.declared.collection.Collection.{Collection}
use Rattle.cg_death.specs.declared.death.Death.{Death}
use Rattle.cg_interp.specs.declared.activity.Activity.{Activity}
use Rattle.cg_interp.specs.declared.activity.Activity.TheVariants as activity
use Rattle.cg_interp.specs.declared.slot.Slot.{Slot}
use Rattle.cg_interp.specs.declared.slot.Slot.TheVariants as slot
use Rattle.cg_interp.specs.Stacks.{Stacked, death_in, death_on, below_top}
use Rattle.cg_interp.specs.Slots.{filled, death_at}

-- a stack with a death on top is not empty
pub some_slot : (seat : Option Collection) (slots : List Slot) → IsSome (death_on (reverse (map (filled seat) slots))) → 0 < length slots
some_slot seat [] dying = absurd (cc)
some_slot seat (x ∷ slots) dying = omega arith

-- the death in a slot is the death that its activity is
death_filled : (seat : Option Collection) (x : Slot) → death_in (filled seat x) ≡ death_at x
death_filled None (slot.Collecting asked) = refl
death_filled (Some c) (slot.Collecting asked) = refl
death_filled seat _ = refl

-- a stack by its parts
abbrev pub stacked : List Activity → ℕ → Stacked
stacked activities room = record { activities = activities; room = room }

-- the last of some slots
module _ (slots : List Slot) (last : ℕ) (x : Slot) (is : last + 1 ≡ length slots) (read : x ≡ get_or slots last x) where
  at_end : slots ≡ take last slots ++ x ∷ []
  at_end =
      sym (take_all (last + 1) slots (omega (arith, is)))
      ∙ take_more slots last x (omega (arith, is))
      ∙ ap (λ y. take last slots ++ y ∷ []) (sym read)

  on_top : (seat : Option Collection) → reverse (map (filled seat) slots) ≡ filled seat x ∷ reverse (map (filled seat) (take last slots))
  on_top seat =
      ap (λ l. reverse (map (filled seat) l)) at_end
      ∙ ap reverse (map-append (filled seat) (take last slots) (x ∷ []))
      ∙ reverse-append (map (filled seat) (take last slots)) (filled seat x ∷ [])

  -- the death on top is the one in it
  pub death_there : (seat : Option Collection) → death_on (reverse (map (filled seat) slots)) ≡ death_at x
  death_there seat = ap death_on (on_top seat) ∙ death_filled seat x

-- another death in the last slot
module _ (slots : List Slot) (last : ℕ) (x : Slot) (is : last + 1 ≡ length slots) (read : x ≡ get_or slots last x) (death : Death) where
  abbrev changed : List Slot
  changed = set slots last (slot.Dying death)

  same_length : last + 1 ≡ length changed
  same_length = is ∙ sym (length-set slots last (slot.Dying death))

  read_there : slot.Dying death ≡ get_or changed last (slot.Dying death)
  read_there = sym (get_or-set_same slots last (slot.Dying death) (slot.Dying death) (omega (arith, is)))

  pub death_replaced : (seat : Option Collection) → reverse (map (filled seat) changed) ≡ activity.Dying death ∷ below_top (reverse (map (filled seat) slots))
  death_replaced seat =
      on_top changed last (slot.Dying death) same_length read_there seat
      ∙ ap (λ l. activity.Dying death ∷ reverse (map (filled seat) l)) (take-set slots last (slot.Dying death))
      ∙ ap (λ l. activity.Dying death ∷ below_top l) (sym (on_top slots last x is read seat))

-- a stack with a death on top, by its parts
pub death_split : (activities : List Activity) → IsSome (death_on activities) → (death : Death) × (below : List Activity) × (activities ≡ activity.Dying death ∷ below)
death_split (activity.Dying death ∷ below) dying = (death, below, refl)
death_split _ dying = absurd (cc)

-- the death on top is that one
pub same_death : (activities below : List Activity) (death lent : Death) → activities ≡ activity.Dying death ∷ below → death_on activities ≡ Some lent → lent ≡ death
same_death activities below death lent top told = let same : Some lent ≡ Some death = sym told ∙ ap death_on top in cc

-- what is left when the top is taken off
pub popped_below : (popped : Option Activity) (old : List Activity) (top : Activity) (below new : List Activity) → old ≡ top ∷ below → IfSome popped (λ a. old ≡ a ∷ new)
    → IfNone popped (old ≡ []) → new ≡ below
popped_below (Some a) old top below new is some none = let same : top ∷ below ≡ a ∷ new = sym is ∙ some in let rest : below ≡ new = cc in sym rest
popped_below None old top below new is some none = absurd (let clash : top ∷ below ≡ [] = sym is ∙ none in cc)
