-- What follows from the shape of an effect, for all commands at once: a clause for each form.
use Rattle.std.proofs.Common.{refl, ap, subst, ℕ, ◌≤◌, Bool, true, false, not, ◌&&◌, inl, inr, ◌⊎◌, List, [], ◌∷◌, length, Option, arith}
use Rattle.std.specs.Prelude.{if◌then◌else◌, ◌||◌, option_and_then, slice_get}
use Rattle.cg_value.specs.declared.Val.{Val}
use Rattle.cg_value.specs.declared.Place.TheVariants.{Gen}
use Rattle.cg_script.specs.declared.Command.{Command}
use Rattle.cg_graph.specs.Member.{Includes}
use Rattle.cg_graph.specs.Object.{Object, is_tracked, with_entries, with_place}
use Rattle.cg_graph.specs.Value.{reference_in, references_of_value, value_at, put}
use Rattle.cg_graph.proofs.Members.{either, Includes-append_cases}
use Rattle.cg_machine.specs.declared.event.Event.{Event}
use Rattle.cg_machine.specs.World.{World}
use Rattle.cg_machine.specs.Effects.{Effect, Changes, frozen, unfrozen, tracked_by, may_track}
use Rattle.cg_machine.specs.Commands.{effect}
use Rattle.cg_machine.specs.Operands.{is_dict}
use Rattle.cg_represents.proofs.Serials.{Rises-map, Rises-change, Rises-new}
use Rattle.cg_represents.proofs.CommandLaws.{Each, Leaves, LeavesStack}
use Rattle.cg_laws.proofs.Unreferred.{IsLater, later_refl, change_alters, map_alters, place_later, still_later}
use Rattle.cg_laws.proofs.MeasureInDeaths.{list_one, references_two}
use Rattle.cg_represents.proofs.Shapes.{IsMadeBy, Shape, Binds, Makes, Edits, Puts, Freezes, Unfreezes, StartsFrame, StartsCollection, Ends, AsksWhy, by_shape}

pub put_later : (w : World) (x : Object) (key v : Val) (y : Object) → IsLater y (tracked_by w key v (with_entries (put x.entries key v) y))
put_later w x key v y = go (is_dict y && not (is_tracked y) && (may_track w key || may_track w v))
  where
    go : (b : Bool) → IsLater y (if b then with_place (Gen 0) (with_entries (put x.entries key v) y) else with_entries (put x.entries key v) y)
    go true = still_later
    go false = still_later

-- The stack and the budget stay, serials rise, and at most one object is made.
shape_leaves : (w : World) (command : Command) (e : Effect) → Shape w command e → LeavesStack w e
shape_leaves w command e (Makes name kind class entries referent own parts) = record {
  stack = refl;
  budget = refl;
  outcome = refl;
  rises = λ r. Rises-new 1 w.next_serial w.objects _ refl r;
  serial = omega arith;
}
shape_leaves w command e (Edits wants x entries given h mutable edit) = record {
  stack = refl;
  budget = refl;
  outcome = refl;
  rises = λ r. Rises-change
      (with_entries entries) (λ y. refl) x.serial 1 w.next_serial w.objects r;
  serial = omega arith;
}
shape_leaves w command e (Puts x key v h mutable hand_key hand room) = record {
  stack = refl;
  budget = refl;
  outcome = refl;
  rises = λ r. Rises-change
      (λ y. tracked_by w key v (with_entries (put x.entries key v) y)) (λ y. (put_later w x key v y).serial) x.serial 1 w.next_serial w.objects r;
  serial =
      omega arith;
}
shape_leaves w command e (Freezes is) = record {
  stack = refl;
  budget = refl;
  outcome = refl;
  rises = λ r. Rises-map (λ x. with_place (frozen x.place) x)
      (λ x. refl) 1 w.next_serial w.objects r;
  serial = omega arith;
}
shape_leaves w command e (Unfreezes is) = record {
  stack = refl;
  budget = refl;
  outcome = refl;
  rises = λ r. Rises-map (λ x. with_place (unfrozen x.place) x)
      (λ x. refl) 1 w.next_serial w.objects r;
  serial = omega arith;
}
shape_leaves w command e (StartsFrame f h) = tt
shape_leaves w command e (StartsCollection g low) = tt
shape_leaves w command e Ends = tt
shape_leaves w command e (AsksWhy x h calm) = tt
shape_leaves w command e shape = record { stack = refl; budget = refl; outcome = refl; rises = λ r. r; serial = omega arith }

pub changes_leave : (w : World) (command : Command) (wants_memory : Bool) (lines : List Event) (given_up : List ℕ) (after : World)
    → Shape w command (Changes wants_memory lines given_up after) → Leaves w after
changes_leave w command wants_memory lines given_up after s = shape_leaves w command (Changes wants_memory lines given_up after) s

pub effect_leaves : (w : World) (command : Command) → Each (LeavesStack w) (effect w command)
effect_leaves w command = by_shape (LeavesStack w) w command (shape_leaves w command)

-- At most two references are given up.
abbrev pub GivesFew : Effect → Type 0
GivesFew (Changes wants_memory lines given_up after) = length given_up ≤ 2
GivesFew effect = Unit {0}

few_value : (m : Option Val) → length (references_of_value m) ≤ 2
few_value m = omega (arith, list_one (option_and_then reference_in m))

pub shape_gives_few : (w : World) (command : Command) (e : Effect) → Shape w command e → GivesFew e
shape_gives_few w command e (Binds name v own hand) = few_value (option_and_then (λ v. v) (slice_get w.names name))
shape_gives_few w command e (Makes name kind class entries referent own parts) = few_value (option_and_then (λ v. v) (slice_get w.names name))
shape_gives_few w command e (Edits wants x entries given h mutable edit) = either edit.given (λ none. omega (arith, ap length none)) (λ some. omega (arith, ap length some.2, references_two some.0))
shape_gives_few w command e (Puts x key v h mutable hand_key hand room) = few_value (value_at x.entries key)
shape_gives_few w command e (StartsFrame f h) = tt
shape_gives_few w command e (StartsCollection g low) = tt
shape_gives_few w command e Ends = tt
shape_gives_few w command e (AsksWhy x h calm) = tt
shape_gives_few w command e s = omega arith

-- Where an object comes from: it was there, or the command makes it.
abbrev pub ComesBy : Command → List Object → Object → Type 0
ComesBy command before y = ((x : Object) × Includes before x × IsLater x y) ⊎ IsMadeBy command y.code y.class

abbrev pub ComeBy : World → Command → Effect → Type 0
ComeBy w command (Changes wants_memory lines given_up after) = (y : Object) → Includes after.objects y → ComesBy command w.objects y
ComeBy w command effect = Unit {0}

pub shape_comes : (w : World) (command : Command) (e : Effect) → Shape w command e → ComeBy w command e
shape_comes w command e (Makes name kind class entries referent own parts) = λ y m. either (Includes-append_cases w.objects (_ ∷ []) y m)
    (λ k. inl (y, k, later_refl y)) (λ k. either k (λ i. inr (subst (λ (z : Object). IsMadeBy command z.code z.class) i parts.by)) (λ n. absurd n))
shape_comes w command e (Edits wants x entries given h mutable edit) =
    λ y m. inl ((change_alters (with_entries entries) (λ z. still_later) x.serial w.objects).origin
    y m)
shape_comes w command e (Puts x key v h mutable hand_key hand room) =
    λ y m. inl ((change_alters (λ z. tracked_by w key v (with_entries (put x.entries key v) z)) (put_later w x key v) x.serial w.objects).origin y m)
shape_comes w command e (Freezes is) = λ y m. inl ((map_alters (λ x. with_place (frozen x.place) x) (λ x. place_later (frozen x.place) x) w.objects).origin y m)
shape_comes w command e (Unfreezes is) = λ y m. inl ((map_alters (λ x. with_place (unfrozen x.place) x) (λ x. place_later (unfrozen x.place) x) w.objects).origin y m)
shape_comes w command e (StartsFrame f h) = tt
shape_comes w command e (StartsCollection g low) = tt
shape_comes w command e Ends = tt
shape_comes w command e (AsksWhy x h calm) = tt
shape_comes w command e shape = λ y m. inl (y, m, later_refl y)
