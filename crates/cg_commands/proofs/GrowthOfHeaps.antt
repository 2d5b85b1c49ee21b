-- How far each command makes a world grow, and with it the heap.
use Rattle.std.proofs.Common.{◌≡◌, refl, sym, ◌∙◌, ap, subst, ℕ, ◌+◌, ◌≤◌, Bool, true, false, length, length-append, Option, Some, Result, Ok, Err, OnOk, arith}
use Rattle.std.specs.Prelude.{if◌then◌else◌, slice_set, ◌==◌}
use Rattle.std.proofs.lemmas.List.{length-set, length-map}
use Rattle.cg_value.specs.declared.Val.{Val}
use Rattle.cg_value.specs.declared.Val.TheVariants.{Ref}
use Rattle.cg_value.specs.declared.KindCode.{KindCode}
use Rattle.cg_value.specs.declared.Place.{Place}
use Rattle.cg_graph.specs.Object.{Object, with_place, with_entries}
use Rattle.cg_graph.specs.Store.{Store, objects_of}
use Rattle.cg_graph.specs.Value.{put}
use Rattle.cg_script.specs.declared.Command.{Command}
use Rattle.cg_machine.specs.World.{World, Numbers, with_change}
use Rattle.cg_machine.specs.Effects.{Effect, Changes, Calls, Collects, Quits, Explains, replaced, frozen, unfrozen, bound, with_new, tracked_by}
use Rattle.cg_represents.specs.Represents.{Represents}
use Rattle.cg_machine.specs.Commands.{effect}
use Rattle.cg_represents.proofs.CommandLaws.{Each}
use Rattle.cg_represents.proofs.Shapes.{IsMadeBy, ByList, ByTuple, ByDict, ByInst, ByFunc, ByRef, Shape, Binds, Makes, Edits, Puts, Shows, Tells, Stays, Sets, Freezes, Unfreezes, StartsFrame, StartsCollection, Ends, Inspects, AsksWhy, by_shape}
use Rattle.cg_commands.specs.declared.done.Done.{Done}
use Rattle.cg_commands.specs.declared.done.Done.TheVariants as done
use Rattle.cg_commands.specs.declared.done.Refusal.{Refusal}
use Rattle.cg_commands.specs.Answers.{AnswersOnHeap}
use Rattle.cg_commands.specs.Growth.{GrowsBy, makes_object}

-- what was done without a new object, or with room for one
pub nothing_made : (r : Result Done Refusal) (made room : Bool) → made ≡ false → OnOk r (made ≡ true → room ≡ true)
nothing_made (Ok done) made room none = λ is. absurd (let no : true ≡ false = sym is ∙ none in cc)
nothing_made (Err refusal) made room none = tt

pub made_in_room : (r : Result Done Refusal) (made room : Bool) → OnOk r (room ≡ true) → OnOk r (made ≡ true → room ≡ true)
made_in_room (Ok done) made room is = λ _. is
made_in_room (Err refusal) made room is = tt

-- A world after a command that may have made an object.
record Sized (made : Bool) (w after : World) : Type 0 where
  objects : length after.objects ≤ length w.objects + (if made then 1 else 0)
  names : length after.names ≡ length w.names

abbrev HasSize : Bool → World → Effect → Type 0
HasSize made w (Changes wants_memory lines given_up after) = Sized made w after
HasSize made w (Calls f) = Unit {0}
HasSize made w (Collects g) = Unit {0}
HasSize made w Quits = Unit {0}
HasSize made w (Explains o) = Unit {0}

named : (w : World) (i : ℕ) (v : Option Val) → Sized false w (record w { names = slice_set w.names i v })
named w i v = record { objects = omega arith; names = length-set w.names i v }

changed : (w : World) (f : Object → Object) (o : ℕ) → Sized false w (with_change f o w)
changed w f o = record { objects = omega (arith, length-map w.objects (λ x. if x.serial == o then f x else x)); names = refl }

same : (w : World) (numbers : Numbers) → Sized false w (record w { numbers = numbers })
same w numbers = record { objects = omega arith; names = refl }

placed : (w : World) (f : Place → Place) (numbers : Numbers) → Sized false w (record w { objects = replaced f w; numbers = numbers })
placed w f numbers = record { objects = omega (arith, length-map w.objects (λ (x : Object). with_place (f x.place) x)); names = refl }

pub made_makes : (command : Command) (kind : KindCode) (class : Option ℕ) → IsMadeBy command kind class → makes_object command ≡ true
made_makes command kind class (ByList name items) = refl
made_makes command kind class (ByTuple name items) = refl
made_makes command kind class (ByDict name) = refl
made_makes command kind class (ByInst name number) = refl
made_makes command kind class (ByFunc name proc cells) = refl
made_makes command kind class (ByRef name target callback) = refl

-- a change that makes no object satisfies this too
at_most : (made : Bool) (w after : World) → Sized false w after → Sized made w after
at_most true w after s = record { objects = omega (arith, s.objects); names = s.names }
at_most false w after s = s

shape_sized : (w : World) (command : Command) (e : Effect) → Shape w command e → HasSize (makes_object command) w e
shape_sized w command e (Binds name v own hand) = at_most (makes_object command) w _ (named w name v)
shape_sized w command e (Makes name kind class entries referent own parts) =
    subst (λ b. Sized b w (bound (with_new w kind class entries referent) name (Some (Ref w.next_serial)))) (sym (made_makes command kind class parts.by))
    (record { objects = omega (arith, length-append w.objects); names = length-set w.names name _ })
shape_sized w command e (Edits wants x entries given h mutable edit) = at_most (makes_object command) w _ (changed w (with_entries entries) x.serial)
shape_sized w command e (Puts x key v h mutable hand_key hand room) = at_most (makes_object command) w _ (changed w (λ y. tracked_by w key v (with_entries (put x.entries key v) y)) x.serial)
shape_sized w command e (Shows v hand) = at_most (makes_object command) w _ (same w w.numbers)
shape_sized w command e (Tells line tells) = at_most (makes_object command) w _ (same w w.numbers)
shape_sized w command e Stays = at_most (makes_object command) w _ (same w w.numbers)
shape_sized w command e (Sets numbers own keeps) = at_most (makes_object command) w _ (same w numbers)
shape_sized w command e (Freezes is) = at_most (makes_object command) w _ (placed w frozen _)
shape_sized w command e (Unfreezes is) = at_most (makes_object command) w _ (placed w unfrozen w.numbers)
shape_sized w command e (StartsFrame f h) = tt
shape_sized w command e (StartsCollection g low) = tt
shape_sized w command e Ends = tt
shape_sized w command e (Inspects lines calm there) = at_most (makes_object command) w _ (same w w.numbers)
shape_sized w command e (AsksWhy x h calm) = tt

effect_sized : (w : World) (command : Command) → Each (HasSize (makes_object command) w) (effect w command)
effect_sized w command = by_shape (HasSize (makes_object command) w) w command (shape_sized w command)

-- a property of each effect holds of this one
pub of_effect : (P : Effect → Type 0) (r : Result Effect ℕ) (e : Effect) → r ≡ Ok e → Each P r → P e
of_effect P r e is each = subst (Each P) is each

one_more : (made room : Bool) → (made ≡ true → room ≡ true) → (if made then 1 else 0) ≤ (if room then 1 else 0)
one_more true room is = let there : room ≡ true = is refl in subst (λ b. 1 ≤ (if b then 1 else 0)) (sym there) (omega arith)
one_more false room is = omega arith

kept : (room : Bool) (old new : Store) → new ≡ old → GrowsBy room old new
kept room old new is = subst (GrowsBy room old) (sym is) (record { objects = omega arith; names = refl })

-- what was done lets the heap grow no further
pub grows_within : (command : Command) (w : World) (room : Bool) (old new : Store) (answer : Result Done Refusal) → Represents old w
    → AnswersOnHeap answer (effect w command) old new → OnOk answer (makes_object command ≡ true → room ≡ true) → GrowsBy room old new
grows_within command w room old new (Ok (done.Changed line e)) r h is =
    let sized : Sized (makes_object command) w h.after = of_effect (HasSize (makes_object command) w) (effect w command) _ h.is (effect_sized w command) in
    let before : length (objects_of old) ≡ length w.objects = ap length r.objects in
    let after : length (objects_of new) ≡ length h.after.objects = ap length h.represents.objects in
    record {
      objects = omega (arith, sized.objects, before, after, one_more (makes_object command) room is);
      names = ap length h.represents.names ∙ sized.names ∙ sym (ap length r.names);
    }
grows_within command w room old new (Ok (done.Calls f)) r h is = kept room old new h.1
grows_within command w room old new (Ok (done.Collects g)) r h is = kept room old new h.2
grows_within command w room old new (Ok done.Quits) r h is = kept room old new h.1
grows_within command w room old new (Ok (done.Tells lines)) r h is = kept room old new h.1
grows_within command w room old new (Err refusal) r h is = kept room old new h.1
