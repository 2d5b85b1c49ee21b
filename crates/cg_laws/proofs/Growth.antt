-- How much a command adds to the world; and what a command calls is a function.
use Rattle.std.proofs.Common.{◌≡◌, refl, ap, ℕ, suc, ◌+◌, ◌≤◌, Bool, true, false, not, ◌&&◌, inl, inr, List, [], ◌∷◌, length, Option, Some, None, arith, option_to_list, zero}
use Rattle.std.specs.Prelude.{◌==◌, ◌||◌, if◌then◌else◌, is_some, option_and_then, slice_get, slice_set}
use Rattle.std.proofs.lemmas.Bool.{eq-eqb, ne_eqb}
use Rattle.cg_value.specs.declared.Val.{Val}
use Rattle.cg_value.specs.declared.Entry.{Entry}
use Rattle.cg_value.specs.declared.Place.{Place}
use Rattle.cg_value.specs.declared.Place.TheVariants.{Gen}
use Rattle.cg_value.specs.declared.KindCode.{KindCode}
use Rattle.cg_graph.specs.Member.{Includes}
use Rattle.cg_graph.specs.Object.{Object, change, with_entries, with_place, is_tracked, first_place}
use Rattle.cg_graph.specs.Value.{reference_in, value_at, put, same_value, references_of_value}
use Rattle.cg_script.specs.declared.Command.{Command}
use Rattle.cg_machine.specs.World.{World, Numbers, with_change}
use Rattle.cg_machine.specs.Effects.{Effect, Changes, Calls, replaced, frozen, unfrozen, tracked_by, may_track, given_up_by}
use Rattle.cg_machine.specs.Operands.{is_dict}
use Rattle.cg_represents.specs.Orderly.{HasFunction}
use Rattle.cg_laws.proofs.Sums.{bit, tally-append, tally-map_le}
use Rattle.cg_represents.proofs.Serials.{Rises, change-below}
use Rattle.cg_laws.proofs.Measure.{entries_in, referents_in, size_of, bound_names}
use Rattle.cg_laws.proofs.FewerEntries.{Same, map_stays, if_same}
use Rattle.cg_represents.proofs.Shapes.{Shape, Binds, Makes, Edits, Puts, Sets, Freezes, Unfreezes, StartsFrame, StartsCollection, Ends, AsksWhy}
use Rattle.cg_laws.proofs.ShapeLaws.{shape_gives_few}
use Rattle.cg_laws.proofs.Lookups.{serial_from}
use Rattle.cg_value.specs.declared.Val.TheVariants.{Ref}

pub record Grows (w after : World) (given_up : List ℕ) : Type 0 where
  pub names : bound_names after.names ≤ bound_names w.names + 1
  pub size : size_of after.objects ≤ size_of w.objects + 1
  pub entries : entries_in after.objects ≤ entries_in w.objects + 4000000
  pub referents : referents_in after.objects ≤ referents_in w.objects + 1
  pub given : length given_up ≤ 2

abbrev pub GrowsBy : World → Effect → Type 0
GrowsBy w (Changes wants_memory lines given_up after) = Grows w after given_up
GrowsBy w (Calls f) = HasFunction w.objects f
GrowsBy w effect = Unit {0}

changed_entries : (f : Object → Object) (low high : ℕ) (objects : List Object) (x : Object) → Rises low high objects → Includes objects x
    → entries_in (change f x.serial objects) + length x.entries ≡ entries_in objects + length (f x).entries
changed_entries f low high [] x r m = absurd m
changed_entries f low high (y ∷ objects) x r (inl e) =
    let same : y.serial ≡ x.serial = ap (λ (z : Object). z.serial) e in
    let rest : entries_in (change f x.serial objects) ≡ entries_in objects = ap entries_in (change-below f x.serial (suc y.serial) high objects (omega (arith, same)) r.1) in
    let here : length y.entries ≡ length x.entries = ap (λ (z : Object). length z.entries) e in
    let there : length (f y).entries ≡ length (f x).entries = ap (λ (z : Object). length (f z).entries) e in
    rw (eq-eqb y.serial x.serial same) (omega (arith, rest, here, there))
changed_entries f low high (y ∷ objects) x r (inr m) =
    let above = serial_from (suc y.serial) high objects x r.1 m in
    rw (ne_eqb y.serial x.serial (λ e. omega (arith, e, above))) (omega (arith, changed_entries f (suc y.serial) high objects x r.1 m))

sets : (w : World) (f : Object → Object) → Same f → (x : Object) (given_up : List ℕ) → Rises 1 w.next_serial w.objects → Includes w.objects x
    → length (f x).entries ≤ length x.entries + 1 → length given_up ≤ 2 → Grows w (with_change f x.serial w) given_up
sets w f k x given_up r m l g =
    let stays = map_stays (λ y. if y.serial == x.serial then f y else y) (if_same f k (λ y. y.serial == x.serial)) w.objects in record {
      names = omega arith;
      size = omega (arith, stays.size);
      entries = omega (arith, changed_entries f 1 w.next_serial w.objects x r m, l);
      referents = omega (arith, stays.referents);
      given = g;
    }

stays_so : (w : World) (names : List (Option Val)) (numbers : Numbers) (given_up : List ℕ) → bound_names names ≤ bound_names w.names + 1 → length given_up ≤ 2
    → Grows w (record w { names = names; numbers = numbers }) given_up
stays_so w names numbers given_up more g = record { names = more; size = omega arith; entries = omega arith; referents = omega arith; given = g }

places : (w : World) (f : Place → Place) (numbers : Numbers) → Grows w (record w { objects = replaced f w; numbers = numbers }) []
places w f numbers =
    let stays = map_stays (λ x. with_place (f x.place) x) (record { serial = λ x. refl; referent = λ x. refl }) w.objects in record {
      names = omega arith;
      size = omega (arith, stays.size);
      entries = omega (arith, tally-map_le (λ x. length x.entries) (λ x. with_place (f x.place) x) (λ x. omega arith) w.objects);
      referents = omega (arith, stays.referents);
      given = omega arith;
    }

value_one : (v : Option Val) → length (references_of_value v) ≤ 2
value_one v = go (option_and_then reference_in v)
  where
    go : (m : Option ℕ) → length (option_to_list m) ≤ 2
    go None = omega arith
    go (Some o) = omega arith

pub name_one : (w : World) (name : ℕ) → length (given_up_by w name) ≤ 2
name_one w name = value_one (option_and_then (λ v. v) (slice_get w.names name))

bit_one : (b : Bool) → bit b ≤ 1
bit_one true = omega arith
bit_one false = omega arith

bound_one : (names : List (Option Val)) (name : ℕ) (v : Option Val) → bound_names (slice_set names name v) ≤ bound_names names + 1
bound_one [] name v = omega arith
bound_one (u ∷ names) zero v = omega (arith, bit_one (is_some v))
bound_one (u ∷ names) (suc name) v = omega (arith, bound_one names name v)

abbrev made : World → KindCode → Option ℕ → List Entry → Option ℕ → Object
made w kind class entries referent = record { serial = w.next_serial; code = kind; class = class; entries = entries; place = first_place kind; finalized = false; referent = referent }

length-put : (entries : List Entry) (key v : Val) → length (put entries key v) ≤ length entries + 1
length-put [] key v = omega arith
length-put (e ∷ entries) key v = go (same_value e.key key) (length-put entries key v)
  where
    go : (b : Bool) → length (put entries key v) ≤ length entries + 1 → length (if b then record { key = e.key; val = v } ∷ entries else e ∷ put entries key v) ≤ suc (length entries) + 1
    go true h = omega arith
    go false h = omega (arith, h)

tracked_same : (w : World) (key v : Val) (x : Object) → ((tracked_by w key v x).serial ≡ x.serial) × ((tracked_by w key v x).referent ≡ x.referent) × ((tracked_by w key v x).entries ≡ x.entries)
tracked_same w key v x = go (is_dict x && not (is_tracked x) && (may_track w key || may_track w v))
  where
    go : (b : Bool) → ((if b then with_place (Gen 0) x else x).serial ≡ x.serial) × ((if b then with_place (Gen 0) x else x).referent ≡ x.referent)
        × ((if b then with_place (Gen 0) x else x).entries ≡ x.entries)
    go true = (refl, refl, refl)
    go false = (refl, refl, refl)

with_entries_same : (es : List Entry) → Same (with_entries es)
with_entries_same es = record { serial = λ x. refl; referent = λ x. refl }

pub shape_grows : (w : World) → Rises 1 w.next_serial w.objects → (command : Command) (e : Effect) → Shape w command e → GrowsBy w e
shape_grows w r command e (Binds name v own hand) = stays_so w (slice_set w.names name _) w.numbers (given_up_by w name) (bound_one w.names name _) (name_one w name)
shape_grows w r command e (Makes name kind class entries referent own parts) = record {
  names = bound_one w.names name (Some (Ref w.next_serial));
  size = omega (arith, tally-append (λ (x : Object). 1) w.objects (made w kind class entries referent ∷ []));
  entries = omega (arith, parts.entry_room, tally-append (λ (x : Object). length x.entries) w.objects (made w kind class entries referent ∷ []));
  referents = omega (arith, bit_one (is_some referent), tally-append (λ (x : Object). bit (is_some x.referent)) w.objects (made w kind class entries referent ∷ []));
  given = name_one w name;
}
shape_grows w r command e (Edits wants x entries given h mutable edit) = sets w (with_entries entries) (with_entries_same entries) x given r h.member
    edit.longer (shape_gives_few w command _ (Edits wants x entries given h mutable edit))
shape_grows w r command e (Puts x key v h mutable hand_key hand room) = sets w (λ y. tracked_by w key v (with_entries (put x.entries key v) y))
    (record { serial = λ y. (tracked_same w key v (with_entries (put x.entries key v) y)).0; referent = λ y. (tracked_same w key v (with_entries (put x.entries key v) y)).1 })
    x (references_of_value (value_at x.entries key)) r h.member
    (omega (arith, length-put x.entries key v, ap length (tracked_same w key v (with_entries (put x.entries key v) x)).2)) (value_one (value_at x.entries key))
shape_grows w r command e (Sets numbers own keeps) = stays_so w w.names numbers [] (omega arith) (omega arith)
shape_grows w r command e (Freezes is) = places w frozen _
shape_grows w r command e (Unfreezes is) = places w unfrozen _
shape_grows w r command e (StartsFrame f h) = (f, h.member, refl, h.passes)
shape_grows w r command e (StartsCollection g low) = tt
shape_grows w r command e Ends = tt
shape_grows w r command e (AsksWhy x h calm) = tt
shape_grows w r command e shape = stays_so w w.names w.numbers [] (omega arith) (omega arith)
