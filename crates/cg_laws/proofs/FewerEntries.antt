-- Changes of the objects that add no condemned object, entry or referent.
use Rattle.std.proofs.Common.{◌≡◌, refl, sym, ◌∙◌, subst, ℕ, ◌+◌, ◌-◌, ◌<◌, ◌≤◌, Bool, true, false, cond, List, [], ◌∷◌, map, length, Some, None, arith}
use Rattle.std.specs.Prelude.{◌==◌, filter, if◌then◌else◌, is_some, unwrap_or, option_map}
use Rattle.std.proofs.lemmas.List.{length-take}
use Rattle.std.proofs.lemmas.Option.{slice_get_within}
use Rattle.std.proofs.lemmas.Bool.{eq-eqb}
use Rattle.cg_machine.specs.Weak.{loses_referent}
use Rattle.cg_value.specs.declared.Place.{Place}
use Rattle.cg_value.specs.declared.Place.TheVariants.{Cand}
use Rattle.cg_value.specs.declared.Entry.{Entry}
use Rattle.cg_graph.specs.Member.{Includes}
use Rattle.cg_graph.specs.Object.{Object, change, is_at, same_place, with_place, with_referent, with_entries, marked, entries_of, object_at}
use Rattle.cg_machine.specs.World.{Activity, Collecting, CollectPhase, Turn, AfterTurn}
use Rattle.cg_graph.specs.Value.{without_last, last_entry}
use Rattle.cg_laws.proofs.Sums.{tally, bit, tally-le, tally-map_le, tally-map_lt, tally-filter_le}
use Rattle.cg_represents.proofs.Serials.{Rises, Rises-map, Rises-filter, shortened}
use Rattle.cg_laws.proofs.Measure.{candidates, other_candidate, entries_in, referents_in, size_of, left_at, left_in}

pub record Fades (f : Object → Object) : Type 0 where
  pub serial : (x : Object) → (f x).serial ≡ x.serial
  pub condemned : (x : Object) → bit (is_at Cand (f x)) ≤ bit (is_at Cand x)
  pub entries : (x : Object) → length (f x).entries ≤ length x.entries
  pub referent : (x : Object) → bit (is_some (f x).referent) ≤ bit (is_some x.referent)

pub record Faded (after before : List Object) : Type 0 where
  pub rises : (low high : ℕ) → Rises low high before → Rises low high after
  pub condemned : candidates after ≤ candidates before
  pub others : (o : ℕ) → tally (other_candidate o) after ≤ tally (other_candidate o) before
  pub entries : entries_in after ≤ entries_in before
  pub referents : referents_in after ≤ referents_in before
  pub size : size_of after ≤ size_of before

-- what stays equal where places and entries may change
pub record Stays (after before : List Object) : Type 0 where
  pub rises : (low high : ℕ) → Rises low high before → Rises low high after
  pub referents : referents_in after ≤ referents_in before
  pub size : size_of after ≤ size_of before

pub faded_stays : (after before : List Object) → Faded after before → Stays after before
faded_stays after before k = record { rises = k.rises; referents = k.referents; size = k.size }

pub unchanged : (objects : List Object) → Faded objects objects
unchanged objects = record { rises = λ low high h. h; condemned = omega arith; others = λ o. omega arith; entries = omega arith; referents = omega arith; size = omega arith }

others_fade : (b : Bool) (n m : ℕ) → n ≤ m → (if b then 0 else n) ≤ (if b then 0 else m)
others_fade true n m h = omega arith
others_fade false n m h = h

other_fades : (f : Object → Object) → Fades f → (o : ℕ) (x : Object) → other_candidate o (f x) ≤ other_candidate o x
other_fades f k o x = subst (λ s. (if s == o then 0 else bit (is_at Cand (f x))) ≤ other_candidate o x) (sym (k.serial x)) (others_fade (x.serial == o) _ _ (k.condemned x))

pub map_fades : (f : Object → Object) → Fades f → (objects : List Object) → Faded (map f objects) objects
map_fades f k objects = record {
  rises = λ low high h. Rises-map f k.serial low high objects h;
  condemned = tally-map_le (λ x. bit (is_at Cand x)) f k.condemned objects;
  others = λ o. tally-map_le (other_candidate o) f (other_fades f k o) objects;
  entries = tally-map_le (λ x. length x.entries) f k.entries objects;
  referents = tally-map_le (λ x. bit (is_some x.referent)) f k.referent objects;
  size = tally-map_le (λ x. 1) f (λ x. omega arith) objects;
}

pub if_fades : (f : Object → Object) → Fades f → (test : Object → Bool) → Fades (λ x. if test x then f x else x)
if_fades f k test = record { serial = λ x. serial (test x) x; condemned = λ x. condemned (test x) x; entries = λ x. entries (test x) x; referent = λ x. referent (test x) x }
  where
    serial : (b : Bool) (x : Object) → (if b then f x else x).serial ≡ x.serial
    serial true x = k.serial x
    serial false x = refl

    condemned : (b : Bool) (x : Object) → bit (is_at Cand (if b then f x else x)) ≤ bit (is_at Cand x)
    condemned true x = k.condemned x
    condemned false x = omega arith

    entries : (b : Bool) (x : Object) → length (if b then f x else x).entries ≤ length x.entries
    entries true x = k.entries x
    entries false x = omega arith

    referent : (b : Bool) (x : Object) → bit (is_some (if b then f x else x).referent) ≤ bit (is_some x.referent)
    referent true x = k.referent x
    referent false x = omega arith

pub change_fades : (f : Object → Object) → Fades f → (o : ℕ) (objects : List Object) → Faded (change f o objects) objects
change_fades f k o objects = map_fades (λ x. if x.serial == o then f x else x) (if_fades f k (λ x. x.serial == o)) objects

pub filter_fades : (p : Object → Bool) (objects : List Object) → Faded (filter p objects) objects
filter_fades p objects = record {
  rises = λ low high h. Rises-filter p low high objects h;
  condemned = tally-filter_le (λ x. bit (is_at Cand x)) p objects;
  others = λ o. tally-filter_le (other_candidate o) p objects;
  entries = tally-filter_le (λ x. length x.entries) p objects;
  referents = tally-filter_le (λ x. bit (is_some x.referent)) p objects;
  size = tally-filter_le (λ x. 1) p objects;
}

-- the changes of the machine
pub place_fades : (p : Place) → same_place p Cand ≡ false → Fades (with_place p)
place_fades p e = record { serial = λ x. refl; condemned = λ x. subst (λ b. bit b ≤ bit (is_at Cand x)) (sym e) (omega arith); entries = λ x. omega arith; referent = λ x. omega arith }

pub referent_fades : Fades (with_referent None)
referent_fades = record { serial = λ x. refl; condemned = λ x. omega arith; entries = λ x. omega arith; referent = λ x. omega arith }

pub length-without_last : (entries : List Entry) → length (without_last entries) ≡ length entries - 1
length-without_last entries = length-take (length entries - 1) entries ∙ (omega arith)

pub shortened_fades : Fades shortened
shortened_fades = record { serial = λ x. refl; condemned = λ x. omega arith; entries = λ x. omega (arith, length-without_last x.entries); referent = λ x. omega arith }

pub entries_fades : Fades (with_entries [])
entries_fades = record { serial = λ x. refl; condemned = λ x. omega arith; entries = λ x. omega arith; referent = λ x. omega arith }

pub marked_fades : Fades marked
marked_fades = record { serial = λ x. refl; condemned = λ x. omega arith; entries = λ x. omega arith; referent = λ x. omega arith }

pub then_fades : (f g : Object → Object) → Fades f → Fades g → Fades (λ x. g (f x))
then_fades f g h k = record {
  serial = λ x. k.serial (f x) ∙ h.serial x;
  condemned = λ x. omega (arith, h.condemned x, k.condemned (f x));
  entries = λ x. omega (arith, h.entries x, k.entries (f x));
  referent = λ x. omega (arith, h.referent x, k.referent (f x));
}

pub faded_after : (after now before : List Object) → Faded after now → Faded now before → Faded after before
faded_after after now before h k = record {
  rises = λ low high r. h.rises low high (k.rises low high r);
  condemned = omega (arith, h.condemned, k.condemned);
  others = λ o. omega (arith, h.others o, k.others o);
  entries = omega (arith, h.entries, k.entries);
  referents = omega (arith, h.referents, k.referents);
  size = omega (arith, h.size, k.size);
}

pub stays_after : (after now before : List Object) → Stays after now → Stays now before → Stays after before
stays_after after now before h k = record { rises = λ low high r. h.rises low high (k.rises low high r); referents = omega (arith, h.referents, k.referents); size = omega (arith, h.size, k.size) }

pub record Same (f : Object → Object) : Type 0 where
  pub serial : (x : Object) → (f x).serial ≡ x.serial
  pub referent : (x : Object) → (f x).referent ≡ x.referent

pub map_stays : (f : Object → Object) → Same f → (objects : List Object) → Stays (map f objects) objects
map_stays f k objects = record {
  rises = λ low high h. Rises-map f k.serial low high objects h;
  referents = tally-map_le (λ x. bit (is_some x.referent)) f (λ x. subst (λ r. bit (is_some r) ≤ bit (is_some x.referent)) (sym (k.referent x)) (omega arith)) objects;
  size = tally-map_le (λ x. 1) f (λ x. omega arith) objects;
}

if_same_at : (f : Object → Object) → Same f → (b : Bool) (x : Object) → ((if b then f x else x).serial ≡ x.serial) × ((if b then f x else x).referent ≡ x.referent)
if_same_at f k true x = (k.serial x, k.referent x)
if_same_at f k false x = (refl, refl)

pub if_same : (f : Object → Object) → Same f → (test : Object → Bool) → Same (λ x. if test x then f x else x)
if_same f k test = record { serial = λ x. (if_same_at f k (test x) x).0; referent = λ x. (if_same_at f k (test x) x).1 }

pub placed : (p : Object → Place) (test : Object → Bool) (objects : List Object) → Stays (map (λ x. if test x then with_place (p x) x else x) objects) objects
placed p test objects = map_stays (λ x. if test x then with_place (p x) x else x) (if_same (λ x. with_place (p x) x) (record { serial = λ x. refl; referent = λ x. refl }) test) objects

pub placed_entries : (p : Object → Place) (test : Object → Bool) (objects : List Object) → entries_in (map (λ x. if test x then with_place (p x) x else x) objects) ≤ entries_in objects
placed_entries p test objects = tally-map_le (λ x. length x.entries) (λ x. if test x then with_place (p x) x else x) (λ x. go (test x) x) objects
  where
    go : (b : Bool) (x : Object) → length (if b then with_place (p x) x else x).entries ≤ length x.entries
    go true x = omega arith
    go false x = omega arith

-- what becomes less
pub loses_one : (objects : List Object) (weak : ℕ) (y : Object) → Includes objects y → y.serial ≡ weak → is_some y.referent ≡ true → referents_in (loses_referent weak objects) < referents_in objects
loses_one objects weak y m e some =
    tally-map_lt (λ x. bit (is_some x.referent)) (λ x. if x.serial == weak then with_referent None x else x) (if_fades (with_referent None) referent_fades (λ x. x.serial == weak)).referent objects y m
    (subst (λ b. bit (is_some (if b then with_referent None y else y).referent) < bit (is_some y.referent)) (sym (eq-eqb y.serial weak e)) (subst (λ b. 0 < bit b) (sym some) (omega arith)))

has_last : (entries : List Entry) (e : Entry) → last_entry entries ≡ Some e → 0 < length entries
has_last entries e h = omega (arith, slice_get_within entries (length entries - 1) e h)

shorter_at : (b : Bool) (o : ℕ) (x : Object) (xs : List Object) (e : Entry) → last_entry (unwrap_or (option_map (λ (y : Object). y.entries) (cond b (Some x) (object_at xs o))) []) ≡ Some e
    → (last_entry (entries_of xs o) ≡ Some e → entries_in (change shortened o xs) < entries_in xs) → length (if b then shortened x else x).entries + entries_in
    (change shortened o xs) < length x.entries + entries_in xs
shorter_at true o x xs e h rest = omega (arith, has_last x.entries e h, length-without_last x.entries, (change_fades shortened shortened_fades o xs).entries)
shorter_at false o x xs e h rest = omega (arith, rest h)

pub shorter : (objects : List Object) (o : ℕ) (e : Entry) → last_entry (entries_of objects o) ≡ Some e → entries_in (change shortened o objects) < entries_in objects
shorter [] o e h = let no : None ≡ Some e = h in cc
shorter (x ∷ xs) o e h = shorter_at (x.serial == o) o x xs e h (shorter xs o e)

-- the collections have no more work left
pub left_at_fades : (after before : List Object) → Faded after before → (p : CollectPhase) → left_at after p ≤ left_at before p
left_at_fades after before k (Turn o) = omega (arith, k.others o)
left_at_fades after before k (AfterTurn o) = omega (arith, k.others o)
left_at_fades after before k p = omega (arith, k.condemned)

left_in_fades : (after before : List Object) → Faded after before → (a : Activity) → left_in after a ≤ left_in before a
left_in_fades after before k (Collecting c) = left_at_fades after before k c.phase
left_in_fades after before k a = omega arith

pub left_fades : (after before : List Object) → Faded after before → (stack : List Activity) → tally (left_in after) stack ≤ tally (left_in before) stack
left_fades after before k stack = tally-le (left_in after) (left_in before) (left_in_fades after before k) stack
