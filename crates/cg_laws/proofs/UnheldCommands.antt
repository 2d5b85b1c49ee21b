-- Each command keeps the invariant of dying objects: it touches only what is held, or what a weak reference refers to.
use Rattle.std.proofs.Common.{◌≡◌, ◌≢◌, refl, sym, ◌∙◌, ap, subst, ℕ, Bool, true, false, not, ◌&&◌, inl, inr, ◌⊎◌, List, [], ◌∷◌, ◌++◌, Option, Some, None, arith}
use Rattle.std.specs.Prelude.{◌==◌, ◌||◌, if◌then◌else◌, slice_set}
use Rattle.std.proofs.lemmas.Bool.{eqb-true}
use Rattle.cg_value.specs.declared.Place.{Place}
use Rattle.cg_value.specs.declared.Place.TheVariants.{Untracked, Gen, Frozen}
use Rattle.cg_value.specs.declared.Entry.{Entry}
use Rattle.cg_value.specs.declared.Val.{Val}
use Rattle.cg_value.specs.declared.Val.TheVariants.{None as Nothing, Ref}
use Rattle.cg_value.specs.declared.KindCode.{KindCode}
use Rattle.cg_value.specs.declared.KindCode.TheVariants.{Dict, Weak}
use Rattle.cg_script.specs.declared.Script.{Script}
use Rattle.cg_script.specs.declared.Command.{Command}
use Rattle.cg_graph.specs.Member.{Includes}
use Rattle.cg_graph.specs.Value.{reference_in, references, references_of_value, entry_references, value_at, put}
use Rattle.cg_graph.specs.Object.{Object, change, with_entries, with_place, is_tracked, first_place, serials}
use Rattle.cg_graph.specs.Holdings.{name_holdings}
use Rattle.cg_graph.proofs.Members.{either, Includes-append_left, Includes-append_right, Includes-append_cases, Includes-map, Includes-map_cases}
use Rattle.cg_machine.specs.World.{World, Numbers, with_change}
use Rattle.cg_machine.specs.Weak.{has_weak_references, is_instance, is_function}
use Rattle.cg_machine.specs.Effects.{Effect, Changes, Calls, bound, with_new, given_up_by, replaced, frozen, unfrozen, tracked_by, may_track}
use Rattle.cg_machine.specs.Operands.{is_dict}
use Rattle.cg_machine.specs.Collect.{is_condemned}
use Rattle.cg_represents.proofs.Serials.{Rises}
use Rattle.cg_laws.proofs.Lookups.{same_object, references_of_member}
use Rattle.cg_represents.specs.Orderly.{HasFunction}
use Rattle.cg_laws.specs.Laws.{IsOfCollection}
use Rattle.cg_laws.proofs.HeldLivesDeaths.{false_true}
use Rattle.cg_laws.proofs.Unreferred.{IsQuiet, AreQuiet, Forgotten, Mortal, HasFinalizers, AreReferred, IsLater, later_refl, Alters, mortal_after, finalizers_after, change_alters, map_alters, place_later, map_quiet, test_quiet, entries_quiet, entries_alter, referred_after, still_forgotten, lives_within, still_later}
use Rattle.cg_laws.proofs.Unheld.{AreOver}
use Rattle.cg_laws.proofs.CommandRefs.{all_free, HoldNone, option_free, entry_val, entry_key, entry_free, put_free, old_value_free, name_free, bound_free, IsKnown, operand_known}
use Rattle.cg_represents.proofs.Shapes.{IsAtHand, NoneThere, Word, ValueIn, KeyIn, ReferentOf, HasObject, IsMutable, IsEdit, Shape, Binds, Makes, Edits, Puts, Sets, Freezes, Unfreezes, StartsFrame, StartsCollection, Ends, AsksWhy}

-- a command changes no weak reference
mutable_code : (x : Object) → IsMutable x.code → x.code ≢ Weak
mutable_code x m e = subst IsMutable e m

pub tracked_later : (w : World) (key v : Val) (x : Object) → IsLater x (tracked_by w key v x)
tracked_later w key v x = go (is_dict x && not (is_tracked x) && (may_track w key || may_track w v))
  where
    go : (b : Bool) → IsLater x (if b then with_place (Gen 0) x else x)
    go true = still_later
    go false = still_later

module _ (script : Script) (w : World) (rises : Rises 1 w.next_serial w.objects) (over : AreOver w.stack) where
  -- given-up references and referents are of no forgotten object
  abbrev AreGiven : List ℕ → Type 0
  AreGiven given_up = (o : ℕ) → Forgotten w o → ¬ Includes given_up o

  -- where an object comes from: it existed, or it is new
  pub data Comes (y : Object) : Type 0 where
    was_there : (x : Object) → Includes w.objects x → IsLater x y → (y.entries ≡ x.entries) ⊎ (x.code ≢ Weak) × ((o : ℕ) → Forgotten w o → x.serial ≢ o)
        → (is_condemned y ≡ true → is_condemned x ≡ true) → (IsOfCollection y.place → x.place ≡ y.place) → Comes y
    is_new : y.serial ≡ w.next_serial → is_condemned y ≡ false → ¬ IsOfCollection y.place → ((r : ℕ) → y.referent ≡ Some r → y.code ≡ Weak)
        → (y.code ≡ Weak → (f : ℕ) → Includes (references y.entries) f → HasFunction w.objects f) → Comes y

  -- what a command does to the objects and to what is below it
  pub record Mild (after : World) (given_up : List ℕ) : Type 0 where
    pub referred : AreReferred w.objects → AreReferred after.objects
    pub mortal : (o : ℕ) → Mortal w.objects o → Mortal after.objects o
    pub finalizers : (o : ℕ) → Mortal w.objects o → HasFinalizers script w.objects o → HasFinalizers script after.objects o
    pub forgotten : (o : ℕ) → (¬ Includes (serials after.objects) o) ⊎ Mortal w.objects o → Forgotten w o → Forgotten after o
    pub given : AreGiven given_up
    pub lasts : (x : Object) → Includes w.objects x → (y : Object) × Includes after.objects y × IsLater x y
    pub comes : (y : Object) → Includes after.objects y → Comes y

  abbrev pub IsMild : Effect → Type 0
  IsMild (Changes wants_memory lines given_up after) = Mild after given_up
  IsMild (Calls f) = (o : ℕ) → Forgotten w o → f ≢ o
  IsMild effect = Unit {0}

  names_mild : (names : List (Option Val)) (numbers : Numbers) (given_up : List ℕ) → ((o : ℕ) → Forgotten w o → ¬ Includes (name_holdings names) o) → AreGiven given_up
      → Mild (record w { names = names; numbers = numbers }) given_up
  names_mild names numbers given_up free given = record {
    referred = λ r. r;
    mortal = λ o l. l;
    finalizers = λ o l h. h;
    forgotten = λ o old f. record {
      unheld = record { quiet = f.unheld.quiet; names = free o f; root = f.unheld.root; stack = f.unheld.stack };
      unreferred = f.unreferred;
    };
    given = given;
    lasts = λ x m. (x, m, later_refl x);
    comes = λ y m. was_there y m (later_refl y) (inl refl) (λ k. k) (λ k. refl);
  }

  numbers_mild : (numbers : Numbers) → Mild (record w { numbers = numbers }) []
  numbers_mild numbers = names_mild w.names numbers [] (λ o f. f.unheld.names) (λ o f k. k)

  given_name : (x : ℕ) → AreGiven (given_up_by w x)
  given_name x o f = name_free w.names x o f.unheld.names

  changes_mild : (objects : List Object) (numbers : Numbers) (given_up : List ℕ) → Alters w.objects objects → ((o : ℕ) → Forgotten w o → AreQuiet o objects)
      → AreGiven given_up → ((y : Object) → Includes objects y → Comes y)
      → Mild (record w { objects = objects; numbers = numbers }) given_up
  changes_mild objects numbers given_up alters quiet given comes = record {
    referred = referred_after w.objects objects alters;
    mortal = λ o. mortal_after w.objects objects alters o;
    finalizers = λ o l. finalizers_after script w.objects objects alters o;
    forgotten = λ o old f. still_forgotten w (record w { objects = objects; numbers = numbers }) o refl alters (λ q. quiet o f) (λ k. k) f;
    given = given;
    lasts = alters.lasts;
    comes = comes;
  }

  comes_changed : (f : Object → Object) (x : Object) → Includes w.objects x → x.code ≢ Weak → ((o : ℕ) → Forgotten w o → x.serial ≢ o)
      → ((z : Object) → IsLater z (f z)) → ((z : Object) → is_condemned (f z) ≡ true → is_condemned z ≡ true) → ((z : Object) → IsOfCollection (f z).place
      → z.place ≡ (f z).place) → (y : Object) → Includes (change f x.serial w.objects) y → Comes y
  comes_changed f x m code apart later condemned places y n =
      let z = Includes-map_cases (λ z. if z.serial == x.serial then f z else z) w.objects y n in
      subst Comes z.2 (one z.0 z.1 (z.0.serial == x.serial) refl)
    where
      one : (z : Object) → Includes w.objects z → (b : Bool) → (z.serial == x.serial) ≡ b → Comes (if b then f z else z)
      one z k true e =
          let same : z ≡ x = same_object 1 w.next_serial w.objects z x rises k m (eqb-true z.serial x.serial e) in
          was_there z k (later z) (inr (λ c. code (ap (λ (q : Object). q.code) (sym same) ∙ c), λ o f i. apart o f (ap (λ (q : Object). q.serial) (sym same) ∙ i))) (condemned z) (places z)
      one z k false e = was_there z k (later_refl z) (inl refl) (λ c. c) (λ c. refl)

  sets_mild : (x : Object) (entries : List Entry) (given_up : List ℕ) → Includes w.objects x → x.code ≢ Weak → ((o : ℕ) → Forgotten w o → x.serial ≢ o)
      → ((o : ℕ) → Forgotten w o → HoldNone o entries) → AreGiven given_up → Mild (with_change (with_entries entries) x.serial w) given_up
  sets_mild x entries given_up m code apart free given = changes_mild (change (with_entries entries) x.serial w.objects) w.numbers given_up
      (entries_alter entries x.serial w.objects) (λ o f. entries_quiet o x.serial entries (free o f) w.objects f.unheld.quiet) given
      (comes_changed (with_entries entries) x m code apart (λ z. still_later) (λ z k. k) (λ z k. refl))

  own_free : (x : Object) → Includes w.objects x → (o : ℕ) → Forgotten w o → HoldNone o x.entries
  own_free x m o f = (f.unheld.quiet x m).entries

  tracked_condemned : (key v : Val) (x : Object) → is_condemned (tracked_by w key v x) ≡ true → is_condemned x ≡ true
  tracked_condemned key v x = go (is_dict x && not (is_tracked x) && (may_track w key || may_track w v))
    where
      go : (b : Bool) → is_condemned (if b then with_place (Gen 0) x else x) ≡ true → is_condemned x ≡ true
      go true e = false_true e
      go false e = e

  tracked_place : (key v : Val) (x : Object) → IsOfCollection (tracked_by w key v x).place → x.place ≡ (tracked_by w key v x).place
  tracked_place key v x = go (is_dict x && not (is_tracked x) && (may_track w key || may_track w v))
    where
      go : (b : Bool) → IsOfCollection (if b then with_place (Gen 0) x else x).place → x.place ≡ (if b then with_place (Gen 0) x else x).place
      go true k = absurd k
      go false k = refl

  tracked_entries : (key v : Val) (x : Object) → (tracked_by w key v x).entries ≡ x.entries
  tracked_entries key v x = go (is_dict x && not (is_tracked x) && (may_track w key || may_track w v))
    where
      go : (b : Bool) → (if b then with_place (Gen 0) x else x).entries ≡ x.entries
      go true = refl
      go false = refl

  puts_mild : (x : Object) (key v : Val) → Includes w.objects x → x.code ≢ Weak → ((o : ℕ) → Forgotten w o → x.serial ≢ o) → IsKnown w over key
      → IsKnown w over v → Mild (with_change (λ y. tracked_by w key v (with_entries (put x.entries key v) y)) x.serial w)
      (references_of_value (value_at x.entries key))
  puts_mild x key v m code apart known_key known_v =
      changes_mild (change put_in x.serial w.objects) w.numbers (references_of_value (value_at x.entries key)) (change_alters put_in put_later x.serial w.objects)
      (λ o f. test_quiet o put_in (λ y. y.serial == x.serial) (λ y e k. record {
        entries = subst (λ es. ¬ Includes (references es) o) (sym (tracked_entries key v (with_entries (put x.entries key v) y)))
            (put_free x.entries key v o (own_free x m o f) (known_key o f) (known_v o f));
        untracked = λ i. absurd (apart o f (sym (eqb-true y.serial x.serial e) ∙ sym (put_later y).serial ∙ i));
        refers_to_none = λ i. absurd (apart o f (sym (eqb-true y.serial x.serial e) ∙ sym (put_later y).serial ∙ i));
      }) w.objects f.unheld.quiet)
      (λ o f. old_value_free x.entries key o (own_free x m o f)) (comes_changed put_in x m code apart put_later put_condemned put_place)
    where
      put_in : Object → Object
      put_in y = tracked_by w key v (with_entries (put x.entries key v) y)

      put_later : (y : Object) → IsLater y (put_in y)
      put_later y = let t = tracked_later w key v (with_entries (put x.entries key v) y) in record { serial = t.serial; code = t.code; class = t.class; referent = t.referent }

      put_place : (y : Object) → IsOfCollection (put_in y).place → y.place ≡ (put_in y).place
      put_place y = tracked_place key v (with_entries (put x.entries key v) y)

      put_condemned : (y : Object) → is_condemned (put_in y) ≡ true → is_condemned y ≡ true
      put_condemned y = tracked_condemned key v (with_entries (put x.entries key v) y)

  abbrev IsReferent : Option ℕ → Type 0
  IsReferent None = Unit {0}
  IsReferent (Some r) = (z : Object) × Includes w.objects z × (z.serial ≡ r) × (has_weak_references z ≡ true) × ((o : ℕ) → Forgotten w o → r ≢ o)

  referent_is : (m : Option ℕ) (r : ℕ) → IsReferent m → m ≡ Some r → IsReferent (Some r)
  referent_is m r h e = subst IsReferent e h

  makes_mild : (x : ℕ) (kind : KindCode) (class : Option ℕ) (entries : List Entry) (referent : Option ℕ) → ((o : ℕ) → Forgotten w o → HoldNone o entries)
      → IsReferent referent → ((r : ℕ) → referent ≡ Some r → kind ≡ Weak) → (kind ≡ Weak → (f : ℕ) → Includes (references entries) f → HasFunction w.objects f)
      → Mild (bound (with_new w kind class entries referent) x (Some (Ref w.next_serial))) (given_up_by w x)
  makes_mild x kind class entries referent free refers code functions = record {
    referred = referred;
    mortal = λ o l. record { lives = lives o l.lives; refers_to_none = λ y m e. either (old y m) (λ k. l.refers_to_none y k e) (λ i. absurd (not_new o (inr l) y i e)) };
    finalizers = λ o l h y m e. either (old y m) (λ k. h y k e) (λ i. absurd (not_new o (inr l) y i e));
    forgotten = λ o l f. record {
      unheld = record {
        quiet = λ y m. either (old y m) (λ k. f.unheld.quiet y k)
            (λ i. subst (IsQuiet o) i (record {
              entries = free o f;
              untracked = λ e. absurd (not_new o l new refl e);
              refers_to_none = λ e. absurd
                  (not_new o l new refl e);
            }));
        names = bound_free w.names x o (Some (Ref w.next_serial)) (λ m. either m (λ e. not_new o l new refl e) (λ n. n)) f.unheld.names;
        root = f.unheld.root;
        stack = f.unheld.stack;
      };
      unreferred = λ y m e. either (old y m) (λ k. f.unreferred y k e) (λ i. (referent_is referent o refers (ap (λ (z : Object). z.referent) i ∙ e)).4 o f refl);
    };
    lasts = λ y m. (y, Includes-append_left w.objects (new ∷ []) y m, later_refl y);
    comes = λ y m. either (old y m) (λ k. was_there y k (later_refl y) (inl refl) (λ c. c) (λ c. refl)) (λ i. subst Comes i (is_new refl (uncondemned kind) (apart_from kind) code functions));
    given = given_name x;
  }
    where
      new : Object
      new = record { serial = w.next_serial; code = kind; class = class; entries = entries; place = first_place kind; finalized = false; referent = referent }

      old : (y : Object) → Includes (w.objects ++ new ∷ []) y → Includes w.objects y ⊎ (new ≡ y)
      old y m = either (Includes-append_cases w.objects (new ∷ []) y m) (λ k. inl k) (λ k. either k (λ e. inr e) (λ n. absurd n))

      lives : (o : ℕ) → Includes (serials w.objects) o → Includes (serials (w.objects ++ new ∷ [])) o
      lives o m =
          let y = Includes-map_cases (λ (z : Object). z.serial) w.objects o m in
          subst (Includes (serials (w.objects ++ new ∷ []))) y.2 (Includes-map (λ (z : Object). z.serial) (w.objects ++ new ∷ []) y.0 (Includes-append_left w.objects (new ∷ []) y.0 y.1))

      not_new : (o : ℕ) → (¬ Includes (serials (w.objects ++ new ∷ [])) o) ⊎ Mortal w.objects o → (y : Object) → new ≡ y → y.serial ≢ o
      not_new o (inl gone) y i e = gone (subst (Includes (serials (w.objects ++ new ∷ []))) (ap (λ (z : Object). z.serial) i ∙ e)
          (Includes-map (λ (z : Object). z.serial) (w.objects ++ new ∷ []) new (Includes-append_right w.objects (new ∷ []) new (inl refl))))
      not_new o (inr l) y i e =
          let within = lives_within 1 w.next_serial w.objects o rises l.lives in
          let same : w.next_serial ≡ o = ap (λ (z : Object). z.serial) i ∙ e in
          omega (arith, within.1, same)

      apart_from : (k : KindCode) → ¬ IsOfCollection (first_place k)
      apart_from Dict c = c
      apart_from k c = c

      uncondemned : (k : KindCode) → is_condemned (with_place (first_place k) new) ≡ false
      uncondemned Dict = refl
      uncondemned k = refl

      referred : AreReferred w.objects → AreReferred (w.objects ++ new ∷ [])
      referred h y m r e = either (old y m)
          (λ k. let z = h y k r e in (z.0, Includes-append_left w.objects (new ∷ []) z.0 z.1, z.2, z.3))
          (λ i. let z = referent_is referent r refers (ap (λ (z : Object). z.referent) i ∙ e) in (z.0, Includes-append_left w.objects (new ∷ []) z.0 z.1, z.2, z.3))

  places_mild : (f : Place → Place) (numbers : Numbers) → f Untracked ≡ Untracked → ((p : Place) (x : Object) → is_condemned (with_place (f p) x) ≡ true
      → is_condemned (with_place p x) ≡ true) → ((p : Place) → IsOfCollection (f p) → p ≡ f p) → Mild (record w { objects = replaced f w; numbers = numbers })
      []
  places_mild f numbers still condemned places = changes_mild (replaced f w) numbers [] (map_alters (λ x. with_place (f x.place) x) (λ x. place_later (f x.place) x) w.objects)
      (λ o g. map_quiet o (λ x. with_place (f x.place) x) (λ x k. record {
        entries = k.entries;
        untracked = λ i. ap f (k.untracked i) ∙ still;
        refers_to_none = k.refers_to_none;
      }) w.objects g.unheld.quiet) (λ o g k. k)
      (λ y m. let x = Includes-map_cases (λ x. with_place (f x.place) x) w.objects y m in subst Comes x.2 (was_there x.0 x.1 (place_later (f x.0.place) x.0)
      (inl refl) (condemned x.0.place x.0) (places x.0.place)))

  frozen_place : (p : Place) → IsOfCollection (frozen p) → p ≡ frozen p
  frozen_place (Gen i) c = absurd c
  frozen_place p c = refl

  unfrozen_place : (p : Place) → IsOfCollection (unfrozen p) → p ≡ unfrozen p
  unfrozen_place Frozen c = absurd c
  unfrozen_place p c = refl

  frozen_condemned : (p : Place) (x : Object) → is_condemned (with_place (frozen p) x) ≡ true → is_condemned (with_place p x) ≡ true
  frozen_condemned (Gen i) x e = false_true e
  frozen_condemned p x e = e

  unfrozen_condemned : (p : Place) (x : Object) → is_condemned (with_place (unfrozen p) x) ≡ true → is_condemned (with_place p x) ≡ true
  unfrozen_condemned Frozen x e = false_true e
  unfrozen_condemned p x e = e

  -- A value at hand is not forgotten.
  pub hand_known : (command : Command) (v : Val) → IsAtHand w command v → IsKnown w over v
  hand_known command v NoneThere = λ o f k. let no : None ≡ Some o = k in cc
  hand_known command v (Word operand u own e) = operand_known w over operand u e
  hand_known command v (ValueIn x e m h k) = λ o f. entry_val e o (λ i. own_free x m o f (references_of_member x.entries e o k i))
  hand_known command v (KeyIn x e m h k) = λ o f. entry_key e o (λ i. own_free x m o f (references_of_member x.entries e o k i))
  hand_known command v (ReferentOf x r m h e) = λ o f k. f.unreferred x m (e ∙ k)

  object_apart : (command : Command) (test : Object → Bool) (x : Object) → HasObject w command test x → (o : ℕ) → Forgotten w o → x.serial ≢ o
  object_apart command test x h o f e = hand_known command (Ref x.serial) h.hand o f (ap Some e)

  hand_free : (command : Command) (e : Entry) → e.key ≡ Nothing → IsAtHand w command e.val → (o : ℕ) → Forgotten w o → ¬ Includes (entry_references e) o
  hand_free command e key hand o f = entry_free e o (hand_known command e.val hand o f) (λ i. let no : None ≡ Some o = ap reference_in (sym key) ∙ i in cc)

  bound_known : (command : Command) (v : Option Val) → ((u : Val) → v ≡ Some u → IsAtHand w command u) → AreGiven (references_of_value v)
  bound_known command None hand o f k = k
  bound_known command (Some u) hand o f k = option_free _ o (hand_known command u (hand u refl) o f) k

  referent_found : (command : Command) (kind : KindCode) (referent : Option ℕ) → ((r : ℕ) → referent ≡ Some r → (kind ≡ Weak)
      × ((z : Object) × HasObject w command has_weak_references z × (z.serial ≡ r))) → IsReferent referent
  referent_found command kind None refers = tt
  referent_found command kind (Some r) refers = let z = (refers r refl).1 in (z.0, z.1.member, z.2, z.1.passes, λ o f e. object_apart command has_weak_references z.0 z.1 o f (z.2 ∙ e))

  edited_free : (command : Command) (x : Object) (entries : List Entry) (given_up : List ℕ) → Includes w.objects x → IsEdit w command x entries given_up → (o : ℕ) → Forgotten w o → HoldNone o entries
  edited_free command x entries given_up m edit o f =
      all_free o entries (λ e k. either (edit.come e k) (λ was i. own_free x m o f (references_of_member x.entries e o was i))
      (λ new. hand_free command e new.1 new.2 o f))

  edited_given : (command : Command) (x : Object) (entries : List Entry) (given_up : List ℕ) → Includes w.objects x → IsEdit w command x entries given_up → AreGiven given_up
  edited_given command x entries given_up m edit o f k = either edit.given (λ none. subst (λ os. Includes os o) none k)
      (λ some. own_free x m o f (references_of_member x.entries some.0 o some.1 (subst (λ os. Includes os o) some.2 k)))

  pub shape_mild : (command : Command) (e : Effect) → Shape w command e → IsMild e
  shape_mild command e (Binds name v own hand) = names_mild (slice_set w.names name v) w.numbers (given_up_by w name) (λ o f. bound_free w.names name o v
      (bound_known command v hand o f) f.unheld.names) (given_name name)
  shape_mild command e (Makes name kind class entries referent own parts) = makes_mild name kind class entries referent
      (λ o f. all_free o entries (λ e m. let i = parts.items e m in hand_free command e i.0 i.1 o f)) (referent_found command kind referent parts.refers)
      (λ r i. (parts.refers r i).0) (λ e. (parts.callbacks e).1)
  shape_mild command e (Edits wants x entries given h mutable edit) = sets_mild x entries given h.member (mutable_code x mutable)
      (object_apart command (λ y. true) x h) (edited_free command x entries given h.member edit) (edited_given command x entries given h.member edit)
  shape_mild command e (Puts x key v h mutable hand_key hand room) = puts_mild x key v h.member (mutable_code x mutable)
      (object_apart command (λ y. is_dict y || is_instance y) x h) (hand_known command key hand_key) (hand_known command v hand)
  shape_mild command e (Sets numbers own keeps) = numbers_mild numbers
  shape_mild command e (Freezes is) = places_mild frozen _ refl frozen_condemned frozen_place
  shape_mild command e (Unfreezes is) = places_mild unfrozen _ refl unfrozen_condemned unfrozen_place
  shape_mild command e (StartsFrame f h) = object_apart command is_function f h
  shape_mild command e (StartsCollection g low) = tt
  shape_mild command e Ends = tt
  shape_mild command e (AsksWhy x h calm) = tt
  shape_mild command e shape = numbers_mild w.numbers
