-- Commands: what a name or an entry held is still held, or is given up, and a new object is bound to a name.
use Rattle.std.proofs.Common.{◌≡◌, ◌≢◌, refl, sym, ◌∙◌, ap, subst, ℕ, zero, suc, ◌<◌, Bool, true, false, not, ◌&&◌, inl, inr, ◌⊎◌, List, [], ◌∷◌, ◌++◌, length, Option, Some, arith}
use Rattle.std.specs.Prelude.{◌==◌, ◌||◌, if◌then◌else◌, option_and_then, option_to_list, slice_get, slice_set}
use Rattle.std.proofs.lemmas.Bool.{eqb-true}
use Rattle.cg_value.specs.declared.Val.{Val}
use Rattle.cg_value.specs.declared.Val.TheVariants.{None as Nothing, Ref}
use Rattle.cg_value.specs.declared.Entry.{Entry}
use Rattle.cg_value.specs.declared.Place.{Place}
use Rattle.cg_value.specs.declared.Place.TheVariants.{Gen}
use Rattle.cg_value.specs.declared.KindCode.{KindCode}
use Rattle.cg_value.specs.declared.KindCode.TheVariants.{List as ListKind, Tuple, Dict, Inst, Weak}
use Rattle.cg_script.specs.declared.Command.{Command}
use Rattle.cg_script.specs.Texts.{command_texts, operand_texts}
use Rattle.cg_graph.specs.Member.{Includes}
use Rattle.cg_graph.specs.Value.{entry_references, put, reference_in, references, references_of_value, value_at}
use Rattle.cg_graph.specs.Object.{Object, change, first_place, is_tracked, serials, with_entries, with_place}
use Rattle.cg_graph.specs.Holdings.{name_holdings}
use Rattle.cg_graph.proofs.Members.{either, Includes-append_left, Includes-append_right, Includes-append_cases, Includes-map, Includes-map_cases}
use Rattle.cg_machine.specs.World.{World, Numbers, with_change}
use Rattle.cg_machine.specs.Operands.{is_dict}
use Rattle.cg_machine.specs.Effects.{Changes, Effect, bound, frozen, given_up_by, may_track, replaced, tracked_by, unfrozen, with_new}
use Rattle.cg_laws.proofs.Lookups.{same_object}
use Rattle.cg_represents.proofs.Serials.{Rises}
use Rattle.cg_represents.proofs.Moves.{AtMostOne, StaysOrMoves, put_goes}
use Rattle.cg_represents.proofs.Shapes.{IsAtHand, IsMutable, Shape, Binds, Makes, Edits, Puts, Freezes, Unfreezes, StartsFrame, StartsCollection, Ends, AsksWhy}
use Rattle.cg_promises.proofs.FinalizerOnce.{Marks, map_old, old_lives}
use Rattle.cg_promises.proofs.HoldersMove.{AreSingle, IsSingle, Keeps, keeps_same, test_keeps}

bound_keeps : (names : List (Option Val)) (x : ℕ) (v : Option Val) (n : ℕ) → Includes (name_holdings names) n → Includes (name_holdings (slice_set names x v)) n
    ⊎ Includes (references_of_value (option_and_then (λ v. v) (slice_get names x))) n
bound_keeps [] x v n m = absurd m
bound_keeps (p ∷ names) zero v n m = either (Includes-append_cases (references_of_value p) (name_holdings names) n m) (λ k. inr k)
    (λ k. inl (Includes-append_right (references_of_value v) (name_holdings names) n k))
bound_keeps (p ∷ names) (suc x) v n m = either (Includes-append_cases (references_of_value p) (name_holdings names) n m)
    (λ k. inl (Includes-append_left (references_of_value p) (name_holdings (slice_set names x v)) n k))
    (λ k. either (bound_keeps names x v n k) (λ i. inl (Includes-append_right (references_of_value p) (name_holdings (slice_set names x v)) n i)) (λ i. inr i))

bound_count : (names : List (Option Val)) (x : ℕ) (v : Option Val) → length (slice_set names x v) ≡ length names
bound_count (p ∷ names) (suc x) v = ap suc (bound_count names x v)
bound_count xs x v = refl

bound_holds : (names : List (Option Val)) (x n : ℕ) → x < length names → Includes (name_holdings (slice_set names x (Some (Ref n)))) n
bound_holds [] x n h = absurd (omega (arith, h))
bound_holds (p ∷ names) zero n h = inl refl
bound_holds (p ∷ names) (suc x) n h = Includes-append_right (references_of_value p) (name_holdings (slice_set names x (Some (Ref n)))) n (bound_holds names x n (omega (arith, h)))

-- what a command does to a world, with the references it gives up
pub record Shifts (w : World) (given : List ℕ) (after : World) : Type 0 where
  pub names : (n : ℕ) → Includes (name_holdings w.names) n → Includes (name_holdings after.names) n ⊎ Includes given n
  pub entries : (x : Object) → Includes w.objects x → (n : ℕ) → Includes (references x.entries) n → ((y : Object) × Includes after.objects y × Includes (references y.entries) n) ⊎ Includes given n
  pub lives : (n : ℕ) → Includes (serials after.objects) n → Includes (serials w.objects) n ⊎ Includes (name_holdings after.names) n
  pub single : AreSingle w.objects → AreSingle after.objects
  pub count : length after.names ≡ length w.names

abbrev pub Shifting : World → Effect → Type 0
Shifting w (Changes wants_memory lines given_up after) = Shifts w given_up after
Shifting w effect = Unit {0}

-- a changed object is no weak reference and no tuple
abbrev pub IsApart : KindCode → Type 0
IsApart code = (code ≢ Weak) × (code ≢ Tuple)

mutable_apart : (code : KindCode) → IsMutable code → IsApart code
mutable_apart ListKind m = (λ e. cc, λ e. cc)
mutable_apart Dict m = (λ e. cc, λ e. cc)
mutable_apart Inst m = (λ e. cc, λ e. cc)
mutable_apart code m = absurd m

module _ (w : World) (rises : Rises 1 w.next_serial w.objects) where
  shifted : (after : World) (given : List ℕ) → Keeps w.objects after.objects given → after.names ≡ w.names → Shifts w given after
  shifted after given keeps e = record {
    names = λ n m. inl (subst (λ ns. Includes (name_holdings ns) n) (sym e) m);
    entries = keeps.entries;
    lives = λ n m. inl (old_lives w.objects after.objects keeps.old n m);
    single = keeps.single;
    count = ap length e;
  }

  pub binds_shift : (name : ℕ) (v : Option Val) → Shifts w (given_up_by w name) (bound w name v)
  binds_shift name v = record {
    names = λ n m. bound_keeps w.names name v n m;
    entries = λ x m n k. inl (x, m, k);
    lives = λ n m. inl m;
    single = λ s. s;
    count = bound_count w.names name v;
  }

  -- the one object of a serial
  one_keeps : (f : Object → Object) (x : Object) (given : List ℕ) → ((z : Object) → Marks z (f z)) → Includes w.objects x → IsApart x.code
      → ((z : Object) → (f z).code ≡ z.code) → ((n : ℕ) → StaysOrMoves x.entries (f x).entries given n) → Keeps w.objects (change f x.serial w.objects) given
  one_keeps f x given marks m apart code goes = test_keeps f (λ z. z.serial == x.serial) w.objects given marks
      (λ z k t n i. let same : x ≡ z = is_x z k t in subst (λ (y : Object). Includes (references y.entries) n → Includes (references (f y).entries) n ⊎ Includes given n) same (goes n) i)
      (λ z k t s. (λ c. absurd (apart.0 (ap (λ (y : Object). y.code) (is_x z k t) ∙ sym (code z) ∙ c)), λ c. absurd (apart.1 (ap (λ (y : Object). y.code) (is_x z k t) ∙ sym (code z) ∙ c))))
    where
      is_x : (z : Object) → Includes w.objects z → (z.serial == x.serial) ≡ true → x ≡ z
      is_x z k t = sym (same_object 1 w.next_serial w.objects z x rises k m (eqb-true z.serial x.serial t))

  sets_shift : (x : Object) (entries : List Entry) (given : List ℕ) → Includes w.objects x → IsApart x.code → ((n : ℕ) → StaysOrMoves x.entries entries given n)
      → Shifts w given (with_change (with_entries entries) x.serial w)
  sets_shift x entries given m apart goes = shifted (with_change (with_entries entries) x.serial w) given (one_keeps (with_entries entries) x given
      (λ z. record { serial = refl; code = refl; class = refl; finalized = λ e. e }) m apart (λ z. refl) goes) refl

  places_shift : (f : Place → Place) (numbers : Numbers) → Shifts w [] (record w { objects = replaced f w; numbers = numbers })
  places_shift f numbers = shifted (record w { objects = replaced f w; numbers = numbers }) [] (record {
    old = map_old (λ x. with_place (f x.place) x) (λ x. record { serial = refl; code = refl; class = refl; finalized = λ e. e }) w.objects;
    entries = λ x m n i. inl (with_place (f x.place) x, Includes-map (λ x. with_place (f x.place) x) w.objects x m, i);
    single = λ s y m. let x = Includes-map_cases (λ x. with_place (f x.place) x) w.objects y m in subst IsSingle x.2 (s x.0 x.1);
  }) refl

  put_shifts : (x : Object) (key v : Val) → Includes w.objects x → IsApart x.code → Shifts w (references_of_value (value_at x.entries key))
      (with_change (λ y. tracked_by w key v (with_entries (put x.entries key v) y)) x.serial w)
  put_shifts x key v m apart = shifted (with_change put_in x.serial w) (references_of_value (value_at x.entries key))
      (one_keeps put_in x (references_of_value (value_at x.entries key)) (λ y. let t = tracked (test y) (with_entries (put x.entries key v) y)
      in record { serial = t.0; code = t.2; class = t.4; finalized = λ e. t.1 ∙ e }) m apart
      (λ y. (tracked (test y) (with_entries (put x.entries key v) y)).2)
      (λ n k. subst (λ es. Includes (references es) n ⊎ Includes (references_of_value (value_at x.entries key)) n)
      (sym (tracked (test x) (with_entries (put x.entries key v) x)).3) (put_goes x.entries key v n k))) refl
    where
      put_in : Object → Object
      put_in y = tracked_by w key v (with_entries (put x.entries key v) y)

      test : Object → Bool
      test y = is_dict y && not (is_tracked y) && (may_track w key || may_track w v)

      tracked : (b : Bool) (y : Object) → ((if b then with_place (Gen 0) y else y).serial ≡ y.serial) × ((if b then with_place (Gen 0) y else y).finalized
          ≡ y.finalized) × ((if b then with_place (Gen 0) y else y).code ≡ y.code) × ((if b then with_place (Gen 0) y else y).entries ≡ y.entries)
          × ((if b then with_place (Gen 0) y else y).class ≡ y.class)
      tracked true y = (refl, refl, refl, refl, refl)
      tracked false y = (refl, refl, refl, refl, refl)

  made_shifts : (name : ℕ) (kind : KindCode) (class : Option ℕ) (entries : List Entry) (referent : Option ℕ) → name < length w.names
      → (kind ≡ Weak → AtMostOne entries) × (kind ≡ Tuple → (n : ℕ) → Includes (references entries) n → n < w.next_serial) → Shifts w (given_up_by w name)
      (bound (with_new w kind class entries referent) name (Some (Ref w.next_serial)))
  made_shifts name kind class entries referent fits one = record {
    names = λ n m. bound_keeps w.names name (Some (Ref w.next_serial)) n m;
    entries = λ x m n k. inl (x, Includes-append_left w.objects (fresh ∷ []) x m, k);
    lives = λ n m. let y = Includes-map_cases (λ (z : Object). z.serial) (w.objects ++ fresh ∷ []) n m in
        either (Includes-append_cases w.objects (fresh ∷ []) y.0 y.1) (λ k. inl (subst (Includes (serials w.objects)) y.2 (Includes-map (λ (z : Object). z.serial) w.objects y.0 k)))
        (λ k. either k (λ e. inr (subst (Includes (name_holdings (slice_set w.names name (Some (Ref w.next_serial))))) (ap (λ (z : Object). z.serial) e ∙ y.2)
        (bound_holds w.names name w.next_serial fits))) (λ no. absurd no));
    single = λ s y m. either (Includes-append_cases w.objects (fresh ∷ []) y m) (s y) (λ k. either k (λ e. subst IsSingle e one) (λ no. absurd no));
    count = bound_count w.names name (Some (Ref w.next_serial));
  }
    where
      fresh : Object
      fresh = record { serial = w.next_serial; code = kind; class = class; entries = entries; place = first_place kind; finalized = false; referent = referent }

  -- a value at hand refers to the new object
  abbrev pub IsHandMade : Command → Type 0
  IsHandMade command = (v : Val) → IsAtHand w command v → (n : ℕ) → Includes (option_to_list (reference_in v)) n → n < w.next_serial

  items_made : (command : Command) → IsHandMade command → (entries : List Entry) → ((e : Entry) → Includes entries e → (e.key ≡ Nothing)
      × IsAtHand w command e.val) → (n : ℕ) → Includes (references entries) n → n < w.next_serial
  items_made command made [] items n m = absurd m
  items_made command made (e ∷ entries) items n m = either (Includes-append_cases (entry_references e) (references entries) n m)
      (λ k. let i = items e (inl refl) in either (Includes-append_cases (option_to_list (reference_in e.val)) (option_to_list (reference_in e.key)) n k)
      (made e.val i.1 n) (λ q. absurd (subst (λ u. Includes (option_to_list (reference_in u)) n) i.0 q)))
      (items_made command made entries (λ d q. items d (inr q)) n)

  unchanged : (numbers : Numbers) → Shifts w [] (record w { numbers = numbers })
  unchanged numbers = shifted (record w { numbers = numbers }) [] (keeps_same w.objects) refl

  pub shape_shifts : (command : Command) → IsHandMade command → ((t : ℕ) → Includes (command_texts command) t → t < length w.names) → (e : Effect) → Shape w command e → Shifting w e
  shape_shifts command made fits e (Binds name v own hand) = binds_shift name v
  shape_shifts command made fits e (Makes name kind class entries referent own parts) = made_shifts name kind class entries referent
      (fits name (own operand_texts name (inl refl))) (λ e. (parts.callbacks e).0, λ e. items_made command made entries parts.items)
  shape_shifts command made fits e (Edits wants x entries given h mutable edit) = sets_shift x entries given h.member (mutable_apart x.code mutable) edit.keeps
  shape_shifts command made fits e (Puts x key v h mutable hand_key hand room) = put_shifts x key v h.member (mutable_apart x.code mutable)
  shape_shifts command made fits e (Freezes is) = places_shift frozen _
  shape_shifts command made fits e (Unfreezes is) = places_shift unfrozen _
  shape_shifts command made fits e (StartsFrame f h) = tt
  shape_shifts command made fits e (StartsCollection g low) = tt
  shape_shifts command made fits e Ends = tt
  shape_shifts command made fits e (AsksWhy x h calm) = tt
  shape_shifts command made fits e shape = unchanged _
