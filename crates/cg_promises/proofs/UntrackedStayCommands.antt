-- Commands: an untracked dictionary that gets a value that may be tracked becomes tracked, so untracked objects stay slack.
use Rattle.std.proofs.Common.{◌≡◌, refl, sym, ◌∙◌, ap, subst, ◌≢◌, ℕ, Bool, true, false, not, ◌&&◌, inl, inr, ◌⊎◌, List, [], ◌∷◌, ◌++◌, Option, Some, None, arith}
use Rattle.std.specs.Prelude.{◌==◌, ◌||◌, if◌then◌else◌, option_and_then, option_to_list}
use Rattle.std.proofs.lemmas.Bool.{eqb-true, eq-eqb, not-false}
use Rattle.cg_value.specs.declared.Val.{Val}
use Rattle.cg_value.specs.declared.Entry.{Entry}
use Rattle.cg_value.specs.declared.Place.{Place}
use Rattle.cg_value.specs.declared.Place.TheVariants.{Untracked, Gen, Frozen}
use Rattle.cg_value.specs.declared.KindCode.{KindCode}
use Rattle.cg_value.specs.declared.KindCode.TheVariants.{List as ListKind, Tuple, Dict, Inst, Func, Weak}
use Rattle.cg_script.specs.declared.Command.{Command}
use Rattle.cg_graph.specs.Member.{Includes, includes}
use Rattle.cg_graph.specs.Value.{put, reference_in, references}
use Rattle.cg_graph.specs.Object.{Object, change, first_place, is_tracked, is_tuple, may_be_tracked, object_at, same_place, serials, with_entries, with_place}
use Rattle.cg_graph.proofs.Members.{either, cases_of, Includes-append_left, Includes-append_right, Includes-append_cases, Includes-map_cases, Includes-of, includes-of, or_left, or_right}
use Rattle.cg_machine.specs.World.{World}
use Rattle.cg_machine.specs.Operands.{is_dict, object_of}
use Rattle.cg_machine.specs.Effects.{Changes, Effect, frozen, may_track, replaced, tracked_by, unfrozen, with_new}
use Rattle.cg_laws.proofs.CommandRefs.{option_held, put_free}
use Rattle.cg_laws.proofs.Unreferred.{lives_within}
use Rattle.cg_laws.proofs.Lookups.{at_member, same_object}
use Rattle.cg_laws.proofs.Advances.{fewer_references}
use Rattle.cg_represents.proofs.Serials.{Rises}
use Rattle.cg_represents.proofs.Shapes.{IsMutable, Shape, Makes, Edits, Puts, Freezes, Unfreezes, StartsFrame, StartsCollection, Ends, AsksWhy}
use Rattle.cg_represents.proofs.Places.{place_is}
use Rattle.cg_promises.proofs.UntrackedStay.{Excused, Fine, StaysOrLoses, IsLoose, IsSlackOne, IsSlackWorld, Slack, Still, loose_later, map_still, moves_slack, test_still}
use Rattle.cg_promises.proofs.UntrackedStayStart.{may_not}

-- what a value refers to
option_holds : (m : Option ℕ) (o : ℕ) → Includes (option_to_list m) o → m ≡ Some o
option_holds None o k = absurd k
option_holds (Some n) o (inl e) = ap (λ q. Some q) e
option_holds (Some n) o (inr k) = absurd k

from_free : (xs ys : List ℕ) (o : ℕ) → (¬ Includes xs o → ¬ Includes ys o) → Includes ys o → Includes xs o
from_free xs ys o h m = either (cases_of (includes xs o)) (λ t. Includes-of xs o t) (λ f. absurd (h (λ k. let no : true ≡ false = sym (includes-of xs o k) ∙ f in cc) m))

-- a dictionary holds its old entries, the key and the value
put_from : (entries : List Entry) (key v : Val) (o : ℕ) → Includes (references (put entries key v)) o → Includes (references entries) o ⊎ ((reference_in key ≡ Some o) ⊎ (reference_in v ≡ Some o))
put_from entries key v o m =
    either (Includes-append_cases (references entries) values_held o (from_free (references entries ++ values_held) (references (put entries key v)) o (λ none. put_free entries key v o
    (λ k. none (Includes-append_left (references entries) values_held o k))
    (λ e. none (Includes-append_right (references entries) values_held o (Includes-append_left (option_to_list (reference_in key))
    (option_to_list (reference_in v)) o (option_held (reference_in key) o e))))
    (λ e. none (Includes-append_right (references entries) values_held o (Includes-append_right (option_to_list (reference_in key))
    (option_to_list (reference_in v)) o (option_held (reference_in v) o e))))) m))
    (λ k. inl k) (λ k. inr (either (Includes-append_cases (option_to_list (reference_in key)) (option_to_list (reference_in v)) o k)
    (λ i. inl (option_holds (reference_in key) o i)) (λ i. inr (option_holds (reference_in v) o i))))
  where
    values_held : List ℕ
    values_held = option_to_list (reference_in key) ++ option_to_list (reference_in v)

-- kinds that are neither tuples nor dictionaries
abbrev IsOther : Object → Type 0
IsOther x = (¬ (is_tuple x ≡ true)) × (¬ (is_dict x ≡ true))

-- a changed object is a dictionary or neither, never a tuple
mutable_other : (x : Object) → IsMutable x.code → IsOther x ⊎ (x.code ≢ ListKind)
mutable_other x m = go x.code m
  where
    go : (c : KindCode) → IsMutable c → ((¬ (elim c [ ListKind ↦ false | Tuple ↦ true | Dict ↦ false | Inst ↦ false | Func ↦ false | Weak ↦ false ] ≡ true))
        × (¬ (elim c [ Dict ↦ true | _ ↦ false ] ≡ true))) ⊎ (c ≢ ListKind)
    go ListKind k = inl (λ e. let no : false ≡ true = e in cc, λ e. let no : false ≡ true = e in cc)
    go Dict k = inr (λ e. cc)
    go Inst k = inr (λ e. cc)
    go c k = absurd k

mutable_no_tuple : (x : Object) → IsMutable x.code → ¬ (is_tuple x ≡ true)
mutable_no_tuple x m = go x.code m
  where
    go : (c : KindCode) → IsMutable c → ¬ (elim c [ ListKind ↦ false | Tuple ↦ true | Dict ↦ false | Inst ↦ false | Func ↦ false | Weak ↦ false ] ≡ true)
    go ListKind k e = let no : false ≡ true = e in cc
    go Dict k e = let no : false ≡ true = e in cc
    go Inst k e = let no : false ≡ true = e in cc
    go c k e = absurd k

-- only a new dictionary is untracked
first_dict : (kind : KindCode) → first_place kind ≡ Untracked → kind ≡ Dict
first_dict Dict e = refl
first_dict k e = absurd (let no : Gen 0 ≡ Untracked = e in cc)

pub dict_no_tuple : (x : Object) → is_dict x ≡ true → ¬ (is_tuple x ≡ true)
dict_no_tuple x t = go x.code t
  where
    go : (c : KindCode) → (elim c [ Dict ↦ true | _ ↦ false ]) ≡ true → ¬ ((elim c [ ListKind ↦ false | Tuple ↦ true | Dict ↦ false | Inst ↦ false | Func ↦ false | Weak ↦ false ]) ≡ true)
    go Tuple e k = let no : false ≡ true = e in cc
    go kind e k = let no : false ≡ true = k in cc

frozen_untracked : (p : Place) → frozen p ≡ Untracked → p ≡ Untracked
frozen_untracked (Gen i) e = absurd (let no : Frozen ≡ Untracked = e in cc)
frozen_untracked p e = e

unfrozen_untracked : (p : Place) → unfrozen p ≡ Untracked → p ≡ Untracked
unfrozen_untracked Frozen e = absurd (let no : Gen 2 ≡ Untracked = e in cc)
unfrozen_untracked p e = e

-- how a command leaves the objects
module _ (w : World) (rises : Rises 1 w.next_serial w.objects) (live : (x : Object) → Includes w.objects x → (o : ℕ) → Includes (references x.entries) o
    → Includes (serials w.objects) o) (h : IsSlackWorld w) where
  abbrev pub Slacks : Effect → Type 0
  Slacks (Changes wants_memory lines given_up after) = Slack after.next_serial after.objects w.stack
  Slacks effect = Unit {0}

  moved : (after : List Object) → Still (Fine w.stack after) w.objects after → Slack w.next_serial after w.stack
  moved after still = moves_slack (Fine w.stack after) w.next_serial w.objects after w.stack w.stack still (λ n k. k) (λ n e. inl e) h.handled h

  one : (x z : Object) → Includes w.objects x → Includes w.objects z → (z.serial == x.serial) ≡ true → x ≡ z
  one x z m k t = sym (same_object 1 w.next_serial w.objects z x rises k m (eqb-true z.serial x.serial t))

  -- an untracked object that is neither
  excused : (x : Object) → Includes w.objects x → IsOther x → x.place ≡ Untracked → Excused w.stack x.serial
  excused x m other u = either (h.slack x m u) (λ e. e) (λ k. absurd (either k.0 other.0 other.1))

  other_loses : (x y : Object) (hard : ℕ → Type 0) → y.place ≡ x.place → (x.place ≡ Untracked → hard y.serial) → hard y.serial
      ⊎ (y.place ≡ Untracked → (x.place ≡ Untracked) × ((o : ℕ) → Includes (references y.entries) o → Includes (references x.entries) o))
  other_loses x y hard same k = either (cases_of (same_place x.place Untracked)) (λ t. inl (k (place_is x.place Untracked t)))
      (λ f. inr (λ u. absurd (let at : same_place x.place Untracked ≡ true = ap (λ p. same_place p Untracked) (sym same ∙ u) in let no : true ≡ false = sym at ∙ f in cc)))

  other_slack : (x : Object) (es : List Entry) → Includes w.objects x → IsOther x → Slack w.next_serial (change (with_entries es) x.serial w.objects) w.stack
  other_slack x es m other = moved after (test_still (Fine w.stack after) (with_entries es) (λ z. z.serial == x.serial) w.objects (λ z k t. record {
    stays = record { serial = refl; code = refl; untracked = λ a u. u };
    loses = other_loses z (with_entries es z) (Fine w.stack after) refl (λ u. inl (excused z k (subst IsOther (one x z m k t) other) u));
  }))
    where
      after : List Object
      after = change (with_entries es) x.serial w.objects

  fewer_slack : (x : Object) (es : List Entry) → Includes w.objects x → ((o : ℕ) → Includes (references es) o → Includes (references x.entries) o)
      → Slack w.next_serial (change (with_entries es) x.serial w.objects) w.stack
  fewer_slack x es m fewer = moved after (test_still (Fine w.stack after) (with_entries es) (λ z. z.serial == x.serial) w.objects (λ z k t. record {
    stays = record { serial = refl; code = refl; untracked = λ a u. u };
    loses = inr (λ u. (u, λ o i. subst (λ (q : Object). Includes (references q.entries) o) (one x z m k t) (fewer o i)));
  }))
    where
      after : List Object
      after = change (with_entries es) x.serial w.objects

  places_slack : (f : Place → Place) → f Untracked ≡ Untracked → ((p : Place) → f p ≡ Untracked → p ≡ Untracked) → Slack w.next_serial (replaced f w) w.stack
  places_slack f untracked back = moved (replaced f w) (map_still (Fine w.stack (replaced f w)) (λ x. with_place (f x.place) x) w.objects (λ x m. record {
    stays = record { serial = refl; code = refl; untracked = λ a u. ap f u ∙ untracked };
    loses = inr (λ u. (back x.place u, λ o i. i));
  }))

  -- a value that may not be tracked is no object, or an untracked tuple
  loose_value : (v : Val) (o : ℕ) → may_track w v ≡ false → reference_in v ≡ Some o → IsLoose w.objects o
  loose_value v o e is z m s =
      let at : object_of w v ≡ Some z = ap (option_and_then (object_at w.objects)) is ∙ subst (λ n. object_at w.objects n ≡ Some z) s (at_member 1 w.next_serial w.objects z rises m) in
      let no : may_be_tracked z ≡ false = sym (ap (λ (q : Option Object). elim q [ None ↦ false | Some x ↦ may_be_tracked x ]) at) ∙ e in
      let kind = may_not (is_tuple z) (is_tracked z) no in
      (kind.0, place_is z.place Untracked (not-false (same_place z.place Untracked) kind.1))

  module _ (x : Object) (key v : Val) (m : Includes w.objects x) (no_tuple : ¬ (is_tuple x ≡ true)) where
    abbrev put_in : Object → Object
    put_in y = tracked_by w key v (with_entries (put x.entries key v) y)

    abbrev after_put : List Object
    after_put = change put_in x.serial w.objects

    kept : (b : Bool) (y : Object) → ((if b then with_place (Gen 0) y else y).serial ≡ y.serial) × ((if b then with_place (Gen 0) y else y).code ≡ y.code)
        × ((if b then with_place (Gen 0) y else y).entries ≡ y.entries)
    kept true y = (refl, refl, refl)
    kept false y = (refl, refl, refl)

    abbrev becomes : Object → Bool
    becomes y = is_dict y && not (is_tracked y) && (may_track w key || may_track w v)

    not_here : (z : Object) → Includes w.objects z → (z.serial == x.serial) ≡ true → ¬ (is_tuple z ≡ true)
    not_here z k t a = no_tuple (ap is_tuple (one x z m k t) ∙ a)

    -- no restriction
    abbrev Always : ℕ → Type 0
    Always n = Unit {0}

    roughly : Still Always w.objects after_put
    roughly = test_still Always put_in (λ z. z.serial == x.serial) w.objects (λ z k t. record {
      stays = record {
        serial = (kept (becomes z) (with_entries (put x.entries key v) z)).0;
        code = (kept (becomes z) (with_entries (put x.entries key v) z)).1;
        untracked = λ a u. absurd (not_here z k t a);
      };
      loses = inl tt;
    })

    -- an untracked dictionary that stays so
    slack_put : (z : Object) → Includes w.objects z → x ≡ z → z.place ≡ Untracked → becomes z ≡ false → IsSlackOne w.objects z → IsSlackOne after_put (with_entries (put x.entries key v) z)
    slack_put z k same u e slack = (slack.0, λ o r. loose_later Always w.objects after_put o roughly (loose_ref o (put_from x.entries key v o r)))
      where
        dict : is_dict z ≡ true
        dict = either slack.0 (λ t. absurd (no_tuple (ap is_tuple same ∙ t))) (λ d. d)

        neither : (may_track w key || may_track w v) ≡ false
        neither = either (cases_of (may_track w key || may_track w v))
            (λ t. absurd (let all : becomes z ≡ true = ap (λ b. b && not (is_tracked z) && (may_track w key || may_track w v)) dict
            ∙ ap (λ p. true && not (not (same_place p Untracked)) && (may_track w key || may_track w v)) u ∙ t in let no : true ≡ false = sym all ∙ e
            in cc)) (λ f. f)

        first_no : may_track w key ≡ false
        first_no = either (cases_of (may_track w key)) (λ t. absurd (let no : true ≡ false = sym (or_left (may_track w key) (may_track w v) t) ∙ neither in cc)) (λ f. f)

        second_no : may_track w v ≡ false
        second_no = either (cases_of (may_track w v)) (λ t. absurd (let no : true ≡ false = sym (or_right (may_track w key) (may_track w v) t) ∙ neither in cc)) (λ f. f)

        loose_ref : (o : ℕ) → Includes (references x.entries) o ⊎ ((reference_in key ≡ Some o) ⊎ (reference_in v ≡ Some o)) → IsLoose w.objects o
        loose_ref o c = either c (λ i. slack.1 o (subst (λ (q : Object). Includes (references q.entries) o) same i))
            (λ d. either d (λ i. loose_value key o first_no i) (λ i. loose_value v o second_no i))

    put_loses : (z : Object) → Includes w.objects z → x ≡ z → (b : Bool) → becomes z ≡ b → (if b then with_place (Gen 0) (with_entries (put x.entries key v) z)
        else with_entries (put x.entries key v) z) ≡ put_in z → StaysOrLoses (Fine w.stack after_put) z (if b
        then with_place (Gen 0) (with_entries (put x.entries key v) z) else with_entries (put x.entries key v) z)
    put_loses z k same true e i = record {
      stays = record { serial = refl; code = refl; untracked = λ a u. absurd (no_tuple (ap is_tuple same ∙ a)) };
      loses = inr (λ u. absurd (let no : Gen 0 ≡ Untracked = u in cc));
    }
    put_loses z k same false e i = record {
      stays = record { serial = refl; code = refl; untracked = λ a u. u };
      loses = other_loses z (with_entries (put x.entries key v) z) (Fine w.stack after_put) refl (λ u. either (h.slack z k u) (λ f. inl f)
          (λ s. inr (λ y n q r. subst (IsSlackOne after_put) (is y n q) (slack_put z k same u e s))));
    }
      where
        is : (y : Object) → Includes after_put y → y.serial ≡ z.serial → with_entries (put x.entries key v) z ≡ y
        is y n q = let a = Includes-map_cases (λ q. if q.serial == x.serial then put_in q else q) w.objects y n in there a.0 (a.0.serial == x.serial) refl a.1 a.2
          where
            there : (a : Object) (b : Bool) → (a.serial == x.serial) ≡ b → Includes w.objects a → (if b then put_in a else a) ≡ y → with_entries (put x.entries key v) z ≡ y
            there a true t j r = i ∙ ap put_in (sym same ∙ one x a m j t) ∙ r
            there a false t j r = absurd (let eq : a.serial ≡ x.serial = ap (λ (p : Object). p.serial) r ∙ q ∙ ap (λ (p : Object). p.serial) (sym same)
                in let no : true ≡ false = sym (ap (λ (p : Object). p.serial == x.serial) (same_object 1 w.next_serial w.objects a x rises j m eq)
                ∙ self x.serial) ∙ t in cc)
              where
                self : (n : ℕ) → (n == n) ≡ true
                self n = eq-eqb n n refl

    put_slack : Slack w.next_serial after_put w.stack
    put_slack = moved after_put (test_still (Fine w.stack after_put) put_in (λ z. z.serial == x.serial) w.objects (λ z k t. put_loses z k (one x z m k t) (becomes z) refl refl))

  made_slack : (kind : KindCode) (class : Option ℕ) (entries : List Entry) (referent : Option ℕ) → (first_place kind ≡ Untracked → (kind ≡ Dict)
      × (entries ≡ [])) → IsSlackWorld (with_new w kind class entries referent)
  made_slack kind class entries referent bare = record {
    slack = λ y m u. either (Includes-append_cases w.objects (fresh ∷ []) y m) (λ k. either (h.slack y k u) (λ e. inl e) (λ s. inr (s.0, λ o r. loose_on o (s.1 o r) (live y k o r))))
        (λ k. inr (either k (λ e. new y e u) (λ no. absurd no)));
    handled = λ c m o i. let k = h.handled c m o i in (
      omega (arith, k.0),
      λ z j e. either (Includes-append_cases w.objects (fresh ∷ []) z j) (λ l. k.1 z l e)
          (λ l. either l (λ f. absurd (let low = k.0 in let same : w.next_serial ≡ o = ap (λ (q : Object). q.serial) f ∙ e in omega (arith, low, same)))
          (λ no. absurd no)),
    );
  }
    where
      fresh : Object
      fresh = record { serial = w.next_serial; code = kind; class = class; entries = entries; place = first_place kind; finalized = false; referent = referent }

      loose_on : (o : ℕ) → IsLoose w.objects o → Includes (serials w.objects) o → IsLoose (w.objects ++ fresh ∷ []) o
      loose_on o loose lives z j e = either (Includes-append_cases w.objects (fresh ∷ []) z j) (λ l. loose z l e)
          (λ l. either l (λ f. absurd (let low = (lives_within 1 w.next_serial w.objects o rises lives).1 in let same : w.next_serial
          ≡ o = ap (λ (q : Object). q.serial) f ∙ e in omega (arith, low, same))) (λ no. absurd no))

      new_one : first_place kind ≡ Untracked → IsSlackOne (w.objects ++ fresh ∷ []) fresh
      new_one u = let k = bare u in (inr (ap (λ (c : KindCode). elim c [ Dict ↦ true | _ ↦ false ]) k.0), λ o r. absurd (subst (λ es. Includes (references es) o) k.1 r))

      new : (y : Object) → fresh ≡ y → y.place ≡ Untracked → IsSlackOne (w.objects ++ fresh ∷ []) y
      new y e u = subst (IsSlackOne (w.objects ++ fresh ∷ [])) e (new_one (ap (λ (q : Object). q.place) e ∙ u))

  pub shape_slack : (command : Command) (e : Effect) → Shape w command e → Slacks e
  shape_slack command e (Makes name kind class entries referent own parts) = made_slack kind class entries referent (λ u. let d = first_dict kind u in (d, parts.bare d))
  shape_slack command e (Edits wants x entries given k mutable edit) = either (mutable_other x mutable) (λ other. other_slack x entries k.member other) (λ no. fewer_slack x entries k.member (fewer_references entries x.entries (edit.adds no)))
  shape_slack command e (Puts x key v k mutable hand_key hand room) = put_slack x key v k.member (mutable_no_tuple x mutable)
  shape_slack command e (Freezes is) = places_slack frozen refl frozen_untracked
  shape_slack command e (Unfreezes is) = places_slack unfrozen refl unfrozen_untracked
  shape_slack command e (StartsFrame f k) = tt
  shape_slack command e (StartsCollection g low) = tt
  shape_slack command e Ends = tt
  shape_slack command e (AsksWhy x k calm) = tt
  shape_slack command e shape = h
