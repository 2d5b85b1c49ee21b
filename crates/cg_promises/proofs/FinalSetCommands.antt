-- Commands reach no member: no operand refers to one, no object at hand holds one, and no weak reference refers to one.
use Rattle.std.proofs.Common.{◌≡◌, ◌≢◌, refl, sym, ◌∙◌, ap, subst, ℕ, ◌≤◌, Bool, true, false, not, ◌&&◌, inl, inr, List, [], ◌∷◌, Option, Some, None, arith}
use Rattle.std.specs.Prelude.{◌==◌, ◌||◌, if◌then◌else◌, option_map, option_and_then, slice_get, unwrap_or}
use Rattle.std.proofs.lemmas.Bool.{eqb-true}
use Rattle.cg_value.specs.declared.Val.{Val}
use Rattle.cg_value.specs.declared.Val.TheVariants.{None as Nothing, Int, Str, Ref}
use Rattle.cg_value.specs.declared.Entry.{Entry}
use Rattle.cg_value.specs.declared.Place.{Place}
use Rattle.cg_value.specs.declared.Place.TheVariants.{Gen, Frozen, Cand, Legacy}
use Rattle.cg_value.specs.declared.KindCode.{KindCode}
use Rattle.cg_script.specs.declared.Script.{Script}
use Rattle.cg_script.specs.declared.Operand.TheVariants.{None as NoneWord, Int as IntWord, Str as StrWord, Name, SelfLocal, WeakLocal, Cell, Garbage}
use Rattle.cg_script.specs.declared.Command.{Command}
use Rattle.cg_graph.specs.Member.{Includes}
use Rattle.cg_graph.specs.Value.{entry_references, put, reference_in, references_of_value}
use Rattle.cg_graph.specs.Object.{Object, change, entries_of, first_place, is_tracked, object_at, with_entries, with_place}
use Rattle.cg_graph.specs.Holdings.{name_holdings}
use Rattle.cg_graph.proofs.Members.{either, Includes-append_cases, Includes-map_cases}
use Rattle.cg_machine.specs.declared.event.Event.{Event}
use Rattle.cg_machine.specs.declared.event.Event.TheVariants.{Made, Value, RefCount, Tracked as TrackedLine, Finalized as FinalizedLine, Count as CountLine, Gens as GensLine}
use Rattle.cg_machine.specs.declared.event.FrameSort.{FrameSort}
use Rattle.cg_machine.specs.declared.event.FrameSort.TheVariants.{Callback, Call as CallFrame}
use Rattle.cg_machine.specs.World.{World, Activity, Framed, Frame, Numbers, with_change}
use Rattle.cg_machine.specs.Operands.{frame_on, is_dict, self_in, weak_in}
use Rattle.cg_machine.specs.Effects.{Calls, Changes, Effect, bound, frozen, may_track, replaced, tracked_by, unfrozen, with_new}
use Rattle.cg_machine.specs.Weak.{has_weak_references, is_function, is_instance}
use Rattle.cg_laws.specs.Laws.{is_stop, named}
use Rattle.cg_laws.proofs.CommandRefs.{HoldNone, IsNotTo, all_free, bound_free, entry_free, entry_key, entry_val, got_free, name_free, option_free, option_held, put_free}
use Rattle.cg_laws.proofs.Unreferred.{later_refl, still_later}
use Rattle.cg_represents.proofs.Lists.{found_at, each_changed}
use Rattle.cg_laws.proofs.Lookups.{references_of_member}
use Rattle.cg_represents.proofs.Shapes.{IsAtHand, NoneThere, Word, ValueIn, KeyIn, ReferentOf, HasObject, IsEdit, Shape, Binds, Makes, Edits, Puts, Shows, Tells, Stays, Sets, Freezes, Unfreezes, StartsFrame, Inspects}
use Rattle.cg_promises.proofs.FinalSet.{Comes, IsClean, IsLesser, Sealed, TellsStill, none_out, one_still, same_lesser}

-- the places of a collection stay
frozen_legacy : (p : Place) → frozen p ≡ Legacy → p ≡ Legacy
frozen_legacy (Gen i) e = absurd (let no : Frozen ≡ Legacy = e in cc)
frozen_legacy p e = e

unfrozen_legacy : (p : Place) → unfrozen p ≡ Legacy → p ≡ Legacy
unfrozen_legacy Frozen e = absurd (let no : Gen 2 ≡ Legacy = e in cc)
unfrozen_legacy p e = e

frame_member : (stack : List Activity) (f : Frame) → frame_on stack ≡ Some f → Includes stack (Framed f)
frame_member (Framed g ∷ below) f e = let same : g ≡ f = cc in inl (ap (λ (h : Frame). Framed h) same)
frame_member xs f e = absurd (let no : None ≡ Some f = e in cc)

self_subject : (sort : FrameSort) (o s : ℕ) → self_in sort o ≡ Some s → o ≡ s
self_subject Callback o s e = absurd (let no : None ≡ Some s = e in cc)
self_subject CallFrame o s e = absurd (let no : None ≡ Some s = e in cc)
self_subject sort o s e = cc

weak_subject : (sort : FrameSort) (o s : ℕ) → weak_in sort o ≡ Some s → o ≡ s
weak_subject Callback o s e = cc
weak_subject sort o s e = absurd (let no : None ≡ Some s = e in cc)

module _ (script : Script) (members : List ℕ) (w : World) (h : Sealed script members w.objects w.names w.stack w.next_serial) where
  -- a value that refers to no member
  abbrev IsOut : Val → Type 0
  IsOut v = (o : ℕ) → Includes members o → IsNotTo o v

  same_out : (u v : Val) → Some u ≡ Some v → IsOut u → IsOut v
  same_out u v e k = let same : u ≡ v = cc in subst IsOut same k

  none_out_of : (v : Val) → None ≡ Some v → IsOut v
  none_out_of v e = absurd (let no : None ≡ Some v = e in cc)

  plain_out : (u v : Val) → reference_in u ≡ None → Some u ≡ Some v → IsOut v
  plain_out u v none e = same_out u v e (λ o m k. let no : None ≡ Some o = sym none ∙ k in cc)

  -- an object that is no member holds none
  clean : (x : Object) → Includes w.objects x → (¬ Includes members x.serial) → (o : ℕ) → Includes members o → HoldNone o x.entries
  clean x m out o k r = out (h.entries x m o k r)

  entries_clean : (s : ℕ) → (¬ Includes members s) → (o : ℕ) → Includes members o → HoldNone o (entries_of w.objects s)
  entries_clean s out o k = go (object_at w.objects s) refl
    where
      go : (m : Option Object) → object_at w.objects s ≡ m → HoldNone o (unwrap_or (option_map (λ (x : Object). x.entries) m) [])
      go None e = λ n. n
      go (Some x) e = let f = found_at w.objects s x e in clean x f.0 (subst (λ i. ¬ Includes members i) (sym f.1) out) o k

  local_out : (m : Option ℕ) (v : Val) → ((s : ℕ) → m ≡ Some s → ¬ Includes members s) → option_map Ref m ≡ Some v → IsOut v
  local_out None v out e = none_out_of v e
  local_out (Some s) v out e = same_out (Ref s) v e (λ o m k. let same : s ≡ o = cc in out s refl (subst (Includes members) (sym same) m))

  subject_out : (pick : FrameSort → ℕ → Option ℕ) → ((sort : FrameSort) (o s : ℕ) → pick sort o ≡ Some s → o ≡ s) → (m : Option Frame) → frame_on w.stack ≡ m
      → (s : ℕ) → option_and_then (λ (f : Frame). pick f.sort f.subject) m ≡ Some s → ¬ Includes members s
  subject_out pick is None at s e = absurd (let no : None ≡ Some s = e in cc)
  subject_out pick is (Some f) at s e = subst (λ n. ¬ Includes members n) (is f.sort f.subject s e) (h.stack_fits (Framed f) (frame_member w.stack f at)).0

  entry_out : (s i : ℕ) (v : Val) → (¬ Includes members s) → option_map (λ (e : Entry). e.val) (slice_get (entries_of w.objects s) i) ≡ Some v → IsOut v
  entry_out s i v out e = go (slice_get (entries_of w.objects s) i) refl e
    where
      go : (m : Option Entry) → slice_get (entries_of w.objects s) i ≡ m → option_map (λ (e : Entry). e.val) m ≡ Some v → IsOut v
      go None at k = none_out_of v k
      go (Some entry) at k = same_out entry.val v k (λ o m. entry_val entry o (got_free (entries_of w.objects s) i o entry at (entries_clean s out o m)))

  function_out : (g : Option ℕ) (i : ℕ) (v : Val) → ((s : ℕ) → g ≡ Some s → ¬ Includes members s)
      → option_and_then (λ o. option_map (λ (e : Entry). e.val) (slice_get (entries_of w.objects o) i)) g ≡ Some v → IsOut v
  function_out None i v out e = none_out_of v e
  function_out (Some s) i v out e = entry_out s i v (out s refl) e

  cell_out : (m : Option Frame) → frame_on w.stack ≡ m → (i : ℕ) (v : Val)
      → option_and_then (λ (f : Frame). option_and_then (λ o. option_map (λ (e : Entry). e.val) (slice_get (entries_of w.objects o) i)) f.function) m ≡ Some v
      → IsOut v
  cell_out None at i v e = none_out_of v e
  cell_out (Some f) at i v e = function_out f.function i v (h.stack_fits (Framed f) (frame_member w.stack f at)).1 e

  -- a value at hand refers to no member, and an object at hand is none
  hand_out : (command : Command) (v : Val) → IsAtHand w command v → IsOut v
  hand_out command v NoneThere = plain_out Nothing Nothing refl refl
  hand_out command v (Word NoneWord u own e) = plain_out Nothing u refl e
  hand_out command v (Word (IntWord n) u own e) = plain_out (Int n) u refl e
  hand_out command v (Word (StrWord s) u own e) = plain_out (Str s) u refl e
  hand_out command v (Word (Name x) u own e) = λ o m k. name_free w.names x o (h.unnamed o m) (subst (λ n. Includes (references_of_value n) o) (sym e) (option_held (reference_in u) o k))
  hand_out command v (Word SelfLocal u own e) = local_out (option_and_then (λ f. self_in f.sort f.subject) (frame_on w.stack)) u (subject_out self_in self_subject (frame_on w.stack) refl) e
  hand_out command v (Word WeakLocal u own e) = local_out (option_and_then (λ f. weak_in f.sort f.subject) (frame_on w.stack)) u (subject_out weak_in weak_subject (frame_on w.stack) refl) e
  hand_out command v (Word (Cell i) u own e) = cell_out (frame_on w.stack) refl i u e
  hand_out command v (Word Garbage u own e) = same_out (Ref 1) u e (λ o m k. let same : 1 ≡ o = cc in let low = h.above o m in omega (arith, low, same))
  hand_out command v (ValueIn x e m hand k) = λ o i. entry_val e o (λ r. clean x m (λ q. hand_out command (Ref x.serial) hand x.serial q refl) o i (references_of_member x.entries e o k r))
  hand_out command v (KeyIn x e m hand k) = λ o i. entry_key e o (λ r. clean x m (λ q. hand_out command (Ref x.serial) hand x.serial q refl) o i (references_of_member x.entries e o k r))
  hand_out command v (ReferentOf x r m hand e) = λ o i k. h.referents x m o i (e ∙ k)

  object_out : (command : Command) (test : Object → Bool) (x : Object) → HasObject w command test x → ¬ Includes members x.serial
  object_out command test x found k = hand_out command (Ref x.serial) found.hand x.serial k refl

  item_out : (command : Command) (e : Entry) → e.key ≡ Nothing → IsAtHand w command e.val → (o : ℕ) → Includes members o → ¬ Includes (entry_references e) o
  item_out command e key hand o m = entry_free e o (hand_out command e.val hand o m) (λ i. let no : None ≡ Some o = ap reference_in (sym key) ∙ i in cc)

  bound_out : (command : Command) (v : Option Val) → ((u : Val) → v ≡ Some u → IsAtHand w command u) → (o : ℕ) → Includes members o → ¬ Includes (references_of_value v) o
  bound_out command None hand o m = λ k. k
  bound_out command (Some u) hand o m = option_free (reference_in u) o (hand_out command u (hand u refl) o m)

  edited_out : (command : Command) (x : Object) (entries : List Entry) (given_up : List ℕ) → Includes w.objects x → (¬ Includes members x.serial)
      → IsEdit w command x entries given_up → (o : ℕ) → Includes members o → HoldNone o entries
  edited_out command x entries given_up m out edit o i =
      all_free o entries (λ e k. either (edit.come e k) (λ was r. clean x m out o i (references_of_member x.entries e o was r))
      (λ new. item_out command e new.1 new.2 o i))

  pub record Opens (lines : List Event) (after : World) : Type 0 where
    pub next : w.next_serial ≤ after.next_serial
    pub names : (o : ℕ) → Includes members o → ¬ Includes (name_holdings after.names) o
    pub comes : (y : Object) → Includes after.objects y → Comes members w.objects w.next_serial y
    pub told : TellsStill members lines

  abbrev pub DoesOpen : Effect → Type 0
  DoesOpen (Changes wants_memory lines given_up after) = Opens lines after
  DoesOpen (Calls f) = ¬ Includes members f
  DoesOpen effect = Unit {0}

  stays : (y : Object) → Includes w.objects y → Comes members w.objects w.next_serial y
  stays y m = inl (y, m, record { later = later_refl y; finalized = λ e. e; place = λ e. e }, inl (λ n k. k, λ e. e))

  same : (numbers : Numbers) → Opens [] (record w { numbers = numbers })
  same numbers = record { next = omega arith; names = h.unnamed; comes = stays; told = none_out members }

  binds_open : (name : ℕ) (v : Option Val) → ((o : ℕ) → Includes members o → ¬ Includes (references_of_value v) o) → Opens [] (bound w name v)
  binds_open name v out = record { next = omega arith; names = λ o m. bound_free w.names name o v (out o m) (h.unnamed o m); comes = stays; told = none_out members }

  -- the changed object is no member
  one_comes : (f : Object → Object) (s : ℕ) → (¬ Includes members s) → ((z : Object) → IsLesser z (f z)) → ((z : Object) → IsClean members (f z)) → (y : Object)
      → Includes (change f s w.objects) y → Comes members w.objects w.next_serial y
  one_comes f s out lesser free = each_changed (Comes members w.objects w.next_serial) f (λ x. x.serial == s) w.objects
      (λ x k t. inl (x, k, lesser x, inr (subst (λ n. ¬ Includes members n) (sym (eqb-true x.serial s t)) out, free x))) (λ x k t. stays x k)

  sets_open : (s : ℕ) (entries : List Entry) → (¬ Includes members s) → ((o : ℕ) → Includes members o → HoldNone o entries) → Opens [] (with_change (with_entries entries) s w)
  sets_open s entries out free = record {
    next = omega arith;
    names = h.unnamed;
    comes = one_comes (with_entries entries) s out (λ z. same_lesser) (λ z. free);
    told = none_out members;
  }

  places_open : (f : Place → Place) (numbers : Numbers) → ((p : Place) → f p ≡ Legacy → p ≡ Legacy) → f Cand ≡ Cand → Opens [] (record w { objects = replaced f w; numbers = numbers })
  places_open f numbers kept cand = record {
    next = omega arith;
    names = h.unnamed;
    comes = λ y m. let x = Includes-map_cases (λ x. with_place (f x.place) x) w.objects y m in subst (Comes members w.objects w.next_serial) x.2
        (inl (x.0, x.1, record { later = still_later; finalized = λ e. e; place = kept x.0.place }, inl (λ n k. k, λ e. ap f e ∙ cand)));
    told = none_out members;
  }

  put_opens : (x : Object) (key v : Val) → Includes w.objects x → (¬ Includes members x.serial) → IsOut key → IsOut v
      → Opens [] (with_change (λ y. tracked_by w key v (with_entries (put x.entries key v) y)) x.serial w)
  put_opens x key v m out known value_known = record {
    next = omega arith;
    names = h.unnamed;
    comes = one_comes put_in x.serial out (λ z. (tracked (test (with_entries (put x.entries key v) z)) z).0)
        (λ z. (tracked (test (with_entries (put x.entries key v) z)) z).1 (λ o k. put_free x.entries key v o (clean x m out o k) (known o k)
        (value_known o k)));
    told = none_out members;
  }
    where
      put_in : Object → Object
      put_in y = tracked_by w key v (with_entries (put x.entries key v) y)

      test : Object → Bool
      test y = is_dict y && not (is_tracked y) && (may_track w key || may_track w v)

      tracked : (b : Bool) (y : Object) → (let z : Object = if b then with_place (Gen 0) (with_entries (put x.entries key v) y)
          else with_entries (put x.entries key v) y in IsLesser y z × (IsClean members (with_entries (put x.entries key v) y) → IsClean members z))
      tracked true y = (
        record {
          later = still_later;
          finalized = λ e. e;
          place = λ e. absurd (let no : Gen 0 ≡ Legacy = e in cc);
        },
        λ c. c,
      )
      tracked false y = (same_lesser, λ c. c)

  made_opens : (name : ℕ) (kind : KindCode) (class : Option ℕ) (entries : List Entry) (referent : Option ℕ)
      → ((o : ℕ) → Includes members o → HoldNone o entries) → ((o : ℕ) → Includes members o → referent ≢ Some o) → Opens (Made kind w.next_serial ∷ [])
      (bound (with_new w kind class entries referent) name (Some (Ref w.next_serial)))
  made_opens name kind class entries referent free apart = record {
    next = omega arith;
    names = λ o m. bound_free w.names name o (Some (Ref w.next_serial)) (λ k. either k (not_next o m) (λ none. none)) (h.unnamed o m);
    comes = λ y m. either (Includes-append_cases w.objects (fresh ∷ []) y m) (stays y)
        (λ k. either k (λ e. inr (subst (λ (z : Object). (z.serial ≡ w.next_serial) × IsClean members z × ((o : ℕ) → Includes members o → z.referent ≢ Some o))
        e (refl, free, apart))) (λ none. absurd none));
    told = one_still members (Made kind w.next_serial) refl (λ n m k. absurd (either m (not_next n k) (λ none. none)));
  }
    where
      fresh : Object
      fresh = record { serial = w.next_serial; code = kind; class = class; entries = entries; place = first_place kind; finalized = false; referent = referent }

      not_next : (o : ℕ) → Includes members o → w.next_serial ≢ o
      not_next o m e = let low = h.made o m in omega (arith, low, e)

  prints_open : (line : Event) → is_stop line ≡ false → ((n : ℕ) → Includes (named line) n → ¬ Includes members n) → Opens (line ∷ []) w
  prints_open line still out = record { next = omega arith; names = h.unnamed; comes = stays; told = one_still members line still (λ n m k. absurd (out n m k)) }

  pub shape_opens : (command : Command) (e : Effect) → Shape w command e → DoesOpen e
  shape_opens command e (Binds name v own hand) = binds_open name v (bound_out command v hand)
  shape_opens command e (Makes name kind class entries referent own parts) = made_opens name kind class entries referent
      (λ o m. all_free o entries (λ e k. let i = parts.items e k in item_out command e i.0 i.1 o m))
      (λ o m e. let z = (parts.refers o e).1 in object_out command has_weak_references z.0 z.1 (subst (Includes members) (sym z.2) m))
  shape_opens command e (Edits wants x entries given found mutable edit) = let out = object_out command (λ y. true) x found in sets_open x.serial entries out
      (edited_out command x entries given found.member out edit)
  shape_opens command e (Puts x key v found mutable hand_key hand room) = put_opens x key v found.member (object_out command (λ y. is_dict y || is_instance y) x
      found) (hand_out command key hand_key) (hand_out command v hand)
  shape_opens command e (Shows v hand) = prints_open (Value v) refl (λ n m k. option_free (reference_in v) n (hand_out command v hand n k) m)
  shape_opens command e (Tells (RefCount n) tells) = prints_open (RefCount n) refl (λ o m i. m)
  shape_opens command e (Tells (TrackedLine b) tells) = prints_open (TrackedLine b) refl (λ o m i. m)
  shape_opens command e (Tells (FinalizedLine b) tells) = prints_open (FinalizedLine b) refl (λ o m i. m)
  shape_opens command e (Tells (CountLine first second third) tells) = prints_open (CountLine first second third) refl (λ o m i. m)
  shape_opens command e (Tells (GensLine first second third fourth) tells) = prints_open (GensLine first second third fourth) refl (λ o m i. m)
  shape_opens command e (Tells line tells) = absurd tells
  shape_opens command e Stays = same _
  shape_opens command e (Sets numbers own keeps) = same _
  shape_opens command e (Freezes is) = places_open frozen _ frozen_legacy refl
  shape_opens command e (Unfreezes is) = places_open unfrozen _ unfrozen_legacy refl
  shape_opens command e (StartsFrame f found) = object_out command is_function f found
  shape_opens command e (Inspects lines calm there) = absurd (let no : true ≡ false = sym h.collecting ∙ calm in cc)
  shape_opens command e shape = tt
