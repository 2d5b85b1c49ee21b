-- The shapes of a command's effect, a dozen. What it binds, stores, gives up, calls or prints is at hand.
use Rattle.std.proofs.Common.{◌≡◌, ◌≢◌, refl, sym, ◌∙◌, ap, subst, ℕ, zero, suc, ◌+◌, ◌≤◌, Bool, true, false, not, inl, inr, ◌⊎◌, List, [], ◌∷◌, ◌++◌, map, length, length-append, Option, Some, None, Result, Ok, Err, arith}
use Rattle.std.specs.Prelude.{ℤ, pos, negsuc, flat_map, ◌==◌, ◌||◌, nat_le, nat_lt, if◌then◌else◌, is_some, is_none, ok_or, option_and_then, option_to_list, slice_set, slice_get, remove}
use Rattle.std.proofs.lemmas.List.{length-set}
use Rattle.std.proofs.lemmas.Bool.{eq-eqb, leb-true, ltb-true, not-true}
use Rattle.cg_value.specs.declared.Val.{Val}
use Rattle.cg_value.specs.declared.Val.TheVariants.{None as Nothing, Str, Ref}
use Rattle.cg_value.specs.declared.Entry.{Entry}
use Rattle.cg_value.specs.declared.KindCode.{KindCode}
use Rattle.cg_value.specs.declared.KindCode.TheVariants.{List as ListKind, Tuple, Dict, Inst, Func, Weak}
use Rattle.cg_script.specs.declared.Operand.{Operand}
use Rattle.cg_script.specs.declared.Operand.TheVariants.{Str as StrWord, Name}
use Rattle.cg_script.specs.declared.Command.{Command}
use Rattle.cg_script.specs.declared.Command.TheVariants.{MakeList, MakeTuple, MakeDict, MakeInst, MakeFunc, MakeRef, Bind, Del, Append, SetItem, DelItem, Put, Remove, SetAttr, DelAttr, Item, Get, Attr, Deref, Call, Quit, Collect, Enable, Disable, Threshold, Flags, Freeze, Unfreeze, Print, Refs, Tracked, Finalized, Referents, Referrers, Why, Count, Gens}
use Rattle.cg_script.specs.Texts.{words_by}
use Rattle.cg_graph.specs.Member.{Includes}
use Rattle.cg_graph.specs.Object.{Object, object_at, with_entries}
use Rattle.cg_graph.specs.Value.{reference_in, references, references_of_value, entry_references, value_at, entry_at, item, put, without_key, same_value}
use Rattle.cg_graph.proofs.Members.{either, true_and, or_left, or_right, Includes-append_left, Includes-append_right, Includes-append_cases, Includes-map_cases}
use Rattle.cg_machine.specs.declared.event.Event.{Event}
use Rattle.cg_machine.specs.declared.event.Event.TheVariants.{Made, Value, RefCount, Tracked as TrackedLine, Finalized as FinalizedLine, Count as CountLine, Gens as GensLine}
use Rattle.cg_machine.specs.World.{World, Numbers, with_change}
use Rattle.cg_machine.specs.Effects.{Effect, Changes, Calls, Collects, Explains, Quits, makes, puts, has_room, live, entry_count, valid_index, replaced, frozen, unfrozen, tracked_by, given_up_by, bound, with_new, callback_entries}
use Rattle.cg_machine.specs.Commands.{effect}
use Rattle.cg_graph.specs.declared.limits.TheConstants.{MOST_ENTRIES, MOST_OBJECTS}
use Rattle.cg_machine.specs.Refusals.{◌>>=◌, unless, in_collection, object_limit, entry_limit, no_name, no_index, no_key, no_attribute, bad_generation, not_callable, not_weak, wrong_kind}
use Rattle.cg_machine.specs.Operands.{any_object, is_dict, is_list, is_script_list, is_sequence, is_weak, object_of, tested, object, value_of, value, values}
use Rattle.cg_machine.specs.Weak.{is_instance, is_function, has_weak_references}
use Rattle.cg_represents.specs.Orderly.{HasFunction}
use Rattle.cg_machine.specs.Holdings.{is_collecting}
use Rattle.cg_represents.proofs.CommandLaws.{Each, checked, each_then, each_some}
use Rattle.cg_represents.proofs.Lists.{found_at, slice_get_member, removed_member, set_member}
use Rattle.cg_represents.proofs.Moves.{AtMostOne, StaysOrMoves, appended_goes, removed_goes, set_goes, without_key_goes}
use Rattle.cg_represents.proofs.Inspecting.{AllTellThere, referents_there, referrers_there}

-- An operand of a command: its value is among the values of the command's operands, in any world.
abbrev pub IsWordOf : Command → Operand → Type 0
IsWordOf command operand = (of : Operand → List ℕ) (t : ℕ) → Includes (of operand) t → Includes (words_by of command) t

-- A value that a command has at hand: none, the value of an operand (`#1`, a name or a local), an entry of an object at hand, or
-- its referent.
pub data IsAtHand (w : World) (command : Command) : Val → Type 0 where
  NoneThere : IsAtHand w command Nothing
  Word : (operand : Operand) (v : Val) → IsWordOf command operand → value_of w operand ≡ Some v → IsAtHand w command v
  ValueIn : (x : Object) (e : Entry) → Includes w.objects x → IsAtHand w command (Ref x.serial) → Includes x.entries e → IsAtHand w command e.val
  KeyIn : (x : Object) (e : Entry) → Includes w.objects x → IsAtHand w command (Ref x.serial) → Includes x.entries e → IsAtHand w command e.key
  ReferentOf : (x : Object) (r : ℕ) → Includes w.objects x → IsAtHand w command (Ref x.serial) → x.referent ≡ Some r → IsAtHand w command (Ref r)

-- an object at hand that passes a test
pub record HasObject (w : World) (command : Command) (test : Object → Bool) (x : Object) : Type 0 where
  pub member : Includes w.objects x
  pub hand : IsAtHand w command (Ref x.serial)
  pub passes : test x ≡ true

-- items at hand, without keys
abbrev pub AreItems : World → Command → List Entry → Type 0
AreItems w command entries = (e : Entry) → Includes entries e → (e.key ≡ Nothing) × IsAtHand w command e.val

-- instances and functions are of the class and procedure that the command names
pub data IsMadeBy : Command → KindCode → Option ℕ → Type 0 where
  ByList : (name : ℕ) (items : List Operand) → IsMadeBy (MakeList name items) ListKind None
  ByTuple : (name : ℕ) (items : List Operand) → IsMadeBy (MakeTuple name items) Tuple None
  ByDict : (name : ℕ) → IsMadeBy (MakeDict name) Dict None
  ByInst : (name class : ℕ) → IsMadeBy (MakeInst name class) Inst (Some class)
  ByFunc : (name proc : ℕ) (cells : List Operand) → IsMadeBy (MakeFunc name proc cells) Func (Some proc)
  ByRef : (name : ℕ) (target callback : Operand) → IsMadeBy (MakeRef name target callback) Weak None

pub record HasParts (w : World) (command : Command) (kind : KindCode) (class : Option ℕ) (entries : List Entry) (referent : Option ℕ) : Type 0 where
  pub room : nat_lt (live w) MOST_OBJECTS ≡ true
  pub entry_room : entry_count w + length entries ≤ 4000000
  pub by : IsMadeBy command kind class
  pub items : AreItems w command entries
  pub bare : kind ≡ Dict → entries ≡ []
  pub refers : (r : ℕ) → referent ≡ Some r → (kind ≡ Weak) × ((z : Object) × HasObject w command has_weak_references z × (z.serial ≡ r))
  pub callbacks : kind ≡ Weak → AtMostOne entries × ((f : ℕ) → Includes (references entries) f → HasFunction w.objects f)

-- the mutable kinds: lists, dictionaries and instances
abbrev pub IsMutable : KindCode → Type 0
IsMutable Tuple = ⊥
IsMutable Func = ⊥
IsMutable Weak = ⊥
IsMutable k = Unit {0}

-- An edit of entries: a list may get one item at hand, but not the garbage list. At most one entry is given up, and the
-- references of the others stay.
pub record IsEdit (w : World) (command : Command) (x : Object) (entries : List Entry) (given_up : List ℕ) : Type 0 where
  pub come : (e : Entry) → Includes entries e → Includes x.entries e ⊎ (x.serial ≢ 1) × (e.key ≡ Nothing) × IsAtHand w command e.val
  pub adds : x.code ≢ ListKind → (e : Entry) → Includes entries e → Includes x.entries e
  pub longer : length entries ≤ length x.entries + 1
  pub room : length entries ≤ length x.entries ⊎ (entry_count w + 1 ≤ 4000000)
  pub given : (given_up ≡ []) ⊎ ((e : Entry) × Includes x.entries e × (given_up ≡ entry_references e))
  pub keeps : (n : ℕ) → StaysOrMoves x.entries entries given_up n

-- a line of numbers alone
abbrev pub TellsNumbers : Event → Type 0
TellsNumbers (RefCount n) = Unit {0}
TellsNumbers (TrackedLine b) = Unit {0}
TellsNumbers (FinalizedLine b) = Unit {0}
TellsNumbers (CountLine first second third) = Unit {0}
TellsNumbers (GensLine first second third frozen_ones) = Unit {0}
TellsNumbers line = ⊥

pub record KeepsCounts (n after : Numbers) : Type 0 where
  pub zero_count : after.zero_count ≡ n.zero_count
  pub one_count : after.one_count ≡ n.one_count
  pub two_count : after.two_count ≡ n.two_count
  pub pending : after.pending ≡ n.pending
  pub total : after.total ≡ n.total

-- the commands that set numbers of the policy
abbrev pub SetsNumbers : Command → Type 0
SetsNumbers Enable = Unit {0}
SetsNumbers Disable = Unit {0}
SetsNumbers (Threshold first second third) = Unit {0}
SetsNumbers (Flags bits) = Unit {0}
SetsNumbers command = ⊥

-- The shapes of an effect. A refused command has none.
pub data Shape (w : World) (command : Command) : Effect → Type 0 where
  Binds : (name : ℕ) (v : Option Val) → IsWordOf command (Name name) → ((u : Val) → v ≡ Some u → IsAtHand w command u) → Shape w command (Changes false [] (given_up_by w name) (bound w name v))
  Makes : (name : ℕ) (kind : KindCode) (class : Option ℕ) (entries : List Entry) (referent : Option ℕ) → IsWordOf command (Name name) → HasParts w command kind class entries referent
      → Shape w command (Changes true (Made kind w.next_serial ∷ []) (given_up_by w name) (bound (with_new w kind class entries referent) name (Some (Ref w.next_serial))))
  Edits : (wants_memory : Bool) (x : Object) (entries : List Entry) (given_up : List ℕ) → HasObject w command (λ y. true) x → IsMutable x.code → IsEdit w command x entries given_up
      → Shape w command (Changes wants_memory [] given_up (with_change (with_entries entries) x.serial w))
  Puts : (x : Object) (key v : Val) → HasObject w command (λ y. is_dict y || is_instance y) x → IsMutable x.code → IsAtHand w command key → IsAtHand w command v
      → (is_some (value_at x.entries key) ≡ true) ⊎ (entry_count w + 1 ≤ 4000000)
      → Shape w command (Changes (is_none (value_at x.entries key)) [] (references_of_value (value_at x.entries key))
      (with_change (λ y. tracked_by w key v (with_entries (put x.entries key v) y)) x.serial w))
  Shows : (v : Val) → IsAtHand w command v → Shape w command (Changes false (Value v ∷ []) [] w)
  Tells : (line : Event) → TellsNumbers line → Shape w command (Changes false (line ∷ []) [] w)
  Stays : Shape w command (Changes false [] [] w)
  Sets : (numbers : Numbers) → SetsNumbers command → KeepsCounts w.numbers numbers → Shape w command (Changes false [] [] (record w { numbers = numbers }))
  Freezes : command ≡ Freeze → Shape w command (Changes false [] [] (record w { objects = replaced frozen w; numbers = record w.numbers { zero_count = 0; one_count = 0; two_count = 0 } }))
  Unfreezes : command ≡ Unfreeze → Shape w command (Changes false [] [] (record w { objects = replaced unfrozen w }))
  StartsFrame : (f : Object) → HasObject w command is_function f → Shape w command (Calls f.serial)
  StartsCollection : (g : ℕ) → g ≤ 2 → Shape w command (Collects g)
  Ends : Shape w command Quits
  Inspects : (lines : List Event) → is_collecting w ≡ false → AllTellThere w lines → Shape w command (Changes true lines [] w)
  AsksWhy : (x : Object) → HasObject w command any_object x → is_collecting w ≡ false → Shape w command (Explains x.serial)

-- Checks in order, with known results.
each_unless : (b : Bool) (refusal : ℕ) → Each (λ u. b ≡ true) (unless b refusal)
each_unless true refusal = refl
each_unless false refusal = tt

ref_is : (v : Val) (s : ℕ) → reference_in v ≡ Some s → v ≡ Ref s
ref_is (Ref o) s e = let same : o ≡ s = cc in ap (λ n. Ref n) same
ref_is v s e = absurd (let no : None ≡ Some s = e in cc)

entry_at_member : (entries : List Entry) (key : Val) (e : Entry) → entry_at entries key ≡ Some e → Includes entries e
entry_at_member [] key e at = absurd (let no : None ≡ Some e = at in cc)
entry_at_member (x ∷ entries) key e at = go (same_value x.key key) at (λ k. entry_at_member entries key e k)
  where
    go : (b : Bool) → (if b then Some x else entry_at entries key) ≡ Some e → (entry_at entries key ≡ Some e → Includes entries e) → Includes (x ∷ entries) e
    go true k ih = let same : x ≡ e = cc in inl same
    go false k ih = inr (ih k)

pub value_at_member : (entries : List Entry) (key v : Val) → value_at entries key ≡ Some v → (e : Entry) × Includes entries e × (e.val ≡ v)
value_at_member [] key v at = absurd (let no : None ≡ Some v = at in cc)
value_at_member (x ∷ entries) key v at = go (same_value x.key key) at (λ k. value_at_member entries key v k)
  where
    go : (b : Bool) → (if b then Some x.val else value_at entries key) ≡ Some v → (value_at entries key ≡ Some v → (e : Entry) × Includes entries e
        × (e.val ≡ v)) → (e : Entry) × Includes (x ∷ entries) e × (e.val ≡ v)
    go true k ih = let same : x.val ≡ v = cc in (x, inl refl, same)
    go false k ih = let e = ih k in (e.0, inr e.1, e.2)

without_key_part : (entries : List Entry) (key : Val) → ((e : Entry) → Includes (without_key entries key) e → Includes entries e) × (length (without_key entries key) ≤ length entries)
without_key_part [] key = (λ e m. m, omega arith)
without_key_part (x ∷ entries) key = go (same_value x.key key) (without_key_part entries key)
  where
    go : (b : Bool) → ((e : Entry) → Includes (without_key entries key) e → Includes entries e) × (length (without_key entries key) ≤ length entries)
        → ((e : Entry) → Includes (if b then entries else x ∷ without_key entries key) e → Includes (x ∷ entries) e)
        × (length (if b then entries else x ∷ without_key entries key) ≤ length (x ∷ entries))
    go true rest = (λ e m. inr m, omega arith)
    go false rest = (λ e m. either m (λ i. inl i) (λ k. inr (rest.0 e k)), omega (arith, rest.1))

removed_shorter : (xs : List Entry) (i : ℕ) (e : Entry) → slice_get xs i ≡ Some e → length (remove xs i) ≤ length xs
removed_shorter [] i e at = absurd (let no : None ≡ Some e = at in cc)
removed_shorter (x ∷ xs) zero e at = omega arith
removed_shorter (x ∷ xs) (suc i) e at = omega (arith, removed_shorter xs i e at)

module _ (w : World) (command : Command) where
  abbrev AreWords : List Operand → Type 0
  AreWords operands = (of : Operand → List ℕ) (t : ℕ) → Includes (flat_map of operands) t → Includes (words_by of command) t

  value_shaped : (operand : Operand) → IsWordOf command operand → Each (IsAtHand w command) (value w operand)
  value_shaped operand own = each_weaker (value_of w operand) refl
    where
      each_weaker : (m : Option Val) → value_of w operand ≡ m → Each (IsAtHand w command) (ok_or m no_name)
      each_weaker None e = tt
      each_weaker (Some v) e = Word operand v own e

  abbrev AreAtHand : List Val → Type 0
  AreAtHand vs = (v : Val) → Includes vs v → IsAtHand w command v

  values_shaped : (operands : List Operand) → AreWords operands → Each AreAtHand (values w operands)
  values_shaped [] own = λ v m. absurd m
  values_shaped (operand ∷ operands) own =
      let rest = values_shaped operands (λ of t m. own of t (Includes-append_right (of operand) (flat_map of operands) t m)) in
      each_then (IsAtHand w command) AreAtHand (value w operand) _ (value_shaped operand (λ of t m. own of t (Includes-append_left (of operand) (flat_map of operands) t m)))
      (λ v k. each_then AreAtHand AreAtHand (values w operands) _ rest (λ vs are u m. either m (λ e. subst (IsAtHand w command) e k) (are u)))

  object_shaped : (test : Object → Bool) (refusal : ℕ) (v : Val) → IsAtHand w command v → Each (λ x. HasObject w command test x × (reference_in v ≡ Some x.serial)) (object w test refusal v)
  object_shaped test refusal v hand = each_then (λ x. object_of w v ≡ Some x) (λ x. HasObject w command test x × (reference_in v ≡ Some x.serial))
      (ok_or (object_of w v) refusal) _ (each_some (object_of w v) refusal) (λ x e. go (reference_in v) refl x e)
    where
      tests : (x : Object) → Includes w.objects x → IsAtHand w command (Ref x.serial) → reference_in v ≡ Some x.serial → (b : Bool) → test x ≡ b
          → Each (λ x. HasObject w command test x × (reference_in v ≡ Some x.serial)) (if b then Ok x else Err refusal)
      tests x m h is true e = (record { member = m; hand = h; passes = e }, is)
      tests x m h is false e = tt

      go : (m : Option ℕ) → reference_in v ≡ m → (x : Object) → option_and_then (object_at w.objects) m ≡ Some x → Each (λ x. HasObject w command test x
          × (reference_in v ≡ Some x.serial)) (tested test refusal x)
      go None at x e = absurd (let no : None ≡ Some x = e in cc)
      go (Some s) at x e = let f = found_at w.objects s x e in tests x f.0 (subst (IsAtHand w command) (ref_is v s at ∙ ap (λ n. Ref n) (sym f.1)) hand) (at ∙ ap (λ n. Some n) (sym f.1)) (test x) refl

  abbrev S : Result Effect ℕ → Type 0
  S r = Each (Shape w command) r

  valued : (f : Val → Result Effect ℕ) (operand : Operand) → IsWordOf command operand → ((v : Val) → IsAtHand w command v → S (f v)) → S (value w operand >>= f)
  valued f operand own h = each_then (IsAtHand w command) (Shape w command) (value w operand) f (value_shaped operand own) h

  all_valued : (f : List Val → Result Effect ℕ) (operands : List Operand) → AreWords operands → ((vs : List Val) → AreAtHand vs → S (f vs)) → S (values w operands >>= f)
  all_valued f operands own h = each_then AreAtHand (Shape w command) (values w operands) f (values_shaped operands own) h

  is_found : {B : Type 0} (P : B → Type 0) (f : Object → Result B ℕ) (test : Object → Bool) (refusal : ℕ) (v : Val) → IsAtHand w command v
      → ((x : Object) → HasObject w command test x → reference_in v ≡ Some x.serial → Each P (f x)) → Each P (object w test refusal v >>= f)
  is_found P f test refusal v hand h = each_then (λ x. HasObject w command test x × (reference_in v ≡ Some x.serial)) P (object w test refusal v) f
      (object_shaped test refusal v hand) (λ x k. h x k.0 k.1)

  found : (f : Object → Result Effect ℕ) (test : Object → Bool) (refusal : ℕ) (v : Val) → IsAtHand w command v → ((x : Object) → HasObject w command test x
      → S (f x)) → S (object w test refusal v >>= f)
  found f test refusal v hand h = is_found (Shape w command) f test refusal v hand (λ x k e. h x k)

  there : {A : Type 0} (f : A → Result Effect ℕ) (m : Option A) (refusal : ℕ) → ((x : A) → m ≡ Some x → S (f x)) → S (ok_or m refusal >>= f)
  there f m refusal h = each_then (λ x. m ≡ Some x) (Shape w command) (ok_or m refusal) f (each_some m refusal) h

  any : {A : Type 0} (f : A → Result Effect ℕ) (m : Result A ℕ) → ((x : A) → S (f x)) → S (m >>= f)
  any f m h = checked (Shape w command) m f h

  binds_shaped : (name : ℕ) (v : Val) → IsWordOf command (Name name) → IsAtHand w command v → Shape w command (Changes false [] (given_up_by w name) (bound w name (Some v)))
  binds_shaped name v own hand = Binds name (Some v) own (λ u e. let same : v ≡ u = cc in subst (IsAtHand w command) same hand)

  makes_shaped : (name : ℕ) (kind : KindCode) (class : Option ℕ) (entries : List Entry) (referent : Option ℕ) → IsWordOf command (Name name)
      → IsMadeBy command kind class → AreItems w command entries → (kind ≡ Dict → entries ≡ [])
      → ((r : ℕ) → referent ≡ Some r → (kind ≡ Weak) × ((z : Object) × HasObject w command has_weak_references z × (z.serial ≡ r)))
      → (kind ≡ Weak → AtMostOne entries × ((f : ℕ) → Includes (references entries) f → HasFunction w.objects f)) → S (makes w name kind class entries referent)
  makes_shaped name kind class entries referent own by items bare refers callbacks = each_then (λ u. nat_lt (live w) MOST_OBJECTS ≡ true) (Shape w command)
      (unless (nat_lt (live w) MOST_OBJECTS) object_limit) _ (each_unless (nat_lt (live w) MOST_OBJECTS) object_limit) (λ u room.
      each_then (λ u. nat_le (entry_count w + length entries) MOST_ENTRIES ≡ true) (Shape w command) (has_room w (length entries)) _
      (each_unless (nat_le (entry_count w + length entries) MOST_ENTRIES) entry_limit) (λ u fits.
      Makes name kind class entries referent own (record {
        room = room;
        entry_room = leb-true (entry_count w + length entries) 4000000 fits;
        by = by;
        items = items;
        bare = bare;
        refers = refers;
        callbacks = callbacks;
      })))

  no_referent : (kind : KindCode) (r : ℕ) → None ≡ Some r → (kind ≡ Weak) × ((z : Object) × HasObject w command has_weak_references z × (z.serial ≡ r))
  no_referent kind r e = absurd (cc)

  items_of : (vs : List Val) → AreAtHand vs → AreItems w command (map item vs)
  items_of vs hand e m =
      let v = Includes-map_cases item vs e m in
      subst (λ (z : Entry). (z.key ≡ Nothing) × IsAtHand w command z.val) v.2 (refl, hand v.0 v.1)

  any_object_at : (test : Object → Bool) (x : Object) → HasObject w command test x → HasObject w command (λ y. true) x
  any_object_at test x h = record { member = h.member; hand = h.hand; passes = refl }

  puts_shaped : (x : Object) (key v : Val) → HasObject w command (λ y. is_dict y || is_instance y) x → IsMutable x.code → IsAtHand w command key → IsAtHand w command v → S (puts w x key v)
  puts_shaped x key v h mutable hand_key hand_v = each_then (λ u. (is_some (value_at x.entries key) ≡ true) ⊎ (entry_count w + 1 ≤ 4000000)) (Shape w command)
      (if is_some (value_at x.entries key) then Ok tt else has_room w 1) _ (room (is_some (value_at x.entries key)) refl)
      (λ u fits. Puts x key v h mutable hand_key hand_v fits)
    where
      new_room : (b : Bool) → nat_le (entry_count w + 1) MOST_ENTRIES ≡ b → Each (λ u. (is_some (value_at x.entries key) ≡ true) ⊎ (entry_count w + 1 ≤ 4000000)) (unless b entry_limit)
      new_room true e = inr (leb-true (entry_count w + 1) 4000000 e)
      new_room false e = tt

      room : (b : Bool) → is_some (value_at x.entries key) ≡ b → Each (λ u. (is_some (value_at x.entries key) ≡ true) ⊎ (entry_count w + 1 ≤ 4000000)) (if b then Ok tt else has_room w 1)
      room true e = inl e
      room false e = new_room (nat_le (entry_count w + 1) MOST_ENTRIES) refl

  edits : (wants_memory : Bool) (test : Object → Bool) (x : Object) (entries : List Entry) (given_up : List ℕ) → HasObject w command test x → IsMutable x.code
      → IsEdit w command x entries given_up → Shape w command (Changes wants_memory [] given_up (with_change (with_entries entries) x.serial w))
  edits wants_memory test x entries given_up h mutable edit = Edits wants_memory x entries given_up (any_object_at test x h) mutable edit

  appended : (x : Object) (v : Val) → x.code ≡ ListKind → x.serial ≢ 1 → IsAtHand w command v → entry_count w + 1 ≤ 4000000 → IsEdit w command x (x.entries ++ item v ∷ []) []
  appended x v list other hand fits = record {
    adds = λ no. absurd (no list);
    come = λ e m. either (Includes-append_cases x.entries (item v ∷ []) e m) (λ k. inl k)
        (λ k. either k (λ i. inr (other, ap (λ (z : Entry). z.key) (sym i), subst (λ (z : Entry). IsAtHand w command z.val) i hand)) (λ n. absurd n));
    longer = omega (arith, length-append x.entries (item v ∷ []));
    room = inr fits;
    given = inl refl;
    keeps = λ n. appended_goes x.entries (item v) n;
  }

  replaced_at : (x : Object) (i : ℕ) (e : Entry) (v : Val) → x.code ≡ ListKind → x.serial ≢ 1 → IsAtHand w command v → slice_get x.entries i ≡ Some e
      → IsEdit w command x (slice_set x.entries i (item v)) (entry_references e)
  replaced_at x i e v list other hand at = record {
    adds = λ no. absurd (no list);
    come = λ d m. either (set_member x.entries i (item v) d m) (λ k. inl k) (λ s. inr (other, ap (λ (z : Entry). z.key) (sym s), subst (λ (z : Entry). IsAtHand w command z.val) s hand));
    longer = omega (arith, length-set x.entries i (item v));
    room = inl (omega (arith, length-set x.entries i (item v)));
    given = inr (e, slice_get_member x.entries i e at, refl);
    keeps = λ n. set_goes x.entries i e (item v) n at;
  }

  removed_at : (x : Object) (i : ℕ) (e : Entry) → slice_get x.entries i ≡ Some e → IsEdit w command x (remove x.entries i) (entry_references e)
  removed_at x i e at = record {
    come = λ d m. inl (removed_member x.entries i d m);
    adds = λ no d m. removed_member x.entries i d m;
    longer = omega (arith, removed_shorter x.entries i e at);
    room = inl (removed_shorter x.entries i e at);
    given = inr (e, slice_get_member x.entries i e at, refl);
    keeps = λ n. removed_goes x.entries i e n at;
  }

  removed_key : (x : Object) (key : Val) (e : Entry) → entry_at x.entries key ≡ Some e → IsEdit w command x (without_key x.entries key) (entry_references e)
  removed_key x key e at = let part = without_key_part x.entries key in record {
    come = λ d m. inl (part.0 d m);
    adds = λ no d m. part.0 d m;
    longer = omega (arith, part.1);
    room = inl part.1;
    given = inr (e, entry_at_member x.entries key e at, refl);
    keeps = λ n. without_key_goes x.entries key e n at;
  }

  got : (x : Object) (i : ℕ) (e : Entry) → Includes w.objects x → IsAtHand w command (Ref x.serial) → slice_get x.entries i ≡ Some e → IsAtHand w command e.val
  got x i e m hand at = ValueIn x e m hand (slice_get_member x.entries i e at)

  got_key : (x : Object) (key v : Val) → Includes w.objects x → IsAtHand w command (Ref x.serial) → value_at x.entries key ≡ Some v → IsAtHand w command v
  got_key x key v m hand at = let e = value_at_member x.entries key v at in subst (IsAtHand w command) e.2 (ValueIn x e.0 m hand e.1)

  referent_shaped : (x : Object) → Includes w.objects x → IsAtHand w command (Ref x.serial) → IsAtHand w command (elim x.referent [ None ↦ Nothing | Some o ↦ Ref o ])
  referent_shaped x m hand = go x.referent refl
    where
      go : (r : Option ℕ) → x.referent ≡ r → IsAtHand w command (elim r [ None ↦ Nothing | Some o ↦ Ref o ])
      go None e = NoneThere
      go (Some o) e = ReferentOf x o m hand e

  quit_shaped : (v : Val) → Shape w command (elim v [ Nothing ↦ Quits | _ ↦ Changes false [] [] w ])
  quit_shaped Nothing = Ends
  quit_shaped v = Stays

  pub record IsCallback (entries : List Entry) : Type 0 where
    pub items : AreItems w command entries
    pub single : AtMostOne entries
    pub functions : (f : ℕ) → Includes (references entries) f → HasFunction w.objects f

  item_callback : (v : Val) → IsAtHand w command v → (x : Object) → HasObject w command is_function x → reference_in v ≡ Some x.serial → IsCallback (item v ∷ [])
  item_callback v hand x h is = record {
    items = λ e m. either m (λ i. subst (λ (z : Entry). (z.key ≡ Nothing) × IsAtHand w command z.val) i (refl, hand)) (λ n. absurd n);
    single = inr (v, refl);
    functions = λ f k. (x, h.member, one (reference_in v) f is k, h.passes);
  }
    where
      one : (m : Option ℕ) (f : ℕ) → m ≡ Some x.serial → Includes ((option_to_list m ++ []) ++ []) f → x.serial ≡ f
      one None f e k = absurd k
      one (Some s) f e k = let same : s ≡ x.serial = cc in either k (λ i. sym same ∙ i) (λ n. absurd n)

  callback_shaped : (v : Val) → IsAtHand w command v → Each IsCallback (callback_entries w v)
  callback_shaped Nothing hand = record { items = λ e m. absurd m; single = inl refl; functions = λ f k. absurd k }
  callback_shaped v hand = is_found IsCallback _ is_function not_callable v hand (λ x h is. item_callback v hand x h is)

list_code : (k : KindCode) → elim k [ ListKind ↦ true | _ ↦ false ] ≡ true → k ≡ ListKind
list_code ListKind e = refl
list_code k e = absurd (let no : false ≡ true = e in cc)

generation_low : (i : ℤ) (g : ℕ) → valid_index i 3 ≡ Some g → g ≤ 2
generation_low (pos n) g e = go (nat_lt n 3) refl e
  where
    go : (b : Bool) → nat_lt n 3 ≡ b → (if b then Some n else None) ≡ Some g → g ≤ 2
    go true t k = let same : n ≡ g = cc in let low = ltb-true n 3 t in omega (arith, same, low)
    go false t k = absurd (let no : None ≡ Some g = k in cc)
generation_low (negsuc n) g e = absurd (let no : None ≡ Some g = e in cc)

-- the kinds that change
list_mutable : (k : KindCode) → elim k [ ListKind ↦ true | _ ↦ false ] ≡ true → IsMutable k
list_mutable Tuple e = absurd (let no : false ≡ true = e in cc)
list_mutable Func e = absurd (let no : false ≡ true = e in cc)
list_mutable Weak e = absurd (let no : false ≡ true = e in cc)
list_mutable k e = tt

dict_mutable : (k : KindCode) → elim k [ Dict ↦ true | _ ↦ false ] ≡ true → IsMutable k
dict_mutable Tuple e = absurd (let no : false ≡ true = e in cc)
dict_mutable Func e = absurd (let no : false ≡ true = e in cc)
dict_mutable Weak e = absurd (let no : false ≡ true = e in cc)
dict_mutable k e = tt

instance_mutable : (k : KindCode) → elim k [ Inst ↦ true | _ ↦ false ] ≡ true → IsMutable k
instance_mutable Tuple e = absurd (let no : false ≡ true = e in cc)
instance_mutable Func e = absurd (let no : false ≡ true = e in cc)
instance_mutable Weak e = absurd (let no : false ≡ true = e in cc)
instance_mutable k e = tt

script_list_is : (x : Object) → is_script_list x ≡ true → (is_list x ≡ true) × (x.serial ≢ 1)
script_list_is x t =
    let parts = true_and (is_list x) (not (x.serial == 1)) t in
    (parts.0, λ e. let no : false ≡ true = ap not (sym (eq-eqb x.serial 1 e)) ∙ parts.1 in cc)

keyed : (w : World) (command : Command) (test : Object → Bool) (x : Object) → HasObject w command test x → (is_dict x || is_instance x) ≡ true → HasObject w command (λ y. is_dict y || is_instance y) x
keyed w command test x h passes = record { member = h.member; hand = h.hand; passes = passes }

attribute : (w : World) (command : Command) (name : ℕ) → IsWordOf command (StrWord name) → IsAtHand w command (Str name)
attribute w command name own = Word (StrWord name) (Str name) own refl

sets_shaped : (w : World) (command : Command) (first second third flags : ℕ) (enabled : Bool) → SetsNumbers command
    → Shape w command (Changes false [] [] (record w {
      numbers = record w.numbers {
        zero_threshold = first;
        one_threshold = second;
        two_threshold = third;
        flags = flags;
        enabled = enabled;
      };
    }))
sets_shaped w command first second third flags enabled own = Sets (record w.numbers {
  zero_threshold = first;
  one_threshold = second;
  two_threshold = third;
  flags = flags;
  enabled = enabled;
}) own (record { zero_count = refl; one_count = refl; two_count = refl; pending = refl; total = refl })

inspected : (w : World) (command : Command) (operand : Operand) → IsWordOf command operand
    → (e : Object → Result Effect ℕ) → ((x : Object) → HasObject w command any_object x → is_collecting w ≡ false → Each (Shape w command) (e x))
    → Each (Shape w command) (value w operand >>= λ v. object w any_object wrong_kind v >>= λ x. unless (not (is_collecting w)) in_collection >>= λ u. e x)
inspected w command operand own e h = valued w command _ operand own (λ v hand. found w command _ any_object wrong_kind v hand (λ x there.
    each_then (λ u. not (is_collecting w) ≡ true) (Shape w command) (unless (not (is_collecting w)) in_collection) _ (each_unless (not (is_collecting w))
    in_collection) (λ u calm. h x there (not-true (is_collecting w) calm))))

-- The effect of each command in each world has a shape.
pub effect_shaped : (w : World) (command : Command) → Each (Shape w command) (effect w command)
effect_shaped w (MakeList name items) = all_valued w _ _ items (λ of. Includes-append_right (of (Name name)) (flat_map of items))
    (λ vs hand. makes_shaped w _ name ListKind None (map item vs) None (λ of. Includes-append_left (of (Name name)) (flat_map of items)) (ByList name items)
    (items_of w _ vs hand) (λ e. absurd (cc)) (no_referent w _ ListKind) (λ e. absurd (cc)))
effect_shaped w (MakeTuple name items) = all_valued w _ _ items (λ of. Includes-append_right (of (Name name)) (flat_map of items))
    (λ vs hand. makes_shaped w _ name Tuple None (map item vs) None (λ of. Includes-append_left (of (Name name)) (flat_map of items)) (ByTuple name items)
    (items_of w _ vs hand) (λ e. absurd (cc)) (no_referent w _ Tuple) (λ e. absurd (cc)))
effect_shaped w (MakeDict name) = makes_shaped w _ name Dict None [] None (λ of t m. m) (ByDict name) (λ e m. absurd m) (λ e. refl) (no_referent w _ Dict) (λ e. absurd (cc))
effect_shaped w (MakeInst name class) = makes_shaped w _ name Inst (Some class) [] None (λ of t m. m) (ByInst name class) (λ e m. absurd m) (λ e. refl) (no_referent w _ Inst) (λ e. absurd (cc))
effect_shaped w (MakeFunc name proc cells) = all_valued w _ _ cells (λ of. Includes-append_right (of (Name name)) (flat_map of cells))
    (λ vs hand. makes_shaped w _ name Func (Some proc) (map item vs) None (λ of. Includes-append_left (of (Name name)) (flat_map of cells))
    (ByFunc name proc cells) (items_of w _ vs hand) (λ e. absurd (cc)) (no_referent w _ Func) (λ e. absurd (cc)))
effect_shaped w (MakeRef name target callback) = valued w _ _ target (λ of t m. Includes-append_right (of (Name name)) (of target ++ of callback) t
    (Includes-append_left (of target) (of callback) t m)) (λ v hand. valued w _ _ callback (λ of t m. Includes-append_right (of (Name name)) (of target
    ++ of callback) t (Includes-append_right (of target) (of callback) t m)) (λ c hand_c. found w _ _ has_weak_references wrong_kind v hand (λ x h.
    each_then (IsCallback w (MakeRef name target callback)) (Shape w (MakeRef name target callback)) (callback_entries w c) _
    (callback_shaped w (MakeRef name target callback) c hand_c) (λ entries k. makes_shaped w _ name Weak None entries (Some x.serial)
    (λ of. Includes-append_left (of (Name name)) (of target ++ of callback)) (ByRef name target callback) k.items (λ e. absurd (cc))
    (λ r e. (refl, (x, h, let same : x.serial ≡ r = cc in same))) (λ e. (k.single, k.functions))))))
effect_shaped w (Bind name operand) = valued w _ _ operand (λ of. Includes-append_right (of (Name name)) (of operand)) (λ v hand. binds_shaped w _ name v
    (λ of. Includes-append_left (of (Name name)) (of operand)) hand)
effect_shaped w (Del name) = any w _ _ _ (λ v. Binds name None (λ of t m. m) (λ u e. absurd (let no : None ≡ Some u = e in cc)))
effect_shaped w (Append list operand) = valued w _ _ list (λ of. Includes-append_left (of list) (of operand))
    (λ l hand_l. valued w _ _ operand (λ of. Includes-append_right (of list) (of operand)) (λ v hand. found w _ _ is_script_list wrong_kind l hand_l (λ x h.
    each_then (λ u. nat_le (entry_count w + 1) MOST_ENTRIES ≡ true) (Shape w (Append list operand)) (has_room w 1) _ (each_unless (nat_le (entry_count w + 1) MOST_ENTRIES) entry_limit) (λ u fits.
    let is = script_list_is x h.passes in edits w _ true is_script_list x (x.entries ++ item v ∷ []) [] h (list_mutable x.code is.0)
    (appended w _ x v (list_code x.code is.0) is.1 hand (leb-true (entry_count w + 1) 4000000 fits))))))
effect_shaped w (SetItem list index operand) = valued w _ _ list (λ of. Includes-append_left (of list) (of operand))
    (λ l hand_l. valued w _ _ operand (λ of. Includes-append_right (of list) (of operand)) (λ v hand. found w _ _ is_script_list wrong_kind l hand_l (λ x h.
    any w _ _ _ (λ i. there w _ _ (slice_get x.entries i) no_index (λ e at. let is = script_list_is x h.passes in edits w _ false is_script_list x
    (slice_set x.entries i (item v)) (entry_references e) h (list_mutable x.code is.0) (replaced_at w _ x i e v (list_code x.code is.0) is.1 hand at))))))
effect_shaped w (DelItem list index) = valued w _ _ list (λ of t m. m) (λ l hand. found w _ _ is_list wrong_kind l hand
    (λ x h. any w _ _ _ (λ i. there w _ _ (slice_get x.entries i) no_index (λ e at. edits w _ false is_list x (remove x.entries i) (entry_references e) h
    (list_mutable x.code h.passes) (removed_at w _ x i e at)))))
effect_shaped w (Put dict key operand) = valued w _ _ dict (λ of t m. Includes-append_left (of dict ++ of key) (of operand) t
    (Includes-append_left (of dict) (of key) t m)) (λ d hand_d. valued w _ _ key (λ of t m. Includes-append_left (of dict ++ of key) (of operand) t
    (Includes-append_right (of dict) (of key) t m)) (λ k hand_k.
    valued w _ _ operand (λ of. Includes-append_right (of dict ++ of key) (of operand)) (λ v hand. found w _ _ is_dict wrong_kind d hand_d
    (λ x h. any w _ _ _ (λ u. puts_shaped w _ x k v (keyed w _ is_dict x h (or_left (is_dict x) (is_instance x) h.passes)) (dict_mutable x.code h.passes)
    hand_k hand)))))
effect_shaped w (Remove dict key) = valued w _ _ dict (λ of. Includes-append_left (of dict) (of key))
    (λ d hand_d. valued w _ _ key (λ of. Includes-append_right (of dict) (of key)) (λ k hand_k. found w _ _ is_dict wrong_kind d hand_d
    (λ x h. any w _ _ _ (λ u.
    there w _ _ (entry_at x.entries k) no_key (λ e at. edits w _ false is_dict x (without_key x.entries k) (entry_references e) h (dict_mutable x.code h.passes) (removed_key w _ x k e at))))))
effect_shaped w (SetAttr instance name operand) = valued w _ _ instance (λ of. Includes-append_left (of instance) (of (StrWord name) ++ of operand))
    (λ o hand_o. valued w _ _ operand (λ of t m. Includes-append_right (of instance) (of (StrWord name) ++ of operand) t
    (Includes-append_right (of (StrWord name)) (of operand) t m)) (λ v hand. found w _ _ is_instance wrong_kind o hand_o (λ x h.
    puts_shaped w _ x (Str name) v (keyed w _ is_instance x h (or_right (is_dict x) (is_instance x) h.passes)) (instance_mutable x.code h.passes)
    (attribute w _ name (λ of t m. Includes-append_right (of instance) (of (StrWord name) ++ of operand) t (Includes-append_left (of (StrWord name))
    (of operand) t m))) hand)))
effect_shaped w (DelAttr instance name) = valued w _ _ instance (λ of. Includes-append_left (of instance) (of (StrWord name)))
    (λ o hand_o. found w _ _ is_instance wrong_kind o hand_o (λ x h. there w _ _ (entry_at x.entries (Str name)) no_attribute
    (λ e at. edits w _ false is_instance x (without_key x.entries (Str name)) (entry_references e) h (instance_mutable x.code h.passes)
    (removed_key w _ x (Str name) e at))))
effect_shaped w (Item name list index) = valued w _ _ list (λ of. Includes-append_right (of (Name name)) (of list)) (λ l hand. found w _ _ is_sequence
    wrong_kind l hand (λ x h. any w _ _ _ (λ i. there w _ _ (slice_get x.entries i) no_index (λ e at. binds_shaped w _ name e.val
    (λ of. Includes-append_left (of (Name name)) (of list)) (got w _ x i e h.member h.hand at)))))
effect_shaped w (Get name dict key) = valued w _ _ dict (λ of t m. Includes-append_right (of (Name name)) (of dict ++ of key) t
    (Includes-append_left (of dict) (of key) t m)) (λ d hand_d. valued w _ _ key (λ of t m. Includes-append_right (of (Name name)) (of dict ++ of key) t
    (Includes-append_right (of dict) (of key) t m)) (λ k hand_k. found w _ _ is_dict wrong_kind d hand_d (λ x h. any w _ _ _ (λ u.
    there w _ _ (value_at x.entries k) no_key (λ v at. binds_shaped w _ name v (λ of. Includes-append_left (of (Name name)) (of dict ++ of key)) (got_key w _ x k v h.member h.hand at))))))
effect_shaped w (Attr name instance attr) = valued w _ _ instance (λ of t m. Includes-append_right (of (Name name)) (of instance ++ of (StrWord attr)) t
    (Includes-append_left (of instance) (of (StrWord attr)) t m)) (λ o hand_o. found w _ _ is_instance wrong_kind o hand_o
    (λ x h. there w _ _ (value_at x.entries (Str attr)) no_attribute (λ v at. binds_shaped w _ name v (λ of. Includes-append_left (of (Name name)) (of instance
    ++ of (StrWord attr))) (got_key w _ x (Str attr) v h.member h.hand at))))
effect_shaped w (Deref name weak) = valued w _ _ weak (λ of. Includes-append_right (of (Name name)) (of weak)) (λ v hand. found w _ _ is_weak not_weak v hand
    (λ x h. binds_shaped w _ name (elim x.referent [ None ↦ Nothing | Some o ↦ Ref o ]) (λ of. Includes-append_left (of (Name name)) (of weak))
    (referent_shaped w _ x h.member h.hand)))
effect_shaped w (Call function) = valued w _ _ function (λ of t m. m) (λ v hand. found w _ _ is_function not_callable v hand (λ x h. StartsFrame x h))
effect_shaped w (Quit operand) = any w _ _ _ (λ v. quit_shaped w _ v)
effect_shaped w (Collect generation) = there w _ _ (valid_index generation 3) bad_generation (λ g at. StartsCollection g (generation_low generation g at))
effect_shaped w Freeze = Freezes refl
effect_shaped w Unfreeze = Unfreezes refl
effect_shaped w (Print operand) = valued w _ _ operand (λ of t m. m) (λ v hand. Shows v hand)
effect_shaped w (Refs operand) = any w _ _ _ (λ v. any w _ _ _ (λ x. Tells _ tt))
effect_shaped w (Tracked operand) = any w _ _ _ (λ v. Tells _ tt)
effect_shaped w (Finalized operand) = any w _ _ _ (λ v. Tells _ tt)
effect_shaped w (Referents operand) = inspected w _ operand (λ of t m. m) _ (λ x h calm. Inspects _ calm (referents_there w x _ h.member))
effect_shaped w (Referrers operand) = inspected w _ operand (λ of t m. m) _ (λ x h calm. Inspects _ calm (referrers_there w x.serial _))
effect_shaped w (Why name) = inspected w _ (Name name) (λ of t m. m) _ (λ x h calm. AsksWhy x h calm)
effect_shaped w Count = Tells _ tt
effect_shaped w Gens = Tells _ tt
effect_shaped w other = sets_shaped w other _ _ _ _ _ tt

-- from the shapes of effects to a law on effects
each_implies : {A : Type 0} (P Q : A → Type 0) → ((x : A) → P x → Q x) → (r : Result A ℕ) → Each P r → Each Q r
each_implies P Q h (Ok x) p = h x p
each_implies P Q h (Err n) p = tt

pub by_shape : (Q : Effect → Type 0) (w : World) (command : Command) → ((e : Effect) → Shape w command e → Q e) → Each Q (effect w command)
by_shape Q w command h = each_implies (Shape w command) Q h (effect w command) (effect_shaped w command)
