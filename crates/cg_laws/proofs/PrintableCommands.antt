-- Each command keeps the texts of names and entries known, and prints only values with a known text: it takes values
-- from names, entries and its own operands.
use Rattle.std.proofs.Common.{◌≡◌, refl, sym, subst, ℕ, ◌<◌, ◌≤◌, Bool, true, false, not, ◌&&◌, inl, List, [], ◌∷◌, length, Option, Some, None}
use Rattle.std.specs.Prelude.{◌||◌, if◌then◌else◌, option_and_then, option_map, slice_get, slice_set}
use Rattle.std.specs.List.{All}
use Rattle.cg_value.specs.declared.Entry.{Entry}
use Rattle.cg_value.specs.declared.Place.{Place}
use Rattle.cg_value.specs.declared.Place.TheVariants.{Gen}
use Rattle.cg_value.specs.declared.Val.{Val}
use Rattle.cg_value.specs.declared.Val.TheVariants.{None as Nothing, Int, Str, Ref}
use Rattle.cg_value.specs.declared.KindCode.{KindCode}
use Rattle.cg_script.specs.declared.Operand.{Operand}
use Rattle.cg_script.specs.declared.Operand.TheVariants.{None as NoneWord, Int as IntWord, Str as StrWord, Name, SelfLocal, WeakLocal, Cell, Garbage}
use Rattle.cg_script.specs.declared.Command.{Command}
use Rattle.cg_script.specs.Texts.{operand_texts}
use Rattle.cg_graph.specs.Member.{Includes}
use Rattle.cg_graph.specs.Value.{put}
use Rattle.cg_graph.specs.Object.{Object, entries_of, first_place, is_tracked, with_entries, with_place}
use Rattle.cg_graph.proofs.Members.{either, Includes-append_cases}
use Rattle.cg_machine.specs.declared.event.Event.{Event}
use Rattle.cg_machine.specs.declared.event.Event.TheVariants.{Made, Value}
use Rattle.cg_machine.specs.World.{World, Frame, Numbers, with_change}
use Rattle.cg_machine.specs.Operands.{frame_on, is_dict, self_in, value_of, weak_in}
use Rattle.cg_machine.specs.Effects.{Effect, Changes, bound, with_new, frozen, may_track, replaced, tracked_by, unfrozen}
use Rattle.cg_machine.specs.Lines.{IsPrintable}
use Rattle.cg_represents.proofs.Shapes.{IsAtHand, Word, ValueIn, KeyIn, TellsNumbers, Shape, Binds, Makes, Edits, Puts, Shows, Tells, Stays, Sets, Freezes, Unfreezes, Inspects}
use Rattle.cg_represents.proofs.Lists.{slice_get_member, set_member}
use Rattle.cg_laws.proofs.PrintableTexts.{HasText, EntryHasTexts, HaveTexts, WorldHasTexts, KeepsTexts, NamesTexts, text_printable, entries_put, entries_texts, mapped_texts, changed_texts}
use Rattle.cg_laws.proofs.PrintableSteps.{Prints, silent, says}
use Rattle.cg_represents.proofs.Inspecting.{TellsThere}

module _ (texts : List (List ℕ)) (short : All (λ text. length text ≤ 1024) texts) (w : World) (known : WorldHasTexts (length texts) w) where
  abbrev pub EffectPrints : Effect → Type 0
  EffectPrints (Changes wants_memory lines given_up after) = Prints texts lines after
  EffectPrints effect = Unit {0}

  -- a value with its text
  abbrev IsKnown : Val → Type 0
  IsKnown v = HasText (length texts) v

  same_known : (u v : Val) → Some u ≡ Some v → IsKnown u → IsKnown v
  same_known u v e h = let same : u ≡ v = cc in subst IsKnown same h

  none_known : (v : Val) → None ≡ Some v → IsKnown v
  none_known v e = absurd (let no : None ≡ Some v = e in cc)

  local_known : (m : Option ℕ) (v : Val) → option_map Ref m ≡ Some v → IsKnown v
  local_known None v e = none_known v e
  local_known (Some o) v e = same_known (Ref o) v e tt

  entry_known : (m : Option Entry) (v : Val) → ((e : Entry) → m ≡ Some e → IsKnown e.val) → option_map (λ (e : Entry). e.val) m ≡ Some v → IsKnown v
  entry_known None v h e = none_known v e
  entry_known (Some entry) v h e = same_known entry.val v e (h entry refl)

  got_known : (entries : List Entry) (i : ℕ) (e : Entry) → HaveTexts (length texts) entries → slice_get entries i ≡ Some e → IsKnown e.val
  got_known entries i e h at = (h e (slice_get_member entries i e at)).val

  function_known : (m : Option ℕ) (i : ℕ) (v : Val) → option_and_then (λ o. option_map (λ (e : Entry). e.val) (slice_get (entries_of w.objects o) i)) m ≡ Some v → IsKnown v
  function_known None i v e = none_known v e
  function_known (Some o) i v e = entry_known (slice_get (entries_of w.objects o) i) v (λ entry at. got_known (entries_of w.objects o) i entry
      (entries_texts (length texts) w.objects o known.objects) at) e

  cell_known : (m : Option Frame) (i : ℕ) (v : Val)
      → option_and_then (λ (f : Frame). option_and_then (λ o. option_map (λ (e : Entry). e.val) (slice_get (entries_of w.objects o) i)) f.function) m ≡ Some v
      → IsKnown v
  cell_known None i v e = none_known v e
  cell_known (Some f) i v e = function_known f.function i v e

  operand_known : (operand : Operand) (v : Val) → ((t : ℕ) → Includes (operand_texts operand) t → t < length texts) → value_of w operand ≡ Some v → IsKnown v
  operand_known NoneWord v h e = same_known Nothing v e tt
  operand_known (IntWord n) v h e = same_known (Int n) v e tt
  operand_known (StrWord s) v h e = same_known (Str s) v e (h s (inl refl))
  operand_known (Name x) v h e = go (slice_get w.names x) refl e
    where
      go : (m : Option (Option Val)) → slice_get w.names x ≡ m → option_and_then (λ v. v) m ≡ Some v → IsKnown v
      go None at k = none_known v k
      go (Some m) at k = known.names v (slice_get_member w.names x (Some v) (subst (λ (q : Option Val). slice_get w.names x ≡ Some q) k at))
  operand_known SelfLocal v h e = local_known (option_and_then (λ f. self_in f.sort f.subject) (frame_on w.stack)) v e
  operand_known WeakLocal v h e = local_known (option_and_then (λ f. weak_in f.sort f.subject) (frame_on w.stack)) v e
  operand_known (Cell i) v h e = cell_known (frame_on w.stack) i v e
  operand_known Garbage v h e = same_known (Ref 1) v e tt

  -- What is at hand has a known text.
  hand_known : (command : Command) → NamesTexts (length texts) command → (v : Val) → IsAtHand w command v → IsKnown v
  hand_known command named v (Word operand u own e) = operand_known operand u (λ t m. named t (own operand_texts t m)) e
  hand_known command named v (ValueIn x e m h k) = (known.objects x m e k).val
  hand_known command named v (KeyIn x e m h k) = (known.objects x m e k).key
  hand_known command named v other = tt

  abbrev HasItsTexts : Object → Type 0
  HasItsTexts x = HaveTexts (length texts) x.entries

  bound_texts : (x : ℕ) (m : Option Val) → ((v : Val) → m ≡ Some v → IsKnown v) → (v : Val) → Includes (slice_set w.names x m) (Some v) → IsKnown v
  bound_texts x m h v k = either (set_member w.names x m (Some v) k) (known.names v) (h v)

  -- only the numbers change
  stays : (numbers : Numbers) → Prints texts [] (record w { numbers = numbers })
  stays numbers = silent texts _ (record { names = known.names; objects = known.objects })

  answers : (line : Event) → IsPrintable texts line → Prints texts (line ∷ []) w
  answers line h = says texts line w h known

  changes_prints : (f : Object → Object) → KeepsTexts (length texts) f → (o : ℕ) → Prints texts [] (with_change f o w)
  changes_prints f keeps o = silent texts _ (record { names = known.names; objects = changed_texts (length texts) f keeps o w.objects known.objects })

  sets_prints : (o : ℕ) (entries : List Entry) → HaveTexts (length texts) entries → Prints texts [] (with_change (with_entries entries) o w)
  sets_prints o entries h = changes_prints (with_entries entries) (λ x k. h) o

  puts_prints : (x : Object) (key v : Val) → HasItsTexts x → IsKnown key → IsKnown v → Prints texts [] (with_change (λ y. tracked_by w key v (with_entries (put x.entries key v) y)) x.serial w)
  puts_prints x key v h hk hv = changes_prints put_in (λ y k. go y (is_dict y && not (is_tracked y) && (may_track w key || may_track w v))) x.serial
    where
      put_in : Object → Object
      put_in y = tracked_by w key v (with_entries (put x.entries key v) y)

      go : (y : Object) (b : Bool) → HasItsTexts (if b then with_place (Gen 0) (with_entries (put x.entries key v) y) else with_entries (put x.entries key v) y)
      go y true = entries_put (length texts) x.entries key v h hk hv
      go y false = entries_put (length texts) x.entries key v h hk hv

  places_print : (f : Place → Place) (numbers : Numbers) → Prints texts [] (record w { objects = replaced f w; numbers = numbers })
  places_print f numbers = silent texts _ (record { names = known.names; objects = mapped_texts (length texts) (λ x. with_place (f x.place) x) (λ x k. k) w.objects known.objects })

  makes_prints : (name : ℕ) (kind : KindCode) (class : Option ℕ) (entries : List Entry) (referent : Option ℕ) → HaveTexts (length texts) entries
      → Prints texts (Made kind w.next_serial ∷ []) (bound (with_new w kind class entries referent) name (Some (Ref w.next_serial)))
  makes_prints name kind class entries referent h = says texts (Made kind w.next_serial) _ tt (record {
    names = bound_texts name (Some (Ref w.next_serial)) (λ v e. same_known (Ref w.next_serial) v e tt);
    objects = λ x m. either (Includes-append_cases w.objects (new ∷ []) x m) (known.objects x) (λ k. either k (λ e. subst HasItsTexts e h) (λ none. absurd none));
  })
    where
      new : Object
      new = record { serial = w.next_serial; code = kind; class = class; entries = entries; place = first_place kind; finalized = false; referent = referent }

  -- an item at hand, and a line of numbers
  item_known : (command : Command) → NamesTexts (length texts) command → (e : Entry) → e.key ≡ Nothing → IsAtHand w command e.val → EntryHasTexts (length texts) e
  item_known command named e key hand = record { key = subst IsKnown (sym key) tt; val = hand_known command named e.val hand }

  numbers_printable : (line : Event) → TellsNumbers line → IsPrintable texts line
  numbers_printable (Value v) h = absurd h
  numbers_printable line h = tt

  there_printable : (line : Event) → TellsThere w line → IsPrintable texts line
  there_printable (Value v) h = absurd h
  there_printable line h = tt

  pub shape_prints : (command : Command) → NamesTexts (length texts) command → (e : Effect) → Shape w command e → EffectPrints e
  shape_prints command named e (Binds name v own hand) = silent texts _ (record { names = bound_texts name v (λ u i. hand_known command named u (hand u i)); objects = known.objects })
  shape_prints command named e (Makes name kind class entries referent own parts) = makes_prints name kind class entries referent (λ e m. let i = parts.items e m in item_known command named e i.0 i.1)
  shape_prints command named e (Edits wants x entries given h mutable edit) = sets_prints x.serial entries
      (λ e m. either (edit.come e m) (known.objects x h.member e) (λ new. item_known command named e new.1 new.2))
  shape_prints command named e (Puts x key v h mutable hand_key hand room) = puts_prints x key v (known.objects x h.member) (hand_known command named key hand_key) (hand_known command named v hand)
  shape_prints command named e (Shows v hand) = answers (Value v) (text_printable texts short v (hand_known command named v hand))
  shape_prints command named e (Tells line tells) = answers line (numbers_printable line tells)
  shape_prints command named e Stays = stays w.numbers
  shape_prints command named e (Sets numbers own keeps) = stays numbers
  shape_prints command named e (Freezes is) = places_print frozen _
  shape_prints command named e (Unfreezes is) = places_print unfrozen _
  shape_prints command named e (Inspects lines calm there) = record { lines = λ line m. there_printable line (there line m); known = known }
  shape_prints command named e shape = tt
