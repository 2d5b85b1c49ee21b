-- An object that only one name holds, and whose name a command does not read: the command does not have it at hand.
use Rattle.std.proofs.Common.{◌≡◌, ◌≢◌, refl, sym, ◌∙◌, subst, ℕ, ◌<◌, inl, List, [], ◌∷◌, Option, Some, None}
use Rattle.std.specs.Prelude.{option_and_then, option_map, option_to_list, slice_get, unwrap_or}
use Rattle.cg_value.specs.declared.KindCode.TheVariants.{Inst}
use Rattle.cg_value.specs.declared.Val.{Val}
use Rattle.cg_value.specs.declared.Val.TheVariants.{None as Nothing, Int, Str, Ref}
use Rattle.cg_value.specs.declared.Entry.{Entry}
use Rattle.cg_script.specs.declared.Command.{Command}
use Rattle.cg_script.specs.declared.Operand.{Operand}
use Rattle.cg_script.specs.declared.Operand.TheVariants.{None as NoneWord, Int as IntWord, Str as StrWord, Name, SelfLocal, WeakLocal, Cell, Garbage}
use Rattle.cg_script.specs.Texts.{command_names, operand_names}
use Rattle.cg_graph.specs.Member.{Includes}
use Rattle.cg_graph.specs.Object.{Object, entries_of, object_at}
use Rattle.cg_graph.specs.Value.{reference_in, references, references_of_value}
use Rattle.cg_graph.proofs.Members.{Includes-append_left, Includes-append_right}
use Rattle.cg_machine.specs.declared.event.FrameSort.{FrameSort}
use Rattle.cg_machine.specs.World.{World, Activity, Framed, Frame}
use Rattle.cg_machine.specs.Operands.{frame_on, self_in, weak_in, value_of}
use Rattle.cg_laws.proofs.CommandRefs.{HoldNone, got_free, option_held}
use Rattle.cg_represents.proofs.Lists.{found_at}
use Rattle.cg_laws.proofs.Lookups.{references_of_member}
use Rattle.cg_represents.proofs.Shapes.{IsAtHand, KeyIn, NoneThere, ReferentOf, ValueIn, Word}
use Rattle.cg_laws.specs.Apart.{IsFound}

-- what a name stands for
abbrev pub held_by : List (Option Val) → ℕ → List ℕ
held_by names x = references_of_value (option_and_then (λ v. v) (slice_get names x))

-- a frame's locals are other objects
abbrev pub IsNoLocal : ℕ → FrameSort → ℕ → Type 0
IsNoLocal o sort subject = (self_in sort subject ≢ Some o) × (weak_in sort subject ≢ Some o)

-- only the name n holds the object o
pub record Hidden (n o : ℕ) (w : World) : Type 0 where
  pub names : (x : ℕ) → x ≢ n → ¬ Includes (held_by w.names x) o
  pub root : o ≢ 1
  pub made : o < w.next_serial
  pub entries : (x : Object) → Includes w.objects x → ¬ Includes (references x.entries) o
  pub referents : (x : Object) → Includes w.objects x → x.referent ≢ Some o
  pub locals : (f : Frame) → Includes w.stack (Framed f) → IsNoLocal o f.sort f.subject
  pub apart : (x : Object) → Includes w.objects x → x.serial ≡ o → ¬ IsFound x.place
  pub kind : (x : Object) → Includes w.objects x → x.serial ≡ o → x.code ≢ Inst

module _ (n o : ℕ) (w : World) (h : Hidden n o w) where
  -- a value is not the object
  abbrev IsNot : Val → Type 0
  IsNot v = reference_in v ≢ Some o

  same_not : (u v : Val) → Some u ≡ Some v → IsNot u → IsNot v
  same_not u v e k = let same : u ≡ v = cc in subst IsNot same k

  none_not : (v : Val) → None ≡ Some v → IsNot v
  none_not v e = absurd (let no : None ≡ Some v = e in cc)

  local_not : (m : Option ℕ) (v : Val) → m ≢ Some o → option_map Ref m ≡ Some v → IsNot v
  local_not None v k e = none_not v e
  local_not (Some s) v k e = same_not (Ref s) v e k

  framed_not : (pick : FrameSort → ℕ → Option ℕ) (stack : List Activity) → ((f : Frame) → Includes stack (Framed f) → pick f.sort f.subject ≢ Some o)
      → option_and_then (λ (f : Frame). pick f.sort f.subject) (frame_on stack) ≢ Some o
  framed_not pick (Framed f ∷ below) k e = k f (inl refl) e
  framed_not pick xs k e = let no : None ≡ Some o = e in cc

  cell_not : (m : Option Frame) (i : ℕ) (v : Val)
      → option_and_then (λ (f : Frame). option_and_then (λ s. option_map (λ (e : Entry). e.val) (slice_get (entries_of w.objects s) i)) f.function) m ≡ Some v
      → IsNot v
  cell_not None i v e = none_not v e
  cell_not (Some f) i v e = go f.function e
    where
      go : (q : Option ℕ) → option_and_then (λ s. option_map (λ (e : Entry). e.val) (slice_get (entries_of w.objects s) i)) q ≡ Some v → IsNot v
      go None k = none_not v k
      go (Some s) k = found (object_at w.objects s) refl (slice_get (entries_of w.objects s) i) refl k
        where
          free : (m : Option Object) → object_at w.objects s ≡ m → HoldNone o (unwrap_or (option_map (λ (x : Object). x.entries) m) [])
          free None at k = k
          free (Some x) at k = h.entries x (found_at w.objects s x at).0 k

          found : (x : Option Object) → object_at w.objects s ≡ x → (m : Option Entry) → slice_get (entries_of w.objects s) i ≡ m → option_map (λ (k : Entry). k.val) m ≡ Some v → IsNot v
          found x there None at k = none_not v k
          found x there (Some entry) at k = same_not entry.val v k (λ r. got_free (entries_of w.objects s) i o entry at (free (object_at w.objects s) refl)
              (Includes-append_left (option_to_list (reference_in entry.val)) (option_to_list (reference_in entry.key)) o (option_held (reference_in entry.val) o r)))

  pub operand_not : (operand : Operand) (v : Val) → ¬ Includes (operand_names operand) n → value_of w operand ≡ Some v → IsNot v
  operand_not NoneWord v own e = same_not Nothing v e (λ r. let no : None ≡ Some o = r in cc)
  operand_not (IntWord i) v own e = same_not (Int i) v e (λ r. let no : None ≡ Some o = r in cc)
  operand_not (StrWord s) v own e = same_not (Str s) v e (λ r. let no : None ≡ Some o = r in cc)
  operand_not (Name x) v own e = λ r. h.names x (λ i. own (inl i)) (subst (λ m. Includes (references_of_value m) o) (sym e) (option_held (reference_in v) o r))
  operand_not SelfLocal v own e = local_not (option_and_then (λ f. self_in f.sort f.subject) (frame_on w.stack)) v (framed_not self_in w.stack (λ f m. (h.locals f m).0)) e
  operand_not WeakLocal v own e = local_not (option_and_then (λ f. weak_in f.sort f.subject) (frame_on w.stack)) v (framed_not weak_in w.stack (λ f m. (h.locals f m).1)) e
  operand_not (Cell i) v own e = cell_not (frame_on w.stack) i v e
  operand_not Garbage v own e = same_not (Ref 1) v e (λ r. let same : 1 ≡ o = cc in h.root (sym same))

  pub hand_not : (command : Command) (v : Val) → ¬ Includes (command_names command) n → IsAtHand w command v → IsNot v
  hand_not command v apart NoneThere = λ r. let no : None ≡ Some o = r in cc
  hand_not command v apart (Word operand u own e) = operand_not operand v (λ m. apart (own operand_names n m)) e
  hand_not command v apart (ValueIn x e m hand i) =
      λ r. h.entries x m (references_of_member x.entries e o i (Includes-append_left (option_to_list (reference_in e.val)) (option_to_list (reference_in e.key))
      o (option_held (reference_in e.val) o r)))
  hand_not command v apart (KeyIn x e m hand i) =
      λ r. h.entries x m (references_of_member x.entries e o i (Includes-append_right (option_to_list (reference_in e.val))
      (option_to_list (reference_in e.key)) o (option_held (reference_in e.key) o r)))
  hand_not command v apart (ReferentOf x q m hand e) = λ r. h.referents x m (e ∙ r)
