-- The references that a command works with: what its operands stand for, and what lists of entries and names hold after it.
use Rattle.std.proofs.Common.{◌≡◌, ◌≢◌, refl, sym, ap, subst, ℕ, zero, suc, Bool, true, false, inl, inr, List, [], ◌∷◌, Option, Some, None}
use Rattle.std.specs.Prelude.{if◌then◌else◌, flat_map, slice_get, slice_set, option_to_list, option_map, option_and_then}
use Rattle.cg_value.specs.declared.Entry.{Entry}
use Rattle.cg_value.specs.declared.Val.{Val}
use Rattle.cg_value.specs.declared.Val.TheVariants.{None as Nothing, Int, Str, Ref}
use Rattle.cg_script.specs.declared.Operand.{Operand}
use Rattle.cg_script.specs.declared.Operand.TheVariants.{None as NoneWord, Int as IntWord, Str as StrWord, Name, SelfLocal, WeakLocal, Cell, Garbage}
use Rattle.cg_graph.specs.Member.{Includes}
use Rattle.cg_graph.specs.Value.{references, references_of_value, entry_references, reference_in, same_value, value_at, put}
use Rattle.cg_graph.specs.Object.{entries_of}
use Rattle.cg_graph.specs.Holdings.{name_holdings}
use Rattle.cg_graph.proofs.Members.{either, Includes-append_left, Includes-append_right, Includes-append_cases}
use Rattle.cg_machine.specs.declared.event.FrameSort.{FrameSort}
use Rattle.cg_machine.specs.declared.event.FrameSort.TheVariants.{Callback, Call}
use Rattle.cg_machine.specs.World.{World, Activity, Framed, Frame}
use Rattle.cg_machine.specs.Holdings.{holds}
use Rattle.cg_machine.specs.Operands.{frame_on, self_in, weak_in, value_of}
use Rattle.cg_laws.proofs.Unreferred.{Forgotten}
use Rattle.cg_laws.proofs.Unheld.{IsLocalHeld, AreOver}
use Rattle.cg_represents.proofs.Lists.{slice_get_member}
use Rattle.cg_laws.proofs.Lookups.{references_of_member, entries_free}

-- entries hold nothing of o, and a value does not refer to it
abbrev pub HoldNone : ℕ → List Entry → Type 0
HoldNone o entries = ¬ Includes (references entries) o

abbrev pub IsNotTo : ℕ → Val → Type 0
IsNotTo o v = reference_in v ≢ Some o

pub option_free : (m : Option ℕ) (o : ℕ) → m ≢ Some o → ¬ Includes (option_to_list m) o
option_free None o h k = k
option_free (Some p) o h k = either k (λ e. h (ap (λ q. Some q) e)) (λ n. n)

pub option_held : (m : Option ℕ) (o : ℕ) → m ≡ Some o → Includes (option_to_list m) o
option_held m o e = subst (λ n. Includes (option_to_list n) o) (sym e) (inl refl)

pub entry_free : (e : Entry) (o : ℕ) → IsNotTo o e.val → IsNotTo o e.key → ¬ Includes (entry_references e) o
entry_free e o h k m = either (Includes-append_cases (option_to_list (reference_in e.val)) (option_to_list (reference_in e.key)) o m)
    (option_free (reference_in e.val) o h) (option_free (reference_in e.key) o k)

pub entry_val : (e : Entry) (o : ℕ) → ¬ Includes (entry_references e) o → IsNotTo o e.val
entry_val e o h k = h (Includes-append_left (option_to_list (reference_in e.val)) (option_to_list (reference_in e.key)) o (option_held (reference_in e.val) o k))

pub entry_key : (e : Entry) (o : ℕ) → ¬ Includes (entry_references e) o → IsNotTo o e.key
entry_key e o h k = h (Includes-append_right (option_to_list (reference_in e.val)) (option_to_list (reference_in e.key)) o (option_held (reference_in e.key) o k))

pub cons_free : (e : Entry) (entries : List Entry) (o : ℕ) → ¬ Includes (entry_references e) o → HoldNone o entries → HoldNone o (e ∷ entries)
cons_free e entries o h k m = either (Includes-append_cases (entry_references e) (references entries) o m) h k

pub head_free : (e : Entry) (entries : List Entry) (o : ℕ) → HoldNone o (e ∷ entries) → ¬ Includes (entry_references e) o
head_free e entries o h m = h (Includes-append_left (entry_references e) (references entries) o m)

pub tail_free : (e : Entry) (entries : List Entry) (o : ℕ) → HoldNone o (e ∷ entries) → HoldNone o entries
tail_free e entries o h m = h (Includes-append_right (entry_references e) (references entries) o m)

pub all_free : (o : ℕ) (entries : List Entry) → ((e : Entry) → Includes entries e → ¬ Includes (entry_references e) o) → HoldNone o entries
all_free o [] h = λ k. k
all_free o (e ∷ entries) h = cons_free e entries o (h e (inl refl)) (all_free o entries (λ d m. h d (inr m)))

pub got_free : (entries : List Entry) (i o : ℕ) (e : Entry) → slice_get entries i ≡ Some e → HoldNone o entries → ¬ Includes (entry_references e) o
got_free entries i o e at h m = h (references_of_member entries e o (slice_get_member entries i e at) m)

pub put_free : (entries : List Entry) (key v : Val) (o : ℕ) → HoldNone o entries → IsNotTo o key → IsNotTo o v → HoldNone o (put entries key v)
put_free [] key v o h k n = cons_free (record { key = key; val = v }) [] o (entry_free (record { key = key; val = v }) o n k) h
put_free (e ∷ entries) key v o h k n = go (same_value e.key key) (put_free entries key v o (tail_free e entries o h) k n)
  where
    go : (b : Bool) → HoldNone o (put entries key v) → HoldNone o (if b then record { key = e.key; val = v } ∷ entries else e ∷ put entries key v)
    go true rest = cons_free (record { key = e.key; val = v }) entries o (entry_free (record { key = e.key; val = v }) o n (entry_key e o (head_free e entries o h))) (tail_free e entries o h)
    go false rest = cons_free e (put entries key v) o (head_free e entries o h) rest

pub value_at_free : (entries : List Entry) (key v : Val) (o : ℕ) → value_at entries key ≡ Some v → HoldNone o entries → IsNotTo o v
value_at_free [] key v o e h = absurd (let no : None ≡ Some v = e in cc)
value_at_free (x ∷ entries) key v o e h = go (same_value x.key key) e (λ k. value_at_free entries key v o k (tail_free x entries o h))
  where
    go : (b : Bool) → (if b then Some x.val else value_at entries key) ≡ Some v → (value_at entries key ≡ Some v → IsNotTo o v) → IsNotTo o v
    go true k ih = let same : x.val ≡ v = cc in subst (IsNotTo o) same (entry_val x o (head_free x entries o h))
    go false k ih = ih k

pub old_value_free : (entries : List Entry) (key : Val) (o : ℕ) → HoldNone o entries → ¬ Includes (references_of_value (value_at entries key)) o
old_value_free entries key o h = go (value_at entries key) refl
  where
    go : (m : Option Val) → value_at entries key ≡ m → ¬ Includes (references_of_value m) o
    go None e = λ k. k
    go (Some v) e = option_free (reference_in v) o (value_at_free entries key v o e h)

pub name_free : (names : List (Option Val)) (x o : ℕ) → ¬ Includes (name_holdings names) o → ¬ Includes (references_of_value (option_and_then (λ v. v) (slice_get names x))) o
name_free [] x o h k = k
name_free (n ∷ names) zero o h k = h (Includes-append_left (references_of_value n) (name_holdings names) o k)
name_free (n ∷ names) (suc x) o h k = name_free names x o (λ m. h (Includes-append_right (references_of_value n) (name_holdings names) o m)) k

pub bound_free : (names : List (Option Val)) (x o : ℕ) (v : Option Val) → ¬ Includes (references_of_value v) o → ¬ Includes (name_holdings names) o → ¬ Includes (name_holdings (slice_set names x v)) o
bound_free [] x o v free h k = h k
bound_free (n ∷ names) zero o v free h k = either (Includes-append_cases (references_of_value v) (name_holdings names) o k) free
    (λ m. h (Includes-append_right (references_of_value n) (name_holdings names) o m))
bound_free (n ∷ names) (suc x) o v free h k =
    either (Includes-append_cases (references_of_value n) (name_holdings (slice_set names x v)) o k) (λ m. h (Includes-append_left (references_of_value n) (name_holdings names) o m))
    (bound_free names x o v free (λ m. h (Includes-append_right (references_of_value n) (name_holdings names) o m)))

-- the operands of a command
module _ (w : World) (over : AreOver w.stack) where
  -- a value refers to no object that is forgotten
  abbrev pub IsKnown : Val → Type 0
  IsKnown v = (o : ℕ) → Forgotten w o → IsNotTo o v

  same_known : (u v : Val) → Some u ≡ Some v → IsKnown u → IsKnown v
  same_known u v e h = let same : u ≡ v = cc in subst IsKnown same h

  none_known : (v : Val) → None ≡ Some v → IsKnown v
  none_known v e = absurd (let no : None ≡ Some v = e in cc)

  name_known : (v : Val) (x : ℕ) → option_and_then (λ v. v) (slice_get w.names x) ≡ Some v → IsKnown v
  name_known v x e o f k = name_free w.names x o f.unheld.names (subst (λ m. Includes (references_of_value m) o) (sym e) (option_held (reference_in v) o k))

  self_case : (sort : FrameSort) (subject : ℕ) (below : List Activity) (o : ℕ) → IsLocalHeld sort subject below → self_in sort subject ≡ Some o → Includes (flat_map holds below) o
  self_case Callback subject below o h e = absurd (let no : None ≡ Some o = e in cc)
  self_case Call subject below o h e = absurd (let no : None ≡ Some o = e in cc)
  self_case sort subject below o h e = let same : subject ≡ o = cc in subst (Includes (flat_map holds below)) same h

  weak_case : (sort : FrameSort) (subject : ℕ) (below : List Activity) (o : ℕ) → IsLocalHeld sort subject below → weak_in sort subject ≡ Some o → Includes (flat_map holds below) o
  weak_case Callback subject below o h e = let same : subject ≡ o = cc in subst (Includes (flat_map holds below)) same h
  weak_case sort subject below o h e = absurd (let no : None ≡ Some o = e in cc)

  self_held : (stack : List Activity) (o : ℕ) → AreOver stack → option_and_then (λ f. self_in f.sort f.subject) (frame_on stack) ≡ Some o → Includes (flat_map holds stack) o
  self_held (Framed f ∷ below) o h e = Includes-append_right (holds (Framed f)) (flat_map holds below) o (self_case f.sort f.subject below o h.0 e)
  self_held xs o h e = absurd (let no : None ≡ Some o = e in cc)

  weak_held : (stack : List Activity) (o : ℕ) → AreOver stack → option_and_then (λ f. weak_in f.sort f.subject) (frame_on stack) ≡ Some o → Includes (flat_map holds stack) o
  weak_held (Framed f ∷ below) o h e = Includes-append_right (holds (Framed f)) (flat_map holds below) o (weak_case f.sort f.subject below o h.0 e)
  weak_held xs o h e = absurd (let no : None ≡ Some o = e in cc)

  local_known : (m : Option ℕ) (v : Val) → ((o : ℕ) → m ≡ Some o → Includes (flat_map holds w.stack) o) → option_map Ref m ≡ Some v → IsKnown v
  local_known None v held e = none_known v e
  local_known (Some s) v held e = same_known (Ref s) v e (λ o f k. f.unheld.stack (held o k))

  function_known : (m : Option ℕ) (i : ℕ) (v : Val) → option_and_then (λ o. option_map (λ (e : Entry). e.val) (slice_get (entries_of w.objects o) i)) m ≡ Some v → IsKnown v
  function_known None i v e = none_known v e
  function_known (Some s) i v e = go (slice_get (entries_of w.objects s) i) refl e
    where
      go : (m : Option Entry) → slice_get (entries_of w.objects s) i ≡ m → option_map (λ (e : Entry). e.val) m ≡ Some v → IsKnown v
      go None at k = none_known v k
      go (Some entry) at k = same_known entry.val v k (λ o f. entry_val entry o (got_free (entries_of w.objects s) i o entry at (entries_free w.objects s o f.unheld.quiet)))

  cell_known : (m : Option Frame) (i : ℕ) (v : Val)
      → option_and_then (λ (f : Frame). option_and_then (λ o. option_map (λ (e : Entry). e.val) (slice_get (entries_of w.objects o) i)) f.function) m ≡ Some v
      → IsKnown v
  cell_known None i v e = none_known v e
  cell_known (Some f) i v e = function_known f.function i v e

  pub operand_known : (operand : Operand) (v : Val) → value_of w operand ≡ Some v → IsKnown v
  operand_known NoneWord v e = same_known Nothing v e (λ o f k. let no : None ≡ Some o = k in cc)
  operand_known (IntWord n) v e = same_known (Int n) v e (λ o f k. let no : None ≡ Some o = k in cc)
  operand_known (StrWord s) v e = same_known (Str s) v e (λ o f k. let no : None ≡ Some o = k in cc)
  operand_known (Name x) v e = name_known v x e
  operand_known SelfLocal v e = local_known (option_and_then (λ f. self_in f.sort f.subject) (frame_on w.stack)) v (λ o k. self_held w.stack o over k) e
  operand_known WeakLocal v e = local_known (option_and_then (λ f. weak_in f.sort f.subject) (frame_on w.stack)) v (λ o k. weak_held w.stack o over k) e
  operand_known (Cell i) v e = cell_known (frame_on w.stack) i v e
  operand_known Garbage v e = same_known (Ref 1) v e (λ o f k. f.unheld.root (let same : 1 ≡ o = cc in sym same))
