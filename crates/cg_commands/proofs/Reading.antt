-- What a heap says of the world that it represents: the values of operands, and the objects that values refer to.
use Rattle.std.proofs.Common.{◌≡◌, refl, sym, ◌∙◌, ap, subst, ℕ, ◌<◌, Bool, false, [], ◌∷◌, Option, Some, None, IsSome, Result, Ok, Err, arith}
use Rattle.std.proofs.Common.{T, w64}
use mir.Val.{to_z, of_z}
use Rattle.std.proofs.Math.Facts.{to_z-of_z, sfits_lit}
use Rattle.std.specs.Int.Signed.{mag}
use Rattle.std.specs.Prelude.{ℤ, ◌==◌, option_map, option_and_then, unwrap_or, slice_get, ok_or, if◌then◌else◌, IfSome}
use Rattle.std.proofs.lemmas.Bool.{eq-eqb, lt-ltb}
use Rattle.std.specs.FinMap as fin
use Rattle.cg_value.specs.declared.Val.{Val}
use Rattle.cg_value.specs.declared.Val.TheVariants as val
use Rattle.cg_value.specs.declared.Entry.{Entry}
use Rattle.cg_value.specs.declared.KindCode.{KindCode}
use Rattle.cg_graph.specs.Holdings.{occurrences}
use Rattle.cg_graph.specs.Value.{reference_in, references_of_value, value_at}
use Rattle.cg_graph.specs.Object.{Object, object_at, entries_of as entries_in_world}
use Rattle.cg_graph.specs.Store.{Store, Node, IsLive, object_from, entries_of, entries_in}
use Rattle.cg_graph.proofs.Objects.{object-at, occurrences-append}
use Rattle.cg_script.specs.declared.command.Operand.{Operand}
use Rattle.cg_script.specs.declared.command.Operand.TheVariants as operand
use Rattle.cg_heap.specs.Calls.{IsSound, IsLiveValue}
use Rattle.cg_heap.proofs.ReferenceLemmas.{occurrences-one, one_if}
use Rattle.cg_heap.proofs.HoldLemmas.{entry_holds, name_holds}
use Rattle.cg_machine.specs.declared.event.FrameSort.{FrameSort}
use Rattle.cg_machine.specs.World.{World, Frame}
use Rattle.cg_machine.specs.Operands.{frame_on, value_of, object, tested}
use Rattle.cg_machine.specs.Refusals.{◌>>=◌}
use Rattle.cg_represents.specs.Represents.{Represents}
use Rattle.cg_commands.proofs.KeyLemmas.{value_somewhere}
use Rattle.cg_commands.specs.declared.locals.Locals.{Locals}
use Rattle.cg_commands.specs.Refusals.{number_of, Declines}
use Rattle.cg_commands.specs.Stands.{locals_of, ReadsValue}
use Rattle.cg_commands.specs.declared.operands.Wanted.{Wanted}
use Rattle.cg_commands.specs.declared.operands.Wanted.TheVariants as wanted
use Rattle.cg_commands.specs.Objects.{RefersTo, HasNoObject, test_of, refusal_of, bare}

-- the object of a serial in the world
pub object-at_node : (store : Store) (w : World) → Represents store w → (o : ℕ) → object_at w.objects o ≡ option_map (object_from store.rows o) (fin.get store.nodes o)
object-at_node store w r o = ap (λ os. object_at os o) (sym r.objects) ∙ object-at store o

pub entries-in_world : (store : Store) (w : World) → Represents store w → (o : ℕ) → entries_in_world w.objects o ≡ entries_of store o
entries-in_world store w r o = ap (λ x. unwrap_or (option_map (λ x. x.entries) x) []) (object-at_node store w r o) ∙ known (fin.get store.nodes o)
  where
    known : (n : Option Node) → unwrap_or (option_map (λ x. x.entries) (option_map (object_from store.rows o) n)) [] ≡ entries_in n
    known None = refl
    known (Some n) = refl

-- questions about the top frame are questions about its locals
of_locals : {X : Type 0} (g : FrameSort → ℕ → Option ℕ → Option X) (f : Option Frame) (locals : Option Locals) → option_map locals_of f ≡ locals
    → option_and_then (λ f. g f.sort f.subject f.function) f ≡ option_and_then (λ l. g l.sort l.subject l.func) locals
of_locals {X} g f locals is = known f ∙ ap (option_and_then (λ l. g l.sort l.subject l.func)) is
  where
    known : (f : Option Frame) → option_and_then (λ f. g f.sort f.subject f.function) f ≡ option_and_then (λ l. g l.sort l.subject l.func) (option_map locals_of f)
    known None = refl
    known (Some f) = refl

pub reads-cell : (store : Store) (locals : Option Locals) (i : ℕ) (word : Operand) (v : Option Val) → word ≡ operand.Cell i → v
    ≡ option_and_then (λ l. option_and_then (λ f. option_map (λ e. e.val) (slice_get (entries_of store f) i)) l.func) locals → ReadsValue store locals word v
reads-cell store locals i word v is told w s =
    ap (value_of w) is
    ∙ of_locals (λ sort subject f. option_and_then (λ o. option_map (λ e. e.val) (slice_get (entries_in_world w.objects o) i)) f) (frame_on w.stack) locals s.locals_are
    ∙ each locals
    ∙ sym told
  where
    cell : (f : Option ℕ) → option_and_then (λ o. option_map (λ e. e.val) (slice_get (entries_in_world w.objects o) i)) f
        ≡ option_and_then (λ o. option_map (λ e. e.val) (slice_get (entries_of store o) i)) f
    cell None = refl
    cell (Some f) = ap (λ es. option_map (λ e. e.val) (slice_get es i)) (entries-in_world store w s.represents f)

    each : (l : Option Locals) → option_and_then (λ (l : Locals). option_and_then (λ o. option_map (λ e. e.val) (slice_get (entries_in_world w.objects o) i))
        l.func) l ≡ option_and_then (λ (l : Locals). option_and_then (λ f. option_map (λ e. e.val) (slice_get (entries_of store f) i)) l.func) l
    each None = refl
    each (Some l) = cell l.func

pub reads-name : (store : Store) (locals : Option Locals) (x : ℕ) (v : Option Val) → slice_get store.names x ≡ Some v → ReadsValue store locals (operand.Name x) v
reads-name store locals x v is w s = ap (option_and_then (λ v. v)) (ap (λ ns. slice_get ns x) (sym s.represents.names) ∙ is)

-- what names and entries hold lives
holds_one : (s : ℕ) → 0 < occurrences s (s ∷ [])
holds_one s = let one : one_if (s == s) ≡ 1 = ap one_if (eq-eqb s s refl) in omega (arith, one, occurrences-one s s)

pub live-name : (store : Store) → IsSound store → (x : ℕ) (v : Option Val) → slice_get store.names x ≡ Some v → IfSome v (λ v. IsLiveValue store v)
live-name store sound x None is = tt
live-name store sound x (Some v) is = λ s e.
    let here : occurrences s (references_of_value (Some v)) ≡ occurrences s (s ∷ []) = ap (λ v. occurrences s (references_of_value (Some v))) e in
    sound.live s (omega (arith, here, holds_one s, name_holds store x (Some v) is s))

pub live-value_in : (store : Store) → IsSound store → (o i : ℕ) (e : Entry) → slice_get (entries_of store o) i ≡ Some e → IsLiveValue store e.val
live-value_in store sound o i e at s is =
    let here : occurrences s (references_of_value (Some e.val)) ≡ occurrences s (s ∷ []) = ap (λ v. occurrences s (references_of_value (Some v))) is in
    sound.live s (omega (arith, here, holds_one s, entry_holds store o i e at s, occurrences-append s (references_of_value (Some e.val)) (references_of_value (Some e.key))))

pub live-value_at : (store : Store) → IsSound store → (o : ℕ) (key found : Val) → Some found ≡ value_at (entries_of store o) key → IsLiveValue store found
live-value_at store sound o key found at =
    let (i, (e, (there, is))) = value_somewhere (entries_of store o) key found (sym at) in
    subst (IsLiveValue store) is (live-value_in store sound o i e there)

-- the object that a value refers to, in the world
pub object-found : (store : Store) (w : World) → Represents store w → (test : Object → Bool) (k : ℕ) (v : Val) (o : ℕ) (there : RefersTo store test v o)
    → object w test k v ≡ Ok (object_from store.rows o there.node)
unfolding ◌>>=◌
object-found store w r test k v o there =
    ap (λ v. object w test k v) there.refers
    ∙ ap (λ x. ok_or x k >>= tested test k) (object-at_node store w r o ∙ ap (option_map (object_from store.rows o)) there.found)
    ∙ ap (λ b. if b then Ok (object_from store.rows o there.node) else Err k) there.passes

-- a value without an object, or with one that does not pass, is refused
declined : {A : Type 0} (kind : Wanted) (r : Result A ℕ) → r ≡ Err (number_of (refusal_of kind)) → Declines (refusal_of kind) r
declined wanted.Any r is = is
declined wanted.List r is = is
declined wanted.ScriptList r is = is
declined wanted.Sequence r is = is
declined wanted.Dict r is = is
declined wanted.Func r is = is
declined wanted.Referable r is = is
declined wanted.Weak r is = is

pub no_reference : (v : Val) → ((o : ℕ) → v ≡ val.Ref o → ⊥) → reference_in v ≡ None
no_reference val.None none = refl
no_reference (val.Int n) none = refl
no_reference (val.Str n) none = refl
no_reference (val.Ref o) none = absurd (none o refl)

pub object-absent : (test : Object → Bool) (k : ℕ) (v : Val) → ((o : ℕ) → v ≡ val.Ref o → ⊥) → (w : World) → object w test k v ≡ Err k
unfolding ◌>>=◌
object-absent test k v none w = ap (λ x. ok_or (option_and_then (object_at w.objects) x) k >>= tested test k) (no_reference v none)

pub object-none : (store : Store) (kind : Wanted) (v : Val) → ((o : ℕ) → v ≡ val.Ref o → ⊥) → HasNoObject store (test_of kind) (number_of (refusal_of kind)) v (refusal_of kind)
object-none store kind v none w r = declined kind _ (object-absent (test_of kind) (number_of (refusal_of kind)) v none w)

-- the tests use only the kind and the serial
pub test-bare : (kind : Wanted) (x : Object) → test_of kind x ≡ test_of kind (bare x.code x.serial)
test-bare wanted.Any x = refl
test-bare wanted.List x = refl
test-bare wanted.ScriptList x = refl
test-bare wanted.Sequence x = refl
test-bare wanted.Dict x = refl
test-bare wanted.Func x = refl
test-bare wanted.Referable x = refl
test-bare wanted.Weak x = refl

-- a live object that does not pass
pub object-fails : (store : Store) (test : Object → Bool) (k : ℕ) (v : Val) (o : ℕ) (n : Node) → v ≡ val.Ref o → fin.get store.nodes o ≡ Some n
    → test (object_from store.rows o n) ≡ false → (w : World) → Represents store w → object w test k v ≡ Err k
unfolding ◌>>=◌
object-fails store test k v o n refers at fails w r =
    ap (λ v. object w test k v) refers
    ∙ ap (λ x. ok_or x k >>= tested test k) (object-at_node store w r o ∙ ap (option_map (object_from store.rows o)) at)
    ∙ ap (λ b. if b then Ok (object_from store.rows o n) else Err k) fails

pub object-other : (store : Store) (kind : Wanted) (v : Val) (o : ℕ) (code : KindCode) → v ≡ val.Ref o → IsLive store o
    → IfSome (fin.get store.nodes o) (λ n. code ≡ n.code) → test_of kind (bare code o) ≡ false → HasNoObject store (test_of kind) (number_of (refusal_of kind)) v (refusal_of kind)
object-other store kind v o code refers live told fails w r = declined kind _ (known (fin.get store.nodes o) refl live told)
  where
    known : (x : Option Node) → fin.get store.nodes o ≡ x → IsSome x → IfSome x (λ n. code ≡ n.code) → object w (test_of kind) (number_of (refusal_of kind)) v
        ≡ Err (number_of (refusal_of kind))
    known None at live told = absurd (cc)
    known (Some n) at live told = object-fails store (test_of kind) (number_of (refusal_of kind)) v o n refers at
        (test-bare kind (object_from store.rows o n) ∙ ap (λ c. test_of kind (bare c o)) (sym told) ∙ fails) w r

-- what a value refers to lives
pub refers_live : (store : Store) (test : Object → Bool) (v : Val) (o : ℕ) → RefersTo store test v o → IsLive store o
refers_live store test v o there = subst IsSome (sym there.found) refl

-- a number of 64 bits is read back unchanged
pub read_back : (z : ℤ) → mag z < 9223372036854775808 → to_z w64 (of_z w64 z) ≡ z
read_back z fits = to_z-of_z {w = w64} {z = z} (sfits_lit {w = w64} {z = z} (subst T (sym (lt-ltb (mag z) 9223372036854775808 fits)) tt))
