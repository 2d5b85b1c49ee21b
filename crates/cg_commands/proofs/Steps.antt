-- What a command reads after its operands, as the heap answers: objects, indices, entries and keys.
use Rattle.std.proofs.Common.{◌≡◌, refl, sym, ◌∙◌, ap, subst, ℕ, Bool, true, false, not, List, length, Option, Some, None, IsSome, Result, Err}
use Rattle.std.specs.Prelude.{slice_get, ok_or, ℤ, IfSome, option_map, option_and_then}
use Rattle.std.specs.FinMap as fin
use Rattle.cg_value.specs.declared.Val.{Val}
use Rattle.cg_value.specs.declared.Val.TheVariants as val
use Rattle.cg_value.specs.declared.Entry.{Entry}
use Rattle.cg_value.specs.declared.KindCode.{KindCode}
use Rattle.cg_value.specs.declared.Place.{Place}
use Rattle.cg_value.specs.declared.Place.TheVariants.{Untracked}
use Rattle.cg_graph.specs.Object.{Object, object_at, same_place, is_tracked}
use Rattle.cg_graph.specs.Store.{Store, Node, IsLive, object_from, entries_of, entries_in, place_of, place_in}
use Rattle.cg_machine.specs.World.{World}
use Rattle.cg_machine.specs.Effects.{Effect, valid_index, is_hashable}
use Rattle.cg_machine.specs.Operands.{object, object_of}
use Rattle.cg_machine.specs.Refusals.{◌>>=◌, no_index, unhashable, unless}
use Rattle.cg_represents.specs.Represents.{Represents}
use Rattle.cg_commands.specs.declared.done.Done.{Done}
use Rattle.cg_commands.specs.declared.done.Refusal.{Refusal}
use Rattle.cg_commands.specs.declared.done.Refusal.TheVariants.{NoIndex}
use Rattle.cg_commands.specs.declared.locals.Locals.{Locals}
use Rattle.cg_commands.specs.declared.operands.Wanted.TheVariants as wanted
use Rattle.cg_commands.specs.Refusals.{Declines}
use Rattle.cg_commands.specs.Stands.{Reads}
use Rattle.cg_commands.specs.Answers.{AnswersOnHeap, PerformsOnHeap}
use Rattle.cg_commands.specs.Objects.{RefersTo, Tells, IsKey, test_of, bare}
use Rattle.cg_commands.proofs.Reading.{object-at_node, object-found, no_reference}
use Rattle.cg_commands.proofs.FirstRefusal.{stops, goes_on, goes_on_two}

module _ (store : Store) (locals : Option Locals) (test : Object → Bool) (v : Val) (o : ℕ) (there : RefersTo store test v o) where
  pub reads-object : (k : ℕ) → Reads store locals (λ w. object w test k v) (object_from store.rows o there.node)
  reads-object k w s = object-found store w s.represents test k v o there

  pub entries-here : entries_of store o ≡ there.node.entries
  entries-here = ap entries_in there.found

  -- the object is there, so the rest decides
  pub at_object : (k : ℕ) (rest : World → Object → Result Effect ℕ) (new : Store) (answer : Result Done Refusal)
      → PerformsOnHeap store locals (λ w. rest w (object_from store.rows o there.node)) new answer → PerformsOnHeap store locals (λ w. object w test k v >>= rest w) new answer
  at_object k rest new answer = goes_on store new locals (λ w. object w test k v) (object_from store.rows o there.node) rest answer (reads-object k)

  -- and so is what is looked for in its entries, or it is not
  pub at_entry : {X : Type 0} (k n : ℕ) (f : List Entry → Option X) (found : X) → Some found ≡ f (entries_of store o) → (rest : World → Object → X → Result Effect ℕ)
      (new : Store) (answer : Result Done Refusal) → PerformsOnHeap store locals (λ w. rest w (object_from store.rows o there.node) found) new answer
      → PerformsOnHeap store locals (λ w. object w test k v >>= (λ x. ok_or (f x.entries) n >>= rest w x)) new answer
  at_entry k n f found at rest new answer =
      goes_on_two store new locals (λ w. object w test k v) (λ w x. ok_or (f x.entries) n) (object_from store.rows o there.node) found rest answer (reads-object k)
      (λ w s. ap (λ es. ok_or (f es) n) (sym entries-here) ∙ ap (λ x. ok_or x n) (sym at))

  pub no_entry : {X : Type 0} (k n : ℕ) (f : List Entry → Option X) → None ≡ f (entries_of store o) → (r : Refusal) → Declines {A = X} r (Err n)
      → (rest : World → Object → X → Result Effect ℕ) → PerformsOnHeap store locals (λ w. object w test k v >>= (λ x. ok_or (f x.entries) n >>= rest w x)) store (Err r)
  no_entry {X} k n f at r declines rest =
      at_object k (λ w x. ok_or (f x.entries) n >>= rest w x) store (Err r)
      (stops store locals (λ w. ok_or (f there.node.entries) n) (λ w. rest w (object_from store.rows o there.node)) r
      (λ w s. subst (Declines {A = X} r) (sym (ap (λ es. ok_or (f es) n) (sym entries-here) ∙ ap (λ x. ok_or x n) (sym at))) declines))

  -- the entry at an index
  pub at_index : (k : ℕ) (index arg : ℤ) → arg ≡ index → (i : ℕ) → valid_index arg (length (entries_of store o)) ≡ Some i → (e : Entry)
      → slice_get (entries_of store o) i ≡ Some e → (rest : World → Object → ℕ → Entry → Result Effect ℕ) (new : Store) (answer : Result Done Refusal)
      → PerformsOnHeap store locals (λ w. rest w (object_from store.rows o there.node) i e) new answer → PerformsOnHeap store locals (λ w. object w test k v
      >>= (λ x. ok_or (valid_index index (length x.entries)) no_index >>= (λ i. ok_or (slice_get x.entries i) no_index >>= rest w x i))) new answer
  at_index k index arg same i at e here rest new answer done =
      at_entry k no_index (λ es. valid_index index (length es)) i (sym at ∙ ap (λ z. valid_index z (length (entries_of store o))) same)
      (λ w x i. ok_or (slice_get x.entries i) no_index >>= rest w x i) new answer
      (goes_on store new locals (λ w. ok_or (slice_get there.node.entries i) no_index) e (λ w. rest w (object_from store.rows o there.node) i) answer
      (λ w s. ap (λ es. ok_or (slice_get es i) no_index) (sym entries-here) ∙ ap (λ x. ok_or x no_index) here) done)

  pub past_index : (k : ℕ) (index arg : ℤ) → arg ≡ index → (r : Refusal) → r ≡ NoIndex → valid_index arg (length (entries_of store o)) ≡ None
      → (rest : World → Object → ℕ → Result Effect ℕ) → PerformsOnHeap store locals (λ w. object w test k v
      >>= (λ x. ok_or (valid_index index (length x.entries)) no_index >>= rest w x)) store (Err r)
  past_index k index arg same r is at =
      no_entry k no_index (λ es. valid_index index (length es)) (sym at ∙ ap (λ z. valid_index z (length (entries_of store o))) same) r
      (subst (λ q. Declines {A = ℕ} q (Err no_index)) (sym is) refl)

-- An allowed key is no obstacle.
pub with_key : (store new : Store) (locals : Option Locals) (key : Val) → IsKey store key true → (read : World → Result Object ℕ) (rest : World → Object → Result Effect ℕ)
    (answer : Result Done Refusal) → PerformsOnHeap store locals (λ w. read w >>= rest w) new answer
    → PerformsOnHeap store locals (λ w. read w >>= (λ x. unless (is_hashable w key) unhashable >>= (λ _. rest w x))) new answer
unfolding ◌>>=◌
with_key store new locals key allowed read rest answer done w s =
    subst (λ b. AnswersOnHeap answer (read w >>= (λ x. unless b unhashable >>= (λ _. rest w x))) store new) (sym (allowed w s.represents)) (done w s)

pub no-key : (store : Store) (test : Object → Bool) (k : ℕ) (v : Val) (o : ℕ) → RefersTo store test v o → (key : Val) (b : Bool) → IsKey store key b → b ≡ false
    → (w : World) → Represents store w → (object w test k v >>= (λ x. unless (is_hashable w key) unhashable)) ≡ Err unhashable
unfolding ◌>>=◌
no-key store test k v o there key b is no' w r = ap (λ q. q >>= (λ x. unless (is_hashable w key) unhashable)) (object-found store w r test k v o there) ∙ ap (λ x. unless x unhashable) (is w r ∙ no')

-- a question about an object
pub tells-object : (store : Store) (question : Object → Bool) (v : Val) (o : ℕ) (b : Bool) → v ≡ val.Ref o → IsLive store o → IfSome (fin.get store.nodes o)
    (λ n. b ≡ question (object_from store.rows o n)) → Tells store question v b
tells-object store question v o b refers live told w r =
    ap (λ v. elim (object_of w v) [ None ↦ false | Some x ↦ question x ]) refers
    ∙ ap (λ x. elim x [ None ↦ false | Some x ↦ question x ]) (object-at_node store w r o)
    ∙ known (fin.get store.nodes o) live told
  where
    known : (n : Option Node) → IsSome n → IfSome n (λ n. b ≡ question (object_from store.rows o n)) → elim (option_map (object_from store.rows o) n) [ None ↦ false | Some x ↦ question x ] ≡ b
    known None live told = absurd (cc)
    known (Some n) live told = sym told

pub tells-none : (store : Store) (question : Object → Bool) (v : Val) → ((o : ℕ) → v ≡ val.Ref o → ⊥) → Tells store question v false
tells-none store question v none w r = ap (λ x. elim (option_and_then (object_at w.objects) x) [ None ↦ false | Some x ↦ question x ]) (no_reference v none)

pub key-object : (store : Store) (v : Val) (o : ℕ) (code : KindCode) (b : Bool) → v ≡ val.Ref o → IsLive store o → IfSome (fin.get store.nodes o) (λ n. code ≡ n.code)
    → b ≡ test_of wanted.Referable (bare code o) → IsKey store v b
key-object store v o code b refers live told is w r =
    ap (is_hashable w) refers
    ∙ ap (λ x. elim x [ None ↦ true | Some x ↦ test_of wanted.Referable x ]) (object-at_node store w r o)
    ∙ known (fin.get store.nodes o) live told
  where
    known : (n : Option Node) → IsSome n → IfSome n (λ n. code ≡ n.code) → elim (option_map (object_from store.rows o) n) [ None ↦ true | Some x ↦ test_of wanted.Referable x ] ≡ b
    known None live told = absurd (cc)
    known (Some n) live told = ap (λ c. test_of wanted.Referable (bare c o)) (sym told) ∙ sym is

pub key-none : (store : Store) (v : Val) → ((o : ℕ) → v ≡ val.Ref o → ⊥) → IsKey store v true
key-none store v none w r = ap (λ x. elim (option_and_then (object_at w.objects) x) [ None ↦ true | Some x ↦ test_of wanted.Referable x ]) (no_reference v none)

-- whether it is tracked
pub tracked_told : (store : Store) (o : ℕ) (p : Place) (b : Bool) → p ≡ place_of store o → b ≡ same_place p Untracked → IfSome (fin.get store.nodes o)
    (λ n. not b ≡ is_tracked (object_from store.rows o n))
tracked_told store o p b told is = known (fin.get store.nodes o) told
  where
    known : (n : Option Node) → p ≡ place_in n → IfSome n (λ n. not b ≡ is_tracked (object_from store.rows o n))
    known None told = tt
    known (Some n) told = ap not (is ∙ ap (λ q. same_place q Untracked) told)
