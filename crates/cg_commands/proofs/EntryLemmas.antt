-- Commands that add, remove and replace entries.
use Rattle.std.proofs.Common.{◌≡◌, ◌≢◌, refl, sym, ◌∙◌, ap, subst, ℕ, ◌<◌, ◌≤◌, Bool, true, false, not, List, [], ◌∷◌, ◌++◌, length, Option, Some, None, IsSome, Result, Ok, Err, arith, remove}
use Rattle.std.specs.Prelude.{slice_get, ◌↔◌, ℤ, pos}
use Rattle.std.specs.FinMap as fin
use Rattle.cg_value.specs.declared.Val.TheVariants as val
use Rattle.cg_kind.specs.Calls.{CanPut}
use Rattle.std.proofs.lemmas.Bool.{eq-eqb, false≢true}
use Rattle.cg_value.specs.declared.Val.{Val}
use Rattle.cg_value.specs.declared.Entry.{Entry}
use Rattle.cg_value.specs.declared.KindCode.{KindCode}
use Rattle.cg_value.specs.declared.KindCode.TheVariants as kind
use Rattle.cg_graph.specs.Value.{item, entry_at, without_key, entry_references}
use Rattle.cg_graph.specs.Object.{Object, with_entries}
use Rattle.cg_graph.specs.Store.{Store, Node, HasCode, object_from, entries_of}
use Rattle.cg_graph.specs.Changes.{held, rewritten}
use Rattle.cg_graph.proofs.Members.{true_and}
use Rattle.cg_heap.specs.declared.fault.HeapFault.TheVariants as fault
use Rattle.cg_heap.specs.Calls.{IsSound, IsLiveValue, IsMutable, CanTake, CanPutIn, code_of, entry_number}
use Rattle.cg_heap.proofs.CallerLemmas.{kinds-rewritten, lives_on}
use Rattle.cg_heap.proofs.HoldLemmas.{entry_holds}
use Rattle.cg_machine.specs.World.{World, with_change}
use Rattle.cg_machine.specs.Effects.{Effect, Changes, has_room, sets_entries}
use Rattle.cg_machine.specs.Operands.{object, is_dict, is_list, is_script_list}
use Rattle.cg_machine.specs.Weak.{is_instance}
use Rattle.cg_machine.specs.Refusals.{wrong_kind, ◌>>=◌}
use Rattle.cg_represents.specs.Represents.{Represents}
use Rattle.cg_commands.specs.declared.done.Done.TheVariants.{Changed}
use Rattle.cg_commands.specs.declared.locals.Locals.{Locals}
use Rattle.cg_commands.specs.declared.done.Refusal.TheVariants.{WrongKind}
use Rattle.cg_commands.specs.declared.keys.Keyed.{Keyed}
use Rattle.cg_commands.specs.declared.keys.Keyed.TheVariants as keyed
use Rattle.cg_commands.specs.Refusals.{number_of, Declines}
use Rattle.cg_commands.specs.Objects.{RefersTo, bare}
use Rattle.cg_commands.specs.Keys.{kind_of, is_of, missing_in}
use Rattle.cg_commands.proofs.Reading.{object-absent, object-fails}
use Rattle.cg_commands.proofs.FirstRefusal.{stops}
use Rattle.cg_commands.proofs.Steps.{entries-here}
use Rattle.cg_commands.specs.Answers.{PerformsOnHeap}
use Rattle.cg_commands.proofs.ChangesOfHeaps.{gives_up, gives_nothing, refilled}
use Rattle.cg_commands.proofs.Limits.{room, one_fits}
use Rattle.cg_commands.proofs.KeyLemmas.{entry_somewhere}

-- a list
is_list_code : (c : KindCode) → elim c [ kind.List ↦ true | _ ↦ false ] ≡ true → c ≡ kind.List
is_list_code kind.List h = refl
is_list_code kind.Tuple h = cc
is_list_code kind.Dict h = cc
is_list_code kind.Inst h = cc
is_list_code kind.Func h = cc
is_list_code kind.Weak h = cc

pub code-here : (store : Store) (o : ℕ) (c : KindCode) → HasCode store o c → code_of store o ≡ c
code-here store o c (n, at, is) = ap (λ (x : Option Node). elim x [ None ↦ kind.List | Some n ↦ n.code ]) at ∙ is

pub can_take : (store : Store) (o : ℕ) → HasCode store o kind.List → CanTake store o
can_take store o has = (subst IsSome (sym has.1) refl, subst IsMutable (sym (code-here store o kind.List has)) tt)

pub has_list : (store : Store) (v : Val) (o : ℕ) → RefersTo store is_list v o → HasCode store o kind.List
has_list store v o there = (there.node, there.found, is_list_code there.node.code there.passes)

-- a list of the script
module _ (store : Store) (v : Val) (o : ℕ) (there : RefersTo store is_script_list v o) where
  pub is_list_there : there.node.code ≡ kind.List
  is_list_there = is_list_code there.node.code (true_and _ _ there.passes).0

  pub has_script_list : HasCode store o kind.List
  has_script_list = (there.node, there.found, is_list_there)

  -- It is not the garbage list.
  pub not_garbage : o ≢ 1
  not_garbage is = false≢true (sym (ap not (eq-eqb o 1 is)) ∙ (true_and _ _ there.passes).1)

  pub can_put_item : (z : ℤ) (i : ℕ) → z ≡ pos i → i < length (entries_of store o) → CanPutIn store o (val.Int z)
  can_put_item z i at within =
      let can = can_take store o has_script_list in
      (can.0, can.1, subst (λ c. CanPut c (entries_of store o) (val.Int z)) (sym (code-here store o kind.List has_script_list)) (i, ap val.Int at, within))

-- A dictionary or an instance, by its kind.
pub changes : (what : Keyed) → IsMutable (kind_of what)
changes keyed.Dict = tt
changes keyed.Inst = tt

-- the missing key is refused
pub declines-missing : (A : Type 0) (what : Keyed) → Declines {A = A} (missing_in what) (Err (number_of (missing_in what)))
declines-missing A keyed.Dict = refl
declines-missing A keyed.Inst = refl

module _ (store : Store) (what : Keyed) (v : Val) where
  -- a value that is no object is refused,
  pub refuses_value : (locals : Option Locals) (k : World → Object → Result Effect ℕ) → ((o : ℕ) → v ≡ val.Ref o → ⊥) → PerformsOnHeap store locals (λ w. object w (is_of what) wrong_kind v >>= k w)
      store (Err WrongKind)
  refuses_value locals k none = stops store locals (λ w. object w (is_of what) wrong_kind v) k WrongKind (λ w s. object-absent (is_of what) wrong_kind v none w)

  module _ (o : ℕ) (refers : v ≡ val.Ref o) (c : KindCode) (same : c ≡ kind_of what) where
    -- and an object of another kind
    pub refuses_other : (locals : Option Locals) (k : World → Object → Result Effect ℕ) → IsLiveValue store v → ¬ (HasCode store o c)
        → PerformsOnHeap store locals (λ w. object w (is_of what) wrong_kind v >>= k w) store (Err WrongKind)
    refuses_other locals k live differs = stops store locals (λ w. object w (is_of what) wrong_kind v) k WrongKind (λ w s. known w s.represents (fin.get store.nodes o) refl (live o refers))
      where
        fails : (what : Keyed) (c : KindCode) → (c ≡ kind_of what → ⊥) → is_of what (bare c o) ≡ false
        fails keyed.Dict kind.List differs = refl
        fails keyed.Dict kind.Tuple differs = refl
        fails keyed.Dict kind.Dict differs = absurd (differs refl)
        fails keyed.Dict kind.Inst differs = refl
        fails keyed.Dict kind.Func differs = refl
        fails keyed.Dict kind.Weak differs = refl
        fails keyed.Inst kind.List differs = refl
        fails keyed.Inst kind.Tuple differs = refl
        fails keyed.Inst kind.Dict differs = refl
        fails keyed.Inst kind.Inst differs = absurd (differs refl)
        fails keyed.Inst kind.Func differs = refl
        fails keyed.Inst kind.Weak differs = refl

        bared : (what : Keyed) (n : Node) → is_of what (object_from store.rows o n) ≡ is_of what (bare n.code o)
        bared keyed.Dict n = refl
        bared keyed.Inst n = refl

        known : (w : World) → Represents store w → (x : Option Node) → fin.get store.nodes o ≡ x → IsSome x → object w (is_of what) wrong_kind v ≡ Err wrong_kind
        known w r None at live = absurd (cc)
        known w r (Some n) at live = object-fails store (is_of what) wrong_kind v o n refers at (bared what n ∙ fails what n.code (λ e. differs (n, at, e ∙ sym same))) w r

    module _ (has : HasCode store o c) where
      abbrev pub keyed_there : RefersTo store (is_of what) v o
      keyed_there = record { node = has.0; refers = refers; found = has.1; passes = passes what has.0 (has.2 ∙ same) }
        where
          passes : (what : Keyed) (n : Node) → n.code ≡ kind_of what → is_of what (object_from store.rows o n) ≡ true
          passes keyed.Dict n is = ap (λ c. is_dict (bare c o)) is
          passes keyed.Inst n is = ap (λ c. is_instance (bare c o)) is

      -- It is not the garbage list, and may have any key.
      pub keyed_not_garbage : IsSound store → o ≢ 1
      keyed_not_garbage sound is = no_list what (sym same ∙ sym (code-here store o c has) ∙ ap (code_of store) is ∙ code-here store 1 kind.List sound.root)
        where
          no_list : (what : Keyed) → kind_of what ≡ kind.List → ⊥
          no_list keyed.Dict is = cc
          no_list keyed.Inst is = cc

      pub can_put : (key : Val) → CanPutIn store o key
      can_put key =
          let code = sym (code-here store o c has ∙ same) in
          (subst IsSome (sym has.1) refl, subst IsMutable code (changes what), subst (λ c. CanPut c (entries_of store o) key) code (any what))
        where
          any : (what : Keyed) → CanPut (kind_of what) (entries_of store o) key
          any keyed.Dict = tt
          any keyed.Inst = tt

module _ (store : Store) (sound : IsSound store) (locals : Option Locals) (test : Object → Bool) (v : Val) (o : ℕ) (there : RefersTo store test v o) where
  here : entries_of store o ≡ there.node.entries
  here = entries-here store locals test v o there

  -- an item is appended
  pub appends : {X : Type 0} (u : X) (val : Val) (e : Entry) (new : Store) → new ≡ rewritten o (entries_of store o ++ item val ∷ []) store → entry_references e
      ≡ [] → ((Ok u ≡ Err fault.EntryLimit) ↔ (4000000 ≤ entry_number store))
      → PerformsOnHeap store locals (λ w. has_room w 1 >>= (λ _. Ok (Changes true [] [] (with_change (with_entries (there.node.entries ++ item val ∷ [])) o w)))) new (Ok (Changed None e))
  unfolding ◌>>=◌
  appends u val e new is none limit w s =
      gives_nothing _ None e true (with_change (with_entries (there.node.entries ++ item val ∷ [])) o w) store new
      (ap (λ q. q >>= (λ _. Ok (Changes true [] [] (with_change (with_entries (there.node.entries ++ item val ∷ [])) o w)))) (room store w s.represents 1 (one_fits store (Ok u) (λ e. cc) limit.1)))
      none
      (subst (λ st. Represents st (with_change (with_entries (there.node.entries ++ item val ∷ [])) o w))
      (sym (is ∙ ap (λ es. rewritten o (es ++ item val ∷ []) store) here)) (refilled store w s.represents o (there.node.entries ++ item val ∷ [])))

  -- The entries change, and the references of one of them are given up.
  pub refills : (es : List Entry) (i : ℕ) (e given : Entry) (new : Store) → slice_get (entries_of store o) i ≡ Some e → entry_references given ≡ entry_references e
      → new ≡ held (entry_references e) (rewritten o es store)
      → PerformsOnHeap store locals (λ w. sets_entries w (object_from store.rows o there.node) es (entry_references e)) new (Ok (Changed None given))
  refills es i e given new at same is w s =
      gives_up _ None given false (entry_references e) (rewritten o es store) (with_change (with_entries es) o w) store new refl same is (refilled store w s.represents o es)
      (λ q some. lives_on store (rewritten o es store) (kinds-rewritten o es store) q (sound.live q (omega (arith, some, entry_holds store o i e at q))))

  -- one is removed
  pub takes : (i : ℕ) (e : Entry) (new : Store) → slice_get (entries_of store o) i ≡ Some e → new ≡ held (entry_references e) (rewritten o (remove (entries_of store o) i) store)
      → PerformsOnHeap store locals (λ w. sets_entries w (object_from store.rows o there.node) (remove there.node.entries i) (entry_references e)) new (Ok (Changed None e))
  takes i e new at is = refills (remove there.node.entries i) i e e new at refl (is ∙ ap (λ l. held (entry_references e) (rewritten o (remove l i) store)) here)

  -- the one under a key is removed
  pub takes_key : (key : Val) (e given : Entry) (new : Store) → Some e ≡ entry_at (entries_of store o) key → new ≡ held (entry_references e)
      (rewritten o (without_key (entries_of store o) key) store) → entry_references given ≡ entry_references e
      → PerformsOnHeap store locals (λ w. sets_entries w (object_from store.rows o there.node) (without_key there.node.entries key) (entry_references e)) new (Ok (Changed None given))
  takes_key key e given new at is same =
      let (i, found) = entry_somewhere (entries_of store o) key e (sym at) in
      refills (without_key there.node.entries key) i e given new found same (is ∙ ap (λ l. held (entry_references e) (rewritten o (without_key l key) store)) here)
