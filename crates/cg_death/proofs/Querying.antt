-- What the heap answers about weak references is true of the world.
use Rattle.std.proofs.Common.{◌≡◌, ◌≢◌, refl, sym, ◌∙◌, ap, subst, ℕ, ◌<◌, Bool, true, false, not, inl, inr, List, [], ◌∷◌, ◌++◌, length, Option, Some, None, IsSome, arith}
use Rattle.std.specs.Prelude.{◌⊎◌, ◌==◌, ◌↔◌, IfSome, IsNone, if◌then◌else◌, unwrap_or, option_map, slice_get}
use Rattle.std.proofs.lemmas.Bool.{not-true, eqb-true}
use Rattle.std.specs.FinMap as fin
use Rattle.cg_value.specs.declared.Entry.{Entry}
use Rattle.cg_value.specs.declared.KindCode.{KindCode}
use Rattle.cg_value.specs.declared.KindCode.TheVariants.{Inst, Func, Weak}
use Rattle.cg_value.specs.declared.Val.TheVariants.{Ref}
use Rattle.cg_graph.specs.Holdings.{occurrences}
use Rattle.cg_graph.specs.Value.{reference_in, references, entry_references, item, without_last}
use Rattle.cg_graph.specs.Object.{Object, object_at}
use Rattle.cg_graph.specs.Rows.{Row, referent_in, waited_in, refers_to, waits_with, weak_references_in, waiting_in}
use Rattle.cg_graph.specs.Store.{Store, Node, objects_of, object_from, inner, entries_of, IsLive, HasCode}
use Rattle.cg_graph.specs.Changes.{held, rewritten}
use Rattle.cg_graph.proofs.Objects.{object-at}
use Rattle.cg_graph.proofs.Members.{true_and}
use Rattle.cg_machine.specs.Weak.{weak_references, weak_references_if, has_weak_references, callback_in}
use Rattle.cg_heap.specs.Weak.{AreRows}
use Rattle.cg_heap.proofs.HoldLemmas.{entries_hold}
use Rattle.cg_heap.proofs.CallerLemmas.{live_of_kind, lives_on, kinds-held, kinds-rewritten}
use Rattle.cg_represents.proofs.Representing.{occurrences-one}
use Rattle.cg_death.proofs.RowSplits.{all_in, head_in, row_of_one, split_at, referent-is, waited-is}
use Rattle.cg_death.proofs.WeakObjects.{weak_references-are}

-- the weak references of an object that passes a test, and of one that does not
module _ (store : Store) (o : ℕ) (ok : AreRows store) (test : Object → Bool) where
  pub those-if : unwrap_or (option_map test (object_at (objects_of store) o)) false ≡ true → slice_get (weak_references_in store.rows o) 0 ≡ slice_get (weak_references_if test (objects_of store) o) 0
  those-if passes = ap (λ l. slice_get l 0) (sym (weak_references-are store ok o)) ∙ ap (λ b. slice_get (if b then weak_references (objects_of store) o else []) 0) (sym passes)

  pub none-if : unwrap_or (option_map test (object_at (objects_of store) o)) false ≡ false → None ≡ slice_get (weak_references_if test (objects_of store) o) 0
  none-if fails = ap (λ b. slice_get (if b then weak_references (objects_of store) o else []) 0) (sym fails)

-- the newest refers to the object, and lives
pub newest-is : (store : Store) (o : ℕ) → AreRows store → (a : Option ℕ) → a ≡ slice_get (weak_references_in store.rows o) 0
    → IfSome a (λ w. referent_in store.rows w ≡ Some o) × IfSome a (λ w. IsLive store w)
newest-is store o ok None e = (tt, tt)
newest-is store o ok (Some w) e =
    let found = row_of_one (refers_to o) store.rows w (head_in (weak_references_in store.rows o) w (sym e)) in
    let parts = true_and (found.0.referent == o) (not found.0.waits) found.2 in (
      subst (λ q. referent_in store.rows q ≡ Some o) found.3 (referent-is store.rows found.0 (split_at store.rows found.0 ok.rise found.1)
          (not-true found.0.waits parts.1) ∙ ap Some (eqb-true found.0.referent o parts.0)),
      subst (IsLive store) found.3 (live_of_kind store found.0.weak Weak (all_in (λ (x : Row). HasCode store x.weak Weak) store.rows found.0 ok.weak found.1)),
    )

-- instances and functions may have weak references
module _ (store : Store) (o : ℕ) (code : KindCode) (live : IsLive store o) (is : IfSome (fin.get store.nodes o) (λ n. code ≡ n.code)) where
  pub supports-at : (code ≡ Inst) ⊎ (code ≡ Func) → unwrap_or (option_map has_weak_references (object_at (objects_of store) o)) false ≡ true
  supports-at either' = ap (λ x. unwrap_or (option_map has_weak_references x) false) (object-at store o) ∙ known (fin.get store.nodes o) live is either'
    where
      known : (x : Option Node) → IsSome x → IfSome x (λ n. code ≡ n.code) → (code ≡ Inst) ⊎ (code ≡ Func)
          → unwrap_or (option_map has_weak_references (option_map (object_from store.rows o) x)) false ≡ true
      known None h e one = cc
      known (Some n) h e (inl one) = ap (λ k. has_weak_references (object_from store.rows o (record n { code = k }))) (sym e ∙ one)
      known (Some n) h e (inr one) = ap (λ k. has_weak_references (object_from store.rows o (record n { code = k }))) (sym e ∙ one)

  pub not-supports-at : code ≢ Inst → code ≢ Func → unwrap_or (option_map has_weak_references (object_at (objects_of store) o)) false ≡ false
  not-supports-at i f = ap (λ x. unwrap_or (option_map has_weak_references x) false) (object-at store o) ∙ known (fin.get store.nodes o) live is
    where
      by_kind : (n : Node) (k : KindCode) → k ≢ Inst → k ≢ Func → has_weak_references (object_from store.rows o (record n { code = k })) ≡ false
      by_kind n Inst i f = absurd (i refl)
      by_kind n Func i f = absurd (f refl)
      by_kind n k i f = refl

      known : (x : Option Node) → IsSome x → IfSome x (λ n. code ≡ n.code) → unwrap_or (option_map has_weak_references (option_map (object_from store.rows o) x)) false ≡ false
      known None h e = cc
      known (Some n) h e = by_kind n n.code (λ one. i (e ∙ one)) (λ one. f (e ∙ one))

-- whether there is a callback, by the entries
pub no_entry : (entries : List Entry) → length entries ≡ 0 → None ≡ callback_in entries
no_entry [] e = refl
no_entry (x ∷ entries) e = absurd (omega (arith, e))

pub first_entry : (entries : List Entry) (e : Entry) → slice_get entries 0 ≡ Some e → callback_in entries ≡ reference_in e.val
first_entry [] e is = absurd (cc)
first_entry (x ∷ entries) e is = let same : x ≡ e = cc in ap (λ (y : Entry). reference_in y.val) same

-- the newest waiting one waits, and lives
pub newest-waits : (store : Store) (o w : ℕ) → AreRows store → slice_get (waiting_in store.rows o) 0 ≡ Some w → IsSome (waited_in store.rows w) × IsLive store w
newest-waits store o w ok e =
    let found = row_of_one (waits_with o) store.rows w (head_in (waiting_in store.rows o) w e) in
    let parts = true_and (found.0.referent == o) found.0.waits found.2 in (
      subst IsSome (sym (subst (λ q. waited_in store.rows q ≡ Some found.0.referent) found.3 (waited-is store.rows found.0 (split_at store.rows found.0 ok.rise found.1) parts.1))) refl,
      subst (IsLive store) found.3 (live_of_kind store found.0.weak Weak (all_in (λ (x : Row). HasCode store x.weak Weak) store.rows found.0 ok.weak found.1)),
    )

-- The single entry of a weak reference with a callback, removed.
pub entry_there : (entries : List Entry) (e : Entry) (r : Option Entry) → entries ≡ e ∷ [] → IsNone r ↔ (entries ≡ []) → IsSome r
entry_there entries e None is none = absurd (let x : e ∷ [] ≡ [] = sym is ∙ none.0 refl in cc)
entry_there entries e (Some x) is none = refl

pub entry-is : (entries : List Entry) (e x : Entry) → entries ≡ e ∷ [] → entries ≡ without_last entries ++ x ∷ [] → x ≡ e
entry-is entries e x is last =
    let one : e ∷ [] ≡ without_last (e ∷ []) ++ x ∷ [] = subst (λ es. es ≡ without_last es ++ x ∷ []) is last in
    let same : e ∷ [] ≡ x ∷ [] = one in
    cc

same_reference : (f g : ℕ) → Some f ≡ Some g → f ≡ g
same_reference f g e = cc

pub callback-is : (store : Store) (weak f g : ℕ) (x : Entry) → entries_of store weak ≡ item (Ref f) ∷ [] → entries_of store weak
    ≡ without_last (entries_of store weak) ++ x ∷ [] → reference_in x.val ≡ Some g → entries_of store weak ≡ item (Ref g) ∷ []
callback-is store weak f g x is last refers =
    let entry : x ≡ item (Ref f) = entry-is (entries_of store weak) (item (Ref f)) x is last in
    let same : f ≡ g = same_reference f g (sym (ap (λ (e : Entry). reference_in e.val) entry) ∙ refers) in
    is ∙ ap (λ k. item (Ref k) ∷ []) same

pub taken-is : (store new : Store) (weak g : ℕ) (x : Entry) → entries_of store weak ≡ item (Ref g) ∷ [] → entries_of store weak
    ≡ without_last (entries_of store weak) ++ x ∷ [] → new ≡ held (entry_references x) (rewritten weak (without_last (entries_of store weak)) store) → new
    ≡ held (g ∷ []) (rewritten weak [] store)
taken-is store new weak g x is last rest =
    let entry : x ≡ item (Ref g) = entry-is (entries_of store weak) (item (Ref g)) x is last in
    rest ∙ (λ i. held (entry_references (entry i)) (rewritten weak (without_last (is i)) store))

-- and the callback lives
pub callback-lives : (store : Store) (weak g : ℕ) → ((q : ℕ) → 0 < inner store q → IsLive store q) → entries_of store weak ≡ item (Ref g) ∷ [] → IsLive (held (g ∷ []) (rewritten weak [] store)) g
callback-lives store weak g sound is =
    let here : occurrences g (references (entries_of store weak)) ≡ occurrences g (g ∷ []) = ap (λ es. occurrences g (references es)) is in
    lives_on (rewritten weak [] store) (held (g ∷ []) (rewritten weak [] store)) (kinds-held (g ∷ []) (rewritten weak [] store)) g
    (lives_on store (rewritten weak [] store) (kinds-rewritten weak [] store) g (sound g (omega (arith, entries_hold store weak g, here, occurrences-one g))))
