-- What a caller may conclude about the outside holds of one object, and about what is held inside.
use Rattle.std.proofs.Common.{◌≡◌, ◌≢◌, ℕ, ◌+◌, ◌-◌, ◌<◌, ◌≤◌, Bool, true, false, List, [], ◌∷◌, Option, Some, None, IsSome, get_or, refl, sym, ap, ◌∙◌, subst, inl, inr, arith, sum_by}
use Rattle.std.specs.Prelude.{◌==◌, option_map, if◌then◌else◌, slice_get}
use Rattle.std.proofs.lemmas.Bool.{cases_eq, eq-eqb, ne_eqb}
use Rattle.std.proofs.lemmas.List.Sums.{sum_by-cons, sum_by-set}
use Rattle.std.proofs.lemmas.Option.{slice_get_within, get_or_from_slice_get}
use Rattle.std.specs.FinMap as fin
use Rattle.cg_value.specs.declared.Val.{Val}
use Rattle.cg_value.specs.declared.Entry.{Entry}
use Rattle.cg_value.specs.declared.Place.{Place}
use Rattle.cg_value.specs.declared.KindCode.{KindCode}
use Rattle.cg_graph.specs.Maps.{part}
use Rattle.cg_graph.specs.Holdings.{occurrences, name_holdings}
use Rattle.cg_graph.specs.Value.{references, entry_references, references_of_value}
use Rattle.cg_graph.specs.Store.{Store, Node, held_within, held_by, inner, IsLive, entries_of, entries_in, outside_of, outside_in}
use Rattle.cg_graph.specs.Changes.{more, less, held, unheld, with_entries, rewritten, with_place, moved, made, new_node, gone}
use Rattle.cg_graph.proofs.Maps.{get-mapped, total-remove, get-insert_same, get-insert_other, get-remove_other}
use Rattle.cg_heap.specs.Calls.{with_node}
use Rattle.cg_heap.proofs.ReferenceLemmas.{occurrences-one, occurrences-append, one_if, references-remove}

-- an object with an outside hold lives
pub outside_live : (store : Store) (s : ℕ) → 0 < outside_of store s → IsLive store s
outside_live store s has = known (fin.get store.nodes s) has
  where
    known : (x : Option Node) → 0 < outside_in x → IsSome x
    known None some = absurd (omega (arith, some))
    known (Some n) some = refl

-- one more hold for each reference to it
pub outside-held : (refs : List ℕ) (store : Store) (s : ℕ) → (0 < occurrences s refs → IsLive store s) → outside_of (held refs store) s ≡ outside_of store s + occurrences s refs
outside-held refs store s live = ap outside_in (get-mapped (λ s n. more (occurrences s refs) n) store.nodes s) ∙ known (fin.get store.nodes s) live
  where
    known : (a : Option Node) → (0 < occurrences s refs → IsSome a) → outside_in (option_map (more (occurrences s refs)) a) ≡ outside_in a + occurrences s refs
    known (Some n) h = refl
    known None h = elim (cases_eq (occurrences s refs) 0) [
      | inl none ↦ omega (arith, none)
      | inr there ↦ let live = h (omega (arith, there)) in cc
    ]

-- in any case no fewer
pub outside_grows : (refs : List ℕ) (store : Store) (s : ℕ) → outside_of store s ≤ outside_of (held refs store) s
outside_grows refs store s = subst (λ x. outside_of store s ≤ outside_in x) (sym (get-mapped (λ s n. more (occurrences s refs) n) store.nodes s)) (known (fin.get store.nodes s))
  where
    known : (x : Option Node) → outside_in x ≤ outside_in (option_map (more (occurrences s refs)) x)
    known None = omega arith
    known (Some n) = omega arith

-- one less for each
pub outside-unheld : (refs : List ℕ) (store : Store) (s : ℕ) → outside_of (unheld refs store) s ≡ outside_of store s - occurrences s refs
outside-unheld refs store s = ap outside_in (get-mapped (λ s n. less (occurrences s refs) n) store.nodes s) ∙ known (fin.get store.nodes s)
  where
    known : (x : Option Node) → outside_in (option_map (less (occurrences s refs)) x) ≡ outside_in x - occurrences s refs
    known None = omega arith
    known (Some n) = refl

-- unchanged if an object is changed in another way
pub outside-with_node : (f : Node → Node) → ((n : Node) → (f n).outside ≡ n.outside) → (o : ℕ) (store : Store) (s : ℕ) → outside_of (with_node f o store) s ≡ outside_of store s
outside-with_node f same o store s = ap outside_in (get-mapped (λ s x. if s == o then f x else x) store.nodes s) ∙ known (s == o) (fin.get store.nodes s)
  where
    known : (b : Bool) (x : Option Node) → outside_in (option_map (λ x. if b then f x else x) x) ≡ outside_in x
    known b None = refl
    known true (Some n) = same n
    known false (Some n) = refl

pub outside-rewritten : (o : ℕ) (es : List Entry) (store : Store) (s : ℕ) → outside_of (rewritten o es store) s ≡ outside_of store s
outside-rewritten o es store s = outside-with_node (with_entries es) (λ n. refl) o store s

pub outside-moved : (o : ℕ) (p : Place) (store : Store) (s : ℕ) → outside_of (moved o p store) s ≡ outside_of store s
outside-moved o p store s = outside-with_node (with_place p) (λ n. refl) o store s

-- a new object has one hold
pub outside-made : (code : KindCode) (class : Option ℕ) (parts : List Entry) (store : Store) → ((s : ℕ) → IsLive store s → s ≤ store.last) → (s : ℕ)
    → outside_of (made code class parts store) s ≡ outside_of store s + occurrences s ((store.last + 1) ∷ [])
outside-made code class parts store below s = elim (cases_eq s (store.last + 1)) [
  | inl same ↦
      let one : one_if (store.last + 1 == s) ≡ 1 = ap one_if (eq-eqb (store.last + 1) s (sym same)) in
      let now : outside_of (made code class parts store) s ≡ 1 = ap outside_in (get-insert_same store.nodes (store.last + 1) s (new_node code class parts) same) in
      let was : outside_of store s ≡ 0 = known (fin.get store.nodes s) (λ live. let low = below s live in absurd (omega (arith, same, low))) in
      omega (arith, one, now, was, occurrences-one s (store.last + 1))
  | inr differs ↦
      let none : one_if (store.last + 1 == s) ≡ 0 = ap one_if (ne_eqb (store.last + 1) s (λ e. differs (sym e))) in
      let now : outside_of (made code class parts store) s ≡ outside_of store s = ap outside_in (get-insert_other store.nodes (store.last + 1) s (new_node code class parts) differs) in
      omega (arith, none, now, occurrences-one s (store.last + 1))
]
  where
    known : (x : Option Node) → (IsSome x → ⊥) → outside_in x ≡ 0
    known None dead = refl
    known (Some n) dead = absurd (dead refl)

-- the others keep theirs when one is freed
pub outside-gone : (o : ℕ) (store : Store) (s : ℕ) → s ≢ o → outside_of (gone o store) s ≡ outside_of store s
outside-gone o store s differs = ap outside_in (get-remove_other store.nodes o s differs)

-- What entries or names hold is held inside; and whatever is held inside lives, in every heap (`IsSound`).
pub entries_hold : (store : Store) (o s : ℕ) → occurrences s (references (entries_of store o)) ≤ inner store s
unfolding held_within
entries_hold store o s = known (fin.get store.nodes o) refl
  where
    known : (x : Option Node) → fin.get store.nodes o ≡ x → occurrences s (references (entries_of store o)) ≤ inner store s
    known None at =
        let is : occurrences s (references (entries_of store o)) ≡ 0 = ap (λ y. occurrences s (references (entries_in y))) at in
        omega (arith, is)
    known (Some n) at =
        let is : occurrences s (references (entries_of store o)) ≡ part (held_by s) (fin.get store.nodes o) = ap (λ y. occurrences s (references (entries_in y))) at ∙ sym (ap (part (held_by s)) at) in
        omega (arith, is, total-remove (held_by s) store.nodes o)

pub entry_holds : (store : Store) (o i : ℕ) (e : Entry) → slice_get (entries_of store o) i ≡ Some e → (s : ℕ) → occurrences s (entry_references e) ≤ inner store s
entry_holds store o i e at s = omega (arith, references-remove s (entries_of store o) i e at, entries_hold store o s)

pub name-sum : (s : ℕ) (names : List (Option Val)) → occurrences s (name_holdings names) ≡ sum_by (λ v. occurrences s (references_of_value v)) names
name-sum s [] = refl
name-sum s (v ∷ names) = omega (
  arith,
  occurrences-append s (references_of_value v) (name_holdings names),
  name-sum s names,
  sum_by-cons {X = Option Val}
      (λ v. occurrences s (references_of_value v)) v names,
)

pub name_holds : (store : Store) (i : ℕ) (val : Option Val) → slice_get store.names i ≡ Some val → (s : ℕ) → occurrences s (references_of_value val) ≤ inner store s
unfolding held_within
name_holds store i val was s =
    let at : get_or store.names i val ≡ val = get_or_from_slice_get store.names i val val was in
    let here : occurrences s (references_of_value (get_or store.names i val)) ≡ occurrences s (references_of_value val) = ap (λ v. occurrences s (references_of_value v)) at in
    omega (arith, name-sum s store.names, sum_by-set (λ v. occurrences s (references_of_value v)) store.names i None val (slice_get_within store.names i val was), here)
