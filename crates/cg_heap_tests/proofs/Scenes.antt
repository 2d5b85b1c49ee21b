-- The scene of the tests: its invariant about the heap, after each call.
use Rattle.std.proofs.Common.{get_or, ◌≡◌, ℕ, ◌+◌, ◌<◌, ◌≤◌, Bool, true, false, List, [], ◌∷◌, ◌++◌, length, Option, Some, None, IsSome, remove, refl, sym, ap, ◌∙◌, subst, inl, inr, arith, length-set}
use Rattle.std.specs.Prelude.{◌==◌, slice_get, IfSome, if◌then◌else◌, Result, Ok, Err}
use Rattle.std.specs.Result.{OnOk, OnErr}
use Rattle.std.proofs.lemmas.Bool.{cases_eq, eq-eqb}
use Rattle.std.proofs.lemmas.List.{length-replicate}
use Rattle.std.proofs.lemmas.List.Sums.{sum_by-remove}
use Rattle.std.proofs.lemmas.Option.{slice_get_within, get_or_from_slice_get}
use Rattle.std.specs.FinMap as fin
use Rattle.cg_value.specs.declared.Val.{Val}
use Rattle.cg_value.specs.declared.Entry.{Entry}
use Rattle.cg_value.specs.declared.Place.{Place}
use Rattle.cg_value.specs.declared.Place.TheVariants.{Gen}
use Rattle.cg_value.specs.declared.KindCode.{KindCode}
use Rattle.cg_value.specs.declared.KindCode.TheVariants.{Weak}
use Rattle.cg_kind.specs.Calls.{after_put}
use Rattle.cg_kind.proofs.KeyLemmas.{stands_somewhere}
use Rattle.cg_graph.specs.Holdings.{occurrences}
use Rattle.cg_graph.specs.Value.{entry_references, references_of_value, entry_at, without_key, without_last}
use Rattle.cg_graph.specs.Rows.{waited_in, weak_references_in, waiting_in}
use Rattle.cg_graph.specs.Store.{Store, Node, IsLive, entries_of, outside_of, count_of, inner}
use Rattle.cg_graph.specs.Changes.{held as holding, unheld, rewritten, made, moved, named, gone, opening_store}
use Rattle.cg_weak.proofs.CallerLemmas.{newest_waits}
use Rattle.cg_heap.specs.Keeps.{outside_total}
use Rattle.cg_heap.specs.Weak.{IsInNoRow, attached}
use Rattle.cg_heap.specs.Calls.{IsSound, code_of, value_in, with_put, tracked_if}
use Rattle.cg_heap.proofs.ReferenceLemmas.{name-le, entry-le, occurrences-append, occurrences-one, one_if, last-remove}
use Rattle.cg_heap.proofs.CallerLemmas.{lives_on, live_of_kind, kinds-rewritten, total-held, total-unheld, total-rewritten, total-moved, total-made, total-gone, opening_total}
use Rattle.cg_heap.proofs.HoldLemmas.{outside_grows, outside-held, outside-unheld, outside-rewritten, outside-moved, outside-made, outside-gone, entry_holds, entries_hold}
use Rattle.cg_heap.proofs.RowLemmas.{in_no_row, no_own_row, no_referent, waits_live}

-- Its holds are among those of the heap; at most this many holds and objects were given; and there are this many names.
abbrev pub Backed : Store → List ℕ → ℕ → ℕ → Type 0
Backed store held count names = ((s : ℕ) → occurrences s held ≤ outside_of store s) × (outside_total store ≤ count) × (store.last ≤ count + 1) × (length store.names ≡ names)

pub backed_first : (store : Store) (held : List ℕ) (names : ℕ) → store ≡ opening_store names → held ≡ [] → Backed store held 0 names
backed_first store held names is none =
    subst (λ (xs : List ℕ). Backed store xs 0 names) (sym none)
    (subst (λ (s : Store). Backed s [] 0 names) (sym is) (λ s. omega arith, omega (arith, opening_total names), omega arith, length-replicate names None))

one_at : (xs : List ℕ) (i o : ℕ) → slice_get xs i ≡ Some o → (s : ℕ) → occurrences s (remove xs i) + occurrences s (o ∷ []) ≡ occurrences s xs
one_at xs i o at s =
    let is : one_if (get_or xs i o == s) ≡ one_if (o == s) = ap (λ r. one_if (r == s)) (get_or_from_slice_get xs i o o at) in
    omega (arith, is, sum_by-remove (λ r. one_if (r == s)) xs i o (slice_get_within xs i o at))

-- what the test holds is held
pub has_hold : (store : Store) (held : List ℕ) (count names i o : ℕ) → Backed store held count names → slice_get held i ≡ Some o → 0 < outside_of store o
has_hold store held count names i o b at =
    let one : occurrences o (o ∷ []) ≡ 1 = occurrences-one o o ∙ ap one_if (eq-eqb o o refl) in
    omega (arith, one, one_at held i o at o, b.0 o)

-- one more hold, if there was memory for it
pub pushed : (b : Bool) (xs ys : List ℕ) (v : ℕ) → ys ≡ (if b then xs ++ v ∷ [] else xs) → (s : ℕ) → occurrences s ys ≤ occurrences s xs + occurrences s (v ∷ [])
pushed true xs ys v is s = omega (arith, ap (occurrences s) is, occurrences-append s xs (v ∷ []))
pushed false xs ys v is s = omega (arith, ap (occurrences s) is)

-- the references of an entry are those of its value and of its key
pub keeps_entry : (s : ℕ) (e : Entry) → occurrences s (entry_references e) ≡ occurrences s (references_of_value (Some e.val)) + occurrences s (references_of_value (Some e.key))
keeps_entry s e = occurrences-append s (references_of_value (Some e.val)) (references_of_value (Some e.key))

module _ (old new : Store) (held : List ℕ) (count names : ℕ) (b : Backed old held count names) where
  -- one more object, held from outside; the test keeps the hold or not
  pub backed_made : (kept : List ℕ) (serial : ℕ) (code : KindCode) (class : Option ℕ) (parts : List Entry) (referent : Option ℕ)
      → ((s : ℕ) → IsLive old s → s ≤ old.last) → new ≡ attached (old.last + 1) referent (made code class parts old) → serial ≡ old.last + 1
      → ((s : ℕ) → occurrences s kept ≤ occurrences s held + occurrences s (serial ∷ [])) → Backed new kept (count + 1) names
  backed_made kept serial code class parts referent below is same keeps = subst (λ (s : Store). Backed s kept (count + 1) names) (sym is) (
    λ s. let here : occurrences s (serial ∷ []) ≡ occurrences s ((old.last + 1) ∷ []) = ap (λ k. occurrences s (k ∷ [])) same
        in omega (arith, keeps s, b.0 s, here, outside-made code class parts old below s),
    omega (arith, b.1, total-made code class parts old),
    omega (arith, b.2),
    b.3,
  )

  pub backed_unheld : (left : List ℕ) (i o : ℕ) → slice_get held i ≡ Some o → left ≡ remove held i → new ≡ unheld (o ∷ []) old → Backed new left count names
  backed_unheld left i o at rest is =
      subst (λ (s : Store). Backed s left count names) (sym is) (subst (λ (xs : List ℕ). Backed (unheld (o ∷ []) old) xs count names) (sym rest) (
        λ s. omega (arith, b.0 s, one_at held i o at s, outside-unheld (o ∷ []) old s),
        omega (arith, b.1, total-unheld (o ∷ []) old),
        b.2,
        b.3,
      ))

  pub backed_rewritten : (o : ℕ) (es : List Entry) → new ≡ rewritten o es old → Backed new held count names
  backed_rewritten o es is = subst (λ (s : Store). Backed s held count names) (sym is) (λ s. omega (arith, b.0 s, outside-rewritten o es old s), omega (arith, b.1, total-rewritten o es old), b.2, b.3)

  -- the same, or a refusal
  pub backed_appended : {T E : Type 0} (r : Result T E) (o : ℕ) (es : List Entry) → OnOk r (new ≡ rewritten o es old) → OnErr r (new ≡ old) → Backed new held count names
  backed_appended (Ok x) o es done refused = backed_rewritten o es done
  backed_appended (Err x) o es done refused = subst (λ (s : Store). Backed s held count names) (sym refused) b

  -- a value put in, and the object tracked or not
  pub backed_put : (o : ℕ) (key val : Val) (t : Bool) → new ≡ tracked_if t o (with_put old o key val) → Backed new held (count + 1) names
  backed_put o key val t is = subst (λ (s : Store). Backed s held (count + 1) names) (sym is) (tracked t)
    where
      refs : List ℕ
      refs = references_of_value (value_in old o key)

      es : List Entry
      es = after_put (code_of old o) (entries_of old o) key val

      put : Backed (with_put old o key val) held (count + 1) names
      put = (
        λ s. omega (arith, b.0 s, outside_grows refs (rewritten o es old) s, outside-rewritten o es old s),
        omega (arith, b.1, total-held refs (rewritten o es old), total-rewritten o es old, name-le (value_in old o key)),
        omega (arith, b.2),
        b.3,
      )

      tracked : (c : Bool) → Backed (tracked_if c o (with_put old o key val)) held (count + 1) names
      tracked true = (
        λ s. omega (arith, put.0 s, outside-moved o (Gen 0) (with_put old o key val) s),
        omega (arith, put.1, total-moved o (Gen 0) (with_put old o key val)),
        put.2,
        put.3,
      )
      tracked false = put

  -- a name with another value; the old value is held
  pub backed_named : (name : ℕ) (was v : Option Val) → new ≡ holding (references_of_value was) (named name v old) → Backed new held (count + 1) names
  backed_named name was v is = subst (λ (s : Store). Backed s held (count + 1) names) (sym is) (
    λ s. omega (arith, b.0 s, outside_grows (references_of_value was) (named name v old) s),
    omega (arith, b.1, total-held (references_of_value was) (named name v old), name-le was),
    omega (arith, b.2),
    length-set old.names name v ∙ b.3,
  )

  -- an object in another place
  pub backed_moved : (o : ℕ) (p : Place) → new ≡ moved o p old → Backed new held count names
  backed_moved o p is = subst (λ (s : Store). Backed s held count names) (sym is) (λ s. omega (arith, b.0 s, outside-moved o p old s), omega (arith, b.1, total-moved o p old), b.2, b.3)

  -- a freed object that nothing held
  pub backed_gone : (o : ℕ) → count_of old o ≡ 0 → new ≡ gone o old → Backed new held count names
  backed_gone o none is = subst (λ (s : Store). Backed s held count names) (sym is) (
    λ s. elim (cases_eq s o) [
      | inl same ↦
          let out : outside_of old s ≡ outside_of old o = ap (outside_of old) same in
          omega (arith, b.0 s, out, none)
      | inr differs ↦ omega (arith, b.0 s, outside-gone o old s differs)
    ],
    omega (arith, b.1, total-gone o old),
    b.2,
    b.3,
  )

  -- an entry removed from an object; its references are held
  taken : (kept : List ℕ) (o : ℕ) (es : List Entry) (e : Entry) → ((s : ℕ) → 0 < inner old s → IsLive old s)
      → ((s : ℕ) → occurrences s (entry_references e) ≤ inner old s) → new ≡ holding (entry_references e) (rewritten o es old)
      → ((s : ℕ) → occurrences s kept ≤ occurrences s held + occurrences s (entry_references e)) → Backed new kept (count + 2) names
  taken kept o es e live inside is keeps = subst (λ (s : Store). Backed s kept (count + 2) names) (sym is) (
    λ s. omega (
      arith,
      keeps s,
      b.0 s,
      outside-held (entry_references e) (rewritten o es old) s (λ there. lives_on old (rewritten o es old) (kinds-rewritten o es old) s (live s (omega (arith, there, inside s)))),
      outside-rewritten o es old s,
    ),
    omega (arith, b.1, total-held (entry_references e) (rewritten o es old), total-rewritten o es old, entry-le e),
    omega (arith, b.2),
    b.3,
  )

  pub backed_take : (kept : List ℕ) (o i : ℕ) (e : Entry) → ((s : ℕ) → 0 < inner old s → IsLive old s) → slice_get (entries_of old o) i ≡ Some e → new
      ≡ holding (entry_references e) (rewritten o (remove (entries_of old o) i) old)
      → ((s : ℕ) → occurrences s kept ≤ occurrences s held + occurrences s (entry_references e)) → Backed new kept (count + 2) names
  backed_take kept o i e live at is keeps = taken kept o (remove (entries_of old o) i) e live (entry_holds old o i e at) is keeps

  pub backed_take_key : (kept : List ℕ) (o : ℕ) (key : Val) (e : Entry) → ((s : ℕ) → 0 < inner old s → IsLive old s) → Some e ≡ entry_at (entries_of old o) key
      → new ≡ holding (entry_references e) (rewritten o (without_key (entries_of old o) key) old)
      → ((s : ℕ) → occurrences s kept ≤ occurrences s held + occurrences s (entry_references e)) → Backed new kept (count + 2) names
  backed_take_key kept o key e live at is keeps =
      let (i, there) = stands_somewhere key (entries_of old o) e (sym at) in
      taken kept o (without_key (entries_of old o) key) e live (entry_holds old o i e there.here) is keeps

  pub backed_detach : (kept : List ℕ) (o : ℕ) (e : Entry) → ((s : ℕ) → 0 < inner old s → IsLive old s) → entries_of old o ≡ without_last (entries_of old o) ++ e
      ∷ [] → new ≡ holding (entry_references e) (rewritten o (without_last (entries_of old o)) old)
      → ((s : ℕ) → occurrences s kept ≤ occurrences s held + occurrences s (entry_references e)) → Backed new kept (count + 2) names
  backed_detach kept o e live last is keeps =
      taken kept o (without_last (entries_of old o)) e live
      (λ s. omega (arith, (last-remove (entries_of old o) (without_last (entries_of old o)) e last).1 s, entries_hold old o s))
      is keeps

-- the queries answer that an object is in no row
pub unnamed : (store : Store) → IsSound store → (o : ℕ) (code : KindCode) → IfSome (fin.get store.nodes o) (λ n. code ≡ n.code) → (code ≡ Weak → ⊥) → None
    ≡ slice_get (weak_references_in store.rows o) 0 → None ≡ slice_get (waiting_in store.rows o) 0 → IsInNoRow o store.rows
unnamed store sound o code told other refers waits =
    in_no_row store.rows o
    (no_own_row store sound.rows o (λ has. other (kind (fin.get store.nodes o) told has)))
    (no_referent store.rows o (sym refers) (sym waits))
  where
    kind : (x : Option Node) → IfSome x (λ n. code ≡ n.code) → (n : Node) × (x ≡ Some n) × (n.code ≡ Weak) → code ≡ Weak
    kind None t (n, at, is) = absurd (cc)
    kind (Some m) t (n, at, is) = let same : m ≡ n = cc in t ∙ ap (λ (y : Node). y.code) same ∙ is

-- the newest that waits lives and waits
pub newest_waiting_lives : (store : Store) → IsSound store → (o w : ℕ) → Some w ≡ slice_get (waiting_in store.rows o) 0 → IsLive store w × IsSome (waited_in store.rows w)
newest_waiting_lives store sound o w told =
    let waits : waited_in store.rows w ≡ Some o = newest_waits store.rows sound.rows.rise o w (sym told) in
    (live_of_kind store w Weak (waits_live store sound.rows w o waits).0, subst IsSome (sym waits) refl)
