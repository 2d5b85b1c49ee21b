-- One object moves to another place while a walk over its list is at it.
use Rattle.std.proofs.Common.{◌≡◌, ◌≢◌, refl, sym, ◌∙◌, ap, subst, ℕ, ◌+◌, ◌<◌, ◌≤◌, inl, inr, cond, not, List, [], ◌∷◌, ◌++◌, length, Option, Some, None, IsSome, arith, append_assoc}
use Rattle.std.specs.Prelude.{◌==◌, nat_eq, option_map, slice_get}
use Rattle.std.specs.FinMap as fin
use Rattle.std.proofs.lemmas.Bool.{cases_eq, eq-eqb, ne_eqb}
use Rattle.std.proofs.lemmas.List.Filters.{length-filter_both}
use Rattle.std.proofs.lemmas.List.Sums.{length-filter}
use Rattle.cg_value.specs.declared.Val.{Val}
use Rattle.cg_value.specs.declared.Entry.{Entry}
use Rattle.cg_value.specs.declared.Place.{Place}
use Rattle.cg_graph.specs.Member.{Includes}
use Rattle.cg_graph.specs.Value.{entry_references}
use Rattle.cg_graph.specs.Holdings.{occurrences}
use Rattle.cg_graph.specs.Places.{without_serial}
use Rattle.cg_graph.specs.Store.{Store, Node, list_at, place_of, place_in, entries_of, inner, IsLive}
use Rattle.cg_graph.specs.Changes.{moved, with_place}
use Rattle.cg_graph.proofs.Maps.{get-changed_same, get-changed_other}
use Rattle.cg_graph.proofs.Members.{Includes-append_left, Includes-append_right}
use Rattle.cg_arena.specs.Nodes.{IsPlace, following}
use Rattle.cg_heap.specs.Calls.{IsListed, IsLiveValue}
use Rattle.cg_heap.proofs.HoldLemmas.{entry_holds}
use Rattle.cg_trial.specs.View.{view_of, Moved, head_of, targets}
use Rattle.cg_trial.specs.Split.{IsSameButPlaces}
use Rattle.cg_trial.proofs.Lists.{occurs, ahead, ahead_is, IsAt, head_is, once_before, without-absent, without-append, without-cons_yes, sum_by-without}
use Rattle.cg_trial.proofs.Ends.{same_but_places}
use Rattle.cg_trial.proofs.PlacesOfObjects.{once_at, next_is, where_is}
use Rattle.cg_trial.proofs.EffectsOfCalls.{moved_view}

-- a list without a serial that it contains once
pub one-shorter : (o : ℕ) (xs : List ℕ) → occurrences o xs ≡ 1 → length (without_serial o xs) + 1 ≡ length xs
one-shorter o xs one =
    let both = length-filter_both (λ x. x == o) (λ x. not (nat_eq o x)) (λ x. ap not (turned x)) xs in
    let count = length-filter (λ x. x == o) xs in
    omega (arith, both, count, one)
  where
    turned : (x : ℕ) → nat_eq o x ≡ (x == o)
    turned x = elim (cases_eq o x) [
      | inl same ↦ eq-eqb o x same ∙ sym (eq-eqb x o (sym same))
      | inr differs ↦ ne_eqb o x differs ∙ sym (ne_eqb x o (λ e. differs (sym e)))
    ]

-- a walk is at an object: what is left, and what comes after it
pub record Standing (xs : List ℕ) (o : ℕ) (front back : List ℕ) : Type 0 where
  pub rest : List ℕ
  pub ahead : back ≡ o ∷ rest
  pub here : xs ≡ front ++ o ∷ rest

pub standing_at : (xs : List ℕ) (o : ℕ) (front back : List ℕ) → IsAt xs (Some o) front back → Standing xs o front back
standing_at xs o front back at = let head = head_is back o at.at in record { rest = head.0; ahead = head.1; here = at.parts ∙ ap (λ (b : List ℕ). front ++ b) head.1 }

pub stands_there : (xs : List ℕ) (o : ℕ) (front back : List ℕ) → IsAt xs (Some o) front back → Includes xs o
stands_there xs o front back at = let s = standing_at xs o front back at in subst (λ (ys : List ℕ). Includes ys o) (sym s.here) (Includes-append_right front (o ∷ s.rest) o (inl refl))

pub walk_at : (xs : List ℕ) (cursor : Option ℕ) (o : ℕ) (front back : List ℕ) → IsAt xs cursor front back → cursor ≡ Some o → IsAt xs (Some o) front back
walk_at xs cursor o front back at is = record { parts = at.parts; at = sym is ∙ at.at }

pub walk_over : (xs : List ℕ) (cursor : Option ℕ) (front back : List ℕ) → IsAt xs cursor front back → cursor ≡ None → xs ≡ front
walk_over xs cursor front [] at is = at.parts ∙ nothing front
  where
    nothing : (ys : List ℕ) → ys ++ [] ≡ ys
    nothing [] = refl
    nothing (y ∷ ys) = ap (λ l. y ∷ l) (nothing ys)
walk_over xs cursor front (x ∷ back) at is = absurd (let e : None ≡ Some x = sym is ∙ at.at in cc)

pub walk_first : (store : Store) (p : Place) (cursor : Option ℕ) → cursor ≡ slice_get (list_at store p) 0 → IsAt (list_at store p) cursor [] (list_at store p)
walk_first store p cursor is = record { parts = refl; at = is }

-- the walk passes the object
pub walk_passes : (xs : List ℕ) (o : ℕ) (next : Option ℕ) (front back : List ℕ) (at : IsAt xs (Some o) front back) → ((a b : List ℕ) → xs ≡ a ++ o ∷ b → next
    ≡ head_of b) → (rest : List ℕ) × (back ≡ o ∷ rest) × IsAt xs next (front ++ o ∷ []) rest
walk_passes xs o next front back at comes =
    let s = standing_at xs o front back at in (s.rest, s.ahead, record { parts = s.here ∙ sym (append_assoc front (o ∷ []) s.rest); at = comes front s.rest s.here })

module _ (store : Store) (listed : IsListed store) where
  -- what the heap answers to `next`
  pub comes_next : (p : Place) (o : ℕ) (next : Option ℕ) → next ≡ following o (list_at store (place_of store o)) → (a b : List ℕ) → list_at store p ≡ a ++ o ∷ b → next ≡ head_of b
  comes_next p o next is a b parts = next_is store listed o next is p a b parts

  pub live_where : (p : Place) (o : ℕ) (front back : List ℕ) → IsAt (list_at store p) (Some o) front back → IsLive store o × (place_of store o ≡ p)
  live_where p o front back at = where_is store listed p o (stands_there (list_at store p) o front back at)

  -- what is left of the walk
  pub left_is : (p : Place) (cursor : Option ℕ) (front back : List ℕ) → IsAt (list_at store p) cursor front back → ahead cursor (list_at store p) ≡ back
  left_is p cursor front back at = ahead_is (list_at store p) cursor front back (once_at store listed p) at

  module _ (o : ℕ) (live : IsLive store o) (p : Place) (below : IsPlace p) where
    abbrev view : Moved o p (view_of store) (view_of (moved o p store))
    view = moved_view store listed o live p below (moved o p store) refl

    pub moved_same : IsSameButPlaces store (moved o p store)
    moved_same = same_but_places store (moved o p store) view.same

    pub moved_there : place_of (moved o p store) o ≡ p
    moved_there = ap place_in (get-changed_same (with_place p) o store.nodes o refl) ∙ known (fin.get store.nodes o) live
      where
        known : (x : Option Node) → IsSome x → place_in (option_map (with_place p) x) ≡ p
        known None h = absurd (cc)
        known (Some n) h = refl

    pub moved_not : (q : ℕ) → q ≢ o → place_of (moved o p store) q ≡ place_of store q
    moved_not q differs = ap place_in (get-changed_other (with_place p) o store.nodes q differs)

    pub moved_last : list_at (moved o p store) p ≡ without_serial o (list_at store p) ++ o ∷ []
    moved_last = view.last

    pub moved_from : (q : Place) → q ≢ p → list_at (moved o p store) q ≡ without_serial o (list_at store q)
    moved_from q differ = view.others q differ

    -- what is left there occurs once
    pub moved_once : (q : Place) → q ≢ p → (s : ℕ) → occurrences s (list_at (moved o p store) q) ≤ 1
    moved_once q differ s =
        let is : occurrences s (list_at (moved o p store) q) ≡ occurrences s (without_serial o (list_at store q)) = ap (occurrences s) (moved_from q differ) in
        omega (arith, is, sum_by-without (λ x. cond (x == s) 1 0) o (list_at store q), once_at store listed q s)

    -- a walk over its list goes on with the next object
    pub walk_leaves : (q : Place) (next : Option ℕ) (front back : List ℕ) → q ≢ p → IsAt (list_at store q) (Some o) front back → next ≡ following o (list_at store (place_of store o))
        → (rest : List ℕ) × (back ≡ o ∷ rest) × IsAt (list_at (moved o p store) q) next front rest
    walk_leaves q next front back differ at is =
        let s = standing_at (list_at store q) o front back at in
        let none = once_before (list_at store q) front s.rest o (once_at store listed q o) s.here in (
          s.rest,
          s.ahead,
          record {
            parts =
                moved_from q differ
                ∙ ap (without_serial o) s.here
                ∙ without-append o front (o ∷ s.rest)
                ∙ ap (λ (xs : List ℕ). xs ++ without_serial o (o ∷ s.rest)) (without-absent o front none.0)
                ∙ ap (λ (xs : List ℕ). front ++ xs) (without-cons_yes o o s.rest (eq-eqb o o refl) ∙ without-absent o s.rest none.1);
            at = comes_next q o next is front s.rest s.here;
          },
        )

-- what an entry refers to lives
pub entry_live : (store : Store) → ((s : ℕ) → 0 < inner store s → IsLive store s) → (o i : ℕ) (e : Entry) → slice_get (entries_of store o) i ≡ Some e → (s : ℕ)
    → Includes (entry_references e) s → IsLive store s
entry_live store live o i e at s h = let some = occurs (entry_references e) s h in let all = entry_holds store o i e at s in live s (omega (arith, some, all))

pub value_lives : (store : Store) → ((s : ℕ) → 0 < inner store s → IsLive store s) → (o i : ℕ) (e : Entry) → slice_get (entries_of store o) i ≡ Some e → IsLiveValue store e.val
value_lives store live o i e at s is = entry_live store live o i e at s (Includes-append_left (targets e.val) (targets e.key) s (subst (λ (v : Val). Includes (targets v) s) (sym is) (inl refl)))

pub key_lives : (store : Store) → ((s : ℕ) → 0 < inner store s → IsLive store s) → (o i : ℕ) (e : Entry) → slice_get (entries_of store o) i ≡ Some e → IsLiveValue store e.key
key_lives store live o i e at s is = entry_live store live o i e at s (Includes-append_right (targets e.val) (targets e.key) s (subst (λ (v : Val). Includes (targets v) s) (sym is) (inl refl)))
