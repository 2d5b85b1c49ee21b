-- What is told after the start: the sizes, each condemned object, and then the weak phase follows.
use Rattle.std.proofs.Common.{◌≡◌, ◌≢◌, refl, sym, ◌∙◌, ap, subst, ℕ, ◌*◌, ◌<◌, inl, inr, Bool, true, false, not, List, [], ◌∷◌, ◌++◌, map, Option, Some, None, arith}
use Rattle.std.specs.Prelude.{◌==◌, if◌then◌else◌, bit_and, slice_get}
use Rattle.std.proofs.lemmas.Bool.{cases_eq, eq-eqb, ne_eqb}
use Rattle.std.proofs.lemmas.Nat.Bits.{and_pow, bit_at-lt}
use Rattle.std.specs.Int.{bit_at}
use Rattle.cg_value.specs.declared.Place.{Place}
use Rattle.cg_value.specs.declared.Place.TheVariants.{Cand, Pend}
use Rattle.cg_script.specs.declared.Script.{Script}
use Rattle.cg_graph.specs.Member.{Includes}
use Rattle.cg_graph.specs.Store.{Store, list_at, place_of}
use Rattle.cg_graph.proofs.Members.{either, Includes-append_right}
use Rattle.cg_machine.specs.declared.event.Event.TheVariants.{Gens, GcCollectable}
use Rattle.cg_machine.specs.World.{World, Activity}
use Rattle.cg_machine.specs.Collect.{has_flag, lines_if, collectable}
use Rattle.cg_arena.specs.Nodes.{following}
use Rattle.cg_heap.specs.Calls.{IsListed}
use Rattle.cg_policy.specs.Policy.{Policy}
use Rattle.cg_policy.specs.Flagset.{bits_of}
use Rattle.cg_trial.proofs.Lists.{IsAt as Walked, ahead, ahead_is}
use Rattle.cg_trial.proofs.PlacesOfObjects.{once_at}
use Rattle.cg_collect.specs.declared.answer.CollectStep.TheVariants as answer_of
use Rattle.cg_collect.specs.declared.collection.Facts.{Facts}
use Rattle.cg_collect.specs.declared.phase.Phase.TheVariants as phase_of
use Rattle.cg_collect.specs.Phases.{from_on, lines_left}
use Rattle.cg_collect.specs.Ready.{IsReadyForCollectionAt, IsApartUnseen, IsEmptyAt, IsAt, HasItsWalk, HasFewCollected}
use Rattle.cg_collect.specs.Answers.{CollectionShows, CollectSteps}
use Rattle.cg_collect.specs.Turns.{Advances, collection_at}
use Rattle.cg_collect.specs.Starting.{told_weak, told_if}
use Rattle.cg_collect.proofs.Moving.{walk_passes, comes_next}
use Rattle.cg_collect.proofs.Walking.{walk_begins}
use Rattle.cg_collect.proofs.Worlds.{only_tells}

-- a flag is set if its bit is
flag_of : (flags m b : ℕ) → 0 < m → b < 2 → bit_and flags m ≡ b * m → (bit_and flags m == m) ≡ has_flag flags m
flag_of flags m b some below is = elim (cases_eq b 0) [
  | inl none ↦
      let zero : bit_and flags m ≡ 0 = is ∙ ap (λ n. n * m) none ∙ omega arith in
      ap (λ n. n == m) zero ∙ ne_eqb 0 m (λ e. absurd (omega (arith, e, some))) ∙ sym (ap (λ n. not (n == 0)) zero)
  | inr one ↦
      let all : bit_and flags m ≡ m = is ∙ ap (λ n. n * m) (one_of one) ∙ omega arith in
      ap (λ n. n == m) all ∙ eq-eqb m m refl ∙ sym (ap (λ n. not (n == 0)) all ∙ ap not (ne_eqb m 0 (λ e. absurd (omega (arith, e, some)))))
]
  where
    one_of : b ≢ 0 → b ≡ 1
    one_of differs = either (cases_eq b 1) (λ e. e) (λ other. absurd (let none : b ≡ 0 = below_two b below other in differs none))
      where
        below_two : (n : ℕ) → n < 2 → n ≢ 1 → n ≡ 0
        below_two n low other = grind (arith, low, other)

pub collectable_at : (flags : ℕ) → (bit_and flags 2 == 2) ≡ has_flag flags collectable
collectable_at flags = flag_of flags 2 (bit_at flags 1) (omega arith) (bit_at-lt flags 1) (and_pow flags 1)

-- a walk from the first of a list
pub from_first : (xs : List ℕ) → from_on (slice_get xs 0) xs ≡ xs
from_first [] = refl
from_first (x ∷ xs) = ap (λ b. if b then x ∷ xs else from_on (Some x) xs) (eq-eqb x x refl)

pub at_first : (xs : List ℕ) → IsAt (slice_get xs 0) xs
at_first [] = tt
at_first (x ∷ xs) = inl refl

pub from_ahead : (cursor : Option ℕ) (xs : List ℕ) → from_on cursor xs ≡ ahead cursor xs
from_ahead None xs = refl
from_ahead (Some o) [] = refl
from_ahead (Some o) (x ∷ xs) = ap (λ l. if x == o then x ∷ xs else l) (from_ahead (Some o) xs)

-- a list split at one of its members
pub split_at : (xs : List ℕ) (o : ℕ) → Includes xs o → (front : List ℕ) × (back : List ℕ) × (xs ≡ front ++ o ∷ back)
split_at [] o h = absurd h
split_at (x ∷ xs) o (inl e) = ([], xs, ap (λ y. y ∷ xs) e)
split_at (x ∷ xs) o (inr h) = let rest = split_at xs o h in (x ∷ rest.0, rest.1, ap (λ l. x ∷ l) rest.2)

-- The next of a walk over the list of a place.
module _ (store : Store) (listed : IsListed store) (p : Place) (o : ℕ) (here : Includes (list_at store p) o) (after : Option ℕ) (comes : after ≡ following o (list_at store (place_of store o))) where
  abbrev xs : List ℕ
  xs = list_at store p

  parts : (front : List ℕ) × (back : List ℕ) × (xs ≡ front ++ o ∷ back)
  parts = split_at xs o here

  here_at : Walked xs (Some o) parts.0 (o ∷ parts.1)
  here_at = record { parts = parts.2; at = refl }

  passed : (rest : List ℕ) × (o ∷ parts.1 ≡ o ∷ rest) × Walked xs after (parts.0 ++ o ∷ []) rest
  passed = walk_passes xs o after parts.0 (o ∷ parts.1) here_at (comes_next store listed p o after comes)

  pub next_from : from_on (Some o) xs ≡ o ∷ from_on after xs
  next_from =
      from_ahead (Some o) xs
      ∙ ahead_is xs (Some o) parts.0 (o ∷ parts.1) (once_at store listed p) here_at
      ∙ passed.1
      ∙ ap (λ l. o ∷ l) (sym (from_ahead after xs ∙ ahead_is xs after (parts.0 ++ o ∷ []) passed.0 (once_at store listed p) passed.2))

  pub next_at : IsAt after xs
  next_at = go after passed.0 passed.2
    where
      go : (cursor : Option ℕ) (rest : List ℕ) → Walked xs cursor (parts.0 ++ o ∷ []) rest → IsAt cursor xs
      go None rest at = tt
      go (Some q) [] at = absurd (let e : Some q ≡ None = at.at in cc)
      go (Some q) (y ∷ rest) at = let same : q ≡ y = let e : Some q ≡ Some y = at.at in cc in subst (λ l. Includes l q) (sym at.parts)
          (Includes-append_right (parts.0 ++ o ∷ []) (y ∷ rest) q (inl (sym same)))

-- what the heap is ready for
module _ (store : Store) (listed : IsListed store) (apart : IsApartUnseen store) (pending : IsEmptyAt store Pend) where
  nobody_waits : (v : ℕ) → Includes (list_at store Pend) v → ⊥
  nobody_waits v h = subst (λ l. Includes l v) pending h

  pub ready_weak : (g : ℕ) → IsReadyForCollectionAt store g (told_weak store)
  ready_weak g = (apart, λ w h. absurd (nobody_waits w h))

  pub ready_told : (g : ℕ) (b : Bool) → IsReadyForCollectionAt store g (told_if b store)
  ready_told g true = (apart, pending, at_first (list_at store Cand))
  ready_told g false = ready_weak g

  pub walk_told : (profile : ℕ) (b : Bool) → HasItsWalk profile store (told_if b store)
  walk_told profile true = tt
  walk_told profile false = walk_begins profile store listed apart.1 pending

pub few_told : (n : ℕ) (b : Bool) (store : Store) → n ≡ 0 → HasFewCollected n (told_if b store) store
few_told n true store e = e
few_told n false store e = e

pub onward_told : (zero one two frozen : ℕ) (b : Bool) (store : Store) → Advances (phase_of.Sizes zero one two frozen) (told_if b store)
onward_told zero one two frozen true store = (omega arith, refl)
onward_told zero one two frozen false store = (omega arith, refl)

-- the remaining lines
module _ (script : Script) (asked : Bool) (facts : Facts) (store : Store) where
  pub told_lines : (b : Bool) → lines_left script asked (collection_at facts (told_if b store) None) (told_if b store) store ≡ lines_if b (map GcCollectable (list_at store Cand))
  told_lines true = ap (map GcCollectable) (from_first (list_at store Cand))
  told_lines false = refl

  -- phases that print represent the same world
  pub shows_told : (b : Bool) (policy : Policy) (w : World) (below : List Activity) (none one two frozen : ℕ)
      → CollectionShows asked (collection_at facts (phase_of.Sizes none one two frozen) None) store policy w below
      → CollectionShows asked (collection_at facts (told_if b store) None) store policy w below
  shows_told true policy w below none one two frozen s = record { represents = s.represents; numbers = s.numbers; running = s.running; top = s.top }
  shows_told false policy w below none one two frozen s = record { represents = s.represents; numbers = s.numbers; running = s.running; top = s.top }

module _ (script : Script) (facts : Facts) (store : Store) (policy : Policy) where
  pub steps_sizes : (none one two frozen : ℕ)
      → CollectSteps script (collection_at facts (phase_of.Sizes none one two frozen) None) store policy
      (collection_at facts (told_if (has_flag (bits_of facts.flags) collectable) store) None) store policy (answer_of.Emit (Gens none one two frozen))
  steps_sizes none one two frozen asked w below s =
      let b = has_flag (bits_of facts.flags) collectable in
      only_tells script asked w below (Gens none one two frozen ∷ lines_if b (map GcCollectable (list_at store Cand))) (Gens none one two frozen ∷ [])
      (collection_at facts (told_if b store) None) store policy
      (ap (λ l. Gens none one two frozen ∷ l) (sym (told_lines script asked facts store b)))
      (shows_told script asked facts store b policy w below none one two frozen s.shows)

  pub steps_condemned : (o : ℕ) (after : Option ℕ) → from_on (Some o) (list_at store Cand) ≡ o ∷ from_on after (list_at store Cand)
      → CollectSteps script (collection_at facts (phase_of.Telling (Some o)) None) store policy (collection_at facts (phase_of.Telling after) None) store policy (answer_of.Emit (GcCollectable o))
  steps_condemned o after left asked w below s =
      only_tells script asked w below (map GcCollectable (from_on (Some o) (list_at store Cand))) (GcCollectable o ∷ []) (collection_at facts (phase_of.Telling after) None) store policy
      (ap (map GcCollectable) left)
      (record { represents = s.shows.represents; numbers = s.shows.numbers; running = s.shows.running; top = s.shows.top })

  pub steps_told : CollectSteps script (collection_at facts (phase_of.Telling None) None) store policy (collection_at facts (told_weak store) None) store policy answer_of.Continue
  steps_told asked w below s =
      only_tells script asked w below [] [] (collection_at facts (told_weak store) None) store policy refl
      (record { represents = s.shows.represents; numbers = s.shows.numbers; running = s.shows.running; top = s.shows.top })
