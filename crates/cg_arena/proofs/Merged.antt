-- The chains of all places after one is appended to another.
use Rattle.std.proofs.Common.{◌≡◌, ◌≢◌, ℕ, ◌+◌, ◌<◌, ◌≤◌, List, [], ◌++◌, Option, Some, None, sym, ap, ◌∙◌, subst, inl, inr, arith}
use Rattle.std.specs.Prelude.{◌==◌, if◌then◌else◌}
use Rattle.std.proofs.lemmas.Bool.{cases_eq, eq-eqb, ne_eqb}
use Rattle.cg_value.specs.declared.Place.{Place}
use Rattle.cg_graph.specs.Holdings.{occurrences}
use Rattle.cg_graph.specs.Places.{place_number}
use Rattle.cg_arena.specs.declared.slot.Slot.{Slot}
use Rattle.cg_arena.specs.Links.{ListEnds, IsLinked, first_or, last_or, ends_of, ends_joined, no_ends}
use Rattle.cg_arena.specs.Nodes.{count_in_list}
use Rattle.cg_arena.specs.Slots.{place_in_slot}
use Rattle.cg_arena.specs.Table.{IsSpelled}
use Rattle.cg_arena.proofs.Occurrences.{occurrences-append}
use Rattle.cg_arena.proofs.Chains.{HasLinks, linked_still, IsTied, tied_chain, tied_elsewhere}
use Rattle.cg_arena.proofs.EndsLemmas.{ends-joined}
use Rattle.cg_arena.proofs.ChangedChains.{count_in_list-same, count_in_list-other, stands_once, stands_either}

-- the chains after that of p is appended to that of q
abbrev pub merged_chain : ℕ → ℕ → (ℕ → List ℕ) → ℕ → List ℕ
merged_chain p q chain r = if r == q then chain q ++ chain p else if r == p then [] else chain r

module _ (p q : ℕ) (differ : p ≢ q) (chain : ℕ → List ℕ) (r : ℕ) where
  pub merged-to : r ≡ q → merged_chain p q chain r ≡ chain q ++ chain p
  merged-to same = ap (λ b. if b then chain q ++ chain p else if r == p then [] else chain r) (eq-eqb r q same)

  pub merged-from : r ≡ p → merged_chain p q chain r ≡ []
  merged-from same =
      ap (λ b. if b then chain q ++ chain p else if r == p then [] else chain r) (ne_eqb r q (λ e. differ (sym same ∙ e)))
      ∙ ap (λ b. if b then [] else chain r) (eq-eqb r p same)

  pub merged-other : r ≢ q → r ≢ p → merged_chain p q chain r ≡ chain r
  merged-other not_to not_from =
      ap (λ b. if b then chain q ++ chain p else if r == p then [] else chain r) (ne_eqb r q not_to)
      ∙ ap (λ b. if b then [] else chain r) (ne_eqb r p not_from)

-- which number r is: the target's, the source's, or another
pub data Which (p q r : ℕ) : Type 0 where
  To : r ≡ q → Which p q r
  From : r ≡ p → Which p q r
  Other : r ≢ q → r ≢ p → Which p q r

pub which : (p q r : ℕ) → Which p q r
which p q r = elim (cases_eq r q) [
  | inl to ↦ To to
  | inr not_to ↦ elim (cases_eq r p) [ inl from ↦ From from | inr not_from ↦ Other not_to not_from ]
]

module _ (cell placed new : ℕ → Option Slot) (ends later : ℕ → ListEnds) (chain : ℕ → List ℕ) (spelled : IsSpelled cell ends chain None) (p q : ℕ) (place : Place)
    (below_p : p < 10) (below_q : q < 10) (differ : p ≢ q) (number_is : place_number place ≡ q) (links : (j : ℕ) → HasLinks cell placed j) (among : (j : ℕ)
    → 0 < occurrences j (chain p) → place_in_slot (placed j) ≡ Some place) (aside : (j : ℕ) → occurrences j (chain p) ≡ 0 → place_in_slot (placed j)
    ≡ place_in_slot (cell j)) (last first : Option ℕ) (last_is : last ≡ (ends q).last) (first_is : first ≡ (ends p).first) (tie : IsTied placed new last first)
    (places : (j : ℕ) → place_in_slot (new j) ≡ place_in_slot (placed j)) (to : later q ≡ ends_joined (ends q) (ends p)) (from : later p ≡ no_ends)
    (elsewhere : (r : ℕ) → r ≢ q → r ≢ p → later r ≡ ends r) where
  linked_placed : (r : ℕ) → r < 10 → IsLinked placed None (chain r) None
  linked_placed r below = linked_still cell placed None (chain r) None (λ j stands. links j) (spelled.linked r below)

  pub merge_once : (j : ℕ) → occurrences j (chain q) + occurrences j (chain p) ≤ 1
  merge_once j = stands_either cell ends chain None spelled q p j below_q below_p (λ e. differ (sym e))

  merge_tie : IsTied placed new (last_or None (chain q)) (first_or (chain p) None)
  merge_tie =
      subst (λ b. IsTied placed new b (first_or (chain p) None)) (last_is ∙ ap (λ (e : ListEnds). e.last) (spelled.ended q below_q))
      (subst (λ a. IsTied placed new last a) (first_is ∙ ap (λ (e : ListEnds). e.first) (spelled.ended p below_p)) tie)

  one_chain : IsLinked new None (chain q ++ chain p) None
  one_chain = tied_chain placed new (chain q) (chain p) None None merge_tie merge_once (linked_placed q below_q) (linked_placed p below_p)

  chain_aside : (r : ℕ) → r < 10 → r ≢ q → r ≢ p → IsLinked new None (chain r) None
  chain_aside r below not_to not_from =
      tied_elsewhere placed new (chain q) (chain p) None None merge_tie merge_once (chain r) None
      (λ j stands. omega (arith, stands, stands_either cell ends chain None spelled r q j below below_q not_to, stands_either cell ends chain None spelled r p j below below_p not_from))
      (linked_placed r below)

  in_from : (j : ℕ) → (0 < occurrences j (chain p)) → (r : ℕ) → count_in_list r (place_in_slot (new j)) ≡ count_in_list r (Some place)
  in_from j stands r = ap (count_in_list r) (places j ∙ among j stands)

  not_in_from : (j : ℕ) → occurrences j (chain p) ≡ 0 → (r : ℕ) → count_in_list r (place_in_slot (new j)) ≡ count_in_list r (place_in_slot (cell j))
  not_in_from j none r = ap (count_in_list r) (places j ∙ aside j none)

  -- whether a slot is in the appended chain
  pub data Stands (j : ℕ) : Type 0 where
    There : 0 < occurrences j (chain p) → occurrences j (chain p) ≡ 1 → Stands j
    Elsewhere : occurrences j (chain p) ≡ 0 → Stands j

  pub stands_there : (j : ℕ) → Stands j
  stands_there j = elim (cases_eq (occurrences j (chain p)) 0) [
    | inl none ↦ Elsewhere none
    | inr some ↦ There (omega (arith, some)) (omega (arith, some, stands_once cell ends chain None spelled p j below_p))
  ]

  standing_to : (j : ℕ) → occurrences j (chain q ++ chain p) ≡ count_in_list q (place_in_slot (new j))
  standing_to j = elim (stands_there j) [
    | There some is ↦ omega (arith, occurrences-append j (chain q) (chain p), is, merge_once j, in_from j some q, count_in_list-same q place number_is)
    | Elsewhere none ↦ omega (arith, occurrences-append j (chain q) (chain p), none, not_in_from j none q, spelled.standing q j below_q)
  ]

  standing_from : (j : ℕ) → 0 ≡ count_in_list p (place_in_slot (new j))
  standing_from j = elim (stands_there j) [
    | There some is ↦ omega (arith, in_from j some p, count_in_list-other p place (λ e. differ (sym e ∙ number_is)))
    | Elsewhere none ↦ omega (arith, none, not_in_from j none p, spelled.standing p j below_p)
  ]

  standing_aside : (r j : ℕ) → r < 10 → r ≢ q → r ≢ p → occurrences j (chain r) ≡ count_in_list r (place_in_slot (new j))
  standing_aside r j below not_to not_from = elim (stands_there j) [
    | There some is ↦ omega (arith, is, stands_either cell ends chain None spelled r p j below below_p not_from, in_from j some r, count_in_list-other r place (λ e. not_to (sym e ∙ number_is)))
    | Elsewhere none ↦ spelled.standing r j below ∙ sym (not_in_from j none r)
  ]

  merged_linked : (r : ℕ) → r < 10 → Which p q r → IsLinked new None (merged_chain p q chain r) None
  merged_linked r below (To same) = subst (λ ks. IsLinked new None ks None) (sym (merged-to p q differ chain r same)) one_chain
  merged_linked r below (From same) = subst (λ ks. IsLinked new None ks None) (sym (merged-from p q differ chain r same)) tt
  merged_linked r below (Other not_to not_from) = subst (λ ks. IsLinked new None ks None) (sym (merged-other p q differ chain r not_to not_from)) (chain_aside r below not_to not_from)

  merged_ended : (r : ℕ) → r < 10 → Which p q r → later r ≡ ends_of (merged_chain p q chain r)
  merged_ended r below (To same) =
      ap later same ∙ to
      ∙ (λ i. ends_joined (spelled.ended q below_q i) (spelled.ended p below_p i))
      ∙ ends-joined (chain q) (chain p)
      ∙ ap ends_of (sym (merged-to p q differ chain r same))
  merged_ended r below (From same) = ap later same ∙ from ∙ ap ends_of (sym (merged-from p q differ chain r same))
  merged_ended r below (Other not_to not_from) = elsewhere r not_to not_from ∙ spelled.ended r below ∙ ap ends_of (sym (merged-other p q differ chain r not_to not_from))

  merged_standing : (r j : ℕ) → r < 10 → Which p q r → occurrences j (merged_chain p q chain r) ≡ count_in_list r (place_in_slot (new j))
  merged_standing r j below (To same) = ap (occurrences j) (merged-to p q differ chain r same) ∙ standing_to j ∙ ap (λ s. count_in_list s (place_in_slot (new j))) (sym same)
  merged_standing r j below (From same) = ap (occurrences j) (merged-from p q differ chain r same) ∙ standing_from j ∙ ap (λ s. count_in_list s (place_in_slot (new j))) (sym same)
  merged_standing r j below (Other not_to not_from) = ap (occurrences j) (merged-other p q differ chain r not_to not_from) ∙ standing_aside r j below not_to not_from

  pub merged_spelled : IsSpelled new later (merged_chain p q chain) None
  merged_spelled =
      record {
        linked = λ r below. merged_linked r below (which p q r);
        ended = λ r below. merged_ended r below (which p q r);
        standing = λ r j below. merged_standing r j below (which p q r);
      }
