-- The chains of all places when a slot leaves or joins one, or one is appended to another.
use Rattle.std.proofs.Common.{◌≡◌, ◌≢◌, ℕ, ◌+◌, ◌<◌, ◌≤◌, Bool, true, false, List, [], ◌∷◌, ◌++◌, Option, Some, None, refl, sym, ap, ◌∙◌, subst, inl, inr, arith}
use Rattle.std.specs.Prelude.{◌==◌, if◌then◌else◌}
use Rattle.std.proofs.lemmas.Bool.{cases_eq, eq-eqb, ne_eqb}
use Rattle.cg_value.specs.declared.Place.{Place}
use Rattle.cg_graph.specs.Holdings.{occurrences}
use Rattle.cg_graph.specs.Places.{place_number, without_serial}
use Rattle.cg_arena.specs.declared.slot.Slot.{Slot}
use Rattle.cg_arena.specs.Links.{ListEnds, IsLinked, first_or, last_or, ends_of, ends_without, ends_joined, one_end}
use Rattle.cg_arena.specs.Nodes.{count_in_list}
use Rattle.cg_arena.specs.Slots.{before_in, after_in, place_in_slot}
use Rattle.cg_arena.specs.Table.{stands_at, IsSpelled}
use Rattle.cg_arena.proofs.Occurrences.{last_of-stands, first-stands, one, one-same, one-apart, occurrences-cons, occurrences-append, occurrences-single, IsBetween, stands_between, without-absent, without-between, occurrences-without_same, occurrences-without_other}
use Rattle.cg_arena.proofs.Chains.{HasLinks, linked_still, linked_front, linked_back, IsTied, tied_chain, tied_elsewhere}
use Rattle.cg_arena.proofs.EndsLemmas.{ends-without, ends-joined}

-- places with the same number are equal
pub count_in_list-same : (p : ℕ) (q : Place) → place_number q ≡ p → count_in_list p (Some q) ≡ 1
count_in_list-same p q is = ap (λ b. if b then 1 else 0) (eq-eqb (place_number q) p is)

pub count_in_list-other : (p : ℕ) (q : Place) → place_number q ≢ p → count_in_list p (Some q) ≡ 0
count_in_list-other p q differs = ap (λ b. if b then 1 else 0) (ne_eqb (place_number q) p differs)

pub numbered_once : (p : ℕ) (at : Option Place) → count_in_list p at ≤ 1
numbered_once p None = omega arith
numbered_once p (Some q) = go (place_number q == p)
  where
    go : (b : Bool) → (if b then 1 else 0) ≤ 1
    go true = omega arith
    go false = omega arith

pub numbered_either : (p r : ℕ) (at : Option Place) → p ≢ r → count_in_list p at + count_in_list r at ≤ 1
numbered_either p r None differs = omega arith
numbered_either p r (Some q) differs = elim (cases_eq (place_number q) p) [
  | inl same ↦ omega (arith, count_in_list-same p q same, count_in_list-other r q (λ e. differs (sym same ∙ e)))
  | inr other ↦ omega (arith, count_in_list-other p q other, numbered_once r (Some q))
]

pub stands-loose : (p k : ℕ) (at : Option Place) → stands_at (Some k) p k at ≡ 0
stands-loose p k at = ap (λ b. if b then 0 else count_in_list p at) (eq-eqb k k refl)

pub stands-other : (p j k : ℕ) (at : Option Place) → j ≢ k → stands_at (Some k) p j at ≡ count_in_list p at
stands-other p j k at differs = ap (λ b. if b then 0 else count_in_list p at) (ne_eqb j k differs)

-- each slot occurs at most once, over all chains
once_at : (loose : Option ℕ) (p k : ℕ) (at : Option Place) → stands_at loose p k at ≤ count_in_list p at
once_at None p k at = omega arith
once_at (Some l) p k at = elim (cases_eq k l) [
  | inl same ↦ subst (λ m. stands_at (Some m) p k at ≤ count_in_list p at) same (omega (arith, stands-loose p k at))
  | inr differs ↦ omega (arith, stands-other p k l at differs)
]

module _ (cell : ℕ → Option Slot) (ends : ℕ → ListEnds) (chain : ℕ → List ℕ) (loose : Option ℕ) (spelled : IsSpelled cell ends chain loose) where
  pub stands_once : (p j : ℕ) → p < 10 → occurrences j (chain p) ≤ 1
  stands_once p j below = omega (arith, spelled.standing p j below, once_at loose p j (place_in_slot (cell j)), numbered_once p (place_in_slot (cell j)))

  pub stands_either : (p r j : ℕ) → p < 10 → r < 10 → p ≢ r → occurrences j (chain p) + occurrences j (chain r) ≤ 1
  stands_either p r j below_p below_r differs =
      omega (
        arith,
        spelled.standing p j below_p,
        spelled.standing r j below_r,
        once_at loose p j (place_in_slot (cell j)),
        once_at loose r j (place_in_slot (cell j)),
        numbered_either p r (place_in_slot (cell j)) differs,
      )

  -- a slot in a chain has the chain's place
  pub stands_placed : (p j : ℕ) → p < 10 → 0 < occurrences j (chain p) → count_in_list p (place_in_slot (cell j)) ≡ 1
  stands_placed p j below stands = omega (arith, stands, spelled.standing p j below, once_at loose p j (place_in_slot (cell j)), numbered_once p (place_in_slot (cell j)))

-- the neighbours of a slot are in its chain
module _ (cell : ℕ → Option Slot) (ends : ℕ → ListEnds) (chain : ℕ → List ℕ) (loose : Option ℕ) (spelled : IsSpelled cell ends chain loose) (k p : ℕ)
    (below : p < 10) (stood : 0 < occurrences k (chain p)) where
  parts : IsBetween k (chain p)
  parts = stands_between k (chain p) stood

  around : IsLinked cell (last_or None parts.front) (k ∷ parts.back) None
  around = linked_back cell None parts.front (k ∷ parts.back) None (subst (λ ks. IsLinked cell None ks None) parts.is (spelled.linked p below))

  in_parts : (j : ℕ) → occurrences j (chain p) ≡ occurrences j parts.front + (one j k + occurrences j parts.back)
  in_parts j = ap (occurrences j) parts.is ∙ occurrences-append j parts.front (k ∷ parts.back) ∙ ap (λ n. occurrences j parts.front + n) (occurrences-cons j k parts.back)

  pub before_stands : (j : ℕ) → before_in (cell k) ≡ Some j → 0 < occurrences j (chain p)
  before_stands j is = omega (arith, in_parts j, last_of-stands parts.front j (sym around.0 ∙ is))

  pub after_stands : (j : ℕ) → after_in (cell k) ≡ Some j → 0 < occurrences j (chain p)
  after_stands j is = omega (arith, in_parts j, first-stands parts.back j (sym around.1 ∙ is))

-- a slot leaves its chain
module _ (cell new : ℕ → Option Slot) (ends later : ℕ → ListEnds) (chain : ℕ → List ℕ) (spelled : IsSpelled cell ends chain None) (k p : ℕ) (place : Place)
    (below : p < 10) (place_is : place_in_slot (cell k) ≡ Some place) (number_is : place_number place ≡ p) (tie : IsTied cell new (before_in (cell k))
    (after_in (cell k))) (places : (j : ℕ) → place_in_slot (new j) ≡ place_in_slot (cell j)) (there : later p ≡ ends_without (before_in (cell k))
    (after_in (cell k)) (ends p)) (elsewhere : (r : ℕ) → r ≢ p → later r ≡ ends r) where
  stood : occurrences k (chain p) ≡ 1
  stood = spelled.standing p k below ∙ ap (count_in_list p) place_is ∙ count_in_list-same p place number_is

  stood_not : (r : ℕ) → r < 10 → r ≢ p → occurrences k (chain r) ≡ 0
  stood_not r r_below differs = spelled.standing r k r_below ∙ ap (count_in_list r) place_is ∙ count_in_list-other r place (λ e. differs (sym e ∙ number_is))

  between : IsBetween k (chain p)
  between = stands_between k (chain p) (omega (arith, stood))

  counted : (j : ℕ) → occurrences j (chain p) ≡ occurrences j between.front + (one j k + occurrences j between.back)
  counted j = ap (occurrences j) between.is ∙ occurrences-append j between.front (k ∷ between.back) ∙ ap (λ n. occurrences j between.front + n) (occurrences-cons j k between.back)

  once : (j : ℕ) → occurrences j between.front + occurrences j between.back ≤ 1
  once j = omega (arith, counted j, stands_once cell ends chain None spelled p j below)

  was_linked : IsLinked cell None (between.front ++ k ∷ between.back) None
  was_linked = subst (λ ks. IsLinked cell None ks None) between.is (spelled.linked p below)

  behind : IsLinked cell (last_or None between.front) (k ∷ between.back) None
  behind = linked_back cell None between.front (k ∷ between.back) None was_linked

  ties : IsTied cell new (last_or None between.front) (first_or between.back None)
  ties = subst (λ b. IsTied cell new b (first_or between.back None)) behind.0 (subst (λ a. IsTied cell new (before_in (cell k)) a) behind.1 tie)

  without_is : without_serial k (chain p) ≡ between.front ++ between.back
  without_is =
      let here : one k k ≡ 1 = one-same k k refl in
      ap (without_serial k) between.is
      ∙ without-between k between.front between.back (omega (arith, stood, counted k, here)) (omega (arith, stood, counted k, here))

  linked_here : IsLinked new None (without_serial k (chain p)) None
  linked_here =
      subst (λ ks. IsLinked new None ks None) (sym without_is)
      (tied_chain cell new between.front between.back (Some k) (Some k) ties once
      (linked_front cell None between.front (k ∷ between.back) None was_linked)
      behind.2)

  linked_there : (r : ℕ) → r < 10 → r ≢ p → IsLinked new None (without_serial k (chain r)) None
  linked_there r r_below differs =
      subst (λ ks. IsLinked new None ks None) (sym (without-absent k (chain r) (stood_not r r_below differs)))
      (tied_elsewhere cell new between.front between.back (Some k) (Some k) ties once (chain r) None
      (λ j stands. omega (arith, stands, counted j, stands_either cell ends chain None spelled p r j below r_below (λ e. differs (sym e))))
      (spelled.linked r r_below))

  ends_here : later p ≡ ends_of (without_serial k (chain p))
  ends_here =
      there
      ∙ (λ i. ends_without (behind.0 i) (behind.1 i) (spelled.ended p below i))
      ∙ ap (λ ks. ends_without (last_or None between.front) (first_or between.back None) (ends_of ks)) between.is
      ∙ ends-without between.front between.back k
      ∙ ap ends_of (sym without_is)

  ends_there : (r : ℕ) → r < 10 → r ≢ p → later r ≡ ends_of (without_serial k (chain r))
  ends_there r r_below differs =
      elsewhere r differs ∙ spelled.ended r r_below ∙ ap ends_of (sym (without-absent k (chain r) (stood_not r r_below differs)))

  standing_still : (r j : ℕ) → r < 10 → occurrences j (without_serial k (chain r)) ≡ stands_at (Some k) r j (place_in_slot (new j))
  standing_still r j r_below = elim (cases_eq j k) [
    | inl same ↦
        ap (λ i. occurrences i (without_serial k (chain r))) same
        ∙ occurrences-without_same k (chain r)
        ∙ sym (ap (λ i. stands_at (Some i) r j (place_in_slot (new j))) (sym same) ∙ stands-loose r j (place_in_slot (new j)))
    | inr differs ↦
        occurrences-without_other j k (chain r) differs
        ∙ spelled.standing r j r_below
        ∙ ap (count_in_list r) (sym (places j))
        ∙ sym (stands-other r j k (place_in_slot (new j)) differs)
  ]

  pub leaves_spelled : IsSpelled new later (λ r. without_serial k (chain r)) (Some k)
  leaves_spelled =
      record {
        linked = λ r r_below. elim (cases_eq r p) [
          | inl same ↦ subst (λ q. IsLinked new None (without_serial k (chain q)) None) (sym same) linked_here
          | inr differs ↦ linked_there r r_below differs
        ];
        ended = λ r r_below. elim (cases_eq r p) [
          | inl same ↦ subst (λ q. later q ≡ ends_of (without_serial k (chain q))) (sym same) ends_here
          | inr differs ↦ ends_there r r_below differs
        ];
        standing = standing_still;
      }

-- a loose slot may change freely
pub loose_spelled : (cell new : ℕ → Option Slot) (ends : ℕ → ListEnds) (chain : ℕ → List ℕ) (k : ℕ) → IsSpelled cell ends chain (Some k)
    → ((j : ℕ) → j ≢ k → HasLinks cell new j) → ((j : ℕ) → j ≢ k → place_in_slot (new j) ≡ place_in_slot (cell j))
    → IsSpelled new ends chain (Some k)
loose_spelled cell new ends chain k spelled links places =
    let nowhere = λ (p : ℕ) (below : p < 10). let e : occurrences k (chain p) ≡ 0 = spelled.standing p k below ∙ stands-loose p k (place_in_slot (cell k)) in e in
    record {
      linked = λ p below. linked_still cell new None (chain p) None
          (λ j stands. links j (λ same. absurd (omega (arith, stands, nowhere p below, ap (λ i. occurrences i (chain p)) same))))
          (spelled.linked p below);
      ended = spelled.ended;
      standing = λ p j below. elim (cases_eq j k) [
        | inl same ↦
            ap (λ i. occurrences i (chain p)) same ∙ nowhere p below
            ∙ sym (ap (λ i. stands_at (Some i) p j (place_in_slot (new j))) (sym same) ∙ stands-loose p j (place_in_slot (new j)))
        | inr differs ↦
            spelled.standing p j below
            ∙ stands-other p j k (place_in_slot (cell j)) differs
            ∙ ap (count_in_list p) (sym (places j differs))
            ∙ sym (stands-other p j k (place_in_slot (new j)) differs)
      ];
    }

-- a vacant slot is in no chain, and may count as loose or not
pub vacant_loose : (cell : ℕ → Option Slot) (ends : ℕ → ListEnds) (chain : ℕ → List ℕ) (k : ℕ) → cell k ≡ None → IsSpelled cell ends chain None → IsSpelled cell ends chain (Some k)
vacant_loose cell ends chain k vacant spelled =
    record {
      linked = spelled.linked;
      ended = spelled.ended;
      standing = λ p j below. elim (cases_eq j k) [
        | inl same ↦
            spelled.standing p j below
            ∙ ap (λ i. count_in_list p (place_in_slot (cell i))) same
            ∙ ap (λ o. count_in_list p (place_in_slot o)) vacant
            ∙ sym (ap (λ i. stands_at (Some i) p j (place_in_slot (cell j))) (sym same) ∙ stands-loose p j (place_in_slot (cell j)))
        | inr differs ↦ spelled.standing p j below ∙ sym (stands-other p j k (place_in_slot (cell j)) differs)
      ];
    }

pub loose_vacant : (cell : ℕ → Option Slot) (ends : ℕ → ListEnds) (chain : ℕ → List ℕ) (k : ℕ) → cell k ≡ None → IsSpelled cell ends chain (Some k) → IsSpelled cell ends chain None
loose_vacant cell ends chain k vacant spelled =
    record {
      linked = spelled.linked;
      ended = spelled.ended;
      standing = λ p j below. elim (cases_eq j k) [
        | inl same ↦
            spelled.standing p j below
            ∙ ap (λ i. stands_at (Some i) p j (place_in_slot (cell j))) (sym same) ∙ stands-loose p j (place_in_slot (cell j))
            ∙ sym (ap (λ i. count_in_list p (place_in_slot (cell i))) same ∙ ap (λ o. count_in_list p (place_in_slot o)) vacant)
        | inr differs ↦ spelled.standing p j below ∙ stands-other p j k (place_in_slot (cell j)) differs
      ];
    }

-- the chains after some slots are appended to one of them
abbrev pub appended_at : ℕ → List ℕ → (ℕ → List ℕ) → ℕ → List ℕ
appended_at q ks chain r = if r == q then chain r ++ ks else chain r

pub appended-here : (q : ℕ) (ks : List ℕ) (chain : ℕ → List ℕ) (r : ℕ) → r ≡ q → appended_at q ks chain r ≡ chain r ++ ks
appended-here q ks chain r same = ap (λ b. if b then chain r ++ ks else chain r) (eq-eqb r q same)

pub appended-there : (q : ℕ) (ks : List ℕ) (chain : ℕ → List ℕ) (r : ℕ) → r ≢ q → appended_at q ks chain r ≡ chain r
appended-there q ks chain r differs = ap (λ b. if b then chain r ++ ks else chain r) (ne_eqb r q differs)

-- a loose slot joins the end of a chain
module _ (cell new : ℕ → Option Slot) (ends later : ℕ → ListEnds) (chain : ℕ → List ℕ) (k q : ℕ) (spelled : IsSpelled cell ends chain (Some k)) (place : Place)
    (below : q < 10) (place_is : place_in_slot (cell k) ≡ Some place) (number_is : place_number place ≡ q) (ends_it : after_in (cell k) ≡ None)
    (last : Option ℕ) (last_is : last ≡ (ends q).last) (tie : IsTied cell new last (Some k)) (places : (j : ℕ) → place_in_slot (new j) ≡ place_in_slot (cell j))
    (there : later q ≡ ends_joined (ends q) (one_end k)) (elsewhere : (r : ℕ) → r ≢ q → later r ≡ ends r) where
  absent : (r : ℕ) → r < 10 → occurrences k (chain r) ≡ 0
  absent r r_below = spelled.standing r k r_below ∙ stands-loose r k (place_in_slot (cell k))

  single : (j : ℕ) → occurrences j (k ∷ []) ≡ one j k
  single j = occurrences-single j k

  apart : (r j : ℕ) → r < 10 → 0 < occurrences j (chain r) → one j k ≡ 0
  apart r j r_below stands = one-apart j k (λ same. absurd (omega (arith, stands, absent r r_below, ap (λ i. occurrences i (chain r)) same)))

  pub joins_once : (j : ℕ) → occurrences j (chain q) + occurrences j (k ∷ []) ≤ 1
  joins_once j = elim (cases_eq k j) [
    | inl same ↦ omega (arith, single j, one-same j k same, absent q below, ap (λ i. occurrences i (chain q)) same)
    | inr differs ↦ omega (arith, single j, one-apart j k differs, stands_once cell ends chain (Some k) spelled q j below)
  ]

  joins_tie : IsTied cell new (last_or None (chain q)) (first_or (k ∷ []) None)
  joins_tie = subst (λ b. IsTied cell new b (Some k)) (last_is ∙ ap (λ (e : ListEnds). e.last) (spelled.ended q below)) tie

  joined_chain : IsLinked new None (chain q ++ k ∷ []) None
  joined_chain = tied_chain cell new (chain q) (k ∷ []) None (before_in (cell k)) joins_tie joins_once (spelled.linked q below) (refl, ends_it, tt)

  other_chain : (r : ℕ) → r < 10 → r ≢ q → IsLinked new None (chain r) None
  other_chain r r_below differs =
      tied_elsewhere cell new (chain q) (k ∷ []) None (before_in (cell k)) joins_tie joins_once (chain r) None
      (λ j stands. omega (arith, stands, single j, apart r j r_below stands, stands_either cell ends chain (Some k) spelled r q j r_below below differs))
      (spelled.linked r r_below)

  joins_standing : (r j : ℕ) → r < 10 → occurrences j (appended_at q (k ∷ []) chain r) ≡ count_in_list r (place_in_slot (new j))
  joins_standing r j r_below = elim (cases_eq r q) [
    | inl same ↦
        ap (occurrences j) (appended-here q (k ∷ []) chain r same)
        ∙ occurrences-append j (chain r) (k ∷ [])
        ∙ ap (λ n. occurrences j (chain r) + n) (single j)
        ∙ elim (cases_eq j k) [
          | inl here ↦
              let none : occurrences j (chain r) ≡ 0 = ap (λ i. occurrences i (chain r)) here ∙ absent r r_below in
              let is : count_in_list r (place_in_slot (new j)) ≡ 1 = ap (count_in_list r) (places j ∙ ap (λ i. place_in_slot (cell i)) here ∙ place_is)
              ∙ count_in_list-same r place (number_is ∙ sym same) in
              omega (arith, none, is, one-same j k (sym here))
          | inr differs ↦
              let other : occurrences j (chain r) ≡ count_in_list r (place_in_slot (new j)) = spelled.standing r j r_below
              ∙ stands-other r j k (place_in_slot (cell j)) differs ∙ ap (count_in_list r) (sym (places j)) in
              omega (arith, other, one-apart j k (λ e. differs (sym e)))
        ]
    | inr differs ↦
        ap (occurrences j) (appended-there q (k ∷ []) chain r differs)
        ∙ elim (cases_eq j k) [
          | inl here ↦
              let none : occurrences j (chain r) ≡ 0 = ap (λ i. occurrences i (chain r)) here ∙ absent r r_below in
              let is : count_in_list r (place_in_slot (new j)) ≡ 0 = ap (count_in_list r) (places j ∙ ap (λ i. place_in_slot (cell i)) here ∙ place_is)
              ∙ count_in_list-other r place (λ e. differs (sym e ∙ number_is)) in
              none ∙ sym is
          | inr other ↦ spelled.standing r j r_below ∙ stands-other r j k (place_in_slot (cell j)) other ∙ ap (count_in_list r) (sym (places j))
        ]
  ]

  pub joins_spelled : IsSpelled new later (appended_at q (k ∷ []) chain) None
  joins_spelled =
      record {
        linked = λ r r_below. elim (cases_eq r q) [
          | inl same ↦ subst (λ ks. IsLinked new None ks None) (sym (appended-here q (k ∷ []) chain r same)) (subst (λ s. IsLinked new None (chain s ++ k ∷ []) None) (sym same) joined_chain)
          | inr differs ↦ subst (λ ks. IsLinked new None ks None) (sym (appended-there q (k ∷ []) chain r differs)) (other_chain r r_below differs)
        ];
        ended = λ r r_below. elim (cases_eq r q) [
          | inl same ↦
              ap later same ∙ there
              ∙ ap (λ e. ends_joined e (one_end k)) (spelled.ended q below)
              ∙ ends-joined (chain q) (k ∷ [])
              ∙ ap (λ s. ends_of (chain s ++ k ∷ [])) (sym same)
              ∙ ap ends_of (sym (appended-here q (k ∷ []) chain r same))
          | inr differs ↦ elsewhere r differs ∙ spelled.ended r r_below ∙ ap ends_of (sym (appended-there q (k ∷ []) chain r differs))
        ];
        standing = joins_standing;
      }
