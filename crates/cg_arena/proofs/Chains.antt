-- Chains of linked slots, and what a change of links keeps of them.
use Rattle.std.proofs.Common.{◌≡◌, ◌≢◌, ℕ, ◌+◌, ◌<◌, ◌≤◌, List, [], ◌∷◌, ◌++◌, length, Option, Some, None, refl, sym, ap, ◌∙◌, arith}
use Rattle.slab.specs.Slab.{Slab, get}
use Rattle.cg_graph.specs.Holdings.{occurrences}
use Rattle.cg_arena.specs.declared.slot.Slot.{Slot}
use Rattle.cg_arena.specs.Slots.{before_in, after_in}
use Rattle.cg_arena.specs.Links.{IsLinked, first_or, last_or, chain_from}
use Rattle.cg_arena.proofs.Occurrences.{one, one-same, occurrences-cons, last-stands, last_of-stands, first-stands, first_or-append}

-- the slot has the same links
abbrev pub HasLinks : (ℕ → Option Slot) → (ℕ → Option Slot) → ℕ → Type 0
HasLinks cell new j = (before_in (new j) ≡ before_in (cell j)) × (after_in (new j) ≡ after_in (cell j))

-- a chain whose slots keep their links remains a chain
pub linked_still : (cell new : ℕ → Option Slot) (before : Option ℕ) (ks : List ℕ) (after : Option ℕ) → ((j : ℕ) → 0 < occurrences j ks → HasLinks cell new j)
    → IsLinked cell before ks after → IsLinked new before ks after
linked_still cell new before [] after same linked = tt
linked_still cell new before (k ∷ ks) after same linked =
    let here = same k (omega (arith, occurrences-cons k k ks, one-same k k refl)) in
    (here.0 ∙ linked.0, here.1 ∙ linked.1, linked_still cell new (Some k) ks after (λ j stands. same j (omega (arith, stands, occurrences-cons j k ks))) linked.2)

-- two chains whose ends name each other are one chain
pub linked-append : (cell : ℕ → Option Slot) (before : Option ℕ) (ks ls : List ℕ) (after : Option ℕ) → IsLinked cell before ks (first_or ls after) → IsLinked cell (last_or before ks) ls after
    → IsLinked cell before (ks ++ ls) after
linked-append cell before [] ls after front back = back
linked-append cell before (k ∷ ks) ls after front back =
    (front.0, front.1 ∙ sym (first_or-append ks ls after), linked-append cell (Some k) ks ls after front.2 back)

pub linked_front : (cell : ℕ → Option Slot) (before : Option ℕ) (ks ls : List ℕ) (after : Option ℕ) → IsLinked cell before (ks ++ ls) after → IsLinked cell before ks (first_or ls after)
linked_front cell before [] ls after linked = tt
linked_front cell before (k ∷ ks) ls after linked =
    (linked.0, linked.1 ∙ first_or-append ks ls after, linked_front cell (Some k) ks ls after linked.2)

pub linked_back : (cell : ℕ → Option Slot) (before : Option ℕ) (ks ls : List ℕ) (after : Option ℕ) → IsLinked cell before (ks ++ ls) after → IsLinked cell (last_or before ks) ls after
linked_back cell before [] ls after linked = linked
linked_back cell before (k ∷ ks) ls after linked = linked_back cell (Some k) ks ls after linked.2

-- a chain is determined by its first slot
pub chain-read : (s : Slab Slot) (before : Option ℕ) (ks : List ℕ) → IsLinked (get s) before ks None → chain_from s (length ks) (first_or ks None) ≡ ks
chain-read s before [] linked = refl
chain-read s before (k ∷ ks) linked =
    ap (λ o. k ∷ chain_from s (length ks) o) linked.1
    ∙ ap (λ ls. k ∷ ls) (chain-read s (Some k) ks linked.2)

-- the last slot of a chain gets another successor
pub relast : (cell new : ℕ → Option Slot) (before : Option ℕ) (ks : List ℕ) (old after : Option ℕ)
    → ((j : ℕ) → occurrences j ks ≤ 1)
    → ((j : ℕ) → 0 < occurrences j ks → before_in (new j) ≡ before_in (cell j))
    → ((j : ℕ) → 0 < occurrences j ks → last_or before ks ≢ Some j → after_in (new j) ≡ after_in (cell j))
    → ((j : ℕ) → 0 < occurrences j ks → last_or before ks ≡ Some j → after_in (new j) ≡ after)
    → IsLinked cell before ks old → IsLinked new before ks after
relast cell new before [] old after once befores afters at_last linked = tt
relast cell new before (k ∷ []) old after once befores afters at_last linked =
    let stands : 0 < occurrences k (k ∷ []) = omega (arith, occurrences-cons k k [], one-same k k refl) in
    (befores k stands ∙ linked.0, at_last k stands refl, tt)
relast cell new before (k ∷ l ∷ ks) old after once befores afters at_last linked =
    let stands : 0 < occurrences k (k ∷ l ∷ ks) = omega (arith, occurrences-cons k k (l ∷ ks), one-same k k refl) in
    let later = λ (j : ℕ) (h : 0 < occurrences j (l ∷ ks)). let here : 0 < occurrences j (k ∷ l ∷ ks) = omega (arith, h, occurrences-cons j k (l ∷ ks)) in here in
    let inner : last_or (Some k) (l ∷ ks) ≢ Some k = λ is. absurd (omega (arith, last-stands (Some k) l ks k is, once k, occurrences-cons k k (l ∷ ks), one-same k k refl)) in (
      befores k stands ∙ linked.0,
      afters k stands inner ∙ linked.1,
      relast cell new (Some k) (l ∷ ks) old after
          (λ j. omega (arith, once j, occurrences-cons j k (l ∷ ks)))
          (λ j h. befores j (later j h))
          (λ j h. afters j (later j h))
          (λ j h. at_last j (later j h))
          linked.2,
    )

-- two slots, either of which may be missing, now name each other; no other link has changed
pub record IsTied (cell new : ℕ → Option Slot) (before after : Option ℕ) : Type 0 where
  pub befores : (j : ℕ) → after ≢ Some j → before_in (new j) ≡ before_in (cell j)
  pub afters : (j : ℕ) → before ≢ Some j → after_in (new j) ≡ after_in (cell j)
  pub next : (j : ℕ) → before ≡ Some j → after_in (new j) ≡ after
  pub last : (j : ℕ) → after ≡ Some j → before_in (new j) ≡ before

-- tying the end of one chain to the beginning of another joins them
module _ (cell new : ℕ → Option Slot) (ks ls : List ℕ) (old : Option ℕ) (gone : Option ℕ) (is_tied : IsTied cell new (last_or None ks) (first_or ls None))
    (once : (j : ℕ) → occurrences j ks + occurrences j ls ≤ 1) where
  front : IsLinked cell None ks old → IsLinked new None ks (first_or ls None)
  front linked =
      relast cell new None ks old (first_or ls None)
      (λ j. omega (arith, once j))
      (λ j stands. is_tied.befores j (λ is. absurd (omega (arith, stands, first-stands ls j is, once j))))
      (λ j stands. is_tied.afters j)
      (λ j stands. is_tied.next j)
      linked

  pub tied_back : (ms : List ℕ) → ms ≡ ls → IsLinked cell gone ms None → IsLinked new (last_or None ks) ms None
  tied_back [] is linked = tt
  tied_back (m ∷ ms) is linked =
      let first_is : first_or ls None ≡ Some m = sym (ap (λ xs. first_or xs None) is) in
      let stands : 0 < occurrences m ls = first-stands ls m first_is in
      let counted = λ (j : ℕ). let e : occurrences j ls ≡ one j m + occurrences j ms = sym (ap (occurrences j) is) ∙ occurrences-cons j m ms in e in
      let not_last = λ (j : ℕ) (h : 0 < occurrences j ls). let e : last_or None ks ≢ Some j = λ is. absurd (omega (arith, h, last_of-stands ks j is, once j)) in e in (
        is_tied.last m first_is,
        is_tied.afters m (not_last m stands) ∙ linked.1,
        linked_still cell new (Some m) ms None
            (λ j h.
            let among : 0 < occurrences j ls = omega (arith, h, counted j) in
            let apart : m ≢ j = λ same. absurd (omega (arith, h, once j, counted j, one-same j m same)) in
            (is_tied.befores j (λ e. apart (let same : m ≡ j = cc in same)), is_tied.afters j (not_last j among)))
            linked.2,
      )

  pub tied_chain : IsLinked cell None ks old → IsLinked cell gone ls None → IsLinked new None (ks ++ ls) None
  tied_chain linked_ks linked_ls = linked-append new None ks ls None (front linked_ks) (tied_back ls refl linked_ls)

  -- a chain without the two slots keeps its links
  pub tied_elsewhere : (ms : List ℕ) (after : Option ℕ) → ((j : ℕ) → 0 < occurrences j ms → occurrences j ks + occurrences j ls ≡ 0) → IsLinked cell None ms after → IsLinked new None ms after
  tied_elsewhere ms after apart linked =
      linked_still cell new None ms after
      (λ j h. (
        is_tied.befores j (λ is. absurd (omega (arith, apart j h, first-stands ls j is))),
        is_tied.afters j (λ is. absurd (omega (arith, apart j h, last_of-stands ks j is))),
      ))
      linked
