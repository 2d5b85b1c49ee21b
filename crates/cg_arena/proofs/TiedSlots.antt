-- Two tied slots: their new links, and what else of each slot is kept.
use Rattle.std.proofs.Common.{◌≡◌, ◌≢◌, ℕ, ◌-◌, ◌^◌, ◌<◌, true, Option, Some, None, refl, sym, ap, ◌∙◌, subst, arith}
use Rattle.std.specs.Prelude.{IfSome, option_map, is_some, if◌then◌else◌}
use Rattle.std.proofs.lemmas.Bool.{ne_eqb}
use Rattle.slab.specs.Slab.{Slab, get, ContainsKey}
use Rattle.cg_value.specs.declared.Place.{Place}
use Rattle.cg_arena.specs.declared.slot.Slot.{Slot}
use Rattle.cg_arena.specs.Nodes.{IsPlace}
use Rattle.cg_arena.specs.Slots.{link_of, link_to, before_in, after_in, place_in_slot, with_before, with_after}
use Rattle.cg_arena.specs.Links.{link_set, tied}
use Rattle.cg_arena.proofs.Writes.{get-rewritten_same, get-rewritten_other, part-rewritten}
use Rattle.cg_arena.proofs.Chains.{IsTied}

-- a link names the slot that it was made of
link_of-link_to : (at : Option ℕ) → ((j : ℕ) → at ≡ Some j → j < 2 ^ 32 - 1) → link_of (link_to at) ≡ at
link_of-link_to None low = refl
link_of-link_to (Some k) low = ap (λ b. if b then None else Some k) (ne_eqb k (2 ^ 32 - 1) (λ same. absurd (omega (arith, same, low k refl))))

-- one link of an optional slot is set
module _ (write : Option ℕ → Slot → Slot) where
  link_set-other : (at to : Option ℕ) (s : Slab Slot) (j : ℕ) → at ≢ Some j → get (link_set write at to s) j ≡ get s j
  link_set-other None to s j differs = refl
  link_set-other (Some k) to s j differs = get-rewritten_other (write to) k s j (λ same. differs (ap Some (sym same)))

  module _ (read : Option Slot → Option ℕ) (reads : (o : Option ℕ) (x : Slot) → read (Some (write o x)) ≡ link_of (link_to o)) where
    written : (to : Option ℕ) (o : Option Slot) → is_some o ≡ true → read (option_map (write to) o) ≡ link_of (link_to to)
    written to None there = absurd (cc)
    written to (Some x) there = reads to x

    link_set-same : (at to : Option ℕ) (s : Slab Slot) (j : ℕ) → at ≡ Some j → is_some (get s j) ≡ true → read (get (link_set write at to s) j) ≡ link_of (link_to to)
    link_set-same None to s j is there = absurd (cc)
    link_set-same (Some k) to s j is there =
        let same : j ≡ k = cc in
        ap (λ i. read (get (link_set write (Some k) to s) i)) same
        ∙ ap read (get-rewritten_same (write to) k s)
        ∙ written to (get s k) (ap (λ i. is_some (get s i)) (sym same) ∙ there)

  -- a part of a slot independent of this link
  pub part-link_set : {X : Type 0} (part : Option Slot → X) → ((o : Option ℕ) (x : Slot) → part (Some (write o x)) ≡ part (Some x)) → (at to : Option ℕ) (s : Slab Slot) (j : ℕ)
      → part (get (link_set write at to s) j) ≡ part (get s j)
  part-link_set part keeps None to s j = refl
  part-link_set part keeps (Some k) to s j = part-rewritten part (write to) (keeps to) k s j

-- the slot that an option names is occupied
pub named_there : (at : Option ℕ) (s : Slab Slot) → ((j : ℕ) → at ≡ Some j → is_some (get s j) ≡ true) → IfSome at (ContainsKey s)
named_there None s there = tt
named_there (Some k) s there = there k refl

pub there-link_set : (write : Option ℕ → Slot → Slot) (at to : Option ℕ) (s : Slab Slot) (o : Option ℕ) → IfSome o (ContainsKey s) → IfSome o (ContainsKey (link_set write at to s))
there-link_set write at to s None there = tt
there-link_set write at to s (Some j) there = part-link_set write is_some (λ o x. refl) at to s j ∙ there

-- a part of a slot independent of both links
pub part-tied : {X : Type 0} (part : Option Slot → X) → ((o : Option ℕ) (x : Slot) → part (Some (with_after o x)) ≡ part (Some x)) → ((o : Option ℕ) (x : Slot)
    → part (Some (with_before o x)) ≡ part (Some x)) → (before after : Option ℕ) (s : Slab Slot) (j : ℕ) → part (get (tied before after s) j) ≡ part (get s j)
part-tied part keeps_after keeps_before before after s j =
    part-link_set with_before part keeps_before after before (link_set with_after before after s) j
    ∙ part-link_set with_after part keeps_after before after s j

low_there : (o : Option Slot) (k : ℕ) → ((p : Place) → place_in_slot o ≡ Some p → IsPlace p × (k < 2 ^ 32 - 1)) → is_some o ≡ true → k < 2 ^ 32 - 1
low_there None k placed there = absurd (cc)
low_there (Some c) k placed there = (placed c.place refl).1

pub get-tied : (before after : Option ℕ) (s : Slab Slot) → ((j : ℕ) (p : Place) → place_in_slot (get s j) ≡ Some p → IsPlace p × (j < 2 ^ 32 - 1))
    → ((j : ℕ) → before ≡ Some j → is_some (get s j) ≡ true) → ((j : ℕ) → after ≡ Some j → is_some (get s j) ≡ true)
    → IsTied (get s) (get (tied before after s)) before after
get-tied before after s placed there_before there_after =
    record {
      befores = λ j differs.
          ap before_in (link_set-other with_before after before (link_set with_after before after s) j differs)
          ∙ part-link_set with_after before_in (λ o x. refl) before after s j;
      afters = λ j differs.
          part-link_set with_before after_in (λ o x. refl) after before (link_set with_after before after s) j
          ∙ ap after_in (link_set-other with_after before after s j differs);
      next = λ j is.
          part-link_set with_before after_in (λ o x. refl) after before (link_set with_after before after s) j
          ∙ link_set-same with_after after_in (λ o x. refl) before after s j is (there_before j is)
          ∙ link_of-link_to after (λ i at. low_there (get s i) i (placed i) (there_after i at));
      last = λ j is.
          link_set-same with_before before_in (λ o x. refl) after before (link_set with_after before after s) j is
          (part-link_set with_after is_some (λ o x. refl) before after s j ∙ there_after j is)
          ∙ link_of-link_to before (λ i at. low_there (get s i) i (placed i) (there_before i at));
    }

-- a slot that names the last of a list is now named by it
pub get-appended : (last : Option ℕ) (k : ℕ) (s : Slab Slot) → ((j : ℕ) (p : Place) → place_in_slot (get s j) ≡ Some p → IsPlace p × (j < 2 ^ 32 - 1))
    → ((j : ℕ) → last ≡ Some j → is_some (get s j) ≡ true) → (c : Slot) → get s k ≡ Some c → c.previous ≡ link_to last
    → IsTied (get s) (get (link_set with_after last (Some k) s)) last (Some k)
get-appended last k s placed there_last c here names =
    record {
      befores = λ j differs. part-link_set with_after before_in (λ o x. refl) last (Some k) s j;
      afters = λ j differs. ap after_in (link_set-other with_after last (Some k) s j differs);
      next = λ j is.
          link_set-same with_after after_in (λ o x. refl) last (Some k) s j is (there_last j is)
          ∙ link_of-link_to (Some k) (λ i at. let same : k ≡ i = cc in subst (λ m. m < 2 ^ 32 - 1) same (placed k c.place (ap place_in_slot here)).1);
      last = λ j is.
          let same : k ≡ j = cc in
          part-link_set with_after before_in (λ o x. refl) last (Some k) s j
          ∙ ap (λ i. before_in (get s i)) (sym same) ∙ ap before_in here ∙ ap link_of names
          ∙ link_of-link_to last (λ i at. low_there (get s i) i (placed i) (there_last i at));
    }
