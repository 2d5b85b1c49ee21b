-- The faults of a heap, and what follows if there are none.
use Rattle.std.proofs.Common.{◌≡◌, sym, subst, ℕ, ◌+◌, ◌-◌, ◌<◌, ◌≤◌, Bool, true, false, List, [], length, arith, get_or, ap}
use Rattle.std.proofs.lemmas.Bool.{cases_eq, cases_lt}
use Rattle.std.proofs.lemmas.List.{length-map}
use Rattle.std.proofs.lemmas.Option.{slice_get_within, get_or_from_slice_get}
use Rattle.cg_graph.specs.Member.{Includes}
use Rattle.cg_graph.specs.Holdings.{occurrences}
use Rattle.cg_graph.proofs.Members.{either}
use Rattle.cg_search.proofs.Places.{absent_from}
use Rattle.cg_snapshot.specs.declared.heap.Member.{Member}
use Rattle.cg_snapshot.specs.Text.{AreMembers}
use Rattle.cg_snapshot.specs.Reading.{are_below}
use Rattle.cg_snapshot.proofs.Machine.{below_of, of_below}
use Rattle.cg_ask.specs.Asked.{rows_of, words_of, references_of, all_words_of, degree_at}
use Rattle.cg_ask.specs.Faults.{IsWellNamed, IsCovered, IsRight, HasFault, misnamed, too_low, low_with_words, AreRight}
use Rattle.cg_ask.proofs.Counting.{concat_row, degree_read, row_read, words_read}
use Rattle.cg_ask.proofs.Marking.{member_of}

-- equal lists are equally long
pub long : {A : Type 0} {xs ys : List A} → xs ≡ ys → length xs ≡ length ys
long e = ap length e

-- a heap without faults
module _ (ms : List Member) (with_words : Bool) (right : AreRight ms with_words) where
  pub refs_within : (i : ℕ) → Includes (references_of ms) i → i < length ms
  refs_within i m =
      let found = concat_row (rows_of ms) i m in
      let at : found.0 < length ms = omega (arith, slice_get_within (rows_of ms) found.0 found.1 found.2, length-map ms (λ (k : Member). k.refs)) in
      member_of (length ms) found.1 i (subst (λ (r : List ℕ). AreMembers (length ms) r) (get_or_from_slice_get (rows_of ms) found.0 found.1 [] found.2) (right found.0 at).names.0) found.3

  pub words_within : (i : ℕ) → Includes (all_words_of ms) i → i < length ms
  words_within i m =
      let found = concat_row (words_of ms) i m in
      let at : found.0 < length ms = omega (arith, slice_get_within (words_of ms) found.0 found.1 found.2, length-map ms (λ (k : Member). k.untold)) in
      member_of (length ms) found.1 i (subst (λ (r : List ℕ). AreMembers (length ms) r) (get_or_from_slice_get (words_of ms) found.0 found.1 [] found.2) (right found.0 at).names.1) found.3

  -- no in-degree is below the occurrences
  pub covered_all : (i : ℕ) → occurrences i (references_of ms) ≤ degree_at ms i
  covered_all i = either (cases_lt i (length ms)) (λ l. (right i l).covered)
      (λ g. omega (arith, absent_from (references_of ms) i (λ m. absurd (let l = refs_within i m in omega (arith, l, g)))))

-- facts read from a member
module _ (ms : List Member) (with_words : Bool) (at : ℕ) (m : Member) (within : at < length ms) (is : m ≡ get_or ms at m) where
  refs_are : get_or (rows_of ms) at [] ≡ m.refs
  refs_are = row_read ms at m within is

  words_are : get_or (words_of ms) at [] ≡ m.untold
  words_are = words_read ms at m within is

  pub named_of : are_below (length ms) m.refs ≡ true → are_below (length ms) m.untold ≡ true → IsWellNamed ms at
  named_of p q = (
    subst (λ (r : List ℕ). AreMembers (length ms) r) (sym refs_are) (of_below (length ms) m.refs p),
    subst (λ (r : List ℕ). AreMembers (length ms) r) (sym words_are) (of_below (length ms) m.untold q),
  )

  clash : {b : Bool} → b ≡ true → b ≡ false → ⊥
  clash p q = absurd (cc)

  pub misnamed_refs : are_below (length ms) m.refs ≡ false → HasFault ms with_words at 2
  misnamed_refs off = misnamed (λ named. clash (below_of (length ms) m.refs (subst (λ (r : List ℕ). AreMembers (length ms) r) refs_are named.0)) off)

  pub misnamed_words : are_below (length ms) m.untold ≡ false → HasFault ms with_words at 2
  misnamed_words off = misnamed (λ named. clash (below_of (length ms) m.untold (subst (λ (r : List ℕ). AreMembers (length ms) r) words_are named.1)) off)

  module _ (told : ℕ) (told_is : told ≡ occurrences at (references_of ms)) (named : IsWellNamed ms at) where
    degree : degree_at ms at ≡ m.degree
    degree = degree_read ms at m within is

    pub low_fault : m.degree < told → HasFault ms with_words at 3
    low_fault low = too_low named (λ le. omega (arith, low, le, told_is, degree))

    covers : told ≤ m.degree → IsCovered ms at
    covers le = omega (arith, le, told_is, degree)

    pub low_words : (words : ℕ) → words ≡ occurrences at (all_words_of ms) → told ≤ m.degree → with_words ≡ true → m.degree - told < words → HasFault ms with_words at 4
    low_words words words_is le asked low = low_with_words named (covers le) asked (λ all. omega (arith, le, low, all, told_is, words_is, degree))

    -- if untold words are counted
    pub is_right : (words : ℕ) → words ≡ occurrences at (all_words_of ms) → told ≤ m.degree → words ≤ m.degree - told → IsRight ms with_words at
    is_right words words_is le more = record { names = named; covered = covers le; covered_with = λ asked. omega (arith, more, le, told_is, words_is, degree) }

    -- if they are not
    pub is_right_alone : told ≤ m.degree → with_words ≡ false → IsRight ms with_words at
    is_right_alone le off = record { names = named; covered = covers le; covered_with = λ asked. absurd (clash asked off) }

-- The members so far are right.
pub right_more : (ms : List Member) (with_words : Bool) (at : ℕ) → ((i : ℕ) → i < at → IsRight ms with_words i) → IsRight ms with_words at → (i : ℕ) → i < at + 1 → IsRight ms with_words i
right_more ms with_words at h r i below = either (cases_eq i at) (λ e. subst (λ j. IsRight ms with_words j) (sym e) r) (λ n. h i (omega (arith, below, n)))

pub right_all : (ms : List Member) (with_words : Bool) (at : ℕ) → length ms ≤ at → ((i : ℕ) → i < at → IsRight ms with_words i) → AreRight ms with_words
right_all ms with_words at end h i within = h i (omega (arith, within, end))
