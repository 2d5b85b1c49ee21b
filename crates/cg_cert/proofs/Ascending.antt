-- Ascending names, a binary search among them, and how positions are found.
use Rattle.std.proofs.Common.{◌≡◌, sym, ◌∙◌, ap, subst, ℕ, zero, suc, ◌+◌, ◌-◌, ◌<◌, ◌≤◌, false, List, [], length, get_or, Some, None, Ok, Err, arith}
use Rattle.std.specs.Prelude.{slice_get, slice_index}
use Rattle.std.specs.List.Sorted.{IsBinarySearchResult, IsNonDecreasingBy, IsStrictlyIncreasing}
use Rattle.std.specs.Ordering.{nat_cmp, ordering_index}
use Rattle.std.proofs.lemmas.Cmp.{ranked}
use Rattle.std.proofs.lemmas.Bool.{cases_order}
use Rattle.std.proofs.lemmas.Bool.Decides.{nat_tests}
use Rattle.std.proofs.lemmas.List.{length-map, get_or-map}
use Rattle.std.proofs.lemmas.List.Sorted.{IsNonDecreasingBy-from_default}
use Rattle.std.proofs.lemmas.Option.{same_Some, slice_get_within, slice_get-get_or, none-some}
use Rattle.cg_graph.proofs.Members.{either}
use Rattle.cg_records.specs.declared.graph.Member.{Member}
use Rattle.cg_cert.specs.Judged.{serials_of}
use Rattle.cg_cert.specs.declared.table.Places.{Places}
use Rattle.cg_cert.specs.declared.table.Places.TheVariants.{Ascending, Listed}
use Rattle.cg_cert.specs.Positions.{Tells, IsPositionOf, ArePlacedOnce}

-- the name at a place
value_at : (names : List ℕ) (i o : ℕ) → slice_get names i ≡ Some o → get_or names i 0 ≡ o
value_at names i o at = same_Some (get_or names i 0) o (sym (slice_get-get_or names i 0 (slice_get_within names i o at)) ∙ at)

-- each name is below all later ones
below_later : (names : List ℕ) → IsStrictlyIncreasing names → (i j : ℕ) → i < j → j < length names → get_or names i 0 < get_or names j 0
below_later names up i zero before within = absurd (omega (arith, before))
below_later names up i (suc j) before within =
    let more : j + 1 ≡ suc j = omega arith in
    let next : get_or names j 0 < get_or names (suc j) 0 = subst (λ k. get_or names j 0 < get_or names k 0) more (up j (omega (arith, within))) in
    either (cases_order i j)
    (λ same. subst (λ k. get_or names k 0 < get_or names (suc j) 0) (sym same) next)
    (λ other. either other (λ l. omega (arith, next, below_later names up i j l (omega (arith, within)))) (λ g. absurd (omega (arith, g, before))))

-- so each occurs at one place
ascending_once : (names : List ℕ) → IsStrictlyIncreasing names → ArePlacedOnce names
ascending_once names up o i j a b = either (cases_order i j) (λ e. e)
    (λ other. either other
    (λ l. absurd (omega (arith, below_later names up i j l (slice_get_within names j o b), value_at names i o a, value_at names j o b)))
    (λ g. absurd (omega (arith, below_later names up j i g (slice_get_within names i o a), value_at names i o a, value_at names j o b))))

-- each name has one place
pub told_once : (names : List ℕ) (places : Places) → Tells names places → ArePlacedOnce names
told_once names Ascending up = ascending_once names up
told_once names (Listed table) locates = λ o i j a b. same_Some i j (sym ((locates o i).1 a) ∙ (locates o j).1 b)

-- a name found at a place has that position
pub known : (names : List ℕ) (o i : ℕ) → ArePlacedOnce names → slice_get names i ≡ Some o → IsPositionOf names o (Some i)
known names o i once at = λ j. (λ e. subst (λ k. slice_get names k ≡ Some o) (same_Some i j e) at, λ there. ap Some (once o i j at there))

no_member : Member
no_member = record { serial = 0; degree = 0; legacy = false; refs = [] }

module _ (members : List Member) (up : IsStrictlyIncreasing (serials_of members)) (s : ℕ) where
  serial_at : (i : ℕ) → i < length members → get_or (serials_of members) i 0 ≡ (get_or members i no_member).serial
  serial_at i within = get_or-map (λ m. m.serial) members i no_member 0 within

  long : length (serials_of members) ≡ length members
  long = length-map members (λ (m : Member). m.serial)

  rises : (i j : ℕ) → i ≤ j → j < length members → (get_or members i no_member).serial ≤ (get_or members j no_member).serial
  rises i j le within = either (cases_order i j)
      (λ same. omega (arith, ap (λ k. (get_or members k no_member).serial) same))
      (λ other. either other
      (λ l. omega (arith, below_later (serials_of members) up i j l (omega (arith, long, within)), serial_at i (omega (arith, l, within)), serial_at j within))
      (λ g. absurd (omega (arith, le, g))))

  comparisons_rise : IsNonDecreasingBy (λ (m : Member). ordering_index (nat_cmp m.serial s)) members
  comparisons_rise = IsNonDecreasingBy-from_default (λ (m : Member). ordering_index (nat_cmp m.serial s)) members no_member (λ i j le within.
      let keys_rise = rises i j le within in
      grind (arith, nat_tests))

  -- a binary search finds the position, or that there is none
  pub searched_found : (i : ℕ) → i < length members → IsBinarySearchResult (λ (m : Member). nat_cmp m.serial s) members (Ok i) → IsPositionOf (serials_of members) s (Some i)
  searched_found i within equal =
      let same : get_or (serials_of members) i 0 ≡ s = serial_at i within ∙ ranked _ s _ (sym (equal no_member)) in
      known (serials_of members) s i (ascending_once (serials_of members) up) (slice_get-get_or (serials_of members) i 0 (omega (arith, long, within)) ∙ ap Some same)

  pub searched_none : (i : ℕ) → i ≤ length members → IsBinarySearchResult (λ (m : Member). nat_cmp m.serial s) members (Err i) → IsPositionOf (serials_of members) s None
  searched_none i within parted = λ j. (λ e. absurd (none-some j e), λ there. absurd (clash j there))
    where
      clash : (j : ℕ) → slice_get (serials_of members) j ≡ Some s → ⊥
      clash j there =
          let below : j < length members = omega (arith, long, slice_get_within (serials_of members) j s there) in
          let is : (get_or members j no_member).serial ≡ s = sym (serial_at j below) ∙ value_at (serials_of members) j s there in
          either (cases_order j i) (λ e. more is below (omega (arith, e))) (λ other. either other
          (λ l. let less : (get_or members j no_member).serial < s = ranked _ s _ (sym ((parted comparisons_rise).0 j no_member (omega arith) l)) in omega (arith, less, is))
          (λ g. more is below (omega (arith, g))))
        where
          more : (get_or members j no_member).serial ≡ s → j < length members → i ≤ j → ⊥
          more is below le = let above : s < (get_or members j no_member).serial = ranked _ s _ (sym ((parted comparisons_rise).1 j no_member le below)) in omega (arith, above, is)

-- How far serials ascend: each of the first ones is below the next.
abbrev pub AscendTo : List Member → ℕ → Type 0
AscendTo members n = (k : ℕ) → k + 1 < n → slice_index (serials_of members) k < slice_index (serials_of members) (k + 1)

pub ascend_more : (members : List Member) (at : ℕ) (x y : Member) → at < length members → AscendTo members at → 0 < at → x ≡ get_or members (at - 1) x → y
    ≡ get_or members at y → x.serial < y.serial → AscendTo members (at + 1)
ascend_more members at x y within so some before_it here less = λ k before. either (cases_order (k + 1) at)
    (λ same.
    let last : k ≡ at - 1 = omega (arith, same) in
    subst (λ n. get_or (serials_of members) k 0 < get_or (serials_of members) n 0) (sym same) (subst (λ n. get_or (serials_of members) n 0 < get_or (serials_of members) at 0) (sym last) both))
    (λ other. either other (λ l. so k l) (λ g. absurd (omega (arith, g, before))))
  where
    both : get_or (serials_of members) (at - 1) 0 < get_or (serials_of members) at 0
    both =
        let this : get_or (serials_of members) (at - 1) 0 ≡ x.serial = get_or-map (λ m. m.serial) members (at - 1) x 0 (omega (arith, within)) ∙ ap (λ (m : Member). m.serial) (sym before_it) in
        let next : get_or (serials_of members) at 0 ≡ y.serial = get_or-map (λ m. m.serial) members at y 0 within ∙ ap (λ (m : Member). m.serial) (sym here) in
        omega (arith, this, next, less)
