-- Slots with gaps: the number of pairs before a slot, and the effect of a new gap.
use Rattle.std.proofs.Common.{◌≡◌, ℕ, zero, suc, ◌+◌, ◌*◌, ◌-◌, ◌<◌, ◌≤◌, ◌/◌, List, [], ◌∷◌, ◌++◌, Option, Some, None, refl, sym, ap, ◌∙◌, subst, length, take, drop, get_or, set, arith, length-append, IsSome, inl, inr}
use Rattle.std.proofs.lemmas.Bool.{cases_lt}
use Rattle.std.proofs.lemmas.List.{get_or_past, get_or_default}
use Rattle.std.proofs.lemmas.Option.{none-some}
use Rattle.std.specs.List.{between}
use Rattle.std.specs.Option.{option_to_list}
use Rattle.std.proofs.lemmas.Grind.{flat_map-append}
use Rattle.std.proofs.lemmas.List.{take_more, append-nil, take-set-le, length-take, length-set, length-drop, take_all, take-take, drop-take, take-append-drop, get_or-drop}
use Rattle.std.proofs.Math.Seq.{take-append_seam, drop-append_seam}
use Rattle.std.specs.List.{sum}
use Rattle.cg_kinds.specs.Order.{indexes, pairs_before, sum_before, AreSums, AreCounts}
use Rattle.cg_kinds.proofs.SumLemmas.{sums_reach, sum_all, IsOneMore, one_within, lowered}

pub before_more : (slots : List (Option ℕ)) (slot : ℕ) → slot < length slots → pairs_before slots (slot + 1) ≡ pairs_before slots slot + length (option_to_list (get_or slots slot None))
before_more slots slot within =
    let whole : indexes (take (slot + 1) slots) ≡ indexes (take slot slots) ++ (option_to_list (get_or slots slot None) ++ []) =
    ap indexes (take_more slots slot None within) ∙ flat_map-append option_to_list (take slot slots) (get_or slots slot None ∷ []) in
    ap length whole
    ∙ length-append (indexes (take slot slots)) (option_to_list (get_or slots slot None) ++ [])
    ∙ ap (λ l. pairs_before slots slot + length l) (append-nil (option_to_list (get_or slots slot None)))

pub before_more-gap : (slots : List (Option ℕ)) (slot : ℕ) → slot < length slots → get_or slots slot None ≡ None → pairs_before slots (slot + 1) ≡ pairs_before slots slot
before_more-gap slots slot within gap = let n = ap (λ o. length (option_to_list o)) gap in omega (arith, before_more slots slot within, n)

pub before_all : (slots : List (Option ℕ)) (n : ℕ) → length slots ≤ n → pairs_before slots n ≡ length (indexes slots)
before_all slots n all = ap (λ l. length (indexes l)) (take_all n slots all)

-- at most as many pairs as slots
pub few_pairs : (slots : List (Option ℕ)) → length (indexes slots) ≤ length slots
few_pairs [] = omega arith
few_pairs (None ∷ slots) = omega (arith, few_pairs slots)
few_pairs (Some index ∷ slots) = omega (arith, few_pairs slots)

pub few_before : (slots : List (Option ℕ)) (slot : ℕ) → pairs_before slots slot ≤ slot
few_before slots slot = omega (arith, few_pairs (take slot slots), length-take slot slots)

-- the pairs before a later slot
pub before_later : (slots : List (Option ℕ)) (slot more : ℕ) → pairs_before slots (slot + more) ≡ pairs_before slots slot + length (indexes (take more (drop slot slots)))
before_later slots slot more =
    let whole : take (slot + more) slots ≡ take slot slots ++ take more (drop slot slots) =
    sym (take-append-drop slot (take (slot + more) slots))
    ∙ ap (λ l. l ++ drop slot (take (slot + more) slots)) (take-take slot (slot + more) slots (omega arith))
    ∙ ap (λ l. take slot slots ++ l) (drop-take slot more slots) in
    ap (λ l. length (indexes l)) whole
    ∙ ap length (flat_map-append option_to_list (take slot slots) (take more (drop slot slots)))
    ∙ length-append (indexes (take slot slots)) (indexes (take more (drop slot slots)))

-- a new gap keeps the pairs before it
pub gap_earlier : (slots : List (Option ℕ)) (slot k : ℕ) → k ≤ slot → pairs_before (set slots slot None) k ≡ pairs_before slots k
gap_earlier slots slot k earlier = ap (λ l. length (indexes l)) (take-set-le k slots slot None earlier)

-- after it there is one pair less
pub gap_later : (slots : List (Option ℕ)) (slot k index : ℕ) → get_or slots slot None ≡ Some index → slot < k → pairs_before (set slots slot None) k + 1 ≡ pairs_before slots k
gap_later [] slot k index pair later = absurd (cc)
gap_later (x ∷ slots) slot zero index pair later = absurd (omega (arith, later))
gap_later (x ∷ slots) zero (suc k) index pair later = let n : length (option_to_list x ++ indexes (take k slots)) ≡ suc (length (indexes (take k slots))) =
    ap (λ o. length (option_to_list o ++ indexes (take k slots))) pair in omega (arith, n)
gap_later (x ∷ slots) (suc slot) (suc k) index pair later =
    let rest = gap_later slots slot k index pair (omega (arith, later)) in
    omega (arith, rest, length-append (option_to_list x) (indexes (take k (set slots slot None))), length-append (option_to_list x) (indexes (take k slots)))

pub before_steps : (slots : List (Option ℕ)) (slot more : ℕ) → pairs_before slots (slot + more) ≤ pairs_before slots slot + more
before_steps slots slot more = omega (arith, before_later slots slot more, few_before (drop slot slots) more)

pub before_grows : (slots : List (Option ℕ)) (slot k : ℕ) → slot ≤ k → pairs_before slots slot ≤ pairs_before slots k
before_grows slots slot k later =
    let n : slot + (k - slot) ≡ k = omega arith in
    let e : pairs_before slots (slot + (k - slot)) ≡ pairs_before slots k = ap (pairs_before slots) n in
    omega (arith, before_later slots slot (k - slot), e)

-- if a slot adds a pair, it contains one
pub pair_there : (slots : List (Option ℕ)) (slot : ℕ) → pairs_before slots slot < pairs_before slots (slot + 1) → IsSome (get_or slots slot None)
pair_there slots slot more = elim (cases_lt slot (length slots)) [
  | inl within ↦ by (get_or slots slot None) refl within
  | inr past ↦ absurd (omega (arith, more, before_all slots slot past, before_all slots (slot + 1) (omega (arith, past))))
]
  where
    by : (o : Option ℕ) → get_or slots slot None ≡ o → slot < length slots → IsSome (get_or slots slot None)
    by None is within = absurd (omega (arith, more, before_more-gap slots slot within is))
    by (Some index) is within = subst IsSome (sym is) refl

-- a new gap means one pair less after its slot
pub gap_less : (slots : List (Option ℕ)) (slot index : ℕ) → get_or slots slot None ≡ Some index → IsOneMore (pairs_before (set slots slot None)) (pairs_before slots) slot
gap_less slots slot index pair = record {
  earlier = λ k before. sym (gap_earlier slots slot k before);
  later = λ k behind. sym (gap_later slots slot k index pair behind);
}

module _ (slots : List (Option ℕ)) (counts : List ℕ) (are : AreCounts slots counts) where
  -- the pairs in the blocks before a given block
  pub counts_reach : (block : ℕ) → block ≤ length counts → sum_before counts block ≡ pairs_before slots (block * 16)
  counts_reach block within =
      let n : 16 * block ≡ block * 16 = omega arith in
      sums_reach (pairs_before slots) counts refl are.each block within ∙ ap (pairs_before slots) n

  pub counts_all : sum counts ≡ length (indexes slots)
  counts_all =
      sym (sum_all counts (length counts) (omega arith)) ∙ counts_reach (length counts) (omega arith) ∙ before_all slots (length counts * 16) (omega (arith, are.covered))

  pub block_there : (slot : ℕ) → slot < length slots → slot / 16 < length counts
  block_there slot within = omega (arith, within, are.covered)

  -- the pairs before a slot's block, and those between
  pub block_and_rest : (slot : ℕ) → slot < length slots → sum_before counts (slot / 16) + length (indexes (between (slot / 16 * 16) slot slots)) ≡ pairs_before slots slot
  block_and_rest slot within =
      let m : slot / 16 * 16 + (slot - slot / 16 * 16) ≡ slot = omega arith in
      let f : pairs_before slots (slot / 16 * 16 + (slot - slot / 16 * 16)) ≡ pairs_before slots slot = ap (pairs_before slots) m in
      omega (arith, f, counts_reach (slot / 16) (omega (arith, within, are.covered)), before_later slots (slot / 16 * 16) (slot - slot / 16 * 16))

  -- in a block without gaps each slot has a pair
  pub full_block : (block k : ℕ) → block < length counts → get_or counts block 0 ≡ 16 → k < 16
      → (pairs_before slots (block * 16 + k) ≡ pairs_before slots (block * 16) + k) × IsSome (get_or slots (block * 16 + k) None)
  full_block block k within full below =
      let n : 16 * block ≡ block * 16 = omega arith in
      let e : pairs_before slots (16 * block) ≡ pairs_before slots (block * 16) = ap (pairs_before slots) n in
      let m : 16 * block + 16 ≡ block * 16 + k + (16 - k) = omega arith in
      let f : pairs_before slots (16 * block + 16) ≡ pairs_before slots (block * 16 + k + (16 - k)) = ap (pairs_before slots) m in
      let o : 16 * block + 16 ≡ block * 16 + k + 1 + (15 - k) = omega arith in
      let g : pairs_before slots (16 * block + 16) ≡ pairs_before slots (block * 16 + k + 1 + (15 - k)) = ap (pairs_before slots) o in
      let whole = are.each block within in
      let here : pairs_before slots (block * 16 + k) ≡ pairs_before slots (block * 16) + k =
      omega (arith, e, f, whole, full, before_steps slots (block * 16) k, before_steps slots (block * 16 + k) (16 - k)) in
      let next : pairs_before slots (block * 16 + k) < pairs_before slots (block * 16 + k + 1) =
      omega (arith, here, e, g, whole, full, before_steps slots (block * 16 + k + 1) (15 - k)) in
      (here, pair_there slots (block * 16 + k) next)

  module _ (slot index : ℕ) (pair : get_or slots slot None ≡ Some index) where
    -- without the slot's pair, at most as many pairs are before its block as before the next one
    block_grows : pairs_before (set slots slot None) (16 * (slot / 16)) ≤ pairs_before (set slots slot None) (16 * (slot / 16) + 16)
    block_grows = before_grows (set slots slot None) (16 * (slot / 16)) (16 * (slot / 16) + 16) (omega arith)

    -- the block of a pair has at least one
    pub block_some : slot / 16 < length counts → 0 < get_or counts (slot / 16) 0
    block_some within = one_within (pairs_before (set slots slot None)) (pairs_before slots) slot (gap_less slots slot index pair) counts within are.each block_grows

    -- a new gap lowers its block's count by one
    pub lowered_counts : slot / 16 < length counts → (now : List (Option ℕ)) (counts_now : List ℕ) → ((k : ℕ) → pairs_before now k ≡ pairs_before (set slots slot None) k) → length now ≡ length slots
        → counts_now ≡ set counts (slot / 16) (get_or counts (slot / 16) 0 - 1) → AreCounts now counts_now
    lowered_counts within now counts_now before long counts_are =
        let a : length counts_now ≡ length counts = ap length counts_are ∙ length-set counts (slot / 16) (get_or counts (slot / 16) 0 - 1) in
        let lower = lowered (pairs_before (set slots slot None)) (pairs_before slots) slot (gap_less slots slot index pair) counts within are.each block_grows in
        record {
          each = subst (AreSums (pairs_before now)) (sym counts_are) (λ block below. omega (arith, lower block below, before (16 * block + 16), before (16 * block)));
          covered = omega (arith, a, long, are.covered);
          small = omega (arith, long, are.small);
        }

-- a slot past the last has no pair
pub pair_within : (slots : List (Option ℕ)) (slot index : ℕ) → get_or slots slot None ≡ Some index → slot < length slots
pair_within slots slot index pair = elim (cases_lt slot (length slots)) [
  | inl within ↦ within
  | inr past ↦ absurd (none-some index (sym (get_or_past slots slot None past) ∙ pair))
]

none_is_none : IsSome {T = ℕ} None → ⊥
none_is_none some = cc

pub record IsPairAt (slots : List (Option ℕ)) (slot : ℕ) : Type 0 where
  pub index : ℕ
  pub is : get_or slots slot None ≡ Some index
  pub within : slot < length slots

pub pair_of : (slots : List (Option ℕ)) (slot : ℕ) → IsSome (get_or slots slot None) → IsPairAt slots slot
pair_of slots slot some = by (get_or slots slot None) refl
  where
    by : (o : Option ℕ) → get_or slots slot None ≡ o → IsPairAt slots slot
    by None is = absurd (none_is_none (subst IsSome is some))
    by (Some index) is = record { index = index; is = is; within = pair_within slots slot index is }

-- the contents of a slot, with any default past the end
pub pair_read : (slots : List (Option ℕ)) (slot index : ℕ) (past read : Option ℕ) → slot < length slots → read ≡ get_or slots slot past → read ≡ Some index → get_or slots slot None ≡ Some index
pair_read slots slot index past read within told is = get_or_default slots slot None past within ∙ sym told ∙ is

-- the indexes in the slots from one on, and one more slot
pub indexes_more : (slots : List (Option ℕ)) (first slot : ℕ) (o : Option ℕ) → first ≤ slot → slot < length slots → get_or slots slot None ≡ o
    → indexes (take (slot + 1 - first) (drop first slots)) ≡ indexes (take (slot - first) (drop first slots)) ++ option_to_list o
indexes_more slots first slot o behind within is =
    let rest = drop first slots in
    let n : slot + 1 - first ≡ slot - first + 1 = omega (arith, behind) in
    let m : first + (slot - first) ≡ slot = omega (arith, behind) in
    ap (λ k. indexes (take k rest)) n
    ∙ ap indexes (take_more rest (slot - first) None (omega (arith, behind, within, length-drop first slots)))
    ∙ flat_map-append option_to_list (take (slot - first) rest) (get_or rest (slot - first) None ∷ [])
    ∙ ap (λ (x : Option ℕ). indexes (take (slot - first) rest) ++ (option_to_list x ++ [])) (get_or-drop first slots (slot - first) None ∙ ap (λ k. get_or slots k None) m ∙ is)
    ∙ ap (λ (l : List ℕ). indexes (take (slot - first) rest) ++ l) (append-nil (option_to_list o))

-- a prefix of them
pub first_so_many : (rest : List (Option ℕ)) (k n : ℕ) (some : List ℕ) → some ≡ indexes (take k rest) → length some ≡ n → some ≡ take n (indexes rest)
first_so_many rest k n some is many =
    let parts : indexes rest ≡ some ++ indexes (drop k rest) =
    ap indexes (sym (take-append-drop k rest)) ∙ flat_map-append option_to_list (take k rest) (drop k rest) ∙ ap (λ (l : List ℕ). l ++ indexes (drop k rest)) (sym is) in
    sym (take-append_seam some (indexes (drop k rest))) ∙ ap (λ m. take m (some ++ indexes (drop k rest))) many ∙ ap (take n) (sym parts)

-- a prefix longer than the list is the whole list
pub all_so_many : (rest : List (Option ℕ)) (k n : ℕ) (some : List ℕ) → some ≡ indexes (take k rest) → length rest ≤ k → length some ≤ n → some ≡ take n (indexes rest)
all_so_many rest k n some is all few =
    let whole : some ≡ indexes rest = is ∙ ap indexes (take_all k rest all) in
    sym (take_all n some few) ∙ ap (take n) whole

-- the indexes after a prefix are those in the slots after its slots
pub indexes_behind : (slots : List (Option ℕ)) (slot place : ℕ) → pairs_before slots slot ≡ place → indexes (drop slot slots) ≡ drop place (indexes slots)
indexes_behind slots slot place before =
    let parts : indexes slots ≡ indexes (take slot slots) ++ indexes (drop slot slots) =
    ap indexes (sym (take-append-drop slot slots)) ∙ flat_map-append option_to_list (take slot slots) (drop slot slots) in
    sym (drop-append_seam (indexes (take slot slots)) (indexes (drop slot slots))) ∙ ap (drop (pairs_before slots slot)) (sym parts) ∙ ap (λ n. drop n (indexes slots)) before

pub none_told : (o : Option ℕ) → ((k : ℕ) → o ≡ Some k → ⊥) → o ≡ None
none_told None not = refl
none_told (Some k) not = absurd (not k refl)
