-- Sums of the parts of a count, and the effect of adding one.
use Rattle.std.proofs.Common.{◌≡◌, ℕ, zero, suc, ◌+◌, ◌*◌, ◌-◌, ◌<◌, ◌≤◌, ◌/◌, min, List, [], ◌∷◌, ◌++◌, Option, Some, None, refl, sym, ap, ◌∙◌, subst, length, take, drop, get_or, set, arith, inl, inr}
use Rattle.std.proofs.lemmas.Bool.{cases_lt, cases_eq}
use Rattle.std.proofs.lemmas.List.{take_all, take_min, length-set, length_push, take-take, drop-take, get_or-set_same, get_or-set_other, get_or_append_left, get_or_push, take-append-le, take-set-le}
use Rattle.std.proofs.lemmas.List.Sums.{sum_by_more, sum_by-take-le, sum_by-take-drop, sum_by-cons, sum_by-append}
use Rattle.std.specs.List.{sum}
use Rattle.std.specs.Global.{Box}
use Rattle.cg_kinds.specs.Pairs.{unboxed}
use Rattle.cg_kinds.specs.Order.{sum_before, AreSums, AreSumsOf, AreAbove}

pub sum_more : (numbers : List ℕ) (k : ℕ) → k < length numbers → sum_before numbers (k + 1) ≡ sum_before numbers k + get_or numbers k 0
sum_more numbers k within = sum_by_more (λ x. x) numbers k 0 within

pub sum_all : (numbers : List ℕ) (k : ℕ) → length numbers ≤ k → sum_before numbers k ≡ sum numbers
sum_all numbers k all = ap sum (take_all k numbers all)

pub sum_part : (numbers : List ℕ) (k : ℕ) → sum_before numbers k ≤ sum numbers
sum_part numbers k = sum_by-take-le (λ x. x) numbers k

-- the sum before a later one
pub sum_later : (numbers : List ℕ) (k more : ℕ) → sum_before numbers (k + more) ≡ sum_before numbers k + sum (take more (drop k numbers))
sum_later numbers k more =
    let first : sum_before (take (k + more) numbers) k ≡ sum_before numbers k = ap sum (take-take k (k + more) numbers (omega arith)) in
    let rest : sum (drop k (take (k + more) numbers)) ≡ sum (take more (drop k numbers)) = ap sum (drop-take k more numbers) in
    omega (arith, sum_by-take-drop (λ x. x) (take (k + more) numbers) k, first, rest)

pub sum_grows : (numbers : List ℕ) (k more : ℕ) → sum_before numbers k ≤ sum_before numbers (k + more)
sum_grows numbers k more = omega (arith, sum_later numbers k more)

-- the sums of the parts add up to the count
pub sums_reach : (before : ℕ → ℕ) (sums : List ℕ) → before 0 ≡ 0 → AreSums before sums → (part : ℕ) → part ≤ length sums → sum_before sums part ≡ before (16 * part)
sums_reach before sums none are zero within = sym none
sums_reach before sums none are (suc part) within =
    let rest = sums_reach before sums none are part (omega (arith, within)) in
    let here = are part (omega (arith, within)) in
    let n : 16 * part + 16 ≡ 16 * suc part = omega arith in
    let e : before (16 * part + 16) ≡ before (16 * suc part) = ap before n in
    let m : part + 1 ≡ suc part = omega arith in
    let f : sum_before sums (part + 1) ≡ sum_before sums (suc part) = ap (sum_before sums) m in
    omega (arith, rest, here, e, f, sum_more sums part (omega (arith, within)))

-- the count over one part
pub sum_here : (numbers : List ℕ) (part : ℕ) → sum_before numbers (16 * part + 16) ≡ sum_before numbers (16 * part) + sum (take 16 (drop (16 * part) numbers))
sum_here numbers part = sum_later numbers (16 * part) 16

pub sum_here_part : (numbers : List ℕ) (part : ℕ) → sum (take 16 (drop (16 * part) numbers)) ≤ sum numbers
sum_here_part numbers part = omega (arith, sum_here numbers part, sum_part numbers (16 * part + 16))

-- splitting a part off the rest of the numbers
pub part_taken : (numbers rest front : List ℕ) (part count : ℕ) → front ≡ take count rest → count ≡ min 16 (length rest) → rest ≡ drop (16 * part) numbers
    → sum front ≡ sum (take 16 (drop (16 * part) numbers))
part_taken numbers rest front part count taken few left = ap sum (taken ∙ ap (λ n. take n rest) few ∙ take_min 16 rest ∙ ap (take 16) left)

-- numbers into which a count is dealt, 16 each
pub dealt_sum : (numbers : List ℕ) (count : ℕ) → ((i : ℕ) → i < length numbers → get_or numbers i 0 ≡ min 16 (count - 16 * i)) → (k : ℕ) → k ≤ length numbers
    → sum_before numbers k ≡ min (16 * k) count
dealt_sum numbers count dealt zero within = omega arith
dealt_sum numbers count dealt (suc k) within =
    let rest = dealt_sum numbers count dealt k (omega (arith, within)) in
    let m : k + 1 ≡ suc k = omega arith in
    let f : sum_before numbers (k + 1) ≡ sum_before numbers (suc k) = ap (sum_before numbers) m in
    omega (arith, rest, f, sum_more numbers k (omega (arith, within)), dealt k (omega (arith, within)))

-- one number replaced
pub sum_set : (numbers : List ℕ) (i other k : ℕ) → i < length numbers → i < k → sum_before (set numbers i other) k + get_or numbers i 0 ≡ sum_before numbers k + other
sum_set [] i other k within later = absurd (omega (arith, within))
sum_set (n ∷ numbers) i other zero within later = absurd (omega (arith, later))
sum_set (n ∷ numbers) zero other (suc k) within later = omega (arith, sum_by-cons (λ x. x) other (take k numbers), sum_by-cons (λ x. x) n (take k numbers))
sum_set (n ∷ numbers) (suc i) other (suc k) within later =
    let rest = sum_set numbers i other k (omega (arith, within)) (omega (arith, later)) in
    omega (arith, rest, sum_by-cons (λ x. x) n (take k (set numbers i other)), sum_by-cons (λ x. x) n (take k numbers))

pub sum_set-earlier : (numbers : List ℕ) (i other k : ℕ) → k ≤ i → sum_before (set numbers i other) k ≡ sum_before numbers k
sum_set-earlier numbers i other k earlier = ap sum (take-set-le k numbers i other earlier)

-- a count that has one more after a place
pub record IsOneMore (less more : ℕ → ℕ) (place : ℕ) : Type 0 where
  pub earlier : (k : ℕ) → k ≤ place → more k ≡ less k
  pub later : (k : ℕ) → place < k → more k ≡ less k + 1

pub number_raised : (numbers : List ℕ) (i : ℕ) → i < length numbers → IsOneMore (sum_before numbers) (sum_before (set numbers i (get_or numbers i 0 + 1))) i
number_raised numbers i within = record {
  earlier = λ k before. sum_set-earlier numbers i (get_or numbers i 0 + 1) k before;
  later = λ k behind. omega (arith, sum_set numbers i (get_or numbers i 0 + 1) k within behind);
}

pub number_lowered : (numbers : List ℕ) (i : ℕ) → i < length numbers → 0 < get_or numbers i 0 → IsOneMore (sum_before (set numbers i (get_or numbers i 0 - 1))) (sum_before numbers) i
number_lowered numbers i within some = record {
  earlier = λ k before. sym (sum_set-earlier numbers i (get_or numbers i 0 - 1) k before);
  later = λ k behind. omega (arith, some, sum_set numbers i (get_or numbers i 0 - 1) k within behind);
}

-- one part gets another sum, where the count changes after a place of the part
changed : (old new : ℕ → ℕ) (place : ℕ) (sums : List ℕ) → place / 16 < length sums → (less more sum : ℕ) → ((k : ℕ) → k ≤ place → new k ≡ old k)
    → ((k : ℕ) → place < k → new k + less ≡ old k + more) → sum + less ≡ get_or sums (place / 16) 0 + more → AreSums old sums → AreSums new (set sums (place / 16) sum)
changed old new place sums within less more sum earlier later told are part below =
    let here = are part (omega (arith, below, length-set sums (place / 16) sum)) in
    elim (cases_eq part (place / 16)) [
      | inl same ↦
          let s : get_or (set sums (place / 16) sum) part 0 ≡ sum = ap (λ n. get_or (set sums (place / 16) sum) n 0) same ∙ get_or-set_same sums (place / 16) sum 0 within in
          let t : get_or sums part 0 ≡ get_or sums (place / 16) 0 = ap (λ n. get_or sums n 0) same in
          omega (arith, s, t, here, told, later (16 * part + 16) (omega (arith, same)), earlier (16 * part) (omega (arith, same)))
      | inr differs ↦
          let s = get_or-set_other sums (place / 16) part sum 0 differs in
          elim (cases_lt part (place / 16)) [
            | inl low ↦ omega (arith, s, here, earlier (16 * part + 16) (omega (arith, low)), earlier (16 * part) (omega (arith, low)))
            | inr high ↦ omega (arith, s, here, later (16 * part + 16) (omega (arith, high, differs)), later (16 * part) (omega (arith, high, differs)))
          ]
    ]

module _ (less more : ℕ → ℕ) (place : ℕ) (one : IsOneMore less more place) (sums : List ℕ) (within : place / 16 < length sums) where
  pub raised : AreSums less sums → AreSums more (set sums (place / 16) (get_or sums (place / 16) 0 + 1))
  raised are = changed less more place sums within 0 1 (get_or sums (place / 16) 0 + 1) one.earlier (λ k behind. omega (arith, one.later k behind)) (omega arith) are

  -- the sum that contains the extra one is at least 1
  pub one_within : AreSums more sums → less (16 * (place / 16)) ≤ less (16 * (place / 16) + 16) → 0 < get_or sums (place / 16) 0
  one_within are rising =
      omega (arith, rising, are (place / 16) within, one.later (16 * (place / 16) + 16) (omega arith), one.earlier (16 * (place / 16)) (omega arith))

  pub lowered : AreSums more sums → less (16 * (place / 16)) ≤ less (16 * (place / 16) + 16) → AreSums less (set sums (place / 16) (get_or sums (place / 16) 0 - 1))
  lowered are rising = changed more less place sums within 1 0 (get_or sums (place / 16) 0 - 1) (λ k before. sym (one.earlier k before)) (λ k behind. omega (arith, one.later k behind))
      (omega (arith, one_within are rising)) are

-- a trailing 0, where the count continues over nothing
pub zero_last : (before : ℕ → ℕ) (sums : List ℕ) → AreSums before sums → before (16 * length sums + 16) ≡ before (16 * length sums) → AreSums before (sums ++ 0 ∷ [])
zero_last before sums are nothing part below = elim (cases_lt part (length sums)) [
  | inl low ↦ omega (arith, are part low, get_or_append_left sums (0 ∷ []) 0 part low)
  | inr high ↦
      let same : part ≡ length sums = omega (arith, below, high, length_push sums 0) in
      let s : get_or (sums ++ 0 ∷ []) part 0 ≡ 0 = get_or_push sums 0 0 part (omega (arith, same)) in
      let b : before (16 * part + 16) ≡ before (16 * length sums + 16) = ap (λ n. before (16 * n + 16)) same in
      let d : before (16 * part) ≡ before (16 * length sums) = ap (λ n. before (16 * n)) same in
      omega (arith, s, b, d, nothing)
]

-- a trailing 0 adds nothing
pub zero_after : (numbers : List ℕ) (k : ℕ) → sum_before (numbers ++ 0 ∷ []) k ≡ sum_before numbers k
zero_after numbers k = elim (cases_lt (length numbers) k) [
  | inl past ↦
      let more = sum_all (numbers ++ 0 ∷ []) k (omega (arith, past, length_push numbers 0)) in
      let all = sum_all numbers k (omega (arith, past)) in
      omega (arith, more, all, sum_by-append (λ x. x) numbers (0 ∷ []))
  | inr within ↦ ap sum (take-append-le k numbers (0 ∷ []) (omega (arith, within)))
]

-- the first sums above
pub first_above : (numbers sums : List ℕ) → length numbers ≡ 16 → sums ≡ sum numbers ∷ 0 ∷ [] → AreSumsOf numbers sums × (length numbers < 16 * length sums)
first_above numbers sums full is =
    let long : length sums ≡ 2 = ap length is in (
      record { each = subst (AreSums (sum_before numbers)) (sym is) two; covered = omega (arith, full, long); fewer = omega (arith, full, long) },
      omega (arith, full, long),
    )
  where
    two : AreSums (sum_before numbers) (sum numbers ∷ 0 ∷ [])
    two zero below = omega (arith, sum_all numbers 16 (omega (arith, full)))
    two (suc zero) below = omega (arith, sum_all numbers 32 (omega (arith, full)), sum_all numbers 16 (omega (arith, full)))
    two (suc (suc part)) below = absurd (omega (arith, below))

-- what holds of the sums above, if there are any
pub above_told : (numbers : List ℕ) (above : Option (Box (List ℕ))) (sums : Box (List ℕ)) → AreAbove numbers (unboxed above) → above ≡ Some sums → AreSumsOf numbers sums.value
above_told numbers above sums are is = subst (λ o. AreAbove numbers (unboxed o)) is are

pub none_above : (numbers : List ℕ) (above : Option (Box (List ℕ))) → above ≡ None → AreAbove numbers (unboxed above)
none_above numbers above is = subst (λ o. AreAbove numbers (unboxed o)) (sym is) tt

module _ (numbers sums : List ℕ) (are : AreSumsOf numbers sums) where
  -- the parts before a part, and the numbers before it
  pub part_reach : (part : ℕ) → part ≤ length sums → sum_before sums part ≡ sum_before numbers (part * 16)
  part_reach part within =
      let n : 16 * part ≡ part * 16 = omega arith in
      sums_reach (sum_before numbers) sums refl are.each part within ∙ ap (sum_before numbers) n

  pub all_parts : sum sums ≡ sum numbers
  all_parts =
      sym (sum_all sums (length sums) (omega arith)) ∙ part_reach (length sums) (omega arith) ∙ sum_all numbers (length sums * 16) (omega (arith, are.covered))

  -- the parts before a number's part, and the numbers before it within the part
  pub part_and_rest : (i : ℕ) → i ≤ length numbers → sum_before sums (i / 16) + sum (take (i - i / 16 * 16) (drop (i / 16 * 16) numbers)) ≡ sum_before numbers i
  part_and_rest i within =
      let n : i / 16 * 16 + (i - i / 16 * 16) ≡ i = omega arith in
      let e : sum_before numbers (i / 16 * 16 + (i - i / 16 * 16)) ≡ sum_before numbers i = ap (sum_before numbers) n in
      omega (arith, e, sum_later numbers (i / 16 * 16) (i - i / 16 * 16), part_reach (i / 16) (omega (arith, within, are.covered)))

  pub sums_within : (i : ℕ) → i < length numbers → i / 16 < length sums
  sums_within i within = omega (arith, within, are.covered)

  changed_above : (i number sum : ℕ) (numbers_now sums_now : List ℕ) → numbers_now ≡ set numbers i number → sums_now ≡ set sums (i / 16) sum
      → AreSums (sum_before (set numbers i number)) (set sums (i / 16) sum) → AreSumsOf numbers_now sums_now
  changed_above i number sum numbers_now sums_now numbers_are sums_are each =
      let a : length numbers_now ≡ length numbers = ap length numbers_are ∙ length-set numbers i number in
      let b : length sums_now ≡ length sums = ap length sums_are ∙ length-set sums (i / 16) sum in
      record {
        each = subst (λ l. AreSums (sum_before l) sums_now) (sym numbers_are) (subst (AreSums (sum_before (set numbers i number))) (sym sums_are) each);
        covered = omega (arith, a, b, are.covered);
        fewer = omega (arith, a, b, are.fewer);
      }

  -- raising a number raises its part's sum
  pub raised_above : (i : ℕ) → i < length numbers → (numbers_now sums_now : List ℕ) → numbers_now ≡ set numbers i (get_or numbers i 0 + 1) → sums_now
      ≡ set sums (i / 16) (get_or sums (i / 16) 0 + 1) → AreSumsOf numbers_now sums_now
  raised_above i within numbers_now sums_now numbers_are sums_are =
      changed_above i (get_or numbers i 0 + 1) (get_or sums (i / 16) 0 + 1) numbers_now sums_now numbers_are sums_are
      (raised (sum_before numbers) (sum_before (set numbers i (get_or numbers i 0 + 1))) i (number_raised numbers i within) sums (sums_within i within) are.each)

  pub part_some : (i : ℕ) → i < length numbers → 0 < get_or numbers i 0 → 0 < get_or sums (i / 16) 0
  part_some i within some =
      one_within (sum_before (set numbers i (get_or numbers i 0 - 1))) (sum_before numbers) i (number_lowered numbers i within some) sums (sums_within i within) are.each
      (sum_grows (set numbers i (get_or numbers i 0 - 1)) (16 * (i / 16)) 16)

  -- lowering a number lowers its part's sum
  pub lowered_above : (i : ℕ) → i < length numbers → 0 < get_or numbers i 0 → (numbers_now sums_now : List ℕ) → numbers_now
      ≡ set numbers i (get_or numbers i 0 - 1) → sums_now ≡ set sums (i / 16) (get_or sums (i / 16) 0 - 1) → AreSumsOf numbers_now sums_now
  lowered_above i within some numbers_now sums_now numbers_are sums_are =
      changed_above i (get_or numbers i 0 - 1) (get_or sums (i / 16) 0 - 1) numbers_now sums_now numbers_are sums_are
      (lowered (sum_before (set numbers i (get_or numbers i 0 - 1))) (sum_before numbers) i (number_lowered numbers i within some) sums (sums_within i within) are.each
      (sum_grows (set numbers i (get_or numbers i 0 - 1)) (16 * (i / 16)) 16))

  -- appending a 0 if the last part has room
  pub pushed_below : length numbers < 16 * length sums → AreSumsOf (numbers ++ 0 ∷ []) sums
  pushed_below room = record {
    each = λ part below.
        let a = zero_after numbers (16 * part) in
        let b = zero_after numbers (16 * part + 16) in
        omega (arith, a, b, are.each part below);
    covered = omega (arith, room, length_push numbers 0);
    fewer = omega (arith, are.fewer, length_push numbers 0);
  }

  -- one more part, still empty
  pub pushed_part : length numbers ≡ 16 * length sums → (sums_now : List ℕ) → sums_now ≡ sums ++ 0 ∷ [] → AreSumsOf numbers sums_now × (length numbers < 16 * length sums_now)
  pushed_part full sums_now sums_are =
      let long : length sums_now ≡ length sums + 1 = ap length sums_are ∙ length_push sums 0 in
      let past = sum_all numbers (16 * length sums) (omega (arith, full)) in
      let past_too = sum_all numbers (16 * length sums + 16) (omega (arith, full)) in (
        record {
          each = subst (AreSums (sum_before numbers)) (sym sums_are) (zero_last (sum_before numbers) sums are.each (past_too ∙ sym past));
          covered = omega (arith, long, full);
          fewer = omega (arith, long, full, are.fewer);
        },
        omega (arith, long, full),
      )
