-- Numbers after spaces: no two lists of them share a text, up to the first non-number.
use Rattle.std.proofs.Common.{◌≡◌, ◌≢◌, refl, sym, ◌∙◌, ap, ℕ, suc, ◌+◌, ◌<◌, ◌^◌, true, List, [], ◌∷◌, ◌++◌, length, get_or, take, arith, append_assoc, append-nil}
use Rattle.std.specs.Prelude.{decimal, codes}
use Rattle.std.proofs.lemmas.List.{take_more}
use Rattle.std.proofs.lemmas.Grind.{flat_map-append}
use Rattle.std.proofs.lemmas.Fmt.{decimal_nonempty, decimal_injective, digits_decimal}
use Rattle.cg_records.specs.Lists.{none_in}
use Rattle.cg_records.proofs.Numbers.{AreDigits, digits_after}
use Rattle.std.proofs.lemmas.Str.Parse.{IsNumeralModel, numerals_by_fold, tells_by_index}
use Rattle.cg_snapshot.specs.Rows.{spaced, all_spaced, but_text, AreSmall, Lacks, IsTail}
use Rattle.cg_snapshot.proofs.CutBytes.{cut_once, tail_is_at, lacks_append}

model : IsNumeralModel AreDigits (digits_after 0)
model = numerals_by_fold AreDigits tells_by_index digits_after (record { empty = λ n. refl; more = λ n c cs k. refl })

digits_lack : (s : ℕ) (ds : List ℕ) → s < 48 → AreDigits ds → Lacks s ds
digits_lack s [] low h = tt
digits_lack s (d ∷ ds) low h = (λ e. absurd (let range = h 0 (omega arith) in omega (arith, range, e, low)), digits_lack s ds low (λ i within. h (suc i) (omega (arith, within))))

pub decimal_lacks : (s n : ℕ) → s < 48 → n < 2 ^ 64 → Lacks s (decimal n)
decimal_lacks s n low small = digits_lack s (decimal n) low (digits_decimal model n small)

tails : (a b : ℕ) (x y : List ℕ) → a ∷ x ≡ b ∷ y → x ≡ y
tails a b x y e = cc

-- one number after a space
pub one_spaced : (n m : ℕ) (x y : List ℕ) → n < 2 ^ 64 → m < 2 ^ 64 → IsTail x → IsTail y → spaced n ++ x ≡ spaced m ++ y → (n ≡ m) × (x ≡ y)
one_spaced n m x y p q a b e =
    let parts = cut_once 32 (decimal n) (decimal m) x y (decimal_lacks 32 n (omega arith) p) (decimal_lacks 32 m (omega arith) q) (tail_is_at x a)
    (tail_is_at y b) (tails 32 32 (decimal n ++ x) (decimal m ++ y) e) in
    (decimal_injective n m p q parts.0, parts.1)

-- the bytes do not start with a space and a number
abbrev pub Stops : List ℕ → Type 0
Stops x = (number : ℕ) (rest : List ℕ) → number < 2 ^ 64 → IsTail rest → x ≢ spaced number ++ rest

pub stops_nil : Stops []
stops_nil number rest small tail e = absurd (cc)

pub tail_all : (ns : List ℕ) (x : List ℕ) → IsTail x → IsTail (all_spaced ns ++ x)
tail_all [] x h = h
tail_all (n ∷ ns) x h = refl

pub one_numbers : (ns ms x y : List ℕ) → AreSmall ns → AreSmall ms → IsTail x → IsTail y → Stops x → Stops y → all_spaced ns ++ x ≡ all_spaced ms ++ y → (ns ≡ ms) × (x ≡ y)
one_numbers [] [] x y p q a b s t e = (refl, e)
one_numbers [] (m ∷ ms) x y p q a b s t e = absurd (s m (all_spaced ms ++ y) q.0 (tail_all ms y b) (e ∙ append_assoc (spaced m) (all_spaced ms) y))
one_numbers (n ∷ ns) [] x y p q a b s t e = absurd (t n (all_spaced ns ++ x) p.0 (tail_all ns x a) (sym e ∙ append_assoc (spaced n) (all_spaced ns) x))
one_numbers (n ∷ ns) (m ∷ ms) x y p q a b s t e =
    let one = one_spaced n m (all_spaced ns ++ x) (all_spaced ms ++ y) p.0 q.0 (tail_all ns x a) (tail_all ms y b)
    (sym (append_assoc (spaced n) (all_spaced ns) x) ∙ e ∙ append_assoc (spaced m) (all_spaced ms) y) in
    let rest = one_numbers ns ms x y p.1 q.1 a b s t one.1 in
    (ap (λ k. k ∷ ns) one.0 ∙ ap (λ ks. m ∷ ks) rest.0, rest.1)

-- the word `but` is not a number
no_letter : (k : ℕ) (ds rest x : List ℕ) → 0 < length ds → AreDigits ds → 57 < k → k ∷ x ≡ ds ++ rest → ⊥
no_letter k [] rest x some digits high e = omega (arith, some)
no_letter k (d ∷ ds) rest x some digits high e = let same : k ≡ d = cc in let range = digits 0 (omega arith) in omega (arith, range, same, high)

pub letter_stops : (k : ℕ) (x : List ℕ) → 57 < k → Stops (32 ∷ k ∷ x)
letter_stops k x high number rest small tail e =
    no_letter k (decimal number) rest x (decimal_nonempty number small) (digits_decimal model number small) high (tails 32 32 (k ∷ x) (decimal number ++ rest) e)

pub but_stops : (but : List ℕ) → Stops (but_text but)
but_stops [] = stops_nil
but_stops (n ∷ ns) = letter_stops 98 (117 ∷ 116 ∷ all_spaced (n ∷ ns)) (omega arith)

pub but_tail : (but : List ℕ) → IsTail (but_text but)
but_tail [] = tt
but_tail (n ∷ ns) = refl

four : (a b c d : ℕ) (x y : List ℕ) → a ∷ b ∷ c ∷ d ∷ x ≡ a ∷ b ∷ c ∷ d ∷ y → x ≡ y
four a b c d x y e = cc

pub one_but : (a b : List ℕ) → AreSmall a → AreSmall b → but_text a ≡ but_text b → a ≡ b
one_but [] [] p q e = refl
one_but (n ∷ ns) (m ∷ ms) p q e =
    let same : all_spaced (n ∷ ns) ≡ all_spaced (m ∷ ms) = four 32 98 117 116 (all_spaced (n ∷ ns)) (all_spaced (m ∷ ms)) e in
    (one_numbers (n ∷ ns) (m ∷ ms) [] [] p q tt tt stops_nil stops_nil (append-nil (all_spaced (n ∷ ns)) ∙ same ∙ sym (append-nil (all_spaced (m ∷ ms))))).0
one_but xs list p q e = absurd (cc)

spaced_lack : (ns : List ℕ) → AreSmall ns → Lacks 10 (all_spaced ns)
spaced_lack [] p = tt
spaced_lack (n ∷ ns) p = lacks_append 10 (spaced n) (all_spaced ns) (λ e. absurd (omega (arith, e)), decimal_lacks 10 n (omega arith) p.0) (spaced_lack ns p.1)

pub numbers_lack : (ns : List ℕ) → AreSmall ns → Lacks 10 (all_spaced ns)
numbers_lack ns p = spaced_lack ns p

pub but_lacks : (but : List ℕ) → AreSmall but → Lacks 10 (but_text but)
but_lacks [] p = tt
but_lacks (n ∷ ns) p = (λ e. absurd (omega (arith, e)), (λ e. absurd (omega (arith, e)), (λ e. absurd (omega (arith, e)), (λ e. absurd (omega (arith, e)), spaced_lack (n ∷ ns) p))))

-- the numbers so far, and the next
pub spaced_next : (ns : List ℕ) (k : ℕ) → k < length ns → all_spaced (take (k + 1) ns) ≡ all_spaced (take k ns) ++ spaced (get_or ns k 0)
spaced_next ns k within = ap all_spaced (take_more ns k 0 within) ∙ flat_map-append spaced (take k ns) (get_or ns k 0 ∷ [])
    ∙ ap (λ t. all_spaced (take k ns) ++ t) (append-nil (spaced (get_or ns k 0)))

-- a word that is not a number
pub not_spaced : (bytes after word tail : List ℕ) (number : ℕ) (rest : List ℕ) → number < 2 ^ 64 → IsTail rest → bytes ≡ 32 ∷ after → after ≡ word ++ tail
    → Lacks 32 word → IsTail tail → ((n : ℕ) → n < 2 ^ 64 → word ≢ decimal n) → bytes ≢ spaced number ++ rest
not_spaced bytes after word tail number rest small is_tail space cut lacks is none same =
    let parts = cut_once 32 word (decimal number) tail rest lacks (decimal_lacks 32 number (omega arith) small) (tail_is_at tail is) (tail_is_at rest is_tail)
    (sym cut ∙ tails 32 32 after (decimal number ++ rest) (sym space ∙ same)) in
    none number small parts.0

-- numbers after a word `but`
pub but_word : (bytes rest word tail but : List ℕ) → ¬ (length bytes ≡ 0) → bytes ≡ codes " but" ++ rest → rest ≡ word ++ tail → Lacks 32 word → IsTail tail
    → bytes ≡ but_text but → (word ≡ []) × (tail ≡ all_spaced but) × (0 < length but)
but_word bytes rest word tail [] some begins cut lacks is same = absurd (some (ap (λ (t : List ℕ). length t) same))
but_word bytes rest word tail (n ∷ ns) some begins cut lacks is same =
    let here : rest ≡ all_spaced (n ∷ ns) = four 32 98 117 116 rest (all_spaced (n ∷ ns)) (sym begins ∙ same) in
    let parts = cut_once 32 word [] tail (all_spaced (n ∷ ns)) lacks tt (tail_is_at tail is) refl (sym cut ∙ here) in
    (parts.0, parts.1, omega arith)

pub but_numbers : (bytes rest word tail but ns left : List ℕ) → ¬ (length bytes ≡ 0) → bytes ≡ codes " but" ++ rest → rest ≡ word ++ tail → Lacks 32 word
    → IsTail tail → AreSmall but → bytes ≡ but_text but → tail ≡ all_spaced ns ++ left → AreSmall ns → IsTail left → Stops left → (0 < length ns) × (left ≡ [])
but_numbers bytes rest word tail but ns left some begins cut lacks is small same numbers are left_is stops =
    let parts = but_word bytes rest word tail but some begins cut lacks is same in
    let one = one_numbers ns but left [] are small left_is tt stops stops_nil (sym numbers ∙ parts.1 ∙ sym (append-nil (all_spaced but))) in
    (omega (arith, parts.2, ap (λ (t : List ℕ). length t) one.0), one.1)

pub none_in_true : (ns : List ℕ) → none_in ns ≡ true → 0 < length ns → ⊥
none_in_true [] e h = omega (arith, h)
none_in_true (n ∷ ns) e h = cc
