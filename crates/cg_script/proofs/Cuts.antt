-- Where the first piece ends.
use Rattle.std.proofs.Common.{◌≡◌, ◌≢◌, ℕ, suc, ◌+◌, ◌-◌, ◌<◌, ◌≤◌, List, [], ◌∷◌, length, take, drop, get_or, Bool, true, false, cond, not, ◌&&◌, ◌==◌, refl, sym, ap, ◌∙◌, arith, filter, nat_lt, Some, None, position, length-drop, eq-eqb, subst}
use Rattle.std.proofs.lemmas.Bool.Decides.{nat_tests}
use Rattle.std.proofs.Math.Seq.{take-length, drop-length}
use Rattle.std.proofs.Math.ListN.{drop_of_length-le}
use Rattle.std.proofs.lemmas.List.{take_all, get_or-take, length-take-le}
use Rattle.std.proofs.lemmas.List.Quantifiers.{position-Some}
use Rattle.std.proofs.lemmas.List.Sums.{prefix_len-le-length, prefix_len_stops}
use Rattle.std.proofs.lemmas.List.Folds.{list_all_at}
use Rattle.std.proofs.lemmas.Bool.{ltb-true, ltb-false}
use Rattle.std.proofs.Math.Numerals.{one-add}
use Rattle.std.specs.List.{position_or_len, prefix_len}
use Rattle.std.specs.List.{list_all}
use Rattle.cg_script.specs.Pieces.{pieces, onto, has_bytes, words_of, lines_of}
use Rattle.cg_script.specs.Words.{is_printable}

one_more : {A : Type 0} (n : ℕ) (x : A) (xs : List A) → take (1 + n) (x ∷ xs) ≡ x ∷ take n xs
one_more n x xs = rw one-add refl

one_less : {A : Type 0} (n : ℕ) (x : A) (xs : List A) → drop (1 + n + 1) (x ∷ xs) ≡ drop (n + 1) xs
one_less n x xs = let e : 1 + n + 1 ≡ suc (n + 1) = omega arith in rw e refl

first_step : (sep b : ℕ) (bs : List ℕ) (t : Bool) (n : ℕ) → (0 < length bs → pieces sep bs ≡ take n bs ∷ pieces sep (drop (n + 1) bs)) → (length bs ≡ 0 → n ≡ 0)
    → cond t ([] ∷ pieces sep bs) (onto b (pieces sep bs)) ≡ take (cond (not t) (1 + n) 0) (b ∷ bs) ∷ pieces sep (drop (cond (not t) (1 + n) 0 + 1) (b ∷ bs))
first_step sep b bs true n h z = refl
first_step sep b [] false n h z = rw (z refl) refl
first_step sep b (c ∷ cs) false n h z = rw (one_more n b (c ∷ cs), one_less n b (c ∷ cs)) (ap (onto b) (h (omega arith)))

no_longer : (p : ℕ → Bool) (bs : List ℕ) → length bs ≡ 0 → prefix_len p bs ≡ 0
no_longer p [] e = refl
no_longer p (b ∷ bs) e = absurd (omega arith)

-- the first piece ends at the first separator
pub first_piece : (sep : ℕ) (bytes : List ℕ) → 0 < length bytes
    → pieces sep bytes ≡ take (position_or_len (λ b. b == sep) bytes) bytes ∷ pieces sep (drop (position_or_len (λ b. b == sep) bytes + 1) bytes)
first_piece sep [] h = absurd (omega arith)
first_piece sep (b ∷ bs) h = first_step sep b bs (b == sep) (position_or_len (λ c. c == sep) bs) (first_piece sep bs) (no_longer (λ c. not (c == sep)) bs)

pub all_taken : (m : ℕ) (xs : List ℕ) → take (length xs - m) (drop m xs) ≡ drop m xs
all_taken m xs = ap (λ k. take k (drop m xs)) (sym (length-drop m xs)) ∙ take-length (drop m xs)

pub found : (n k i : ℕ) → cond (nat_lt n k) (Some n) None ≡ Some i → (n ≡ i) × (n < k)
found n k i e = by (nat_lt n k) refl e
  where
    by : (b : Bool) → nat_lt n k ≡ b → cond b (Some n) None ≡ Some i → (n ≡ i) × (n < k)
    by true t e = (cc, ltb-true n k t)
    by false t e = absurd (cc)

pub absent : (n k : ℕ) → cond (nat_lt n k) (Some n) None ≡ None → k ≤ n
absent n k e = by (nat_lt n k) refl e
  where
    by : (b : Bool) → nat_lt n k ≡ b → cond b (Some n) None ≡ None → k ≤ n
    by true t e = absurd (cc)
    by false t e = ltb-false n k t

-- the bytes before the separator, and those after it
pub cut_at : (sep i : ℕ) (bytes : List ℕ) → position (λ b. b == sep) bytes ≡ Some i
    → pieces sep bytes ≡ take i bytes ∷ pieces sep (take (length bytes - (i + 1)) (drop (i + 1) bytes))
cut_at sep i bytes e =
    let at = found _ _ i e in
    rw all_taken (first_piece sep bytes (omega (arith, at.1)) ∙ ap (λ n. take n bytes ∷ pieces sep (drop (n + 1) bytes)) at.0)

-- all bytes, if there is no separator
pub cut_none : (sep : ℕ) (bytes : List ℕ) → 0 < length bytes → position (λ b. b == sep) bytes ≡ None
    → pieces sep bytes ≡ bytes ∷ pieces sep (take (length bytes - length bytes) (drop (length bytes) bytes))
cut_none sep bytes some e =
    let n = position_or_len (λ b. b == sep) bytes in
    let far : length bytes ≤ n = absent n (length bytes) e in
    let whole : take n bytes ≡ bytes = take_all n bytes far in
    let none : drop (n + 1) bytes ≡ [] = drop_of_length-le bytes (omega arith) in
    rw (all_taken, drop-length) (first_piece sep bytes some ∙ ap (λ l. l ∷ pieces sep (drop (n + 1) bytes)) whole ∙ ap (λ l. bytes ∷ pieces sep l) none)

-- the first piece is a word if it is not empty
pub words_cut : (bytes word rest : List ℕ) → pieces 32 bytes ≡ word ∷ pieces 32 rest → words_of bytes ≡ cond (has_bytes word) (word ∷ words_of rest) (words_of rest)
words_cut bytes word rest e = ap (filter has_bytes) e

pub empty_piece : (word : List ℕ) → length word ≡ 0 → has_bytes word ≡ false
empty_piece [] e = refl
empty_piece (b ∷ bs) e = absurd (omega arith)

pub full_piece : (word : List ℕ) → 0 < length word → has_bytes word ≡ true
full_piece [] e = absurd (omega arith)
full_piece (b ∷ bs) e = refl

-- a byte that is not printable
abbrev pub odd : ℕ → Bool
odd b = not (is_printable b)

get_or-next : (b : ℕ) (bs : List ℕ) (n : ℕ) → get_or (b ∷ bs) (1 + n) 0 ≡ get_or bs n 0
get_or-next b bs n = rw one-add refl

step_same : (b n m : ℕ) (bs : List ℕ) (t : Bool) → is_printable b ≡ t → ((n < length bs → get_or bs n 0 ≡ 10) → m ≡ n)
    → (cond (not (not t)) (1 + n) 0 < length (b ∷ bs) → get_or (b ∷ bs) (cond (not (not t)) (1 + n) 0) 0 ≡ 10) → cond (not (b == 10)) (1 + m) 0 ≡ cond (not (not t)) (1 + n) 0
step_same b n m bs true e same h =
    let other : (b == 10) ≡ false = grind (arith, nat_tests) in
    let later : (n < length bs → get_or bs n 0 ≡ 10) = λ within. sym (get_or-next b bs n) ∙ h (omega (arith, within)) in
    ap (λ t. cond (not t) (1 + m) 0) other ∙ ap (λ k. 1 + k) (same later)
step_same b n m bs false e same h = let is : (b == 10) ≡ true = eq-eqb b 10 (h (omega arith)) in ap (λ t. cond (not t) (1 + m) 0) is

same_place : (bytes : List ℕ) → (position_or_len odd bytes < length bytes → get_or bytes (position_or_len odd bytes) 0 ≡ 10) → position_or_len (λ b. b == 10) bytes ≡ position_or_len odd bytes
same_place [] h = refl
same_place (b ∷ bs) h = step_same b (position_or_len odd bs) (position_or_len (λ c. c == 10) bs) bs (is_printable b) refl (same_place bs) h

-- the bytes before the first one that stops a search
module _ (stops passes : ℕ → Bool) (turned : (b : ℕ) → passes b ≡ not (stops b)) where
  before_stop : (bytes : List ℕ) → list_all passes (take (position_or_len stops bytes) bytes) ≡ true
  before_stop [] = refl
  before_stop (b ∷ bs) = by (stops b) refl (before_stop bs)
    where
      by : (t : Bool) → stops b ≡ t → list_all passes (take (position_or_len stops bs) bs) ≡ true → list_all passes (take (cond (not t) (1 + position_or_len stops bs) 0) (b ∷ bs)) ≡ true
      by true e later = refl
      by false e later = rw (one_more (position_or_len stops bs) b bs) (ap (λ t. t && list_all passes (take (position_or_len stops bs) bs)) (turned b ∙ ap not e) ∙ later)

  pub passes_before : (i : ℕ) (bytes : List ℕ) → position stops bytes ≡ Some i → list_all passes (take i bytes) ≡ true
  passes_before i bytes e =
      let at = found (position_or_len stops bytes) (length bytes) i e in
      ap (λ k. list_all passes (take k bytes)) (sym at.0) ∙ before_stop bytes

  pub all_pass : (bytes : List ℕ) → position stops bytes ≡ None → list_all passes bytes ≡ true
  all_pass bytes e =
      let far : length bytes ≤ position_or_len stops bytes = absent (position_or_len stops bytes) (length bytes) e in
      ap (list_all passes) (sym (take_all (position_or_len stops bytes) bytes far)) ∙ before_stop bytes

not_not : (t : Bool) → t ≡ not (not t)
not_not true = refl
not_not false = refl

-- so the bytes of a printable line are
pub line_is_printable : (i : ℕ) (bytes : List ℕ) → position odd bytes ≡ Some i → list_all is_printable (take i bytes) ≡ true
line_is_printable = passes_before odd is_printable (λ b. not_not (is_printable b))

pub last_is_printable : (bytes : List ℕ) → position odd bytes ≡ None → list_all is_printable bytes ≡ true
last_is_printable = all_pass odd is_printable (λ b. not_not (is_printable b))

-- the first line ends at its first byte that is not printable, if that is a line feed
pub line_at : (i : ℕ) (bytes : List ℕ) → position odd bytes ≡ Some i → get_or bytes i 0 ≡ 10
    → lines_of bytes ≡ take i bytes ∷ lines_of (take (length bytes - (i + 1)) (drop (i + 1) bytes))
line_at i bytes e feed =
    let at = found (position_or_len odd bytes) (length bytes) i e in
    let same : position_or_len (λ b. b == 10) bytes ≡ position_or_len odd bytes = same_place bytes (λ within. ap (λ k. get_or bytes k 0) at.0 ∙ feed) in
    cut_at 10 i bytes (ap (λ k. cond (nat_lt k (length bytes)) (Some k) None) same ∙ e)

-- a last line without a line feed
pub last_line : (bytes : List ℕ) → 0 < length bytes → position odd bytes ≡ None
    → lines_of bytes ≡ bytes ∷ lines_of (take (length bytes - length bytes) (drop (length bytes) bytes))
last_line bytes some e =
    let far : length bytes ≤ position_or_len odd bytes = absent (position_or_len odd bytes) (length bytes) e in
    let same : position_or_len (λ b. b == 10) bytes ≡ position_or_len odd bytes = same_place bytes (λ within. absurd (omega arith)) in
    cut_none 10 bytes some (ap (λ k. cond (nat_lt k (length bytes)) (Some k) None) same ∙ e)

same_head : (a b : List ℕ) (after later : List (List ℕ)) → a ∷ after ≡ b ∷ later → a ≡ b
same_head a b after later e = cc

not_true : (t : Bool) → not t ≡ true → t ≡ false
not_true true e = absurd (cc)
not_true false e = refl

-- if the first byte that is not printable is no line feed, the line feed comes later
far_feed : (i p : ℕ) (bytes : List ℕ) → p ≡ position_or_len (λ b. b == 10) bytes → i < length bytes → ((k : ℕ) → k < i → odd (get_or bytes k 0) ≡ false) → get_or bytes i 0 ≢ 10 → i < p
far_feed i p bytes ep within before other = by (nat_lt i p) refl
  where
    feed : p < length bytes → get_or bytes p 0 ≡ 10
    feed l =
        let s : not (get_or bytes p 0 == 10) ≡ false = ap (λ k. not (get_or bytes k 0 == 10)) ep ∙ prefix_len_stops (λ b. not (b == 10)) bytes 0 (subst (λ k. k < length bytes) ep l) in
        grind (arith, nat_tests, s)

    first : p ≤ i → (t : Bool) → nat_lt p i ≡ t → i < p
    first l true t = let b = before p (ltb-true p i t) in let f = ap odd (feed (omega (arith, l, within))) in absurd (cc)
    first l false t = let n : i ≡ p = omega (arith, ltb-false p i t, l) in absurd (other (ap (λ k. get_or bytes k 0) n ∙ feed (omega (arith, l, within))))

    by : (t : Bool) → nat_lt i p ≡ t → i < p
    by true t = ltb-true i p t
    by false t = first (ltb-false i p t) (nat_lt p i) refl

-- a line with a byte that is neither printable nor its line feed
pub odd_line : (i : ℕ) (bytes line : List ℕ) (later : List (List ℕ)) → position odd bytes ≡ Some i → get_or bytes i 0 ≢ 10 → lines_of bytes ≡ line ∷ later → list_all is_printable line ≡ false
odd_line i bytes line later e other h =
    let at = position-Some odd bytes i 0 e in
    let p = position_or_len (λ b. b == 10) bytes in
    let some : 0 < length bytes = omega (arith, at.0) in
    let is : take p bytes ≡ line = same_head _ _ _ _ (sym (first_piece 10 bytes some) ∙ h) in
    let behind : i < p = far_feed i p bytes refl at.0 at.2 other in
    let far : p ≤ length bytes = prefix_len-le-length (λ b. not (b == 10)) bytes in
    let stop : is_printable (get_or (take p bytes) i 0) ≡ false = ap is_printable (get_or-take p bytes i 0 behind) ∙ not_true (is_printable (get_or bytes i 0)) at.1 in
    ap (list_all is_printable) (sym is) ∙ list_all_at is_printable (take p bytes) i 0 (omega (arith, behind, length-take-le p bytes far)) stop
