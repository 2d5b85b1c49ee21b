-- The words at the beginning of some bytes.
use Rattle.std.proofs.Common.{◌≡◌, ◌≢◌, ℕ, zero, suc, ◌+◌, ◌-◌, ◌<◌, ◌≤◌, List, [], ◌∷◌, ◌++◌, length, take, drop, filter, get_or, Bool, true, false, cond, not, ◌&&◌, ◌||◌, ◌==◌, refl, sym, ap, ◌∙◌, arith, nat_lt, Some, None, position, length-append, length-drop, append_assoc, append-nil}
use Rattle.std.proofs.lemmas.Bool.Decides.{nat_tests}
use Rattle.std.proofs.lemmas.List.{take_all, take_more, length-take-le, get_or-drop, take-append-le, get_or-take, length-take}
use Rattle.std.proofs.Math.Seq.{take-add}
use Rattle.std.specs.List.{list_all, position_or_len}
use Rattle.cg_script.specs.declared.limits.TheConstants.{MOST_FOUND, MOST_WORDS}
use Rattle.cg_script.specs.Pieces.{pieces, onto, has_bytes, words_of}
use Rattle.cg_script.specs.Words.{is_printable}
use Rattle.cg_script.proofs.Ascii.{both}
use Rattle.std.specs.Borrow.{Bor}
use Rattle.std.proofs.lemmas.List.{length-map, map-append}
use Rattle.cg_script.proofs.Places.{texts_of}
use Rattle.std.proofs.lemmas.List.Folds.{list_all-append}
use Rattle.std.proofs.lemmas.List.Sums.{prefix_len_is}
use Rattle.cg_script.proofs.Cuts.{odd, empty_piece, full_piece}

is_below : (n m : ℕ) → n < m → nat_lt n m ≡ true
is_below n m h = grind (arith, nat_tests)

is_not_below : (n : ℕ) → nat_lt n n ≡ false
is_not_below n = grind (arith, nat_tests)

-- a byte that ends a word
abbrev pub ends : ℕ → Bool
ends b = not (is_printable b) || b == 32

abbrev pub plain : ℕ → Bool
plain b = not (ends b)

plain_other : (b : ℕ) → plain b ≡ true → (b == 32) ≡ false
plain_other b e = grind (arith, nat_tests)

pub plain_printable : (b : ℕ) → plain b ≡ true → is_printable b ≡ true
plain_printable b e = grind (arith, nat_tests)

-- a word ends at its space
pub word_before : (w rest : List ℕ) → list_all plain w ≡ true → pieces 32 (w ++ 32 ∷ rest) ≡ w ∷ pieces 32 rest
word_before [] rest h = refl
word_before (b ∷ w) rest h =
    let p = both (plain b) (list_all plain w) h in
    ap (λ t. cond t ([] ∷ pieces 32 (w ++ 32 ∷ rest)) (onto b (pieces 32 (w ++ 32 ∷ rest)))) (plain_other b p.0) ∙ ap (onto b) (word_before w rest p.1)

one_piece : (b : ℕ) (w : List ℕ) → list_all plain (b ∷ w) ≡ true → pieces 32 (b ∷ w) ≡ (b ∷ w) ∷ []
one_piece b [] h = ap (λ t. cond t ([] ∷ []) ((b ∷ []) ∷ [])) (plain_other b (both (plain b) true h).0)
one_piece b (c ∷ w) h =
    let p = both (plain b) (list_all plain (c ∷ w)) h in
    ap (λ t. cond t ([] ∷ pieces 32 (c ∷ w)) (onto b (pieces 32 (c ∷ w)))) (plain_other b p.0) ∙ ap (onto b) (one_piece c w p.1)

-- without a space, everything is one word
pub word_alone : (w : List ℕ) → list_all plain w ≡ true → words_of w ≡ filter has_bytes (w ∷ [])
word_alone [] h = refl
word_alone (b ∷ w) h = ap (filter has_bytes) (one_piece b w h)

pub all_plain : (w : List ℕ) → list_all plain w ≡ true → list_all is_printable w ≡ true
all_plain [] h = refl
all_plain (b ∷ w) h = let p = both (plain b) (list_all plain w) h in ap (λ t. t && list_all is_printable w) (plain_printable b p.0) ∙ all_plain w p.1

filter_behind : (w : List ℕ) (rest : List (List ℕ)) → filter has_bytes (w ∷ rest) ≡ filter has_bytes (w ∷ []) ++ filter has_bytes rest
filter_behind [] rest = refl
filter_behind (b ∷ w) rest = refl

-- what was taken up to a number can be taken again
pub take_front : {A : Type 0} (n : ℕ) (xs ys : List A) → take n (take n xs ++ ys) ≡ take n (xs ++ ys)
take_front zero xs ys = refl
take_front (suc n) [] ys = refl
take_front (suc n) (x ∷ xs) ys = ap (λ l. x ∷ l) (take_front n xs ys)

-- These words, with those of the rest, are the first ones of some bytes.
abbrev pub AreFirst : List (List ℕ) → List ℕ → Type 0
AreFirst words done = (rest : List ℕ) → take MOST_FOUND (words ++ words_of rest) ≡ take MOST_FOUND (words_of (done ++ rest))

-- one more word and its space
pub first_more : (words now : List (List ℕ)) (done w : List ℕ) → list_all plain w ≡ true → now ≡ take MOST_FOUND (words ++ filter has_bytes (w ∷ [])) → AreFirst words done
    → AreFirst now (done ++ (w ++ 32 ∷ []))
first_more words now done w h e inv rest =
    let f = filter has_bytes (w ∷ []) in
    ap (λ ws. take MOST_FOUND (ws ++ words_of rest)) e
    ∙ take_front MOST_FOUND (words ++ f) (words_of rest)
    ∙ ap (take MOST_FOUND) (append_assoc words f (words_of rest))
    ∙ ap (λ ws. take MOST_FOUND (words ++ ws)) (sym (ap (filter has_bytes) (word_before w rest h) ∙ filter_behind w (pieces 32 rest)))
    ∙ inv (w ++ 32 ∷ rest)
    ∙ ap (λ bs. take MOST_FOUND (words_of bs)) (sym (append_assoc done (w ++ 32 ∷ []) rest ∙ ap (λ bs. done ++ bs) (append_assoc w (32 ∷ []) rest)))

-- one more word, which ends the line
pub first_last : (words now : List (List ℕ)) (done w : List ℕ) → list_all plain w ≡ true → now ≡ take MOST_FOUND (words ++ filter has_bytes (w ∷ [])) → AreFirst words done
    → now ≡ take MOST_FOUND (words_of (done ++ w))
first_last words now done w h e inv = e ∙ ap (λ ws. take MOST_FOUND (words ++ ws)) (sym (word_alone w h)) ∙ inv w

-- as many texts as words
pub length-texts : (words : List (Bor (List ℕ))) → length (texts_of words) ≡ length words
length-texts words = length-map words (λ w. w.now)

module _ (words : List (Bor (List ℕ))) where
  -- a full list takes no more
  pub full_found : (more : List (List ℕ)) → length words ≡ MOST_FOUND → texts_of words ≡ take MOST_FOUND (texts_of words ++ more)
  full_found more e =
      let n = length-texts words in
      sym (take-append-le MOST_FOUND (texts_of words) more (omega (arith, n, e)) ∙ take_all MOST_FOUND (texts_of words) (omega (arith, n, e)))

  -- an empty piece is no word
  pub none_found : (piece : List ℕ) → length words ≤ MOST_FOUND → length piece ≡ 0 → texts_of words ≡ take MOST_FOUND (texts_of words ++ filter has_bytes (piece ∷ []))
  none_found piece few e =
      let n = length-texts words in
      sym (ap (λ t. take MOST_FOUND (texts_of words ++ cond t (piece ∷ []) [])) (empty_piece piece e) ∙ ap (take MOST_FOUND) (append-nil (texts_of words))
      ∙ take_all MOST_FOUND (texts_of words) (omega (arith, n, few)))

  -- any other is one
  pub one_found : (now : List (Bor (List ℕ))) (piece : Bor (List ℕ)) → now ≡ words ++ piece ∷ [] → length words < MOST_FOUND → 0 < length piece.now
      → texts_of now ≡ take MOST_FOUND (texts_of words ++ filter has_bytes (piece.now ∷ []))
  one_found now piece e few some =
      let n = length-texts words in
      let l : length (texts_of words ++ piece.now ∷ []) ≤ MOST_FOUND = omega (arith, n, few, length-append (texts_of words) (piece.now ∷ [])) in
      ap texts_of e ∙ map-append (λ w. w.now) words (piece ∷ [])
      ∙ sym (ap (λ t. take MOST_FOUND (texts_of words ++ cond t (piece.now ∷ []) [])) (full_piece piece.now some) ∙ take_all MOST_FOUND (texts_of words ++ piece.now ∷ []) l)

printable_at : (bytes : List ℕ) (k : ℕ) → list_all is_printable bytes ≡ true → k < length bytes → not (odd (get_or bytes k 0)) ≡ true
printable_at [] k h within = absurd (omega (arith, within))
printable_at (b ∷ bs) zero h within = ap (λ t. not (not t)) (both (is_printable b) (list_all is_printable bs) h).0
printable_at (b ∷ bs) (suc k) h within = printable_at bs k (both (is_printable b) (list_all is_printable bs) h).1 (omega (arith, within))

-- the first byte that is not printable
pub place_some : (n : ℕ) (bytes : List ℕ) → n < length bytes → list_all is_printable (take n bytes) ≡ true → odd (get_or bytes n 0) ≡ true → Some n ≡ position odd bytes
place_some n bytes within h stop =
    let few : n ≤ length bytes = omega (arith, within) in
    let passes : (k : ℕ) → k < n → not (odd (get_or bytes k 0)) ≡ true =
    λ k l. ap (λ b. not (odd b)) (sym (get_or-take n bytes k 0 l)) ∙ printable_at (take n bytes) k h (omega (arith, l, length-take-le n bytes few)) in
    let is : position_or_len odd bytes ≡ n = prefix_len_is (λ b. not (odd b)) bytes n 0 few passes (λ w. ap not stop) in
    sym (ap (λ k. cond (nat_lt k (length bytes)) (Some k) None) is ∙ ap (λ t. cond t (Some n) None) (is_below n (length bytes) within))

-- there is none
pub place_none : (bytes : List ℕ) → list_all is_printable bytes ≡ true → None ≡ position odd bytes
place_none bytes h =
    let whole : length bytes ≤ length bytes = omega arith in
    let is : position_or_len odd bytes ≡ length bytes = prefix_len_is (λ b. not (odd b)) bytes (length bytes) 0 whole (λ k l. printable_at bytes k h l) (λ w. absurd (omega (arith, w))) in
    sym (ap (λ k. cond (nat_lt k (length bytes)) (Some k) None) is ∙ ap (λ t. cond t (Some (length bytes)) None) (is_not_below (length bytes)))

-- a byte that may not be part of a word, and is no space
pub stops : (b : ℕ) → plain b ≡ false → b ≢ 32 → odd b ≡ true
stops b e other = grind (arith, nat_tests)

-- a walk over some bytes that has reached a position, with a word that began at another
module _ (bytes : List ℕ) (start at : ℕ) (started : start ≤ at) where
  -- the bytes so far are those before the word and the word's own
  pub word_behind : take at bytes ≡ take start bytes ++ take (at - start) (drop start bytes)
  word_behind = let n : start + (at - start) ≡ at = omega (arith, started) in sym (ap (λ k. take k bytes) n) ∙ take-add start (at - start) bytes

  module _ (within : at < length bytes) where
    word_longer : take (at + 1 - start) (drop start bytes) ≡ take (at - start) (drop start bytes) ++ get_or bytes at 0 ∷ []
    word_longer =
        let n : at + 1 - start ≡ at - start + 1 = omega (arith, started) in
        let m : start + (at - start) ≡ at = omega (arith, started) in
        let inside : at - start < length (drop start bytes) = omega (arith, length-drop start bytes, started, within) in
        ap (λ k. take k (drop start bytes)) n ∙ take_more (drop start bytes) (at - start) 0 inside
        ∙ ap (λ b. take (at - start) (drop start bytes) ++ b ∷ []) (get_or-drop start bytes (at - start) 0 ∙ ap (λ k. get_or bytes k 0) m)

    all_longer : (p : ℕ → Bool) (xs more : List ℕ) → more ≡ xs ++ get_or bytes at 0 ∷ [] → list_all p xs ≡ true → p (get_or bytes at 0) ≡ true → list_all p more ≡ true
    all_longer p xs more e all here =
        ap (list_all p) e ∙ list_all-append p xs (get_or bytes at 0 ∷ []) ∙ ap (λ t. t && (p (get_or bytes at 0) && true)) all ∙ ap (λ t. t && true) here

    pub printable_longer : list_all is_printable (take at bytes) ≡ true → is_printable (get_or bytes at 0) ≡ true → list_all is_printable (take (at + 1) bytes) ≡ true
    printable_longer = all_longer is_printable (take at bytes) (take (at + 1) bytes) (take_more bytes at 0 within)

    pub plain_longer : list_all plain (take (at - start) (drop start bytes)) ≡ true → plain (get_or bytes at 0) ≡ true → list_all plain (take (at + 1 - start) (drop start bytes)) ≡ true
    plain_longer = all_longer plain (take (at - start) (drop start bytes)) (take (at + 1 - start) (drop start bytes)) word_longer

    -- which is a space
    pub done_behind : get_or bytes at 0 ≡ 32 → take (at + 1) bytes ≡ take start bytes ++ (take (at - start) (drop start bytes) ++ 32 ∷ [])
    done_behind space =
        take_more bytes at 0 within ∙ ap (λ l. l ++ get_or bytes at 0 ∷ []) word_behind ∙ append_assoc (take start bytes) (take (at - start) (drop start bytes)) (get_or bytes at 0 ∷ [])
        ∙ ap (λ b. take start bytes ++ (take (at - start) (drop start bytes) ++ b ∷ [])) space

pub few_found : (words : List (Bor (List ℕ))) (all : List (List ℕ)) → texts_of words ≡ take MOST_FOUND all → length words ≤ MOST_FOUND
few_found words all e = omega (arith, length-texts words, ap length e, length-take MOST_FOUND all)

module _ (words : List (Bor (List ℕ))) (all : List (List ℕ)) (e : texts_of words ≡ take MOST_FOUND all) where
  -- too many are found
  pub too_many : (long last : Bool) → MOST_WORDS < length words → true ≡ (long || nat_lt MOST_WORDS (length all) || last)
  too_many long last many =
      let n = length-texts words in let k = length-take MOST_FOUND all in let s = ap length e in
      let l : MOST_WORDS < length all = omega (arith, n, k, s, many) in
      by long (is_below MOST_WORDS (length all) l)
    where
      by : (b : Bool) → nat_lt MOST_WORDS (length all) ≡ true → true ≡ (b || nat_lt MOST_WORDS (length all) || last)
      by true h = refl
      by false h = sym (ap (λ t. t || last) h)

  -- few are all
  pub all_found : length words ≤ MOST_WORDS → texts_of words ≡ all
  all_found few =
      let n = length-texts words in let k = length-take MOST_FOUND all in let s = ap length e in
      e ∙ take_all MOST_FOUND all (omega (arith, n, k, s, few))

  pub not_many : (long last : Bool) → length words ≤ MOST_WORDS → (long || last) ≡ (long || nat_lt MOST_WORDS (length all) || last)
  not_many long last few = by long (nat_lt MOST_WORDS (length all)) (let n = length-texts words in let s = ap length (all_found few) in grind (arith, nat_tests, n, s, few))
    where
      by : (a b : Bool) → b ≡ false → (a || last) ≡ (a || b || last)
      by true b h = refl
      by false b h = sym (ap (λ t. t || last) h)
