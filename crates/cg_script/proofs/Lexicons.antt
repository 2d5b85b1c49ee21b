-- What is remembered stays true as texts are added.
use Rattle.std.proofs.Common.{◌≡◌, ℕ, ◌+◌, ◌<◌, ◌≤◌, List, [], ◌∷◌, ◌++◌, length, get_or, slice_get, Bool, true, false, not, cond, eqb, ◌||◌, Option, Some, None, nat_lt, Result, Ok, Err, OnOk, OnErr, refl, sym, ap, subst, ◌∙◌, arith, length-append}
use Rattle.std.specs.List.{All, list_any, position_or_len}
use Rattle.std.specs.Str.{bytes_eq}
use Rattle.std.proofs.lemmas.Bool.Decides.{nat_tests}
use Rattle.std.proofs.lemmas.List.{get_or_append_left, get_or_past}
use Rattle.std.proofs.Math.Seq.{get_or-append_seam}
use Rattle.std.proofs.lemmas.List.Folds.{list_any-append, position_or_len_push}
use Rattle.std.proofs.lemmas.List.Sums.{passes_at_first, prefix_len-le-length}
use Rattle.std.proofs.lemmas.Option.{IfSome_then, slice_get_within, slice_get-get_or, get_or_from_slice_get}
use Rattle.std.proofs.lemmas.Slice.Eq.{bytes_eq-Decides}
use Rattle.cg_value.specs.Texts.{has_text, text_number, with_text}
use Rattle.cg_script.specs.Words.{is_variable}
use Rattle.cg_script.specs.Lexicons.{IsVariableAt, IsRemembered}
use Rattle.cg_script.proofs.TextNumbers.{any_below}

stands_on : {A : Type 0} (xs : List A) (y x : A) (n : ℕ) → slice_get xs n ≡ Some x → slice_get (xs ++ y ∷ []) n ≡ Some x
stands_on xs y x n e =
    let within = slice_get_within xs n x e in
    let longer : n < length (xs ++ y ∷ []) = simp length-append (omega (arith, within)) in
    slice_get-get_or (xs ++ y ∷ []) n x longer ∙ ap Some (get_or_append_left xs (y ∷ []) x n within ∙ get_or_from_slice_get xs n x x e)

before_end : (m n a : ℕ) → m < n → cond (eqb m n) a m ≡ m
before_end m n a lt = grind (arith, nat_tests)

number_stays : {A : Type 0} (p : A → Bool) (xs : List A) (y : A) → list_any p xs ≡ true → position_or_len p (xs ++ y ∷ []) ≡ position_or_len p xs
number_stays p xs y e = position_or_len_push p xs y ∙ before_end (position_or_len p xs) (length xs) _ (any_below p xs e)

-- a new text changes none of the earlier ones
with_one : (texts : List (List ℕ)) (text : List ℕ) (n : ℕ) → IsVariableAt texts n → IsVariableAt (with_text texts text) n
with_one texts text n at = by (has_text texts text)
  where
    by : (b : Bool) → IsVariableAt (cond b texts (texts ++ text ∷ [])) n
    by true = at
    by false = record {
      text = at.text;
      stands = stands_on texts text at.text n at.stands;
      variable = at.variable;
      there = list_any-append (bytes_eq at.text) texts (text ∷ []) ∙ ap (λ b. b || list_any (bytes_eq at.text) (text ∷ [])) at.there;
      numbered = number_stays (bytes_eq at.text) texts text at.there ∙ at.numbered;
    }

grown : {T E : Type 0} (r : Result T E) (old new : List (List ℕ)) (text : List ℕ) → OnOk r (new ≡ with_text old text) → OnErr r (new ≡ old) → (n : ℕ) → IsVariableAt old n → IsVariableAt new n
grown (Ok x) old new text ok err n at = subst (λ ts. IsVariableAt ts n) (sym ok) (with_one old text n at)
grown (Err e) old new text ok err n at = subst (λ ts. IsVariableAt ts n) (sym err) at

-- so what is remembered stays true, with or without a new text
pub remembered_on : {T E : Type 0} (r : Result T E) (old new : List (List ℕ)) (text : List ℕ) (known : List (Option ℕ)) → OnOk r (new ≡ with_text old text) → OnErr r (new ≡ old)
    → All (IsRemembered old) known → All (IsRemembered new) known
remembered_on r old new text known ok err all = λ k d within. IfSome_then (get_or known k d) (all k d within) (grown r old new text ok err)

or_so : (a b c : Bool) → b ≡ true → (a || (b || c)) ≡ true
or_so true b c e = refl
or_so false true c e = refl
or_so false false c e = absurd (cc)

own_end : (m n : ℕ) (b : Bool) → m ≤ n → b ≡ true → cond (eqb m n) (n + cond b 0 1) m ≡ m
own_end m n true le e = grind (arith, nat_tests)
own_end m n false le e = absurd (cc)

-- a variable that was read has its number
module _ (old : List (List ℕ)) (word : List ℕ) (is : is_variable word ≡ true) where
  abbrev number : ℕ
  number = text_number old word

  self_same : bytes_eq word word ≡ true
  self_same = (bytes_eq-Decides word word).1 refl

  found_at : (b : Bool) → nat_lt number (length old) ≡ b → slice_get (old ++ word ∷ []) number ≡ Some word
  found_at true e =
      let within : number < length old = grind (arith, nat_tests, e) in
      let same : word ≡ get_or old number word = (bytes_eq-Decides word (get_or old number word)).0 (passes_at_first (bytes_eq word) old word within) in
      stands_on old word word number (slice_get-get_or old number word within ∙ ap Some (sym same))
  found_at false e =
      let last : number ≡ length old = grind (arith, nat_tests, e, prefix_len-le-length (λ t. not (bytes_eq word t)) old) in
      let within : number < length (old ++ word ∷ []) = simp length-append (omega (arith, last)) in
      slice_get-get_or (old ++ word ∷ []) number word within ∙ ap Some (ap (λ n. get_or (old ++ word ∷ []) n word) last ∙ get_or-append_seam old word [] word)

  pub learned : IsVariableAt (with_text old word) number
  learned = by (has_text old word) refl
    where
      by : (b : Bool) → has_text old word ≡ b → IsVariableAt (cond b old (old ++ word ∷ [])) number
      by true e =
          let within : number < length old = any_below (bytes_eq word) old e in
          let same : word ≡ get_or old number word = (bytes_eq-Decides word (get_or old number word)).0 (passes_at_first (bytes_eq word) old word within) in
          record {
            text = word;
            stands = slice_get-get_or old number word within ∙ ap Some (sym same);
            variable = is;
            there = e;
            numbered = refl;
          }
      by false e = record {
        text = word;
        stands = found_at (nat_lt number (length old)) refl;
        variable = is;
        there = list_any-append (bytes_eq word) old (word ∷ []) ∙ or_so (list_any (bytes_eq word) old) (bytes_eq word word) false self_same;
        numbered = position_or_len_push (bytes_eq word) old word ∙ own_end number (length old) (bytes_eq word word) (prefix_len-le-length (λ t. not (bytes_eq word t)) old) self_same;
      }

pub learned_so : (old new : List (List ℕ)) (word text : List ℕ) (n : ℕ) → is_variable word ≡ true → text ≡ word → new ≡ with_text old text → n ≡ text_number old text → IsVariableAt new n
learned_so old new word text n is same e at =
    subst (λ k. IsVariableAt new k) (sym (at ∙ ap (text_number old) same)) (subst (λ ts. IsVariableAt ts (text_number old word)) (sym (e ∙ ap (with_text old) same)) (learned old word is))

pub remembered_at : (texts : List (List ℕ)) (known : List (Option ℕ)) (place n : ℕ) → All (IsRemembered texts) known → get_or known place None ≡ Some n → IsVariableAt texts n
remembered_at texts known place n all e = by (nat_lt place (length known)) refl
  where
    by : (b : Bool) → nat_lt place (length known) ≡ b → IsVariableAt texts n
    by true at = let within : place < length known = grind (arith, nat_tests, at) in subst (IsRemembered texts) e (all place None within)
    by false at = let past : length known ≤ place = grind (arith, nat_tests, at) in let none : None ≡ Some n = sym (get_or_past known place None past) ∙ e in absurd (cc)

-- a word equal to the text with a remembered number
pub same_text : (texts : List (List ℕ)) (n : ℕ) (word text : List ℕ) → IsVariableAt texts n → slice_get texts n ≡ Some text → text ≡ word
    → (is_variable word ≡ true) × (n ≡ text_number texts word) × (texts ≡ with_text texts word)
same_text texts n word text at e same =
    let one : Some at.text ≡ Some word = sym at.stands ∙ e ∙ ap Some same in
    let is : at.text ≡ word = cc in (
      sym (ap is_variable is) ∙ at.variable,
      sym at.numbered ∙ ap (text_number texts) is,
      ap (λ b. cond b texts (texts ++ word ∷ [])) (sym at.there ∙ ap (has_text texts) is),
    )
