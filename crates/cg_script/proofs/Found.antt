-- The form for a word is found among those with the same first byte and length; it is either the form of a line `x = ..` or of
-- another line.
use Rattle.std.proofs.Common.{◌≡◌, ℕ, List, [], ◌∷◌, ◌++◌, Bool, true, false, cond, not, ◌&&◌, ◌||◌, ◌<◌, length, nat_le, get_or, Option, Some, None, refl, sym, ap, ◌∙◌, arith}
use Rattle.std.specs.List.{list_all}
use Rattle.std.specs.Option.{is_none}
use Rattle.std.specs.Str.{bytes_eq}
use Rattle.std.proofs.lemmas.Bool.Decides.{nat_tests}
use Rattle.std.proofs.lemmas.Slice.Eq.{bytes_eq-Decides}
use Rattle.cg_script.specs.declared.form.Form.{Form}
use Rattle.cg_script.specs.Tables.{named}
use Rattle.cg_script.specs.Words.{reserves}
use Rattle.cg_script.specs.Forms.{word_of, by_words, binds, binding_forms, opening_forms, worded_forms, words_of_forms, openers, bindings}
use Rattle.cg_script.specs.Alike.{forms_like}
use Rattle.cg_script.proofs.RowsByLength.{named_forms_like}

-- a form among some is found by its word
pub by_words-is : (these : List Form) (w : List ℕ) (form : Form) → named (by_words these) w ≡ Some form → w ≡ word_of form
by_words-is [] w form e = absurd (cc)
by_words-is (f ∷ these) w form e = by (bytes_eq w (word_of f)) refl e (by_words-is these w form)
  where
    by : (b : Bool) → bytes_eq w (word_of f) ≡ b → cond b (Some f) (named (by_words these) w) ≡ Some form → (named (by_words these) w ≡ Some form → w ≡ word_of form) → w ≡ word_of form
    by true eb e later = let same : f ≡ form = cc in (bytes_eq-Decides w (word_of f)).0 eb ∙ ap word_of same
    by false eb e later = later e

-- what is true of each of some forms is true of the one that is found
pub found_all : (p : Form → Bool) (these : List Form) (w : List ℕ) (form : Form) → list_all p these ≡ true → named (by_words these) w ≡ Some form → p form ≡ true
found_all p [] w form all e = absurd (cc)
found_all p (f ∷ these) w form all e = by (p f) (bytes_eq w (word_of f)) refl all e (found_all p these w form)
  where
    by : (q b : Bool) → p f ≡ q → (q && list_all p these) ≡ true → cond b (Some f) (named (by_words these) w) ≡ Some form
        → (list_all p these ≡ true → named (by_words these) w ≡ Some form → p form ≡ true) → p form ≡ true
    by true true eq all e later = let same : f ≡ form = cc in ap p (sym same) ∙ eq
    by true false eq all e later = later all e
    by false b eq all e later = absurd (cc)

-- no form has a word this short
long_enough : Form → Bool
long_enough form = nat_le 3 (length (word_of form))

pub short_names_none : (w : List ℕ) → length w < 3 → named words_of_forms w ≡ None
unfolding words_of_forms long_enough
short_names_none w short = go (named (by_words worded_forms) w) refl
  where
    go : (m : Option Form) → named (by_words worded_forms) w ≡ m → m ≡ None
    go None e = refl
    go (Some form) e =
        let enough : nat_le 3 (length (word_of form)) ≡ true = found_all long_enough worded_forms w form refl e in
        let same : length w ≡ length (word_of form) = ap length (by_words-is worded_forms w form e) in
        absurd (grind (arith, nat_tests))

pub named_from_like : (w : List ℕ) (found : Option Form) → found ≡ named (by_words (forms_like (get_or w 0 0) (length w) worded_forms)) w → found ≡ named words_of_forms w
unfolding words_of_forms
named_from_like w found e = e ∙ named_forms_like w worded_forms

named_first : (these others : List Form) (w : List ℕ) (form : Form) → named (by_words these) w ≡ Some form → named (by_words (these ++ others)) w ≡ Some form
named_first [] others w form e = absurd (cc)
named_first (f ∷ these) others w form e = by (bytes_eq w (word_of f)) e (named_first these others w form)
  where
    by : (b : Bool) → cond b (Some f) (named (by_words these) w) ≡ Some form → (named (by_words these) w ≡ Some form → named (by_words (these ++ others)) w ≡ Some form)
        → cond b (Some f) (named (by_words (these ++ others)) w) ≡ Some form
    by true e later = e
    by false e later = later e

named_later : (these others : List Form) (w : List ℕ) → named (by_words these) w ≡ None → named (by_words (these ++ others)) w ≡ named (by_words others) w
named_later [] others w e = refl
named_later (f ∷ these) others w e = by (bytes_eq w (word_of f)) e (named_later these others w)
  where
    by : (b : Bool) → cond b (Some f) (named (by_words these) w) ≡ None → (named (by_words these) w ≡ None → named (by_words (these ++ others)) w ≡ named (by_words others) w)
        → cond b (Some f) (named (by_words (these ++ others)) w) ≡ named (by_words others) w
    by true e later = absurd (cc)
    by false e later = later e

-- the form if it is of a kind
abbrev pub kept : (Form → Bool) → Option Form → Option Form
kept p None = None
kept p (Some form) = cond (p form) (Some form) None

no_opener : Form → Bool
no_opener form = is_none (named (by_words opening_forms) (word_of form))

none_is : (m : Option Form) → is_none m ≡ true → m ≡ None
none_is None e = refl
none_is (Some form) e = absurd (cc)

-- The form for a word is that of a line `x = ..` if there is one, and else that of another line.
record Splits (w : List ℕ) : Type 0 where
  pub binding : named bindings w ≡ kept binds (named words_of_forms w)
  pub opener : named openers w ≡ kept (λ form. not (binds form)) (named words_of_forms w)

splits : (w : List ℕ) → Splits w
unfolding bindings openers words_of_forms no_opener
splits w = go (named (by_words binding_forms) w) (named (by_words opening_forms) w) refl refl
  where
    go : (b o : Option Form) → named (by_words binding_forms) w ≡ b → named (by_words opening_forms) w ≡ o → Splits w
    go (Some f) o eb eo =
        let all : named (by_words worded_forms) w ≡ Some f = named_first binding_forms opening_forms w f eb in
        let yes : binds f ≡ true = found_all binds binding_forms w f refl eb in
        let none : named (by_words opening_forms) (word_of f) ≡ None = none_is (named (by_words opening_forms) (word_of f)) (found_all no_opener binding_forms w f refl eb) in
        let same : w ≡ word_of f = by_words-is binding_forms w f eb in
        record {
          binding = eb ∙ sym (ap (kept binds) all ∙ ap (λ q. cond q (Some f) None) yes);
          opener = ap (named (by_words opening_forms)) same ∙ none ∙ sym (ap (kept (λ form. not (binds form))) all ∙ ap (λ q. cond (not q) (Some f) None) yes);
        }
    go None (Some f) eb eo =
        let all : named (by_words worded_forms) w ≡ Some f = named_later binding_forms opening_forms w eb ∙ eo in
        let no : not (binds f) ≡ true = found_all (λ form. not (binds form)) opening_forms w f refl eo in
        let other : binds f ≡ false = grind arith in
        record {
          binding = eb ∙ sym (ap (kept binds) all ∙ ap (λ q. cond q (Some f) None) other);
          opener = eo ∙ sym (ap (kept (λ form. not (binds form))) all ∙ ap (λ q. cond q (Some f) None) no);
        }
    go None None eb eo =
        let all : named (by_words worded_forms) w ≡ None = named_later binding_forms opening_forms w eb ∙ eo in
        record { binding = eb ∙ sym (ap (kept binds) all); opener = eo ∙ sym (ap (kept (λ form. not (binds form))) all) }

pub binding_kept : (w : List ℕ) (found : Option Form) → found ≡ named words_of_forms w → kept binds found ≡ named bindings w
binding_kept w found e = ap (kept binds) e ∙ sym (splits w).binding

pub opener_kept : (w : List ℕ) (found : Option Form) → found ≡ named words_of_forms w → kept (λ form. not (binds form)) found ≡ named openers w
opener_kept w found e = ap (kept (λ form. not (binds form))) e ∙ sym (splits w).opener

-- one of both is reserved if it is
pub reserved_by_word : (w : List ℕ) → (reserves (named openers w) || reserves (named bindings w)) ≡ reserves (named words_of_forms w)
reserved_by_word w =
    let s = splits w in
    ap (λ o. reserves o || reserves (named bindings w)) s.opener ∙ ap (λ o. reserves (kept (λ form. not (binds form)) (named words_of_forms w)) || reserves o) s.binding ∙ go (named words_of_forms w)
  where
    by : (b : Bool) (form : Form) → (reserves (cond (not b) (Some form) None) || reserves (cond b (Some form) None)) ≡ reserves (Some form)
    by true form = refl
    by false form = go2 (reserves (Some form))
      where
        go2 : (r : Bool) → (r || false) ≡ r
        go2 true = refl
        go2 false = refl

    go : (m : Option Form) → (reserves (kept (λ form. not (binds form)) m) || reserves (kept binds m)) ≡ reserves m
    go None = refl
    go (Some form) = by (binds form) form
