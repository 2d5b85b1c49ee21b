-- What is read if a word fits its place, and what is wrong with the words of a line.
use Rattle.std.proofs.Common.{◌≡◌, ℕ, ◌≤◌, List, [], length, Bool, true, false, not, ◌||◌, Option, Some, None, if◌then◌else◌, nat_lt, refl, sym, ap, ◌∙◌, arith}
use Rattle.std.proofs.lemmas.Bool.Decides.{nat_tests}
use Rattle.std.proofs.lemmas.List.{length-map}
use Rattle.std.specs.Borrow.{Bor}
use Rattle.std.specs.List.{list_all}
use Rattle.std.specs.Prelude.{is_some, slice_index}
use Rattle.cg_value.specs.Texts.{text_number}
use Rattle.cg_script.specs.declared.command.Operand.{Operand}
use Rattle.cg_script.specs.declared.command.Operand.TheVariants as operands
use Rattle.cg_script.specs.declared.form.Form.{Form}
use Rattle.cg_script.specs.declared.form.Form.TheVariants as forms
use Rattle.cg_script.specs.Tables.{named}
use Rattle.cg_script.specs.Words.{atoms, begins_name, is_graphic, is_quoted, is_variable, is_number, is_value, number_of, string_text}
use Rattle.cg_script.specs.Forms.{row}
use Rattle.cg_script.specs.Meanings.{Meaning, passed, says, bad, code_of, all_fit, repeats_finalizer, formed}
use Rattle.cg_script.specs.Parts.{Known, parts_of, has_unknown, value_text, operand_or}
use Rattle.cg_script.specs.Reading.{is_misplaced, is_repeated, fault_in, says_or_bad, checked}
use Rattle.cg_script.proofs.Places.{texts_of}

-- what is read is read if a test holds
pub read_so : {A : Type 0} (b : Bool) (x a : A) → Some x ≡ (if b then Some a else None) → (b ≡ true) × (x ≡ a)
read_so true x a e = (refl, (let s : x ≡ a = cc in s))
read_so false x a e = absurd (cc)

pub not_read : {A : Type 0} (b : Bool) (a : A) → None ≡ (if b then Some a else None) → b ≡ false
not_read true a e = absurd (cc)
not_read false a e = refl

pub read_as : {A B : Type 0} (f : A → B) (b : Bool) (x a : A) → Some x ≡ (if b then Some a else None) → Some (f x) ≡ (if b then Some (f a) else None)
read_as f true x a e = let s : x ≡ a = cc in ap (λ y. Some (f y)) s
read_as f false x a e = absurd (cc)

pub not_read_as : {A B : Type 0} (b : Bool) (a : A) (other : B) → None ≡ (if b then Some a else None) → None ≡ (if b then Some other else None)
not_read_as true a other e = absurd (cc)
not_read_as false a other e = refl

-- a word that is no other value is one if it is a number
pub number_read : (word : List ℕ) (texts : List (List ℕ)) (found : Option Operand) → named atoms word ≡ None → is_quoted word ≡ false → begins_name (slice_index word 0) ≡ false
    → found ≡ (if is_number word then Some (operands.Int (number_of word)) else None) → found ≡ (if is_value word then Some (operand_or (named atoms word) texts word) else None)
number_read word texts found no_atom unquoted unnamed e =
    let value : is_value word ≡ is_number word = λ j. if is_some (no_atom j) then true else if unquoted j then list_all is_graphic word else if unnamed j then is_variable word else is_number word in
    let operand : operand_or (named atoms word) texts word ≡ operands.Int (number_of word) = ap (λ f. operand_or f texts word) no_atom
    ∙ (λ j. if unquoted j then operands.Str (text_number texts (string_text word)) else if unnamed j then operands.Name (text_number texts word) else operands.Int (number_of word)) in
    e ∙ sym (λ j. if value j then Some (operand j) else None)

-- one that begins like a name is one if it is a variable, which is its text
pub name_value : (word : List ℕ) → named atoms word ≡ None → is_quoted word ≡ false → begins_name (slice_index word 0) ≡ true → is_value word ≡ is_variable word
name_value word no_atom unquoted begins = λ j. if is_some (no_atom j) then true else if unquoted j then list_all is_graphic word else if begins j then is_variable word else is_number word

pub name_text : (word : List ℕ) → named atoms word ≡ None → is_quoted word ≡ false → begins_name (slice_index word 0) ≡ true → value_text (named atoms word) word ≡ Some word
name_text word no_atom unquoted begins = ap (λ f. value_text f word) no_atom
    ∙ (λ j. if unquoted j then Some (string_text word) else if begins j then Some word else None)

-- a form has no more words than a line may have
pub few_in_row : (form : Form) → (row form).most ≤ 64
few_in_row forms.MakeList = omega arith
few_in_row form = omega arith

count_right : (n fewest most : ℕ) → fewest ≤ n → n ≤ most → (nat_lt n fewest || nat_lt most n) ≡ false
count_right n fewest most enough few = grind (arith, nat_tests)

or_true : (a : Bool) → (a || true) ≡ true
or_true true = refl
or_true false = refl

-- words of a number that the form allows
module _ (form : Form) (ws : List (Bor (List ℕ))) (enough : (row form).fewest ≤ length ws) (few : length ws ≤ (row form).most) where
  by_words : formed form (texts_of ws) ≡ (if not (all_fit form 0 (texts_of ws)) || repeats_finalizer form (texts_of ws) then bad 4 else says form (texts_of ws))
  by_words =
      let e : length (texts_of ws) ≡ length ws = length-map ws (λ (w : Bor (List ℕ)). w.now) in
      ap (λ b. if b then bad 3 else if not (all_fit form 0 (texts_of ws)) || repeats_finalizer form (texts_of ws) then bad 4 else says form (texts_of ws))
      (count_right (length (texts_of ws)) (row form).fewest (row form).most (omega arith) (omega arith))

  pub unfit_words : false ≡ all_fit form 0 (texts_of ws) → Some 4 ≡ code_of (formed form (texts_of ws))
  unfit_words e = sym (ap code_of (by_words ∙ ap (λ b. if not b || repeats_finalizer form (texts_of ws) then bad 4 else says form (texts_of ws)) (sym e)))

  pub alike_words : repeats_finalizer form (texts_of ws) ≡ true → Some 4 ≡ code_of (formed form (texts_of ws))
  alike_words e = sym (ap code_of (by_words ∙ ap (λ b. if b then bad 4 else says form (texts_of ws)) (ap (λ b. not (all_fit form 0 (texts_of ws)) || b) e
      ∙ or_true (not (all_fit form 0 (texts_of ws))))))

  pub good_words : true ≡ all_fit form 0 (texts_of ws) → repeats_finalizer form (texts_of ws) ≡ false → None ≡ code_of (formed form (texts_of ws))
  good_words e single = sym (ap code_of (by_words ∙ (λ j. if not (sym e j) || single j then bad 4 else says form (texts_of ws))))

-- what is bad in itself stays bad
pub bad_stays : (known : Known) (m : Meaning) (code : ℕ) → Some code ≡ code_of m → Some code ≡ code_of (checked known m)
bad_stays known passed code e = absurd (cc)
bad_stays known (says form words) code e = absurd (cc)
bad_stays known (bad other) code e = e

good_before : (known : Known) (m : Meaning) → None ≡ code_of (checked known m) → None ≡ code_of m
good_before known passed e = refl
good_before known (says form words) e = refl
good_before known (bad other) e = e

-- words that are not bad are those of a line of their form
pub formed_says : (form : Form) (words : List (List ℕ)) → None ≡ code_of (formed form words) → formed form words ≡ says form words
formed_says form words e = by (nat_lt (length words) (row form).fewest || nat_lt (row form).most (length words)) (not (all_fit form 0 words) || repeats_finalizer form words) e
  where
    by : (c d : Bool) → None ≡ code_of (if c then bad 3 else if d then bad 4 else says form words) → (if c then bad 3 else if d then bad 4 else says form words) ≡ says form words
    by true d e = absurd (cc)
    by false true e = absurd (cc)
    by false false e = refl

code_or : (fault : Option ℕ) (form : Form) (words : List (List ℕ)) → code_of (says_or_bad fault form words) ≡ fault
code_or None form words = refl
code_or (Some code) form words = refl

-- the texts do not affect where a line may be, nor whether it is a duplicate
misplaced_by : (texts : List (List ℕ)) (known : Known) (form : Form)
    → is_misplaced (record {
      texts = texts;
      procs = known.procs;
      classes = known.classes;
      budget = known.budget;
      shutdown = known.shutdown;
      started = known.started;
      inside = known.inside;
    }) form ≡ is_misplaced known form
misplaced_by texts known forms.End = refl
misplaced_by texts known forms.Def = refl
misplaced_by texts known forms.Class = refl
misplaced_by texts known forms.Budget = refl
misplaced_by texts known forms.Shutdown = refl
misplaced_by texts known forms.Profile = refl
misplaced_by texts known form = refl

repeated_by : (texts : List (List ℕ)) (known : Known) (form : Form) (words : List (List ℕ))
    → is_repeated (record {
      texts = texts;
      procs = known.procs;
      classes = known.classes;
      budget = known.budget;
      shutdown = known.shutdown;
      started = known.started;
      inside = known.inside;
    }) form words ≡ is_repeated known form words
repeated_by texts known forms.Def words = refl
repeated_by texts known forms.Class words = refl
repeated_by texts known forms.Budget words = refl
repeated_by texts known forms.Shutdown words = refl
repeated_by texts known form words = refl

-- what is wrong with words that are good in themselves and have known texts
module _ (known : Known) (texts : List (List ℕ)) (form : Form) (words : List (List ℕ)) (good : None ≡ code_of (formed form words)) where
  code_so : code_of (checked known (formed form words)) ≡ fault_in known form words
  code_so = ap (λ m. code_of (checked known m)) (formed_says form words good) ∙ code_or (fault_in known form words) form words

  pub fault_so : (misplaced repeated unknown : Bool)
      → misplaced ≡ is_misplaced (record {
        texts = texts;
        procs = known.procs;
        classes = known.classes;
        budget = known.budget;
        shutdown = known.shutdown;
        started = known.started;
        inside = known.inside;
      }) form
      → repeated ≡ is_repeated (record {
        texts = texts;
        procs = known.procs;
        classes = known.classes;
        budget = known.budget;
        shutdown = known.shutdown;
        started = known.started;
        inside = known.inside;
      }) form words
      → unknown ≡ has_unknown (parts_of known form words)
      → (if misplaced then Some 7 else if repeated then Some 8 else if unknown then Some 6 else None) ≡ code_of (checked known (formed form words))
  fault_so misplaced repeated unknown m r u =
      (λ j. if (m ∙ misplaced_by texts known form) j then Some 7 else if (r ∙ repeated_by texts known form words) j then Some 8 else if u j then Some 6 else None)
      ∙ sym code_so

-- a line in which nothing is wrong after what is known
pub taken_says : (known : Known) (form : Form) (words : List (List ℕ)) → None ≡ code_of (checked known (formed form words)) → (says form words ≡ formed form words) × (None ≡ fault_in known form words)
taken_says known form words e =
    let good = good_before known (formed form words) e in
    (sym (formed_says form words good), e ∙ code_so known [] form words good)
