-- The words that are printed of the parts of a line: those of the line as they are printed.
use Rattle.std.proofs.Common.{◌≡◌, ℕ, suc, ◌+◌, ◌<◌, List, [], ◌∷◌, ◌++◌, length, map, take, drop, Bool, true, false, cond, not, ◌||◌, Option, None, Some, refl, sym, ap, ◌∙◌, arith, codes, append_assoc, append-nil, nat_lt}
use Rattle.std.specs.Prelude.{slice_index, slice_index_or, decimal, is_some, unwrap_or}
use Rattle.std.specs.Fmt.{signed_decimal}
use Rattle.std.specs.List.{position_or_len}
use Rattle.std.specs.Str.{bytes_eq}
use Rattle.std.proofs.lemmas.Bool.Decides.{nat_tests}
use Rattle.std.proofs.lemmas.Fmt.{decimal_digit}
use Rattle.std.proofs.lemmas.List.{take-append-drop}
use Rattle.std.proofs.lemmas.Slice.Eq.{bytes_eq-Decides}
use Rattle.cg_value.specs.Texts.{has_text, text_number, with_text}
use Rattle.cg_script.specs.declared.command.Operand.{Operand}
use Rattle.cg_script.specs.declared.command.Operand.TheVariants as operands
use Rattle.cg_script.specs.declared.form.Form.{Form}
use Rattle.cg_script.specs.declared.form.Sort.{Sort}
use Rattle.cg_script.specs.declared.form.Sort.TheVariants.{Key, Variable, Name, Class, Proc, Finalizer, Value, Flag}
use Rattle.cg_script.specs.Tables.{named}
use Rattle.cg_script.specs.Words.{begins_name, is_quoted, number_of, string_text, atoms, flags, after_prefix, is_identifier_after, names_legacy}
use Rattle.cg_script.specs.Forms.{sort_at}
use Rattle.cg_script.specs.Meanings.{fits, all_fit}
use Rattle.cg_script.specs.Parts.{part_of, parts_from, texts_from, text_in, with_text_if, value_text, operand_or, numbered, defined_number, finalizer, legacy, legacy_of, finalizer_of, is_unknown, has_unknown}
use Rattle.cg_script.specs.Canonical.{Naming, text_of, name_of, value_word, word_with, count_word, part_word, key_word, words_from}
use Rattle.cg_script.proofs.Ascii.{both}
use Rattle.cg_script.proofs.NormalWords.{normal, normal_value}

-- a list is a prefix of another
pub record Begins (xs ys : List (List ℕ)) : Type 0 where
  pub more : List (List ℕ)
  pub is : ys ≡ xs ++ more

pub begins_self : (xs : List (List ℕ)) → Begins xs xs
begins_self xs = record { more = []; is = sym (append-nil xs) }

pub begins_push : (xs ys : List (List ℕ)) → Begins xs (xs ++ ys)
begins_push xs ys = record { more = ys; is = refl }

pub begins_along : (xs ys zs : List (List ℕ)) → Begins xs ys → Begins ys zs → Begins xs zs
begins_along xs ys zs a b = record { more = a.more ++ b.more; is = b.is ∙ ap (λ l. l ++ b.more) a.is ∙ append_assoc xs a.more b.more }

begins_with : (texts : List (List ℕ)) (text : List ℕ) (there : Bool) → Begins texts (cond there texts (texts ++ text ∷ []))
begins_with texts text true = begins_self texts
begins_with texts text false = begins_push texts (text ∷ [])

begins_if : (texts : List (List ℕ)) (text : Option (List ℕ)) → Begins texts (with_text_if texts text)
begins_if texts None = begins_self texts
begins_if texts (Some text) = begins_with texts text (has_text texts text)

pub begins_texts : (form : Form) (words texts : List (List ℕ)) (place : ℕ) → Begins texts (texts_from texts form place words)
begins_texts form [] texts place = begins_self texts
begins_texts form (word ∷ words) texts place =
    let more = with_text_if texts (text_in (sort_at form place) word) in
    begins_along texts more (texts_from more form (place + 1) words) (begins_if texts (text_in (sort_at form place) word)) (begins_texts form words more (place + 1))

-- the text at a place is the same in a longer list
step_place : (b : Bool) (n : ℕ) (x : List ℕ) (xs : List (List ℕ)) (text : List ℕ) → (b ≡ true → text ≡ x) → (b ≡ false → slice_index_or xs n [] ≡ text)
    → slice_index_or (x ∷ xs) (cond (not b) (1 + n) 0) [] ≡ text
step_place true n x xs text here later = sym (here refl)
step_place false n x xs text here later = let e : 1 + n ≡ suc n = omega arith in ap (λ k. slice_index_or (x ∷ xs) k []) e ∙ later refl

or_false : (a b : Bool) → (a || b) ≡ true → a ≡ false → b ≡ true
or_false true b e f = absurd (cc)
or_false false b e f = e

there_text : (texts more : List (List ℕ)) (text : List ℕ) → has_text texts text ≡ true → slice_index_or (texts ++ more) (text_number texts text) [] ≡ text
there_text [] more text e = absurd (cc)
there_text (x ∷ xs) more text e =
    step_place (bytes_eq text x) (text_number xs text) x (xs ++ more) text (bytes_eq-Decides text x).0 (λ n. there_text xs more text (or_false (bytes_eq text x) (has_text xs text) e n))

new_text : (texts more : List (List ℕ)) (text : List ℕ) → has_text texts text ≡ false → slice_index_or ((texts ++ text ∷ []) ++ more) (text_number texts text) [] ≡ text
new_text [] more text e = refl
new_text (x ∷ xs) more text e =
    step_place (bytes_eq text x) (text_number xs text) x ((xs ++ text ∷ []) ++ more) text (bytes_eq-Decides text x).0 (λ n. new_text xs more text (rest (bytes_eq text x) (has_text xs text) e))
  where
    rest : (a b : Bool) → (a || b) ≡ false → b ≡ false
    rest true b e = absurd (cc)
    rest false b e = e

-- the text of a word has its number among all texts
pub text_found : (all texts : List (List ℕ)) (text : List ℕ) → Begins (with_text texts text) all → text_of all (text_number texts text) ≡ text
text_found all texts text begins = by (has_text texts text) refl begins
  where
    by : (b : Bool) → has_text texts text ≡ b → Begins (cond b texts (texts ++ text ∷ [])) all → text_of all (text_number texts text) ≡ text
    by true e begins = ap (λ l. slice_index_or l (text_number texts text) []) begins.is ∙ there_text texts begins.more text e
    by false e begins = ap (λ l. slice_index_or l (text_number texts text) []) begins.is ∙ new_text texts begins.more text e

-- so has the name of a defined procedure or class
found_step : (n k m : ℕ) → cond (nat_lt n m) (Some n) None ≡ Some k → (n ≡ k) × (nat_lt n m ≡ true)
found_step n k m e = by (nat_lt n m) refl e
  where
    by : (b : Bool) → nat_lt n m ≡ b → cond b (Some n) None ≡ Some k → (n ≡ k) × (nat_lt n m ≡ true)
    by true t e = (cc, t)
    by false t e = absurd (cc)

in_list : (names more : List (List ℕ)) (name : List ℕ) → position_or_len (bytes_eq name) names < length names → slice_index_or (names ++ more) (position_or_len (bytes_eq name) names) [] ≡ name
in_list [] more name h = absurd (omega arith)
in_list (x ∷ xs) more name h =
    step_place (bytes_eq name x) (position_or_len (bytes_eq name) xs) x (xs ++ more) name (bytes_eq-Decides name x).0
    (λ n. in_list xs more name (shorter (bytes_eq name x) (position_or_len (bytes_eq name) xs) (length xs) n h))
  where
    shorter : (b : Bool) (n m : ℕ) → b ≡ false → cond (not b) (1 + n) 0 < suc m → n < m
    shorter true n m e h = absurd (cc)
    shorter false n m e h = omega arith

pub name_found : (all names : List (List ℕ)) (name : List ℕ) (k : ℕ) → Begins names all → defined_number names name ≡ Some k → slice_index_or all k [] ≡ name
name_found all names name k begins e =
    let at = found_step (position_or_len (bytes_eq name) names) k (length names) e in
    let below : position_or_len (bytes_eq name) names < length names = let t = at.1 in grind (arith, nat_tests) in
    ap (λ l. slice_index_or l k []) begins.is ∙ ap (λ n. slice_index_or (names ++ begins.more) n []) (sym at.0) ∙ in_list names begins.more name below

-- the words as they are printed
abbrev pub normal_from : Form → ℕ → List (List ℕ) → List (List ℕ)
normal_from form place [] = []
normal_from form place (w ∷ ws) = normal (sort_at form place) w ∷ normal_from form (place + 1) ws

-- the words of what stands in a table
SpelledBy : {A : Type 0} → (A → List ℕ) → List (List ℕ × A) → Type 0
SpelledBy word [] = Unit {0}
SpelledBy word (row ∷ rows) = (word row.1 ≡ row.0) × SpelledBy word rows

cell_word : (k : ℕ) → k < 10 → codes "c" ++ decimal k ≡ 99 ∷ (48 + k) ∷ []
cell_word k h = ap (λ l. 99 ∷ l) (decimal_digit k h)

atoms_spelled : (texts : List (List ℕ)) → SpelledBy (value_word texts) atoms
unfolding SpelledBy atoms
atoms_spelled texts = (
  refl,
  (
    refl,
    (
      refl,
      (
        refl,
        (
          cell_word 0 (omega arith),
          (
            cell_word 1 (omega arith),
            (
              cell_word 2 (omega arith),
              (
                cell_word 3 (omega arith),
                (cell_word 4 (omega arith), (cell_word 5 (omega arith), (cell_word 6 (omega arith), (cell_word 7 (omega arith), tt)))),
              ),
            ),
          ),
        ),
      ),
    ),
  ),
)

flags_spelled : SpelledBy (word_with flags) flags
unfolding SpelledBy flags
flags_spelled = (refl, (refl, (refl, (refl, (refl, tt)))))

named_spelled : {A : Type 0} (word : A → List ℕ) (rows : List (List ℕ × A)) (w : List ℕ) (x : A) → SpelledBy word rows → named rows w ≡ Some x → word x ≡ w
unfolding SpelledBy
named_spelled word [] w x spelled e = absurd (cc)
named_spelled {A = A} word (row ∷ rows) w x spelled e = by (bytes_eq w row.0) refl e (named_spelled word rows w x spelled.1)
  where
    by : (b : Bool) → bytes_eq w row.0 ≡ b → cond b (Some row.1) (named rows w) ≡ Some x → (named rows w ≡ Some x → word x ≡ w) → word x ≡ w
    by true eb e later = let same : row.1 ≡ x = cc in ap word (sym same) ∙ spelled.0 ∙ sym ((bytes_eq-Decides w row.0).0 eb)
    by false eb e later = later e

flag_shown : (w : List ℕ) (found : Option ℕ) → named flags w ≡ found → is_some found ≡ true → word_with flags (unwrap_or found 0) ≡ w
flag_shown w None e fit = absurd (cc)
flag_shown w (Some bits) e fit = named_spelled (word_with flags) flags w bits flags_spelled e

quoted_again : (w : List ℕ) → is_quoted w ≡ true → 39 ∷ string_text w ≡ w
quoted_again [] e = absurd (grind (arith, nat_tests))
quoted_again (b ∷ bs) e = let first : b ≡ 39 = grind (arith, nat_tests) in ap (λ (c : ℕ). c ∷ bs) (sym first)

value_shown : (all texts : List (List ℕ)) (w : List ℕ) (found : Option Operand) → named atoms w ≡ found → Begins (with_text_if texts (value_text found w)) all
    → value_word all (operand_or found texts w) ≡ normal_value found w
value_shown all texts w (Some operand) e begins = named_spelled (value_word all) atoms w operand (atoms_spelled all) e
value_shown all texts w None e begins = by (is_quoted w) (begins_name (slice_index w 0)) refl begins
  where
    by : (q b : Bool) → is_quoted w ≡ q → Begins (with_text_if texts (cond q (Some (string_text w)) (cond b (Some w) None))) all
        → value_word all (cond q (operands.Str (text_number texts (string_text w))) (cond b (operands.Name (text_number texts w)) (operands.Int (number_of w))))
        ≡ cond q w (cond b w (signed_decimal (number_of w)))
    by true b eq begins = ap (λ (t : List ℕ). 39 ∷ t) (text_found all texts (string_text w) begins) ∙ quoted_again w eq
    by false true eq begins = text_found all texts w begins
    by false false eq begins = refl

-- so has a procedure or class of an earlier line
numbered_shown : (n : Naming) (key : List ℕ) (s : Sort) (all names : List (List ℕ)) (w : List ℕ) (found : Option ℕ)
    → ((k : ℕ) → count_word n s k ≡ slice_index_or all k []) → defined_number names w ≡ found → Begins names all
    → is_unknown (numbered found) ≡ false → part_word n key s (numbered found) ≡ w
numbered_shown n key s all names w None word e begins known = absurd (cc)
numbered_shown n key s all names w (Some k) word e begins known = word k ∙ name_found all names w k begins e

-- a word is its prefix and what follows it
pub prefixed : (prefix w rest : List ℕ) → after_prefix prefix w ≡ Some rest → w ≡ prefix ++ rest
prefixed prefix w rest e = by (bytes_eq (take (length prefix) w) prefix) refl e
  where
    by : (b : Bool) → bytes_eq (take (length prefix) w) prefix ≡ b → cond b (Some (drop (length prefix) w)) None ≡ Some rest → w ≡ prefix ++ rest
    by true eb e =
        let behind : drop (length prefix) w ≡ rest = cc in
        sym (take-append-drop (length prefix) w) ∙ ap (λ (l : List ℕ). l ++ drop (length prefix) w) ((bytes_eq-Decides (take (length prefix) w) prefix).0 eb) ∙ ap (λ (l : List ℕ). prefix ++ l) behind
    by false eb e = absurd (cc)

-- `del=P` and `legacy=P`
module _ (n : Naming) (key : List ℕ) (s : Sort) (procs : List (List ℕ)) (begins : Begins procs (map (text_of n.texts) n.procs)) (w : List ℕ) where
  named_again : (prefix name : List ℕ) (k : ℕ) → after_prefix prefix w ≡ Some name → defined_number procs name ≡ Some k → prefix ++ name_of n.texts n.procs k ≡ w
  named_again prefix name k is e = ap (λ (l : List ℕ). prefix ++ l) (name_found (map (text_of n.texts) n.procs) procs name k begins e) ∙ sym (prefixed prefix w name is)

  del_shown : (name : List ℕ) (found : Option ℕ) → after_prefix (codes "del=") w ≡ Some name → defined_number procs name ≡ found → is_unknown (finalizer found)
      ≡ false → part_word n key s (finalizer found) ≡ w
  del_shown name None is e known = absurd (cc)
  del_shown name (Some k) is e known = named_again (codes "del=") name k is e

  legacy_shown : (name : List ℕ) (found : Option ℕ) → after_prefix (codes "legacy=") w ≡ Some name → defined_number procs name ≡ found
      → is_unknown (legacy found) ≡ false → part_word n key s (legacy found) ≡ w
  legacy_shown name None is e known = absurd (cc)
  legacy_shown name (Some k) is e known = named_again (codes "legacy=") name k is e

  legacy_of_shown : (found : Option (List ℕ)) → after_prefix (codes "legacy=") w ≡ found → is_identifier_after found ≡ true → is_unknown (legacy_of procs found)
      ≡ false → part_word n key s (legacy_of procs found) ≡ w
  legacy_of_shown None is fit known = absurd (cc)
  legacy_of_shown (Some name) is fit known = legacy_shown name (defined_number procs name) is refl known

  finalizer_shown : (found : Option (List ℕ)) → after_prefix (codes "del=") w ≡ found → (is_identifier_after found || names_legacy w) ≡ true
      → is_unknown (finalizer_of procs found w) ≡ false → part_word n key s (finalizer_of procs found w) ≡ w
  finalizer_shown None is fit known = legacy_of_shown (after_prefix (codes "legacy=") w) refl fit known
  finalizer_shown (Some name) is fit known = del_shown name (defined_number procs name) is refl known

-- the names of a script, next to those already known
pub record Names (n : Naming) (procs classes : List (List ℕ)) : Type 0 where
  pub procs_begin : Begins procs (map (text_of n.texts) n.procs)
  pub classes_begin : Begins classes (map (text_of n.texts) n.classes)

-- the places of the words of a form, and that these stand there
abbrev pub is_key : Sort → Bool
is_key Key = true
is_key s = false

abbrev pub KeysStand : Form → ℕ → List (List ℕ) → Type 0
KeysStand form place [] = Unit {0}
KeysStand form place (w ∷ ws) = (is_key (sort_at form place) ≡ true → key_word form place ≡ w) × KeysStand form (place + 1) ws

shown_word : (n : Naming) (procs classes texts : List (List ℕ)) (key : List ℕ) (s : Sort) (w : List ℕ) → Names n procs classes
    → Begins (with_text_if texts (text_in s w)) n.texts → is_unknown (part_of procs classes texts s w) ≡ false
    → fits s w ≡ true → (is_key s ≡ true → key ≡ w) → part_word n key s (part_of procs classes texts s w) ≡ normal s w
shown_word n procs classes texts key Key w names begins known fit stands = stands refl
shown_word n procs classes texts key Variable w names begins known fit stands = text_found n.texts texts w begins
shown_word n procs classes texts key Name w names begins known fit stands = text_found n.texts texts w begins
shown_word n procs classes texts key Class w names begins known fit stands = numbered_shown n key Class (map (text_of n.texts) n.classes) classes w
    (defined_number classes w) (λ k. refl) refl names.classes_begin known
shown_word n procs classes texts key Proc w names begins known fit stands = numbered_shown n key Proc (map (text_of n.texts) n.procs) procs w
    (defined_number procs w) (λ k. refl) refl names.procs_begin known
shown_word n procs classes texts key Finalizer w names begins known fit stands = finalizer_shown n key Finalizer procs names.procs_begin w (after_prefix (codes "del=") w) refl fit known
shown_word n procs classes texts key Value w names begins known fit stands = value_shown n.texts texts w (named atoms w) refl begins
shown_word n procs classes texts key Flag w names begins known fit stands = flag_shown w (named flags w) refl fit
shown_word n procs classes texts key s w names begins known fit stands = refl

pub neither : (a b : Bool) → (a || b) ≡ false → (a ≡ false) × (b ≡ false)
neither true b e = absurd (cc)
neither false b e = (refl, e)

two : (x y : List ℕ) (xs ys : List (List ℕ)) → x ≡ y → xs ≡ ys → x ∷ xs ≡ y ∷ ys
two x y xs ys e f = ap (λ (z : List ℕ). z ∷ xs) e ∙ ap (λ l. y ∷ l) f

pub shown_normal : (n : Naming) (procs classes : List (List ℕ)) (form : Form) (words texts : List (List ℕ)) (place : ℕ) → Names n procs classes → Begins (texts_from texts form place words) n.texts
    → has_unknown (parts_from procs classes texts form place words) ≡ false → all_fit form place words ≡ true → KeysStand form place words
    → words_from n form place (parts_from procs classes texts form place words) ≡ normal_from form place words
shown_normal n procs classes form [] texts place names begins known fit stand = refl
shown_normal n procs classes form (w ∷ ws) texts place names begins known fit stand =
    let s = sort_at form place in
    let more = with_text_if texts (text_in s w) in
    let none = neither (is_unknown (part_of procs classes texts s w)) (has_unknown (parts_from procs classes more form (place + 1) ws)) known in
    let each = both (fits s w) (all_fit form (place + 1) ws) fit in
    two _ _ _ _
    (shown_word n procs classes texts (key_word form place) s w names (begins_along more (texts_from more form (place + 1) ws) n.texts
    (begins_texts form ws more (place + 1)) begins) none.0 each.0 stand.0)
    (shown_normal n procs classes form ws more (place + 1) names begins none.1 each.1 stand.1)
