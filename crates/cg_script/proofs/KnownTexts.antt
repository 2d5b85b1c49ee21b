-- Each text that a script names is its own.
use Rattle.std.proofs.Common.{◌≡◌, ℕ, zero, suc, ◌+◌, ◌<◌, ◌≤◌, List, [], ◌∷◌, length, Bool, true, false, if◌then◌else◌, Option, None, Some, refl, sym, ap, subst, ◌∙◌, arith, codes}
use Rattle.std.specs.Prelude.{slice_index}
use Rattle.std.specs.Str.{bytes_eq}
use Rattle.cg_value.specs.Texts.{text_number}
use Rattle.cg_script.specs.declared.command.Operand.{Operand}
use Rattle.cg_script.specs.declared.command.Operand.TheVariants as operands
use Rattle.cg_script.specs.declared.form.Form.{Form}
use Rattle.cg_script.specs.declared.form.Sort.{Sort}
use Rattle.cg_script.specs.declared.form.Sort.TheVariants.{Variable, Name, Class, Proc, Finalizer, Value}
use Rattle.cg_script.specs.declared.part.Part.{Part}
use Rattle.cg_script.specs.declared.part.Part.TheVariants as parts
use Rattle.cg_script.specs.declared.part.Said.{Said}
use Rattle.cg_script.specs.declared.part.Said.TheVariants.{Declares, Begins, Ends, Does}
use Rattle.cg_script.specs.declared.item.Item.TheVariants as items
use Rattle.cg_script.specs.Texts.{operand_texts, command_texts, item_texts}
use Rattle.cg_script.specs.Tables.{named}
use Rattle.cg_script.specs.Words.{begins_name, is_quoted, string_text, number_of, after_prefix, atoms}
use Rattle.cg_script.specs.Forms.{row, sort_at}
use Rattle.cg_script.specs.Parts.{with_text_if, text_in, value_text, operand_or, numbered, defined_number, finalizer, legacy, legacy_of, finalizer_of, part_of, parts_from, texts_from}
use Rattle.cg_script.specs.Commands.{text_or, text_at, said}
use Rattle.cg_script.proofs.TextNumbers.{Below, below_more, place_below, grows_if}
use Rattle.cg_script.proofs.NumbersOfWords.{is_text, PartHolds, EachPart, said_by, said_holds}

-- a part names texts below a number
abbrev pub PartBelow : ℕ → Part → Type 0
PartBelow n p = PartHolds operand_texts (λ k. k < n) p

abbrev pub EachBelow : ℕ → List Part → Type 0
EachBelow n ps = EachPart operand_texts (λ k. k < n) ps

part_more : (n m : ℕ) (p : Part) → n ≤ m → PartBelow n p → PartBelow m p
part_more n m (parts.Text k) h b = omega arith
part_more n m (parts.Value operand) h b = below_more n m (operand_texts operand) h b
part_more n m p h b = tt

NoTexts : List (List ℕ × Operand) → Type 0
NoTexts [] = Unit {0}
NoTexts (row ∷ rows) = (operand_texts row.1 ≡ []) × NoTexts rows

first_without : (b : Bool) (first operand : Operand) (later : Option Operand) → operand_texts first ≡ [] → (later ≡ Some operand → operand_texts operand ≡ [])
    → (if b then Some first else later) ≡ Some operand → operand_texts operand ≡ []
first_without true first operand later none rest e = let s : first ≡ operand = cc in ap operand_texts (sym s) ∙ none
first_without false first operand later none rest e = rest e

named_without : (rows : List (List ℕ × Operand)) (word : List ℕ) (operand : Operand) → NoTexts rows → named rows word ≡ Some operand → operand_texts operand ≡ []
unfolding NoTexts
named_without [] word operand none e = absurd (cc)
named_without (row ∷ rows) word operand none e = first_without (bytes_eq word row.0) row.1 operand (named rows word) none.0 (named_without rows word operand none.1) e

atoms_without : NoTexts atoms
unfolding NoTexts atoms
atoms_without = (refl, (refl, (refl, (refl, (refl, (refl, (refl, (refl, (refl, (refl, (refl, (refl, tt))))))))))))

value_below : (texts : List (List ℕ)) (word : List ℕ) (found : Option Operand) → named atoms word ≡ found
    → Below (length (with_text_if texts (value_text found word))) (operand_texts (operand_or found texts word))
value_below texts word (Some operand) e = rw (named_without atoms word operand atoms_without e) tt
value_below texts word None e = by (is_quoted word) (begins_name (slice_index word 0))
  where
    by : (q b : Bool) → Below (length (with_text_if texts (if q then Some (string_text word) else if b then Some word else None)))
        (operand_texts (if q then operands.Str (text_number texts (string_text word)) else if b then operands.Name (text_number texts word) else operands.Int (number_of word)))
    by true b = (place_below texts (string_text word), tt)
    by false true = (place_below texts word, tt)
    by false false = tt

numbered_below : (n : ℕ) (found : Option ℕ) → PartBelow n (numbered found)
numbered_below n None = tt
numbered_below n (Some k) = tt

legacy_below : (n : ℕ) (found : Option ℕ) → PartBelow n (legacy found)
legacy_below n None = tt
legacy_below n (Some k) = tt

legacy_of_below : (n : ℕ) (procs : List (List ℕ)) (name : Option (List ℕ)) → PartBelow n (legacy_of procs name)
legacy_of_below n procs None = tt
legacy_of_below n procs (Some name) = legacy_below n (defined_number procs name)

finalizer_below : (n : ℕ) (found : Option ℕ) → PartBelow n (finalizer found)
finalizer_below n None = tt
finalizer_below n (Some k) = tt

finalizer_of_below : (n : ℕ) (procs : List (List ℕ)) (name : Option (List ℕ)) (word : List ℕ) → PartBelow n (finalizer_of procs name word)
finalizer_of_below n procs None word = legacy_of_below n procs (after_prefix (codes "legacy=") word)
finalizer_of_below n procs (Some name) word = finalizer_below n (defined_number procs name)

part_below : (procs classes texts : List (List ℕ)) (sort : Sort) (word : List ℕ) → PartBelow (length (with_text_if texts (text_in sort word))) (part_of procs classes texts sort word)
part_below procs classes texts Variable word = place_below texts word
part_below procs classes texts Name word = place_below texts word
part_below procs classes texts Class word = numbered_below _ (defined_number classes word)
part_below procs classes texts Proc word = numbered_below _ (defined_number procs word)
part_below procs classes texts Finalizer word = finalizer_of_below _ procs (after_prefix (codes "del=") word) word
part_below procs classes texts Value word = value_below texts word (named atoms word) refl
part_below procs classes texts sort word = tt

pub texts_grow : (form : Form) (words texts : List (List ℕ)) (place : ℕ) → length texts ≤ length (texts_from texts form place words)
texts_grow form [] texts place = omega arith
texts_grow form (word ∷ words) texts place =
    let more = with_text_if texts (text_in (sort_at form place) word) in
    omega (arith, grows_if texts (text_in (sort_at form place) word), texts_grow form words more (place + 1))

pub parts_below : (procs classes : List (List ℕ)) (form : Form) (words texts : List (List ℕ)) (place : ℕ)
    → EachBelow (length (texts_from texts form place words)) (parts_from procs classes texts form place words)
parts_below procs classes form [] texts place = tt
parts_below procs classes form (word ∷ words) texts place =
    let more = with_text_if texts (text_in (sort_at form place) word) in (
      part_more _ _ (part_of procs classes texts (sort_at form place) word) (texts_grow form words more (place + 1)) (part_below procs classes texts (sort_at form place) word),
      parts_below procs classes form words more (place + 1),
    )

pub each_more : (n m : ℕ) (ps : List Part) → n ≤ m → EachBelow n ps → EachBelow m ps
each_more n m [] h e = tt
each_more n m (p ∷ ps) h e = (part_more n m p h e.0, each_more n m ps h e.1)

text_part : (procs classes texts : List (List ℕ)) (sort : Sort) (word : List ℕ) → is_text sort ≡ true → text_or (Some (part_of procs classes texts sort word)) <
    length (with_text_if texts (text_in sort word))
text_part procs classes texts Variable word e = place_below texts word
text_part procs classes texts Name word e = place_below texts word
text_part procs classes texts sort word e = absurd (cc)

pub text_below : (procs classes : List (List ℕ)) (form : Form) (words texts : List (List ℕ)) (place i : ℕ) → i < length words → is_text (sort_at form (place + i)) ≡ true
    → text_at (parts_from procs classes texts form place words) i < length (texts_from texts form place words)
text_below procs classes form [] texts place i h e = absurd (omega arith)
text_below procs classes form (word ∷ words) texts place zero h e =
    let more = with_text_if texts (text_in (sort_at form place) word) in
    let z : place + 0 ≡ place = omega arith in
    let s : is_text (sort_at form place) ≡ true = ap (λ k. is_text (sort_at form k)) (sym z) ∙ e in
    let here = text_part procs classes texts (sort_at form place) word s in
    let there = texts_grow form words more (place + 1) in
    omega arith
text_below procs classes form (word ∷ words) texts place (suc i) h e =
    let more = with_text_if texts (text_in (sort_at form place) word) in
    let z : place + suc i ≡ (place + 1) + i = omega arith in
    text_below procs classes form words more (place + 1) i (omega arith) (ap (λ k. is_text (sort_at form k)) (sym z) ∙ e)

-- the texts of what a line says
abbrev pub said_texts : Said → List ℕ
said_texts (Declares item) = item_texts item
said_texts (Begins name) = name ∷ []
said_texts Ends = []
said_texts (Does command) = command_texts command

-- so do the words of the line
same_texts : (s : Said) → said_by operand_texts s ≡ said_texts s
same_texts (Declares (items.Class c)) = refl
same_texts (Declares item) = refl
same_texts s = refl

-- what a line of a form says names texts below a number
pub said_below : (n : ℕ) (ps : List Part) → EachBelow n ps → (form : Form) → ((i : ℕ) → i < (row form).fewest → is_text (sort_at form i) ≡ true
    → text_at ps i < n) → Below n (said_texts (said form ps))
said_below n ps each form t =
    subst (Below n) (same_texts (said form ps)) (said_holds operand_texts (λ k. k < n) (record { nothing = tt; name = λ k h. (h, tt); string = λ k h. (h, tt) }) ps each form t)

-- as many parts as words
pub length-parts_from : (procs classes : List (List ℕ)) (form : Form) (words texts : List (List ℕ)) (place : ℕ) → length (parts_from procs classes texts form place words) ≡ length words
length-parts_from procs classes form [] texts place = refl
length-parts_from procs classes form (word ∷ words) texts place =
    let rest = length-parts_from procs classes form words (with_text_if texts (text_in (sort_at form place) word)) (place + 1) in omega arith
