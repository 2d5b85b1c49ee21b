-- What a line says uses only names that its words write. A word that is a string writes none.
use Rattle.std.proofs.Common.{◌≡◌, ℕ, zero, suc, ◌+◌, ◌<◌, ◌≤◌, List, [], ◌∷◌, length, Bool, true, false, cond, Option, None, Some, refl, sym, ap, subst, ◌∙◌, arith, codes}
use Rattle.std.specs.Prelude.{slice_index}
use Rattle.std.specs.Str.{bytes_eq}
use Rattle.cg_value.specs.Texts.{text_number}
use Rattle.cg_graph.specs.Member.{Includes}
use Rattle.cg_graph.proofs.Members.{either}
use Rattle.cg_script.specs.declared.command.Operand.{Operand}
use Rattle.cg_script.specs.declared.command.Operand.TheVariants as operands
use Rattle.cg_script.specs.declared.form.Form.{Form}
use Rattle.cg_script.specs.declared.form.Sort.{Sort}
use Rattle.cg_script.specs.declared.form.Sort.TheVariants.{Variable, Name, Class, Proc, Finalizer, Value}
use Rattle.cg_script.specs.declared.part.Part.{Part}
use Rattle.cg_script.specs.declared.part.Said.{Said}
use Rattle.cg_script.specs.declared.part.Said.TheVariants.{Does}
use Rattle.cg_script.specs.Texts.{command_names, operand_names}
use Rattle.cg_script.specs.Tables.{named}
use Rattle.cg_script.specs.Words.{begins_name, is_quoted, string_text, number_of, after_prefix, atoms}
use Rattle.cg_script.specs.Forms.{row, sort_at}
use Rattle.cg_script.specs.Parts.{with_text_if, text_in, value_text, operand_or, numbered, defined_number, finalizer, legacy, legacy_of, finalizer_of, part_of, parts_from, texts_from}
use Rattle.cg_script.specs.Commands.{text_or, text_at, said}
use Rattle.cg_script.specs.Canonical.{text_of}
use Rattle.cg_script.proofs.NumbersOfWords.{AllHold, is_text, PartHolds, EachPart, said_by, said_holds}
use Rattle.cg_script.proofs.PrintedParts.{Begins, begins_along, begins_texts, text_found}

-- a word is free of some names: it is none of them, and no `del=` or `legacy=` with one
pub record IsClear (Free : List ℕ → Type 0) (word : List ℕ) : Type 0 where
  pub itself : Free word
  pub finalizer : (name : List ℕ) → after_prefix (codes "del=") word ≡ Some name → Free name
  pub legacy : (name : List ℕ) → after_prefix (codes "legacy=") word ≡ Some name → Free name

abbrev pub AreClear : (List ℕ → Type 0) → List (List ℕ) → Type 0
AreClear Free [] = Unit {0}
AreClear Free (word ∷ words) = IsClear Free word × AreClear Free words

-- the names used in what a line says
abbrev pub said_names : Said → List ℕ
said_names (Does command) = command_names command
said_names other = []

-- keywords for values are no names
NoNames : List (List ℕ × Operand) → Type 0
NoNames [] = Unit {0}
NoNames (row ∷ rows) = (operand_names row.1 ≡ []) × NoNames rows

named_without : (rows : List (List ℕ × Operand)) (word : List ℕ) (operand : Operand) → NoNames rows → named rows word ≡ Some operand → operand_names operand ≡ []
unfolding NoNames
named_without [] word operand none e = absurd (cc)
named_without (row ∷ rows) word operand none e = go (bytes_eq word row.0) e (named_without rows word operand none.1)
  where
    go : (b : Bool) → cond b (Some row.1) (named rows word) ≡ Some operand → (named rows word ≡ Some operand → operand_names operand ≡ []) → operand_names operand ≡ []
    go true k ih = let s : row.1 ≡ operand = cc in ap operand_names (sym s) ∙ none.0
    go false k ih = ih k

atoms_without : NoNames atoms
unfolding NoNames atoms
atoms_without = (refl, (refl, (refl, (refl, (refl, (refl, (refl, (refl, (refl, (refl, (refl, (refl, tt))))))))))))

module _ (all : List (List ℕ)) (Free : List ℕ → Type 0) where
  -- the names with these numbers are free
  abbrev pub AreFree : List ℕ → Type 0
  AreFree numbers = (n : ℕ) → Includes numbers n → Free (text_of all n)

  none_free : AreFree []
  none_free n m = absurd m

  abbrev PartFree : Part → Type 0
  PartFree p = PartHolds operand_names (λ n. Free (text_of all n)) p

  abbrev EachFree : List Part → Type 0
  EachFree ps = EachPart operand_names (λ n. Free (text_of all n)) ps

  free_each : (numbers : List ℕ) → AllHold (λ n. Free (text_of all n)) numbers → AreFree numbers
  free_each [] each n m = absurd m
  free_each (k ∷ ks) each n m = either m (λ e. subst (λ j. Free (text_of all j)) e each.0) (free_each ks each.1 n)

  placed_free : (texts : List (List ℕ)) (text : List ℕ) → Free text → Begins (with_text_if texts (Some text)) all → Free (text_of all (text_number texts text))
  placed_free texts text free begins = subst Free (sym (text_found all texts text begins)) free

  value_holds : (texts : List (List ℕ)) (word : List ℕ) (found : Option Operand) → named atoms word ≡ found → IsClear Free word → Begins (with_text_if texts (value_text found word)) all
      → AllHold (λ n. Free (text_of all n)) (operand_names (operand_or found texts word))
  value_holds texts word (Some operand) e clear begins = rw (named_without atoms word operand atoms_without e) tt
  value_holds texts word None e clear begins = by (is_quoted word) (begins_name (slice_index word 0)) begins
    where
      by : (q b : Bool) → Begins (with_text_if texts (cond q (Some (string_text word)) (cond b (Some word) None))) all
          → AllHold (λ n. Free (text_of all n)) (operand_names (cond q (operands.Str (text_number texts (string_text word)))
          (cond b (operands.Name (text_number texts word)) (operands.Int (number_of word)))))
      by false true h = (placed_free texts word clear.itself h, tt)
      by bit b h = tt

  pub value_free : (texts : List (List ℕ)) (word : List ℕ) (found : Option Operand) → named atoms word ≡ found → IsClear Free word
      → Begins (with_text_if texts (value_text found word)) all → AreFree (operand_names (operand_or found texts word))
  value_free texts word found e clear begins = free_each (operand_names (operand_or found texts word)) (value_holds texts word found e clear begins)

  numbered_free : (found : Option ℕ) → PartFree (numbered found)
  numbered_free None = tt
  numbered_free (Some k) = tt

  legacy_free : (found : Option ℕ) → PartFree (legacy found)
  legacy_free None = tt
  legacy_free (Some k) = tt

  legacy_of_free : (procs : List (List ℕ)) (name : Option (List ℕ)) → PartFree (legacy_of procs name)
  legacy_of_free procs None = tt
  legacy_of_free procs (Some name) = legacy_free (defined_number procs name)

  finalizer_free : (found : Option ℕ) → PartFree (finalizer found)
  finalizer_free None = tt
  finalizer_free (Some k) = tt

  finalizer_of_free : (procs : List (List ℕ)) (name : Option (List ℕ)) (word : List ℕ) → PartFree (finalizer_of procs name word)
  finalizer_of_free procs None word = legacy_of_free procs (after_prefix (codes "legacy=") word)
  finalizer_of_free procs (Some name) word = finalizer_free (defined_number procs name)

  part_free : (procs classes texts : List (List ℕ)) (sort : Sort) (word : List ℕ) → IsClear Free word → Begins (with_text_if texts (text_in sort word)) all
      → PartFree (part_of procs classes texts sort word)
  part_free procs classes texts Variable word clear begins = placed_free texts word clear.itself begins
  part_free procs classes texts Name word clear begins = placed_free texts word clear.itself begins
  part_free procs classes texts Class word clear begins = numbered_free (defined_number classes word)
  part_free procs classes texts Proc word clear begins = numbered_free (defined_number procs word)
  part_free procs classes texts Finalizer word clear begins = finalizer_of_free procs (after_prefix (codes "del=") word) word
  part_free procs classes texts Value word clear begins = value_holds texts word (named atoms word) refl clear begins
  part_free procs classes texts other word clear begins = tt

  parts_free : (procs classes : List (List ℕ)) (form : Form) (words texts : List (List ℕ)) (place : ℕ) → AreClear Free words
      → Begins (texts_from texts form place words) all → EachFree (parts_from procs classes texts form place words)
  parts_free procs classes form [] texts place clear begins = tt
  parts_free procs classes form (word ∷ words) texts place clear begins =
      let more = with_text_if texts (text_in (sort_at form place) word) in (
        part_free procs classes texts (sort_at form place) word clear.0 (begins_along more (texts_from more form (place + 1) words) all (begins_texts form words more (place + 1)) begins),
        parts_free procs classes form words more (place + 1) clear.1 begins,
      )

  text_part : (procs classes texts : List (List ℕ)) (sort : Sort) (word : List ℕ) → is_text sort ≡ true → IsClear Free word
      → Begins (with_text_if texts (text_in sort word)) all → Free (text_of all (text_or (Some (part_of procs classes texts sort word))))
  text_part procs classes texts Variable word e clear begins = placed_free texts word clear.itself begins
  text_part procs classes texts Name word e clear begins = placed_free texts word clear.itself begins
  text_part procs classes texts sort word e clear begins = absurd (cc)

  text_at_free : (procs classes : List (List ℕ)) (form : Form) (words texts : List (List ℕ)) (place i : ℕ) → i < length words
      → is_text (sort_at form (place + i)) ≡ true → AreClear Free words → Begins (texts_from texts form place words) all
      → Free (text_of all (text_at (parts_from procs classes texts form place words) i))
  text_at_free procs classes form [] texts place i h e clear begins = absurd (omega arith)
  text_at_free procs classes form (word ∷ words) texts place zero h e clear begins =
      let more = with_text_if texts (text_in (sort_at form place) word) in
      let z : place + 0 ≡ place = omega arith in
      text_part procs classes texts (sort_at form place) word (ap (λ k. is_text (sort_at form k)) (sym z) ∙ e) clear.0
      (begins_along more (texts_from more form (place + 1) words) all (begins_texts form words more (place + 1)) begins)
  text_at_free procs classes form (word ∷ words) texts place (suc i) h e clear begins =
      let z : place + suc i ≡ (place + 1) + i = omega arith in
      text_at_free procs classes form words (with_text_if texts (text_in (sort_at form place) word)) (place + 1) i (omega arith) (ap (λ k. is_text (sort_at form k)) (sym z) ∙ e) clear.1 begins

  -- a line of free words uses only free names
  said_free : (s : Said) → AllHold (λ n. Free (text_of all n)) (said_by operand_names s) → AreFree (said_names s)
  said_free (Does command) each = free_each (command_names command) each
  said_free shape each = none_free

  pub names_free : (procs classes : List (List ℕ)) (form : Form) (words texts : List (List ℕ)) → AreClear Free words → (row form).fewest ≤ length words → Begins (texts_from texts form 0 words) all
      → AreFree (said_names (said form (parts_from procs classes texts form 0 words)))
  names_free procs classes form words texts clear enough begins =
      said_free (said form (parts_from procs classes texts form 0 words))
      (said_holds operand_names (λ n. Free (text_of all n)) (record { nothing = tt; name = λ k h. (h, tt); string = λ k h. tt }) (parts_from procs classes texts form 0 words)
      (parts_free procs classes form words texts 0 clear begins) form
      (λ i h t. let w : 0 + i ≡ i = omega arith in text_at_free procs classes form words texts 0 i (omega (arith, h, enough)) (ap (λ j. is_text (sort_at form j)) w ∙ t) clear begins))
