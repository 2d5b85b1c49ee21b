-- Lines read in sequence, by a table of their forms and words: what they say, with all texts of the script.
use Rattle.std.proofs.Common.{◌≡◌, ℕ, ◌+◌, List, [], ◌∷◌, ◌++◌, map, Bool, true, false, cond, not, ◌||◌, Option, None, Some, refl, sym, ap, subst, ◌∙◌}
use Rattle.std.specs.Prelude.{slice_index}
use Rattle.std.specs.Str.{bytes_eq}
use Rattle.std.proofs.lemmas.List.Folds.{list_any-append}
use Rattle.cg_value.specs.Texts.{has_text, text_number, with_text}
use Rattle.cg_script.specs.declared.item.Item.{Item}
use Rattle.cg_script.specs.declared.command.Command.{Command}
use Rattle.cg_script.specs.declared.command.Operand.{Operand}
use Rattle.cg_script.specs.declared.command.Operand.TheVariants as operands
use Rattle.cg_script.specs.declared.form.Form.{Form}
use Rattle.cg_script.specs.declared.form.Sort.{Sort}
use Rattle.cg_script.specs.declared.form.Sort.TheVariants.{Variable, Name, Value}
use Rattle.cg_script.specs.declared.part.Part.{Part}
use Rattle.cg_script.specs.declared.part.Part.TheVariants as parts
use Rattle.cg_script.specs.declared.part.Said.{Said}
use Rattle.cg_script.specs.Pieces.{lines_of, words_of}
use Rattle.cg_script.specs.Words.{atoms, begins_name, is_quoted, number_of, string_text}
use Rattle.cg_script.specs.Tables.{named}
use Rattle.cg_script.specs.Forms.{sort_at}
use Rattle.cg_script.specs.Meanings.{formed, is_passed, worded}
use Rattle.cg_script.specs.Parts.{Known, operand_or, part_of, parts_from, text_in, texts_from, value_text, with_text_if}
use Rattle.cg_script.specs.Commands.{said}
use Rattle.cg_script.specs.Reading.{classes_after, fault_in, good, items_of, known_after, lines_from, nothing_known, procs_after, reading, spells}
use Rattle.cg_script.specs.Canonical.{joined}
use Rattle.cg_script.proofs.JoinedWords.{words_of-joined}
use Rattle.cg_script.proofs.PrintedParts.{Begins, begins_along, begins_self, begins_texts}
use Rattle.cg_weakcoll.specs.MapLines.{StandTogether}
use Rattle.cg_weakcoll.proofs.SoundWords.{EachLine, IsSound, each_sound}
use Rattle.cg_weakcoll.proofs.ReadLines.{AllFit, AreNested, does_all, nested, one_line, stand_together}
use Rattle.cg_weakcoll.proofs.LinesWithoutNames.{behind}
use Rattle.cg_weakcoll.proofs.LookLines.{added, all_begin, read_as}

-- a known text keeps its place among all texts
place_first : (xs more : List (List ℕ)) (text : List ℕ) → has_text xs text ≡ true → text_number (xs ++ more) text ≡ text_number xs text
place_first [] more text e = absurd (let no : false ≡ true = e in cc)
place_first (x ∷ xs) more text e = go (bytes_eq text x) e (place_first xs more text)
  where
    go : (b : Bool) → (b || has_text xs text) ≡ true → (has_text xs text ≡ true → text_number (xs ++ more) text ≡ text_number xs text)
        → cond (not b) (1 + text_number (xs ++ more) text) 0 ≡ cond (not b) (1 + text_number xs text) 0
    go true k ih = refl
    go false k ih = ap (λ n. 1 + n) (ih k)

placed : (all texts : List (List ℕ)) (text : List ℕ) → Begins (with_text texts text) all → text_number texts text ≡ text_number all text
placed all texts text begins =
    let at = added texts text in
    sym (ap (λ l. text_number l text) begins.is ∙ place_first (with_text texts text) begins.more text at.there ∙ at.place)

has_all : (all texts : List (List ℕ)) (text : Option (List ℕ)) → Begins (with_text_if texts text) all → Begins (with_text_if all text) all
has_all all texts None begins = begins_self all
has_all all texts (Some text) begins =
    let there : has_text all text ≡ true =
    ap (λ l. has_text l text) begins.is ∙ list_any-append (bytes_eq text) (with_text texts text) begins.more ∙ ap (λ b. b || has_text begins.more text) (added texts text).there in
    subst (λ b. Begins (cond b all (all ++ text ∷ [])) all) (sym there) (begins_self all)

module _ (procs classes all : List (List ℕ)) where
  -- what a word stands for, with all texts
  abbrev value_by : List (List ℕ) → List ℕ → Bool → Bool → Operand
  value_by texts word quoted name = cond quoted (operands.Str (text_number texts (string_text word))) (cond name (operands.Name (text_number texts word)) (operands.Int (number_of word)))

  value_in : (texts : List (List ℕ)) (word : List ℕ) (found : Option Operand) → Begins (with_text_if texts (value_text found word)) all → operand_or found texts word ≡ operand_or found all word
  value_in texts word (Some operand) begins = refl
  value_in texts word None begins = by (is_quoted word) (begins_name (slice_index word 0)) begins
    where
      by : (q b : Bool) → Begins (with_text_if texts (cond q (Some (string_text word)) (cond b (Some word) None))) all → value_by texts word q b ≡ value_by all word q b
      by true b h = ap operands.Str (placed all texts (string_text word) h)
      by false true h = ap operands.Name (placed all texts word h)
      by false false h = refl

  part_in : (texts : List (List ℕ)) (sort : Sort) (word : List ℕ) → Begins (with_text_if texts (text_in sort word)) all → part_of procs classes texts sort word ≡ part_of procs classes all sort word
  part_in texts Variable word begins = ap parts.Text (placed all texts word begins)
  part_in texts Name word begins = ap parts.Text (placed all texts word begins)
  part_in texts Value word begins = ap parts.Value (value_in texts word (named atoms word) begins)
  part_in texts sort word begins = refl

  abbrev pub parts_in : Form → ℕ → List (List ℕ) → List Part
  parts_in form place [] = []
  parts_in form place (word ∷ words) = part_of procs classes all (sort_at form place) word ∷ parts_in form (place + 1) words

  parts_are : (form : Form) (words texts : List (List ℕ)) (place : ℕ) → Begins (texts_from texts form place words) all → parts_from procs classes texts form place words ≡ parts_in form place words
  parts_are form [] texts place begins = refl
  parts_are form (word ∷ words) texts place begins =
      let more = with_text_if texts (text_in (sort_at form place) word) in
      ap (λ (p : Part). p ∷ parts_from procs classes more form (place + 1) words) (part_in texts (sort_at form place) word
      (begins_along more (texts_from more form (place + 1) words) all (begins_texts form words more (place + 1)) begins))
      ∙ ap (λ ps. part_of procs classes all (sort_at form place) word ∷ ps) (parts_are form words more (place + 1) begins)

-- the texts of words are known
abbrev pub AreThere : List (List ℕ) → Form → ℕ → List (List ℕ) → Type 0
AreThere all form place [] = Unit {0}
AreThere all form place (word ∷ words) = Begins (with_text_if all (text_in (sort_at form place) word)) all × AreThere all form (place + 1) words

are_there : (all : List (List ℕ)) (form : Form) (words texts : List (List ℕ)) (place : ℕ) → Begins (texts_from texts form place words) all → AreThere all form place words
are_there all form [] texts place begins = tt
are_there all form (word ∷ words) texts place begins =
    let text = text_in (sort_at form place) word in
    let more = with_text_if texts text in
    (has_all all texts text (begins_along more (texts_from more form (place + 1) words) all (begins_texts form words more (place + 1)) begins), are_there all form words more (place + 1) begins)

-- a line with its form and its words
pub record Row : Type 0 where
  pub line : List ℕ
  pub form : Form
  pub words : List (List ℕ)

abbrev pub IsMeant : Form → List (List ℕ) → Type 0
IsMeant form words = (is_passed words ≡ false) × (worded words ≡ formed form words)

abbrev pub AreRead : List Row → Type 0
AreRead [] = Unit {0}
AreRead (r ∷ rows) = ((words_of r.line ≡ r.words) × IsMeant r.form r.words) × AreRead rows

-- what they say, what is known after them, and that nothing is wrong
abbrev pub says_rows : List (List ℕ) → List (List ℕ) → List (List ℕ) → List Row → List Said
says_rows all procs classes [] = []
says_rows all procs classes (r ∷ rows) = said r.form (parts_in procs classes all r.form 0 r.words) ∷ says_rows all (procs_after procs r.form r.words) (classes_after classes r.form r.words) rows

abbrev pub known_behind : Known → List Row → Known
known_behind known [] = known
known_behind known (r ∷ rows) = known_behind (known_after known r.form r.words) rows

abbrev pub AreClean : Known → List Row → Type 0
AreClean known [] = Unit {0}
AreClean known (r ∷ rows) = (fault_in known r.form r.words ≡ None) × AreClean (known_after known r.form r.words) rows

abbrev pub AreFit : List Row → Type 0
AreFit [] = Unit {0}
AreFit (r ∷ rows) = AllFit r.form 0 r.words × AreFit rows

abbrev pub AreFound : List (List ℕ) → List Row → Type 0
AreFound all [] = Unit {0}
AreFound all (r ∷ rows) = AreThere all r.form 0 r.words × AreFound all rows

pub record Table (all : List (List ℕ)) (known : Known) (rows : List Row) (rest : List (List ℕ)) (saids : List Said) : Type 0 where
  pub later : List Said
  pub number : ℕ
  pub is : says_rows all known.procs known.classes rows ++ later ≡ saids
  pub goes : lines_from (known_behind known rows) number rest ≡ good all later
  pub clean : AreClean known rows
  pub found : AreFound all rows
  pub fit : AreFit rows

abbrev pub lines_in : List Row → List (List ℕ)
lines_in rows = map (λ (r : Row). r.line) rows

pub table : (all : List (List ℕ)) (rows : List Row) (known : Known) (number : ℕ) (rest : List (List ℕ)) (saids : List Said) → AreRead rows
    → lines_from known number (lines_in rows ++ rest) ≡ good all saids → Table all known rows rest saids
table all [] known number rest saids read e = record { later = saids; number = number; is = refl; goes = e; clean = tt; found = tt; fit = tt }
table all (r ∷ rows) known number rest saids read e =
    let (line, fit) = one_line known number (lines_in rows ++ rest) all saids r.form r.words r.line read.0.0 read.0.1.0 read.0.1.1 e in
    let after = known_after known r.form r.words in
    let more = table all rows after (number + 1) rest line.later read.1 line.goes in
    let begins = all_begin (lines_in rows ++ rest) after (number + 1) all line.later line.goes in
    let same = parts_are known.procs known.classes all r.form r.words known.texts 0 begins in
    record {
      later = more.later;
      number = more.number;
      is = ap (λ ps. said r.form ps ∷ (says_rows all after.procs after.classes rows ++ more.later)) (sym same)
          ∙ ap (λ (ss : List Said). said r.form (parts_from known.procs known.classes known.texts r.form 0 r.words) ∷ ss) more.is ∙ line.is;
      goes = more.goes;
      clean = (line.clean, more.clean);
      found = (are_there all r.form r.words known.texts 0 begins, more.found);
      fit = (fit, more.fit);
    }

-- rows of written lines
abbrev pub written_row : Form × List (List ℕ) → Row
written_row w = record { line = joined w.1; form = w.0; words = w.1 }

abbrev pub AreMeant : List (Form × List (List ℕ)) → Type 0
AreMeant [] = Unit {0}
AreMeant (w ∷ ws) = IsMeant w.0 w.1 × AreMeant ws

pub are_read : (ws : List (Form × List (List ℕ))) → EachLine IsSound (map (λ (w : Form × List (List ℕ)). w.1) ws) → AreMeant ws → AreRead (map written_row ws)
are_read [] sound meant = tt
are_read (w ∷ ws) sound meant = ((words_of-joined w.1 (each_sound w.1 sound.0), meant.0), are_read ws sound.1 meant.1)

-- rows in the middle of a script: their commands are consecutive
pub record Middle (texts : List (List ℕ)) (items : List Item) (rows : List Row) : Type 0 where
  pub known : Known
  pub found : AreFound texts rows
  pub fit : AreFit rows
  pub together : (commands : List Command) → says_rows texts known.procs known.classes rows ≡ does_all commands → StandTogether items commands

pub middle : (bytes : List ℕ) (texts : List (List ℕ)) (items : List Item) → reading bytes ≡ spells texts items → (front : List (List ℕ)) (rows : List Row)
    (back : List (List ℕ)) → lines_of bytes ≡ front ++ (lines_in rows ++ back) → AreRead rows → Middle texts items rows
middle bytes texts items e front rows back parts read =
    let r = read_as bytes texts items e in
    let start = ap (λ ls. lines_from nothing_known 1 ls) (sym parts) ∙ r.lines_are in
    let on = behind texts front (lines_in rows ++ back) r.saids start in
    let t = table texts rows on.known on.number back on.later read on.goes in
    record {
      known = on.known;
      found = t.found;
      fit = t.fit;
      together = λ commands says.
          let all : on.before ++ (does_all commands ++ t.later) ≡ r.saids = ap (λ ss. on.before ++ (ss ++ t.later)) (sym says) ∙ ap (λ ss. on.before ++ ss) t.is ∙ on.is in
          let placed_so : AreNested false r.saids = nested (front ++ (lines_in rows ++ back)) nothing_known 1 texts r.saids start in
          subst (λ is. StandTogether is commands) (ap (items_of false) all ∙ r.items_are)
          (stand_together commands t.later on.before (subst (AreNested false) (sym all) placed_so));
    }
