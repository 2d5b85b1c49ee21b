-- The canonical bytes of a script that some bytes spell are read as this script.
use Rattle.std.proofs.Common.{◌≡◌, ℕ, ◌+◌, ◌≤◌, List, [], ◌∷◌, ◌++◌, length, map, Bool, true, false, cond, ◌==◌, Option, None, refl, sym, ap, subst, ◌∙◌, arith, codes, append_assoc}
use Rattle.std.specs.Prelude.{flat_map}
use Rattle.std.proofs.lemmas.Bool.Decides.{nat_tests}
use Rattle.cg_value.specs.Texts.{text_number, has_text, with_text}
use Rattle.cg_script.specs.declared.item.Item.{Item}
use Rattle.cg_script.specs.declared.item.Item.TheVariants as items
use Rattle.cg_script.specs.declared.form.Form.{Form}
use Rattle.cg_script.specs.declared.form.Form.TheVariants as forms
use Rattle.cg_script.specs.declared.part.Part.{Part}
use Rattle.cg_script.specs.declared.part.Said.{Said}
use Rattle.cg_script.specs.declared.part.Said.TheVariants.{Declares, Begins as BeginsProc, Ends, Does}
use Rattle.cg_script.specs.Pieces.{lines_of}
use Rattle.cg_script.specs.Forms.{row}
use Rattle.cg_script.specs.Meanings.{Meaning, says, meaning}
use Rattle.cg_script.specs.Parts.{Known, parts_of, texts_from, has_unknown}
use Rattle.cg_script.specs.Commands.{Filled, said, said_filled, IsSaidAgain}
use Rattle.cg_script.specs.Reading.{nothing_known, is_misplaced, is_repeated, fault_in, says_or_bad, checked, meant, procs_after, classes_after, inside_after, known_after, Lines, good, spoilt, also_said, with_later, lines_from, body_of, items_of, spells, script_of, reading}
use Rattle.cg_script.specs.Canonical.{Naming, text_of, command_words, filled_words, said_words, item_lines, procs_in, classes_in, naming_of, joined, line_of_words, canonical}
use Rattle.cg_script.proofs.Lines.{passed_before_last, says_before_last}
use Rattle.cg_script.proofs.LinesInOrder.{each_line}
use Rattle.cg_script.proofs.LinesAdded.{ends_inside, first_outside}
use Rattle.cg_script.proofs.JoinedWords.{EachSound, EachLineSound, lines_of-written}
use Rattle.cg_script.proofs.PrintedParts.{Begins, Names, begins_self, begins_along, begins_texts, text_found, normal_from, shown_normal}
use Rattle.cg_script.proofs.GoodLines.{Same, Faultless, good_line, good_again, good_says, same_again, same_along, same_known, faultless, no_fault}
use Rattle.cg_script.proofs.Keys.{keys_stand}
use Rattle.cg_script.proofs.Rows.{Given, Row, three_first, fixed_row, list_row, tuple_row, func_row, threshold_row}
use Rattle.cg_script.proofs.OddRows.{collect_row, ref_row, flags_row}
use Rattle.cg_script.proofs.ClassRows.{class_row}

-- what is printed of a line that is read
module _ (known : Known) where
  reference_row : (ws : List (List ℕ)) → Given known forms.MakeRef ws → Row known forms.MakeRef ws
  reference_row ws given =
      three_first (λ (l : List (List ℕ)). Given known forms.MakeRef l → Row known forms.MakeRef l) ws (let enough = given.good.enough in omega arith)
      (λ a b c rest given.
      let keys = keys_stand forms.MakeRef (a ∷ b ∷ c ∷ rest) given.good.picks in
      subst (λ (l : List (List ℕ)). Given known forms.MakeRef l → Row known forms.MakeRef l)
      (ap (λ (u : List ℕ). a ∷ u ∷ codes "ref" ∷ rest) (keys.1.0 refl) ∙ ap (λ (u : List ℕ). a ∷ b ∷ u ∷ rest) (keys.1.1.0 refl)) (ref_row known a rest) given) given

  class_line_row : (ws : List (List ℕ)) → Given known forms.Class ws → Row known forms.Class ws
  class_line_row [] given = absurd (omega (arith, given.good.enough))
  class_line_row (w ∷ rest) given =
      subst (λ (u : List ℕ). Given known forms.Class (u ∷ rest) → Row known forms.Class (u ∷ rest)) ((keys_stand forms.Class (w ∷ rest) given.good.picks).0 refl) (class_row known rest) given

  line_row : (form : Form) (ws : List (List ℕ)) → Given known form ws → Row known form ws
  line_row forms.MakeList ws given = list_row known ws given
  line_row forms.MakeTuple ws given = tuple_row known ws given
  line_row forms.MakeFunc ws given = func_row known ws given
  line_row forms.MakeRef ws given = reference_row ws given
  line_row forms.Collect ws given = collect_row known ws given
  line_row forms.Threshold ws given = threshold_row known ws given
  line_row forms.Flags ws given = flags_row known ws given
  line_row forms.Class ws given = class_line_row ws given
  line_row form ws given = fixed_row known form ws refl given

  pub said_again : (number : ℕ) (line : List ℕ) (form : Form) (ws : List (List ℕ)) → says form ws ≡ meaning number line → has_unknown (parts_of known form ws)
      ≡ false → IsSaidAgain (said form (parts_of known form ws))
  said_again number line form ws m defined =
      let r = line_row form ws (record { good = good_line number line form ws m; defined = defined }) in
      ap (λ (l : Filled). said l.form l.filling) (ap said_filled (sym r.same.said_same) ∙ r.tidy) ∙ r.same.said_same

module _ (n : Naming) (known : Known) (names : Names n known.procs known.classes) where
  -- what is said is printed by other words for the same, as they are printed
  row_printed : (form : Form) (ws : List (List ℕ)) → Begins (texts_from known.texts form 0 ws) n.texts → (r : Row known form ws)
      → said_words n (said form (parts_of known form ws)) ≡ normal_from form 0 r.standing
  unfolding filled_words
  row_printed form ws begins r =
      ap (λ (s : Said). said_words n s) (sym r.same.said_same)
      ∙ ap (λ (l : Filled). filled_words n l) r.tidy
      ∙ shown_normal n known.procs known.classes form r.standing known.texts 0 names (subst (λ ts. Begins ts n.texts) (sym r.same.texts_same) begins)
      r.same.none_unknown r.good.fit (keys_stand form r.standing r.good.picks)

  -- the printed line says the same, and leads to the same knowledge
  record Again (form : Form) (ws : List (List ℕ)) : Type 0 where
    words : List (List ℕ)
    printed : said_words n (said form (parts_of known form ws)) ≡ words
    sound : EachSound words
    means : (k : ℕ) → (k == 400001) ≡ false → meaning k (joined words) ≡ says form words
    clean : fault_in known form words ≡ None
    same : Same known form ws words

  again : (form : Form) (ws : List (List ℕ)) → Begins (texts_from known.texts form 0 ws) n.texts → Given known form ws → Faultless known form ws → Again form ws
  again form ws begins given clean =
      let r = line_row known form ws given in
      let words = normal_from form 0 r.standing in
      let words_good = good_again form r.standing r.good in
      let same = same_along known form ws r.standing words r.same (same_again known form r.standing r.good r.same.none_unknown) in
      record {
        words = words;
        printed = row_printed form ws begins r;
        sound = words_good.sound;
        means = λ k before. good_says k form words words_good before;
        clean = no_fault known form ws words clean same;
        same = same;
      }

  line_meant : (form : Form) (words : List (List ℕ)) (k : ℕ) (line : List ℕ) → meaning k line ≡ says form words → fault_in known form words ≡ None → meant known k line ≡ says form words
  unfolding meant
  line_meant form words k line m clean = ap (checked known) m ∙ ap (λ (o : Option ℕ). says_or_bad o form words) clean

  pub line_back : (form : Form) (ws : List (List ℕ)) → Begins (texts_from known.texts form 0 ws) n.texts → Given known form ws → Faultless known form ws
      → (k : ℕ) → (k == 400001) ≡ false → (rest : List (List ℕ))
      → lines_from known k (joined (said_words n (said form (parts_of known form ws))) ∷ rest) ≡ also_said (said form (parts_of known form ws)) (lines_from (known_after known form ws) (k + 1) rest)
  line_back form ws begins given clean k before rest =
      let a = again form ws begins given clean in
      ap (λ (l : List (List ℕ)). lines_from known k (joined l ∷ rest)) a.printed
      ∙ ap (λ (m : Meaning). with_later known k m (λ behind. lines_from behind (k + 1) rest)) (line_meant form a.words k (joined a.words) (a.means k before) a.clean)
      ∙ ap (λ (s : Said). also_said s (lines_from (known_after known form a.words) (k + 1) rest)) a.same.said_same
      ∙ ap (λ (b : Known). also_said (said form (parts_of known form ws)) (lines_from b (k + 1) rest)) (same_known known form ws a.words a.same)

  pub line_sound : (form : Form) (ws : List (List ℕ)) → Begins (texts_from known.texts form 0 ws) n.texts → Given known form ws → Faultless known form ws
      → EachSound (said_words n (said form (parts_of known form ws)))
  line_sound form ws begins given clean = let a = again form ws begins given clean in subst (λ l. EachSound l) (sym a.printed) a.sound

-- lines in which procedures open and close in turn, with declarations outside them
abbrev Nested : Bool → List Said → Type 0
Nested inside [] = inside ≡ false
Nested inside (Declares (items.Def p) ∷ later) = ⊥
Nested inside (Declares (items.Run c) ∷ later) = ⊥
Nested inside (Declares item ∷ later) = (inside ≡ false) × Nested inside later
Nested inside (BeginsProc name ∷ later) = (inside ≡ false) × Nested true later
Nested inside (Ends ∷ later) = (inside ≡ true) × Nested false later
Nested inside (Does command ∷ later) = Nested inside later

nested_step : (known : Known) (form : Form) (ps : List Part) (later : List Said) → is_misplaced known form ≡ false → Nested (inside_after known.inside form)
    later → Nested known.inside (said form ps ∷ later)
nested_step known forms.Profile ps later e nested = ((first_outside known.inside known.started e).0, nested)
nested_step known forms.Shutdown ps later e nested = (e, nested)
nested_step known forms.Budget ps later e nested = (e, nested)
nested_step known forms.Class ps later e nested = (e, nested)
nested_step known forms.Def ps later e nested = (e, nested)
nested_step known forms.End ps later e nested = (ends_inside known.inside e, nested)
nested_step known form ps later e nested = nested

-- the procedures and classes that lines define
abbrev begun : List Said → List ℕ
begun [] = []
begun (Declares (items.Def p) ∷ later) = p.name ∷ begun later
begun (BeginsProc name ∷ later) = name ∷ begun later
begun (s ∷ later) = begun later

abbrev declared : List Said → List ℕ
declared [] = []
declared (Declares (items.Class c) ∷ later) = c.name ∷ declared later
declared (s ∷ later) = declared later

procs_in-items_of : (inside : Bool) (saids : List Said) → procs_in (items_of inside saids) ≡ begun saids
procs_in-items_of inside [] = refl
procs_in-items_of inside (Declares (items.Def p) ∷ later) = ap (λ (l : List ℕ). p.name ∷ l) (procs_in-items_of inside later)
procs_in-items_of inside (BeginsProc name ∷ later) = ap (λ (l : List ℕ). name ∷ l) (procs_in-items_of true later)
procs_in-items_of inside (Ends ∷ later) = procs_in-items_of false later
procs_in-items_of true (Does command ∷ later) = procs_in-items_of true later
procs_in-items_of false (Does command ∷ later) = procs_in-items_of false later
procs_in-items_of inside (Declares item ∷ later) = procs_in-items_of inside later

classes_in-items_of : (inside : Bool) (saids : List Said) → classes_in (items_of inside saids) ≡ declared saids
classes_in-items_of inside [] = refl
classes_in-items_of inside (Declares (items.Class c) ∷ later) = ap (λ (l : List ℕ). c.name ∷ l) (classes_in-items_of inside later)
classes_in-items_of inside (BeginsProc name ∷ later) = classes_in-items_of true later
classes_in-items_of inside (Ends ∷ later) = classes_in-items_of false later
classes_in-items_of true (Does command ∷ later) = classes_in-items_of true later
classes_in-items_of false (Does command ∷ later) = classes_in-items_of false later
classes_in-items_of inside (Declares item ∷ later) = classes_in-items_of inside later

-- the lines of the items are those of what is said; inside a procedure, those of its commands and its end come first
abbrev LinesSaid : Naming → Bool → List Said → Type 0
LinesSaid n false saids = flat_map (item_lines n) (items_of false saids) ≡ map (said_words n) saids
LinesSaid n true saids = (map (command_words n) (body_of saids) ++ said_words n Ends ∷ []) ++ flat_map (item_lines n) (items_of true saids) ≡ map (said_words n) saids

lines_said : (n : Naming) (inside : Bool) (saids : List Said) → Nested inside saids → LinesSaid n inside saids
lines_said n false [] nested = refl
lines_said n true [] nested = absurd (cc)
lines_said n inside (Declares (items.Def p) ∷ later) nested = absurd nested
lines_said n inside (Declares (items.Run c) ∷ later) nested = absurd nested
lines_said n false (Declares item ∷ later) nested = ap (λ (l : List (List (List ℕ))). said_words n (Declares item) ∷ l) (lines_said n false later nested.1)
lines_said n false (BeginsProc name ∷ later) nested = ap (λ (l : List (List (List ℕ))). said_words n (BeginsProc name) ∷ l) (lines_said n true later nested.1)
lines_said n false (Ends ∷ later) nested = let never : false ≡ true = nested.0 in absurd (cc)
lines_said n false (Does command ∷ later) nested = ap (λ (l : List (List (List ℕ))). command_words n command ∷ l) (lines_said n false later nested)
lines_said n true (Declares item ∷ later) nested = let never : true ≡ false = nested.0 in absurd (cc)
lines_said n true (BeginsProc name ∷ later) nested = let never : true ≡ false = nested.0 in absurd (cc)
lines_said n true (Ends ∷ later) nested = ap (λ (l : List (List (List ℕ))). said_words n Ends ∷ l) (lines_said n false later nested.1)
lines_said n true (Does command ∷ later) nested = ap (λ (l : List (List (List ℕ))). command_words n command ∷ l) (lines_said n true later nested)

-- what a line defines is the next one of all
define_step : (all names : List (List ℕ)) (place : ℕ) (name : List ℕ) (later : List ℕ) → has_text names name ≡ false → text_of all place ≡ name
    → names ++ map (text_of all) (place ∷ later) ≡ with_text names name ++ map (text_of all) later
define_step all names place name later fresh is =
    ap (λ (t : List ℕ). names ++ t ∷ map (text_of all) later) is
    ∙ sym (append_assoc names (name ∷ []) (map (text_of all) later))
    ∙ sym (ap (λ b. cond b names (names ++ name ∷ []) ++ map (text_of all) later) fresh)

module _ (known : Known) (all : List (List ℕ)) where
  procs_step : (form : Form) (ws : List (List ℕ)) (later : List Said) → (row form).fewest ≤ length ws → is_repeated known form ws ≡ false → Begins (texts_from known.texts form 0 ws) all
      → known.procs ++ map (text_of all) (begun (said form (parts_of known form ws) ∷ later)) ≡ procs_after known.procs form ws ++ map (text_of all) (begun later)
  procs_step forms.Def [] later enough fresh begins = absurd (omega arith)
  procs_step forms.Def (w ∷ []) later enough fresh begins = absurd (omega arith)
  procs_step forms.Def (w ∷ c ∷ ws) later enough fresh begins =
      define_step all known.procs (text_number known.texts c) c (begun later) fresh
      (text_found all known.texts c (begins_along (with_text known.texts c) (texts_from (with_text known.texts c) forms.Def 2 ws) all (begins_texts forms.Def ws (with_text known.texts c) 2) begins))
  procs_step form ws later enough fresh begins = refl

  classes_step : (form : Form) (ws : List (List ℕ)) (later : List Said) → (row form).fewest ≤ length ws → is_repeated known form ws ≡ false → Begins (texts_from known.texts form 0 ws) all
      → known.classes ++ map (text_of all) (declared (said form (parts_of known form ws) ∷ later)) ≡ classes_after known.classes form ws ++ map (text_of all) (declared later)
  classes_step forms.Class [] later enough fresh begins = absurd (omega arith)
  classes_step forms.Class (w ∷ []) later enough fresh begins = absurd (omega arith)
  classes_step forms.Class (w ∷ c ∷ ws) later enough fresh begins =
      define_step all known.classes (text_number known.texts c) c (declared later) fresh
      (text_found all known.texts c (begins_along (with_text known.texts c) (texts_from (with_text known.texts c) forms.Class 2 ws) all
      (begins_texts forms.Class ws (with_text known.texts c) 2) begins))
  classes_step form ws later enough fresh begins = refl

-- What the lines from a number on say is read back from their printed form, from any number up to that one.
record Back (number : ℕ) (known : Known) (texts : List (List ℕ)) (saids : List Said) : Type 0 where
  begins : Begins known.texts texts
  nested : Nested known.inside saids
  back : (procs classes : List ℕ) → map (text_of texts) procs ≡ known.procs ++ map (text_of texts) (begun saids) → map (text_of texts) classes ≡ known.classes ++ map (text_of texts) (declared saids)
      → (k : ℕ) → k ≤ number → number ≤ 400001
      → (lines_from known k (map joined (map (said_words (record { texts = texts; procs = procs; classes = classes })) saids)) ≡ good texts saids)
      × EachLineSound (map (said_words (record { texts = texts; procs = procs; classes = classes })) saids)

not_last : (k number : ℕ) → k ≤ number → number + 1 ≤ 400001 → (k == 400001) ≡ false
not_last k number h l = grind (arith, nat_tests)

back_said : (number : ℕ) (known : Known) (line : List ℕ) (form : Form) (words texts : List (List ℕ)) (saids : List Said) → says form words ≡ meaning number line → fault_in known form words ≡ None
    → Back (number + 1) (known_after known form words) texts saids → Back number known texts (said form (parts_of known form words) ∷ saids)
back_said number known line form words texts saids m f fact =
    let clean = faultless known form words f in
    let words_good = good_line number line form words m in
    record {
      begins = begins_along known.texts (texts_from known.texts form 0 words) texts (begins_texts form words known.texts 0) fact.begins;
      nested = nested_step known form (parts_of known form words) saids clean.placed fact.nested;
      back = λ procs classes ep ec k h limit.
          let n : Naming = record { texts = texts; procs = procs; classes = classes } in
          let names : Names n known.procs known.classes = record {
            procs_begin = record { more = map (text_of texts) (begun (said form (parts_of known form words) ∷ saids)); is = ep };
            classes_begin = record { more = map (text_of texts) (declared (said form (parts_of known form words) ∷ saids)); is = ec };
          } in
          let before = says_before_last number line form words m limit in
          let given : Given known form words = record { good = words_good; defined = clean.defined } in
          let later = fact.back procs classes (ep ∙ procs_step known texts form words saids words_good.enough clean.fresh fact.begins)
          (ec ∙ classes_step known texts form words saids words_good.enough clean.fresh fact.begins) (k + 1) (omega arith) before in (
            line_back n known names form words fact.begins given clean k (not_last k number h before) (map joined (map (said_words n) saids))
                ∙ ap (also_said (said form (parts_of known form words))) later.0,
            (line_sound n known names form words fact.begins given clean, later.1),
          );
    }

all_back : (lines : List (List ℕ)) (known : Known) (number : ℕ) (texts : List (List ℕ)) (saids : List Said) → lines_from known number lines ≡ good texts saids → Back number known texts saids
all_back = each_line (λ number known texts saids. Back number known texts saids)
    (λ number known inside. record {
      begins = begins_self known.texts;
      nested = inside;
      back = λ procs classes ep ec k h limit. (ap (λ b. cond b (spoilt k 7) (good known.texts [])) inside, tt);
    })
    (λ number known line texts saids m fact. record {
      begins = fact.begins;
      nested = fact.nested;
      back = λ procs classes ep ec k h limit. fact.back procs classes ep ec k (omega arith) (passed_before_last number line m limit);
    })
    (λ number known line form words texts saids m f fact. back_said number known line form words texts saids m f fact)

canonical_lines : (texts : List (List ℕ)) (saids : List Said) → Back 1 nothing_known texts saids → lines_from nothing_known 1 (lines_of (canonical texts (items_of false saids))) ≡ good texts saids
unfolding canonical
canonical_lines texts saids fact =
    let n = naming_of texts (items_of false saids) in
    let back = fact.back (procs_in (items_of false saids)) (classes_in (items_of false saids)) (ap (map (text_of texts)) (procs_in-items_of false saids))
    (ap (map (text_of texts)) (classes_in-items_of false saids)) 1 (omega arith) (omega arith) in
    ap (λ (l : List (List (List ℕ))). lines_from nothing_known 1 (lines_of (flat_map line_of_words l))) (lines_said n false saids fact.nested)
    ∙ ap (λ (l : List (List ℕ)). lines_from nothing_known 1 l) (lines_of-written (map (said_words n) saids) back.1)
    ∙ back.0

by_lines : (lines : List (List ℕ)) (all : Lines) → lines_from nothing_known 1 lines ≡ all → (names : List (List ℕ)) (items : List Item) → script_of all ≡ spells names items
    → reading (canonical names items) ≡ spells names items
by_lines lines (spoilt number code) e names items is = absurd (cc)
by_lines lines (good texts saids) e names items is =
    let same_texts : texts ≡ names = cc in
    let same_items : items_of false saids ≡ items = cc in
    subst (λ (is : List Item). reading (canonical names is) ≡ spells names is) same_items
    (subst (λ (ts : List (List ℕ)). reading (canonical ts (items_of false saids)) ≡ spells ts (items_of false saids)) same_texts
    (ap script_of (canonical_lines texts saids (all_back lines nothing_known 1 texts saids e))))

pub read_back : (bytes : List ℕ) (names : List (List ℕ)) (items : List Item) → reading bytes ≡ spells names items → reading (canonical names items) ≡ spells names items
read_back bytes names items e = by_lines (lines_of bytes) (lines_from nothing_known 1 (lines_of bytes)) refl names items e
