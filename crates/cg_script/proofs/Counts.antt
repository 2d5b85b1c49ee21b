-- Bounds on the lines, the texts and the length of texts of a script that some bytes spell.
use Rattle.std.proofs.Common.{◌≡◌, ℕ, suc, ◌+◌, ◌≤◌, List, [], ◌∷◌, ◌++◌, length, Bool, true, false, cond, Option, None, Some, sym, subst, arith, length-drop, ◌==◌}
use Rattle.std.specs.List.{All}
use Rattle.std.proofs.lemmas.List.Elements.{All-nil, All-cons, All-append, All-filter, All-head, All-tail, All-weaker}
use Rattle.cg_value.specs.Texts.{has_text}
use Rattle.cg_script.specs.declared.command.Operand.{Operand}
use Rattle.cg_script.specs.declared.form.Form.{Form}
use Rattle.cg_script.specs.declared.form.Sort.{Sort}
use Rattle.cg_script.specs.declared.form.Sort.TheVariants.{Variable, Name, Value}
use Rattle.cg_script.specs.declared.part.Said.{Said}
use Rattle.cg_script.specs.Pieces.{pieces, onto, has_bytes, words_of}
use Rattle.cg_script.specs.Tables.{named}
use Rattle.cg_script.specs.Words.{atoms, begins_name, is_quoted, string_text}
use Rattle.std.specs.Prelude.{slice_index}
use Rattle.cg_script.specs.Meanings.{says, meaning}
use Rattle.cg_script.specs.Forms.{sort_at}
use Rattle.cg_script.specs.Parts.{Known, with_text_if, text_in, value_text, texts_from}
use Rattle.cg_script.specs.Reading.{good, lines_from}
use Rattle.cg_script.proofs.GoodWords.{says_of_line}
use Rattle.cg_script.proofs.Lines.{passed_before_last, says_before_last}
use Rattle.cg_script.proofs.LinesInOrder.{each_line}

abbrev Few : ℕ → Known → List (List ℕ) → List Said → Type 0
Few number known texts saids = number ≤ 400001 → length saids + number ≤ 400001

pub few_saids : (lines : List (List ℕ)) (known : Known) (texts : List (List ℕ)) (saids : List Said) → lines_from known 1 lines ≡ good texts saids → length saids ≤ 400000
few_saids lines known texts saids e =
    let few : length saids + 1 ≤ 400001 = each_line Few
    (λ number known inside below. omega arith)
    (λ number known line texts saids m few below. let more = few (passed_before_last number line m below) in omega arith)
    (λ number known line form words texts saids m clean few below. let more = few (says_before_last number line form words m below) in omega arith)
    lines known 1 texts saids e (omega arith) in
    omega arith

-- no text is longer than a line
abbrev pub IsShort : ℕ → List ℕ → Type 0
IsShort n text = length text ≤ n

onto_short : (n b : ℕ) (ps : List (List ℕ)) → All (IsShort n) ps → All (IsShort (suc n)) (onto b ps)
onto_short n b [] short = All-cons (IsShort (suc n)) (b ∷ []) [] (omega arith) (All-nil (IsShort (suc n)))
onto_short n b (p ∷ ps) short =
    let first : length p ≤ n = All-head (IsShort n) p ps short in
    All-cons (IsShort (suc n)) (b ∷ p) ps (omega arith) (All-weaker (IsShort n) (IsShort (suc n)) (λ (t : List ℕ) (k : length t ≤ n). let r : length t ≤ suc n =
    omega arith in r) ps (All-tail (IsShort n) p ps short))

pieces_step : (n : ℕ) (separator b : ℕ) (bytes : List ℕ) (here : Bool) → All (IsShort n) (pieces separator bytes)
    → All (IsShort (suc n)) (cond here ([] ∷ pieces separator bytes) (onto b (pieces separator bytes)))
pieces_step n separator b bytes true short =
    All-cons (IsShort (suc n)) [] (pieces separator bytes) (omega arith) (All-weaker (IsShort n) (IsShort (suc n)) (λ (t : List ℕ) (k : length t ≤ n). let r :
    length t ≤ suc n = omega arith in r) (pieces separator bytes) short)
pieces_step n separator b bytes false short = onto_short n b (pieces separator bytes) short

short_pieces : (separator : ℕ) (bytes : List ℕ) → All (IsShort (length bytes)) (pieces separator bytes)
short_pieces separator [] = All-nil (IsShort 0)
short_pieces separator (b ∷ bytes) = pieces_step (length bytes) separator b bytes (b == separator) (short_pieces separator bytes)

pub short_words : (line : List ℕ) → All (IsShort (length line)) (words_of line)
short_words line = All-filter has_bytes (IsShort (length line)) (pieces 32 line) (short_pieces 32 line)

with_short : (n : ℕ) (texts : List (List ℕ)) (text : List ℕ) (there : Bool) → All (IsShort n) texts → length text ≤ n → All (IsShort n) (cond there texts (texts ++ text ∷ []))
with_short n texts text true all short = all
with_short n texts text false all short = All-append (IsShort n) texts (text ∷ []) all (All-cons (IsShort n) text [] short (All-nil (IsShort n)))

IsShortIf : ℕ → Option (List ℕ) → Type 0
IsShortIf n None = Unit {0}
IsShortIf n (Some text) = length text ≤ n

with_short_if : (n : ℕ) (texts : List (List ℕ)) (text : Option (List ℕ)) → All (IsShort n) texts → IsShortIf n text → All (IsShort n) (with_text_if texts text)
unfolding IsShortIf
with_short_if n texts None all short = all
with_short_if n texts (Some text) all short = with_short n texts text (has_text texts text) all short

value_short : (n : ℕ) (word : List ℕ) (found : Option Operand) → length word ≤ n → IsShortIf n (value_text found word)
unfolding IsShortIf
value_short n word (Some operand) short = tt
value_short n word None short = by (is_quoted word) (begins_name (slice_index word 0))
  where
    by : (quoted name : Bool) → IsShortIf n (cond quoted (Some (string_text word)) (cond name (Some word) None))
    by true name = omega (arith, length-drop 1 word)
    by false true = short
    by false false = tt

text_short : (n : ℕ) (sort : Sort) (word : List ℕ) → length word ≤ n → IsShortIf n (text_in sort word)
unfolding IsShortIf
text_short n Variable word short = short
text_short n Name word short = short
text_short n Value word short = value_short n word (named atoms word) short
text_short n sort word short = tt

texts_short : (n : ℕ) (form : Form) (words texts : List (List ℕ)) (place : ℕ) → All (IsShort n) texts → All (IsShort n) words → All (IsShort n) (texts_from texts form place words)
texts_short n form [] texts place all short = all
texts_short n form (word ∷ words) texts place all short =
    texts_short n form words (with_text_if texts (text_in (sort_at form place) word)) (place + 1)
    (with_short_if n texts (text_in (sort_at form place) word) all (text_short n (sort_at form place) word (All-head (IsShort n) word words short)))
    (All-tail (IsShort n) word words short)

line_short : (number : ℕ) (line : List ℕ) (form : Form) (words texts : List (List ℕ)) → says form words ≡ meaning number line → All (IsShort 1024) texts
    → All (IsShort 1024) (texts_from texts form 0 words)
line_short number line form words texts m all =
    let of = says_of_line number line form words m in
    let short = of.short in
    texts_short 1024 form words texts 0 all
    (subst (λ ws. All (IsShort 1024) ws) (sym of.words_are)
    (All-weaker (IsShort (length line)) (IsShort 1024) (λ (t : List ℕ) (k : length t ≤ length line). let r : length t ≤ 1024 = omega arith in r) (words_of line) (short_words line)))

abbrev Short : ℕ → Known → List (List ℕ) → List Said → Type 0
Short number known texts saids = All (IsShort 1024) known.texts → All (IsShort 1024) texts

pub short_texts : (lines : List (List ℕ)) (known : Known) (number : ℕ) (texts : List (List ℕ)) (saids : List Said) → lines_from known number lines ≡ good texts saids
    → All (IsShort 1024) known.texts → All (IsShort 1024) texts
short_texts lines known number texts saids e =
    each_line Short
    (λ number known inside all. all)
    (λ number known line texts saids m short all. short all)
    (λ number known line form words texts saids m clean short all. short (line_short number line form words known.texts m all))
    lines known number texts saids e
