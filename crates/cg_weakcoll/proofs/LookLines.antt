-- One line of a script, read by its words.
use Rattle.std.proofs.Common.{◌≡◌, ℕ, ◌+◌, List, [], ◌∷◌, ◌++◌, length, Bool, true, false, not, cond, ◌&&◌, ◌||◌, ◌==◌, Option, Some, None, refl, ap, subst, ◌∙◌, arith, nat_le}
use Rattle.std.specs.Prelude.{is_some, slice_index}
use Rattle.std.specs.List.{list_all, list_any, position_or_len}
use Rattle.std.specs.Str.{bytes_eq}
use Rattle.std.proofs.lemmas.Bool.Decides.{nat_tests}
use Rattle.std.proofs.lemmas.List.Folds.{list_any-append, position_or_len_push}
use Rattle.std.proofs.lemmas.Slice.Eq.{bytes_eq-Decides}
use Rattle.std.proofs.lemmas.Bool.{not-true}
use Rattle.cg_value.specs.Texts.{has_text, text_number, with_text}
use Rattle.cg_script.specs.declared.item.Item.{Item}
use Rattle.cg_script.specs.declared.command.Operand.{Operand}
use Rattle.cg_script.specs.declared.command.Operand.TheVariants as operands
use Rattle.cg_script.specs.declared.part.Said.{Said}
use Rattle.cg_script.specs.Pieces.{lines_of}
use Rattle.cg_script.specs.Words.{atoms, begins_name, is_identifier, is_name_byte, is_number, is_quoted, is_reserved, is_value, is_variable, reserves, string_text, number_of}
use Rattle.cg_script.specs.Tables.{named}
use Rattle.cg_script.specs.Forms.{bindings, openers}
use Rattle.cg_script.specs.Parts.{Known, texts_from, with_text_if, value_text, operand_or}
use Rattle.cg_script.specs.Reading.{known_after, Lines, good, spoilt, lines_from, nothing_known, items_of, script_of, reading, spells}
use Rattle.cg_script.proofs.Ascii.{both}
use Rattle.cg_script.proofs.PrintedParts.{Begins, begins_along, begins_self, begins_texts, text_found}
use Rattle.cg_weakcoll.specs.MapLines.{Atom, Counted, Named, Quoted, WordStandsFor}
use Rattle.cg_weakcoll.proofs.ReadLines.{First, Passes, Says, first_line}

-- an added text gets the next place
new_push : {X : Type 0} (p : X → Bool) (xs : List X) (y : X) → p y ≡ true → position_or_len p (xs ++ y ∷ []) ≡ position_or_len p xs
new_push p xs y here = let push = position_or_len_push p xs y in grind (arith, nat_tests, push, here)

-- a text is at a place
pub record IsAt (texts : List (List ℕ)) (text : List ℕ) (n : ℕ) : Type 0 where
  pub there : has_text texts text ≡ true
  pub place : text_number texts text ≡ n

pub same_text : (text : List ℕ) → bytes_eq text text ≡ true
same_text text = (bytes_eq-Decides text text).1 refl

or_true : (b : Bool) → (b || true) ≡ true
or_true true = refl
or_true false = refl

pub added : (texts : List (List ℕ)) (text : List ℕ) → IsAt (with_text texts text) text (text_number texts text)
added texts text = by (has_text texts text) refl
  where
    by : (b : Bool) → has_text texts text ≡ b → IsAt (cond b texts (texts ++ text ∷ [])) text (text_number texts text)
    by true e = record { there = e; place = refl }
    by false e = record {
      there = list_any-append (bytes_eq text) texts (text ∷ []) ∙ ap (λ b. list_any (bytes_eq text) texts || (b || false)) (same_text text) ∙ or_true (list_any (bytes_eq text) texts);
      place = new_push (bytes_eq text) texts text (same_text text);
    }

-- the known texts are a prefix of all texts
pub all_begin : (lines : List (List ℕ)) (known : Known) (number : ℕ) (texts : List (List ℕ)) (saids : List Said) → lines_from known number lines ≡ good texts saids → Begins known.texts texts
all_begin [] known number texts saids e = go known.inside e
  where
    go : (b : Bool) → cond b (spoilt number 7) (good known.texts []) ≡ good texts saids → Begins known.texts texts
    go true k = absurd (cc)
    go false k = let same : known.texts ≡ texts = cc in subst (Begins known.texts) same (begins_self known.texts)
all_begin (line ∷ lines) known number texts saids e = go (λ k n ss h. all_begin lines k n texts ss h) (first_line known number lines texts saids line e)
  where
    go : ((k : Known) (n : ℕ) (ss : List Said) → lines_from k n lines ≡ good texts ss → Begins k.texts texts) → First known number line lines texts saids → Begins known.texts texts
    go ih (Passes m rest) = ih known (number + 1) saids rest
    go ih (Says form words m s) = begins_along known.texts (texts_from known.texts form 0 words) texts (begins_texts form words known.texts 0)
        (ih (known_after known form words) (number + 1) s.later s.goes)

-- the word of a variable
pub record IsName (x : List ℕ) : Type 0 where
  pub letter : begins_name (slice_index x 0) ≡ true
  pub no_atom : named atoms x ≡ None

no_some : {A : Type 0} (m : Option A) (b c : Bool) → (is_some m || b || c) ≡ false → m ≡ None
no_some None b c e = refl
no_some (Some a) b c e = absurd (cc)

pub name_of_variable : (x : List ℕ) → is_variable x ≡ true → IsName x
name_of_variable x e =
    let parts = both (is_identifier x) (not (is_reserved x)) e in
    let name = both (nat_le 1 (length x) && nat_le (length x) 32 && begins_name (slice_index x 0)) (list_all is_name_byte x) parts.0 in
    record {
      letter = (both (nat_le 1 (length x) && nat_le (length x) 32) (begins_name (slice_index x 0)) name.0).1;
      no_atom = no_some (named atoms x) (reserves (named openers x)) (reserves (named bindings x)) (not-true (is_reserved x) parts.1);
    }

pub no_comment : (b : ℕ) → begins_name b ≡ true → (b == 35) ≡ false
no_comment b e = grind (arith, nat_tests)

no_quote : (b : ℕ) → begins_name b ≡ true → (b == 39) ≡ false
no_quote b e = grind (arith, nat_tests)

pub name_stands : (texts : List (List ℕ)) (x : List ℕ) → IsName x → operand_or (named atoms x) texts x ≡ operands.Name (text_number texts x)
name_stands texts x h =
    ap (λ (f : Option Operand). operand_or f texts x) h.no_atom
    ∙ ap (λ b. cond b (operands.Str (text_number texts (string_text x))) (cond (begins_name (slice_index x 0)) (operands.Name (text_number texts x))
    (operands.Int (number_of x)))) (no_quote (slice_index x 0) h.letter)
    ∙ ap (λ b. cond b (operands.Name (text_number texts x)) (operands.Int (number_of x))) h.letter

-- a value that is no keyword is a string, a variable or a number
unnamed : (word : List ℕ) (found : Option Operand) → named atoms word ≡ found → is_some found ≡ false → is_value word ≡ true → (is_quoted word ≡ false)
    → cond (begins_name (slice_index word 0)) (is_variable word) (is_number word) ≡ true
unnamed word found e none value unquoted = by (is_some (named atoms word)) (is_quoted word) _ _ value (ap is_some e ∙ none) unquoted
  where
    by : (s q a rest : Bool) → cond s true (cond q a rest) ≡ true → s ≡ false → q ≡ false → rest ≡ true
    by false false a rest h n u = h
    by b q a rest h n u = absurd (cc)

-- the word of a value stands for what is read
pub stands_for : (all texts : List (List ℕ)) (word : List ℕ) (found : Option Operand) → named atoms word ≡ found → is_value word ≡ true
    → Begins (with_text_if texts (value_text found word)) all → WordStandsFor all word (operand_or found texts word)
stands_for all texts word (Some operand) e value begins = Atom operand e
stands_for all texts word None e value begins = by (is_quoted word) (begins_name (slice_index word 0)) refl (unnamed word None e refl value) begins
  where
    by : (q b : Bool) → is_quoted word ≡ q → (is_quoted word ≡ false → cond b (is_variable word) (is_number word) ≡ true)
        → Begins (with_text_if texts (cond q (Some (string_text word)) (cond b (Some word) None))) all
        → WordStandsFor all word (cond q (operands.Str (text_number texts (string_text word))) (cond b (operands.Name (text_number texts word)) (operands.Int (number_of word))))
    by true b quoted is h = Quoted (text_number texts (string_text word)) quoted (text_found all texts (string_text word) h)
    by false true quoted is h = Named (text_number texts word) (is quoted) (text_found all texts word h)
    by false false quoted is h = Counted (is quoted)

-- the lines of a script, with what they say
pub record ReadAs (bytes : List ℕ) (texts : List (List ℕ)) (items : List Item) : Type 0 where
  pub saids : List Said
  pub items_are : items_of false saids ≡ items
  pub lines_are : lines_from nothing_known 1 (lines_of bytes) ≡ good texts saids

pub read_as : (bytes : List ℕ) (texts : List (List ℕ)) (items : List Item) → reading bytes ≡ spells texts items → ReadAs bytes texts items
read_as bytes texts items e = go (lines_from nothing_known 1 (lines_of bytes)) refl e
  where
    go : (l : Lines) → lines_from nothing_known 1 (lines_of bytes) ≡ l → script_of l ≡ spells texts items → ReadAs bytes texts items
    go (spoilt n c) is k = absurd (cc)
    go (good ts ss) is k = let same : ts ≡ texts = cc in let same_items : items_of false ss ≡ items = cc in record { saids = ss; items_are = same_items; lines_are = is ∙ ap (λ t. good t ss) same }
