-- The reading of a script line by line, from any line on.
use Rattle.std.proofs.Common.{◌≡◌, ℕ, ◌+◌, ◌≤◌, List, [], ◌∷◌, ◌++◌, length, refl, sym, ap, ◌∙◌, append-nil, arith, Bool, true, false, ◌||◌, ◌==◌, if◌then◌else◌, cond, Some, None}
use Rattle.std.proofs.lemmas.Bool.Decides.{nat_tests}
use Rattle.std.specs.Prelude.{is_some}
use Rattle.cg_script.specs.declared.form.Form.{Form}
use Rattle.cg_script.specs.declared.form.Form.TheVariants as forms
use Rattle.cg_script.specs.declared.part.Said.{Said}
use Rattle.cg_script.specs.declared.draft.Draft.{Draft}
use Rattle.cg_script.specs.Meanings.{Meaning, passed, says, bad, code_of, meaning}
use Rattle.cg_script.specs.Pieces.{lines_of, word_at}
use Rattle.cg_script.specs.Parts.{parts_of}
use Rattle.cg_script.proofs.Places.{length-with_text}
use Rattle.cg_script.specs.Commands.{said}
use Rattle.cg_script.specs.Reading.{nothing_known, procs_after, classes_after, fault_in, says_or_bad, checked, meant, Lines, good, spoilt, also_said, with_later, lines_from, items_of, Reading, spells, faulty, script_of}
use Rattle.cg_script.specs.Views.{known_of, grouped, Takes, script_after, reading_after}

-- the reading after a draft, by the meaning of the first line
by_meaning : Draft → ℕ → Meaning → List (List ℕ) → Reading
by_meaning draft number m lines = script_after draft (with_later (known_of draft) number m (λ behind. lines_from behind (number + 1) lines))

module _ (draft : Draft) (number : ℕ) (line : List ℕ) where
  first : (m : Meaning) → m ≡ meaning number line → (lines : List (List ℕ)) → reading_after draft number (line ∷ lines) ≡ by_meaning draft number (checked (known_of draft) m) lines
  unfolding by_meaning meant
  first m e lines = ap (λ k. by_meaning draft number (checked (known_of draft) k) lines) (sym e)

  pub line_passed : passed ≡ meaning number line → (lines : List (List ℕ)) → reading_after draft (number + 1) lines ≡ reading_after draft number (line ∷ lines)
  unfolding by_meaning
  line_passed e lines = sym (first passed e lines)

  pub line_bad : (code : ℕ) → bad code ≡ meaning number line → (lines : List (List ℕ)) → reading_after draft number (line ∷ lines) ≡ faulty number code
  unfolding by_meaning
  line_bad code e lines = first (bad code) e lines

  wrong : (m : Meaning) (code : ℕ) → Some code ≡ code_of m → (lines : List (List ℕ)) → by_meaning draft number m lines ≡ faulty number code
  unfolding by_meaning
  wrong passed code e lines = absurd (cc)
  wrong (says form words) code e lines = absurd (cc)
  wrong (bad other) code e lines = let s : other ≡ code = cc in ap (faulty number) s

  pub line_wrong : (m : Meaning) (code : ℕ) → m ≡ meaning number line → Some code ≡ code_of (checked (known_of draft) m) → (lines : List (List ℕ))
      → reading_after draft number (line ∷ lines) ≡ faulty number code
  line_wrong m code e f lines = first m e lines ∙ wrong (checked (known_of draft) m) code f lines

  said_all : (new : Draft) (s : Said) → ((later : List Said) → grouped new.items new.begun later ≡ grouped draft.items draft.begun (s ∷ later)) → (all : Lines)
      → script_after new all ≡ script_after draft (also_said s all)
  said_all new s g (good texts later) = ap (spells texts) (g later)
  said_all new s g (spoilt n c) = refl

  pub line_taken : (form : Form) (words : List (List ℕ)) (new : Draft) → says form words ≡ meaning number line → None ≡ fault_in (known_of draft) form words → Takes draft form words new
      → (lines : List (List ℕ)) → reading_after new (number + 1) lines ≡ reading_after draft number (line ∷ lines)
  unfolding by_meaning
  line_taken form words new e f t lines =
      said_all new (said form (parts_of (known_of draft) form words)) t.items (lines_from (known_of new) (number + 1) lines)
      ∙ ap (λ k. script_after draft (also_said (said form (parts_of (known_of draft) form words)) (lines_from k (number + 1) lines))) t.known
      ∙ sym (first (says form words) e lines ∙ ap (λ c. by_meaning draft number (says_or_bad c form words) lines) (sym f))

is_good : Meaning → Bool
is_good passed = true
is_good (says form words) = true
is_good (bad code) = false

not_too_many : (unprintable long many : Bool) (rest : Meaning) → is_good (if unprintable then bad 1 else if (long || many) then bad 5 else rest) ≡ true → many ≡ false
unfolding is_good
not_too_many true long many rest e = absurd (cc)
not_too_many false true many rest e = absurd (cc)
not_too_many false false true rest e = absurd (cc)
not_too_many false false false rest e = refl

-- a good line is not one too many
good_before_last : (number : ℕ) (line : List ℕ) → is_good (meaning number line) ≡ true → number ≤ 400001 → number + 1 ≤ 400001
unfolding meaning
good_before_last number line e below =
    let other : (number == 400001) ≡ false = not_too_many _ _ (number == 400001) _ e in grind (arith, nat_tests)

pub passed_before_last : (number : ℕ) (line : List ℕ) → passed ≡ meaning number line → number ≤ 400001 → number + 1 ≤ 400001
unfolding is_good
passed_before_last number line e below = good_before_last number line (ap is_good (sym e)) below

pub says_before_last : (number : ℕ) (line : List ℕ) (form : Form) (words : List (List ℕ)) → says form words ≡ meaning number line → number ≤ 400001 → number + 1 ≤ 400001
unfolding is_good
says_before_last number line form words e below = good_before_last number line (ap is_good (sym e)) below

-- no line is left, and no procedure is open
pub all_read : (draft : Draft) (number : ℕ) → draft.begun ≡ None → reading_after draft number [] ≡ spells draft.names draft.items
all_read draft number e =
    ap (λ b. script_after draft (cond (is_some b) (spoilt number 7) (good draft.names []))) e
    ∙ ap (λ b. spells draft.names (grouped draft.items b [])) e
    ∙ ap (spells draft.names) (append-nil draft.items)

pub not_ended : (draft : Draft) (number : ℕ) → is_some draft.begun ≡ true → reading_after draft number [] ≡ faulty number 7
not_ended draft number e = ap (λ b. script_after draft (cond b (spoilt number 7) (good draft.names []))) e

script_of_all : (draft : Draft) → draft.items ≡ [] → draft.begun ≡ None → (all : Lines) → script_after draft all ≡ script_of all
script_of_all draft none closed (good texts later) =
    ap (λ b. spells texts (grouped draft.items b later)) closed ∙ ap (λ is. spells texts (is ++ items_of false later)) none
script_of_all draft none closed (spoilt n c) = refl

-- the reading of no lines
pub reads_all : (draft : Draft) (lines : List (List ℕ)) → known_of draft ≡ nothing_known → draft.items ≡ [] → draft.begun ≡ None
    → reading_after draft 1 lines ≡ script_of (lines_from nothing_known 1 lines)
reads_all draft lines known none closed = ap (λ k. script_after draft (lines_from k 1 lines)) known ∙ script_of_all draft none closed (lines_from nothing_known 1 lines)

pub no_line : (bytes : List ℕ) → true ≡ (length bytes == 0) → lines_of bytes ≡ []
no_line [] e = refl
no_line (b ∷ bs) e = absurd (grind (arith, nat_tests))

pub one_proc_more : (procs : List (List ℕ)) (form : Form) (words : List (List ℕ)) → length (procs_after procs form words) ≤ length procs + 1
one_proc_more procs forms.Def words = length-with_text procs (word_at words 1)
one_proc_more procs form words = omega arith

pub one_class_more : (classes : List (List ℕ)) (form : Form) (words : List (List ℕ)) → length (classes_after classes form words) ≤ length classes + 1
one_class_more classes forms.Class words = length-with_text classes (word_at words 1)
one_class_more classes form words = omega arith
