-- Properties of each script that some bytes spell.
use Rattle.std.proofs.Common.{◌≡◌, ℕ, ◌≤◌, List, [], ◌∷◌, length, length-drop, drop, Bool, true, false, ap, subst, arith, Result, Ok, Err, Some, nat_le}
use Rattle.std.specs.Prelude.{IfOk}
use Rattle.std.specs.List.{All}
use Rattle.std.proofs.lemmas.List.{length-map}
use Rattle.std.proofs.lemmas.List.Elements.{All-nil, All-cons}
use Rattle.std.proofs.lemmas.Bool.Decides.{nat_tests}
use Rattle.cg_script.specs.declared.form.Form.{Form}
use Rattle.cg_script.specs.declared.form.Form.TheVariants as forms
use Rattle.cg_script.specs.declared.item.Item.TheVariants as items
use Rattle.cg_script.specs.declared.item.Script.{Script}
use Rattle.cg_script.specs.declared.part.Part.{Part}
use Rattle.cg_script.specs.declared.part.Said.{Said}
use Rattle.cg_script.specs.declared.part.Said.TheVariants.{Declares, Begins, Ends, Does}
use Rattle.cg_script.specs.Texts.{command_texts}
use Rattle.cg_script.specs.Spelled.{HasFewWords, IsSpelledCommand, IsSpelledItem, IsNoProfile, IsSpelled}
use Rattle.cg_script.specs.Words.{are_digits, is_count, decimal_value}
use Rattle.cg_script.specs.Forms.{row}
use Rattle.cg_script.specs.Meanings.{all_fit}
use Rattle.cg_script.specs.Parts.{Known, parts_of}
use Rattle.cg_script.specs.Commands.{value_or, values_from, said}
use Rattle.cg_script.specs.Reading.{body_of, items_of, spells, reading}
use Rattle.cg_script.proofs.Ascii.{both}
use Rattle.cg_script.proofs.TextNumbers.{Below, below_all}
use Rattle.cg_script.proofs.GoodWords.{says_fits}
use Rattle.cg_script.proofs.KnownTexts.{said_texts, length-parts_from}
use Rattle.cg_script.proofs.Profiles.{profile_count, profile_is_first}
use Rattle.cg_script.proofs.EachLine.{EachSaid, Holds, texts_hold, said_so}

-- a line has few words
HasFew : Said → Type 0
HasFew (Does command) = HasFewWords command
HasFew other = Unit {0}

few_values : (ps : List Part) (n : ℕ) → length (values_from ps n) ≤ length ps
few_values ps n = omega (arith, length-map (drop n ps) (λ part. value_or (Some part)), length-drop n ps)

few_cells : (ps : List Part) → length ps ≤ 12 → length (values_from ps 4) ≤ 8
few_cells ps most = omega (arith, length-map (drop 4 ps) (λ part. value_or (Some part)), length-drop 4 ps)

has_few : (form : Form) (ps : List Part) → length ps ≤ (row form).most → HasFew (said form ps)
unfolding HasFew
has_few forms.MakeList ps most = omega (arith, few_values ps 3)
has_few forms.MakeTuple ps most = omega (arith, few_values ps 3)
has_few forms.MakeFunc ps most = few_cells ps most
has_few form ps most = tt

-- a declaration of one line is a class, a shutdown, or a profile or a budget within the limits
IsDeclared : Said → Type 0
IsDeclared (Declares (items.Profile n)) = (1 ≤ n) × (n ≤ 2)
IsDeclared (Declares (items.Budget n)) = n ≤ 100000
IsDeclared (Declares (items.Def p)) = ⊥
IsDeclared (Declares (items.Run c)) = ⊥
IsDeclared other = Unit {0}

within : (most : ℕ) (word : List ℕ) → is_count most word ≡ true → decimal_value word ≤ most
within most word e = let last : nat_le (decimal_value word) most ≡ true = (both (are_digits 10 word) (nat_le (decimal_value word) most) e).1 in grind (arith, nat_tests)

is_declared : (known : Known) (form : Form) (words : List (List ℕ)) → all_fit form 0 words ≡ true → (row form).fewest ≤ length words → IsDeclared (said form (parts_of known form words))
unfolding IsDeclared
is_declared known forms.Profile words fit enough = profile_count known.procs known.classes known.texts words fit enough
is_declared known forms.Budget [] fit enough = absurd (omega arith)
is_declared known forms.Budget (word ∷ []) fit enough = absurd (omega arith)
is_declared known forms.Budget (word ∷ count ∷ words) fit enough = within 100000 count (both _ _ fit).0
is_declared known form words fit enough = tt

IsSpelledSaid : ℕ → Said → Type 0
IsSpelledSaid n (Does command) = IsSpelledCommand n command
IsSpelledSaid n (Declares item) = IsSpelledItem n item
IsSpelledSaid n (Begins name) = Unit {0}
IsSpelledSaid n Ends = Unit {0}

is_spelled : (n : ℕ) (s : Said) → Below n (said_texts s) → HasFew s → IsDeclared s → IsSpelledSaid n s
unfolding HasFew IsDeclared IsSpelledSaid
is_spelled n (Does command) below few declared = record { known = below_all n (command_texts command) below; few_words = few }
is_spelled n (Declares (items.Profile m)) below few declared = declared
is_spelled n (Declares items.Shutdown) below few declared = tt
is_spelled n (Declares (items.Budget m)) below few declared = declared
is_spelled n (Declares (items.Class c)) below few declared = tt
is_spelled n (Declares (items.Def p)) below few declared = absurd declared
is_spelled n (Declares (items.Run c)) below few declared = absurd declared
is_spelled n (Begins name) below few declared = tt
is_spelled n Ends below few declared = tt

lines_spelled : Holds IsSpelledSaid
lines_spelled n number known line form words m below =
    let fitting = says_fits number line form words m in
    let ps = parts_of known form words in
    let count : length ps ≡ length words = length-parts_from known.procs known.classes form words known.texts 0 in
    let enough = fitting.enough in
    let most = fitting.most in
    is_spelled n (said form ps) (texts_hold n number known line form words m below) (has_few form ps (omega arith)) (is_declared known form words fitting.fit enough)

length-body_of : (saids : List Said) → length (body_of saids) ≤ length saids
length-body_of [] = omega arith
length-body_of (Does command ∷ later) = let more = length-body_of later in omega arith
length-body_of (Declares item ∷ later) = omega arith
length-body_of (Begins name ∷ later) = omega arith
length-body_of (Ends ∷ later) = omega arith

length-items_of : (inside : Bool) (saids : List Said) → length (items_of inside saids) ≤ length saids
length-items_of inside [] = omega arith
length-items_of inside (Declares item ∷ later) = let more = length-items_of inside later in omega arith
length-items_of inside (Begins name ∷ later) = let more = length-items_of true later in omega arith
length-items_of inside (Ends ∷ later) = let more = length-items_of false later in omega arith
length-items_of true (Does command ∷ later) = let more = length-items_of true later in omega arith
length-items_of false (Does command ∷ later) = let more = length-items_of false later in omega arith

body_spelled : (n : ℕ) (saids : List Said) → EachSaid (IsSpelledSaid n) saids → All (IsSpelledCommand n) (body_of saids)
unfolding IsSpelledSaid
body_spelled n [] each = All-nil (IsSpelledCommand n)
body_spelled n (Does command ∷ later) each = All-cons (IsSpelledCommand n) command (body_of later) each.0 (body_spelled n later each.1)
body_spelled n (Declares item ∷ later) each = All-nil (IsSpelledCommand n)
body_spelled n (Begins name ∷ later) each = All-nil (IsSpelledCommand n)
body_spelled n (Ends ∷ later) each = All-nil (IsSpelledCommand n)

items_spelled : (n : ℕ) (inside : Bool) (saids : List Said) → length saids ≤ 400000 → EachSaid (IsSpelledSaid n) saids → All (IsSpelledItem n) (items_of inside saids)
unfolding IsSpelledSaid
items_spelled n inside [] few each = All-nil (IsSpelledItem n)
items_spelled n inside (Declares item ∷ later) few each = All-cons (IsSpelledItem n) item (items_of inside later) each.0 (items_spelled n inside later (omega arith) each.1)
items_spelled n inside (Begins name ∷ later) few each =
    let short = length-body_of later in
    All-cons (IsSpelledItem n) (items.Def (record { name = name; body = body_of later })) (items_of true later) (omega arith, body_spelled n later each.1)
    (items_spelled n true later (omega arith) each.1)
items_spelled n inside (Ends ∷ later) few each = items_spelled n false later (omega arith) each.1
items_spelled n true (Does command ∷ later) few each = items_spelled n true later (omega arith) each.1
items_spelled n false (Does command ∷ later) few each = All-cons (IsSpelledItem n) (items.Run command) (items_of false later) each.0 (items_spelled n false later (omega arith) each.1)

-- the texts of a parsed script
pub short_texts : (bytes : List ℕ) (script : Script) → reading bytes ≡ spells script.names script.items → All (λ text. length text ≤ 1024) script.names
short_texts bytes script e = (said_so IsSpelledSaid lines_spelled bytes script.names script.items e).short

-- a parsed script, with few texts
pub spelled_script : (bytes : List ℕ) (script : Script) → reading bytes ≡ spells script.names script.items → length script.names ≤ 25600000 → IsSpelled script
spelled_script bytes script e few_texts =
    let n = length script.names in
    let so = said_so IsSpelledSaid lines_spelled bytes script.names script.items e in
    let few = so.few in
    let lines : All (IsSpelledItem n) (items_of false so.saids) = items_spelled n false so.saids few so.each in
    let count = length-items_of false so.saids in
    let first : All IsNoProfile (drop 1 (items_of false so.saids)) = profile_is_first false so.saids so.profile_first in
    record {
      lines = subst (λ is. All (IsSpelledItem n) is) so.items_so lines;
      profile_first = subst (λ is. All IsNoProfile (drop 1 is)) so.items_so first;
      few_lines = omega (arith, ap length so.items_so);
      short = so.short;
      few_texts = few_texts;
    }

pub spelled_if : {E : Type 0} (bytes : List ℕ) (result : Result Script E) → IfOk result (λ script. reading bytes ≡ spells script.names script.items)
    → IfOk result (λ script. length script.names ≤ 25600000)
    → IfOk result IsSpelled
spelled_if bytes (Ok script) e few = spelled_script bytes script e few
spelled_if bytes (Err fault) e few = tt
