-- What the first of some lines says, and where consecutive commands are.
use Rattle.std.proofs.Common.{◌≡◌, ℕ, ◌+◌, List, [], ◌∷◌, ◌++◌, length, map, Bool, true, false, not, ◌||◌, ◌==◌, cond, Option, Some, None, refl, sym, ap, subst, ◌∙◌, inl, inr}
use Rattle.std.specs.Prelude.{if◌then◌else◌, nat_lt}
use Rattle.std.specs.List.{list_all}
use Rattle.cg_script.specs.declared.item.Item.{Item}
use Rattle.cg_script.specs.declared.item.Item.TheVariants as variants
use Rattle.cg_script.specs.declared.command.Command.{Command}
use Rattle.cg_script.specs.declared.form.Form.{Form}
use Rattle.cg_script.specs.declared.part.Said.{Said}
use Rattle.cg_script.specs.declared.part.Said.TheVariants.{Declares, Begins, Ends, Does}
use Rattle.cg_script.specs.Items.{commands_of}
use Rattle.cg_script.specs.Pieces.{words_of}
use Rattle.cg_script.specs.Words.{is_printable}
use Rattle.cg_script.specs.Meanings.{Meaning, passed, says, bad, fits, all_fit, repeats_finalizer, formed, worded, is_passed, meaning}
use Rattle.cg_script.specs.Forms.{sort_at}
use Rattle.cg_script.specs.Parts.{Known, parts_of}
use Rattle.cg_script.specs.Commands.{said}
use Rattle.cg_script.specs.Reading.{fault_in, says_or_bad, checked, meant, known_after, Lines, good, spoilt, also_said, with_later, lines_from, body_of, items_of}
use Rattle.cg_script.specs.Views.{is_placed, inside_behind}
use Rattle.cg_script.proofs.Ascii.{both}
use Rattle.cg_script.proofs.GoodLines.{faultless}
use Rattle.cg_script.proofs.LinesAdded.{placed, inside_said}
use Rattle.cg_weakcoll.specs.MapLines.{StandTogether, Outside, InProcedure}

-- what the first of some good lines says, by its form and its words
pub record Line (texts : List (List ℕ)) (known : Known) (number : ℕ) (form : Form) (words lines : List (List ℕ)) (saids : List Said) : Type 0 where
  pub later : List Said
  pub is : said form (parts_of known form words) ∷ later ≡ saids
  pub goes : lines_from (known_after known form words) (number + 1) lines ≡ good texts later
  pub clean : fault_in known form words ≡ None

-- what it means; the others are good after it
pub data First (known : Known) (number : ℕ) (line : List ℕ) (lines texts : List (List ℕ)) (saids : List Said) : Type 0 where
  Passes : passed ≡ meaning number line → lines_from known (number + 1) lines ≡ good texts saids → First known number line lines texts saids
  Says : (form : Form) (words : List (List ℕ)) → says form words ≡ meaning number line → Line texts known number form words lines saids → First known number line lines texts saids

meant_is : (known : Known) (number : ℕ) (line : List ℕ) → meant known number line ≡ checked known (meaning number line)
unfolding meant
meant_is known number line = refl

-- each word from a place on has the form that its place requires
abbrev pub AllFit : Form → ℕ → List (List ℕ) → Type 0
AllFit form place [] = Unit {0}
AllFit form place (word ∷ words) = (fits (sort_at form place) word ≡ true) × AllFit form (place + 1) words

every_fit : (form : Form) (place : ℕ) (words : List (List ℕ)) → all_fit form place words ≡ true → AllFit form place words
every_fit form place [] e = tt
every_fit form place (word ∷ words) e =
    let parts = both (fits (sort_at form place) word) (all_fit form (place + 1) words) e in
    (parts.0, every_fit form (place + 1) words parts.1)

not_false : (a b : Bool) → (not a || b) ≡ false → a ≡ true
not_false true b e = refl
not_false false b e = absurd (cc)

module _ (known : Known) (number : ℕ) (lines texts : List (List ℕ)) (saids : List Said) where
  -- a line of this meaning and the others are good
  abbrev AreGood : Meaning → Type 0
  AreGood m = with_later known number (checked known m) (λ behind. lines_from behind (number + 1) lines) ≡ good texts saids

  also : (form : Form) (words : List (List ℕ)) → fault_in known form words ≡ None → (l : Lines) → lines_from (known_after known form words) (number + 1) lines ≡ l
      → also_said (said form (parts_of known form words)) l ≡ good texts saids → Line texts known number form words lines saids
  also form words f (spoilt n c) el e = absurd (cc)
  also form words f (good ts ss) el e =
      let same_texts : ts ≡ texts = cc in
      let same_saids : said form (parts_of known form words) ∷ ss ≡ saids = cc in
      record { later = ss; is = same_saids; goes = el ∙ ap (λ t. good t ss) same_texts; clean = f }

  says_line : (form : Form) (words : List (List ℕ)) → AreGood (says form words) → Line texts known number form words lines saids
  says_line form words e = go (fault_in known form words) refl e
    where
      go : (fault : Option ℕ) → fault_in known form words ≡ fault → with_later known number (says_or_bad fault form words)
          (λ behind. lines_from behind (number + 1) lines) ≡ good texts saids → Line texts known number form words lines saids
      go None f k = also form words f (lines_from (known_after known form words) (number + 1) lines) refl k
      go (Some code) f k = absurd (cc)

  means : (line : List ℕ) → lines_from known number (line ∷ lines) ≡ good texts saids → AreGood (meaning number line)
  means line e = ap (λ m. with_later known number m (λ behind. lines_from behind (number + 1) lines)) (sym (meant_is known number line)) ∙ e

  pub first_line : (line : List ℕ) → lines_from known number (line ∷ lines) ≡ good texts saids → First known number line lines texts saids
  first_line line e = by_meaning (meaning number line) refl (means line e)
    where
      by_meaning : (m : Meaning) → m ≡ meaning number line → AreGood m → First known number line lines texts saids
      by_meaning passed em k = Passes em k
      by_meaning (says form words) em k = Says form words em (says_line form words k)
      by_meaning (bad code) em k = absurd (cc)

  -- the words of a line that is not ignored select its form and fit it
  pub one_line : (form : Form) (words : List (List ℕ)) (line : List ℕ) → words_of line ≡ words → is_passed words ≡ false → worded words ≡ formed form words
      → lines_from known number (line ∷ lines) ≡ good texts saids → Line texts known number form words lines saids × AllFit form 0 words
  unfolding meaning
  one_line form words line is unpassed meant e =
      let by : Meaning → Meaning = λ m. cond (not (list_all is_printable line)) (bad 1) (cond (nat_lt 1024 (length line) || nat_lt 64 (length (words_of line)) || (number == 400001)) (bad 5) m) in
      let told : AreGood (says form words) × ((not (all_fit form 0 words) || repeats_finalizer form words) ≡ false) =
      go _ _ _ _ (ap (λ m. with_later known number (checked known (by m)) (λ behind. lines_from behind (number + 1) lines))
      (sym (ap (λ ws. cond (is_passed ws) passed (worded ws)) is ∙ ap (λ b. cond b passed (worded words)) unpassed ∙ meant)) ∙ means line e) in
      (says_line form words told.0, every_fit form 0 words (not_false (all_fit form 0 words) (repeats_finalizer form words) told.1))
    where
      go : (a b c d : Bool) → AreGood (cond a (bad 1) (cond b (bad 5) (cond c (bad 3) (cond d (bad 4) (says form words))))) → AreGood (says form words) × (d ≡ false)
      go false false false false k = (k, refl)
      go bit b c d k = absurd (cc)

-- declarations are outside procedures, and `end` is inside one
abbrev pub AreNested : Bool → List Said → Type 0
AreNested inside [] = Unit {0}
AreNested inside (s ∷ ss) = (is_placed s inside ≡ true) × AreNested (inside_behind s inside) ss

pub nested : (lines : List (List ℕ)) (known : Known) (number : ℕ) (texts : List (List ℕ)) (saids : List Said) → lines_from known number lines ≡ good texts saids → AreNested known.inside saids
nested [] known number texts saids e = go known.inside refl e
  where
    go : (b : Bool) → known.inside ≡ b → (if b then spoilt number 7 else good known.texts []) ≡ good texts saids → AreNested known.inside saids
    go true i k = absurd (cc)
    go false i k = let none : [] ≡ saids = cc in subst (AreNested known.inside) none tt
nested (line ∷ lines) known number texts saids e = go (λ k n ss h. nested lines k n texts ss h) (first_line known number lines texts saids line e)
  where
    go : ((k : Known) (n : ℕ) (ss : List Said) → lines_from k n lines ≡ good texts ss → AreNested k.inside ss) → First known number line lines texts saids → AreNested known.inside saids
    go ih (Passes m rest) = ih known (number + 1) saids rest
    go ih (Says form words m s) = subst (AreNested known.inside) s.is (
      placed known form (parts_of known form words) (faultless known form words s.clean).placed,
      subst (λ b. AreNested b s.later) (sym (inside_said form (parts_of known form words) known.inside)) (ih (known_after known form words) (number + 1) s.later s.goes),
    )

-- where commands said in sequence are
pub data Stands (inside : Bool) (saids : List Said) (commands : List Command) : Type 0 where
  InOpen : inside ≡ true → (front back : List Command) → body_of saids ≡ front ++ commands ++ back → Stands inside saids commands
  InItems : StandTogether (items_of inside saids) commands → Stands inside saids commands

more_items : (item : Item) (items : List Item) (commands : List Command) → StandTogether items commands → StandTogether (item ∷ items) commands
more_items (variants.Run c) items commands (Outside front back e) = Outside (c ∷ front) back (ap (λ l. c ∷ l) e)
more_items item items commands (Outside front back e) = Outside front back e
more_items (variants.Def q) items commands (InProcedure p front back m e) = InProcedure p front back (inr m) e
more_items item items commands (InProcedure p front back m e) = InProcedure p front back m e

abbrev pub does_all : List Command → List Said
does_all commands = map (λ c. Does c) commands

run_all : (commands : List Command) (later : List Said) → commands_of (items_of false (does_all commands ++ later)) ≡ commands ++ commands_of (items_of false later)
run_all [] later = refl
run_all (c ∷ commands) later = ap (λ l. c ∷ l) (run_all commands later)

body_all : (commands : List Command) (later : List Said) → body_of (does_all commands ++ later) ≡ commands ++ body_of later
body_all [] later = refl
body_all (c ∷ commands) later = ap (λ l. c ∷ l) (body_all commands later)

module _ (commands : List Command) (later : List Said) where
  more_said : (s : Said) (inside : Bool) (saids : List Said) → is_placed s inside ≡ true → Stands (inside_behind s inside) saids commands → Stands inside (s ∷ saids) commands
  more_said (Does c) true saids p (InOpen i front back e) = InOpen refl (c ∷ front) back (ap (λ l. c ∷ l) e)
  more_said (Does c) true saids p (InItems t) = InItems t
  more_said (Does c) false saids p (InItems t) = InItems (more_items (variants.Run c) (items_of false saids) commands t)
  more_said (Declares item) false saids p (InItems t) = InItems (more_items item (items_of false saids) commands t)
  more_said (Begins name) false saids p (InOpen i front back e) = InItems (InProcedure (record { name = name; body = body_of saids }) front back (inl refl) e)
  more_said other false saids p (InOpen i front back e) = absurd (let no : false ≡ true = i in cc)
  more_said (Begins name) false saids p (InItems t) = InItems (more_items (variants.Def (record { name = name; body = body_of saids })) (items_of true saids) commands t)
  more_said Ends true saids p (InOpen i front back e) = absurd (let no : false ≡ true = i in cc)
  more_said Ends true saids p (InItems t) = InItems t
  more_said shape b saids p s = absurd (let no : false ≡ true = p in cc)

  stand_on : (before : List Said) (inside : Bool) → AreNested inside (before ++ (does_all commands ++ later)) → Stands inside (before ++ (does_all commands ++ later)) commands
  stand_on [] true n = InOpen refl [] (body_of later) (body_all commands later)
  stand_on [] false n = InItems (Outside [] (commands_of (items_of false later)) (run_all commands later))
  stand_on (s ∷ before) inside n = more_said s inside (before ++ (does_all commands ++ later)) n.0 (stand_on before (inside_behind s inside) n.1)

  outside_stand : (saids : List Said) → Stands false saids commands → StandTogether (items_of false saids) commands
  outside_stand saids (InOpen i front back e) = absurd (let no : false ≡ true = i in cc)
  outside_stand saids (InItems t) = t

  -- commands said in sequence are consecutive
  pub stand_together : (before : List Said) → AreNested false (before ++ (does_all commands ++ later)) → StandTogether (items_of false (before ++ (does_all commands ++ later))) commands
  stand_together before n = outside_stand (before ++ (does_all commands ++ later)) (stand_on before false n)
