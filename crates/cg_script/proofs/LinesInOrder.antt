-- Properties of all lines of a script, line by line, if none is bad.
use Rattle.std.proofs.Common.{◌≡◌, ℕ, ◌+◌, List, [], ◌∷◌, Bool, true, false, cond, Option, None, Some, refl, sym, subst}
use Rattle.cg_script.specs.declared.form.Form.{Form}
use Rattle.cg_script.specs.declared.part.Said.{Said}
use Rattle.cg_script.specs.Meanings.{Meaning, passed, says, bad, meaning}
use Rattle.cg_script.specs.Parts.{Known, parts_of}
use Rattle.cg_script.specs.Commands.{said}
use Rattle.cg_script.specs.Reading.{fault_in, says_or_bad, checked, meant, known_after, Lines, good, spoilt, also_said, with_later, lines_from}

-- a line of a form, with nothing wrong after what is known
record Clean (known : Known) (m : Meaning) (form : Form) (words : List (List ℕ)) : Type 0 where
  says_so : m ≡ says form words
  clean : fault_in known form words ≡ None

clean_if : (known : Known) (fault : Option ℕ) (form other : Form) (words others : List (List ℕ)) → fault_in known other others ≡ fault → says_or_bad fault other others ≡ says form words
    → Clean known (says other others) form words
clean_if known None form other words others ef e =
    let same_form : other ≡ form = cc in
    let same_words : others ≡ words = cc in
    record {
      says_so = e;
      clean = subst (λ ws. fault_in known form ws ≡ None) same_words (subst (λ f. fault_in known f others ≡ None) same_form ef);
    }
clean_if known (Some code) form other words others ef e = absurd (cc)

checked_says : (known : Known) (m : Meaning) (form : Form) (words : List (List ℕ)) → checked known m ≡ says form words → Clean known m form words
checked_says known passed form words e = absurd (cc)
checked_says known (says other others) form words e = clean_if known (fault_in known other others) form other words others refl e
checked_says known (bad code) form words e = absurd (cc)

never_passed : (fault : Option ℕ) (form : Form) (words : List (List ℕ)) → says_or_bad fault form words ≡ passed → says form words ≡ passed
never_passed None form words e = absurd (cc)
never_passed (Some code) form words e = absurd (cc)

checked_passed : (known : Known) (m : Meaning) → checked known m ≡ passed → m ≡ passed
checked_passed known passed e = refl
checked_passed known (says form words) e = never_passed (fault_in known form words) form words e
checked_passed known (bad code) e = absurd (cc)

meant_says : (known : Known) (number : ℕ) (line : List ℕ) (form : Form) (words : List (List ℕ)) → meant known number line ≡ says form words
    → Clean known (meaning number line) form words
unfolding meant
meant_says known number line form words e = checked_says known (meaning number line) form words e

meant_passed : (known : Known) (number : ℕ) (line : List ℕ) → meant known number line ≡ passed → meaning number line ≡ passed
unfolding meant
meant_passed known number line e = checked_passed known (meaning number line) e

-- A property of what lines say from a number on, given what is known and all texts of the script. It holds for no lines, and
-- each line keeps it.
module _ (Fact : ℕ → Known → List (List ℕ) → List Said → Type 0)
    (at_end : (number : ℕ) (known : Known) → known.inside ≡ false → Fact number known known.texts [])
    (by_passed : (number : ℕ) (known : Known) (line : List ℕ) (texts : List (List ℕ)) (saids : List Said) → passed ≡ meaning number line
    → Fact (number + 1) known texts saids → Fact number known texts saids)
    (by_said : (number : ℕ) (known : Known) (line : List ℕ) (form : Form) (words texts : List (List ℕ)) (saids : List Said) → says form words ≡ meaning number line → fault_in known form words ≡ None
    → Fact (number + 1) (known_after known form words) texts saids → Fact number known texts (said form (parts_of known form words) ∷ saids)) where
  same : (number : ℕ) (known : Known) (texts texts2 : List (List ℕ)) (saids saids2 : List Said) → texts2 ≡ texts → saids2 ≡ saids → Fact number known texts2 saids2 → Fact number known texts saids
  same number known texts texts2 saids saids2 et es fact = subst (λ ss. Fact number known texts ss) es (subst (λ ts. Fact number known ts saids2) et fact)

  also : (number : ℕ) (known : Known) (line : List ℕ) (form : Form) (words : List (List ℕ)) → says form words ≡ meaning number line → fault_in known form words ≡ None → (later : Lines)
      → ((texts : List (List ℕ)) (saids : List Said) → later ≡ good texts saids → Fact (number + 1) (known_after known form words) texts saids)
      → (texts : List (List ℕ)) (saids : List Said) → also_said (said form (parts_of known form words)) later ≡ good texts saids → Fact number known texts saids
  also number known line form words m f (spoilt n c) rest texts saids e = absurd (cc)
  also number known line form words m f (good texts2 saids2) rest texts saids e =
      let same_texts : texts2 ≡ texts = cc in
      let same_saids : said form (parts_of known form words) ∷ saids2 ≡ saids = cc in
      same number known texts texts2 saids (said form (parts_of known form words) ∷ saids2) same_texts same_saids (by_said number known line form words texts2 saids2 m f (rest texts2 saids2 refl))

  by_meaning : (number : ℕ) (known : Known) (line : List ℕ) (later : Known → Lines)
      → ((behind : Known) (texts : List (List ℕ)) (saids : List Said) → later behind ≡ good texts saids → Fact (number + 1) behind texts saids)
      → (m : Meaning) → meant known number line ≡ m → (texts : List (List ℕ)) (saids : List Said) → with_later known number m later ≡ good texts saids → Fact number known texts saids
  by_meaning number known line later rest passed em texts saids e = by_passed number known line texts saids (sym (meant_passed known number line em)) (rest known texts saids e)
  by_meaning number known line later rest (bad code) em texts saids e = absurd (cc)
  by_meaning number known line later rest (says form words) em texts saids e =
      let clean = meant_says known number line form words em in
      also number known line form words (sym clean.says_so) clean.clean (later (known_after known form words)) (rest (known_after known form words)) texts saids e

  at_last : (known : Known) (number : ℕ) (b : Bool) (texts : List (List ℕ)) (saids : List Said) → known.inside ≡ b → cond b (spoilt number 7)
      (good known.texts []) ≡ good texts saids → Fact number known texts saids
  at_last known number true texts saids eb e = absurd (cc)
  at_last known number false texts saids eb e =
      let same_texts : known.texts ≡ texts = cc in
      let same_saids : [] ≡ saids = cc in
      same number known texts known.texts saids [] same_texts same_saids (at_end number known eb)

  pub each_line : (lines : List (List ℕ)) (known : Known) (number : ℕ) (texts : List (List ℕ)) (saids : List Said) → lines_from known number lines ≡ good texts saids → Fact number known texts saids
  each_line [] known number texts saids e = at_last known number known.inside texts saids refl e
  each_line (line ∷ lines) known number texts saids e =
      by_meaning number known line (λ behind. lines_from behind (number + 1) lines) (λ behind ts ss h. each_line lines behind (number + 1) ts ss h) (meant known number line) refl texts saids e
