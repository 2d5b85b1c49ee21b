-- A declared profile is 1 or 2, and is the first line.
use Rattle.std.proofs.Common.{◌≡◌, ℕ, ◌≤◌, List, [], ◌∷◌, length, drop, Bool, true, false, nat_le, refl, sym, ◌∙◌, arith}
use Rattle.std.specs.List.{All}
use Rattle.std.proofs.lemmas.List.Elements.{All-nil, All-cons, All-drop}
use Rattle.std.proofs.lemmas.Bool.Decides.{nat_tests}
use Rattle.cg_script.specs.declared.item.Item.TheVariants as items
use Rattle.cg_script.specs.declared.form.Form.{Form}
use Rattle.cg_script.specs.declared.form.Form.TheVariants as forms
use Rattle.cg_script.specs.declared.part.Part.{Part}
use Rattle.cg_script.specs.declared.part.Said.{Said}
use Rattle.cg_script.specs.declared.part.Said.TheVariants.{Declares, Begins, Ends, Does}
use Rattle.cg_script.specs.Words.{is_count, is_profile, decimal_value}
use Rattle.cg_script.specs.Forms.{row}
use Rattle.cg_script.specs.Meanings.{all_fit}
use Rattle.cg_script.specs.Parts.{Known, parts_of, parts_from}
use Rattle.cg_script.specs.Commands.{count_at, said}
use Rattle.cg_script.specs.Reading.{items_of, is_misplaced, lines_from, good}
use Rattle.cg_script.specs.Spelled.{IsNoProfile}
use Rattle.cg_script.proofs.Ascii.{both}
use Rattle.cg_script.proofs.LinesAdded.{first_outside}
use Rattle.cg_script.proofs.GoodLines.{faultless}
use Rattle.cg_script.proofs.LinesInOrder.{each_line}

pub profile_value : (word : List ℕ) → is_profile word ≡ true → (1 ≤ decimal_value word) × (decimal_value word ≤ 2)
profile_value word fit =
    let p = both (is_count 2 word) (nat_le 1 (decimal_value word)) fit in
    let least = p.1 in
    let most = (both _ (nat_le (decimal_value word) 2) p.0).1 in
    (grind (arith, nat_tests), grind (arith, nat_tests))

-- the count in the line of a profile
pub profile_count : (procs classes texts words : List (List ℕ)) → all_fit forms.Profile 0 words ≡ true → 2 ≤ length words
    → (1 ≤ count_at (parts_from procs classes texts forms.Profile 0 words) 1) × (count_at (parts_from procs classes texts forms.Profile 0 words) 1 ≤ 2)
profile_count procs classes texts [] fit enough = absurd (omega arith)
profile_count procs classes texts (word ∷ []) fit enough = absurd (omega arith)
profile_count procs classes texts (word ∷ count ∷ words) fit enough = profile_value count (both _ _ fit).0

pub few_profiles : (procs classes texts : List (List ℕ)) (form : Form) (words : List (List ℕ)) → all_fit form 0 words ≡ true → (row form).fewest ≤ length words → form ≡ forms.Profile
    → count_at (parts_from procs classes texts form 0 words) 1 ≤ 2
few_profiles procs classes texts forms.Profile words fit enough is = (profile_count procs classes texts words fit enough).1
few_profiles procs classes texts form words fit enough is = absurd (cc)

-- what a line says is no profile
abbrev pub SaysNoProfile : Said → Type 0
SaysNoProfile (Declares item) = IsNoProfile item
SaysNoProfile (Begins name) = Unit {0}
SaysNoProfile Ends = Unit {0}
SaysNoProfile (Does command) = Unit {0}

no_profile_behind : (known : Known) (form : Form) (parts : List Part) → is_misplaced known form ≡ false → known.started ≡ true → SaysNoProfile (said form parts)
no_profile_behind known forms.Profile parts placed started = let both_ways : false ≡ true = sym (first_outside known.inside known.started placed).1 ∙ started in absurd (cc)
no_profile_behind known form parts placed started = tt

abbrev pub NoProfiles : List Said → Type 0
NoProfiles [] = Unit {0}
NoProfiles (s ∷ ss) = SaysNoProfile s × NoProfiles ss

-- no line after the first says a profile, nor does the first if another is known
abbrev ProfilesFirst : ℕ → Known → List (List ℕ) → List Said → Type 0
ProfilesFirst number known texts saids = (known.started ≡ true → NoProfiles saids) × NoProfiles (drop 1 saids)

pub no_later_profiles : (lines : List (List ℕ)) (known : Known) (number : ℕ) (texts : List (List ℕ)) (saids : List Said) → lines_from known number lines ≡ good texts saids → NoProfiles (drop 1 saids)
no_later_profiles lines known number texts saids e =
    (each_line ProfilesFirst
    (λ number known inside. (λ started. tt, tt))
    (λ number known line texts saids m behind. behind)
    (λ number known line form words texts saids m clean behind.
    (λ started. (no_profile_behind known form (parts_of known form words) (faultless known form words clean).placed started, behind.0 refl), behind.0 refl))
    lines known number texts saids e).1

items_no_profile : (inside : Bool) (saids : List Said) → NoProfiles saids → All IsNoProfile (items_of inside saids)
items_no_profile inside [] none = All-nil IsNoProfile
items_no_profile inside (Declares item ∷ later) none = All-cons IsNoProfile item (items_of inside later) none.0 (items_no_profile inside later none.1)
items_no_profile inside (Begins name ∷ later) none = All-cons IsNoProfile _ (items_of true later) tt (items_no_profile true later none.1)
items_no_profile inside (Ends ∷ later) none = items_no_profile false later none.1
items_no_profile true (Does command ∷ later) none = items_no_profile true later none.1
items_no_profile false (Does command ∷ later) none = All-cons IsNoProfile (items.Run command) (items_of false later) tt (items_no_profile false later none.1)

-- a profile is the first item
pub profile_is_first : (inside : Bool) (saids : List Said) → NoProfiles (drop 1 saids) → All IsNoProfile (drop 1 (items_of inside saids))
profile_is_first inside [] none = All-nil IsNoProfile
profile_is_first inside (Declares item ∷ later) none = items_no_profile inside later none
profile_is_first inside (Begins name ∷ later) none = items_no_profile true later none
profile_is_first inside (Ends ∷ later) none = All-drop IsNoProfile 1 (items_of false later) (items_no_profile false later none)
profile_is_first true (Does command ∷ later) none = All-drop IsNoProfile 1 (items_of true later) (items_no_profile true later none)
profile_is_first false (Does command ∷ later) none = items_no_profile false later none
