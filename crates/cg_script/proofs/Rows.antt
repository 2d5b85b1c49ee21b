-- What each form says is printed by the parts that were read.
use Rattle.std.proofs.Common.{◌≡◌, ℕ, zero, suc, ◌+◌, ◌≤◌, List, [], ◌∷◌, length, map, false, Option, None, Some, refl, sym, ap, subst, ◌∙◌, arith}
use Rattle.std.proofs.lemmas.List.{get_or_past}
use Rattle.cg_script.specs.declared.form.Form.{Form}
use Rattle.cg_script.specs.declared.form.Form.TheVariants as forms
use Rattle.cg_script.specs.declared.form.Sort.{Sort}
use Rattle.cg_script.specs.declared.form.Sort.TheVariants.{Value}
use Rattle.cg_script.specs.declared.part.Part.{Part}
use Rattle.cg_script.specs.declared.part.Part.TheVariants as parts
use Rattle.cg_value.specs.Texts.{text_number, with_text}
use Rattle.cg_script.specs.Pieces.{word_at}
use Rattle.cg_script.specs.Tables.{named}
use Rattle.cg_script.specs.Forms.{row, sort_at, word_of, binding_forms, bindings}
use Rattle.cg_script.specs.Parts.{Known, part_of, parts_from, parts_of, text_in, with_text_if, numbered, defined_number, is_unknown, has_unknown}
use Rattle.cg_script.specs.Commands.{value_or, count_or, said, filled, binding, said_filled}
use Rattle.cg_script.proofs.PrintedParts.{neither}
use Rattle.cg_script.proofs.Found.{by_words-is}
use Rattle.cg_script.proofs.GoodLines.{Good, Same, same_self}

-- a line that is good behind what is known
pub record Given (known : Known) (form : Form) (ws : List (List ℕ)) : Type 0 where
  pub good : Good form ws
  pub defined : has_unknown (parts_of known form ws) ≡ false

-- what is said of some parts is printed by these parts
abbrev pub Tidy : Form → List Part → Type 0
Tidy form ps = said_filled (said form ps) ≡ filled form ps

-- What is printed of a line: other words that stand for the same.
pub record Row (known : Known) (form : Form) (ws : List (List ℕ)) : Type 0 where
  pub standing : List (List ℕ)
  pub good : Good form standing
  pub same : Same known form ws standing
  pub tidy : Tidy form (parts_of known form standing)

-- mostly these are the words that were read
pub plain_row : (known : Known) (form : Form) (ws : List (List ℕ)) → Given known form ws → Tidy form (parts_of known form ws) → Row known form ws
plain_row known form ws given tidy = record { standing = ws; good = given.good; same = same_self known form ws given.defined; tidy = tidy }

-- so many words
spread : ℕ → (ℕ → List ℕ) → List (List ℕ)
spread zero w = []
spread (suc k) w = w 0 ∷ spread k (λ i. w (suc i))

is_spread : (k : ℕ) (ws : List (List ℕ)) → length ws ≡ k → spread k (word_at ws) ≡ ws
unfolding spread
is_spread zero [] e = refl
is_spread zero (w ∷ ws) e = absurd (omega arith)
is_spread (suc k) [] e = absurd (omega arith)
is_spread (suc k) (w ∷ ws) e = ap (λ (l : List (List ℕ)). w ∷ l) (is_spread k ws (omega arith))

pub three_first : (P : List (List ℕ) → Type 0) (ws : List (List ℕ)) → 3 ≤ length ws → ((a b c : List ℕ) (rest : List (List ℕ)) → P (a ∷ b ∷ c ∷ rest)) → P ws
three_first P [] enough p = absurd (omega arith)
three_first P (a ∷ []) enough p = absurd (omega arith)
three_first P (a ∷ b ∷ []) enough p = absurd (omega arith)
three_first P (a ∷ b ∷ c ∷ rest) enough p = p a b c rest

-- a procedure or class that is defined has its number
numbered_tidy : (found : Option ℕ) → is_unknown (numbered found) ≡ false → parts.Count (count_or (Some (numbered found))) ≡ numbered found
numbered_tidy None known = absurd (cc)
numbered_tidy (Some k) known = refl

-- the values behind the first places of a form
values_tidy : (procs classes : List (List ℕ)) (form : Form) (ws texts : List (List ℕ)) (place : ℕ) → ((i : ℕ) → place ≤ i → sort_at form i ≡ Value)
    → map parts.Value (map (λ part. value_or (Some part)) (parts_from procs classes texts form place ws)) ≡ parts_from procs classes texts form place ws
values_tidy procs classes form [] texts place values = refl
values_tidy procs classes form (w ∷ ws) texts place values =
    let more = with_text_if texts (text_in (sort_at form place) w) in
    let here : parts.Value (value_or (Some (part_of procs classes texts (sort_at form place) w))) ≡ part_of procs classes texts (sort_at form place) w =
    subst (λ (s : Sort). parts.Value (value_or (Some (part_of procs classes texts s w))) ≡ part_of procs classes texts s w) (sym (values place (omega arith))) refl in
    ap (λ (p : Part). p ∷ map parts.Value (map (λ part. value_or (Some part)) (parts_from procs classes more form (place + 1) ws))) here
    ∙ ap (λ (l : List Part). part_of procs classes texts (sort_at form place) w ∷ l) (values_tidy procs classes form ws more (place + 1) (λ i h. values i (omega arith)))

module _ (known : Known) where
  -- forms of a fixed number of words
  fixed_tidy : (form : Form) (w : ℕ → List ℕ) → (row form).fewest ≡ (row form).most → has_unknown (parts_of known form (spread (row form).fewest w)) ≡ false
      → Tidy form (parts_of known form (spread (row form).fewest w))
  unfolding spread
  fixed_tidy forms.MakeList w fixed defined = absurd (omega arith)
  fixed_tidy forms.MakeTuple w fixed defined = absurd (omega arith)
  fixed_tidy forms.MakeFunc w fixed defined = absurd (omega arith)
  fixed_tidy forms.MakeRef w fixed defined = absurd (omega arith)
  fixed_tidy forms.Collect w fixed defined = absurd (omega arith)
  fixed_tidy forms.Threshold w fixed defined = absurd (omega arith)
  fixed_tidy forms.Flags w fixed defined = absurd (omega arith)
  fixed_tidy forms.Class w fixed defined = absurd (omega arith)
  fixed_tidy forms.MakeInst w fixed defined =
      ap (λ (p : Part). binding forms.MakeInst (text_number known.texts (w 0)) (p ∷ []))
      (numbered_tidy (defined_number known.classes (w 3)) (neither (is_unknown (numbered (defined_number known.classes (w 3)))) false defined).0)
  fixed_tidy form w fixed defined = refl

  pub fixed_row : (form : Form) (ws : List (List ℕ)) → (row form).fewest ≡ (row form).most → Given known form ws → Row known form ws
  fixed_row form ws fixed given =
      let enough = given.good.enough in
      let most = given.good.most in
      let is : spread (row form).fewest (word_at ws) ≡ ws = is_spread (row form).fewest ws (omega arith) in
      plain_row known form ws given
      (subst (λ (l : List (List ℕ)). Tidy form (parts_of known form l)) is
      (fixed_tidy form (word_at ws) fixed (subst (λ (l : List (List ℕ)). has_unknown (parts_of known form l) ≡ false) (sym is) given.defined)))

  pub list_row : (ws : List (List ℕ)) → Given known forms.MakeList ws → Row known forms.MakeList ws
  list_row ws given =
      plain_row known forms.MakeList ws given
      (three_first (λ (l : List (List ℕ)). Tidy forms.MakeList (parts_of known forms.MakeList l)) ws given.good.enough
      (λ a b c rest. ap (λ (l : List Part). binding forms.MakeList (text_number known.texts a) l) (values_tidy known.procs known.classes forms.MakeList rest
      (with_text known.texts a) 3 (λ i h. get_or_past (row forms.MakeList).places i Value h))))

  pub tuple_row : (ws : List (List ℕ)) → Given known forms.MakeTuple ws → Row known forms.MakeTuple ws
  tuple_row ws given =
      let enough = given.good.enough in
      plain_row known forms.MakeTuple ws given
      (three_first (λ (l : List (List ℕ)). Tidy forms.MakeTuple (parts_of known forms.MakeTuple l)) ws (omega arith)
      (λ a b c rest. ap (λ (l : List Part). binding forms.MakeTuple (text_number known.texts a) l) (values_tidy known.procs known.classes forms.MakeTuple rest
      (with_text known.texts a) 3 (λ i h. get_or_past (row forms.MakeTuple).places i Value h))))

  pub func_row : (ws : List (List ℕ)) → Given known forms.MakeFunc ws → Row known forms.MakeFunc ws
  func_row [] given = absurd (omega (arith, given.good.enough))
  func_row (a ∷ []) given = absurd (omega (arith, given.good.enough))
  func_row (a ∷ b ∷ []) given = absurd (omega (arith, given.good.enough))
  func_row (a ∷ b ∷ c ∷ []) given = absurd (omega (arith, given.good.enough))
  func_row (a ∷ b ∷ c ∷ p ∷ rest) given =
      let proc = numbered (defined_number known.procs p) in
      let values = parts_from known.procs known.classes (with_text known.texts a) forms.MakeFunc 4 rest in
      plain_row known forms.MakeFunc (a ∷ b ∷ c ∷ p ∷ rest) given
      (ap (λ (q : Part). binding forms.MakeFunc (text_number known.texts a) (q ∷ map parts.Value (map (λ part. value_or (Some part)) values)))
      (numbered_tidy (defined_number known.procs p) (neither (is_unknown proc) (has_unknown values) given.defined).0)
      ∙ ap (λ (l : List Part). binding forms.MakeFunc (text_number known.texts a) (proc ∷ l)) (values_tidy known.procs known.classes forms.MakeFunc rest
      (with_text known.texts a) 4 (λ i h. get_or_past (row forms.MakeFunc).places i Value h)))

  pub threshold_row : (ws : List (List ℕ)) → Given known forms.Threshold ws → Row known forms.Threshold ws
  threshold_row [] given = absurd (omega (arith, given.good.enough))
  threshold_row (w ∷ []) given = absurd (omega (arith, given.good.enough))
  threshold_row (w ∷ a ∷ []) given = plain_row known forms.Threshold (w ∷ a ∷ []) given refl
  threshold_row (w ∷ a ∷ b ∷ []) given = plain_row known forms.Threshold (w ∷ a ∷ b ∷ []) given refl
  threshold_row (w ∷ a ∷ b ∷ c ∷ []) given = plain_row known forms.Threshold (w ∷ a ∷ b ∷ c ∷ []) given refl
  threshold_row (w ∷ a ∷ b ∷ c ∷ d ∷ rest) given = absurd (omega (arith, given.good.most))

-- the word of a form that was found finds it
pub record IsFound (table : List (List ℕ × Form)) (w : List ℕ) (form : Form) : Type 0 where
  pub word : w ≡ word_of form
  pub again : named table (word_of form) ≡ Some form

found_by : (table : List (List ℕ × Form)) (w : List ℕ) (form : Form) → w ≡ word_of form → named table w ≡ Some form → IsFound table w form
found_by table w form is e = record { word = is; again = subst (λ u. named table u ≡ Some form) is e }

pub binding_is : (w : List ℕ) (form : Form) → named bindings w ≡ Some form → IsFound bindings w form
unfolding bindings
binding_is w form e = found_by bindings w form (by_words-is binding_forms w form e) e
