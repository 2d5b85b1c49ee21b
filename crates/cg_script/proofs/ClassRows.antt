-- The line of a class, whose finalizer is printed before its legacy finalizer.
use Rattle.std.proofs.Common.{◌≡◌, ℕ, List, [], ◌∷◌, ◌++◌, Bool, true, false, ◌&&◌, ◌||◌, Option, None, Some, refl, sym, ap, ◌∙◌, arith, codes, inl, inr, ◌⊎◌}
use Rattle.std.specs.Option.{option_or}
use Rattle.cg_value.specs.Texts.{text_number}
use Rattle.cg_script.specs.declared.item.Item.TheVariants as items
use Rattle.cg_script.specs.declared.form.Form.TheVariants as forms
use Rattle.cg_script.specs.declared.form.Sort.TheVariants.{Name, Finalizer}
use Rattle.cg_script.specs.declared.part.Part.{Part}
use Rattle.cg_script.specs.declared.part.Part.TheVariants as parts
use Rattle.cg_script.specs.declared.part.Said.{Said}
use Rattle.cg_script.specs.declared.part.Said.TheVariants.{Declares}
use Rattle.cg_script.specs.Words.{is_identifier, is_identifier_after, after_prefix, names_finalizer, names_legacy}
use Rattle.cg_script.specs.Forms.{openers}
use Rattle.cg_script.specs.Meanings.{fits}
use Rattle.cg_script.specs.Parts.{Known, defined_number, finalizer, legacy, legacy_of, finalizer_of, is_unknown}
use Rattle.cg_script.specs.Commands.{del_if, legacy_if, opening, said_filled}
use Rattle.cg_script.proofs.Ascii.{both}
use Rattle.cg_script.proofs.JoinedWords.{and_both}
use Rattle.cg_script.proofs.PrintedParts.{neither, prefixed}
use Rattle.cg_script.proofs.GoodLines.{Good, never_sign}
use Rattle.cg_script.proofs.Rows.{Given, Row, plain_row}

-- what a finalizer's word stands for
record IsDel (p : Part) (f : List ℕ) : Type 0 where
  proc : ℕ
  part : p ≡ parts.Finalizer proc
  named : names_finalizer f ≡ true

record IsLegacy (p : Part) (f : List ℕ) : Type 0 where
  proc : ℕ
  part : p ≡ parts.Legacy proc
  named : names_legacy f ≡ true

del_case : (f : List ℕ) (found : Option ℕ) → names_finalizer f ≡ true → is_unknown (finalizer found) ≡ false → IsDel (finalizer found) f
del_case f None named known = absurd (cc)
del_case f (Some k) named known = record { proc = k; part = refl; named = named }

legacy_case : (f : List ℕ) (found : Option ℕ) → names_legacy f ≡ true → is_unknown (legacy found) ≡ false → IsLegacy (legacy found) f
legacy_case f None named known = absurd (cc)
legacy_case f (Some k) named known = record { proc = k; part = refl; named = named }

legacy_cases : (procs : List (List ℕ)) (f : List ℕ) (found : Option (List ℕ)) → after_prefix (codes "legacy=") f ≡ found → is_identifier_after found ≡ true
    → is_unknown (legacy_of procs found) ≡ false → IsLegacy (legacy_of procs found) f
legacy_cases procs f None e named known = absurd (cc)
legacy_cases procs f (Some name) e named known = legacy_case f (defined_number procs name) (ap is_identifier_after e ∙ named) known

no_both : (f name : List ℕ) → f ≡ codes "del=" ++ name → names_legacy f ≡ true → ⊥
no_both f name is named = let both_ways : false ≡ true = sym (ap names_legacy is) ∙ named in absurd (cc)

cases : (procs : List (List ℕ)) (f : List ℕ) (found : Option (List ℕ)) → after_prefix (codes "del=") f ≡ found → (is_identifier_after found || names_legacy f)
    ≡ true → is_unknown (finalizer_of procs found f) ≡ false
    → IsDel (finalizer_of procs found f) f ⊎ IsLegacy (finalizer_of procs found f) f
cases procs f None e fit known = inr (legacy_cases procs f (after_prefix (codes "legacy=") f) refl fit known)
cases procs f (Some name) e fit known = by (is_identifier name) refl fit
  where
    by : (b : Bool) → is_identifier name ≡ b → (b || names_legacy f) ≡ true → IsDel (finalizer (defined_number procs name)) f ⊎ IsLegacy (finalizer (defined_number procs name)) f
    by true eb fit = inl (del_case f (defined_number procs name) (ap is_identifier_after e ∙ eb) known)
    by false eb fit = absurd (no_both f name (prefixed (codes "del=") f name e) fit)

both_del : (x y z : Bool) → x ≡ true → y ≡ true → ((x && y) || z) ≡ false → ⊥
both_del true true z p q e = absurd (cc)
both_del false y z p q e = absurd (cc)
both_del true false z p q e = absurd (cc)

both_legacy : (x y z : Bool) → x ≡ true → y ≡ true → (z || (x && y)) ≡ false → ⊥
both_legacy true true true p q e = absurd (cc)
both_legacy true true false p q e = absurd (cc)
both_legacy false y z p q e = absurd (cc)
both_legacy true false z p q e = absurd (cc)

and_swap : (a b : Bool) → (a && b) ≡ (b && a)
and_swap true true = refl
and_swap true false = refl
and_swap false true = refl
and_swap false false = refl

module _ (known : Known) where
  abbrev part : List ℕ → Part
  part f = finalizer_of known.procs (after_prefix (codes "del=") f) f

  abbrev Case : List ℕ → Type 0
  Case f = IsDel (part f) f ⊎ IsLegacy (part f) f

  case : (f : List ℕ) → fits Finalizer f ≡ true → is_unknown (part f) ≡ false → Case f
  case f fit defined = cases known.procs f (after_prefix (codes "del=") f) refl fit defined

  -- the class of the parts of two finalizers, and of one
  abbrev class2 : List ℕ → Part → Part → Said
  class2 c p q = Declares (items.Class (record { name = text_number known.texts c; del = option_or (del_if (Some p)) (del_if (Some q)); legacy = option_or (legacy_if (Some p)) (legacy_if (Some q)) }))

  abbrev class1 : List ℕ → Part → Said
  class1 c p = Declares (items.Class (record { name = text_number known.texts c; del = option_or (del_if (Some p)) None; legacy = option_or (legacy_if (Some p)) None }))

  one_tidy : (c f : List ℕ) (p : Part) → IsDel p f ⊎ IsLegacy p f → said_filled (class1 c p) ≡ opening forms.Class (parts.Text (text_number known.texts c) ∷ p ∷ [])
  one_tidy c f p (inl d) =
      ap (λ (x : Part). said_filled (class1 c x)) d.part ∙ sym (ap (λ (x : Part). opening forms.Class (parts.Text (text_number known.texts c) ∷ x ∷ [])) d.part)
  one_tidy c f p (inr l) =
      ap (λ (x : Part). said_filled (class1 c x)) l.part ∙ sym (ap (λ (x : Part). opening forms.Class (parts.Text (text_number known.texts c) ∷ x ∷ [])) l.part)

  two_tidy : (c f g : List ℕ) (p q : Part) → IsDel p f → IsLegacy q g → said_filled (class2 c p q) ≡ opening forms.Class (parts.Text (text_number known.texts c) ∷ p ∷ q ∷ [])
  two_tidy c f g p q d l =
      ap (λ (x : Part). said_filled (class2 c x q)) d.part
      ∙ ap (λ (y : Part). said_filled (class2 c (parts.Finalizer d.proc) y)) l.part
      ∙ sym (ap (λ (x : Part). opening forms.Class (parts.Text (text_number known.texts c) ∷ x ∷ q ∷ [])) d.part
      ∙ ap (λ (y : Part). opening forms.Class (parts.Text (text_number known.texts c) ∷ parts.Finalizer d.proc ∷ y ∷ [])) l.part)

  swapped_said : (c f g : List ℕ) (p q : Part) → IsLegacy p f → IsDel q g → class2 c q p ≡ class2 c p q
  swapped_said c f g p q l d =
      ap (λ (x : Part). class2 c x p) d.part
      ∙ ap (λ (y : Part). class2 c (parts.Finalizer d.proc) y) l.part
      ∙ sym (ap (λ (x : Part). class2 c x q) l.part ∙ ap (λ (y : Part). class2 c (parts.Legacy l.proc) y) d.part)

  swapped_known : (p q : Part) → is_unknown p ≡ false → is_unknown q ≡ false → (is_unknown q || (is_unknown p || false)) ≡ false
  swapped_known p q ep eq = ap (λ b. b || (is_unknown p || false)) eq ∙ ap (λ b. b || false) ep

  record Fits (c f g : List ℕ) : Type 0 where
    name : fits Name c ≡ true
    first : fits Finalizer f ≡ true
    second : fits Finalizer g ≡ true

  fits_of : (c f g : List ℕ) → (fits Name c && (fits Finalizer f && (fits Finalizer g && true))) ≡ true → Fits c f g
  fits_of c f g e =
      let p = both (fits Name c) (fits Finalizer f && (fits Finalizer g && true)) e in
      let q = both (fits Finalizer f) (fits Finalizer g && true) p.1 in
      record { name = p.0; first = q.0; second = (both (fits Finalizer g) true q.1).0 }

  swapped_good : (c f g : List ℕ) → Good forms.Class (codes "class" ∷ c ∷ f ∷ g ∷ []) → Good forms.Class (codes "class" ∷ c ∷ g ∷ f ∷ [])
  unfolding openers
  swapped_good c f g good =
      let fit = fits_of c f g good.fit in
      let light = good.light in
      record {
        fit = and_both (fits Name c) (fits Finalizer g && (fits Finalizer f && true)) fit.name (and_both (fits Finalizer g) (fits Finalizer f && true)
            fit.second (and_both (fits Finalizer f) true fit.first refl));
        single = ap (λ b. b || (names_legacy g && names_legacy f)) (and_swap (names_finalizer g) (names_finalizer f))
            ∙ ap (λ b. (names_finalizer f && names_finalizer g) || b) (and_swap (names_legacy g) (names_legacy f)) ∙ good.single;
        enough = omega arith;
        most = omega arith;
        light = omega arith;
        few_words = omega arith;
        sound = (good.sound.0, (good.sound.1.0, (good.sound.1.1.1.0, (good.sound.1.1.0, tt))));
        picks = inl (never_sign Name c refl fit.name, refl);
        unpassed = refl;
      }

  two_words : (c f g : List ℕ) → Given known forms.Class (codes "class" ∷ c ∷ f ∷ g ∷ []) → is_unknown (part f) ≡ false → is_unknown (part g) ≡ false → Case f
      → Case g → Row known forms.Class (codes "class" ∷ c ∷ f ∷ g ∷ [])
  two_words c f g given kf kg (inl d) (inr l) = plain_row known forms.Class (codes "class" ∷ c ∷ f ∷ g ∷ []) given (two_tidy c f g (part f) (part g) d l)
  two_words c f g given kf kg (inr l) (inl d) = record {
    standing = codes "class" ∷ c ∷ g ∷ f ∷ [];
    good = swapped_good c f g given.good;
    same = record {
      said_same = swapped_said c f g (part f) (part g) l d;
      texts_same = refl;
      procs_same = refl;
      classes_same = refl;
      repeated_same = refl;
      none_unknown = swapped_known (part f) (part g) kf kg;
    };
    tidy = two_tidy c g f (part g) (part f) d l;
  }
  two_words c f g given kf kg (inl d) (inl e) = absurd (both_del (names_finalizer f) (names_finalizer g) (names_legacy f && names_legacy g) d.named e.named given.good.single)
  two_words c f g given kf kg (inr l) (inr e) = absurd (both_legacy (names_legacy f) (names_legacy g) (names_finalizer f && names_finalizer g) l.named e.named given.good.single)

  pub class_row : (rest : List (List ℕ)) → Given known forms.Class (codes "class" ∷ rest) → Row known forms.Class (codes "class" ∷ rest)
  class_row [] given = absurd (omega (arith, given.good.enough))
  class_row (c ∷ []) given = plain_row known forms.Class (codes "class" ∷ c ∷ []) given refl
  class_row (c ∷ f ∷ []) given =
      let fit = both (fits Name c) (fits Finalizer f && true) given.good.fit in
      let known_part = neither (is_unknown (part f)) false given.defined in
      plain_row known forms.Class (codes "class" ∷ c ∷ f ∷ []) given (one_tidy c f (part f) (case f (both (fits Finalizer f) true fit.1).0 known_part.0))
  class_row (c ∷ f ∷ g ∷ []) given =
      let fit = fits_of c f g given.good.fit in
      let known_first = neither (is_unknown (part f)) (is_unknown (part g) || false) given.defined in
      let known_second = neither (is_unknown (part g)) false known_first.1 in
      two_words c f g given known_first.0 known_second.0 (case f fit.first known_first.0) (case g fit.second known_second.0)
  class_row (c ∷ f ∷ g ∷ h ∷ rest) given = absurd (omega (arith, given.good.most))
