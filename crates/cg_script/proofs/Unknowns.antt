-- Only a line of a form with a place for an earlier procedure or class can name an unknown one.
use Rattle.std.proofs.Common.{◌≡◌, ℕ, zero, suc, ◌+◌, List, [], ◌∷◌, Bool, true, false, ◌&&◌, ◌||◌, refl, sym, ap, ◌∙◌, slice_index_or}
use Rattle.std.specs.List.{list_any}
use Rattle.cg_script.specs.declared.form.Form.{Form}
use Rattle.cg_script.specs.declared.form.Sort.{Sort}
use Rattle.cg_script.specs.declared.form.Sort.TheVariants.{Key, Variable, Name, Class, Proc, Finalizer, Value, Number, Profile, Budget, Count, Flag}
use Rattle.cg_script.specs.Forms.{row, sort_at}
use Rattle.cg_script.specs.Parts.{part_of, parts_from, with_text_if, text_in, is_unknown, has_unknown, asks_for_defined, names_defined}

-- at another place, nothing is unknown
known_part : (procs classes texts : List (List ℕ)) (sort : Sort) (word : List ℕ) → asks_for_defined sort ≡ false → is_unknown (part_of procs classes texts sort word) ≡ false
known_part procs classes texts Key word other = refl
known_part procs classes texts Variable word other = refl
known_part procs classes texts Name word other = refl
known_part procs classes texts Class word other = absurd (cc)
known_part procs classes texts Proc word other = absurd (cc)
known_part procs classes texts Finalizer word other = absurd (cc)
known_part procs classes texts Value word other = refl
known_part procs classes texts Number word other = refl
known_part procs classes texts Profile word other = refl
known_part procs classes texts Budget word other = refl
known_part procs classes texts Count word other = refl
known_part procs classes texts Flag word other = refl

neither : (a b : Bool) → (a || b) ≡ false → (a ≡ false) × (b ≡ false)
neither true b e = absurd (cc)
neither false b e = (refl, e)

-- a place after the first ones takes a value
other_place : (places : List Sort) (place : ℕ) → list_any asks_for_defined places ≡ false → asks_for_defined (slice_index_or places place Value) ≡ false
other_place [] place none = refl
other_place (sort ∷ places) zero none = (neither (asks_for_defined sort) (list_any asks_for_defined places) none).0
other_place (sort ∷ places) (suc place) none = other_place places place (neither (asks_for_defined sort) (list_any asks_for_defined places) none).1

known_parts : (procs classes texts : List (List ℕ)) (form : Form) (place : ℕ) (words : List (List ℕ)) → names_defined form ≡ false
    → has_unknown (parts_from procs classes texts form place words) ≡ false
known_parts procs classes texts form place [] none = refl
known_parts procs classes texts form place (word ∷ words) none =
    ap (λ b. b || has_unknown (parts_from procs classes (with_text_if texts (text_in (sort_at form place) word)) form (place + 1) words))
    (known_part procs classes texts (sort_at form place) word (other_place (row form).places place none))
    ∙ known_parts procs classes (with_text_if texts (text_in (sort_at form place) word)) form (place + 1) words none

-- so it is enough to check the parts of lines of such forms
pub unknown_where_asked : (procs classes texts : List (List ℕ)) (form : Form) (words : List (List ℕ))
    → (names_defined form && has_unknown (parts_from procs classes texts form 0 words)) ≡ has_unknown (parts_from procs classes texts form 0 words)
unknown_where_asked procs classes texts form words = by (names_defined form) refl
  where
    by : (asks : Bool) → names_defined form ≡ asks → (asks && has_unknown (parts_from procs classes texts form 0 words)) ≡ has_unknown (parts_from procs classes texts form 0 words)
    by true e = refl
    by false e = sym (known_parts procs classes texts form 0 words e)
