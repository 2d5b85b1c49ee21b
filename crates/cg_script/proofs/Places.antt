-- The words of a line, place by place.
use Rattle.std.proofs.Common.{◌≡◌, ℕ, ◌+◌, ◌<◌, ◌≤◌, List, [], ◌∷◌, ◌++◌, length, map, get_or, drop, Bool, true, false, ◌&&◌, Option, Some, None, sym, ap, ◌∙◌, arith, append_assoc, append-nil, length-append, cond, slice_index_or}
use Rattle.std.specs.Borrow.{Bor}
use Rattle.std.proofs.lemmas.List.{drop_more}
use Rattle.std.proofs.Math.ListN.{drop_of_length-le}
use Rattle.cg_value.specs.Texts.{has_text, with_text}
use Rattle.cg_script.specs.declared.form.Form.{Form}
use Rattle.cg_script.specs.declared.form.Sort.{Sort}
use Rattle.cg_script.specs.declared.command.Operand.{Operand}
use Rattle.cg_script.specs.declared.part.Part.{Part}
use Rattle.cg_script.specs.declared.form.Sort.TheVariants.{Value}
use Rattle.cg_script.specs.Forms.{row, sort_at}
use Rattle.cg_script.specs.Meanings.{fits, all_fit}
use Rattle.cg_script.specs.Parts.{with_text_if, text_in, part_of, parts_from, texts_from}
use Rattle.cg_script.specs.Commands.{value_or}

Word : Type 0
Word = Bor (List ℕ)

abbrev pub texts_of : List (Bor (List ℕ)) → List (List ℕ)
texts_of ws = map (λ w. w.now) ws

and_true : (a b : Bool) → a ≡ true → (a && b) ≡ b
and_true a b e = ap (λ c. c && b) e

and_false : (a b : Bool) → a ≡ false → (a && b) ≡ false
and_false a b e = ap (λ c. c && b) e

one_more : (b : Bool) (texts : List (List ℕ)) (text : List ℕ) → length (cond b texts (texts ++ text ∷ [])) ≤ length texts + 1
one_more true texts text = omega arith
one_more false texts text = simp length-append (omega arith)

pub length-with_text : (texts : List (List ℕ)) (text : List ℕ) → length (with_text texts text) ≤ length texts + 1
length-with_text texts text = one_more (has_text texts text) texts text

pub length-with_text_if : (texts : List (List ℕ)) (text : Option (List ℕ)) → length (with_text_if texts text) ≤ length texts + 1
length-with_text_if texts None = omega arith
length-with_text_if texts (Some text) = length-with_text texts text

-- the sort of a place, given those of the first places
pub sort_here : (form : Form) (places : List Sort) (i : ℕ) (s : Sort) → places ≡ (row form).places → s ≡ slice_index_or places i Value → s ≡ sort_at form i
sort_here form places i s are e = e ∙ ap (λ l. slice_index_or l i Value) are

module _ (form : Form) (ws : List (Bor (List ℕ))) (i : ℕ) (d : Bor (List ℕ)) (h : i < length ws) (s : Sort) (es : s ≡ sort_at form i) where
  fit_at : all_fit form i (texts_of (drop i ws)) ≡ (fits s (get_or ws i d).now && all_fit form (i + 1) (texts_of (drop (i + 1) ws)))
  fit_at = ap (λ l. all_fit form i (texts_of l)) (drop_more ws i d h) ∙ ap (λ t. fits t (get_or ws i d).now && all_fit form (i + 1) (texts_of (drop (i + 1) ws))) (sym es)

  pub fit_more : (b whole : Bool) → b ≡ fits s (get_or ws i d).now → b ≡ true → all_fit form i (texts_of (drop i ws)) ≡ whole → all_fit form (i + 1) (texts_of (drop (i + 1) ws)) ≡ whole
  fit_more b whole eb e inv = sym (fit_at ∙ and_true _ _ (sym eb ∙ e)) ∙ inv

  pub fit_not : (b whole : Bool) → b ≡ fits s (get_or ws i d).now → b ≡ false → all_fit form i (texts_of (drop i ws)) ≡ whole → false ≡ whole
  fit_not b whole eb e inv = sym (fit_at ∙ and_false _ _ (sym eb ∙ e)) ∙ inv

  module _ (procs classes texts texts2 : List (List ℕ)) (et : texts2 ≡ with_text_if texts (text_in s (get_or ws i d).now)) where
    pub parts_more : (part : Part) (done whole : List Part) → part ≡ part_of procs classes texts s (get_or ws i d).now → done ++ parts_from procs classes texts form i (texts_of (drop i ws)) ≡ whole
        → (done ++ part ∷ []) ++ parts_from procs classes texts2 form (i + 1) (texts_of (drop (i + 1) ws)) ≡ whole
    parts_more part done whole ep inv =
        let w = (get_or ws i d).now in
        append_assoc done (part ∷ []) (parts_from procs classes texts2 form (i + 1) (texts_of (drop (i + 1) ws)))
        ∙ ap (λ p. done ++ p ∷ parts_from procs classes texts2 form (i + 1) (texts_of (drop (i + 1) ws))) (ep ∙ ap (λ t. part_of procs classes texts t w) es)
        ∙ ap (λ ts. done ++ part_of procs classes texts (sort_at form i) w ∷ parts_from procs classes ts form (i + 1) (texts_of (drop (i + 1) ws))) (et ∙ ap (λ t. with_text_if texts (text_in t w)) es)
        ∙ sym (ap (λ l. done ++ parts_from procs classes texts form i (texts_of l)) (drop_more ws i d h))
        ∙ inv

    pub room_more : length texts2 ≤ length texts + 1
    room_more = let n = length-with_text_if texts (text_in s (get_or ws i d).now) in omega (arith, ap length et)

    pub texts_more : (whole : List (List ℕ)) → texts_from texts form i (texts_of (drop i ws)) ≡ whole → texts_from texts2 form (i + 1) (texts_of (drop (i + 1) ws)) ≡ whole
    texts_more whole inv =
        let w = (get_or ws i d).now in
        ap (λ ts. texts_from ts form (i + 1) (texts_of (drop (i + 1) ws))) (et ∙ ap (λ t. with_text_if texts (text_in t w)) es)
        ∙ sym (ap (λ l. texts_from texts form i (texts_of l)) (drop_more ws i d h))
        ∙ inv

pub fit_all : (form : Form) (ws : List (Bor (List ℕ))) (i : ℕ) (whole : Bool) → length ws ≤ i → all_fit form i (texts_of (drop i ws)) ≡ whole → true ≡ whole
fit_all form ws i whole h inv = sym (ap (λ l. all_fit form i (texts_of l)) (drop_of_length-le ws h)) ∙ inv

pub parts_end : (procs classes texts : List (List ℕ)) (form : Form) (ws : List (Bor (List ℕ))) (i : ℕ) (done whole : List Part) → length ws ≤ i
    → done ++ parts_from procs classes texts form i (texts_of (drop i ws)) ≡ whole → done ≡ whole
parts_end procs classes texts form ws i done whole h inv =
    sym (ap (λ l. done ++ parts_from procs classes texts form i (texts_of l)) (drop_of_length-le ws h) ∙ append-nil done) ∙ inv

pub texts_end : (texts : List (List ℕ)) (form : Form) (ws : List (Bor (List ℕ))) (i : ℕ) (whole : List (List ℕ)) → length ws ≤ i → texts_from texts form i
    (texts_of (drop i ws)) ≡ whole → texts ≡ whole
texts_end texts form ws i whole h inv = sym (ap (λ l. texts_from texts form i (texts_of l)) (drop_of_length-le ws h)) ∙ inv

abbrev pub value_of_part : Part → Operand
value_of_part part = value_or (Some part)

pub values_more : (parts : List Part) (i : ℕ) (d : Part) (v : Operand) (done whole : List Operand) → i < length parts → v ≡ value_of_part (get_or parts i d)
    → done ++ map value_of_part (drop i parts) ≡ whole
    → (done ++ v ∷ []) ++ map value_of_part (drop (i + 1) parts) ≡ whole
values_more parts i d v done whole h ev inv =
    append_assoc done (v ∷ []) (map value_of_part (drop (i + 1) parts))
    ∙ ap (λ x. done ++ x ∷ map value_of_part (drop (i + 1) parts)) ev
    ∙ sym (ap (λ l. done ++ map value_of_part l) (drop_more parts i d h))
    ∙ inv

pub values_end : (parts : List Part) (i : ℕ) (done whole : List Operand) → length parts ≤ i → done ++ map value_of_part (drop i parts) ≡ whole → done ≡ whole
values_end parts i done whole h inv = sym (ap (λ l. done ++ map value_of_part l) (drop_of_length-le parts h) ∙ append-nil done) ∙ inv
