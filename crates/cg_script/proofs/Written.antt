-- What is written of a line, of a procedure and of all items.
use Rattle.std.proofs.Common.{◌≡◌, ℕ, suc, ◌+◌, List, [], ◌∷◌, ◌++◌, length, refl, sym, ap, ◌∙◌, arith, append_assoc, append-nil, map}
use Rattle.std.specs.Prelude.{flat_map, slice_get, option_map, unwrap_or, Option, Some, None}
use Rattle.std.proofs.lemmas.Grind.{flat_map-append}
use Rattle.std.proofs.lemmas.Option.{slice_get-map, unwrap_or-slice_get}
use Rattle.cg_script.specs.declared.item.Item.{Item}
use Rattle.cg_script.specs.declared.command.Operand.{Operand}
use Rattle.cg_script.specs.declared.form.Form.{Form}
use Rattle.cg_script.specs.declared.part.Part.{Part}
use Rattle.cg_script.specs.declared.part.Part.TheVariants as parts
use Rattle.cg_script.specs.Forms.{sort_at}
use Rattle.cg_script.specs.Commands.{filled}
use Rattle.cg_script.specs.Canonical.{Naming, text_of, name_of, value_word, part_word, key_word, words_from, filled_words, behind_space, line_of_words, item_lines, naming_of, canonical}

pub flat_map-flat_map : {A B : Type 0} (f : B → List ℕ) (p : A → List B) (xs : List A) → flat_map f (flat_map p xs) ≡ flat_map (λ x. flat_map f (p x)) xs
flat_map-flat_map f p [] = refl
flat_map-flat_map f p (x ∷ xs) = flat_map-append f (p x) (flat_map p xs) ∙ ap (λ l. flat_map f (p x) ++ l) (flat_map-flat_map f p xs)

pub flat_map-map : {A B : Type 0} (f : B → List ℕ) (v : A → B) (xs : List A) → flat_map f (map v xs) ≡ flat_map (λ x. f (v x)) xs
flat_map-map f v [] = refl
flat_map-map f v (x ∷ xs) = ap (λ l. f (v x) ++ l) (flat_map-map f v xs)

regroup : (a b c d e f : List ℕ) → ((((a ++ b) ++ c) ++ d) ++ e) ++ f ≡ a ++ ((b ++ (c ++ (d ++ e))) ++ f)
regroup a b c d e f = simp append_assoc

module _ (n : Naming) (form : Form) where
  words_from-append : (xs ys : List Part) (place : ℕ) → words_from n form place (xs ++ ys) ≡ words_from n form place xs ++ words_from n form (place + length xs) ys
  words_from-append [] ys place = let e : place ≡ place + 0 = omega arith in ap (λ k. words_from n form k ys) e
  words_from-append (x ∷ xs) ys place =
      let e : (place + 1) + length xs ≡ place + suc (length xs) = omega arith in
      ap (λ (l : List (List ℕ)). part_word n (key_word form place) (sort_at form place) x ∷ l) (words_from-append xs ys (place + 1)
      ∙ ap (λ k. words_from n form (place + 1) xs ++ words_from n form k ys) e)

  words_from-values : (values : List Operand) (place : ℕ) → words_from n form place (map parts.Value values) ≡ map (value_word n.texts) values
  words_from-values [] place = refl
  words_from-values (v ∷ vs) place = ap (λ (l : List (List ℕ)). value_word n.texts v ∷ l) (words_from-values vs (place + 1))

  -- a line: the word of its first part, those of other parts, its values, and the line feed
  pub line_written : (first : Part) (keys ps : List Part) (values : List Operand) (o0 o1 o2 o3 o4 o5 : List ℕ) → o1 ≡ o0 ++ part_word n (key_word form 0)
      (sort_at form 0) first → o2 ≡ o1 ++ flat_map behind_space (words_from n form 1 keys)
      → o3 ≡ o2 ++ flat_map behind_space (words_from n form (1 + length keys) ps) → o4 ≡ o3 ++ flat_map (λ v. behind_space (value_word n.texts v)) values → o5 ≡ o4 ++ 10 ∷ []
      → o5 ≡ o0 ++ line_of_words (filled_words n (filled form (first ∷ (keys ++ (ps ++ map parts.Value values)))))
  unfolding filled_words
  line_written first keys ps values o0 o1 o2 o3 o4 o5 e1 e2 e3 e4 e5 =
      let f = part_word n (key_word form 0) (sort_at form 0) first in
      let ks = words_from n form 1 keys in
      let ws = words_from n form (1 + length keys) ps in
      let vs = map (value_word n.texts) values in
      let words : words_from n form 1 (keys ++ (ps ++ map parts.Value values)) ≡ ks ++ (ws ++ vs) =
      words_from-append keys (ps ++ map parts.Value values) 1
      ∙ ap (λ (l : List (List ℕ)). ks ++ l) (words_from-append ps (map parts.Value values) (1 + length keys) ∙ ap (λ (l : List (List ℕ)). ws ++ l)
      (words_from-values values ((1 + length keys) + length ps))) in
      let bytes : flat_map behind_space (ks ++ (ws ++ vs)) ≡ flat_map behind_space ks ++ (flat_map behind_space ws ++ flat_map (λ v. behind_space (value_word n.texts v)) values) =
      flat_map-append behind_space ks (ws ++ vs)
      ∙ ap (λ l. flat_map behind_space ks ++ l) (flat_map-append behind_space ws vs ∙ ap (λ l. flat_map behind_space ws ++ l) (flat_map-map behind_space (value_word n.texts) values)) in
      e5
      ∙ ap (λ l. l ++ 10 ∷ []) (e4 ∙ ap (λ l. l ++ flat_map (λ v. behind_space (value_word n.texts v)) values) (e3 ∙ ap (λ l. l ++ flat_map behind_space ws)
      (e2 ∙ ap (λ l. l ++ flat_map behind_space ks) e1)))
      ∙ regroup o0 f (flat_map behind_space ks) (flat_map behind_space ws) (flat_map (λ v. behind_space (value_word n.texts v)) values) (10 ∷ [])
      ∙ sym (ap (λ (l : List (List ℕ)). o0 ++ ((f ++ flat_map behind_space l) ++ 10 ∷ [])) words ∙ ap (λ l. o0 ++ ((f ++ l) ++ 10 ∷ [])) bytes)

-- a procedure: its first line, its commands, and its last line
pub proc_written : {A B : Type 0} (f : B → List ℕ) (w : A → B) (xs : List A) (front back : B) (o0 o1 o2 o3 : List ℕ) → o1 ≡ o0 ++ f front → o2 ≡ o1 ++ flat_map (λ x. f (w x)) xs → o3 ≡ o2 ++ f back
    → o3 ≡ o0 ++ flat_map f (front ∷ (map w xs ++ back ∷ []))
proc_written f w xs front back o0 o1 o2 o3 e1 e2 e3 =
    let ms = flat_map (λ x. f (w x)) xs in
    let both : flat_map f (map w xs ++ back ∷ []) ≡ ms ++ f back =
    flat_map-append f (map w xs) (back ∷ []) ∙ ap (λ l. l ++ flat_map f (back ∷ [])) (flat_map-map f w xs) ∙ ap (λ l. ms ++ l) (append-nil (f back)) in
    e3
    ∙ ap (λ l. l ++ f back) (e2 ∙ ap (λ l. l ++ ms) e1)
    ∙ append_assoc (o0 ++ f front) ms (f back)
    ∙ append_assoc o0 (f front) (ms ++ f back)
    ∙ ap (λ l. o0 ++ (f front ++ l)) (sym both)

-- the name of what has a number
name_by : {A : Type 0} (name : A → ℕ) (texts : List (List ℕ)) (those : List A) (n : ℕ) → name_of texts (map name those) n ≡ unwrap_or (option_map (λ x. text_of texts (name x)) (slice_get those n)) []
name_by {A = A} name texts those n =
    sym (unwrap_or-slice_get (map (text_of texts) (map name those)) n [])
    ∙ ap (λ o. unwrap_or o []) (slice_get-map (text_of texts) (map name those) n ∙ ap (option_map (text_of texts)) (slice_get-map name those n))
    ∙ by (slice_get those n)
  where
    by : (o : Option A) → unwrap_or (option_map (text_of texts) (option_map name o)) [] ≡ unwrap_or (option_map (λ x. text_of texts (name x)) o) []
    by None = refl
    by (Some x) = refl

pub name_there : {A : Type 0} (name : A → ℕ) (texts : List (List ℕ)) (those : List A) (n : ℕ) (x : A) → slice_get those n ≡ Some x → name_of texts (map name those) n ≡ text_of texts (name x)
name_there name texts those n x is = name_by name texts those n ∙ ap (λ o. unwrap_or (option_map (λ y. text_of texts (name y)) o) []) is

pub name_missing : {A : Type 0} (name : A → ℕ) (texts : List (List ℕ)) (those : List A) (n : ℕ) → slice_get those n ≡ None → name_of texts (map name those) n ≡ []
name_missing name texts those n is = name_by name texts those n ∙ ap (λ o. unwrap_or (option_map (λ y. text_of texts (name y)) o) []) is

-- all lines of a script, after no bytes
pub all_written : (texts : List (List ℕ)) (items : List Item) (start out : List ℕ) → start ≡ [] → out ≡ start
    ++ flat_map (λ item. flat_map line_of_words (item_lines (naming_of texts items) item)) items → out ≡ canonical texts items
unfolding canonical
all_written texts items start out none e =
    e
    ∙ ap (λ l. l ++ flat_map (λ item. flat_map line_of_words (item_lines (naming_of texts items) item)) items) none
    ∙ sym (flat_map-flat_map line_of_words (item_lines (naming_of texts items)) items)
