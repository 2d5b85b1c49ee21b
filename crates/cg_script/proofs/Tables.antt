-- Look-ups in tables of words.
use Rattle.std.proofs.Common.{◌≡◌, ℕ, ◌+◌, ◌<◌, ◌≤◌, List, ◌∷◌, length, map, get_or, drop, true, false, cond, Option, Some, None, sym, ap, ◌∙◌}
use Rattle.std.proofs.lemmas.List.{drop_more}
use Rattle.std.proofs.Math.ListN.{drop_of_length-le}
use Rattle.std.specs.Str.{bytes_eq}
use Rattle.cg_script.specs.Tables.{named}

-- the rows from one on begin with it
pub drop_step : {A : Type 0} (xs : List A) (i : ℕ) (x : A) → i < length xs → x ≡ get_or xs i x → drop i xs ≡ x ∷ drop (i + 1) xs
drop_step xs i x h is = drop_more xs i x h ∙ ap (λ y. y ∷ drop (i + 1) xs) (sym is)

module _ {A B : Type 0} (f : A → List ℕ × B) (word : List ℕ) (rows : List A) (i : ℕ) where
  -- a row with another word is skipped
  pub named_more : (row : A) → i < length rows → row ≡ get_or rows i row → bytes_eq word (f row).0 ≡ false → (whole : Option B) → named (map f (drop i rows)) word ≡ whole
      → named (map f (drop (i + 1) rows)) word ≡ whole
  named_more row h is e whole inv =
      sym (ap (λ l. named (map f l) word) (drop_step rows i row h is) ∙ ap (λ b. cond b (Some (f row).1) (named (map f (drop (i + 1) rows)) word)) e) ∙ inv

  pub named_found : (row : A) → i < length rows → row ≡ get_or rows i row → bytes_eq word (f row).0 ≡ true → (whole : Option B) → named (map f (drop i rows)) word ≡ whole → Some (f row).1 ≡ whole
  named_found row h is e whole inv =
      sym (ap (λ l. named (map f l) word) (drop_step rows i row h is) ∙ ap (λ b. cond b (Some (f row).1) (named (map f (drop (i + 1) rows)) word)) e) ∙ inv

  pub named_nowhere : length rows ≤ i → (whole : Option B) → named (map f (drop i rows)) word ≡ whole → None ≡ whole
  named_nowhere h whole inv = sym (ap (λ l. named (map f l) word) (drop_of_length-le rows h)) ∙ inv
