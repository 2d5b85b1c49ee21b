-- Guesses after one is set.
use Rattle.std.proofs.Common.{◌≡◌, ◌≢◌, ◌⊎◌, ℕ, ◌<◌, length, get_or, refl, sym, ap, ◌∙◌, inl, inr}
use Rattle.std.specs.Vec.{with_item}
use Rattle.std.proofs.lemmas.Bool.{cases_eq}
use Rattle.std.proofs.lemmas.List.{get_or-set_same, get_or-set_other}
use Rattle.cg_arena.specs.declared.hints.Hints.{Hints}
use Rattle.cg_arena.specs.Index.{guess_index, guess_at}

-- one guess set
abbrev pub told : Hints → ℕ → ℕ → Hints
told h i slot = record h { guesses = with_item h.guesses i slot }

-- setting a guess does not change which guess belongs to a serial
pub index-told : (h : Hints) (i slot q : ℕ) → guess_index (told h i slot) q ≡ guess_index h q
unfolding guess_index
index-told h i slot q = refl

module _ (h : Hints) (i slot : ℕ) where
  pub guess-same : (q : ℕ) → i ≡ guess_index h q → i < length h.guesses.items → guess_at (told h i slot) q ≡ slot
  guess-same q is within =
      ap (λ n. get_or (told h i slot).guesses.items n 0) (index-told h i slot q ∙ sym is)
      ∙ get_or-set_same h.guesses.items i slot 0 within

  pub guess-other : (q : ℕ) → guess_index h q ≢ i → guess_at (told h i slot) q ≡ guess_at h q
  guess-other q differs =
      ap (λ n. get_or (told h i slot).guesses.items n 0) (index-told h i slot q)
      ∙ get_or-set_other h.guesses.items i (guess_index h q) slot 0 differs

  -- setting a guess changes only guesses equal to the overwritten value
  pub guess-lost : (was q : ℕ) → get_or h.guesses.items i 0 ≡ was → (guess_at (told h i slot) q ≡ guess_at h q) ⊎ (guess_at h q ≡ was)
  guess-lost was q is = elim (cases_eq (guess_index h q) i) [
    | inl same ↦ inr (ap (λ n. get_or h.guesses.items n 0) same ∙ is)
    | inr differs ↦ inl (guess-other q differs)
  ]

  -- a guess that is set to its own value is kept
  pub guess-still : (q : ℕ) → get_or h.guesses.items i 0 ≡ slot → i < length h.guesses.items → guess_at (told h i slot) q ≡ guess_at h q
  guess-still q is within = elim (cases_eq (guess_index h q) i) [
    | inl same ↦
        guess-same q (sym same) within
        ∙ sym is
        ∙ ap (λ n. get_or h.guesses.items n 0) (sym same)
    | inr differs ↦ guess-other q differs
  ]
