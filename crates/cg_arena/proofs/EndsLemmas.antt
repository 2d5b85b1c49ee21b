-- The ends of a list after a slot leaves, and of two lists joined.
use Rattle.std.proofs.Common.{◌≡◌, ℕ, ◌-◌, List, [], ◌∷◌, ◌++◌, length, Option, Some, None, refl, sym, ap, ◌∙◌, arith, length-append, append-nil}
use Rattle.cg_arena.specs.Links.{first_or, last_or, or_else, at_end, ends_of, ends_without, ends_joined}
use Rattle.cg_arena.proofs.Occurrences.{last_or-append}

at_end-last : (k : ℕ) (ks : List ℕ) (u v : Option ℕ) → at_end (last_or (Some k) ks) u v ≡ v
at_end-last k [] u v = refl
at_end-last k (l ∷ ks) u v = at_end-last l ks u v

or_else-last : (k : ℕ) (ks : List ℕ) (u : Option ℕ) → or_else (last_or (Some k) ks) u ≡ last_or (Some k) ks
or_else-last k [] u = refl
or_else-last k (l ∷ ks) u = or_else-last l ks u

first-without : (ks ls : List ℕ) (k : ℕ) → at_end (last_or None ks) (first_or ls None) (first_or (ks ++ k ∷ ls) None) ≡ first_or (ks ++ ls) None
first-without [] ls k = refl
first-without (x ∷ ks) ls k = at_end-last x ks (first_or ls None) (Some x)

last-without : (ks ls : List ℕ) (k : ℕ) → at_end (first_or ls None) (last_or None ks) (last_or None (ks ++ k ∷ ls)) ≡ last_or None (ks ++ ls)
last-without ks [] k = ap (last_or None) (sym (append-nil ks))
last-without ks (l ∷ ls) k = last_or-append None ks (k ∷ l ∷ ls) ∙ sym (last_or-append None ks (l ∷ ls))

pub ends-without : (ks ls : List ℕ) (k : ℕ) → ends_without (last_or None ks) (first_or ls None) (ends_of (ks ++ k ∷ ls)) ≡ ends_of (ks ++ ls)
ends-without ks ls k =
    let size : length (ks ++ k ∷ ls) - 1 ≡ length (ks ++ ls) = omega (arith, length-append ks (k ∷ ls), length-append ks ls) in
    λ i. record { first = first-without ks ls k i; last = last-without ks ls k i; size = size i }

first-joined : (ks ls : List ℕ) → or_else (first_or ks None) (first_or ls None) ≡ first_or (ks ++ ls) None
first-joined [] ls = nothing_else (first_or ls None)
  where
    nothing_else : (o : Option ℕ) → or_else None o ≡ o
    nothing_else o = refl
first-joined (x ∷ ks) ls = refl

last-joined : (ks ls : List ℕ) → or_else (last_or None ls) (last_or None ks) ≡ last_or None (ks ++ ls)
last-joined ks [] = ap (last_or None) (sym (append-nil ks))
last-joined ks (l ∷ ls) = or_else-last l ls (last_or None ks) ∙ sym (last_or-append None ks (l ∷ ls))

pub ends-joined : (ks ls : List ℕ) → ends_joined (ends_of ks) (ends_of ls) ≡ ends_of (ks ++ ls)
ends-joined ks ls = λ i. record { first = first-joined ks ls i; last = last-joined ks ls i; size = sym (length-append ks ls) i }
