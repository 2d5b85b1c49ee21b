-- Runs of a machine that takes lines one by one, and texts that are spelled by lines.
use Rattle.std.proofs.Common.{◌≡◌, refl, sym, ◌∙◌, ap, ℕ, List, [], ◌∷◌, ◌++◌, Option, Some, None}
use Rattle.std.specs.Prelude.{flat_map}
use Rattle.std.proofs.lemmas.List.Concat.{flat_map-append}

abbrev pub then : {D : Type 0} → Option D → (D → Option D) → Option D
then None f = None
then (Some d) f = f d

-- the draft after some lines, if each is allowed where it is
abbrev pub run : {D L : Type 0} → (D → L → Option D) → D → List L → Option D
run step d [] = Some d
run step d (l ∷ ls) = then (step d l) (λ e. run step e ls)

then_then : {D : Type 0} (o : Option D) (f g h : D → Option D) → ((d : D) → f d ≡ then (g d) h) → then o f ≡ then (then o g) h
then_then None f g h same = refl
then_then (Some d) f g h same = same d

run-append : {D L : Type 0} (step : D → L → Option D) (d : D) (xs ys : List L) → run step d (xs ++ ys) ≡ then (run step d xs) (λ e. run step e ys)
run-append step d [] ys = refl
run-append step d (x ∷ xs) ys = then_then (step d x) (λ e. run step e (xs ++ ys)) (λ e. run step e xs) (λ e. run step e ys) (λ e. run-append step e xs ys)

-- runs compose
pub chain : {D L : Type 0} (step : D → L → Option D) (d e : D) (xs ys : List L) (o : Option D) → run step d xs ≡ Some e → run step e ys ≡ o → run step d (xs ++ ys) ≡ o
chain step d e xs ys o p q = run-append step d xs ys ∙ ap (λ r. then r (λ f. run step f ys)) p ∙ q

pub goes_on : {D L : Type 0} (step : D → L → Option D) (d e f : D) (xs : List L) (l : L) → run step d xs ≡ Some e → step e l ≡ Some f → run step d (xs ++ l ∷ []) ≡ Some f
goes_on step d e f xs l p q = chain step d e xs (l ∷ []) (Some f) p (ap (λ r. then r (λ g. Some g)) q)

pub is_stuck : {D L : Type 0} (step : D → L → Option D) (d e : D) (xs ys : List L) (l : L) → run step d xs ≡ Some e → step e l ≡ None → run step d (xs ++ l ∷ ys) ≡ None
is_stuck step d e xs ys l p q = chain step d e xs (l ∷ ys) None p (ap (λ r. then r (λ g. run step g ys)) q)

-- each part is spelled by its lines
pub each_spelled : {A L : Type 0} (text : A → List ℕ) (lines : A → List L) (spell : L → List ℕ) → ((a : A) → text a ≡ flat_map spell (lines a)) → (xs : List A)
    → flat_map text xs ≡ flat_map spell (flat_map lines xs)
each_spelled text lines spell same [] = refl
each_spelled text lines spell same (a ∷ xs) =
    ap (λ t. t ++ flat_map text xs) (same a) ∙ ap (λ t. flat_map spell (lines a) ++ t) (each_spelled text lines spell same xs) ∙ sym (flat_map-append spell (lines a) (flat_map lines xs))
