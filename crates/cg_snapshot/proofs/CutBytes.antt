-- Bytes cut at the first position of a byte.
use Rattle.std.proofs.Common.{◌≡◌, ◌≢◌, refl, sym, ◌∙◌, ap, ℕ, zero, suc, ◌+◌, ◌-◌, ◌<◌, true, not, ◌==◌, List, [], ◌∷◌, ◌++◌, length, get_or, take, drop, arith, length-drop}
use Rattle.std.proofs.Math.Seq.{take-length}
use Rattle.std.specs.List.{list_all}
use Rattle.std.proofs.lemmas.Bool.{eq-eqb}
use Rattle.cg_snapshot.specs.Rows.{Lacks, IsTail}
use Rattle.cg_graph.proofs.Members.{true_and}

-- nothing, or this byte and the bytes after it
abbrev pub IsAt : ℕ → List ℕ → Type 0
IsAt s [] = Unit {0}
IsAt s (b ∷ bytes) = b ≡ s

pub tail_is_at : (x : List ℕ) → IsTail x → IsAt 32 x
tail_is_at [] h = tt
tail_is_at (b ∷ x) h = h

pub at_is_tail : (x : List ℕ) → IsAt 32 x → IsTail x
at_is_tail [] h = tt
at_is_tail (b ∷ x) h = h

heads : (a b : ℕ) (x y : List ℕ) → a ∷ x ≡ b ∷ y → (a ≡ b) × (x ≡ y)
heads a b x y e = (cc, cc)

-- cutting at the first position of a byte is unique
pub cut_once : (s : ℕ) (w v x y : List ℕ) → Lacks s w → Lacks s v → IsAt s x → IsAt s y → w ++ x ≡ v ++ y → (w ≡ v) × (x ≡ y)
cut_once s [] [] x y p q a b e = (refl, e)
cut_once s [] (c ∷ v) (d ∷ x) y p q a b e = absurd (q.0 (sym (heads d c x (v ++ y) e).0 ∙ a))
cut_once s (c ∷ w) [] x (d ∷ y) p q a b e = absurd (p.0 ((heads c d (w ++ x) y e).0 ∙ b))
cut_once s (c ∷ w) (d ∷ v) x y p q a b e =
    let parts = heads c d (w ++ x) (v ++ y) e in
    let rest = cut_once s w v x y p.1 q.1 a b parts.1 in
    (ap (λ h. h ∷ w) parts.0 ∙ ap (λ t. d ∷ t) rest.0, rest.1)
cut_once s xs list x y p q a b e = absurd (cc)

pub lacks_append : (s : ℕ) (xs ys : List ℕ) → Lacks s xs → Lacks s ys → Lacks s (xs ++ ys)
lacks_append s [] ys p q = q
lacks_append s (x ∷ xs) ys p q = (p.0, lacks_append s xs ys p.1 q)

-- what a test says of a text
pub lacks_of : (s : ℕ) (bytes : List ℕ) → list_all (λ b. not (b == s)) bytes ≡ true → Lacks s bytes
lacks_of s [] h = tt
lacks_of s (b ∷ bytes) h =
    let parts = true_and (not (b == s)) (list_all (λ c. not (c == s)) bytes) h in
    (λ e. absurd (let yes = eq-eqb b s e in let no : not (b == s) ≡ true = parts.0 in let clash : not true ≡ true = ap not (sym yes) ∙ no in cc), lacks_of s bytes parts.1)

-- a byte between others
pub lacks_not : (s : ℕ) (xs ys : List ℕ) → Lacks s (xs ++ s ∷ ys) → ⊥
lacks_not s [] ys h = h.0 refl
lacks_not s (x ∷ xs) ys h = lacks_not s xs ys h.1

-- the bytes before the first position of a byte
pub lacks_before : (s : ℕ) (bytes : List ℕ) (end : ℕ) → ((k : ℕ) → k < end → get_or bytes k 0 ≢ s) → Lacks s (take end bytes)
lacks_before s bytes zero h = tt
lacks_before s [] (suc end) h = tt
lacks_before s (b ∷ bytes) (suc end) h = (h 0 (omega arith), lacks_before s bytes end (λ k less. h (suc k) (omega (arith, less))))

pub at_place : (s : ℕ) (bytes : List ℕ) (end : ℕ) → (end < length bytes → get_or bytes end 0 ≡ s) → IsAt s (drop end bytes)
at_place s [] zero h = tt
at_place s [] (suc end) h = tt
at_place s (b ∷ bytes) zero h = h (omega arith)
at_place s (b ∷ bytes) (suc end) h = at_place s bytes end (λ less. h (omega (arith, less)))

-- the byte at its first place
cut_suc : (s : ℕ) (bytes : List ℕ) (end : ℕ) → end < length bytes → get_or bytes end 0 ≡ s → bytes ≡ take end bytes ++ s ∷ drop (suc end) bytes
cut_suc s [] end within h = absurd (omega (arith, within))
cut_suc s (b ∷ bytes) zero within h = ap (λ c. c ∷ bytes) h
cut_suc s (b ∷ bytes) (suc end) within h = ap (λ t. b ∷ t) (cut_suc s bytes end (omega (arith, within)) h)

pub all_taken : (m : ℕ) (xs : List ℕ) → take (length xs - m) (drop m xs) ≡ drop m xs
all_taken m xs = ap (λ k. take k (drop m xs)) (sym (length-drop m xs)) ∙ take-length (drop m xs)

pub cut_there : (s : ℕ) (bytes : List ℕ) (end : ℕ) → end < length bytes → get_or bytes end 0 ≡ s → bytes ≡ take end bytes ++ s ∷ take (length bytes - (end + 1)) (drop (end + 1) bytes)
cut_there s bytes end within h =
    let one : suc end ≡ end + 1 = omega arith in
    cut_suc s bytes end within h ∙ ap (λ n. take end bytes ++ s ∷ drop n bytes) one ∙ ap (λ t. take end bytes ++ s ∷ t) (sym (all_taken (end + 1) bytes))
