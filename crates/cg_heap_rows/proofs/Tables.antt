-- Marks and rows computed by a test of each place, and their meaning.
use Rattle.std.proofs.Common.{◌≡◌, refl, sym, ◌∙◌, ap, subst, ℕ, zero, suc, ◌<◌, Bool, true, false, cond, ◌&&◌, inl, List, [], ◌∷◌, ◌++◌, length, Some, arith, append-nil}
use Rattle.std.specs.Prelude.{◌↔◌, slice_get}
use Rattle.std.proofs.lemmas.Bool.{cases_eq}
use Rattle.std.proofs.lemmas.Option.{slice_get_within, same_Some}
use Rattle.cg_graph.specs.Member.{Includes}
use Rattle.cg_graph.proofs.Members.{either, true_and, Includes-append_left, Includes-append_right, Includes-append_cases}
use Rattle.cg_search.specs.Places.{Marks}
use Rattle.cg_search.specs.Counts.{targets_from}
use Rattle.cg_ask.specs.Answers.{Row, Rise, Tells}
use Rattle.cg_ask.specs.Marked.{MarkJust}
use Rattle.cg_ask.proofs.Rows.{rise_push}

-- the places below a number that pass a test, as marks
abbrev pub marks_to : ℕ → (ℕ → Bool) → List Bool
marks_to zero test = []
marks_to (suc n) test = test 0 ∷ marks_to n (λ i. test (suc i))

-- whether all of them pass
abbrev pub all_to : ℕ → (ℕ → Bool) → Bool
all_to zero test = true
all_to (suc n) test = test 0 && all_to n (λ i. test (suc i))

-- a row for each that passes
abbrev pub rows_to : ℕ → (ℕ → Bool) → (ℕ → List ℕ) → List Row
rows_to zero test numbers = []
rows_to (suc n) test numbers = rows_to n test numbers ++ cond (test n) ((n, numbers n) ∷ []) []

pub length-marks_to : (n : ℕ) (test : ℕ → Bool) → length (marks_to n test) ≡ n
length-marks_to zero test = refl
length-marks_to (suc n) test = ap suc (length-marks_to n (λ i. test (suc i)))

pub passes : (n : ℕ) (test : ℕ → Bool) (i : ℕ) → Marks (marks_to n test) i → test i ≡ true
passes zero test i m = absurd (cc)
passes (suc n) test zero m = same_Some (test 0) true m
passes (suc n) test (suc i) m = passes n (λ j. test (suc j)) i m

pub marks_of : (n : ℕ) (test : ℕ → Bool) (i : ℕ) → i < n → test i ≡ true → Marks (marks_to n test) i
marks_of zero test i below e = absurd (omega (arith, below))
marks_of (suc n) test zero below e = ap Some e
marks_of (suc n) test (suc i) below e = marks_of n (λ j. test (suc j)) i (omega (arith, below)) e

pub within : (n : ℕ) (test : ℕ → Bool) (i : ℕ) → Marks (marks_to n test) i → i < n
within n test i m = omega (arith, slice_get_within (marks_to n test) i true m, length-marks_to n test)

pub all_pass : (n : ℕ) (test : ℕ → Bool) (i : ℕ) → all_to n test ≡ true → i < n → test i ≡ true
all_pass zero test i e below = absurd (omega (arith, below))
all_pass (suc n) test zero e below = (true_and (test 0) (all_to n (λ j. test (suc j))) e).0
all_pass (suc n) test (suc i) e below = all_pass n (λ j. test (suc j)) i (true_and (test 0) (all_to n (λ j. test (suc j))) e).1 (omega (arith, below))

-- a test that decides a property of the places below the number
pub just_to : (n : ℕ) (test : ℕ → Bool) (P : ℕ → Type 0) → ((i : ℕ) → i < n → (test i ≡ true) ↔ P i) → ((i : ℕ) → P i → i < n) → MarkJust n P (marks_to n test)
just_to n test P decides below = record {
  len = length-marks_to n test;
  just = λ i. (λ m. (decides i (within n test i m)).0 (passes n test i m), λ p. marks_of n test i (below i p) ((decides i (below i p)).1 p));
}

-- the meaning of a row
pub record IsRow (n : ℕ) (test : ℕ → Bool) (tell : ℕ → List ℕ) (m : ℕ) (ns : List ℕ) : Type 0 where
  pub below : m < n
  pub passes : test m ≡ true
  pub numbers : ns ≡ tell m

pub clash : {b : Bool} → b ≡ true → b ≡ false → ⊥
clash p q = absurd (cc)

module _ (test : ℕ → Bool) (numbers : ℕ → List ℕ) where
  pub tells_to : (n : ℕ) → Tells (IsRow n test numbers) (rows_to n test numbers)
  tells_to zero = record { rise = tt; just = λ m ns. (λ h. absurd h, λ r. absurd (let b = r.below in omega (arith, b))) }
  tells_to (suc n) = by (test n) refl (tells_to n)
    where
      by : (b : Bool) → test n ≡ b → Tells (IsRow n test numbers) (rows_to n test numbers) → Tells (IsRow (suc n) test numbers) (rows_to n test numbers ++ cond b ((n, numbers n) ∷ []) [])
      by true e h = record {
        rise = rise_push (rows_to n test numbers) (n, numbers n) h.rise (λ r m. ((h.just r.0 r.1).0 m).below);
        just = λ m ns. (
          λ k. either (Includes-append_cases (rows_to n test numbers) ((n, numbers n) ∷ []) (m, ns) k) (λ old. more m ns ((h.just m ns).0 old))
              (λ new. either new (λ is. last m ns (ap (λ (r : Row). r.0) is) (ap (λ (r : Row). r.1) is)) (λ f. absurd f)),
          λ r. either (cases_eq m n)
              (λ is. Includes-append_right (rows_to n test numbers) ((n, numbers n) ∷ []) (m, ns) (inl (same m ns (sym is) (ap numbers (sym is) ∙ sym r.numbers))))
              (λ no. Includes-append_left (rows_to n test numbers) ((n, numbers n) ∷ []) (m, ns) ((h.just m ns).1 (less m ns no r))),
        );
      }
        where
          last : (m : ℕ) (ns : List ℕ) → n ≡ m → numbers n ≡ ns → IsRow (suc n) test numbers m ns
          last m ns is same = record { below = omega (arith, is); passes = ap test (sym is) ∙ e; numbers = sym same ∙ ap numbers is }

          same : (m : ℕ) (ns : List ℕ) → n ≡ m → numbers n ≡ ns → ◌≡◌ {A = Row} (n, numbers n) (m, ns)
          same m ns is also = ap (λ k. (k, numbers n)) is ∙ ap (λ (ks : List ℕ). (m, ks)) also

          more : (m : ℕ) (ns : List ℕ) → IsRow n test numbers m ns → IsRow (suc n) test numbers m ns
          more m ns r = record { below = omega (arith, r.below); passes = r.passes; numbers = r.numbers }

          less : (m : ℕ) (ns : List ℕ) → ¬ (m ≡ n) → IsRow (suc n) test numbers m ns → IsRow n test numbers m ns
          less m ns other r = record { below = omega (arith, r.below, other); passes = r.passes; numbers = r.numbers }
      by false e h = record {
        rise = subst (λ (rs : List Row). Rise rs) (sym none) h.rise;
        just = λ m ns. (
          λ k. let r = (h.just m ns).0 (subst (λ (rs : List Row). Includes rs (m, ns)) none k) in record { below = omega (arith, r.below); passes = r.passes; numbers = r.numbers },
          λ r. subst (λ (rs : List Row). Includes rs (m, ns)) (sym none)
              ((h.just m ns).1 (record { below = either (cases_eq m n) (λ is. absurd (clash r.passes (ap test is ∙ e))) (λ no. omega (arith, r.below, no)); passes = r.passes; numbers = r.numbers })),
        );
      }
        where
          none : rows_to n test numbers ++ [] ≡ rows_to n test numbers
          none = append-nil (rows_to n test numbers)

-- a target of a marked node is in its row
pub target_out : (marks : List Bool) (rows : List (List ℕ)) (x : ℕ) → Includes (targets_from marks rows) x → (p : ℕ) × (row : List ℕ) × Marks marks p × (slice_get rows p ≡ Some row) × Includes row x
target_out (true ∷ marks) (row ∷ rows) x h = either (Includes-append_cases row (targets_from marks rows) x h)
    (λ here. (0, row, refl, refl, here))
    (λ later. let found = target_out marks rows x later in (suc found.0, found.1, found.2, found.3, found.4))
target_out (false ∷ marks) (row ∷ rows) x h = let found = target_out marks rows x h in (suc found.0, found.1, found.2, found.3, found.4)
target_out xs rows x h = absurd h

pub target_in : (marks : List Bool) (rows : List (List ℕ)) (p : ℕ) (row : List ℕ) (x : ℕ) → Marks marks p → slice_get rows p ≡ Some row → Includes row x → Includes (targets_from marks rows) x
target_in (true ∷ marks) (r ∷ rows) zero row x m at h = let same : r ≡ row = cc in Includes-append_left r (targets_from marks rows) x (subst (λ (xs : List ℕ). Includes xs x) (sym same) h)
target_in (true ∷ marks) (r ∷ rows) (suc p) row x m at h = Includes-append_right r (targets_from marks rows) x (target_in marks rows p row x m at h)
target_in (false ∷ marks) (r ∷ rows) (suc p) row x m at h = target_in marks rows p row x m at h
target_in xs rows p row x m at h = absurd (cc)
