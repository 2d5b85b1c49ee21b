-- The remaining weak references of an object after one is cleared, waits with it, or waits no longer.
use Rattle.std.proofs.Common.{◌≡◌, ◌≢◌, refl, sym, ◌∙◌, ap, subst, ℕ, ◌≤◌, Bool, true, false, not, inl, inr, List, [], ◌∷◌, ◌++◌, Some, arith}
use Rattle.std.specs.Prelude.{◌==◌, slice_get, if◌then◌else◌}
use Rattle.std.specs.List.{All}
use Rattle.std.proofs.lemmas.Bool.{not-true, eq-eqb}
use Rattle.std.proofs.lemmas.List.Elements.{All-nil, All-cons, All-head, All-tail}
use Rattle.cg_graph.specs.Member.{Includes}
use Rattle.cg_graph.specs.Rows.{Row, IsRising, refers_to, newest_first, weak_references_in, waiting_row, with_row_waiting, without_row}
use Rattle.cg_graph.proofs.Members.{either, true_and, Includes-append_cases, Includes-map_cases}
use Rattle.cg_death.proofs.RowSplits.{all_in, row_of_one, one_of_row, head_in, split_at, newest_first-pass, left-in}

pub none_inside : (xs : List ℕ) → ((x : ℕ) → Includes xs x → ⊥) → xs ≡ []
none_inside [] none = refl
none_inside (x ∷ xs) none = absurd (none x (inl refl))

-- fewer rows have fewer weak references
pub fewer_in : (test : Row → Bool) (rows left : List Row) → ((x : Row) → Includes left x → Includes rows x) → (w : ℕ) → Includes (newest_first test left) w → Includes (newest_first test rows) w
fewer_in test rows left inside w m =
    let found = row_of_one test left w m in
    subst (Includes (newest_first test rows)) found.3 (one_of_row test rows found.0 (inside found.0 found.1) found.2)

pub none_of_fewer : (test : Row → Bool) (rows left : List Row) → ((x : Row) → Includes left x → Includes rows x) → newest_first test rows ≡ [] → newest_first test left ≡ []
none_of_fewer test rows left inside none = none_inside (newest_first test left) (λ w m. subst (λ l. Includes l w) none (fewer_in test rows left inside w m))

-- a property of each row holds of the remaining ones, and of those of which one waits
pub all_of : (P : Row → Type 0) (xs : List Row) → ((x : Row) → Includes xs x → P x) → All P xs
all_of P [] each = All-nil P
all_of P (x ∷ xs) each = All-cons P x xs (each x (inl refl)) (all_of P xs (λ y m. each y (inr m)))

pub all_left : (P : Row → Type 0) (weak : ℕ) (rows : List Row) → All P rows → All P (without_row weak rows)
all_left P weak rows all = all_of P (without_row weak rows) (λ x m. all_in P rows x all (left-in weak rows x m))

pub others_waiting : (o weak : ℕ) (rows : List Row) → All (λ r. r.weak ≢ o) rows → All (λ r. r.weak ≢ o) (with_row_waiting weak rows)
others_waiting o weak [] all = All-nil (λ r. r.weak ≢ o)
others_waiting o weak (x ∷ rows) all =
    All-cons (λ r. r.weak ≢ o) (if x.weak == weak then waiting_row x else x) (with_row_waiting weak rows)
    (one (x.weak == weak) (All-head (λ r. r.weak ≢ o) x rows all)) (others_waiting o weak rows (All-tail (λ r. r.weak ≢ o) x rows all))
  where
    one : (b : Bool) → x.weak ≢ o → (if b then waiting_row x else x).weak ≢ o
    one true differs = differs
    one false differs = differs

-- the first member of two lists, the first of which is not empty
first_inside : (xs ys : List ℕ) (w first : ℕ) → Includes xs w → slice_get (xs ++ ys) 0 ≡ Some first → Includes xs first
first_inside [] ys w first m e = absurd m
first_inside (x ∷ xs) ys w first m e = let same : x ≡ first = cc in inl same

-- the newest weak reference is the greatest
pub newest_is_greatest : (test : Row → Bool) (rows : List Row) (weak w : ℕ) → IsRising rows → slice_get (newest_first test rows) 0 ≡ Some weak → Includes (newest_first test rows) w → w ≤ weak
newest_is_greatest test rows weak w rise newest m =
    let top = row_of_one test rows weak (head_in (newest_first test rows) weak newest) in
    let one = row_of_one test rows w m in
    let s = split_at rows top.0 rise top.1 in
    let spelled : newest_first test rows ≡ newest_first test s.back ++ top.0.weak ∷ newest_first test s.front = ap (newest_first test) s.is ∙ newest_first-pass test s.front top.0 s.back top.2 in
    either (Includes-append_cases s.front (top.0 ∷ s.back) one.0 (subst (λ l. Includes l one.0) s.is one.1))
    (λ k. let low = s.lower one.0 k in omega (arith, low, top.3, one.3))
    (λ k. either k
    (λ e. let same : top.0.weak ≡ one.0.weak = ap (λ (r : Row). r.weak) e in omega (arith, same, top.3, one.3))
    (λ n.
    let inside = first_inside (newest_first test s.back) (top.0.weak ∷ newest_first test s.front) one.0.weak weak (one_of_row test s.back one.0 n one.2)
    (ap (λ l. slice_get l 0) (sym spelled) ∙ newest) in
    let found = row_of_one test s.back weak inside in
    let high = s.higher found.0 found.1 in
    absurd (omega (arith, high, found.3, top.3))))

-- a row that still refers after another began to wait did so before, and is not that other
pub refers_before : (o weak : ℕ) (rows : List Row) (w : ℕ) → Includes (weak_references_in (with_row_waiting weak rows) o) w → Includes (weak_references_in rows o) w × (w ≢ weak)
refers_before o weak rows w m =
    let found = row_of_one (refers_to o) (with_row_waiting weak rows) w m in
    let parts = true_and (found.0.referent == o) (not found.0.waits) found.2 in
    let from = Includes-map_cases (λ (r : Row). if r.weak == weak then waiting_row r else r) rows found.0 found.1 in
    go from.0 found.0 (from.0.weak == weak) refl from.1 from.2 (not-true found.0.waits parts.1) found.2 found.3
  where
    go : (y x : Row) (b : Bool) → (y.weak == weak) ≡ b → Includes rows y → (if y.weak == weak then waiting_row y else y) ≡ x → x.waits ≡ false → refers_to o x
        ≡ true → x.weak ≡ w → Includes (weak_references_in rows o) w × (w ≢ weak)
    go y x true is inside same stays passes named =
        let waits : true ≡ x.waits = ap (λ (z : Row). z.waits) (sym (ap (λ b. if b then waiting_row y else y) is) ∙ same) in
        absurd (let no : true ≡ false = waits ∙ stays in cc)
    go y x false is inside same stays passes named =
        let e : y ≡ x = sym (ap (λ b. if b then waiting_row y else y) is) ∙ same in
        let weak_is : y.weak ≡ w = ap (λ (z : Row). z.weak) e ∙ named in (
          subst (Includes (weak_references_in rows o)) weak_is (one_of_row (refers_to o) rows y inside (ap (refers_to o) e ∙ passes)),
          λ own. absurd (let no : true ≡ false = sym (eq-eqb y.weak weak (weak_is ∙ own)) ∙ is in cc),
        )
