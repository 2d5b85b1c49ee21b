-- Rows in ascending order of weak reference. The look-ups determine the list.
use Rattle.std.proofs.Common.{◌≡◌, ◌≢◌, ◌⊎◌, ℕ, ◌<◌, ◌≤◌, Bool, true, false, not, cond, List, [], ◌∷◌, ◌++◌, length, Option, Some, None, refl, sym, ap, ◌∙◌, subst, inl, inr, arith}
use Rattle.std.specs.Prelude.{◌==◌, ◌&&◌, nat_lt, nat_eq, find, option_map, IsSome, if◌then◌else◌}
use Rattle.std.specs.List.{All}
use Rattle.std.proofs.lemmas.Bool.{cases_eq, cases_lt, eq-eqb, ne_eqb, lt-ltb, le-ltb}
use Rattle.std.proofs.lemmas.Bool.Decides.{nat_tests}
use Rattle.std.proofs.lemmas.List.Elements.{All-nil, All-cons, All-head, All-tail, All-weaker, All-push}
use Rattle.cg_graph.specs.Rows.{Row, IsRising, waiting_row, with_row_waiting, without_row}
use Rattle.cg_weak.specs.declared.nodes.Node.{Node}
use Rattle.cg_weak.specs.Table.{row_at, row_of, put_row, rows_of, node_in}

-- all rows are above a weak reference
abbrev pub AllAbove : ℕ → List Row → Type 0
AllAbove weak rows = All (λ x. weak < x.weak) rows

abbrev pub AllBelow : ℕ → List Row → Type 0
AllBelow weak rows = All (λ x. x.weak < weak) rows

-- a weak reference below all rows has no row
pub row_at-below : (weak : ℕ) (rows : List Row) → AllAbove weak rows → row_at rows weak ≡ None
row_at-below weak [] lower = refl
row_at-below weak (r ∷ rows) lower =
    let here : weak < r.weak = All-head (λ x. weak < x.weak) r rows lower in
    ap (λ b. cond b (Some r) (row_at rows weak)) (ne_eqb r.weak weak (λ same. absurd (omega (arith, same, here))))
    ∙ row_at-below weak rows (All-tail (λ x. weak < x.weak) r rows lower)

-- so it is above every lower bound of the rows
pub found_above : (low : ℕ) (rows : List Row) (weak : ℕ) (r : Row) → AllAbove low rows → row_at rows weak ≡ Some r → low < weak
found_above low [] weak r lower found = absurd (cc)
found_above low (x ∷ rows) weak r lower found = elim (cases_eq x.weak weak) [
  | inl same ↦ let here : low < x.weak = All-head (λ y. low < y.weak) x rows lower in omega (arith, same, here)
  | inr differs ↦ found_above low rows weak r (All-tail (λ y. low < y.weak) x rows lower) (sym (ap (λ b. cond b (Some x) (row_at rows weak)) (ne_eqb x.weak weak differs)) ∙ found)
]

pub row_at-head : (r : Row) (rows : List Row) → row_at (r ∷ rows) r.weak ≡ Some r
row_at-head r rows = ap (λ b. cond b (Some r) (row_at rows r.weak)) (eq-eqb r.weak r.weak refl)

pub row_at-tail : (r : Row) (rows : List Row) (weak : ℕ) → r.weak ≢ weak → row_at (r ∷ rows) weak ≡ row_at rows weak
row_at-tail r rows weak differs = ap (λ b. cond b (Some r) (row_at rows weak)) (ne_eqb r.weak weak differs)

-- two ascending lists with the same rows are equal
pub same_rows : (xs ys : List Row) → IsRising xs → IsRising ys → ((weak : ℕ) → row_at xs weak ≡ row_at ys weak) → xs ≡ ys
same_rows [] [] xs_rise ys_rise same = refl
same_rows [] (y ∷ ys) xs_rise ys_rise same =
    let is : None ≡ Some y = same y.weak ∙ row_at-head y ys in absurd (cc)
same_rows (x ∷ xs) [] xs_rise ys_rise same =
    let is : Some x ≡ None = sym (row_at-head x xs) ∙ same x.weak in absurd (cc)
same_rows (x ∷ xs) (y ∷ ys) xs_rise ys_rise same = go (cases_eq x.weak y.weak)
    (λ heads. same_rows xs ys xs_rise.1 ys_rise.1 (tails heads))
  where
    tails : x.weak ≡ y.weak → (weak : ℕ) → row_at xs weak ≡ row_at ys weak
    tails heads weak = elim (cases_eq x.weak weak) [
      | inl is ↦
          row_at-below weak xs (subst (λ w. AllAbove w xs) is xs_rise.0)
          ∙ sym (row_at-below weak ys (subst (λ w. AllAbove w ys) (sym heads ∙ is) ys_rise.0))
      | inr differs ↦
          sym (row_at-tail x xs weak differs) ∙ same weak ∙ row_at-tail y ys weak (λ e. differs (heads ∙ e))
    ]

    go : (x.weak ≡ y.weak) ⊎ (x.weak ≢ y.weak) → (x.weak ≡ y.weak → xs ≡ ys) → x ∷ xs ≡ y ∷ ys
    go (inl heads) rest =
        let is : Some x ≡ Some y = sym (row_at-head x xs) ∙ same x.weak ∙ ap (row_at (y ∷ ys)) heads ∙ row_at-head y ys in
        let first : x ≡ y = cc in
        λ i. first i ∷ rest heads i
    go (inr differs) rest =
        let x_there : row_at ys x.weak ≡ Some x = sym (row_at-tail y ys x.weak (λ e. differs (sym e))) ∙ sym (same x.weak) ∙ row_at-head x xs in
        let y_there : row_at xs y.weak ≡ Some y = sym (row_at-tail x xs y.weak differs) ∙ same y.weak ∙ row_at-head y ys in
        absurd (omega (arith, found_above y.weak ys x.weak x ys_rise.0 x_there, found_above x.weak xs y.weak y xs_rise.0 y_there))

-- inserting a row keeps a lower bound of the rows
pub above-put_row : (low : ℕ) (r : Row) (rows : List Row) → low < r.weak → AllAbove low rows → AllAbove low (put_row r rows)
above-put_row low r [] lower rest = All-cons (λ x. low < x.weak) r [] lower rest
above-put_row low r (x ∷ rows) lower rest =
    let here : low < x.weak = All-head (λ y. low < y.weak) x rows rest in
    let later : AllAbove low rows = All-tail (λ y. low < y.weak) x rows rest in
    go (nat_lt x.weak r.weak) (r.weak == x.weak) here later (above-put_row low r rows lower later)
  where
    go : (a b : Bool) → low < x.weak → AllAbove low rows → AllAbove low (put_row r rows) → AllAbove low (if a then x ∷ put_row r rows else (if b then r ∷ rows else r ∷ x ∷ rows))
    go true b here later put = All-cons (λ y. low < y.weak) x (put_row r rows) here put
    go false true here later put = All-cons (λ y. low < y.weak) r rows lower later
    go false false here later put = All-cons (λ y. low < y.weak) r (x ∷ rows) lower (All-cons (λ y. low < y.weak) x rows here later)

pub rising-put_row : (r : Row) (rows : List Row) → IsRising rows → IsRising (put_row r rows)
rising-put_row r [] rise = (All-nil (λ x. r.weak < x.weak), tt)
rising-put_row r (x ∷ rows) rise = go (cases_lt x.weak r.weak) (cases_eq r.weak x.weak) (rising-put_row r rows rise.1)
  where
    raised : (low : ℕ) → low ≤ x.weak → AllAbove low rows
    raised low le = All-weaker (λ y. x.weak < y.weak) (λ y. low < y.weak) (λ y higher. omega (arith, le, higher)) rows rise.0

    spelled : (a b : Bool) → nat_lt x.weak r.weak ≡ a → (r.weak == x.weak) ≡ b → put_row r (x ∷ rows) ≡ (if a then x ∷ put_row r rows else (if b then r ∷ rows else r ∷ x ∷ rows))
    spelled a b is_a is_b = λ i. if is_a i then x ∷ put_row r rows else (if is_b i then r ∷ rows else r ∷ x ∷ rows)

    go : (x.weak < r.weak) ⊎ (r.weak ≤ x.weak) → (r.weak ≡ x.weak) ⊎ (r.weak ≢ x.weak) → IsRising (put_row r rows) → IsRising (put_row r (x ∷ rows))
    go (inl lower) either put =
        subst IsRising (sym (spelled true (r.weak == x.weak) (lt-ltb x.weak r.weak lower) refl)) (above-put_row x.weak r rows lower rise.0, put)
    go (inr higher) (inl same) put =
        subst IsRising (sym (spelled false true (le-ltb x.weak r.weak higher) (eq-eqb r.weak x.weak same))) (raised r.weak higher, rise.1)
    go (inr higher) (inr differs) put =
        let less : r.weak < x.weak = omega (arith, higher, differs) in
        subst IsRising (sym (spelled false false (le-ltb x.weak r.weak higher) (ne_eqb r.weak x.weak differs)))
        (All-cons (λ y. r.weak < y.weak) x rows less (raised r.weak higher), rise)

pub row_at-put_row : (r : Row) (rows : List Row) (weak : ℕ) → row_at (put_row r rows) weak ≡ cond (r.weak == weak) (Some r) (row_at rows weak)
row_at-put_row r [] weak = refl
row_at-put_row r (x ∷ rows) weak = grind (arith, nat_tests, row_at-put_row r rows weak)

pub rising-rows_of : (nodes : List (ℕ × Node)) → IsRising (rows_of nodes)
unfolding rows_of
rising-rows_of [] = tt
rising-rows_of (e ∷ nodes) = rising-put_row (row_of e.0 e.1) (rows_of nodes) (rising-rows_of nodes)

-- the rows of the nodes contain the row of each node
pub row_at-rows_of : (nodes : List (ℕ × Node)) (weak : ℕ) → row_at (rows_of nodes) weak ≡ option_map (row_of weak) (node_in nodes weak)
unfolding rows_of
row_at-rows_of [] weak = refl
row_at-rows_of (e ∷ nodes) weak =
    row_at-put_row (row_of e.0 e.1) (rows_of nodes) weak
    ∙ ap (cond (e.0 == weak) (Some (row_of e.0 e.1))) (row_at-rows_of nodes weak)
    ∙ elim (cases_eq e.0 weak) [
      | inl same ↦
          ap (λ b. cond b (Some (row_of e.0 e.1)) (option_map (row_of weak) (node_in nodes weak))) (eq-eqb e.0 weak same)
          ∙ ap (λ w. Some (row_of w e.1)) same
          ∙ sym (ap (λ b. option_map (row_of weak) (cond b (Some e.1) (node_in nodes weak))) (eq-eqb weak e.0 (sym same)))
      | inr differs ↦
          ap (λ b. cond b (Some (row_of e.0 e.1)) (option_map (row_of weak) (node_in nodes weak))) (ne_eqb e.0 weak differs)
          ∙ sym (ap (λ b. option_map (row_of weak) (cond b (Some e.1) (node_in nodes weak))) (ne_eqb weak e.0 (λ e. differs (sym e))))
    ]

-- removing a row below all others, or appending one above all others
pub row_at-append : (rows : List Row) (r : Row) (weak : ℕ) → AllBelow r.weak rows → row_at (rows ++ r ∷ []) weak ≡ cond (r.weak == weak) (Some r) (row_at rows weak)
row_at-append [] r weak lower = refl
row_at-append (x ∷ rows) r weak lower =
    let here : x.weak < r.weak = All-head (λ y. y.weak < r.weak) x rows lower in
    go (cases_eq x.weak weak) here (row_at-append rows r weak (All-tail (λ y. y.weak < r.weak) x rows lower))
  where
    go : (x.weak ≡ weak) ⊎ (x.weak ≢ weak) → x.weak < r.weak → row_at (rows ++ r ∷ []) weak ≡ cond (r.weak == weak) (Some r) (row_at rows weak)
        → row_at (x ∷ rows ++ r ∷ []) weak ≡ cond (r.weak == weak) (Some r) (row_at (x ∷ rows) weak)
    go (inl same) here rest =
        ap (λ b. cond b (Some x) (row_at (rows ++ r ∷ []) weak)) (eq-eqb x.weak weak same)
        ∙ sym (ap (λ b. cond b (Some r) (row_at (x ∷ rows) weak)) (ne_eqb r.weak weak (λ e. absurd (omega (arith, e, same, here))))
        ∙ ap (λ b. cond b (Some x) (row_at rows weak)) (eq-eqb x.weak weak same))
    go (inr differs) here rest =
        row_at-tail x (rows ++ r ∷ []) weak differs ∙ rest ∙ ap (cond (r.weak == weak) (Some r)) (sym (row_at-tail x rows weak differs))

pub rising-append : (rows : List Row) (r : Row) → IsRising rows → AllBelow r.weak rows → IsRising (rows ++ r ∷ [])
rising-append [] r rise lower = (All-nil (λ x. r.weak < x.weak), tt)
rising-append (x ∷ rows) r rise lower =
    (All-push (λ y. x.weak < y.weak) rows r rise.0 (All-head (λ y. y.weak < r.weak) x rows lower), rising-append rows r rise.1 (All-tail (λ y. y.weak < r.weak) x rows lower))

-- the rows without that of one weak reference
pub each-without : (P : Row → Type 0) (weak : ℕ) (rows : List Row) → All P rows → All P (without_row weak rows)
each-without P weak [] each = each
each-without P weak (x ∷ rows) each = go (x.weak == weak) (each-without P weak rows (All-tail P x rows each))
  where
    go : (b : Bool) → All P (without_row weak rows) → All P (cond (not b) (x ∷ without_row weak rows) (without_row weak rows))
    go true rest = rest
    go false rest = All-cons P x (without_row weak rows) (All-head P x rows each) rest

pub rising-without : (weak : ℕ) (rows : List Row) → IsRising rows → IsRising (without_row weak rows)
rising-without weak [] rise = tt
rising-without weak (x ∷ rows) rise = go (x.weak == weak) (rising-without weak rows rise.1)
  where
    go : (b : Bool) → IsRising (without_row weak rows) → IsRising (cond (not b) (x ∷ without_row weak rows) (without_row weak rows))
    go true rest = rest
    go false rest = (each-without (λ y. x.weak < y.weak) weak rows rise.0, rest)

pub row_at-without : (weak : ℕ) (rows : List Row) (v : ℕ) → row_at (without_row weak rows) v ≡ cond (nat_eq weak v) None (row_at rows v)
row_at-without weak [] v = grind (arith, nat_tests)
row_at-without weak (x ∷ rows) v = grind (arith, nat_tests, row_at-without weak rows v)

-- the rows after one starts to wait
eqb_turned : (a b : ℕ) → (a == b) ≡ (b == a)
eqb_turned a b = elim (cases_eq a b) [
  | inl same ↦ eq-eqb a b same ∙ sym (eq-eqb b a (sym same))
  | inr differs ↦ ne_eqb a b differs ∙ sym (ne_eqb b a (λ e. differs (sym e)))
]

same_weak : (weak : ℕ) (r : Row) → (if r.weak == weak then waiting_row r else r).weak ≡ r.weak
same_weak weak r = go (r.weak == weak)
  where
    go : (b : Bool) → (if b then waiting_row r else r).weak ≡ r.weak
    go true = refl
    go false = refl

pub each-waiting : (P : Row → Type 0) → ((r : Row) → P r → P (waiting_row r)) → (weak : ℕ) (rows : List Row) → All P rows → All P (with_row_waiting weak rows)
each-waiting P kept weak [] each = All-nil P
each-waiting P kept weak (x ∷ rows) each =
    All-cons P (if x.weak == weak then waiting_row x else x) (with_row_waiting weak rows)
    (go (x.weak == weak) (All-head P x rows each))
    (each-waiting P kept weak rows (All-tail P x rows each))
  where
    go : (b : Bool) → P x → P (if b then waiting_row x else x)
    go true here = kept x here
    go false here = here

pub rising-waiting : (weak : ℕ) (rows : List Row) → IsRising rows → IsRising (with_row_waiting weak rows)
rising-waiting weak [] rise = tt
rising-waiting weak (x ∷ rows) rise =
    (subst (λ w. AllAbove w (with_row_waiting weak rows)) (sym (same_weak weak x)) (each-waiting (λ y. x.weak < y.weak) (λ y higher. higher) weak rows rise.0), rising-waiting weak rows rise.1)

pub row_at-waiting : (weak : ℕ) (rows : List Row) (v : ℕ) → row_at (with_row_waiting weak rows) v ≡ option_map (λ r. if nat_eq weak v then waiting_row r else r) (row_at rows v)
row_at-waiting weak [] v = refl
row_at-waiting weak (x ∷ rows) v = go (cases_eq x.weak v) (row_at-waiting weak rows v)
  where
    waited : Row → Row
    waited r = if r.weak == weak then waiting_row r else r

    go : (x.weak ≡ v) ⊎ (x.weak ≢ v) → row_at (with_row_waiting weak rows) v ≡ option_map (λ r. if nat_eq weak v then waiting_row r else r) (row_at rows v)
        → row_at (with_row_waiting weak (x ∷ rows)) v ≡ option_map (λ r. if nat_eq weak v then waiting_row r else r) (row_at (x ∷ rows) v)
    go (inl same) rest =
        ap (λ b. cond b (Some (waited x)) (row_at (with_row_waiting weak rows) v)) (eq-eqb (waited x).weak v (same_weak weak x ∙ same))
        ∙ ap (λ b. Some (if b then waiting_row x else x)) (ap (λ w. w == weak) same ∙ eqb_turned v weak)
        ∙ sym (ap (λ b. option_map (λ r. if nat_eq weak v then waiting_row r else r) (cond b (Some x) (row_at rows v))) (eq-eqb x.weak v same))
    go (inr differs) rest =
        ap (λ b. cond b (Some (waited x)) (row_at (with_row_waiting weak rows) v)) (ne_eqb (waited x).weak v (λ e. differs (sym (same_weak weak x) ∙ e)))
        ∙ rest
        ∙ sym (ap (option_map (λ r. if nat_eq weak v then waiting_row r else r)) (row_at-tail x rows v differs))

-- a row that passes a test
abbrev pub passes : (Row → Bool) → Option Row → Bool
passes test None = false
passes test (Some r) = test r

-- the referent of a row found by weak reference and test together
abbrev pub referent_if : (Row → Bool) → Option Row → Option ℕ
referent_if test None = None
referent_if test (Some r) = if test r then Some r.referent else None

pub referent_found : (test : Row → Bool) (rows : List Row) (weak : ℕ) → IsRising rows → option_map (λ r. r.referent) (find (λ r. (r.weak == weak) && test r) rows) ≡ referent_if test (row_at rows weak)
referent_found test [] weak rise = refl
referent_found test (x ∷ rows) weak rise = go (cases_eq x.weak weak) (referent_found test rows weak rise.1)
  where
    found : List Row → Option ℕ
    found xs = option_map (λ r. r.referent) (find (λ r. (r.weak == weak) && test r) xs)

    go : (x.weak ≡ weak) ⊎ (x.weak ≢ weak) → found rows ≡ referent_if test (row_at rows weak) → found (x ∷ rows) ≡ referent_if test (row_at (x ∷ rows) weak)
    go (inl same) rest =
        ap (λ b. option_map (λ r. r.referent) (cond (b && test x) (Some x) (find (λ r. (r.weak == weak) && test r) rows))) (eq-eqb x.weak weak same)
        ∙ here (test x)
        ∙ sym (ap (λ b. referent_if test (cond b (Some x) (row_at rows weak))) (eq-eqb x.weak weak same))
      where
        here : (b : Bool) → option_map (λ r. r.referent) (cond b (Some x) (find (λ r. (r.weak == weak) && test r) rows)) ≡ (if b then Some x.referent else None)
        here true = refl
        here false = rest ∙ ap (referent_if test) (row_at-below weak rows (subst (λ w. AllAbove w rows) same rise.0))
    go (inr differs) rest =
        ap (λ b. option_map (λ r. r.referent) (cond (b && test x) (Some x) (find (λ r. (r.weak == weak) && test r) rows))) (ne_eqb x.weak weak differs)
        ∙ rest
        ∙ sym (ap (referent_if test) (row_at-tail x rows weak differs))

-- a row found by weak reference and test together exists
pub found_there : (test : Row → Bool) (rows : List Row) (weak : ℕ) → IsSome (option_map (λ r. r.referent) (find (λ r. (r.weak == weak) && test r) rows)) → IsSome (row_at rows weak)
found_there test [] weak has = has
found_there test (x ∷ rows) weak has = go (x.weak == weak) has (found_there test rows weak)
  where
    go : (b : Bool) → IsSome (option_map (λ r. r.referent) (cond (b && test x) (Some x) (find (λ r. (r.weak == weak) && test r) rows)))
        → (IsSome (option_map (λ r. r.referent) (find (λ r. (r.weak == weak) && test r) rows)) → IsSome (row_at rows weak))
        → IsSome (cond b (Some x) (row_at rows weak))
    go true has rest = refl
    go false has rest = rest has

-- an inserted row is present
put_some : (r : Row) (rows : List Row) → put_row r rows ≡ [] → ⊥
put_some r [] none = absurd (cc)
put_some r (x ∷ xs) none = go (nat_lt x.weak r.weak) (r.weak == x.weak) none
  where
    go : (a b : Bool) → (if a then x ∷ put_row r xs else (if b then r ∷ xs else r ∷ x ∷ xs)) ≡ [] → ⊥
    go true b h = absurd (cc)
    go false true h = absurd (cc)
    go false false h = absurd (cc)

-- there is a row exactly if there is a node
pub none-rows_of : (nodes : List (ℕ × Node)) → length nodes ≡ 0 → rows_of nodes ≡ []
unfolding rows_of
none-rows_of [] none = refl
none-rows_of (e ∷ es) none = absurd (omega (arith, none))

pub some-rows_of : (nodes : List (ℕ × Node)) → rows_of nodes ≡ [] → length nodes ≡ 0
unfolding rows_of
some-rows_of [] none = refl
some-rows_of (e ∷ es) none = absurd (put_some (row_of e.0 e.1) (rows_of es) none)
