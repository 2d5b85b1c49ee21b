-- Rows split at one of them, and what the rows say after that one waits or is gone.
use Rattle.std.proofs.Common.{◌≡◌, ◌≢◌, refl, sym, ◌∙◌, ap, subst, ℕ, ◌<◌, Bool, true, false, cond, not, inl, inr, List, [], ◌∷◌, ◌++◌, map, reverse, Some, None, append_assoc, arith}
use Rattle.std.specs.Prelude.{◌⊎◌, ◌==◌, ◌&&◌, filter, find, option_map, slice_get, if◌then◌else◌}
use Rattle.std.specs.List.{All}
use Rattle.std.proofs.lemmas.Bool.{cases_eq, eq-eqb, ne_eqb, eqb-true}
use Rattle.std.proofs.lemmas.List.{reverse-append, map-append, append-nil}
use Rattle.std.proofs.lemmas.List.Elements.{All-head, All-tail, filter-append}
use Rattle.cg_graph.specs.Member.{Includes}
use Rattle.cg_graph.specs.Rows.{Row, IsRising, referent_in, waited_in, waits_with, newest_first, waiting_in, waiting_row, with_row_waiting, without_row}
use Rattle.cg_graph.proofs.Members.{either, Includes-append_left, Includes-append_right, Includes-append_cases, Includes-map, Includes-map_cases, Includes-filter, Includes-filter_cases}

pub all_in : {X : Type 0} (P : X → Type 0) (xs : List X) (x : X) → All P xs → Includes xs x → P x
all_in P [] x all m = absurd m
all_in P (y ∷ xs) x all (inl e) = subst P e (All-head P y xs all)
all_in P (y ∷ xs) x all (inr m) = all_in P xs x (All-tail P y xs all) m

pub Includes-reverse : (xs : List ℕ) (x : ℕ) → Includes (reverse xs) x → Includes xs x
Includes-reverse [] x m = m
Includes-reverse (y ∷ xs) x m =
    either (Includes-append_cases (reverse xs) (y ∷ []) x (subst (λ ys. Includes ys x) (reverse-append (y ∷ []) xs) m)) (λ k. inr (Includes-reverse xs x k))
    (λ k. either k (λ e. inl e) (λ n. absurd n))

pub Includes-reversed : (xs : List ℕ) (x : ℕ) → Includes xs x → Includes (reverse xs) x
Includes-reversed [] x m = m
Includes-reversed (y ∷ xs) x m =
    subst (λ ys. Includes ys x) (sym (reverse-append (y ∷ []) xs))
    (either m (λ e. Includes-append_right (reverse xs) (y ∷ []) x (inl e)) (λ k. Includes-append_left (reverse xs) (y ∷ []) x (Includes-reversed xs x k)))

pub head_in : (xs : List ℕ) (x : ℕ) → slice_get xs 0 ≡ Some x → Includes xs x
head_in [] x e = absurd (cc)
head_in (y ∷ xs) x e = let same : y ≡ x = cc in inl same

-- a weak reference of some of the rows has a row among these
pub row_of_one : (test : Row → Bool) (rows : List Row) (weak : ℕ) → Includes (newest_first test rows) weak → (r : Row) × Includes rows r × (test r ≡ true) × (r.weak ≡ weak)
row_of_one test rows weak m =
    let named = Includes-map_cases (λ (r : Row). r.weak) (filter test rows) weak (Includes-reverse (map (λ (r : Row). r.weak) (filter test rows)) weak m) in
    let kept = Includes-filter_cases test rows named.0 named.1 in
    (named.0, kept.0, kept.1, named.2)

pub one_of_row : (test : Row → Bool) (rows : List Row) (r : Row) → Includes rows r → test r ≡ true → Includes (newest_first test rows) r.weak
one_of_row test rows r m passes = Includes-reversed (map (λ (r : Row). r.weak) (filter test rows)) r.weak (Includes-map (λ (r : Row). r.weak) (filter test rows)
    r (Includes-filter test rows r passes m))

-- rising rows before and after one of them
pub record Split (rows : List Row) (r : Row) : Type 0 where
  pub front : List Row
  pub back : List Row
  pub is : rows ≡ front ++ r ∷ back
  pub lower : (x : Row) → Includes front x → x.weak < r.weak
  pub higher : (x : Row) → Includes back x → r.weak < x.weak

pub split_at : (rows : List Row) (r : Row) → IsRising rows → Includes rows r → Split rows r
split_at [] r rise m = absurd m
split_at (y ∷ rows) r rise (inl e) = record {
  front = [];
  back = rows;
  is = ap (λ x. x ∷ rows) e;
  lower = λ x n. absurd n;
  higher = λ x n. subst (λ (z : Row). z.weak < x.weak) e (all_in (λ (x : Row). y.weak < x.weak) rows x rise.0 n);
}
split_at (y ∷ rows) r rise (inr m) =
    let rest = split_at rows r rise.1 m in record {
      front = y ∷ rest.front;
      back = rest.back;
      is = ap (λ l. y ∷ l) rest.is;
      lower = λ x n. either n (λ e. subst (λ (z : Row). z.weak < r.weak) e (all_in (λ (x : Row). y.weak < x.weak) rows r rise.0 m)) (λ k. rest.lower x k);
      higher = rest.higher;
    }

pub newest_first-append : (test : Row → Bool) (xs ys : List Row) → newest_first test (xs ++ ys) ≡ newest_first test ys ++ newest_first test xs
newest_first-append test xs ys =
    ap (λ l. reverse (map (λ (r : Row). r.weak) l)) (filter-append test xs ys)
    ∙ ap reverse (map-append (λ (r : Row). r.weak) (filter test xs) (filter test ys))
    ∙ reverse-append (map (λ (r : Row). r.weak) (filter test xs)) (map (λ (r : Row). r.weak) (filter test ys))

-- a row that does not pass is skipped
pub newest_first-skip : (test : Row → Bool) (front : List Row) (r : Row) (back : List Row) → test r ≡ false → newest_first test (front ++ r ∷ back) ≡ newest_first test (front ++ back)
newest_first-skip test front r back fails =
    newest_first-append test front (r ∷ back)
    ∙ ap (λ b. reverse (map (λ (x : Row). x.weak) (cond b (r ∷ filter test back) (filter test back))) ++ newest_first test front) fails
    ∙ sym (newest_first-append test front back)

-- one that passes is between the others
pub newest_first-pass : (test : Row → Bool) (front : List Row) (r : Row) (back : List Row) → test r ≡ true → newest_first test (front ++ r ∷ back)
    ≡ newest_first test back ++ r.weak ∷ newest_first test front
newest_first-pass test front r back passes =
    newest_first-append test front (r ∷ back)
    ∙ ap (λ b. reverse (map (λ (x : Row). x.weak) (cond b (r ∷ filter test back) (filter test back))) ++ newest_first test front) passes
    ∙ ap (λ l. l ++ newest_first test front) (reverse-append (r.weak ∷ []) (map (λ (x : Row). x.weak) (filter test back)))
    ∙ append_assoc (newest_first test back) (r.weak ∷ []) (newest_first test front)

none_first : (test : Row → Bool) (rows : List Row) → ((x : Row) → Includes rows x → test x ≡ false) → newest_first test rows ≡ []
none_first test rows none = ap (λ l. reverse (map (λ (r : Row). r.weak) l)) (nothing rows none)
  where
    nothing : (xs : List Row) → ((x : Row) → Includes xs x → test x ≡ false) → filter test xs ≡ []
    nothing [] h = refl
    nothing (x ∷ xs) h = ap (λ b. cond b (x ∷ filter test xs) (filter test xs)) (h x (inl refl)) ∙ nothing xs (λ y m. h y (inr m))

-- the rows after that one is gone, or waits
kept_all : (weak : ℕ) (rows : List Row) → ((x : Row) → Includes rows x → x.weak ≢ weak) → without_row weak rows ≡ rows
kept_all weak [] h = refl
kept_all weak (x ∷ rows) h = ap (λ b. cond (not b) (x ∷ without_row weak rows) (without_row weak rows)) (ne_eqb x.weak weak (h x (inl refl)))
    ∙ ap (λ l. x ∷ l) (kept_all weak rows (λ y m. h y (inr m)))

same_all : (weak : ℕ) (rows : List Row) → ((x : Row) → Includes rows x → x.weak ≢ weak) → with_row_waiting weak rows ≡ rows
same_all weak [] h = refl
same_all weak (x ∷ rows) h = λ i. (if ne_eqb x.weak weak (h x (inl refl)) i then waiting_row x else x) ∷ same_all weak rows (λ y m. h y (inr m)) i

module _ (rows : List Row) (r : Row) (s : Split rows r) where
  front_apart : (x : Row) → Includes s.front x → x.weak ≢ r.weak
  front_apart x m e = let low = s.lower x m in absurd (omega (arith, low, e))

  back_apart : (x : Row) → Includes s.back x → x.weak ≢ r.weak
  back_apart x m e = let high = s.higher x m in absurd (omega (arith, high, e))

  pub without-is : without_row r.weak rows ≡ s.front ++ s.back
  without-is =
      ap (without_row r.weak) s.is
      ∙ filter-append (λ x. not (x.weak == r.weak)) s.front (r ∷ s.back)
      ∙ (λ i. kept_all r.weak s.front front_apart i ++ cond (not (eq-eqb r.weak r.weak refl i)) (r ∷ kept_all r.weak s.back back_apart i) (kept_all r.weak s.back back_apart i))

  pub waiting-is : with_row_waiting r.weak rows ≡ s.front ++ waiting_row r ∷ s.back
  waiting-is =
      ap (with_row_waiting r.weak) s.is
      ∙ map-append (λ x. if x.weak == r.weak then waiting_row x else x) s.front (r ∷ s.back)
      ∙ (λ i. same_all r.weak s.front front_apart i ++ (if eq-eqb r.weak r.weak refl i then waiting_row r else r) ∷ same_all r.weak s.back back_apart i)

find-skip : (test : Row → Bool) (front : List Row) (r : Row) (back : List Row) → test r ≡ false → find test (front ++ r ∷ back) ≡ find test (front ++ back)
find-skip test [] r back fails = ap (λ b. cond b (Some r) (find test back)) fails
find-skip test (x ∷ front) r back fails = ap (cond (test x) (Some x)) (find-skip test front r back fails)

find-none : (test : Row → Bool) (rows : List Row) → ((x : Row) → Includes rows x → test x ≡ false) → find test rows ≡ None
find-none test [] none = refl
find-none test (x ∷ rows) none = ap (λ b. cond b (Some x) (find test rows)) (none x (inl refl)) ∙ find-none test rows (λ y m. none y (inr m))

find-first : (test : Row → Bool) (front : List Row) (r : Row) (back : List Row) → ((x : Row) → Includes front x → test x ≡ false) → test r ≡ true → find test (front ++ r ∷ back) ≡ Some r
find-first test [] r back none passes = ap (λ b. cond b (Some r) (find test back)) passes
find-first test (x ∷ front) r back none passes = ap (λ b. cond b (Some x) (find test (front ++ r ∷ back))) (none x (inl refl)) ∙ find-first test front r back (λ y m. none y (inr m)) passes

abbrev stands : ℕ → Row → Bool
stands weak x = (x.weak == weak) && not x.waits

apart : (weak : ℕ) (x : Row) → x.weak ≢ weak → stands weak x ≡ false
apart weak x differs = ap (λ b. b && not x.waits) (ne_eqb x.weak weak differs)

both_false : (b c : Bool) → c ≡ false → (b && c) ≡ false
both_false true c e = e
both_false false c e = refl

module _ (rows : List Row) (r : Row) (s : Split rows r) where
  no_others : (x : Row) → Includes (s.front ++ s.back) x → stands r.weak x ≡ false
  no_others x m = apart r.weak x (either (Includes-append_cases s.front s.back x m) (front_apart rows r s x) (back_apart rows r s x))

  pub referent-is : r.waits ≡ false → referent_in rows r.weak ≡ Some r.referent
  referent-is stays =
      ap (λ l. referent_in l r.weak) s.is
      ∙ ap (option_map (λ (x : Row). x.referent)) (find-first (stands r.weak) s.front r s.back (λ x m. apart r.weak x (front_apart rows r s x m)) (λ i. eq-eqb r.weak r.weak refl i && not (stays i)))

  -- the object that it waits with
  pub waited-is : r.waits ≡ true → waited_in rows r.weak ≡ Some r.referent
  waited-is waits =
      ap (λ l. waited_in l r.weak) s.is
      ∙ ap (option_map (λ (x : Row). x.referent)) (find-first (λ x. (x.weak == r.weak) && x.waits) s.front r s.back
      (λ x m. ap (λ b. b && x.waits) (ne_eqb x.weak r.weak (front_apart rows r s x m))) (λ i. eq-eqb r.weak r.weak refl i && waits i))

  -- After it is gone, or waits, it has no referent, and the others keep theirs.
  referent-front : (q : ℕ) → referent_in (s.front ++ s.back) q ≡ (if q == r.weak then None else referent_in rows q)
  referent-front q = elim (cases_eq q r.weak) [
    | inl same ↦
        ap (λ w. referent_in (s.front ++ s.back) w) same
        ∙ ap (option_map (λ (x : Row). x.referent)) (find-none (stands r.weak) (s.front ++ s.back) no_others)
        ∙ sym (ap (λ b. if b then None else referent_in rows q) (eq-eqb q r.weak same))
    | inr differs ↦
        ap (option_map (λ (x : Row). x.referent)) (sym (find-skip (stands q) s.front r s.back (apart q r (λ e. differs (sym e)))))
        ∙ ap (λ l. referent_in l q) (sym s.is)
        ∙ sym (ap (λ b. if b then None else referent_in rows q) (ne_eqb q r.weak differs))
  ]

  pub referent-without : (q : ℕ) → referent_in (without_row r.weak rows) q ≡ (if q == r.weak then None else referent_in rows q)
  referent-without q = ap (λ l. referent_in l q) (without-is rows r s) ∙ referent-front q

  pub referent-waiting : (q : ℕ) → referent_in (with_row_waiting r.weak rows) q ≡ (if q == r.weak then None else referent_in rows q)
  referent-waiting q =
      ap (λ l. referent_in l q) (waiting-is rows r s)
      ∙ ap (option_map (λ (x : Row). x.referent)) (find-skip (stands q) s.front (waiting_row r) s.back (both_false (r.weak == q) false refl))
      ∙ referent-front q

  -- a waiting one had no referent
  pub referent-forgotten : r.waits ≡ true → (q : ℕ) → referent_in (without_row r.weak rows) q ≡ referent_in rows q
  referent-forgotten waits q =
      ap (λ l. referent_in l q) (without-is rows r s)
      ∙ ap (option_map (λ (x : Row). x.referent)) (sym (find-skip (stands q) s.front r s.back (both_false (r.weak == q) (not r.waits) (ap not waits))))
      ∙ ap (λ l. referent_in l q) (sym s.is)

  -- the waiting ones are the same if the row did not wait and is gone
  pub waiting-without : r.waits ≡ false → (o : ℕ) → waiting_in (without_row r.weak rows) o ≡ waiting_in rows o
  waiting-without stays o =
      ap (λ l. waiting_in l o) (without-is rows r s)
      ∙ sym (newest_first-skip (waits_with o) s.front r s.back (both_false (r.referent == o) r.waits stays))
      ∙ ap (λ l. waiting_in l o) (sym s.is)

  -- or if it waits with another object
  pub waiting-other : (o : ℕ) → r.referent ≢ o → (waiting_in (without_row r.weak rows) o ≡ waiting_in rows o) × (r.waits ≡ false → waiting_in (with_row_waiting r.weak rows) o ≡ waiting_in rows o)
  waiting-other o differs = (
    ap (λ l. waiting_in l o) (without-is rows r s)
        ∙ sym (newest_first-skip (waits_with o) s.front r s.back (ap (λ b. b && r.waits) (ne_eqb r.referent o differs))) ∙ ap (λ l. waiting_in l o) (sym s.is),
    λ stays.
        ap (λ l. waiting_in l o) (waiting-is rows r s)
        ∙ newest_first-skip (waits_with o) s.front (waiting_row r) s.back (ap (λ b. b && true) (ne_eqb r.referent o differs))
        ∙ sym (newest_first-skip (waits_with o) s.front r s.back (ap (λ b. b && r.waits) (ne_eqb r.referent o differs)))
        ∙ ap (λ l. waiting_in l o) (sym s.is),
  )

  -- a new waiting one comes after all newer ones
  pub waiting-more : r.waits ≡ false → ((v : ℕ) → Includes (waiting_in rows r.referent) v → r.weak < v) → waiting_in (with_row_waiting r.weak rows) r.referent
      ≡ waiting_in rows r.referent ++ r.weak ∷ []
  waiting-more stays newer =
      let o : ℕ = r.referent in
      let none : newest_first (waits_with o) s.front ≡ [] = none_first (waits_with o) s.front (λ x m. older x m (waits_with o x) refl) in
      ap (λ l. waiting_in l o) (waiting-is rows r s)
      ∙ newest_first-pass (waits_with o) s.front (waiting_row r) s.back (ap (λ b. b && true) (eq-eqb r.referent o refl))
      ∙ ap (λ l. newest_first (waits_with o) s.back ++ r.weak ∷ l) none
      ∙ ap (λ l. l ++ r.weak ∷ []) (sym (ap (λ l. waiting_in l o) s.is ∙ newest_first-skip (waits_with o) s.front r s.back
      (both_false (r.referent == o) r.waits stays) ∙ newest_first-append (waits_with o) s.front s.back
      ∙ ap (λ l. newest_first (waits_with o) s.back ++ l) none ∙ append-nil (newest_first (waits_with o) s.back)))
    where
      older : (x : Row) → Includes s.front x → (b : Bool) → waits_with r.referent x ≡ b → waits_with r.referent x ≡ false
      older x m false e = e
      older x m true e =
          let there : Includes rows x = subst (λ l. Includes l x) (sym s.is) (Includes-append_left s.front (r ∷ s.back) x m) in
          let high = newer x.weak (one_of_row (waits_with r.referent) rows x there e) in
          let low = s.lower x m in
          absurd (omega (arith, high, low))

  -- the newest waiting one, and the others
  pub waiting-first : waits_with r.referent r ≡ true → slice_get (waiting_in rows r.referent) 0 ≡ Some r.weak → waiting_in rows r.referent ≡ r.weak ∷ waiting_in (without_row r.weak rows) r.referent
  waiting-first passes first =
      let spelled : waiting_in rows r.referent ≡ newest_first (waits_with r.referent) s.back ++ r.weak ∷ newest_first (waits_with r.referent) s.front =
      ap (λ l. waiting_in l r.referent) s.is ∙ newest_first-pass (waits_with r.referent) s.front r s.back passes in
      let none : newest_first (waits_with r.referent) s.back ≡ [] = nothing (newest_first (waits_with r.referent) s.back) (λ v m. m) (ap (λ l. slice_get l 0) (sym spelled) ∙ first) in
      spelled
      ∙ ap (λ l. l ++ r.weak ∷ newest_first (waits_with r.referent) s.front) none
      ∙ ap (λ l. r.weak ∷ l) (sym (ap (λ l. waiting_in l r.referent) (without-is rows r s) ∙ newest_first-append (waits_with r.referent) s.front s.back
      ∙ ap (λ l. l ++ newest_first (waits_with r.referent) s.front) none))
    where
      nothing : (xs : List ℕ) → ((v : ℕ) → Includes xs v → Includes (newest_first (waits_with r.referent) s.back) v)
          → slice_get (xs ++ r.weak ∷ newest_first (waits_with r.referent) s.front) 0 ≡ Some r.weak → xs ≡ []
      nothing [] inside e = refl
      nothing (x ∷ xs) inside e =
          let same : x ≡ r.weak = cc in
          let found = row_of_one (waits_with r.referent) s.back x (inside x (inl refl)) in
          let high = s.higher found.0 found.1 in
          absurd (omega (arith, high, same, found.3))

-- the remaining rows, and those that then wait
pub left-in : (weak : ℕ) (rows : List Row) (x : Row) → Includes (without_row weak rows) x → Includes rows x
left-in weak rows x m = (Includes-filter_cases (λ y. not (y.weak == weak)) rows x m).0

pub waiting-in : (weak : ℕ) (rows : List Row) (x : Row) → Includes (with_row_waiting weak rows) x → x.waits ≡ true
    → ((y : Row) × Includes rows y × (y.waits ≡ true) × (y.referent ≡ x.referent)) ⊎ ((y : Row) × Includes rows y × (y.weak ≡ weak) × (y.referent ≡ x.referent))
waiting-in weak rows x m waits =
    let from = Includes-map_cases (λ y. if y.weak == weak then waiting_row y else y) rows x m in go from.0 (from.0.weak == weak) refl from.1 from.2
  where
    go : (y : Row) (b : Bool) → (y.weak == weak) ≡ b → Includes rows y → (if y.weak == weak then waiting_row y else y) ≡ x
        → ((y : Row) × Includes rows y × (y.waits ≡ true) × (y.referent ≡ x.referent)) ⊎ ((y : Row) × Includes rows y × (y.weak ≡ weak)
        × (y.referent ≡ x.referent))
    go y true is inside same = inr (y, inside, eqb-true y.weak weak is, ap (λ (z : Row). z.referent) (sym (ap (λ b. if b then waiting_row y else y) is) ∙ same))
    go y false is inside same =
        let e : y ≡ x = sym (ap (λ b. if b then waiting_row y else y) is) ∙ same in
        inl (y, inside, ap (λ (z : Row). z.waits) e ∙ waits, ap (λ (z : Row). z.referent) e)
