-- Filtered rows, the newest of those that pass a test, and the rows without that one.
use Rattle.std.proofs.Common.{◌≡◌, ◌≢◌, refl, sym, ◌∙◌, ap, subst, ℕ, ◌<◌, ◌≤◌, Bool, true, false, cond, not, ◌&&◌, ◌||◌, inl, inr, List, [], ◌∷◌, ◌++◌, drop, Some, None, arith}
use Rattle.std.specs.Prelude.{◌==◌, if◌then◌else◌, filter, flat_map, slice_get}
use Rattle.std.specs.List.{All}
use Rattle.std.proofs.lemmas.Bool.{not-true, eq-eqb, eqb-true, ne_eqb}
use Rattle.std.proofs.lemmas.List.Elements.{All-nil, All-cons, filter-append}
use Rattle.cg_graph.specs.Member.{Includes, includes}
use Rattle.cg_graph.specs.Rows.{Row, IsRising, referent_in, refers_to, newest_first, weak_references_in, without_row}
use Rattle.cg_graph.specs.Store.{Store, objects_of}
use Rattle.cg_graph.proofs.Members.{either, true_and, includes-of, Includes-of, Includes-filter_cases, Includes-append_cases}
use Rattle.cg_machine.specs.Weak.{loses_referent}
use Rattle.cg_death.proofs.RowSplits.{all_in, row_of_one, one_of_row, Split, split_at, newest_first-append, newest_first-skip, newest_first-pass, without-is, referent-is, referent-without, left-in}
use Rattle.cg_death.proofs.WeakObjects.{objects-cleared}
use Rattle.cg_death.proofs.Worlds.{append_none}
use Rattle.cg_collect.specs.Phases.{without_rows}
use Rattle.cg_collect.proofs.RowWalks.{head_highest}

-- filtered lists
all_of : {X : Type 0} (P : X → Type 0) (xs : List X) → ((x : X) → Includes xs x → P x) → All P xs
all_of P [] each = All-nil P
all_of P (x ∷ xs) each = All-cons P x xs (each x (inl refl)) (all_of P xs (λ y m. each y (inr m)))

pub rising-filter : (test : Row → Bool) (rows : List Row) → IsRising rows → IsRising (filter test rows)
rising-filter test [] rise = tt
rising-filter test (r ∷ rows) rise = go (test r) (rising-filter test rows rise.1)
  where
    go : (b : Bool) → IsRising (filter test rows) → IsRising (cond b (r ∷ filter test rows) (filter test rows))
    go true rest = (all_of (λ x. r.weak < x.weak) (filter test rows) (λ x m. all_in (λ (y : Row). r.weak < y.weak) rows x rise.0 (Includes-filter_cases test rows x m).0), rest)
    go false rest = rest

pub filter_all : (test : Row → Bool) (rows : List Row) → ((r : Row) → Includes rows r → test r ≡ true) → filter test rows ≡ rows
filter_all test [] each = refl
filter_all test (r ∷ rows) each = ap (λ b. cond b (r ∷ filter test rows) (filter test rows)) (each r (inl refl)) ∙ ap (λ l. r ∷ l) (filter_all test rows (λ x m. each x (inr m)))

pub filter_same : (f g : Row → Bool) (rows : List Row) → ((r : Row) → Includes rows r → f r ≡ g r) → filter f rows ≡ filter g rows
filter_same f g [] each = refl
filter_same f g (r ∷ rows) each = λ i. cond (each r (inl refl) i) (r ∷ filter_same f g rows (λ x m. each x (inr m)) i) (filter_same f g rows (λ x m. each x (inr m)) i)

pub filter_twice : (p test : Row → Bool) (rows : List Row) → ((r : Row) → p r ≡ true → test r ≡ true) → filter p (filter test rows) ≡ filter p rows
filter_twice p test [] keeps = refl
filter_twice p test (r ∷ rows) keeps = go (test r) refl (p r) refl (filter_twice p test rows keeps)
  where
    go : (b : Bool) → test r ≡ b → (c : Bool) → p r ≡ c → filter p (filter test rows) ≡ filter p rows
        → filter p (cond b (r ∷ filter test rows) (filter test rows)) ≡ cond (p r) (r ∷ filter p rows) (filter p rows)
    go true kept c passes rest = ap (λ l. cond (p r) (r ∷ l) l) rest
    go false gone true passes rest = absurd (let e : true ≡ false = sym (keeps r passes) ∙ gone in cc)
    go false gone false passes rest = rest ∙ sym (ap (λ c. cond c (r ∷ filter p rows) (filter p rows)) passes)

pub flat_map_alike : {X : Type 0} (f g : ℕ → List X) (xs : List ℕ) → ((o : ℕ) → Includes xs o → f o ≡ g o) → flat_map f xs ≡ flat_map g xs
flat_map_alike f g [] same = refl
flat_map_alike f g (x ∷ xs) same = λ i. same x (inl refl) i ++ flat_map_alike f g xs (λ o m. same o (inr m)) i

-- a filter after another
pub filter_filter : (f g : Row → Bool) (rows : List Row) → filter f (filter g rows) ≡ filter (λ r. g r && f r) rows
filter_filter f g [] = refl
filter_filter f g (r ∷ rows) = go (g r) (filter_filter f g rows)
  where
    go : (b : Bool) → filter f (filter g rows) ≡ filter (λ x. g x && f x) rows → filter f (cond b (r ∷ filter g rows) (filter g rows))
        ≡ cond (b && f r) (r ∷ filter (λ x. g x && f x) rows) (filter (λ x. g x && f x) rows)
    go true e = λ i. cond (f r) (r ∷ e i) (e i)
    go false e = e

both_ways : (a b : Bool) → (a ≡ true → b ≡ true) → (b ≡ true → a ≡ true) → a ≡ b
both_ways true b there back = sym (there refl)
both_ways false true there back = back refl
both_ways false false there back = refl

-- equality of numbers is symmetric
pub eqb-sym : (m n : ℕ) → (m == n) ≡ (n == m)
eqb-sym m n = both_ways (m == n) (n == m) (λ e. eq-eqb n m (sym (eqb-true m n e))) (λ e. eq-eqb m n (sym (eqb-true n m e)))

-- rows of one weak reference are equal
pub same_row : (rows : List Row) → IsRising rows → (r q : Row) → Includes rows r → Includes rows q → q.weak ≡ r.weak → q ≡ r
same_row rows rise r q inside here e =
    let s = split_at rows r rise inside in
    either (Includes-append_cases s.front (r ∷ s.back) q (subst (λ l. Includes l q) s.is here))
    (λ k. let low = s.lower q k in absurd (omega (arith, low, e)))
    (λ k. either k (λ same. sym same) (λ n. let high = s.higher q n in absurd (omega (arith, high, e))))

-- one of the newest is that of a row
pub includes-newest : (test : Row → Bool) (rows : List Row) → IsRising rows → (r : Row) → Includes rows r → includes (newest_first test rows) r.weak ≡ test r
includes-newest test rows rise r inside = both_ways (includes (newest_first test rows) r.weak) (test r)
    (λ e. let (q, here, passes, same) = row_of_one test rows r.weak (Includes-of (newest_first test rows) r.weak e) in ap test (sym (same_row rows rise r q inside here same)) ∙ passes)
    (λ e. includes-of (newest_first test rows) r.weak (one_of_row test rows r inside e))

-- those of the newest that are among others
pub filter-newest : (test : Row → Bool) (among : List ℕ) (rows : List Row) → filter (includes among) (newest_first test rows) ≡ newest_first (λ r. test r && includes among r.weak) rows
filter-newest test among [] = refl
filter-newest test among (r ∷ rows) = go (test r) refl (includes among r.weak) refl (filter-newest test among rows)
  where
    go : (b : Bool) → test r ≡ b → (c : Bool) → includes among r.weak ≡ c → filter (includes among) (newest_first test rows) ≡ newest_first (λ x. test x && includes among x.weak) rows
        → filter (includes among) (newest_first test (r ∷ rows)) ≡ newest_first (λ x. test x && includes among x.weak) (r ∷ rows)
    go true passes c is rest =
        ap (filter (includes among)) (newest_first-pass test [] r rows passes)
        ∙ filter-append (includes among) (newest_first test rows) (r.weak ∷ [])
        ∙ (λ i. rest i ++ cond (is i) (r.weak ∷ []) [])
        ∙ last c is
      where
        last : (d : Bool) → includes among r.weak ≡ d → newest_first (λ x. test x && includes among x.weak) rows ++ cond d (r.weak ∷ []) []
            ≡ newest_first (λ x. test x && includes among x.weak) (r ∷ rows)
        last true e = sym (newest_first-pass (λ x. test x && includes among x.weak) [] r rows (λ i. passes i && e i))
        last false e = append_none (newest_first (λ x. test x && includes among x.weak) rows) ∙ sym (newest_first-skip (λ x. test x && includes among x.weak) [] r rows (λ i. passes i && e i))
    go false fails c is rest =
        ap (filter (includes among)) (newest_first-skip test [] r rows fails)
        ∙ rest
        ∙ sym (newest_first-skip (λ x. test x && includes among x.weak) [] r rows (ap (λ b. b && includes among r.weak) fails))

-- without those of the newest
pub without_rows-newest : (test : Row → Bool) (rows : List Row) → IsRising rows → without_rows (newest_first test rows) rows ≡ filter (λ r. not (test r)) rows
without_rows-newest test rows rise = filter_same (λ r. not (includes (newest_first test rows) r.weak)) (λ r. not (test r)) rows (λ r inside. ap not (includes-newest test rows rise r inside))

-- without one and without others
pub without_rows-cons : (weak : ℕ) (weaks : List ℕ) (rows : List Row) → without_rows weaks (without_row weak rows) ≡ without_rows (weak ∷ weaks) rows
without_rows-cons weak weaks rows =
    filter_filter (λ r. not (includes weaks r.weak)) (λ r. not (r.weak == weak)) rows
    ∙ filter_same (λ r. not (r.weak == weak) && not (includes weaks r.weak)) (λ r. not (includes (weak ∷ weaks) r.weak)) rows
    (λ r inside. ap (λ b. not b && not (includes weaks r.weak)) (eqb-sym r.weak weak) ∙ neither (weak == r.weak) (includes weaks r.weak))
  where
    neither : (a b : Bool) → (not a && not b) ≡ not (a || b)
    neither true b = refl
    neither false b = refl

pub without_rows-nil : (rows : List Row) → without_rows [] rows ≡ rows
without_rows-nil rows = filter_all (λ r. not (includes [] r.weak)) rows (λ r m. refl)

module _ (rows : List Row) (rise : IsRising rows) (r : Row) (inside : Includes rows r) where
  abbrev at_row : Split rows r
  at_row = split_at rows r rise inside

  pub filter-without : (test : Row → Bool) → test r ≡ false → filter test (without_row r.weak rows) ≡ filter test rows
  filter-without test fails =
      ap (filter test) (without-is rows r at_row)
      ∙ filter-append test at_row.front at_row.back
      ∙ ap (λ b. filter test at_row.front ++ cond b (r ∷ filter test at_row.back) (filter test at_row.back)) (sym fails)
      ∙ sym (filter-append test at_row.front (r ∷ at_row.back))
      ∙ ap (filter test) (sym at_row.is)

  pub objects_without : (store : Store) → objects_of (record store { rows = without_row r.weak rows }) ≡ loses_referent r.weak (objects_of (record store { rows = rows }))
  objects_without store = objects-cleared (record store { rows = rows }) (without_row r.weak rows) r.weak (referent-without rows r at_row)

  pub referent_left : (q : ℕ) → referent_in rows q ≡ None → referent_in (without_row r.weak rows) q ≡ None
  referent_left q none = referent-without rows r at_row q ∙ by_test (q == r.weak)
    where
      by_test : (b : Bool) → (if b then None else referent_in rows q) ≡ None
      by_test true = refl
      by_test false = none

  pub referent_gone : referent_in (without_row r.weak rows) r.weak ≡ None
  referent_gone = referent-without rows r at_row r.weak ∙ ap (λ b. if b then None else referent_in rows r.weak) (eq-eqb r.weak r.weak refl)

  -- an object without a row still has none
  pub unreferred_left : (o : ℕ) → weak_references_in rows o ≡ [] → weak_references_in (without_row r.weak rows) o ≡ []
  unreferred_left o none = nothing (weak_references_in (without_row r.weak rows) o) (λ x m. m)
    where
      nothing : (xs : List ℕ) → ((x : ℕ) → Includes xs x → Includes (weak_references_in (without_row r.weak rows) o) x) → xs ≡ []
      nothing [] within = refl
      nothing (x ∷ xs) within =
          let (q, here, passes, same) = row_of_one (refers_to o) (without_row r.weak rows) x (within x (inl refl)) in
          absurd (subst (λ l. Includes l q.weak) none (one_of_row (refers_to o) rows q (left-in r.weak rows q here) passes))

-- The newest of the rows that pass a test.
module _ (test : Row → Bool) (rows : List Row) (rise : IsRising rows) (ws : List ℕ) (r : Row) (inside : Includes rows r) (passes : test r ≡ true) (is : newest_first test rows ≡ r.weak ∷ ws) where
  abbrev s : Split rows r
  s = split_at rows r rise inside

  abbrev newer : List ℕ
  newer = newest_first test s.back

  abbrev older : List ℕ
  older = newest_first test s.front

  spelled : newest_first test rows ≡ newer ++ r.weak ∷ older
  spelled = ap (newest_first test) s.is ∙ newest_first-pass test s.front r s.back passes

  nothing : (xs : List ℕ) → ((x : ℕ) → Includes xs x → r.weak < x) → xs ++ r.weak ∷ older ≡ r.weak ∷ ws → xs ≡ []
  nothing [] above same = refl
  nothing (x ∷ xs) above same = let first : Some x ≡ Some r.weak = ap (λ l. slice_get l 0) same in let e : x ≡ r.weak = cc in let high = above x (inl refl) in absurd (omega (arith, high, e))

  none_newer : newer ≡ []
  none_newer = nothing newer (λ x m. let named = row_of_one test s.back x m in let high = s.higher named.0 named.1 in omega (arith, high, named.3)) (sym spelled ∙ is)

  older_is : older ≡ ws
  older_is = ap (drop 1) (sym (ap (λ l. l ++ r.weak ∷ older) none_newer) ∙ sym spelled ∙ is)

  pub highest : (x : ℕ) → Includes (newest_first test rows) x → x ≤ r.weak
  highest x m = head_highest test rows rise r.weak (ap (λ l. slice_get l 0) is) x m

  -- the others, without it
  pub newest_left : newest_first test (without_row r.weak rows) ≡ ws
  newest_left = ap (newest_first test) (without-is rows r s) ∙ newest_first-append test s.front s.back ∙ ap (λ l. l ++ older) none_newer ∙ older_is

-- The row of a weak reference to an object.
module _ (rows : List Row) (rise : IsRising rows) (o : ℕ) (r : Row) (inside : Includes rows r) (passes : refers_to o r ≡ true) where
  referent_is : r.referent ≡ o
  referent_is = eqb-true r.referent o (true_and (r.referent == o) (not r.waits) passes).0

  pub stays : r.waits ≡ false
  stays = not-true r.waits (true_and (r.referent == o) (not r.waits) passes).1

  pub refers : referent_in rows r.weak ≡ Some o
  refers = referent-is rows r (split_at rows r rise inside) stays ∙ ap Some referent_is

  pub references_other : (q : ℕ) → q ≢ o → weak_references_in (without_row r.weak rows) q ≡ weak_references_in rows q
  references_other q differs =
      let s = split_at rows r rise inside in
      ap (newest_first (refers_to q)) (without-is rows r s)
      ∙ sym (newest_first-skip (refers_to q) s.front r s.back (ap (λ b. b && not r.waits) (ne_eqb r.referent q (λ e. differs (sym e ∙ referent_is)))))
      ∙ ap (newest_first (refers_to q)) (sym s.is)

-- a row that does not wait is of a weak reference to its referent
pub row_listed : (rows : List Row) (r : Row) → Includes rows r → r.waits ≡ false → Includes (weak_references_in rows r.referent) r.weak
row_listed rows r inside stays = one_of_row (refers_to r.referent) rows r inside (λ i. eq-eqb r.referent r.referent refl i && not (stays i))
