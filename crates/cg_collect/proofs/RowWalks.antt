-- A walk over the weak references to one object, newest first, by the rows of a heap.
use Rattle.std.proofs.Common.{◌≡◌, ◌≢◌, refl, sym, ◌∙◌, ap, subst, ℕ, ◌<◌, ◌≤◌, Bool, false, cond, not, List, [], ◌∷◌, ◌++◌, length, map, append_assoc, Option, Some, None, inl, inr, arith}
use Rattle.std.specs.Prelude.{◌==◌, ◌&&◌, if◌then◌else◌, filter, find, nat_lt, option_and_then, slice_get}
use Rattle.std.specs.List.{All}
use Rattle.std.proofs.lemmas.Bool.{not-true, eq-eqb, ne_eqb, eqb-true, lt-ltb, le-ltb}
use Rattle.std.proofs.lemmas.List.{length-map, length-reverse}
use Rattle.std.proofs.lemmas.List.Elements.{All-cons, All-head, All-tail, All-nil}
use Rattle.std.proofs.lemmas.List.Sums.{length-filter, count_by-le-length}
use Rattle.cg_graph.specs.Member.{Includes}
use Rattle.cg_graph.specs.Rows.{Row, IsRising, referent_in, refers_to, newest_first, weak_references_in, next_older_in, without_row}
use Rattle.cg_graph.specs.Store.{Store}
use Rattle.cg_graph.proofs.Members.{either, true_and, Includes-append_right, Includes-append_cases}
use Rattle.cg_heap.specs.Weak.{AreRows}
use Rattle.cg_death.proofs.RowSplits.{head_in, row_of_one, one_of_row, Split, split_at, newest_first-append, newest_first-pass, without-is, referent-is}
use Rattle.cg_death.proofs.WeakObjects.{row_there}
use Rattle.cg_death.proofs.Clearing.{none_first}
use Rattle.cg_collect.specs.Phases.{from_on, references_in, to_look_at}

-- the tail of a list from a member after others
pub from_on-past : (front back : List ℕ) (o : ℕ) → ((x : ℕ) → Includes front x → x ≢ o) → from_on (Some o) (front ++ o ∷ back) ≡ o ∷ back
from_on-past [] back o other = ap (λ b. if b then o ∷ back else from_on (Some o) back) (eq-eqb o o refl)
from_on-past (x ∷ front) back o other = ap (λ b. if b then x ∷ (front ++ o ∷ back) else from_on (Some o) (front ++ o ∷ back)) (ne_eqb x o (other x (inl refl)))
    ∙ from_on-past front back o (λ y m. other y (inr m))

-- starting with the first, it is the whole list
pub from_on-first : (xs : List ℕ) (c : Option ℕ) → c ≡ slice_get xs 0 → from_on c xs ≡ xs
from_on-first xs None e = sym (none_first xs (sym e))
from_on-first [] (Some o) e = absurd (cc)
from_on-first (x ∷ xs) (Some o) e = let same : o ≡ x = cc in ap (λ b. if b then x ∷ xs else from_on (Some o) xs) (eq-eqb x o (sym same))

-- a search for a smaller one skips those that are not
find-past : (v : ℕ) (front back : List ℕ) → ((x : ℕ) → Includes front x → v ≤ x) → find (λ x. nat_lt x v) (front ++ back) ≡ find (λ x. nat_lt x v) back
find-past v [] back above = refl
find-past v (x ∷ front) back above = ap (λ b. cond b (Some x) (find (λ y. nat_lt y v) (front ++ back))) (le-ltb x v (above x (inl refl))) ∙ find-past v front back (λ y m. above y (inr m))

find-first : (v : ℕ) (xs : List ℕ) → ((x : ℕ) → Includes xs x → x < v) → find (λ x. nat_lt x v) xs ≡ slice_get xs 0
find-first v [] below = refl
find-first v (x ∷ xs) below = ap (λ b. cond b (Some x) (find (λ y. nat_lt y v) xs)) (lt-ltb x v (below x (inl refl)))

-- rising rows, and the first of them
all_front : (P : Row → Type 0) (front back : List Row) → All P (front ++ back) → All P front
all_front P [] back all = All-nil P
all_front P (x ∷ front) back all = All-cons P x front (All-head P x (front ++ back) all) (all_front P front back (All-tail P x (front ++ back) all))

rising_front : (front back : List Row) → IsRising (front ++ back) → IsRising front
rising_front [] back rise = tt
rising_front (x ∷ front) back rise = (all_front (λ (y : Row). x.weak < y.weak) front back rise.0, rising_front front back rise.1)

-- the first of the newest is the highest
pub head_highest : (test : Row → Bool) (rows : List Row) → IsRising rows → (w : ℕ) → slice_get (newest_first test rows) 0 ≡ Some w → (x : ℕ) → Includes (newest_first test rows) x → x ≤ w
head_highest test rows rise w first x m =
    let named = row_of_one test rows w (head_in (newest_first test rows) w first) in
    let s = split_at rows named.0 rise named.1 in
    let parts : newest_first test rows ≡ newest_first test s.back ++ named.0.weak ∷ newest_first test s.front = ap (newest_first test) s.is ∙ newest_first-pass test s.front named.0 s.back named.2 in
    let empty : newest_first test s.back ≡ [] = nothing (newest_first test s.back) (newest_first test s.front) named.0.weak w
    (sym (ap (λ l. slice_get l 0) parts) ∙ first) (λ y k. above named.0 s y k) named.3 in
    either (subst (λ l. Includes l x) (parts ∙ ap (λ l. l ++ named.0.weak ∷ newest_first test s.front) empty) m)
    (λ e. omega (arith, e, named.3))
    (λ k. let low = below named.0 s x k in omega (arith, low, named.3))
  where
    nothing : (newer older : List ℕ) (v w : ℕ) → slice_get (newer ++ v ∷ older) 0 ≡ Some w → ((y : ℕ) → Includes newer y → v < y) → v ≡ w → newer ≡ []
    nothing [] older v w first high same = refl
    nothing (y ∷ newer) older v w first high same = let is : y ≡ w = cc in let more = high y (inl refl) in absurd (omega (arith, is, more, same))

    above : (r : Row) (s : Split rows r) (y : ℕ) → Includes (newest_first test s.back) y → r.weak < y
    above r s y k = let named = row_of_one test s.back y k in let high = s.higher named.0 named.1 in omega (arith, high, named.3)

    below : (r : Row) (s : Split rows r) (y : ℕ) → Includes (newest_first test s.front) y → y < r.weak
    below r s y k = let named = row_of_one test s.front y k in let low = s.lower named.0 named.1 in omega (arith, low, named.3)

-- the weak references to an object are those that refer to it
pub referent-listed : (rows : List Row) → IsRising rows → (o w : ℕ) → Includes (weak_references_in rows o) w → referent_in rows w ≡ Some o
referent-listed rows rise o w m =
    let found = row_of_one (refers_to o) rows w m in
    let parts = true_and (found.0.referent == o) (not found.0.waits) found.2 in
    subst (λ q. referent_in rows q ≡ Some o) found.3 (referent-is rows found.0 (split_at rows found.0 rise found.1) (not-true found.0.waits parts.1) ∙ ap Some (eqb-true found.0.referent o parts.0))

pub listed-referent : (rows : List Row) (o w : ℕ) → referent_in rows w ≡ Some o → Includes (weak_references_in rows o) w
listed-referent rows o w refers = let found = row_there rows w o refers in subst (Includes (weak_references_in rows o)) found.3 (one_of_row (refers_to o) rows found.0 found.1 found.2)

-- they are no more than the rows
pub references-le : (rows : List Row) (o : ℕ) → length (weak_references_in rows o) ≤ length rows
references-le rows o =
    let few : length (weak_references_in rows o) ≡ length (filter (refers_to o) rows) = length-reverse (map (λ (r : Row). r.weak) (filter (refers_to o) rows))
    ∙ length-map (filter (refers_to o) rows) (λ (r : Row). r.weak) in
    omega (arith, few, length-filter (refers_to o) rows, count_by-le-length (refers_to o) rows)

-- The walk is at the weak reference of a row.
module _ (store : Store) (ok : AreRows store) (r : Row) (inside : Includes store.rows r) (stays : r.waits ≡ false) where
  abbrev split : Split store.rows r
  split = split_at store.rows r ok.rise inside

  -- those to the same object that are newer, and those that are older
  abbrev newer : List ℕ
  newer = newest_first (refers_to r.referent) split.back

  abbrev pub older_ones : List ℕ
  older_ones = newest_first (refers_to r.referent) split.front

  pub refers : referent_in store.rows r.weak ≡ Some r.referent
  refers = referent-is store.rows r split stays

  all_are : weak_references_in store.rows r.referent ≡ newer ++ r.weak ∷ older_ones
  all_are = ap (newest_first (refers_to r.referent)) split.is ∙ newest_first-pass (refers_to r.referent) split.front r split.back (λ i. eq-eqb r.referent r.referent refl i && not (stays i))

  newer_above : (x : ℕ) → Includes newer x → r.weak < x
  newer_above x m = let named = row_of_one (refers_to r.referent) split.back x m in let high = split.higher named.0 named.1 in omega (arith, high, named.3)

  pub older_below : (x : ℕ) → Includes older_ones x → x < r.weak
  older_below x m = let named = row_of_one (refers_to r.referent) split.front x m in let low = split.lower named.0 named.1 in omega (arith, low, named.3)

  -- it and the older ones are still to be visited
  pub looks_here : to_look_at store (Some r.weak) ≡ r.weak ∷ older_ones
  looks_here =
      ap (λ k. from_on (Some r.weak) (references_in store.rows k)) refers
      ∙ ap (from_on (Some r.weak)) all_are
      ∙ from_on-past newer older_ones r.weak (λ x m e. let high = newer_above x m in absurd (omega (arith, high, e)))

  pub next_is : next_older_in store.rows r.weak ≡ slice_get older_ones 0
  next_is =
      ap (option_and_then (λ o. find (λ w. nat_lt w r.weak) (weak_references_in store.rows o))) refers
      ∙ ap (find (λ w. nat_lt w r.weak)) (all_are ∙ sym (append_assoc newer (r.weak ∷ []) older_ones))
      ∙ find-past r.weak (newer ++ r.weak ∷ []) older_ones (λ x m. either (Includes-append_cases newer (r.weak ∷ []) x m) (λ k. let high = newer_above x k
      in omega (arith, high)) (λ k. either k (λ e. omega (arith, e)) (λ n. absurd n)))
      ∙ find-first r.weak older_ones older_below

  -- in a heap whose rows still have the older ones, these come next
  looks_next : (new : Store) (others : List ℕ) → weak_references_in new.rows r.referent ≡ others ++ older_ones → ((x : ℕ) → Includes others x → r.weak ≤ x)
      → IsRising new.rows → to_look_at new (next_older_in store.rows r.weak) ≡ older_ones
  looks_next new others are above rise = ap (to_look_at new) next_is ∙ known older_ones refl
    where
      known : (xs : List ℕ) → older_ones ≡ xs → to_look_at new (slice_get xs 0) ≡ xs
      known [] e = refl
      known (w ∷ ws) e =
          let here : Includes older_ones w = subst (λ l. Includes l w) (sym e) (inl refl) in
          let low = older_below w here in
          ap (λ k. from_on (Some w) (references_in new.rows k)) (referent-listed new.rows rise r.referent w (subst (λ l. Includes l w) (sym are) (Includes-append_right others older_ones w here)))
          ∙ ap (from_on (Some w)) (are ∙ ap (λ l. others ++ l) e)
          ∙ from_on-past others ws w (λ x m same. let high = above x m in absurd (omega (arith, high, same, low)))

  pub looks_on : to_look_at store (next_older_in store.rows r.weak) ≡ older_ones
  looks_on = looks_next store (newer ++ r.weak ∷ []) (all_are ∙ sym (append_assoc newer (r.weak ∷ []) older_ones))
      (λ x m. either (Includes-append_cases newer (r.weak ∷ []) x m) (λ k. let high = newer_above x k in omega (arith, high)) (λ k. either k (λ e. omega (arith, e)) (λ n. absurd n))) ok.rise

  -- also after its row is gone
  pub looks_on_without : (new : Store) → new.rows ≡ without_row r.weak store.rows → IsRising new.rows → to_look_at new (next_older_in store.rows r.weak) ≡ older_ones
  looks_on_without new rows rise =
      looks_next new newer (ap (λ l. weak_references_in l r.referent) (rows ∙ without-is store.rows r split) ∙ newest_first-append (refers_to r.referent) split.front split.back)
      (λ x m. let high = newer_above x m in omega (arith, high)) rise

  -- the next one is one of them, and the highest
  pub next_older : (w : ℕ) → next_older_in store.rows r.weak ≡ Some w → Includes older_ones w
  next_older w e = head_in older_ones w (sym next_is ∙ e)

  pub next_highest : (w : ℕ) → next_older_in store.rows r.weak ≡ Some w → (x : ℕ) → Includes older_ones x → x ≤ w
  next_highest w e x m = head_highest (refers_to r.referent) split.front (rising_front split.front (r ∷ split.back) (subst IsRising split.is ok.rise)) w (sym next_is ∙ e) x m

  -- they refer to the same object, and all older ones that do are among them
  pub older_refers : (x : ℕ) → Includes older_ones x → referent_in store.rows x ≡ Some r.referent
  older_refers x m = referent-listed store.rows ok.rise r.referent x (subst (λ l. Includes l x) (sym all_are) (Includes-append_right newer (r.weak ∷ older_ones) x (inr m)))

  pub older_all : (x : ℕ) → referent_in store.rows x ≡ Some r.referent → x < r.weak → Includes older_ones x
  older_all x same low =
      either (Includes-append_cases newer (r.weak ∷ older_ones) x (subst (λ l. Includes l x) all_are (listed-referent store.rows r.referent x same)))
      (λ k. let high = newer_above x k in absurd (omega (arith, high, low)))
      (λ k. either k (λ e. absurd (omega (arith, e, low))) (λ n. n))
