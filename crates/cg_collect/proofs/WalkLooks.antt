-- The remaining looks of a walk over weak references, after it goes on with one of them, or with the next object.
use Rattle.std.proofs.Common.{◌≡◌, refl, sym, ◌∙◌, ap, subst, ℕ, ◌+◌, ◌*◌, ◌≤◌, ◌<◌, Bool, true, false, cond, List, [], ◌∷◌, length, map, Option, Some, None, sum_by, arith}
use Rattle.std.specs.Prelude.{not, ◌==◌, if◌then◌else◌, filter, unwrap_or}
use Rattle.std.proofs.lemmas.List.{length-map, length-reverse}
use Rattle.std.proofs.lemmas.List.Sums.{sum_by-cons}
use Rattle.cg_value.specs.declared.Place.TheVariants.{Cand}
use Rattle.cg_graph.specs.Member.{Includes}
use Rattle.cg_graph.specs.Rows.{Row, IsRising, referent_in, refers_to, newest_first, weak_references_in, next_older_in, without_row}
use Rattle.cg_graph.specs.Store.{Store, list_at}
use Rattle.cg_heap.specs.Weak.{AreRows}
use Rattle.cg_death.proofs.RowSplits.{split_at, referent-without}
use Rattle.cg_death.proofs.WeakObjects.{row_there}
use Rattle.cg_graph.proofs.Members.{true_and}
use Rattle.std.proofs.lemmas.Bool.{not-true}
use Rattle.cg_collect.specs.declared.phase.Phase.{Phase}
use Rattle.cg_collect.specs.declared.phase.Phase.TheVariants as phase_of
use Rattle.cg_collect.specs.declared.phase.Turn.{Turn}
use Rattle.cg_collect.specs.Phases.{from_on, references_in, to_look_at}
use Rattle.cg_collect.specs.Ready.{loses_alone, looked_at_for}
use Rattle.cg_collect.specs.Looks.{beside, looks_left, met_for_condemned, met_for_member, met_for_referent, most_looks}
use Rattle.cg_collect.proofs.RowWalks.{looks_here, looks_on_without, older_ones}

-- an equal phase
pub left_at : (phase next now : Phase) (store : Store) (looks most : ℕ) → now ≡ next → looks + looks_left phase next store ≤ most → looks + looks_left phase now store ≤ most
left_at phase next now store looks most is few = subst (λ (p : Phase). looks + looks_left phase p store ≤ most) (sym is) few

pub in_store : (phase now : Phase) (store left : Store) (looks most : ℕ) → store ≡ left → looks + looks_left phase now left ≤ most → looks + looks_left phase now store ≤ most
in_store phase now store left looks most is few = subst (λ (st : Store). looks + looks_left phase now st ≤ most) (sym is) few

pub phase_is : (turn told : Turn) → turn ≡ told → turn.phase ≡ told.phase
phase_is turn told is = ap (λ (t : Turn). t.phase) is

-- a walk looks and goes on, or is over
pub walk_on : (phase next now : Phase) (new : Store) (looks before few most : ℕ) → now ≡ next → looks ≤ before + few → few + looks_left phase next new ≤ most
    → looks + looks_left phase now new ≤ before + most
walk_on phase next now new looks before few most is here less = left_at phase next now new looks (before + most) is (sum_up looks before few (looks_left phase next new) most here less)
  where
    sum_up : (looks before few left most : ℕ) → looks ≤ before + few → few + left ≤ most → looks + left ≤ before + most
    sum_up looks before few left most here less = omega (arith, here, less)

pub walk_over : (phase next now : Phase) (new : Store) (looks most : ℕ) → now ≡ next → looks_left phase next new ≡ 0 → looks + looks_left phase now new ≤ looks + most
walk_over phase next now new looks most is none = left_at phase next now new looks (looks + most) is (sum_up (looks_left phase next new) none)
  where
    sum_up : (left : ℕ) → left ≡ 0 → looks + left ≤ looks + most
    sum_up left is_none = omega (arith, is_none)

-- lists filtered once more
filter-fewer : (p t : Row → Bool) (rows : List Row) → length (filter p (filter t rows)) ≤ length (filter p rows)
filter-fewer p t [] = omega arith
filter-fewer p t (r ∷ rows) = go (t r) (filter-fewer p t rows)
  where
    both : (c : Bool) (xs ys : List Row) → length xs ≤ length ys → length (cond c (r ∷ xs) xs) ≤ length (cond c (r ∷ ys) ys)
    both true xs ys h = omega (arith, h)
    both false xs ys h = h

    more : (c : Bool) (xs ys : List Row) → length xs ≤ length ys → length xs ≤ length (cond c (r ∷ ys) ys)
    more true xs ys h = omega (arith, h)
    more false xs ys h = h

    go : (b : Bool) → length (filter p (filter t rows)) ≤ length (filter p rows) → length (filter p (cond b (r ∷ filter t rows) (filter t rows))) ≤ length
        (cond (p r) (r ∷ filter p rows) (filter p rows))
    go true h = both (p r) (filter p (filter t rows)) (filter p rows) h
    go false h = more (p r) (filter p (filter t rows)) (filter p rows) h

newest-length : (test : Row → Bool) (rows : List Row) → length (newest_first test rows) ≡ length (filter test rows)
newest-length test rows = length-reverse (map (λ (r : Row). r.weak) (filter test rows)) ∙ length-map (filter test rows) (λ (r : Row). r.weak)

sum_le : (f g : ℕ → ℕ) (xs : List ℕ) → ((o : ℕ) → f o ≤ g o) → sum_by f xs ≤ sum_by g xs
sum_le f g [] each = omega arith
sum_le f g (x ∷ xs) each = omega (arith, each x, sum_le f g xs each, sum_by-cons f x xs, sum_by-cons g x xs)

-- The row of a weak reference is gone: no object has more weak references, nor more next to it.
module _ (store : Store) (rise : IsRising store.rows) (r : Row) (inside : Includes store.rows r) (new : Store) (rows : new.rows ≡ without_row r.weak store.rows) where
  pub fewer_to : (o : ℕ) → length (weak_references_in new.rows o) ≤ length (weak_references_in store.rows o)
  fewer_to o =
      let now : length (weak_references_in new.rows o) ≡ length (filter (refers_to o) (without_row r.weak store.rows)) = newest-length (refers_to o) new.rows
      ∙ ap (λ l. length (filter (refers_to o) l)) rows in
      let was = newest-length (refers_to o) store.rows in
      let few = filter-fewer (refers_to o) (λ x. not (x.weak == r.weak)) store.rows in
      omega (arith, now, was, few)

  pub fewer_beside : (o : ℕ) → length (beside new o) ≤ length (beside store o)
  fewer_beside o =
      subst (λ (k : Option ℕ). length (references_in new.rows k) ≤ length (beside store o))
      (sym (ap (λ l. referent_in l o) rows ∙ referent-without store.rows r (split_at store.rows r rise inside) o)) (by (o == r.weak) (referent_in store.rows o))
    where
      by : (b : Bool) (k : Option ℕ) → length (references_in new.rows (if b then None else k)) ≤ length (references_in store.rows k)
      by true k = omega arith
      by false None = omega arith
      by false (Some t) = fewer_to t

  -- the sums over the rest of a walk
  module _ (member : Option ℕ) (same : list_at new Cand ≡ list_at store Cand) where
    pub sum_condemned : sum_by (met_for_condemned new) (from_on member (list_at new Cand)) ≤ sum_by (met_for_condemned store) (from_on member (list_at store Cand))
    sum_condemned =
        subst (λ l. sum_by (met_for_condemned new) (from_on member l) ≤ sum_by (met_for_condemned store) (from_on member (list_at store Cand))) (sym same)
        (sum_le (met_for_condemned new) (met_for_condemned store) (from_on member (list_at store Cand)) (λ o. omega (arith, fewer_to o, fewer_beside o)))

    pub sum_members : sum_by (met_for_member new) (from_on member (list_at new Cand)) ≤ sum_by (met_for_member store) (from_on member (list_at store Cand))
    sum_members =
        subst (λ l. sum_by (met_for_member new) (from_on member l) ≤ sum_by (met_for_member store) (from_on member (list_at store Cand))) (sym same)
        (sum_le (met_for_member new) (met_for_member store) (from_on member (list_at store Cand)) (λ o. omega (arith, fewer_beside o)))

by_four : (a b c d : ℕ) → a ≤ c → b < d → 4 + 4 * (a + b) ≤ 4 * (c + d)
by_four a b c d less shorter = omega (arith, less, shorter)

by_two : (a b c d : ℕ) → a ≤ c → b < d → 2 + 2 * (a + b) ≤ 2 * (c + d)
by_two a b c d less shorter = omega (arith, less, shorter)

not_more : (a : ℕ) → a ≤ a
not_more a = omega arith

-- a weak reference with a referent has a row
pub by_row : (store : Store) (weak o : ℕ) → referent_in store.rows weak ≡ Some o → (P : ℕ → Type 0) → ((r : Row) → Includes store.rows r → r.waits ≡ false → P r.weak) → P weak
by_row store weak o refers P each =
    let (r, inside, passes, same) = row_there store.rows weak o refers in
    subst P same (each r inside (not-true r.waits (true_and (r.referent == o) (not r.waits) passes).1))

-- A walk goes on after a weak reference that was cleared, and after one that was not.
pub clearing_lost : (store : Store) → AreRows store → (weak o : ℕ) → referent_in store.rows weak ≡ Some o → (new : Store) → new.rows
    ≡ without_row weak store.rows → list_at new Cand ≡ list_at store Cand → IsRising new.rows
    → (member : Option ℕ) → 4 + most_looks 0 (phase_of.WeakClearing member (next_older_in store.rows weak)) new ≤ most_looks 0 (phase_of.WeakClearing member (Some weak)) store
clearing_lost store ok weak o refers new rows same rise member =
    by_row store weak o refers
    (λ w. new.rows ≡ without_row w store.rows → 4 + most_looks 0 (phase_of.WeakClearing member (next_older_in store.rows w)) new ≤ most_looks 0 (phase_of.WeakClearing member (Some w)) store)
    (λ r inside stays gone.
    let less : length (to_look_at new (next_older_in store.rows r.weak)) ≡ length (older_ones store ok r inside stays) = ap length (looks_on_without store ok r inside stays new gone rise) in
    let here : length (to_look_at store (Some r.weak)) ≡ length (r.weak ∷ older_ones store ok r inside stays) = ap length (looks_here store ok r inside stays) in
    let shorter : length (to_look_at new (next_older_in store.rows r.weak)) < length (to_look_at store (Some r.weak)) = omega (arith, less, here) in
    by_four (sum_by (met_for_condemned new) (from_on member (list_at new Cand))) (length (to_look_at new (next_older_in store.rows r.weak)))
    (sum_by (met_for_condemned store) (from_on member (list_at store Cand))) (length (to_look_at store (Some r.weak)))
    (sum_condemned store ok.rise r inside new gone member same) shorter) rows

pub clearing_passed : (store : Store) (weak : ℕ) (older member : Option ℕ) → length (to_look_at store older) < length (to_look_at store (Some weak))
    → 4 + most_looks 0 (phase_of.WeakClearing member older) store ≤ most_looks 0 (phase_of.WeakClearing member (Some weak)) store
clearing_passed store weak older member shorter = by_four (sum_by (met_for_condemned store) (from_on member (list_at store Cand)))
    (length (to_look_at store older)) (sum_by (met_for_condemned store) (from_on member (list_at store Cand))) (length (to_look_at store (Some weak)))
    (not_more (sum_by (met_for_condemned store) (from_on member (list_at store Cand)))) shorter

pub unlinking_lost : (store : Store) → AreRows store → (weak o : ℕ) → referent_in store.rows weak ≡ Some o → (new : Store) → new.rows
    ≡ without_row weak store.rows → list_at new Cand ≡ list_at store Cand → IsRising new.rows
    → (member : Option ℕ) → 2 + most_looks 0 (phase_of.Unlinking member (next_older_in store.rows weak)) new ≤ most_looks 0 (phase_of.Unlinking member (Some weak)) store
unlinking_lost store ok weak o refers new rows same rise member =
    by_row store weak o refers
    (λ w. new.rows ≡ without_row w store.rows → 2 + most_looks 0 (phase_of.Unlinking member (next_older_in store.rows w)) new ≤ most_looks 0 (phase_of.Unlinking member (Some w)) store)
    (λ r inside stays gone.
    let less : length (to_look_at new (next_older_in store.rows r.weak)) ≡ length (older_ones store ok r inside stays) = ap length (looks_on_without store ok r inside stays new gone rise) in
    let here : length (to_look_at store (Some r.weak)) ≡ length (r.weak ∷ older_ones store ok r inside stays) = ap length (looks_here store ok r inside stays) in
    let shorter : length (to_look_at new (next_older_in store.rows r.weak)) < length (to_look_at store (Some r.weak)) = omega (arith, less, here) in
    by_two (sum_by (met_for_member new) (from_on member (list_at new Cand))) (length (to_look_at new (next_older_in store.rows r.weak)))
    (sum_by (met_for_member store) (from_on member (list_at store Cand))) (length (to_look_at store (Some r.weak)))
    (sum_members store ok.rise r inside new gone member same) shorter) rows

pub unlinking_passed : (store : Store) (weak : ℕ) (older member : Option ℕ) → length (to_look_at store older) < length (to_look_at store (Some weak))
    → 2 + most_looks 0 (phase_of.Unlinking member older) store ≤ most_looks 0 (phase_of.Unlinking member (Some weak)) store
unlinking_passed store weak older member shorter = by_two (sum_by (met_for_member store) (from_on member (list_at store Cand)))
    (length (to_look_at store older)) (sum_by (met_for_member store) (from_on member (list_at store Cand))) (length (to_look_at store (Some weak)))
    (not_more (sum_by (met_for_member store) (from_on member (list_at store Cand)))) shorter

pub clearing_next : (profile : ℕ) (store : Store) (object : ℕ) (next weak : Option ℕ) → from_on (Some object) (list_at store Cand) ≡ object ∷ from_on next (list_at store Cand)
    → to_look_at store weak ≡ weak_references_in store.rows (looked_at_for profile store object)
    → 4 + most_looks 0 (phase_of.WeakClearing next weak) store ≤ most_looks 0 (phase_of.WeakClearing (Some object) None) store
clearing_next profile store object next weak ahead looks =
    let whole = ap (sum_by (met_for_condemned store)) ahead in
    let parts = sum_by-cons (met_for_condemned store) object (from_on next (list_at store Cand)) in
    let same = ap length looks in
    next_four (sum_by (met_for_condemned store) (from_on next (list_at store Cand))) (length (to_look_at store weak)) (sum_by (met_for_condemned store) (from_on (Some object) (list_at store Cand)))
    (omega (arith, whole, parts, same, few (loses_alone profile store object)))
  where
    next_four : (a b c : ℕ) → a + b + 1 ≤ c → 4 + 4 * (a + b) ≤ 4 * (c + 0)
    next_four a b c h = omega (arith, h)

    few : (b : Bool) → length (weak_references_in store.rows (if b then unwrap_or (referent_in store.rows object) object else object)) ≤ length
        (weak_references_in store.rows object) + length (beside store object)
    few true = known (referent_in store.rows object)
      where
        known : (k : Option ℕ) → length (weak_references_in store.rows (unwrap_or k object)) ≤ length (weak_references_in store.rows object) + length (references_in store.rows k)
        known None = omega arith
        known (Some t) = omega arith
    few false = omega arith

pub unlinking_next : (store : Store) (object : ℕ) (next weak : Option ℕ) → from_on (Some object) (list_at store Cand) ≡ object ∷ from_on next (list_at store Cand)
    → to_look_at store weak ≡ beside store object
    → 2 + most_looks 0 (phase_of.Unlinking next weak) store ≤ most_looks 0 (phase_of.Unlinking (Some object) None) store
unlinking_next store object next weak ahead looks =
    let whole = ap (sum_by (met_for_member store)) ahead in
    let parts = sum_by-cons (met_for_member store) object (from_on next (list_at store Cand)) in
    let same = ap length looks in
    next_two (sum_by (met_for_member store) (from_on next (list_at store Cand))) (length (to_look_at store weak)) (sum_by (met_for_member store) (from_on (Some object) (list_at store Cand)))
    (omega (arith, whole, parts, same))
  where
    next_two : (a b c : ℕ) → a + b + 1 ≤ c → 2 + 2 * (a + b) ≤ 2 * (c + 0)
    next_two a b c h = omega (arith, h)

pub detaching_next : (store : Store) (object : ℕ) (next : Option ℕ) → from_on (Some object) (list_at store Cand) ≡ object ∷ from_on next (list_at store Cand)
    → 1 + most_looks 0 (phase_of.Detaching next) store ≤ most_looks 0 (phase_of.Detaching (Some object)) store
detaching_next store object next ahead =
    let whole = ap (sum_by (met_for_referent store)) ahead in
    let parts = sum_by-cons (met_for_referent store) object (from_on next (list_at store Cand)) in
    omega (arith, whole, parts)

-- The newest weak reference to a member is cleared.
pub detaching_lost : (store : Store) (rise : IsRising store.rows) (object : ℕ) (r : Row) (inside : Includes store.rows r) (rest older : List ℕ)
    → from_on (Some object) (list_at store Cand) ≡ object ∷ rest
    → weak_references_in store.rows object ≡ r.weak ∷ older → weak_references_in (without_row r.weak store.rows) object ≡ older
    → 1 + most_looks 0 (phase_of.Detaching (Some object)) (record store { rows = without_row r.weak store.rows }) ≤ most_looks 0 (phase_of.Detaching (Some object)) store
detaching_lost store rise object r inside rest older ahead first left =
    let new : Store = record store { rows = without_row r.weak store.rows } in
    let was = ap (sum_by (met_for_referent store)) ahead in
    let was_parts = sum_by-cons (met_for_referent store) object rest in
    let now = ap (sum_by (met_for_referent new)) ahead in
    let now_parts = sum_by-cons (met_for_referent new) object rest in
    let had : length (weak_references_in store.rows object) ≡ length (r.weak ∷ older) = ap length first in
    let has : length (weak_references_in new.rows object) ≡ length older = ap length left in
    omega (arith, was, was_parts, now, now_parts, had, has, sum_le (met_for_referent new) (met_for_referent store) rest (λ o. let few = fewer_to store rise r inside new refl o in omega (arith, few)))
