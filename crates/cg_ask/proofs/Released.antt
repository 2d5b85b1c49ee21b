-- References that are released one by one.
use Rattle.std.proofs.Common.{◌≡◌, refl, sym, ◌∙◌, ap, subst, ℕ, zero, suc, ◌+◌, ◌-◌, ◌<◌, ◌≤◌, Bool, true, false, cond, not, ◌⊎◌, inl, inr, List, [], ◌∷◌, ◌++◌, length, take, drop, Some, arith, get_or, set, take_all, length-append}
use Rattle.std.specs.Prelude.{slice_get, count_by}
use Rattle.std.proofs.lemmas.Bool.{cases_eq, cases_lt}
use Rattle.std.proofs.lemmas.List.{take_more, drop_more, take-append-drop, length-set, get_or-set_same, get_or-set_other, get_or_read_under}
use Rattle.std.proofs.lemmas.List.Sums.{sum_by-set}
use Rattle.std.proofs.lemmas.Option.{slice_get_within, slice_get_read, get_or_from_slice_get}
use Rattle.cg_graph.specs.Member.{Includes}
use Rattle.cg_graph.specs.Holdings.{occurrences}
use Rattle.cg_graph.proofs.Members.{either, Includes-append_left, Includes-append_right, Includes-append_cases, cases_of}
use Rattle.cg_graph.proofs.Objects.{occurrences-append}
use Rattle.cg_search.specs.Places.{Marks, is_marked}
use Rattle.cg_search.proofs.Places.{occurrences-same, occurrences-other, slice_get-set_same, slice_get-set_other, occurs_in}
use Rattle.cg_search.proofs.Edges.{marks_of_is, is_of_marks}
use Rattle.cg_ask.specs.Released.{Releases, WaitOnce, mark_at}

-- the number of a mark
pub mark_on : (marks : List Bool) (i : ℕ) → Marks marks i → mark_at marks i ≡ 1
mark_on marks i m = ap (λ b. cond {A = ℕ} b 1 0) (is_of_marks marks i m)

pub mark_off : (marks : List Bool) (i : ℕ) → (¬ Marks marks i) → mark_at marks i ≡ 0
mark_off marks i n = either (cases_of (is_marked marks i))
    (λ e. absurd (n (marks_of_is marks i e)))
    (λ e. ap (λ b. cond {A = ℕ} b 1 0) e)

pub on_mark : (marks : List Bool) (i : ℕ) → 0 < mark_at marks i → Marks marks i
on_mark marks i h = either (cases_of (is_marked marks i))
    (λ e. marks_of_is marks i e)
    (λ e. absurd (let none : mark_at marks i ≡ 0 = ap (λ b. cond {A = ℕ} b 1 0) e in omega (arith, none, h)))

pub mark_few : (marks : List Bool) (i : ℕ) → mark_at marks i ≤ 1
mark_few marks i = by (is_marked marks i)
  where
    by : (b : Bool) → cond {A = ℕ} b 1 0 ≤ 1
    by true = omega arith
    by false = omega arith

mark_set_same : (marks : List Bool) (i : ℕ) → i < length marks → mark_at (set marks i true) i ≡ 1
mark_set_same marks i within = mark_on (set marks i true) i (slice_get-set_same marks i true within)

pub mark_set : (marks : List Bool) (at i : ℕ) → at < length marks → mark_at marks at ≡ 0 → mark_at (set marks at true) i ≡ mark_at marks i + occurrences i (at ∷ [])
mark_set marks at i within off = either (cases_eq at i)
    (λ e. omega (arith, same i e, occurrences-same i at [] e))
    (λ n. omega (arith, occurrences-other i at [] n, ap (λ b. cond {A = ℕ} b 1 0) (get_or-set_other marks at i true false (λ e. n (sym e)))))
  where
    same : (j : ℕ) → at ≡ j → mark_at (set marks at true) j ≡ mark_at marks j + 1
    same j e = subst (λ k. mark_at (set marks at true) k ≡ mark_at marks k + 1) e (omega (arith, mark_set_same marks at within, off))

-- no reference is released
pub releases_none : (left : List ℕ) (dead : List Bool) (waits : List ℕ) → Releases [] left dead waits left dead waits
releases_none left dead waits = record {
  len = refl;
  long = refl;
  leaves = λ i. omega arith;
  stay = λ i m. m;
  falls = λ i m. absurd m;
  only = λ i m. inl m;
  waiting = λ i. refl;
  measure = refl;
}

-- some, then others
pub releases_more : (first others left mid now : List ℕ) (dead then last : List Bool) (waits wait queue : List ℕ) → Releases first left dead waits mid then wait
    → Releases others mid then wait now last queue → Releases (first ++ others) left dead waits now last queue
releases_more first others left mid now dead then last waits wait queue a b = record {
  len = b.len ∙ a.len;
  long = b.long ∙ a.long;
  leaves = λ i. omega (arith, a.leaves i, b.leaves i, occurrences-append i first others);
  stay = λ i m. b.stay i (a.stay i m);
  falls = λ i m none. either (Includes-append_cases first others i m)
      (λ f. either (stands others i)
      (λ k. b.falls i k none)
      (λ k. b.stay i (a.falls i f (omega (arith, none, b.leaves i, k)))))
      (λ f. b.falls i f none);
  only = λ i m. either (b.only i m)
      (λ k. either (a.only i k) (λ d. inl d) (λ d. inr (Includes-append_left first others i d.0, omega (arith, d.1, b.leaves i))))
      (λ k. inr (Includes-append_right first others i k.0, k.1));
  waiting = λ i. omega (arith, a.waiting i, b.waiting i);
  measure = b.measure ∙ a.measure;
}
  where
    stands : (xs : List ℕ) (i : ℕ) → Includes xs i ⊎ (occurrences i xs ≡ 0)
    stands xs i = by (occurrences i xs) refl
      where
        by : (n : ℕ) → occurrences i xs ≡ n → Includes xs i ⊎ (occurrences i xs ≡ 0)
        by zero e = inr e
        by (suc n) e = inl (occurs_in xs i (omega (arith, e)))

-- one less at a number
lowered : (left : List ℕ) (at number i : ℕ) → at < length left → get_or left at 0 ≡ number + 1 → get_or (set left at number) i 0 + occurrences i (at ∷ []) ≡ get_or left i 0
lowered left at number i within is = either (cases_eq at i) (λ e. same i e) (λ n. omega (arith, get_or-set_other left at i number 0 (λ e. n (sym e)), occurrences-other i at [] n))
  where
    same : (j : ℕ) → at ≡ j → get_or (set left at number) j 0 + occurrences j (at ∷ []) ≡ get_or left j 0
    same j e =
        let now : get_or (set left at number) j 0 ≡ number = ap (λ k. get_or (set left at number) k 0) (sym e) ∙ get_or-set_same left at number 0 within in
        let was : get_or left j 0 ≡ number + 1 = ap (λ k. get_or left k 0) (sym e) ∙ is in
        omega (arith, now, was, occurrences-same j at [] e)

module _ (left : List ℕ) (dead : List Bool) (waits : List ℕ) (at number : ℕ) (within : at < length left) (long : length dead ≡ length left) (is : get_or left at 0 ≡ number + 1) where
  at_is : (i : ℕ) → Includes (at ∷ []) i → at ≡ i
  at_is i m = either m (λ e. e) (λ f. absurd f)

  -- others still refer to it
  pub release_keeps : 0 < number → Releases (at ∷ []) left dead waits (set left at number) dead waits
  release_keeps some = record {
    len = length-set left at number;
    long = refl;
    leaves = λ i. lowered left at number i within is;
    stay = λ i m. m;
    falls = λ i m none. absurd (let here : get_or (set left at number) i 0 ≡ number = ap (λ k. get_or (set left at number) k 0) (sym (at_is i m))
        ∙ get_or-set_same left at number 0 within in omega (arith, here, none, some));
    only = λ i m. inl m;
    waiting = λ i. refl;
    measure = refl;
  }

  -- it was dead before
  pub release_dead : Marks dead at → Releases (at ∷ []) left dead waits (set left at number) dead waits
  release_dead was = record {
    len = length-set left at number;
    long = refl;
    leaves = λ i. lowered left at number i within is;
    stay = λ i m. m;
    falls = λ i m none. subst (λ k. Marks dead k) (at_is i m) was;
    only = λ i m. inl m;
    waiting = λ i. refl;
    measure = refl;
  }

  -- that was the last reference
  pub release_falls : number ≡ 0 → slice_get dead at ≡ Some false → Releases (at ∷ []) left dead waits (set left at number) (set dead at true) (waits ++ at ∷ [])
  release_falls none was = record {
    len = length-set left at number;
    long = length-set dead at true;
    leaves = λ i. lowered left at number i within is;
    stay = λ i m. either (cases_eq i at) (λ e. subst (λ k. Marks (set dead at true) k) (sym e) now) (λ n. slice_get-set_other dead at i true n ∙ m);
    falls = λ i m zero_now. subst (λ k. Marks (set dead at true) k) (at_is i m) now;
    only = λ i m. either (cases_eq i at)
        (λ e. inr (inl (sym e), ap (λ k. get_or (set left at number) k 0) e ∙ get_or-set_same left at number 0 within ∙ none))
        (λ n. inl (sym (slice_get-set_other dead at i true n) ∙ m));
    waiting = λ i. omega (arith, occurrences-append i waits (at ∷ []), mark_set dead at i inside off);
    measure = omega (arith, changed, length-append waits (at ∷ []));
  }
    where
      inside : at < length dead
      inside = omega (arith, within, long)

      now : Marks (set dead at true) at
      now = slice_get-set_same dead at true inside

      off : mark_at dead at ≡ 0
      off = ap (λ b. cond {A = ℕ} b 1 0) (get_or_from_slice_get dead at false false was)

      changed : count_by not (set dead at true) + 1 ≡ count_by not dead + 0
      changed =
          ap (λ b. count_by not (set dead at true) + cond {A = ℕ} (not b) 1 0) (sym (get_or_from_slice_get dead at false true was))
          ∙ sum_by-set (λ b. cond {A = ℕ} (not b) 1 0) dead at true true inside

-- the next of a row
pub releases_next : (row left mid now : List ℕ) (dead then last : List Bool) (waits wait queue : List ℕ) (k : ℕ) → k < length row → Releases (take k row) left
    dead waits mid then wait → Releases (get_or row k 0 ∷ []) mid then wait now last queue
    → Releases (take (k + 1) row) left dead waits now last queue
releases_next row left mid now dead then last waits wait queue k within a b =
    subst (λ (ts : List ℕ). Releases ts left dead waits now last queue) (sym (take_more row k 0 within)) (releases_more (take k row) (get_or row k 0 ∷ []) left
    mid now dead then last waits wait queue a b)

pub releases_all : (row left now : List ℕ) (dead last : List Bool) (waits queue : List ℕ) (k : ℕ) → length row ≤ k → Releases (take k row) left dead waits now
    last queue → Releases row left dead waits now last queue
releases_all row left now dead last waits queue k end h = subst (λ (ts : List ℕ). Releases ts left dead waits now last queue) (take_all k row end) h

-- The marked places below one.
abbrev pub WaitBelow : List Bool → ℕ → List ℕ → Type 0
WaitBelow marks at waits = (i : ℕ) → (i < at → occurrences i waits ≡ mark_at marks i) × (at ≤ i → occurrences i waits ≡ 0)

pub wait_push : (marks : List Bool) (at : ℕ) (waits : List ℕ) → get_or marks at false ≡ true → WaitBelow marks at waits → WaitBelow marks (at + 1) (waits ++ at ∷ [])
wait_push marks at waits on h i = (
  λ below. either (cases_eq at i)
      (λ e. omega (arith, occurrences-append i waits (at ∷ []), occurrences-same i at [] e, (h i).1 (omega (arith, e)), here i e))
      (λ n. omega (arith, occurrences-append i waits (at ∷ []), occurrences-other i at [] n, (h i).0 (omega (arith, below, n)))),
  λ past. omega (arith, occurrences-append i waits (at ∷ []), occurrences-other i at [] (λ e. absurd (omega (arith, e, past))), (h i).1 (omega (arith, past))),
)
  where
    here : (j : ℕ) → at ≡ j → mark_at marks j ≡ 1
    here j e = subst (λ k. mark_at marks k ≡ 1) e (ap (λ b. cond {A = ℕ} b 1 0) on)

pub wait_skip : (marks : List Bool) (at : ℕ) (waits : List ℕ) → get_or marks at false ≡ false → WaitBelow marks at waits → WaitBelow marks (at + 1) waits
wait_skip marks at waits off h i = (
  λ below. either (cases_eq at i) (λ e. (h i).1 (omega (arith, e)) ∙ sym (here i e)) (λ n. (h i).0 (omega (arith, below, n))),
  λ past. (h i).1 (omega (arith, past)),
)
  where
    here : (j : ℕ) → at ≡ j → mark_at marks j ≡ 0
    here j e = subst (λ k. mark_at marks k ≡ 0) e (ap (λ b. cond {A = ℕ} b 1 0) off)

pub wait_all : (marks : List Bool) (at : ℕ) (waits : List ℕ) → length marks ≤ at → WaitBelow marks at waits → WaitOnce marks waits
wait_all marks at waits end h i = either (cases_lt i at) (λ l. (h i).0 l) (λ g. (h i).1 g ∙ sym (mark_off marks i (λ m. absurd (let w = slice_get_within marks i true m in omega (arith, w, end, g)))))

pub wait_first : (marks : List Bool) (waits : List ℕ) → waits ≡ [] → WaitBelow marks 0 waits
wait_first marks waits is i = (λ low. absurd (omega (arith, low)), λ past. ap (occurrences i) is)

pub wait_pushed : (marks : List Bool) (at : ℕ) (waits now : List ℕ) → get_or marks at false ≡ true → now ≡ waits ++ at ∷ [] → WaitBelow marks at waits → WaitBelow marks (at + 1) now
wait_pushed marks at waits now on is h = subst (λ (ns : List ℕ). WaitBelow marks (at + 1) ns) (sym is) (wait_push marks at waits on h)

-- One number lowered, and one mark.
module _ (left : List ℕ) (dead : List Bool) (waits : List ℕ) (at read : ℕ) (within : at < length left) (long : length dead ≡ length left)
    (some : 0 < get_or left at 0) (is : read ≡ get_or left at read) where
  read_is : get_or left at 0 ≡ (read - 1) + 1
  read_is = omega (arith, some, get_or_read_under left at (length left) read 0 is within refl)

  pub released_new : (wait : List ℕ) (mark : Bool) → read - 1 ≡ 0 → mark ≡ get_or dead at mark → mark ≡ false → wait ≡ waits ++ at ∷ []
      → Releases (at ∷ []) left dead waits (set left at (read - 1)) (set dead at true) wait
  released_new wait mark none m off pushed =
      subst (λ (ns : List ℕ). Releases (at ∷ []) left dead waits (set left at (read - 1)) (set dead at true) ns) (sym pushed)
      (release_falls left dead waits at (read - 1) within long read_is none (slice_get_read dead (length dead) at mark refl (omega (arith, within, long)) m ∙ ap Some off))

  pub released_dead : (mark : Bool) → mark ≡ get_or dead at mark → mark ≡ true → Releases (at ∷ []) left dead waits (set left at (read - 1)) dead waits
  released_dead mark m on = release_dead left dead waits at (read - 1) within long read_is (slice_get_read dead (length dead) at mark refl (omega (arith, within, long)) m ∙ ap Some on)

  pub released_still : 0 < read - 1 → Releases (at ∷ []) left dead waits (set left at (read - 1)) dead waits
  released_still more = release_keeps left dead waits at (read - 1) within long read_is more

-- there is one left for the next of a row
pub one_left : (row left now : List ℕ) (k : ℕ) → k < length row → occurrences (get_or row k 0) row ≤ get_or left (get_or row k 0) 0
    → get_or now (get_or row k 0) 0 + occurrences (get_or row k 0) (take k row) ≡ get_or left (get_or row k 0) 0 → 0 < get_or now (get_or row k 0) 0
one_left row left now k within enough so =
    let at = get_or row k 0 in
    let parts : occurrences at row ≡ occurrences at (take k row) + occurrences at (drop k row) = ap (occurrences at) (sym (take-append-drop k row)) ∙ occurrences-append at (take k row) (drop k row) in
    let here : occurrences at (drop k row) ≡ occurrences at (at ∷ drop (k + 1) row) = ap (occurrences at) (drop_more row k 0 within) in
    omega (arith, enough, so, parts, here, occurrences-same at at (drop (k + 1) row) refl)
