-- The search: what was visited, what waits, and that it marks exactly what paths lead to.
use Rattle.std.proofs.Common.{◌≡◌, refl, sym, ◌∙◌, ap, subst, ℕ, zero, suc, ◌+◌, ◌<◌, Bool, true, false, cond, not, ◌⊎◌, inl, inr, List, [], ◌∷◌, ◌++◌, length, take, Option, Some, arith, get_or, set, replicate, map}
use Rattle.std.specs.Prelude.{◌↔◌, slice_get, count_by, option_to_list, option_map}
use Rattle.std.specs.List.{concat}
use Rattle.std.proofs.lemmas.Bool.{cases_eq}
use Rattle.std.proofs.lemmas.List.{length-replicate, length-set, length-append}
use Rattle.std.proofs.lemmas.List.Sums.{sum_by-set}
use Rattle.std.proofs.lemmas.Option.{same_Some, slice_get_within, slice_get_read, slice_get-get_or, slice_get-map, get_or_from_slice_get}
use Rattle.cg_graph.specs.Member.{Includes}
use Rattle.cg_graph.proofs.Members.{either, Includes-append_left, Includes-append_right, Includes-append_cases}
use Rattle.cg_search.specs.Places.{Marks, Leads, begins, follows}
use Rattle.cg_search.specs.Visits.{Visits}
use Rattle.cg_search.proofs.Places.{slice_get-set_same, slice_get-set_other, includes_more, includes_first, includes_last, unmarked}

module _ (allowed : List Bool) where
  -- a target that is not allowed, or was marked before
  pub visits_none : (target : ℕ) (old : List Bool) (waits : List ℕ) → (Marks allowed target → Marks old target) → Visits (λ i. i ≡ target) allowed old waits old waits
  visits_none target old waits done = record {
    len = refl;
    marked = λ i e a. subst (λ j. Marks old j) (sym e) (done (subst (λ j. Marks allowed j) e a));
    stay = λ i m. m;
    only = λ i m. inl m;
    still_wait = λ i h. h;
    only_wait = λ i h. inl h;
    left = refl;
  }

  -- a new target that is allowed
  pub visits_new : (target : ℕ) (old : List Bool) (waits : List ℕ) → Marks allowed target → slice_get old target ≡ Some false → Visits (λ i. i ≡ target) allowed
      old waits (set old target true) (waits ++ target ∷ [])
  visits_new target old waits free mark = record {
    len = length-set old target true;
    marked = λ i e a. subst (λ j. Marks (set old target true) j) (sym e) now;
    stay = λ i m. slice_get-set_other old target i true (λ e. differs (sym mark ∙ ap (slice_get old) (sym e) ∙ m)) ∙ m;
    only = λ i m. either (cases_eq i target)
        (λ e. inr (e, subst (λ j. Marks allowed j) (sym e) free, Includes-append_right waits (target ∷ []) i (inl (sym e))))
        (λ n. inl (sym (slice_get-set_other old target i true n) ∙ m));
    still_wait = λ i h. Includes-append_left waits (target ∷ []) i h;
    only_wait = λ i h. either (Includes-append_cases waits (target ∷ []) i h) (λ a. inl a) (λ b. either b (λ e. inr (subst (λ j. Marks (set old target true) j) e now)) (λ f. absurd f));
    left = omega (arith, changed, length-append waits (target ∷ []));
  }
    where
      differs : ◌≡◌ {A = Option Bool} (Some false) (Some true) → ⊥
      differs e = absurd (cc)

      now : Marks (set old target true) target
      now = slice_get-set_same old target true (slice_get_within old target false mark)

      changed : count_by not (set old target true) + 1 ≡ count_by not old + 0
      changed =
          ap (λ b. count_by not (set old target true) + cond {A = ℕ} (not b) 1 0) (sym (get_or_from_slice_get old target false true mark))
          ∙ sum_by-set (λ b. cond {A = ℕ} (not b) 1 0) old target true true (slice_get_within old target false mark)

  -- some targets, then others
  pub visits_more : (First Then All : ℕ → Type 0) (a b c : List Bool) (u v w : List ℕ) → Visits First allowed a u b v → Visits Then allowed b v c w
      → ((i : ℕ) → All i → First i ⊎ Then i) → ((i : ℕ) → First i → All i) → ((i : ℕ) → Then i → All i)
      → Visits All allowed a u c w
  visits_more First Then All a b c u v w h k parts f g = record {
    len = k.len ∙ h.len;
    marked = λ i t free. either (parts i t) (λ x. k.stay i (h.marked i x free)) (λ y. k.marked i y free);
    stay = λ i m. k.stay i (h.stay i m);
    only = λ i m. either (k.only i m) (λ before. either (h.only i before) (λ x. inl x) (λ y. inr (f i y.0, y.1, k.still_wait i y.2))) (λ y. inr (g i y.0, y.1, y.2));
    still_wait = λ i x. k.still_wait i (h.still_wait i x);
    only_wait = λ i x. either (k.only_wait i x) (λ before. either (h.only_wait i before) (λ y. inl y) (λ y. inr (k.stay i y))) (λ y. inr y);
    left = k.left ∙ h.left;
  }

  -- the next target of a row
  pub visits_next : (row : List ℕ) (at d : ℕ) (a b c : List Bool) (u v w : List ℕ) → at < length row → Visits (Includes (take at row)) allowed a u b v
      → Visits (λ i. i ≡ get_or row at d) allowed b v c w → Visits (Includes (take (at + 1) row)) allowed a u c w
  visits_next row at d a b c u v w within h k =
      visits_more (Includes (take at row)) (λ i. i ≡ get_or row at d) (Includes (take (at + 1) row)) a b c u v w h k
      (λ i m. either (includes_more row at d i within m) (λ x. inl x) (λ e. inr (sym e)))
      (λ i m. includes_first row at d i within m)
      (λ i e. subst (λ j. Includes (take (at + 1) row) j) (sym e) (includes_last row at d within))

-- The search so far: each marked place is led to, and the places not followed yet wait.
pub record Searches (starts allowed : List Bool) (rows : List (List ℕ)) (marks : List Bool) (waits : List ℕ) : Type 0 where
  pub len : length marks ≡ length allowed
  pub led : (i : ℕ) → Marks marks i → Leads starts allowed rows i
  pub started : (i : ℕ) → Marks starts i → Marks allowed i → Marks marks i
  pub followed : (i j : ℕ) (row : List ℕ) → Marks marks i → slice_get rows i ≡ Some row → Includes row j → Marks allowed j → Marks marks j ⊎ Includes waits i
  pub waiting : (i : ℕ) → Includes waits i → Marks marks i

module _ (starts allowed : List Bool) (rows : List (List ℕ)) where
  -- the starts were visited
  pub searches_first : (old marks : List Bool) (none waits : List ℕ) → old ≡ replicate (length allowed) false → none ≡ [] → Visits (Marks starts) allowed old
      none marks waits → Searches starts allowed rows marks waits
  searches_first old marks none waits is nil h = record {
    len = h.len ∙ ap length is ∙ length-replicate (length allowed) false;
    led = λ i m. either (h.only i m) (λ before. absurd (unmarked (length allowed) i (ap (λ ms. slice_get ms i) (sym is) ∙ before))) (λ y. begins i y.0 y.1);
    started = λ i m a. h.marked i m a;
    followed = λ i j row m at r a. either (h.only i m) (λ before. absurd (unmarked (length allowed) i (ap (λ ms. slice_get ms i) (sym is) ∙ before))) (λ y. inr y.2);
    waiting = λ i x. either (h.only_wait i x) (λ y. absurd (subst (λ (ns : List ℕ). Includes ns i) nil y)) (λ y. y);
  }

  -- the row of a waiting place was visited
  pub searches_more : (marks now : List Bool) (waits rest wait : List ℕ) (at : ℕ) (row : List ℕ) → Searches starts allowed rows marks waits → waits ≡ rest ++ at
      ∷ [] → slice_get rows at ≡ Some row → Visits (Includes row) allowed marks rest now wait
      → Searches starts allowed rows now wait
  searches_more marks now waits rest wait at row so popped here h = record {
    len = h.len ∙ so.len;
    led = λ i m. either (h.only i m) (λ before. so.led i before) (λ y. follows at i row (so.led at waited) here y.0 y.1);
    started = λ i m a. h.stay i (so.started i m a);
    followed = λ i j r m at_i in_r a. either (h.only i m)
        (λ before. either (so.followed i j r before at_i in_r a) (λ x. inl (h.stay j x))
        (λ x. either (Includes-append_cases rest (at ∷ []) i (subst (λ (ns : List ℕ). Includes ns i) popped x)) (λ y. inr (h.still_wait i y))
        (λ y. either y (λ e. inl (h.marked j (subst (λ (ns : List ℕ). Includes ns j) (same_Some r row (sym at_i ∙ ap (slice_get rows) (sym e) ∙ here)) in_r) a)) (λ f. absurd f))))
        (λ y. inr y.2);
    waiting = λ i x. either (h.only_wait i x) (λ y. h.stay i (so.waiting i (subst (λ (ns : List ℕ). Includes ns i) (sym popped) (Includes-append_left rest (at ∷ []) i y)))) (λ y. y);
  }
    where
      waited : Marks marks at
      waited = so.waiting at (subst (λ (ns : List ℕ). Includes ns at) (sym popped) (Includes-append_right rest (at ∷ []) at (inl refl)))

  -- a place taken from the work list is a position
  pub popped_within : (marks : List Bool) (waits rest : List ℕ) (popped : Option ℕ) (at : ℕ) → Searches starts allowed rows marks waits → waits ≡ rest
      ++ option_to_list popped → popped ≡ Some at → at < length allowed
  popped_within marks waits rest popped at so parts is =
      let mark = so.waiting at (subst (λ (ns : List ℕ). Includes ns at) (sym (parts ∙ ap (λ o. rest ++ option_to_list o) is)) (Includes-append_right rest (at ∷ []) at (inl refl))) in
      omega (arith, slice_get_within marks at true mark, so.len)

  -- nothing waits any more
  pub searched : (marks : List Bool) (waits : List ℕ) → Searches starts allowed rows marks waits → waits ≡ [] → (i : ℕ) → Marks marks i ↔ Leads starts allowed rows i
  searched marks waits so nil i = (so.led i, all i)
    where
      all : (j : ℕ) → Leads starts allowed rows j → Marks marks j
      all _ (begins j s a) = so.started j s a
      all _ (follows k j row l at m a) = either (so.followed k j row (all k l) at m a) (λ x. x) (λ x. absurd (subst (λ (ns : List ℕ). Includes ns k) nil x))

-- an element of a row is an element of the concatenation
pub includes_concat : (rows : List (List ℕ)) (i : ℕ) (row : List ℕ) (x : ℕ) → slice_get rows i ≡ Some row → Includes row x → Includes (concat rows) x
includes_concat [] i row x at h = absurd (cc)
includes_concat (r ∷ rows) zero row x at h = Includes-append_left r (concat rows) x (subst (λ (ns : List ℕ). Includes ns x) (sym (same_Some r row at)) h)
includes_concat (r ∷ rows) (suc i) row x at h = Includes-append_right r (concat rows) x (includes_concat rows i row x at h)

-- the row of a node
pub row_here : {N : Type 0} (row : N → List ℕ) (nodes : List N) (at : ℕ) (n : N) → at < length nodes → n ≡ get_or nodes at n → slice_get (map row nodes) at ≡ Some (row n)
row_here row nodes at n within read = slice_get-map row nodes at ∙ ap (option_map row) (slice_get_read nodes (length nodes) at n refl within read)

-- visiting a target whose marks are read
pub reads_new : (allowed old : List Bool) (waits wait : List ℕ) (target : ℕ) (mark : Bool) → target < length allowed → length old ≡ length allowed
    → get_or allowed target false ≡ true → mark ≡ get_or old target mark → mark ≡ false → wait ≡ waits ++ target ∷ []
    → Visits (λ i. i ≡ target) allowed old waits (set old target true) wait
reads_new allowed old waits wait target mark within long free read off pushed =
    subst (λ (ns : List ℕ). Visits (λ i. i ≡ target) allowed old waits (set old target true) ns) (sym pushed)
    (visits_new allowed target old waits (slice_get-get_or allowed target false within ∙ ap Some free) (slice_get_read old (length old) target mark refl
    (omega (arith, within, long)) read ∙ ap Some off))

pub reads_marked : (allowed old : List Bool) (waits : List ℕ) (target : ℕ) (mark : Bool) → target < length allowed → length old ≡ length allowed → mark
    ≡ get_or old target mark → mark ≡ true → Visits (λ i. i ≡ target) allowed old waits old waits
reads_marked allowed old waits target mark within long read on =
    visits_none allowed target old waits (λ a. slice_get_read old (length old) target mark refl (omega (arith, within, long)) read ∙ ap Some on)

pub reads_shut : (allowed old : List Bool) (waits : List ℕ) (target : ℕ) → target < length allowed → get_or allowed target false ≡ false → Visits (λ i. i ≡ target) allowed old waits old waits
reads_shut allowed old waits target within shut = visits_none allowed target old waits (λ a. absurd (differs (sym (ap Some shut) ∙ sym (slice_get-get_or allowed target false within) ∙ a)))
  where
    differs : ◌≡◌ {A = Option Bool} (Some false) (Some true) → ⊥
    differs e = absurd (cc)

pub empty_of : (xs : List ℕ) → length xs ≡ 0 → xs ≡ []
empty_of [] e = refl
empty_of (x ∷ xs) e = absurd (omega (arith, e))
