-- The breadth-first search: what each call adds to the findings.
use Rattle.std.proofs.Common.{◌≡◌, refl, sym, ◌∙◌, ap, subst, ℕ, zero, suc, ◌+◌, ◌<◌, ◌≤◌, Bool, true, false, cond, not, ◌⊎◌, inl, inr, List, [], ◌∷◌, ◌++◌, length, take, Option, Some, None, arith, get_or, set, replicate, append_assoc, append-nil, length-append}
use Rattle.std.specs.Prelude.{slice_get, count_by, filter, position, ◌==◌}
use Rattle.std.specs.List.{position_from}
use Rattle.std.proofs.lemmas.Iterator.Adapters.{position_from-zero}
use Rattle.std.proofs.lemmas.Bool.{cases_eq, eqb-true, eq-eqb}
use Rattle.std.proofs.lemmas.List.{take_more, length-set, length-replicate}
use Rattle.std.proofs.lemmas.List.Elements.{filter-append}
use Rattle.std.proofs.lemmas.List.Sums.{sum_by-set, sum_by-cons}
use Rattle.std.proofs.lemmas.Option.{slice_get_within, slice_get_read, get_or_from_slice_get}
use Rattle.cg_graph.specs.Member.{Includes}
use Rattle.cg_graph.proofs.Members.{either, cases_of, Includes-append_left, Includes-append_right, Includes-append_cases, Includes-map}
use Rattle.cg_search.specs.Places.{Marks, is_marked, StartsAt, steps_of}
use Rattle.cg_search.specs.Walks.{Findings, objects_in, Finds, IsStart, HasSpread, IsOver, Agree}
use Rattle.cg_search.proofs.Places.{slice_get-set_same, slice_get-set_other, unmarked}
use Rattle.cg_search.proofs.Trails.{finds_none, finds_new, finds_present, start_more, start_same, spread_more, objects_append, get_in}
use Rattle.cg_search.proofs.Edges.{step_in, step_out, marks_of_is, is_of_marks}

differs : ◌≡◌ {A = Option Bool} (Some false) (Some true) → ⊥
differs e = absurd (cc)

-- nothing is marked or found
pub agree_first : (allowed marks : List Bool) (found : Findings) → marks ≡ replicate (length allowed) false → found ≡ [] → Agree allowed marks found
agree_first allowed marks found is none =
    subst (λ (ms : List Bool). Agree allowed ms found) (sym is) (subst (λ (es : Findings). Agree allowed (replicate (length allowed) false) es) (sym none) (record {
      len = length-replicate (length allowed) false;
      marked = λ i m. absurd (unmarked (length allowed) i m);
      found_marked = λ i m. absurd m;
      found_allowed = λ i m. absurd m;
      left = omega (arith, all_off (length allowed));
    }))
  where
    all_off : (n : ℕ) → count_by not (replicate n false) ≡ n
    all_off zero = refl
    all_off (suc n) = omega (arith, all_off n, sum_by-cons (λ b. cond {A = ℕ} (not b) 1 0) false (replicate n false))

filter_one_yes : (p : ℕ → Bool) (t : ℕ) → p t ≡ true → filter p (t ∷ []) ≡ t ∷ []
filter_one_yes p t e = ap (λ b. cond b (t ∷ []) []) e

filter_one_no : (p : ℕ → Bool) (t : ℕ) → p t ≡ false → filter p (t ∷ []) ≡ []
filter_one_no p t e = ap (λ b. cond b (t ∷ []) []) e

-- The effect of a call of find.
pub record Found (allowed : List Bool) (old : Findings) (targets : List ℕ) (holder : Option ℕ) (marks : List Bool) (new : Findings) : Type 0 where
  pub agree : Agree allowed marks new
  pub finds : Finds old (filter (is_marked allowed) targets) holder new

-- a new place
pub found_new : (allowed marks : List Bool) (old new : Findings) (t : ℕ) (holder : Option ℕ) (mark : Bool) → Agree allowed marks old → t < length allowed
    → get_or allowed t false ≡ true → mark ≡ get_or marks t mark → mark ≡ false → new ≡ old ++ (t, holder) ∷ []
    → Found allowed old (t ∷ []) holder (set marks t true) new
found_new allowed marks old new t holder mark so within free read off is = record {
  agree = record {
    len = length-set marks t true ∙ so.len;
    marked = λ i m. subst (λ (os : List ℕ). Includes os i) (sym objects)
        (either (cases_eq i t) (λ e. Includes-append_right (objects_in old) (t ∷ []) i (inl (sym e)))
        (λ n. Includes-append_left (objects_in old) (t ∷ []) i (so.marked i (sym (slice_get-set_other marks t i true n) ∙ m))));
    found_marked = λ i m. either (parts i m) (λ k. stays i (so.found_marked i k)) (λ e. subst (λ j. Marks (set marks t true) j) e now);
    found_allowed = λ i m. either (parts i m) (λ k. so.found_allowed i k) (λ e. subst (λ j. Marks allowed j) e (marks_of_is allowed t free));
    left = omega (arith, changed, so.left, ap (λ (es : Findings). length es) is, length-append old ((t, holder) ∷ []));
  };
  finds = subst (λ (ts : List ℕ). Finds old ts holder new) (sym (filter_one_yes (is_marked allowed) t free)) (finds_new old new t holder is (λ m. differs (sym here ∙ so.found_marked t m)));
}
  where
    here : slice_get marks t ≡ Some false
    here = slice_get_read marks (length marks) t mark refl (omega (arith, within, so.len)) read ∙ ap Some off

    objects : objects_in new ≡ objects_in old ++ t ∷ []
    objects = ap objects_in is ∙ objects_append old ((t, holder) ∷ [])

    now : Marks (set marks t true) t
    now = slice_get-set_same marks t true (omega (arith, within, so.len))

    stays : (i : ℕ) → Marks marks i → Marks (set marks t true) i
    stays i m = either (cases_eq i t) (λ e. subst (λ j. Marks (set marks t true) j) (sym e) now) (λ n. slice_get-set_other marks t i true n ∙ m)

    parts : (i : ℕ) → Includes (objects_in new) i → Includes (objects_in old) i ⊎ (t ≡ i)
    parts i m = either (Includes-append_cases (objects_in old) (t ∷ []) i (subst (λ (os : List ℕ). Includes os i) objects m)) (λ k. inl k) (λ k. either k (λ e. inr e) (λ f. absurd f))

    changed : count_by not (set marks t true) + 1 ≡ count_by not marks + 0
    changed =
        ap (λ b. count_by not (set marks t true) + cond {A = ℕ} (not b) 1 0) (sym (get_or_from_slice_get marks t false true here))
        ∙ sum_by-set (λ b. cond {A = ℕ} (not b) 1 0) marks t true true (omega (arith, within, so.len))

-- a place found before
pub found_before : (allowed marks : List Bool) (old : Findings) (t : ℕ) (holder : Option ℕ) (mark : Bool) → Agree allowed marks old → t < length allowed
    → get_or allowed t false ≡ true → mark ≡ get_or marks t mark → mark ≡ true → Found allowed old (t ∷ []) holder marks old
found_before allowed marks old t holder mark so within free read on = record {
  agree = so;
  finds = subst (λ (ts : List ℕ). Finds old ts holder old) (sym (filter_one_yes (is_marked allowed) t free))
      (finds_present old old t holder refl (so.marked t (slice_get_read marks (length marks) t mark refl (omega (arith, within, so.len)) read ∙ ap Some on)));
}

-- a place that is not allowed
pub found_shut : (allowed marks : List Bool) (old : Findings) (t : ℕ) (holder : Option ℕ) → Agree allowed marks old → get_or allowed t false ≡ false → Found allowed old (t ∷ []) holder marks old
found_shut allowed marks old t holder so shut = record {
  agree = so;
  finds = subst (λ (ts : List ℕ). Finds old ts holder old) (sym (filter_one_no (is_marked allowed) t shut)) (finds_none old holder);
}

-- some places, then others
finds_then : (old mid new : Findings) (first then : List ℕ) (holder : Option ℕ) → Finds old first holder mid → Finds mid then holder new → Finds old (first ++ then) holder new
finds_then old mid new first then holder a b = record {
  more = a.more ++ b.more;
  is = b.is ∙ ap (λ (l : Findings). l ++ b.more) a.is ∙ append_assoc old a.more b.more;
  only = λ e m. either (Includes-append_cases a.more b.more e m)
      (λ k. let r = a.only e k in (Includes-append_left first then e.0 r.0, r.1))
      (λ k. let r = b.only e k in (Includes-append_right first then e.0 r.0, r.1));
  all = λ o m. either (Includes-append_cases first then o m)
      (λ k. subst (λ (l : Findings). Includes (objects_in l) o) (sym b.is)
      (subst (λ (l : List ℕ). Includes l o) (sym (objects_append mid b.more)) (Includes-append_left (objects_in mid) (objects_in b.more) o (a.all o k))))
      (λ k. b.all o k);
  once = λ h. b.once (a.once h);
}

-- the next of a row
pub finds_next : (allowed : List Bool) (old mid new : Findings) (row : List ℕ) (k : ℕ) (holder : Option ℕ) → k < length row
    → Finds old (filter (is_marked allowed) (take k row)) holder mid → Finds mid (filter (is_marked allowed) (get_or row k 0 ∷ [])) holder new
    → Finds old (filter (is_marked allowed) (take (k + 1) row)) holder new
finds_next allowed old mid new row k holder within a b =
    subst (λ (ts : List ℕ). Finds old ts holder new)
    (sym (ap (filter (is_marked allowed)) (take_more row k 0 within) ∙ filter-append (is_marked allowed) (take k row) (get_or row k 0 ∷ [])))
    (finds_then old mid new (filter (is_marked allowed) (take k row)) (filter (is_marked allowed) (get_or row k 0 ∷ [])) holder a b)

-- The starts below a place are found.
abbrev pub StartsBelow : List Bool → List Bool → ℕ → ℕ → Type 0
StartsBelow starts allowed at i = (i < at) × StartsAt starts allowed i

pub starts_more : (starts allowed : List Bool) (at : ℕ) (old new : Findings) → get_or starts at false ≡ true → IsStart (StartsBelow starts allowed at) old
    → Finds old (filter (is_marked allowed) (at ∷ [])) None new → IsStart (StartsBelow starts allowed (at + 1)) new
starts_more starts allowed at old new start h f = either (cases_of (is_marked allowed at))
    (λ yes.
    start_more (StartsBelow starts allowed at) (StartsBelow starts allowed (at + 1)) old new at h (subst (λ (ts : List ℕ). Finds old ts None new) (filter_one_yes (is_marked allowed) at yes) f)
    (omega arith, (marks_of_is starts at start, marks_of_is allowed at yes)) up (λ i m. either (cases_eq at i) (λ e. inr e) (λ n. inl (omega (arith, m.0, n), m.1))))
    (λ no.
    let nothing : Finds old [] None new = subst (λ (ts : List ℕ). Finds old ts None new) (filter_one_no (is_marked allowed) at no) f in
    let same : new ≡ old = nothing.is ∙ ap (λ (es : Findings). old ++ es) (no_more nothing.more (λ e m. (nothing.only e m).0)) ∙ append-nil old in
    subst (λ (es : Findings). IsStart (StartsBelow starts allowed (at + 1)) es) (sym same)
    (start_same (StartsBelow starts allowed at) (StartsBelow starts allowed (at + 1)) old h up
    (λ i m. either (cases_eq at i) (λ e. absurd (clash no (is_of_marks allowed at (subst (λ j. Marks allowed j) (sym e) m.1.1)))) (λ n. (omega (arith, m.0, n), m.1)))))
  where
    up : (i : ℕ) → StartsBelow starts allowed at i → StartsBelow starts allowed (at + 1) i
    up i m = (omega (arith, m.0), m.1)

    clash : {b : Bool} → b ≡ false → b ≡ true → ⊥
    clash e f = absurd (cc)

    no_more : (es : Findings) → ((e : ℕ × Option ℕ) → Includes es e → ⊥) → es ≡ []
    no_more [] h = refl
    no_more (e ∷ es) h = absurd (h e (inl refl))

pub starts_skip : (starts allowed : List Bool) (at : ℕ) (found : Findings) → get_or starts at false ≡ false → IsStart (StartsBelow starts allowed at) found
    → IsStart (StartsBelow starts allowed (at + 1)) found
starts_skip starts allowed at found off h =
    start_same (StartsBelow starts allowed at) (StartsBelow starts allowed (at + 1)) found h (λ i m. (omega (arith, m.0), m.1))
    (λ i m. either (cases_eq at i) (λ e. absurd (clash off (is_of_marks starts at (subst (λ j. Marks starts j) (sym e) m.1.0)))) (λ n. (omega (arith, m.0, n), m.1)))
  where
    clash : {b : Bool} → b ≡ false → b ≡ true → ⊥
    clash e f = absurd (cc)

pub starts_all : (starts allowed : List Bool) (at : ℕ) (found : Findings) → length starts ≤ at → IsStart (StartsBelow starts allowed at) found → IsStart (StartsAt starts allowed) found
starts_all starts allowed at found end h = start_same (StartsBelow starts allowed at) (StartsAt starts allowed) found h (λ i m. m.1)
    (λ i m. (omega (arith, slice_get_within starts i true m.0, end), m))

-- The progress of the search.
pub record Walks (starts allowed : List Bool) (rows : List (List ℕ)) (marks : List Bool) (found : Findings) (at : ℕ) : Type 0 where
  pub agree : Agree allowed marks found
  pub spread : HasSpread (StartsAt starts allowed) (steps_of allowed rows) found at

-- the place at a position is in range
pub place_within : (allowed marks : List Bool) (found : Findings) (at : ℕ) (e : ℕ × Option ℕ) → Agree allowed marks found → slice_get found at ≡ Some e → e.0 < length allowed
place_within allowed marks found at e so is = slice_get_within allowed e.0 true (so.found_allowed e.0 (Includes-map (λ (f : ℕ × Option ℕ). f.0) found e (get_in found at e is)))

pub walks_more : (starts allowed : List Bool) (rows : List (List ℕ)) (marks now : List Bool) (found new : Findings) (at o : ℕ) (holder : Option ℕ)
    (row : List ℕ) → Walks starts allowed rows marks found at → slice_get found at ≡ Some (o, holder) → slice_get rows o ≡ Some row
    → Agree allowed now new → Finds found (filter (is_marked allowed) row) (Some at) new → Walks starts allowed rows now new (at + 1)
walks_more starts allowed rows marks now found new at o holder row so is here agree finds = record {
  agree = agree;
  spread = spread_more (StartsAt starts allowed) (steps_of allowed rows) found new at o holder (filter (is_marked allowed) row) so.spread is
      (λ r m. step_in allowed rows o row r here m) (λ r m. step_out allowed rows o row r here m) finds;
}

-- the position of a place among the findings
abbrev is_at : ℕ → ℕ × Option ℕ → Bool
is_at target e = e.0 == target

found_from : (target k : ℕ) (es : Findings) (j : ℕ) → position_from (is_at target) k es ≡ Some j → (i : ℕ) × (j ≡ k + i) × (slice_get (objects_in es) i ≡ Some target)
found_from target k [] j h = absurd (cc)
found_from target k (e ∷ es) j h = go (e.0 == target) refl h (found_from target (k + 1) es j)
  where
    go : (b : Bool) → e.0 == target ≡ b → cond b (Some k) (position_from (is_at target) (k + 1) es) ≡ Some j → (position_from (is_at target) (k + 1) es ≡ Some j
        → (i : ℕ) × (j ≡ (k + 1) + i) × (slice_get (objects_in es) i ≡ Some target))
        → (i : ℕ) × (j ≡ k + i) × (slice_get (objects_in (e ∷ es)) i ≡ Some target)
    go true is s rec = (0, (let same : k ≡ j = cc in omega (arith, same)), ap Some (eqb-true e.0 target is))
    go false is s rec = let r = rec s in (suc r.0, omega (arith, r.1), r.2)

none_from : (target k : ℕ) (es : Findings) → position_from (is_at target) k es ≡ None → Includes (objects_in es) target → ⊥
none_from target k [] h m = m
none_from target k (e ∷ es) h m = go (e.0 == target) refl h m (none_from target (k + 1) es)
  where
    go : (b : Bool) → e.0 == target ≡ b → cond b (Some k) (position_from (is_at target) (k + 1) es) ≡ None → (e.0 ≡ target) ⊎ Includes (objects_in es) target
        → (position_from (is_at target) (k + 1) es ≡ None → Includes (objects_in es) target → ⊥) → ⊥
    go true is s n rec = absurd (cc)
    go false is s (inl same) rec = let yes = eq-eqb e.0 target same in absurd (cc)
    go false is s (inr i) rec = rec s i

pub found_place : (target : ℕ) (es : Findings) (j : ℕ) → position (λ e. e.0 == target) es ≡ Some j → slice_get (objects_in es) j ≡ Some target
found_place target es j h =
    let r = found_from target 0 es j (sym (position_from-zero (is_at target) es) ∙ h) in
    let same : r.0 ≡ j = omega (arith, r.1) in
    subst (λ i. slice_get (objects_in es) i ≡ Some target) same r.2

pub no_place : (target : ℕ) (es : Findings) → position (λ e. e.0 == target) es ≡ None → Includes (objects_in es) target → ⊥
no_place target es h = none_from target 0 es (sym (position_from-zero (is_at target) es) ∙ h)

-- no place remains to be followed
pub walks_over : (starts allowed : List Bool) (rows : List (List ℕ)) (marks : List Bool) (found : Findings) (at : ℕ) → Walks starts allowed rows marks found at
    → length found ≤ at → IsOver (StartsAt starts allowed) (steps_of allowed rows) found
walks_over starts allowed rows marks found at so end =
    let same : at ≡ length found = omega (arith, so.spread.within, end) in
    subst (λ n. HasSpread (StartsAt starts allowed) (steps_of allowed rows) found n) same so.spread
