-- What would go: its members, their totals, and that what dies by count and was reached is let go.
use Rattle.std.proofs.Common.{◌≡◌, refl, sym, ◌∙◌, ap, subst, ℕ, zero, suc, ◌+◌, ◌*◌, ◌<◌, ◌≤◌, ◌^◌, Bool, true, false, cond, ◌⊎◌, inl, inr, List, [], ◌∷◌, ◌++◌, length, map, Option, Some, arith, get_or, set, replicate, append-nil, length-append}
use Rattle.std.specs.Prelude.{◌==◌, slice_get, codes}
use Rattle.std.specs.List.{concat, AllByRecursion}
use Rattle.std.proofs.lemmas.Bool.{cases_eq, cases_lt}
use Rattle.std.proofs.lemmas.List.{length-map, length-set, length-replicate, get_or-map}
use Rattle.std.proofs.lemmas.List.Elements.{filter-append}
use Rattle.std.proofs.lemmas.List.Sums.{sum_by-append, sum_by-cons}
use Rattle.std.proofs.lemmas.Option.{slice_get_within, get_or_from_slice_get}
use Rattle.cg_graph.specs.Member.{Includes}
use Rattle.cg_graph.specs.Holdings.{occurrences}
use Rattle.cg_graph.specs.Reach.{Reach, first, next}
use Rattle.cg_graph.proofs.Members.{either}
use Rattle.cg_search.specs.Places.{Marks, is_marked}
use Rattle.cg_search.specs.Counts.{targets_from}
use Rattle.cg_search.proofs.Edges.{edge_out, marks_of_is, is_of_marks}
use Rattle.cg_search.proofs.Places.{slice_get-set_same, slice_get-set_other, occurs}
use Rattle.cg_snapshot.specs.declared.heap.Member.{Member}
use Rattle.cg_snapshot.specs.Text.{IsSmallMember}
use Rattle.cg_ask.specs.Asked.{rows_of, degree_at, IsHeld, IsMember, IsOther, edges, IsReached, IsGone}
use Rattle.cg_ask.specs.Answers.{Row, line, flagged, bytes_of}
use Rattle.cg_ask.specs.Dying.{Dies}
use Rattle.cg_ask.specs.Faults.{AreRight}
use Rattle.cg_ask.specs.Marked.{MarkJust, flags_of}
use Rattle.cg_ask.specs.Totals.{AppendsGone, totals_from}
use Rattle.cg_ask.specs.declared.sets.Totals.{Totals}
use Rattle.cg_ask.proofs.Rows.{RowsBelow, rows_first, rows_push, rows_skip, rows_all}
use Rattle.cg_ask.proofs.Counting.{targets_few, targets_set, no_degree}
use Rattle.cg_ask.proofs.FaultsOfHeaps.{covered_all}
use Rattle.cg_ask.proofs.Marking.{is_or_not}

-- The members that no path from outside passes through; they are closed if the path avoids the given ones.
record Stays (ms : List Member) (dropped : List ℕ) (o : ℕ) : Type 0 where
  pub closed : List Bool
  pub len : length closed ≡ length ms
  pub given : (x : ℕ) → Includes dropped x → IsMember ms x → Marks closed x
  pub out : ¬ Marks closed o
  pub keeps : (x : ℕ) → x < length ms → ¬ Marks closed x → IsHeld ms x ⊎ ((p : ℕ) × (¬ Marks closed p) × (row : List ℕ) × (slice_get (rows_of ms) p ≡ Some row) × Includes row x)

some_false : {X : Type 0} → ◌≡◌ {A = Option Bool} (Some false) (Some true) → X
some_false e = absurd (cc)

-- fewer are marked
set_less : (marks : List Bool) (x i : ℕ) → Marks (set marks x false) i → Marks marks i
set_less marks x i m = either (cases_eq i x)
    (λ e. either (cases_lt x (length marks))
    (λ l. some_false (sym (slice_get-set_same marks x false l) ∙ subst (λ j. slice_get (set marks x false) j ≡ Some true) e m))
    (λ g. absurd (let w = slice_get_within (set marks x false) i true m in omega (arith, w, length-set marks x false, e, g))))
    (λ n. sym (slice_get-set_other marks x i false n) ∙ m)

set_not : (marks : List Bool) (x : ℕ) → ¬ Marks (set marks x false) x
set_not marks x m = either (cases_lt x (length marks))
    (λ l. some_false (sym (slice_get-set_same marks x false l) ∙ m))
    (λ g. absurd (let w = slice_get_within (set marks x false) x true m in omega (arith, w, length-set marks x false, g)))

all_marks : (n i : ℕ) → i < n → Marks (replicate n true) i
all_marks zero i below = absurd (omega (arith, below))
all_marks (suc n) zero below = refl
all_marks (suc n) (suc i) below = all_marks n i (omega (arith, below))

module _ (ms : List Member) (dropped : List ℕ) where
  stays_first : (x : ℕ) → IsHeld ms x → IsOther ms dropped x → Stays ms dropped x
  stays_first x held other = record {
    closed = set (replicate (length ms) true) x false;
    len = length-set (replicate (length ms) true) x false ∙ length-replicate (length ms) true;
    given = λ y d m. slice_get-set_other (replicate (length ms) true) x y false (λ e. other.1 (subst (λ z. Includes dropped z) e d)) ∙ all_marks (length ms) y m;
    out = set_not (replicate (length ms) true) x;
    keeps = λ y within not_in. either (cases_eq y x) (λ e. inl (subst (λ z. IsHeld ms z) (sym e) held))
        (λ n. absurd (not_in (slice_get-set_other (replicate (length ms) true) x y false n ∙ all_marks (length ms) y within)));
  }

  stays_next : (x y : ℕ) (row : List ℕ) → Stays ms dropped x → slice_get (rows_of ms) x ≡ Some row → Includes row y → IsOther ms dropped y → Stays ms dropped y
  stays_next x y row s at leads other = record {
    closed = set s.closed y false;
    len = length-set s.closed y false ∙ s.len;
    given = λ z d m. slice_get-set_other s.closed y z false (λ e. other.1 (subst (λ w. Includes dropped w) e d)) ∙ s.given z d m;
    out = set_not s.closed y;
    keeps = λ z within not_in. either (cases_eq z y)
        (λ e. inr (x, (λ m. s.out (set_less s.closed y x m)), row, at, subst (λ w. Includes row w) (sym e) leads))
        (λ n. either (s.keeps z within (λ m. not_in (slice_get-set_other s.closed y z false n ∙ m))) (λ h. inl h) (λ k. inr (k.0, (λ m. k.1 (set_less s.closed y k.0 m)), k.2, k.3, k.4)));
  }

  stays : (o : ℕ) → Reach (IsHeld ms) (IsOther ms dropped) (edges ms) o → Stays ms dropped o
  stays o (first h m) = stays_first o h m
  stays o (next {o = x} r e m) = let found = edge_out (rows_of ms) x o e in stays_next x o found.0 (stays x r) found.1 found.2 m

-- an unmarked node adds to the targets of all
targets_miss : (x : ℕ) (marks : List Bool) (rows : List (List ℕ)) (p : ℕ) (row : List ℕ) → slice_get rows p ≡ Some row → ¬ Marks marks p → length marks
    ≡ length rows → occurrences x (targets_from marks rows) + occurrences x row ≤ occurrences x (concat rows)
targets_miss x marks rows p row at not_in long =
    let within = slice_get_within rows p row at in
    let off : is_marked marks p ≡ false = by (is_marked marks p) refl in
    let more = targets_set x marks rows p within long off in
    let row_is : occurrences x (get_or rows p []) ≡ occurrences x row = ap (λ (r : List ℕ). occurrences x r) (get_or_from_slice_get rows p row [] at) in
    omega (arith, more, row_is, targets_few x (set marks p true) rows)
  where
    by : (b : Bool) → is_marked marks p ≡ b → is_marked marks p ≡ false
    by true e = absurd (not_in (marks_of_is marks p e))
    by false e = e

-- What dies by count is not reached by paths that avoid the dropped members.
pub dead_not_reached : (ms : List Member) (dropped : List ℕ) (o : ℕ) → AreRight ms false → ((x : ℕ) → Includes dropped x → IsMember ms x)
    → Dies ms (Includes dropped) o → Reach (IsHeld ms) (IsOther ms dropped) (edges ms) o → ⊥
dead_not_reached ms dropped o right members dies r =
    let s = stays ms dropped o r in
    s.out (dies s.closed (record {
      len = s.len;
      given = λ x d. s.given x d (members x d);
      dies = λ x some all. either (is_or_not s.closed x) (λ m. m) (λ n. absurd (clash s x some all n));
    }))
  where
    clash : (s : Stays ms dropped o) (x : ℕ) → 0 < degree_at ms x → occurrences x (targets_from s.closed (rows_of ms)) ≡ degree_at ms x → ¬ Marks s.closed x → ⊥
    clash s x some all n = either (s.keeps x (within x some) n)
        (λ held. omega (arith, held, all, targets_few x s.closed (rows_of ms)))
        (λ k. let miss = targets_miss x s.closed (rows_of ms) k.0 k.2 k.3 k.1 (s.len ∙ sym (length-map ms (λ (m : Member). m.refs)))
        in omega (arith, miss, all, occurs k.2 x k.4, covered_all ms false right x))
      where
        within : (y : ℕ) → 0 < degree_at ms y → y < length ms
        within y h = either (cases_lt y (length ms)) (λ l. l) (λ g. absurd (omega (arith, h, no_degree ms y g)))

-- the members that would go, by marks
pub gone_just : (ms : List Member) (places : List ℕ) (dead before after let_go gone : List Bool) → MarkJust (length ms) (Dies ms (Includes places)) dead
    → MarkJust (length ms) (IsReached ms) before → MarkJust (length ms) (Reach (IsHeld ms) (IsOther ms places) (edges ms)) after
    → MarkJust (length before) (λ i. Marks before i × ¬ Marks after i) let_go → MarkJust (length dead) (λ i. Marks dead i ⊎ Marks let_go i) gone → MarkJust (length ms) (IsGone ms places) gone
gone_just ms places dead before after let_go gone d b a l g = record {
  len = g.len ∙ d.len;
  just = λ i. (
    λ m. either ((g.just i).0 m) (λ k. inl ((d.just i).0 k)) (λ k. let p = (l.just i).0 k in inr (record { reached = (b.just i).0 p.0; by_these = λ r. p.1 ((a.just i).1 r) })),
    λ is. (g.just i).1 (either is (λ k. inl ((d.just i).1 k)) (λ k. inr ((l.just i).1 ((b.just i).1 k.reached, λ m. k.by_these ((a.just i).0 m))))),
  );
}

-- Totals of rows.
pub flagged_push : (rows : List Row) (at n : ℕ) → flagged (rows ++ (at, n ∷ []) ∷ []) ≡ flagged rows ++ cond (n == 1) ((at, n ∷ []) ∷ []) []
flagged_push rows at n = filter-append (λ (r : Row). get_or r.1 0 0 == 1) rows ((at, n ∷ []) ∷ [])

pub bytes_push : (ms : List Member) (rows : List Row) (at : ℕ) (ns : List ℕ) → bytes_of ms (rows ++ (at, ns) ∷ []) ≡ bytes_of ms rows + get_or (map (λ m. m.size) ms) at 0
bytes_push ms rows at ns =
    sum_by-append (λ (r : Row). get_or (map (λ (m : Member). m.size) ms) r.0 0) rows ((at, ns) ∷ [])
    ∙ ap (λ k. bytes_of ms rows + k) (sum_by-cons (λ (r : Row). get_or (map (λ (m : Member). m.size) ms) r.0 0) (at, ns) [] ∙ omega arith)

-- a member has fewer than 2 ^ 36 bytes
pub small_size : (ms : List Member) (at : ℕ) (m : Member) → AllByRecursion IsSmallMember ms → at < length ms → m ≡ get_or ms at m → m.size < 2 ^ 36
small_size [] at m h within is = absurd (omega (arith, within))
small_size (k ∷ ms) zero m h within is = omega (arith, h.0.size, ap (λ (x : Member). x.size) is)
small_size (k ∷ ms) (suc at) m h within is = small_size ms at m h.1 (omega (arith, within)) is

pub size_read : (ms : List Member) (at : ℕ) (m : Member) → at < length ms → m ≡ get_or ms at m → get_or (map (λ (k : Member). k.size) ms) at 0 ≡ m.size
size_read ms at m within is = get_or-map (λ (k : Member). k.size) ms at m 0 within ∙ ap (λ (k : Member). k.size) (sym is)

-- The rows so far, and their counts.
abbrev pub GoneRows : List Bool → List Bool → ℕ → List ℕ → Type 0
GoneRows gone dead m ns = Marks gone m × (ns ≡ flags_of dead m)

pub record CountsGone (ms : List Member) (gone dead : List Bool) (at : ℕ) (old new : List ℕ) (t : Totals) : Type 0 where
  pub below : RowsBelow (GoneRows gone dead) (codes "gone") at old new
  pub members : t.members ≡ length below.rows
  pub bytes : t.bytes ≡ bytes_of ms below.rows
  pub dead_members : t.dead ≡ length (flagged below.rows)
  pub dead_bytes : t.dead_bytes ≡ bytes_of ms (flagged below.rows)
  pub few : t.members ≤ at
  pub few_bytes : t.bytes ≤ at * 68719476736
  pub few_dead : t.dead ≤ at
  pub few_dead_bytes : t.dead_bytes ≤ at * 68719476736

module _ (ms : List Member) (gone dead : List Bool) where
  pub gone_first : (old : List ℕ) → CountsGone ms gone dead 0 old old (totals_from 0 0 0 0)
  unfolding rows_first
  gone_first old = record {
    below = rows_first (GoneRows gone dead) (codes "gone") old;
    members = refl;
    bytes = refl;
    dead_members = refl;
    dead_bytes = refl;
    few = omega arith;
    few_bytes = omega arith;
    few_dead = omega arith;
    few_dead_bytes = omega arith;
  }

  pub gone_skip : (at : ℕ) (old new : List ℕ) (t : Totals) → get_or gone at false ≡ false → CountsGone ms gone dead at old new t → CountsGone ms gone dead (at + 1) old new t
  unfolding rows_skip
  gone_skip at old new t off h = record {
    below = rows_skip (GoneRows gone dead) (codes "gone") at old new (λ ns p. clash off (is_of_marks gone at p.0)) h.below;
    members = h.members;
    bytes = h.bytes;
    dead_members = h.dead_members;
    dead_bytes = h.dead_bytes;
    few = omega (arith, h.few);
    few_bytes = omega (arith, h.few_bytes);
    few_dead = omega (arith, h.few_dead);
    few_dead_bytes = omega (arith, h.few_dead_bytes);
  }
    where
      clash : {c : Bool} → c ≡ false → c ≡ true → ⊥
      clash p q = absurd (cc)

  pub gone_push : (at : ℕ) (old mid new : List ℕ) (t : Totals) (by_count : Bool) (size : ℕ) → get_or gone at false ≡ true → get_or dead at false ≡ by_count
      → get_or (map (λ (m : Member). m.size) ms) at 0 ≡ size → size < 2 ^ 36
      → new ≡ mid ++ line (codes "gone") (at ∷ cond by_count 1 0 ∷ []) → CountsGone ms gone dead at old mid t
      → CountsGone ms gone dead (at + 1) old new (totals_from (t.members + 1) (t.bytes + size) (t.dead + cond by_count 1 0) (t.dead_bytes + cond by_count size 0))
  unfolding rows_push
  gone_push at old mid new t by_count size on flag is small put h = record {
    below = rows_push (GoneRows gone dead) (codes "gone") at old mid new (cond by_count 1 0 ∷ []) (marks_of_is gone at on, here) (λ ks p. p.1 ∙ sym here) put h.below;
    members = omega (arith, h.members, length-append h.below.rows ((at, cond by_count 1 0 ∷ []) ∷ []));
    bytes = omega (arith, h.bytes, bytes_push ms h.below.rows at (cond by_count 1 0 ∷ []), is);
    dead_members = dead_count;
    dead_bytes = dead_sum;
    few = omega (arith, h.few);
    few_bytes = omega (arith, h.few_bytes, small);
    few_dead = at_most by_count;
    few_dead_bytes = at_most_bytes by_count;
  }
    where
      here : cond by_count 1 0 ∷ [] ≡ flags_of dead at
      here = ap (λ b. (cond {A = ℕ} b 1 0) ∷ []) (sym flag)

      dead_count : t.dead + cond by_count 1 0 ≡ length (flagged (h.below.rows ++ (at, cond by_count 1 0 ∷ []) ∷ []))
      dead_count = by by_count
        where
          by : (b : Bool) → t.dead + cond b 1 0 ≡ length (flagged (h.below.rows ++ (at, cond b 1 0 ∷ []) ∷ []))
          by true = omega (arith, h.dead_members, ap (λ (rs : List Row). length rs) (flagged_push h.below.rows at 1), length-append (flagged h.below.rows) ((at, 1 ∷ []) ∷ []))
          by false = omega (arith, h.dead_members, ap (λ (rs : List Row). length rs) (flagged_push h.below.rows at 0), length-append {A = Row} (flagged h.below.rows) [])

      dead_sum : t.dead_bytes + cond by_count size 0 ≡ bytes_of ms (flagged (h.below.rows ++ (at, cond by_count 1 0 ∷ []) ∷ []))
      dead_sum = by by_count
        where
          by : (b : Bool) → t.dead_bytes + cond b size 0 ≡ bytes_of ms (flagged (h.below.rows ++ (at, cond b 1 0 ∷ []) ∷ []))
          by true = omega (arith, h.dead_bytes, ap (bytes_of ms) (flagged_push h.below.rows at 1), bytes_push ms (flagged h.below.rows) at (1 ∷ []), is)
          by false = omega (arith, h.dead_bytes, ap (bytes_of ms) (flagged_push h.below.rows at 0), ap (bytes_of ms) (append-nil (flagged h.below.rows)))

      at_most : (b : Bool) → t.dead + cond b 1 0 ≤ at + 1
      at_most true = omega (arith, h.few_dead)
      at_most false = omega (arith, h.few_dead)

      at_most_bytes : (b : Bool) → t.dead_bytes + cond b size 0 ≤ (at + 1) * 68719476736
      at_most_bytes true = omega (arith, h.few_dead_bytes, small)
      at_most_bytes false = omega (arith, h.few_dead_bytes)

  pub gone_all : (at : ℕ) (old new : List ℕ) (t : Totals) → length gone ≤ at → CountsGone ms gone dead at old new t → AppendsGone ms gone dead old new t
  unfolding rows_all
  gone_all at old new t end h =
      let all = rows_all (GoneRows gone dead) (codes "gone") at old new (λ m ns p. omega (arith, slice_get_within gone m true p.0, end)) h.below in
      record { rows = all.rows; tells = all.tells; text = all.text; totals = four h.members h.bytes h.dead_members h.dead_bytes }
    where
      four : {a b c d a' b' c' d' : ℕ} → a ≡ a' → b ≡ b' → c ≡ c' → d ≡ d' → a ∷ b ∷ c ∷ d ∷ [] ≡ a' ∷ b' ∷ c' ∷ d' ∷ []
      four p q r s = cc
