-- Rows that list exactly what is to be printed, one by one.
use Rattle.std.proofs.Common.{◌≡◌, refl, sym, ◌∙◌, ap, subst, ℕ, ◌+◌, ◌<◌, ◌≤◌, Bool, true, false, cond, ◌⊎◌, inl, inr, List, [], ◌∷◌, ◌++◌, length, take, arith, get_or, append_assoc, append-nil, take_all}
use Rattle.std.specs.Prelude.{◌↔◌, flat_map, codes}
use Rattle.std.proofs.lemmas.Bool.{cases_eq}
use Rattle.std.proofs.lemmas.List.{take_more}
use Rattle.std.proofs.lemmas.Option.{slice_get_within}
use Rattle.std.proofs.lemmas.Grind.{flat_map-append}
use Rattle.cg_graph.specs.Member.{Includes}
use Rattle.cg_graph.proofs.Members.{either, Includes-append_left, Includes-append_right, Includes-append_cases, cases_of}
use Rattle.cg_search.specs.Places.{Marks, is_marked}
use Rattle.cg_search.proofs.Edges.{marks_of_is, is_of_marks}
use Rattle.cg_snapshot.specs.Rows.{spaced, all_spaced}
use Rattle.cg_ask.specs.Answers.{Row, Rise, Tells, IsFlag, yes, no, row_line, rows_text, line}
use Rattle.cg_ask.specs.Marked.{AppendsRows, MarkJust, flags_of}

-- The rows of the members below a place.
pub record RowsBelow (P : ℕ → List ℕ → Type 0) (word : List ℕ) (at : ℕ) (old new : List ℕ) : Type 0 where
  pub rows : List Row
  pub rise : Rise rows
  pub below : (r : Row) → Includes rows r → r.0 < at
  pub told : (r : Row) → Includes rows r → P r.0 r.1
  pub all : (m : ℕ) (ns : List ℕ) → m < at → P m ns → Includes rows (m, ns)
  pub text : new ≡ old ++ rows_text word rows

pub rise_push : (rows : List Row) (s : Row) → Rise rows → ((r : Row) → Includes rows r → r.0 < s.0) → Rise (rows ++ s ∷ [])
rise_push [] s h below = (λ r m. absurd m, tt)
rise_push (r ∷ rows) s h below = (
  λ t m. either (Includes-append_cases rows (s ∷ []) t m) (λ k. h.0 t k)
      (λ k. either k (λ e. subst (λ (u : Row). r.0 < u.0) e (below r (inl refl))) (λ f. absurd f)),
  rise_push rows s h.1 (λ t m. below t (inr m)),
)

module _ (P : ℕ → List ℕ → Type 0) (word : List ℕ) where
  unfoldable pub rows_first : (old : List ℕ) → RowsBelow P word 0 old old
  rows_first old = record { rows = []; rise = tt; below = λ r m. absurd m; told = λ r m. absurd m; all = λ m ns low p. absurd (omega (arith, low)); text = sym (append-nil old) }

  -- a member with something to print
  unfoldable pub rows_push : (at : ℕ) (old mid new ns : List ℕ) → P at ns → ((ms : List ℕ) → P at ms → ms ≡ ns) → new ≡ mid ++ line word (at ∷ ns)
      → RowsBelow P word at old mid → RowsBelow P word (at + 1) old new
  rows_push at old mid new ns is one put h = record {
    rows = h.rows ++ (at, ns) ∷ [];
    rise = rise_push h.rows (at, ns) h.rise h.below;
    below = λ r m. either (parts r m) (λ k. omega (arith, h.below r k)) (λ e. omega (arith, ap (λ (s : Row). s.0) e));
    told = λ r m. either (parts r m) (λ k. h.told r k) (λ e. subst (λ (s : Row). P s.0 s.1) e is);
    all = λ m ms low p. either (cases_eq m at)
        (λ e. Includes-append_right h.rows ((at, ns) ∷ []) (m, ms) (inl (same m ms e (one ms (subst (λ k. P k ms) e p)))))
        (λ n. Includes-append_left h.rows ((at, ns) ∷ []) (m, ms) (h.all m ms (omega (arith, low, n)) p));
    text = put ∙ ap (λ t. t ++ line word (at ∷ ns)) h.text ∙ append_assoc old (rows_text word h.rows) (line word (at ∷ ns))
        ∙ ap (λ t. old ++ t) (sym (flat_map-append (row_line word) h.rows ((at, ns) ∷ []) ∙ ap (λ t. rows_text word h.rows ++ t) (append-nil (line word (at ∷ ns)))));
  }
    where
      parts : (r : Row) → Includes (h.rows ++ (at, ns) ∷ []) r → Includes h.rows r ⊎ ((at, ns) ≡ r)
      parts r m = either (Includes-append_cases h.rows ((at, ns) ∷ []) r m) (λ k. inl k) (λ k. either k (λ e. inr e) (λ f. absurd f))

      same : (m : ℕ) (ms : List ℕ) → m ≡ at → ms ≡ ns → ◌≡◌ {A = Row} (at, ns) (m, ms)
      same m ms e f = ap (λ k. (k, ns)) (sym e) ∙ ap (λ (ks : List ℕ). (m, ks)) (sym f)

  -- a member with nothing to print
  unfoldable pub rows_skip : (at : ℕ) (old new : List ℕ) → ((ns : List ℕ) → ¬ P at ns) → RowsBelow P word at old new → RowsBelow P word (at + 1) old new
  rows_skip at old new none h = record {
    rows = h.rows;
    rise = h.rise;
    below = λ r m. omega (arith, h.below r m);
    told = h.told;
    all = λ m ms low p. either (cases_eq m at) (λ e. absurd (none ms (subst (λ k. P k ms) e p))) (λ n. h.all m ms (omega (arith, low, n)) p);
    text = h.text;
  }

  -- all members
  unfoldable pub rows_all : (at : ℕ) (old new : List ℕ) → ((m : ℕ) (ns : List ℕ) → P m ns → m < at) → RowsBelow P word at old new → AppendsRows P word old new
  rows_all at old new within h = record {
    rows = h.rows;
    tells = record { rise = h.rise; just = λ m ns. (λ k. h.told (m, ns) k, λ p. h.all m ns (within m ns p) p) };
    text = h.text;
  }

-- equal properties give the same rows
pub tells_same : (P Q : ℕ → List ℕ → Type 0) (rows : List Row) → Tells P rows → ((m : ℕ) (ns : List ℕ) → P m ns → Q m ns) → ((m : ℕ) (ns : List ℕ) → Q m ns → P m ns) → Tells Q rows
tells_same P Q rows h there back = record { rise = h.rise; just = λ m ns. (λ k. there m ns ((h.just m ns).0 k), λ q. (h.just m ns).1 (back m ns q)) }

pub appends_same : (P Q : ℕ → List ℕ → Type 0) (word old new : List ℕ) → AppendsRows P word old new → ((m : ℕ) (ns : List ℕ) → P m ns → Q m ns)
    → ((m : ℕ) (ns : List ℕ) → Q m ns → P m ns) → AppendsRows Q word old new
appends_same P Q word old new h there back = record { rows = h.rows; tells = tells_same P Q h.rows h.tells there back; text = h.text }

-- the number of a mark is that of its set
pub flag_of : (P : Type 0) (marks : List Bool) (i : ℕ) (ns : List ℕ) → (Marks marks i ↔ P) → ns ≡ flags_of marks i → IsFlag P ns
flag_of P marks i ns just is = by (is_marked marks i) refl
  where
    by : (b : Bool) → is_marked marks i ≡ b → IsFlag P ns
    by true e = subst (λ (ks : List ℕ). IsFlag P ks) (sym (is ∙ ap (λ b. (cond {A = ℕ} b 1 0) ∷ []) e)) (yes (just.0 (marks_of_is marks i e)))
    by false e = subst (λ (ks : List ℕ). IsFlag P ks) (sym (is ∙ ap (λ b. (cond {A = ℕ} b 1 0) ∷ []) e)) (no (λ p. clash e (is_of_marks marks i (just.1 p))))
      where
        clash : {c : Bool} → c ≡ false → c ≡ true → ⊥
        clash p q = absurd (cc)

pub of_flag : (P : Type 0) (marks : List Bool) (i : ℕ) (ns : List ℕ) → (Marks marks i ↔ P) → IsFlag P ns → ns ≡ flags_of marks i
of_flag P marks i _ just (yes p) = sym (ap (λ b. (cond {A = ℕ} b 1 0) ∷ []) (is_of_marks marks i (just.1 p)))
of_flag P marks i _ just (no n) = either (cases_of (is_marked marks i))
    (λ e. absurd (n (just.0 (marks_of_is marks i e))))
    (λ e. sym (ap (λ b. (cond {A = ℕ} b 1 0) ∷ []) e))

-- marked members, with another mark: lost and stuck, gone and dead
pub flagged_same : (count : ℕ) (P Q : ℕ → Type 0) (marks others : List Bool) (word old new : List ℕ) (R : ℕ → List ℕ → Type 0) → MarkJust count P marks
    → MarkJust count Q others → ((m : ℕ) (ns : List ℕ) → P m → IsFlag (Q m) ns → R m ns) → ((m : ℕ) (ns : List ℕ) → R m ns → P m × IsFlag (Q m) ns)
    → AppendsRows (λ m ns. Marks marks m × (ns ≡ flags_of others m)) word old new → AppendsRows R word old new
flagged_same count P Q marks others word old new R a b there back h =
    appends_same (λ m ns. Marks marks m × (ns ≡ flags_of others m)) R word old new h
    (λ m ns p. there m ns ((a.just m).0 p.0) (flag_of (Q m) others m ns (b.just m) p.1))
    (λ m ns r. let q = back m ns r in ((a.just m).1 q.0, of_flag (Q m) others m ns (b.just m) q.1))

-- The numbers of a line, one by one.
pub line_first : (old new word ns : List ℕ) → new ≡ old ++ word → new ≡ old ++ (word ++ all_spaced (take 0 ns))
line_first old new word ns is = is ∙ ap (λ t. old ++ t) (sym (append-nil word))

spaced_next : (ns : List ℕ) (k : ℕ) → k < length ns → all_spaced (take (k + 1) ns) ≡ all_spaced (take k ns) ++ spaced (get_or ns k 0)
spaced_next ns k within = ap all_spaced (take_more ns k 0 within) ∙ flat_map-append spaced (take k ns) (get_or ns k 0 ∷ [])
    ∙ ap (λ t. all_spaced (take k ns) ++ t) (append-nil (spaced (get_or ns k 0)))

pub line_next : (old mid new word ns : List ℕ) (k : ℕ) → k < length ns → mid ≡ old ++ (word ++ all_spaced (take k ns)) → new ≡ mid ++ spaced (get_or ns k 0)
    → new ≡ old ++ (word ++ all_spaced (take (k + 1) ns))
line_next old mid new word ns k within so more =
    more ∙ ap (λ t. t ++ spaced (get_or ns k 0)) so ∙ append_assoc old (word ++ all_spaced (take k ns)) (spaced (get_or ns k 0))
    ∙ ap (λ t. old ++ t) (append_assoc word (all_spaced (take k ns)) (spaced (get_or ns k 0)) ∙ ap (λ t. word ++ t) (sym (spaced_next ns k within)))

pub line_end : (old mid new word ns : List ℕ) (k : ℕ) → length ns ≤ k → mid ≡ old ++ (word ++ all_spaced (take k ns)) → new ≡ mid ++ 10 ∷ [] → new ≡ old ++ line word ns
line_end old mid new word ns k end so more =
    more ∙ ap (λ t. t ++ 10 ∷ []) so ∙ append_assoc old (word ++ all_spaced (take k ns)) (10 ∷ []) ∙ ap (λ ks. old ++ ((word ++ all_spaced ks) ++ 10 ∷ [])) (take_all k ns end)

shut_mark : {b : Bool} → b ≡ false → b ≡ true → ⊥
shut_mark p q = absurd (cc)

-- a row of a marked place
pub marked_push : (marks : List Bool) (word : List ℕ) (at : ℕ) (old mid new : List ℕ) → get_or marks at false ≡ true → new ≡ mid ++ line word (at ∷ [])
    → RowsBelow (λ m ns. Marks marks m × (ns ≡ [])) word at old mid → RowsBelow (λ m ns. Marks marks m × (ns ≡ [])) word (at + 1) old new
marked_push marks word at old mid new on put h = rows_push (λ m ns. Marks marks m × (ns ≡ [])) word at old mid new [] (marks_of_is marks at on, refl) (λ ms p. p.1) put h

pub marked_skip : (marks : List Bool) (word : List ℕ) (at : ℕ) (old new : List ℕ) → get_or marks at false ≡ false → RowsBelow (λ m ns. Marks marks m
    × (ns ≡ [])) word at old new → RowsBelow (λ m ns. Marks marks m × (ns ≡ [])) word (at + 1) old new
marked_skip marks word at old new off h = rows_skip (λ m ns. Marks marks m × (ns ≡ [])) word at old new (λ ns p. shut_mark off (is_of_marks marks at p.0)) h

pub marked_all : (marks : List Bool) (word : List ℕ) (at : ℕ) (old new : List ℕ) → length marks ≤ at → RowsBelow (λ m ns. Marks marks m × (ns ≡ [])) word at old
    new → AppendsRows (λ m ns. Marks marks m × (ns ≡ [])) word old new
marked_all marks word at old new end h = rows_all (λ m ns. Marks marks m × (ns ≡ [])) word at old new (λ m ns p. omega (arith, slice_get_within marks m true p.0, end)) h

-- the same with its flag
pub flagged_row_push : (marks others : List Bool) (word : List ℕ) (at number : ℕ) (old mid new : List ℕ) → get_or marks at false ≡ true → number
    ≡ cond (get_or others at false) 1 0 → new ≡ mid ++ line word (at ∷ number ∷ []) → RowsBelow (λ m ns. Marks marks m × (ns ≡ flags_of others m)) word at old
    mid
    → RowsBelow (λ m ns. Marks marks m × (ns ≡ flags_of others m)) word (at + 1) old new
flagged_row_push marks others word at number old mid new on is put h =
    rows_push (λ m ns. Marks marks m × (ns ≡ flags_of others m)) word at old mid new (number ∷ []) (marks_of_is marks at on, ap (λ n. n ∷ []) is) (λ ms p. p.1 ∙ ap (λ n. n ∷ []) (sym is)) put h

pub flagged_row_skip : (marks others : List Bool) (word : List ℕ) (at : ℕ) (old new : List ℕ) → get_or marks at false ≡ false → RowsBelow (λ m ns. Marks marks m
    × (ns ≡ flags_of others m)) word at old new → RowsBelow (λ m ns. Marks marks m × (ns ≡ flags_of others m)) word (at + 1) old new
flagged_row_skip marks others word at old new off h = rows_skip (λ m ns. Marks marks m × (ns ≡ flags_of others m)) word at old new (λ ns p. shut_mark off (is_of_marks marks at p.0)) h

pub flagged_row_all : (marks others : List Bool) (word : List ℕ) (at : ℕ) (old new : List ℕ) → length marks ≤ at → RowsBelow (λ m ns. Marks marks m
    × (ns ≡ flags_of others m)) word at old new → AppendsRows (λ m ns. Marks marks m × (ns ≡ flags_of others m)) word old new
flagged_row_all marks others word at old new end h = rows_all (λ m ns. Marks marks m × (ns ≡ flags_of others m)) word at old new (λ m ns p. omega (arith, slice_get_within marks m true p.0, end)) h

-- The lines of a path, one by one.
abbrev via : ℕ → List ℕ
via o = line (codes "via") (o ∷ [])

pub via_first : (old path : List ℕ) → old ≡ old ++ flat_map (λ o. line (codes "via") (o ∷ [])) (take 0 path)
via_first old path = sym (append-nil old)

pub via_next : (old mid new path : List ℕ) (k : ℕ) → k < length path → mid ≡ old ++ flat_map (λ o. line (codes "via") (o ∷ [])) (take k path) → new ≡ mid
    ++ line (codes "via") (get_or path k 0 ∷ []) → new ≡ old ++ flat_map (λ o. line (codes "via") (o ∷ [])) (take (k + 1) path)
via_next old mid new path k within so put =
    put ∙ ap (λ t. t ++ via (get_or path k 0)) so ∙ append_assoc old (flat_map via (take k path)) (via (get_or path k 0))
    ∙ ap (λ t. old ++ t) (sym (ap (flat_map via) (take_more path k 0 within) ∙ flat_map-append via (take k path) (get_or path k 0 ∷ [])
    ∙ ap (λ t. flat_map via (take k path) ++ t) (append-nil (via (get_or path k 0)))))

pub via_all : (old new path : List ℕ) (k : ℕ) → length path ≤ k → new ≡ old ++ flat_map (λ o. line (codes "via") (o ∷ [])) (take k path) → new ≡ old ++ flat_map (λ o. line (codes "via") (o ∷ [])) path
via_all old new path k end so = so ∙ ap (λ ps. old ++ flat_map via ps) (take_all k path end)
