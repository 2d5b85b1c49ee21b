-- The computed rows of each answer are the ones to print.
use Rattle.std.proofs.Common.{ℕ, zero, suc, ◌-◌, ◌<◌, nat_lt, Bool, true, List, [], ◌∷◌, length, arith, get_or}
use Rattle.std.proofs.lemmas.Bool.{cases_lt, ltb-true, lt-ltb}
use Rattle.std.proofs.lemmas.List.{length-map}
use Rattle.std.proofs.lemmas.Option.{slice_get_within}
use Rattle.cg_graph.specs.Member.{Includes}
use Rattle.cg_graph.specs.Holdings.{occurrences}
use Rattle.cg_graph.proofs.Members.{either}
use Rattle.cg_search.specs.Places.{is_marked}
use Rattle.cg_search.proofs.Edges.{marks_of_is, is_of_marks}
use Rattle.cg_snapshot.specs.declared.heap.Member.{Member}
use Rattle.cg_snapshot.specs.Text.{AreMembers}
use Rattle.cg_ask.specs.Asked.{rows_of, all_words_of, outside_at, times_at, IsLost, IsStuck, IsGone}
use Rattle.cg_ask.specs.Dying.{Dies}
use Rattle.cg_ask.specs.Faults.{AreRight}
use Rattle.cg_ask.specs.Marked.{MarkJust, flags_of}
use Rattle.cg_ask.specs.Answers.{Row, Tells, IsFlag, TellsReferrer, TellsHidden, TellsLost, TellsGone, TellsKept}
use Rattle.cg_ask.proofs.Counting.{no_degree}
use Rattle.cg_ask.proofs.Rows.{tells_same, flag_of, of_flag}
use Rattle.cg_heap_rows.proofs.Tables.{rows_to, tells_to, IsRow}
use Rattle.cg_heap_rows.proofs.Sets.{lost, all_lost_just, stuck, stuck_is, CollectsAll, gone, gone_is, dead, dead_is, DropsAll, kept, kept_is, KeepsAll}

row_within : (rows : List (List ℕ)) (m o : ℕ) → 0 < occurrences o (get_or rows m []) → m < length rows
row_within [] m o h = absurd (omega (arith, h))
row_within (row ∷ rows) zero o h = omega arith
row_within (row ∷ rows) (suc m) o h = omega (arith, row_within rows m o h)

abbrev pub referrer_rows : List Member → ℕ → List Row
referrer_rows ms o = rows_to (length ms) (λ m. nat_lt 0 (times_at ms m o)) (λ m. times_at ms m o ∷ [])

pub tells_referrers : (ms : List Member) (o : ℕ) → Tells (TellsReferrer ms o) (referrer_rows ms o)
tells_referrers ms o =
    tells_same (IsRow (length ms) (λ m. nat_lt 0 (times_at ms m o)) (λ m. times_at ms m o ∷ [])) (TellsReferrer ms o) (referrer_rows ms o)
    (tells_to (λ m. nat_lt 0 (times_at ms m o)) (λ m. times_at ms m o ∷ []) (length ms))
    (λ m ns r. record { some = ltb-true 0 (times_at ms m o) r.passes; numbers = r.numbers })
    (λ m ns t. record { below = omega (arith, row_within (rows_of ms) m o t.some, length-map ms (λ (k : Member). k.refs)); passes = lt-ltb 0 (times_at ms m o) t.some; numbers = t.numbers })

-- the number of outside holds, and how many untold words leave unexplained
abbrev pub hidden_numbers : List Member → ℕ → List ℕ
hidden_numbers ms m = outside_at ms m ∷ (outside_at ms m - occurrences m (all_words_of ms)) ∷ []

abbrev pub hidden_rows : List Member → List Row
hidden_rows ms = rows_to (length ms) (λ m. nat_lt 0 (outside_at ms m)) (hidden_numbers ms)

pub tells_hidden : (ms : List Member) → Tells (TellsHidden ms) (hidden_rows ms)
tells_hidden ms =
    tells_same (IsRow (length ms) (λ m. nat_lt 0 (outside_at ms m)) (hidden_numbers ms)) (TellsHidden ms) (hidden_rows ms)
    (tells_to (λ m. nat_lt 0 (outside_at ms m)) (hidden_numbers ms) (length ms))
    (λ m ns r. record { some = ltb-true 0 (outside_at ms m) r.passes; numbers = r.numbers })
    (λ m ns t. record {
      below = either (cases_lt m (length ms)) (λ l. l) (λ g. absurd (let s = t.some in omega (arith, s, no_degree ms m g)));
      passes = lt-ltb 0 (outside_at ms m) t.some;
      numbers = t.numbers;
    })

-- members of a set, each with whether it is in another
module _ (count : ℕ) (P Q : ℕ → Type 0) (marks others : List Bool) (a : MarkJust count P marks) (b : MarkJust count Q others) where
  tells_flags : (R : ℕ → List ℕ → Type 0) → ((m : ℕ) (ns : List ℕ) → P m → IsFlag (Q m) ns → R m ns) → ((m : ℕ) (ns : List ℕ) → R m ns → P m × IsFlag (Q m) ns)
      → Tells R (rows_to count (is_marked marks) (flags_of others))
  tells_flags R there back =
      tells_same (IsRow count (is_marked marks) (flags_of others)) R (rows_to count (is_marked marks) (flags_of others)) (tells_to (is_marked marks) (flags_of others) count)
      (λ m ns r. there m ns ((a.just m).0 (marks_of_is marks m r.passes)) (flag_of (Q m) others m ns (b.just m) r.numbers))
      (λ m ns t.
      let parts = back m ns t in
      let mark = (a.just m).1 parts.0 in
      record { below = omega (arith, slice_get_within marks m true mark, a.len); passes = is_of_marks marks m mark; numbers = of_flag (Q m) others m ns (b.just m) parts.1 })

abbrev pub lost_rows : List Member → List Row
lost_rows ms = rows_to (length ms) (is_marked (lost ms)) (flags_of (stuck ms))

pub tells_lost : (ms : List Member) → AreRight ms true → CollectsAll ms → Tells (TellsLost ms) (lost_rows ms)
tells_lost ms right c = tells_flags (length ms) (IsLost ms) (IsStuck ms) (lost ms) (stuck ms) (all_lost_just ms c.reaches) (stuck_is ms right c) (TellsLost ms)
    (λ m ns p q. record { lost = p; stuck = q }) (λ m ns t. (t.lost, t.stuck))

abbrev pub gone_rows : List Member → List ℕ → List Row
gone_rows ms places = rows_to (length ms) (is_marked (gone ms places)) (flags_of (dead ms places))

pub tells_gone : (ms : List Member) (places : List ℕ) → AreRight ms true → AreMembers (length ms) places → DropsAll ms places → Tells (TellsGone ms places) (gone_rows ms places)
tells_gone ms places right members d =
    tells_flags (length ms) (IsGone ms places) (Dies ms (Includes places)) (gone ms places) (dead ms places) (gone_is ms places right members d)
    (dead_is ms places right members d) (TellsGone ms places)
    (λ m ns p q. record { gone = p; by_count = q }) (λ m ns t. (t.gone, t.by_count))

abbrev no_numbers : ℕ → List ℕ
no_numbers m = []

abbrev pub kept_rows : List Member → List Row
kept_rows ms = rows_to (length ms) (is_marked (kept ms)) no_numbers

pub tells_kept : (ms : List Member) → KeepsAll ms → Tells (TellsKept ms) (kept_rows ms)
tells_kept ms k =
    let j = kept_is ms k in
    tells_same (IsRow (length ms) (is_marked (kept ms)) no_numbers) (TellsKept ms) (kept_rows ms) (tells_to (is_marked (kept ms)) no_numbers (length ms))
    (λ m ns r. record { kept = (j.just m).0 (marks_of_is (kept ms) m r.passes); numbers = r.numbers })
    (λ m ns t. let mark = (j.just m).1 t.kept in record { below = omega (arith, slice_get_within (kept ms) m true mark, j.len); passes = is_of_marks (kept ms) m mark; numbers = t.numbers })
