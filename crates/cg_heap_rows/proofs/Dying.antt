-- A plain search for what dies by count, ended when one more step finds nothing.
use Rattle.std.proofs.Common.{◌≡◌, sym, ◌∙◌, ap, subst, ℕ, zero, suc, ◌<◌, nat_lt, Bool, true, ◌&&◌, ◌||◌, List, [], length, arith}
use Rattle.std.specs.Prelude.{◌==◌}
use Rattle.std.proofs.lemmas.Bool.{cases_lt, eqb-true, eq-eqb, ltb-true, lt-ltb}
use Rattle.std.proofs.lemmas.List.{length-map}
use Rattle.std.proofs.lemmas.Option.{slice_get_within}
use Rattle.cg_graph.specs.Holdings.{occurrences}
use Rattle.cg_graph.proofs.Members.{either, true_or, true_and, or_left, or_right}
use Rattle.cg_search.specs.Places.{Marks, is_marked}
use Rattle.cg_search.specs.Counts.{targets_from}
use Rattle.cg_search.proofs.Edges.{marks_of_is, is_of_marks}
use Rattle.cg_snapshot.specs.declared.heap.Member.{Member}
use Rattle.cg_snapshot.proofs.Machine.{are_true}
use Rattle.cg_ask.specs.Asked.{rows_of, degree_at}
use Rattle.cg_ask.specs.Dying.{IsClosed, Dies}
use Rattle.cg_ask.specs.Faults.{AreRight}
use Rattle.cg_ask.specs.Marked.{MarkJust}
use Rattle.cg_ask.proofs.Counting.{targets_few, targets_mono, no_degree}
use Rattle.cg_ask.proofs.FaultsOfHeaps.{covered_all}
use Rattle.cg_heap_rows.proofs.Tables.{marks_to, passes, marks_of, length-marks_to}

module _ (ms : List Member) (given : List Bool) where
  -- its in-degree, above 0, is the number of its occurrences among the references of the dead
  abbrev pub loses_all : List Bool → ℕ → Bool
  loses_all dead i = nat_lt 0 (degree_at ms i) && (occurrences i (targets_from dead (rows_of ms)) == degree_at ms i)

  abbrev pub is_dying : List Bool → ℕ → Bool
  is_dying dead i = is_marked given i || loses_all dead i

  abbrev pub step : List Bool → List Bool
  step dead = marks_to (length ms) (is_dying dead)

  -- what has died after this many steps
  abbrev pub dead_in : ℕ → List Bool
  dead_in zero = []
  dead_in (suc k) = step (dead_in k)

  module _ (right : AreRight ms true) (long : length given ≡ length ms) where
    in_each : (closed : List Bool) → IsClosed ms (Marks given) closed → (k : ℕ) (i : ℕ) → Marks (dead_in k) i → Marks closed i
    in_each closed c zero i m = absurd (cc)
    in_each closed c (suc k) i m = either (true_or (is_marked given i) (loses_all (dead_in k) i) (passes (length ms) (is_dying (dead_in k)) i m))
        (λ g. c.given i (marks_of_is given i g))
        (λ l.
        let parts = true_and (nat_lt 0 (degree_at ms i)) (occurrences i (targets_from (dead_in k) (rows_of ms)) == degree_at ms i) l in
        let all : occurrences i (targets_from (dead_in k) (rows_of ms)) ≡ degree_at ms i = eqb-true (occurrences i (targets_from (dead_in k) (rows_of ms))) (degree_at ms i) parts.1 in
        let more = targets_mono i (dead_in k) closed (rows_of ms) (c.len ∙ sym (length-map ms (λ (m : Member). m.refs))) (λ j d. in_each closed c k j d) in
        c.dies i (ltb-true 0 (degree_at ms i) parts.0) (omega (arith, all, more, targets_few i closed (rows_of ms), covered_all ms true right i)))

    is_closed : (dead : List Bool) → step dead ≡ dead → IsClosed ms (Marks given) dead
    is_closed dead settled = record {
      len = ap (λ (bs : List Bool). length bs) (sym settled) ∙ length-marks_to (length ms) (is_dying dead);
      given = λ i g. goes_in i (omega (arith, slice_get_within given i true g, long)) (or_left (is_marked given i) (loses_all dead i) (is_of_marks given i g));
      dies = λ i some all. goes_in i (member i some) (or_right (is_marked given i) (loses_all dead i)
          (are_true (nat_lt 0 (degree_at ms i)) (occurrences i (targets_from dead (rows_of ms)) == degree_at ms i) (lt-ltb 0 (degree_at ms i) some)
          (eq-eqb (occurrences i (targets_from dead (rows_of ms))) (degree_at ms i) all)));
    }
      where
        goes_in : (i : ℕ) → i < length ms → is_dying dead i ≡ true → Marks dead i
        goes_in i below e = subst (λ (bs : List Bool). Marks bs i) settled (marks_of (length ms) (is_dying dead) i below e)

        member : (i : ℕ) → 0 < degree_at ms i → i < length ms
        member i some = either (cases_lt i (length ms)) (λ l. l) (λ g. absurd (omega (arith, some, no_degree ms i g)))

    -- everything that dies, if one more step finds nothing
    pub dead_just : (k : ℕ) → step (dead_in k) ≡ dead_in k → MarkJust (length ms) (Dies ms (Marks given)) (dead_in k)
    dead_just k settled =
        let c = is_closed (dead_in k) settled in
        record { len = c.len; just = λ i. (λ m closed d. in_each closed d k i m, λ d. d (dead_in k) c) }
