-- What the next full collection finds, sets aside and clears.
use Rattle.std.proofs.Common.{◌≡◌, refl, sym, ◌∙◌, ap, subst, ℕ, ◌<◌, Bool, true, List, length, arith, get_or}
use Rattle.std.specs.Prelude.{◌↔◌}
use Rattle.std.proofs.lemmas.Bool.{cases_lt}
use Rattle.std.proofs.lemmas.List.{length-map}
use Rattle.std.proofs.lemmas.Option.{slice_get_within}
use Rattle.cg_graph.specs.Holdings.{occurrences}
use Rattle.cg_graph.proofs.Members.{either}
use Rattle.cg_search.specs.Places.{Marks, Leads}
use Rattle.cg_search.specs.Counts.{targets_from}
use Rattle.cg_snapshot.specs.declared.heap.Member.{Member}
use Rattle.cg_ask.specs.Asked.{rows_of, edges, degrees_of, tracked_of, legacy_of, IsCandidate, IsHeldElsewhere, IsUnreachable, IsCleared, IsLost, IsStuck}
use Rattle.cg_ask.specs.Dying.{Dies}
use Rattle.cg_ask.specs.Marked.{MarkJust}
use Rattle.cg_ask.proofs.Counting.{no_degree}
use Rattle.cg_ask.proofs.DiesByCount.{dead_just}
use Rattle.cg_ask.proofs.Reaching.{found_just}

pub candidates_long : (ms : List Member) (marks : List Bool) → marks ≡ tracked_of ms → length marks ≡ length ms
candidates_long ms marks is = ap (λ (bs : List Bool). length bs) is ∙ length-map ms (λ (m : Member). m.tracked)

pub legacy_long : (ms : List Member) (marks : List Bool) → marks ≡ legacy_of ms → length marks ≡ length ms
legacy_long ms marks is = ap (λ (bs : List Bool). length bs) is ∙ length-map ms (λ (m : Member). m.legacy)

same_marks : (marks others : List Bool) → marks ≡ others → (i : ℕ) → Marks marks i ↔ Marks others i
same_marks marks others is i = (λ m. subst (λ (bs : List Bool). Marks bs i) is m, λ m. subst (λ (bs : List Bool). Marks bs i) (sym is) m)

-- the candidates that the collection does not find reachable
pub unreachable_just : (ms : List Member) (candidates held found lost : List Bool) → candidates ≡ tracked_of ms → MarkJust (length ms) (IsHeldElsewhere ms) held
    → length found ≡ length candidates → ((i : ℕ) → Marks found i ↔ Leads held candidates (rows_of ms) i)
    → MarkJust (length candidates) (λ i. Marks candidates i × ¬ Marks found i) lost → MarkJust (length ms) (IsUnreachable ms) lost
unreachable_just ms candidates held found lost is h len led l =
    let f = found_just ms (rows_of ms) held candidates found (IsHeldElsewhere ms) (IsCandidate ms) h.just (same_marks candidates (tracked_of ms) is)
    (len ∙ candidates_long ms candidates is) led (edges ms) refl in
    record {
      len = l.len ∙ candidates_long ms candidates is;
      just = λ i. (
        λ m. let p = (l.just i).0 m in record { member = (same_marks candidates (tracked_of ms) is i).0 p.0; no_path = λ r. p.1 ((f.just i).1 r) },
        λ u. (l.just i).1 ((same_marks candidates (tracked_of ms) is i).1 u.member, λ m. u.no_path ((f.just i).0 m)),
      );
    }

-- those not set aside
pub cleared_just : (ms : List Member) (lost marks aside cleared : List Bool) → MarkJust (length ms) (IsUnreachable ms) lost → marks ≡ legacy_of ms
    → length aside ≡ length lost → ((i : ℕ) → Marks aside i ↔ Leads marks lost (rows_of ms) i)
    → MarkJust (length lost) (λ i. Marks lost i × ¬ Marks aside i) cleared → MarkJust (length ms) (IsCleared ms) cleared
cleared_just ms lost marks aside cleared l is len led k =
    let a = found_just ms (rows_of ms) marks lost aside (Marks (legacy_of ms)) (IsUnreachable ms) (same_marks marks (legacy_of ms) is) l.just (len ∙ l.len) led (edges ms) refl in
    record {
      len = k.len ∙ l.len;
      just = λ i. (
        λ m. let p = (k.just i).0 m in record { unreachable = (l.just i).0 p.0; not_aside = λ r. p.1 ((a.just i).1 r) },
        λ c. (k.just i).1 ((l.just i).1 c.unreachable, λ m. c.not_aside ((a.just i).0 m)),
      );
    }

-- those lost that do not die of that
pub stuck_just : (ms : List Member) (lost cleared dead stuck : List Bool) → MarkJust (length ms) (IsLost ms) lost → MarkJust (length ms) (IsCleared ms) cleared
    → MarkJust (length ms) (Dies ms (Marks cleared)) dead → MarkJust (length lost) (λ i. Marks lost i × ¬ Marks dead i) stuck
    → MarkJust (length ms) (IsStuck ms) stuck
stuck_just ms lost cleared dead stuck l c d s =
    let die = dead_just ms cleared dead (IsCleared ms) c d in
    record {
      len = s.len ∙ l.len;
      just = λ i. (
        λ m. let p = (s.just i).0 m in record { lost = (l.just i).0 p.0; stays = λ k. p.1 ((die.just i).1 k) },
        λ k. (s.just i).1 ((l.just i).1 k.lost, λ m. k.stays ((die.just i).0 m)),
      );
    }

-- those with more references than candidates have to them
pub elsewhere_just : (ms : List Member) (counts degrees : List ℕ) (held : List Bool) → length counts ≡ length ms → ((i : ℕ) → i < length ms → get_or counts i 0
    ≡ occurrences i (targets_from (tracked_of ms) (rows_of ms))) → degrees ≡ degrees_of ms
    → MarkJust (length counts) (λ i. get_or counts i 0 < get_or degrees i 0) held → MarkJust (length ms) (IsHeldElsewhere ms) held
elsewhere_just ms counts degrees held long each is h = record {
  len = h.len ∙ long;
  just = λ i. (
    λ m. let below : i < length ms = omega (arith, slice_get_within held i true m, h.len, long) in let less = (h.just i).0 m
        in omega (arith, less, each i below, ap (λ (ns : List ℕ). get_or ns i 0) is),
    λ p. let below = within i p in (h.just i).1 (omega (arith, p, each i below, ap (λ (ns : List ℕ). get_or ns i 0) is)),
  );
}
  where
    within : (i : ℕ) → IsHeldElsewhere ms i → i < length ms
    within i p = either (cases_lt i (length ms)) (λ l. l) (λ g. absurd (omega (arith, p, no_degree ms i g)))
