-- A plain search that computes what paths by rows lead to, ended when one more step finds nothing.
use Rattle.std.proofs.Common.{◌≡◌, sym, ◌∙◌, ap, subst, ℕ, zero, suc, Bool, true, ◌&&◌, ◌||◌, List, [], length}
use Rattle.std.specs.Prelude.{◌↔◌}
use Rattle.std.proofs.lemmas.Option.{slice_get_within}
use Rattle.cg_graph.specs.Member.{includes}
use Rattle.cg_graph.proofs.Members.{either, true_or, true_and, or_left, or_right, Includes-of, includes-of}
use Rattle.cg_search.specs.Places.{Marks, is_marked, Leads, begins, follows}
use Rattle.cg_search.specs.Counts.{targets_from}
use Rattle.cg_search.proofs.Edges.{marks_of_is, is_of_marks}
use Rattle.cg_heap_rows.proofs.Tables.{marks_to, passes, marks_of, length-marks_to, target_out, target_in}
use Rattle.cg_snapshot.proofs.Machine.{are_true}

module _ (starts allowed : List Bool) (rows : List (List ℕ)) where
  -- allowed, and a start or a target of a found one
  abbrev pub is_next : List Bool → ℕ → Bool
  is_next found i = is_marked allowed i && (is_marked starts i || includes (targets_from found rows) i)

  abbrev pub step : List Bool → List Bool
  step found = marks_to (length allowed) (is_next found)

  -- what this many steps find
  abbrev pub found_in : ℕ → List Bool
  found_in zero = []
  found_in (suc k) = step (found_in k)

  pub leads_found : (k : ℕ) (i : ℕ) → Marks (found_in k) i → Leads starts allowed rows i
  leads_found zero i m = absurd (cc)
  leads_found (suc k) i m =
      let parts = true_and (is_marked allowed i) (is_marked starts i || includes (targets_from (found_in k) rows) i) (passes (length allowed) (is_next (found_in k)) i m) in
      let allows = marks_of_is allowed i parts.0 in
      either (true_or (is_marked starts i) (includes (targets_from (found_in k) rows) i) parts.1)
      (λ s. begins i (marks_of_is starts i s) allows)
      (λ t. let from = target_out (found_in k) rows i (Includes-of (targets_from (found_in k) rows) i t) in follows from.0 i from.1 (leads_found k from.0 from.2) from.3 from.4 allows)

  module _ (found : List Bool) (settled : step found ≡ found) where
    goes_in : (i : ℕ) → Marks allowed i → (is_marked starts i || includes (targets_from found rows) i) ≡ true → Marks found i
    goes_in i a e =
        subst (λ (bs : List Bool). Marks bs i) settled
        (marks_of (length allowed) (is_next found) i (slice_get_within allowed i true a) (are_true (is_marked allowed i) (is_marked starts i
        || includes (targets_from found rows) i) (is_of_marks allowed i a) e))

    pub found_leads : (i : ℕ) → Leads starts allowed rows i → Marks found i
    found_leads _ (begins i s a) = goes_in i a (or_left (is_marked starts i) (includes (targets_from found rows) i) (is_of_marks starts i s))
    found_leads _ (follows i j row l at h a) = goes_in j a (or_right (is_marked starts j) (includes (targets_from found rows) j)
        (includes-of (targets_from found rows) j (target_in found rows i row j (found_leads i l) at h)))

    pub found_long : length found ≡ length allowed
    found_long = ap (λ (bs : List Bool). length bs) (sym settled) ∙ length-marks_to (length allowed) (is_next found)

  -- everything found, if one more step finds nothing
  pub led : (k : ℕ) → step (found_in k) ≡ found_in k → (i : ℕ) → Marks (found_in k) i ↔ Leads starts allowed rows i
  led k settled i = (leads_found k i, found_leads (found_in k) settled i)
