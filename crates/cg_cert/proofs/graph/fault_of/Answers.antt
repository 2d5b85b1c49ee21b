use Rattle.std.proofs.Common.{sym, ◌∙◌, subst, List, ℕ, true, ◌≡◌}
use Rattle.std.specs.Prelude.{◌↔◌}
use Rattle.cg_records.specs.declared.graph.Member.{Member}
use Rattle.cg_cert.specs.Judged.{misnamed, CoversReferences}
use Rattle.cg_cert.specs.Positions.{rows_in, CountTargets, CountReferences}
use Rattle.cg_cert.proofs.NamesAndPositions.{if_none, if_some}
use Rattle.cg_cert.proofs.GraphsByPositions.{counts_of, fault_of_degrees, fault_of_lost, fault_of_legacy, right_of, differs}
use Rattle.cg_cert.proofs.graph.fault_of.Goals as goal
use Rattle.cg_cert.proofs.graph.fault_of.Goals.{else-is_first-via-then-is_first+in_ok-finds_set_aside+else-not-branch-2, else-is_first-via-else-is_first}

pub returns-in_default-clause-fault : goal.returns-in_default-clause-fault
returns-in_default-clause-fault c = misnamed (if_none _ _ c.in_default.is c.in_ok-located.ensures.none)

pub cover-requires : goal.cover-requires
cover-requires c =
    let counted = counts_of c.args.graph.now c.in-Some.located (if_some _ _ _ c.in-Some.is c.in_ok-located.ensures.found) c.deref.result.now
    c.deref-2.result.now c.deref.ensures.value (subst (λ (ns : List ℕ). CountTargets (rows_in c.deref.result.now) ns) (sym c.deref-2.ensures.value)
    c.in_ok-counts.ensures) in
    subst (λ (ms : List Member). CountReferences ms c.deref-2.result.now) (sym c.as_slice.ensures) counted

pub returns-then-not-cover-clause-fault : goal.returns-then-not-cover-clause-fault
returns-then-not-cover-clause-fault c =
    fault_of_degrees c.args.graph.now c.in-Some.located (if_some _ _ _ c.in-Some.is c.in_ok-located.ensures.found) c.args.is_first c.cover.result
    (subst (λ (ms : List Member). (c.cover.result ≡ true) ↔ CoversReferences ms) c.as_slice.ensures c.cover.ensures) c.if-not-cover.true

pub finds_lost-requires-clause-counts : goal.finds_lost-requires-clause-counts
finds_lost-requires-clause-counts c =
    counts_of c.args.graph.now c.in-Some.located (if_some _ _ _ c.in-Some.is c.in_ok-located.ensures.found) c.deref.result.now c.deref-3.result.now
    c.deref.ensures.value (subst (λ (ns : List ℕ). CountTargets (rows_in c.deref.result.now) ns) (sym c.deref-3.ensures.value) c.in_ok-counts.ensures)

pub returns-then-not-branch-clause-fault : goal.returns-then-not-branch-clause-fault
returns-then-not-branch-clause-fault c =
    fault_of_lost c.args.graph.now c.in-Some.located (if_some _ _ _ c.in-Some.is c.in_ok-located.ensures.found) c.args.is_first c.in_ok-finds_lost.field-0
    (subst (λ (ms : List Member). CoversReferences ms) c.as_slice.ensures (c.cover.ensures.0 c.if-not-cover.false)) c.in_ok-finds_lost.ensures c.if-not-branch.true

pub returns-then-not-branch-2-clause-fault : goal.returns-then-not-branch-2-clause-fault
returns-then-not-branch-2-clause-fault c =
    fault_of_legacy c.args.graph.now c.in-Some.located (if_some _ _ _ c.in-Some.is c.in_ok-located.ensures.found) c.args.is_first c.in_ok-finds_set_aside.field-0 c.if-is_first.true
    (subst (λ (ms : List Member). CoversReferences ms) c.as_slice.ensures (c.cover.ensures.0 c.if-not-cover.false))
    (c.in_ok-finds_lost.ensures.0 c.if-not-branch.false) c.in_ok-finds_set_aside.ensures c.if-not-branch-2.true

pub returns-clause-right : goal.returns-clause-right
returns-clause-right c =
    right_of c.args.graph.now c.in-Some.located (if_some _ _ _ c.in-Some.is c.in_ok-located.ensures.found) c.args.is_first
    (subst (λ (ms : List Member). CoversReferences ms) c.as_slice.ensures (c.cover.ensures.0 c.if-not-cover.false)) (c.in_ok-finds_lost.ensures.0 c.if-not-branch.false)
    (elim c.else-is_first.branch [
      | else-is_first-via-then-is_first+in_ok-finds_set_aside+else-not-branch-2 w ↦ λ first. w.in_ok-finds_set_aside.ensures.0 w.if-not-branch-2.false
      | else-is_first-via-else-is_first w ↦ λ first. absurd (differs (sym w.if-is_first.false ∙ first))
    ])
