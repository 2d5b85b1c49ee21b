use Rattle.std.proofs.Common.{sym, subst, List, ℕ}
use Rattle.cg_records.specs.declared.graph.Member.{Member}
use Rattle.cg_cert.specs.Judged.{IsOnceEach, serials_of, references_of}
use Rattle.cg_cert.specs.Positions.{Tells, AreNames, IsSetOf, AreRowsOf, MarksAll, rows_in}
use Rattle.cg_cert.proofs.NamesAndPositions.{if_none, if_some}
use Rattle.cg_cert.proofs.GraphsByPositions.{lost_set, legacy_set, located_all}
use Rattle.cg_cert.proofs.graph.locate.Goals as goal

pub returns-in_default-clause-none : goal.returns-in_default-clause-none
returns-in_default-clause-none c = λ well.
    if_none _ _ c.in_default.is c.in_ok-places.ensures.none (subst (λ (ms : List Member). IsOnceEach (serials_of ms)) (sym c.as_slice-members.ensures) well.members)

pub returns-in_default-2-clause-none : goal.returns-in_default-2-clause-none
returns-in_default-2-clause-none c = λ well.
    if_none _ _ c.in_default-2.is c.in_ok-rows.ensures.none
    (subst (λ (ms : List Member). AreNames (serials_of ms) (references_of ms)) (sym c.as_slice-members.ensures) well.references)

pub returns-in_default-3-clause-none : goal.returns-in_default-3-clause-none
returns-in_default-3-clause-none c = λ well.
    if_none _ _ c.in_default-3.is c.in_ok-lost.ensures.none
    (subst (λ (ms : List Member). IsSetOf (serials_of ms) c.as_slice.result.now) (sym c.as_slice-members.ensures)
    (subst (λ (xs : List ℕ). IsSetOf (serials_of c.args.graph.now.members) xs) (sym c.as_slice.ensures) (lost_set c.args.graph.now well)))

pub returns-in_default-4-clause-none : goal.returns-in_default-4-clause-none
returns-in_default-4-clause-none c = λ well.
    if_none _ _ c.in_default-4.is c.in_ok-legacy.ensures.none
    (subst (λ (ms : List Member). IsSetOf (serials_of ms) c.as_slice-2.result.now) (sym c.as_slice-members.ensures)
    (subst (λ (xs : List ℕ). IsSetOf (serials_of c.args.graph.now.members) xs) (sym c.as_slice-2.ensures) (legacy_set c.args.graph.now well)))

pub returns-clause-found : goal.returns-clause-found
returns-clause-found c =
    let same = c.as_slice-members.ensures in
    let names = serials_of c.args.graph.now.members in
    located_all c.args.graph.now c.in-Some.places _ (subst (λ (ms : List Member). Tells (serials_of ms) c.in-Some.places) same (if_some _ _ _ c.in-Some.is c.in_ok-places.ensures.found))
    (subst (λ (ms : List Member). AreRowsOf (serials_of ms) ms (rows_in c.in-Some-2.rows.items)) same (if_some _ _ _ c.in-Some-2.is c.in_ok-rows.ensures.found))
    (subst (λ (xs : List ℕ). MarksAll names xs c.in-Some-3.lost.items) c.as_slice.ensures
    (subst (λ (ms : List Member). MarksAll (serials_of ms) c.as_slice.result.now c.in-Some-3.lost.items) same (if_some _ _ _ c.in-Some-3.is c.in_ok-lost.ensures.found)))
    (subst (λ (xs : List ℕ). IsSetOf names xs) c.as_slice.ensures (subst (λ (ms : List Member). IsSetOf (serials_of ms) c.as_slice.result.now) same
    (if_some _ _ _ c.in-Some-3.is c.in_ok-lost.ensures.sets)))
    (subst (λ (xs : List ℕ). MarksAll names xs c.in-Some-4.legacy.items) c.as_slice-2.ensures
    (subst (λ (ms : List Member). MarksAll (serials_of ms) c.as_slice-2.result.now c.in-Some-4.legacy.items) same (if_some _ _ _ c.in-Some-4.is c.in_ok-legacy.ensures.found)))
    (subst (λ (xs : List ℕ). IsSetOf names xs) c.as_slice-2.ensures (subst (λ (ms : List Member). IsSetOf (serials_of ms) c.as_slice-2.result.now) same
    (if_some _ _ _ c.in-Some-4.is c.in_ok-legacy.ensures.sets)))
