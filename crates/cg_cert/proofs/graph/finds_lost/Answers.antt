use Rattle.std.proofs.Common.{sym, ◌∙◌, ap, subst, List, length, replicate, true, not, map}
use Rattle.std.proofs.lemmas.List.{length-replicate}
use Rattle.cg_records.specs.declared.graph.Member.{Member}
use Rattle.cg_cert.specs.Positions.{CountReferences, ExceedEach}
use Rattle.cg_cert.proofs.Sets.{lost_answer, search_within}
use Rattle.cg_cert.proofs.graph.finds_lost.Goals as goal

pub exceeding-requires : goal.exceeding-requires
exceeding-requires c = subst (λ (ms : List Member). CountReferences ms c.args.counts.now) (sym c.as_slice-members.ensures) c.requires.counts

pub reached-requires-clause-within : goal.reached-requires-clause-within
reached-requires-clause-within c =
    search_within c.args.graph.now c.args.located.now c.requires.located c.deref-2.result.now c.deref-3.result.now c.deref-3.ensures.value
    (ap length (c.deref-2.ensures.value ∙ c.in_ok-all.ensures.items_if_clones_equal (λ y e. e)) ∙ length-replicate (length c.as_slice-members.result.now) true ∙ ap length c.as_slice-members.ensures)

pub returns : goal.returns
returns c =
    lost_answer c.args.graph.now c.args.located.now c.requires.located c.in_ok-held.held.items
    (subst (λ (ms : List Member). ExceedEach ms c.in_ok-held.held.items) c.as_slice-members.ensures c.in_ok-held.ensures) c.in_ok-found.found.items
    c.deref.result.now c.deref-2.result.now c.deref-5.result.now c.deref-6.result.now c.deref-3.result.now c.are_same.result
    c.deref.ensures.value
    (c.deref-2.ensures.value ∙ c.in_ok-all.ensures.items_if_clones_equal (λ y e. e) ∙ ap (λ n. replicate n true) (ap length c.as_slice-members.ensures))
    c.deref-3.ensures.value c.in_ok-found.ensures.len c.in_ok-found.ensures.led
    (c.deref-5.ensures.value ∙ c.in_ok-unreachable.ensures ∙ ap (map not) c.deref-4.ensures.value) c.deref-6.ensures.value c.are_same.ensures
