use Rattle.std.proofs.Common.{◌∙◌, ap, length, map}
use Rattle.std.proofs.lemmas.List.{length-map}
use Rattle.cg_records.specs.declared.graph.Member.{Member}
use Rattle.cg_cert.proofs.Sets.{legacy_answer, search_within}
use Rattle.cg_cert.proofs.graph.finds_set_aside.Goals as goal

pub reached-requires-clause-within : goal.reached-requires-clause-within
reached-requires-clause-within c =
    search_within c.args.graph.now c.args.located.now c.requires.located c.deref-2.result.now c.deref-3.result.now c.deref-3.ensures.value
    (ap length c.deref-2.ensures.value ∙ c.requires.located.lost.len ∙ length-map c.args.graph.now.members (λ (m : Member). m.serial))

pub returns : goal.returns
returns c =
    legacy_answer c.args.graph.now c.args.located.now c.requires.located c.requires.lost c.in_ok-found.found.items c.deref.result.now c.deref-2.result.now
    c.deref-4.result.now c.deref-5.result.now c.deref-3.result.now c.are_same.result
    (c.deref.ensures.value ∙ c.in_ok-marked.ensures ∙ ap (map (λ (m : Member). m.legacy)) c.as_slice.ensures)
    c.deref-2.ensures.value
    c.deref-3.ensures.value c.in_ok-found.ensures.len c.in_ok-found.ensures.led
    c.deref-4.ensures.value c.deref-5.ensures.value c.are_same.ensures
