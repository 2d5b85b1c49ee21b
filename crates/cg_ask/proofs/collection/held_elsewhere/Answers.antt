use Rattle.std.proofs.Common.{◌∙◌, ap, Bool, List, arith}
use Rattle.std.proofs.lemmas.List.{length-map}
use Rattle.cg_search.specs.Counts.{targets_from}
use Rattle.cg_snapshot.specs.declared.heap.Member.{Member}
use Rattle.cg_graph.specs.Holdings.{occurrences}
use Rattle.cg_ask.specs.Asked.{rows_of}
use Rattle.cg_ask.proofs.Clearing.{candidates_long, elsewhere_just}
use Rattle.cg_ask.proofs.collection.held_elsewhere.Goals as goal
use Rattle.cg_ask.proofs.FaultsOfHeaps.{long}

pub count_targets-requires-clause-marked : goal.count_targets-requires-clause-marked
count_targets-requires-clause-marked c = candidates_long c.args.members.now c.args.candidates.now c.requires.candidates

pub below-requires : goal.below-requires
below-requires c =
    omega (
      arith,
      long c.deref.ensures.value,
      long c.deref-2.ensures.value,
      c.in_ok-counts.ensures.len,
      long c.in_ok-degrees.ensures,
      length-map c.args.members.now (λ (m : Member). m.degree),
    )

pub returns : goal.returns
returns c =
    let less = rw (c.deref.ensures.value, c.deref-2.ensures.value) at c.in_ok-held.ensures in
    elsewhere_just c.args.members.now c.in_ok-counts.counts.items c.in_ok-degrees.degrees.items c.in_ok-held.held.items c.in_ok-counts.ensures.len
    (λ i within. c.in_ok-counts.ensures.counts i within ∙ ap (λ (bs : List Bool). occurrences i (targets_from bs (rows_of c.args.members.now))) c.requires.candidates) c.in_ok-degrees.ensures less
