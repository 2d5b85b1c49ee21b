use Rattle.std.proofs.Common.{◌≡◌, ◌∙◌, ◌++◌, ◌<◌, List, ℕ, Some, ap, sym, arith, length}
use Rattle.std.proofs.lemmas.List.{length-map}
use Rattle.std.proofs.lemmas.Option.{slice_get-get_or}
use Rattle.std.specs.Prelude.{slice_get, slice_index_or}
use Rattle.cg_graph.specs.Value.{entry_references}
use Rattle.cg_kind.proofs.References.{note_more}
use Rattle.cg_kinds.specs.Pairs.{pair_entry, pairs_of, nothing}
use Rattle.cg_kinds.proofs.table.note_between.Goals as goal

pub pairs-preserved : goal.pairs-preserved
pairs-preserved c =
    let pairs = pairs_of c.args.map.now.entries in
    let within : c.pairs.index < length pairs = omega (arith, c.pairs-test.true, c.requires.within, length-map c.args.map.now.entries pair_entry) in
    let entry = slice_index_or pairs c.pairs.index nothing in
    let here : slice_get pairs c.pairs.index ≡ Some entry = slice_get-get_or pairs c.pairs.index nothing within in
    record {
      noted =
          c.note_pair_at-count.ensures.noted
          ∙ ap (λ (l : List ℕ). l ++ entry_references entry) c.pairs.invariant.noted
          ∙ sym (note_more pairs c.args.from c.pairs.index entry (omega arith) here);
      few = omega (arith, c.pairs.invariant.few, c.note_pair_at-count.ensures.few);
      room = c.note_pair_at-count.ensures.room ∙ c.pairs.invariant.room;
    }
