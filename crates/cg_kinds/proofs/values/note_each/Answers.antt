use Rattle.std.proofs.Common.{◌≡◌, ◌∙◌, ◌<◌, ◌-◌, ◌++◌, List, ℕ, ap, sym, arith, length, map, take, drop, get_or}
use Rattle.std.proofs.lemmas.List.{append-nil, get_or_default}
use Rattle.std.proofs.lemmas.Option.{slice_get-map}
use Rattle.std.specs.Prelude.{slice_get, Some, option_map, option_to_list}
use Rattle.cg_graph.specs.Value.{item, reference_in, references}
use Rattle.cg_kind.proofs.References.{note_more}
use Rattle.cg_kinds.specs.Values.{value_in, values_in}
use Rattle.cg_kinds.proofs.ValueLemmas.{length-sorts, length-numbers, value-at}
use Rattle.cg_kinds.proofs.values.note_each.Goals as goal

pub bounds-sorts-at : goal.bounds-sorts-at
bounds-sorts-at c = omega (arith, c.places-test.true, c.requires.within, length-sorts _ _ c.requires.words, length-numbers _ _ c.requires.words)

pub places-preserved : goal.places-preserved
places-preserved c =
    let sorts = c.args.sorts.now in
    let numbers = c.args.numbers.now in
    let at = c.places.at in
    let items = map item (values_in sorts numbers) in
    let here = value_in (get_or sorts at 0) (get_or numbers at 0) in
    let inside : at < length (values_in sorts numbers) = omega (arith, c.places-test.true, c.requires.within, length-numbers _ _ c.requires.words) in
    let value : slice_get items at ≡ Some (item here) =
    slice_get-map item (values_in sorts numbers) at
    ∙ ap (option_map item) (value-at sorts numbers at (get_or sorts at 0) (get_or numbers at 0) inside
    (get_or_default sorts at 0 _ (omega (arith, inside, length-sorts _ _ c.requires.words)))
    (get_or_default numbers at 0 _ (omega (arith, inside, length-numbers _ _ c.requires.words)))) in
    record {
      noted =
          c.note_reference-count.ensures.noted
          ∙ (λ j. c.places.invariant.noted j ++ option_to_list (c.reference_of.ensures j))
          ∙ ap (λ (l : List ℕ). references (take (at - c.args.from) (drop c.args.from items)) ++ l) (sym (append-nil (option_to_list (reference_in here))))
          ∙ sym (note_more items c.args.from at (item here) (omega arith) value);
      few = omega (arith, c.places.invariant.few, c.note_reference-count.ensures.few);
      room = c.note_reference-count.ensures.room ∙ c.places.invariant.room;
    }
