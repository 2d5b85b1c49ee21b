use Rattle.std.proofs.Common.{◌∙◌, ◌+◌, ◌-◌, ap, sym, arith, length, map, take, drop}
use Rattle.std.proofs.lemmas.List.{length-map, length-drop, length-take, drop-map, drop-drop}
use Rattle.cg_graph.specs.Value.{item, references}
use Rattle.cg_kind.specs.declared.notes.TheConstants.{AT_ONCE}
use Rattle.cg_kind.proofs.References.{take_again}
use Rattle.cg_kinds.specs.Values.{values_in}
use Rattle.cg_kinds.proofs.ValueLemmas.{numbers-len}
use Rattle.cg_kinds.proofs.values.Values.note_from.Goals as goal

pub overflow_add-first : goal.overflow_add-first
overflow_add-first c = omega (arith, c.requires.within, c.self.inside.numbers.ok.1, c.self.inside.numbers.small, numbers-len c.self.inside _ c.self.view_is c.self.invariant)

pub overflow_add-first-2 : goal.overflow_add-first-2
overflow_add-first-2 c = omega (
  arith,
  c.requires.within,
  c.len.ensures,
  c.min.ensures,
  c.self.inside.numbers.ok.1,
  c.self.inside.numbers.small,
  numbers-len c.self.inside _ c.self.view_is c.self.invariant,
)

pub note_between-references-requires-clause-within : goal.note_between-references-requires-clause-within
note_between-references-requires-clause-within c =
    omega (arith, c.requires.within, c.len.ensures, c.min.ensures, ap length c.as_slice-numbers.ensures.value, c.self.inside.numbers.ok.0, numbers-len c.self.inside _ c.self.view_is c.self.invariant)

pub returns-clause-next : goal.returns-clause-next
returns-clause-next c =
    let all = map item c.args.self.now.items in
    omega (arith, c.len.ensures, c.min.ensures, length-map c.args.self.now.items item, length-take AT_ONCE (drop c.args.from all), length-drop c.args.from all)

pub returns-clause-references : goal.returns-clause-references
returns-clause-references c =
    let from = c.args.from in
    let first = c.self.inside.first in
    let values = values_in c.self.inside.sorts.items c.self.inside.numbers.items in
    let all = map item c.args.self.now.items in
    let n = first + (from + c.min.result) - (first + from) in
    let here =
    (λ j. drop (first + from) (map item (values_in (c.as_slice-sorts.ensures.value j) (c.as_slice-numbers.ensures.value j))))
    ∙ sym (drop-drop from first (map item values))
    ∙ ap (drop from) (drop-map item first values ∙ ap (λ kept. map item kept.items) c.self.view_is) in
    c.note_between-references.ensures.references
    ∙ ap references (ap (take n) here
    ∙ take_again (drop from all) n AT_ONCE (omega (
      arith,
      c.requires.within,
      c.len.ensures,
      c.min.ensures,
      length-map c.args.self.now.items item,
      length-take AT_ONCE (drop from all),
      length-drop from all,
    )))
