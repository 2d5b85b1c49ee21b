use Rattle.std.proofs.Common.{◌≡◌, ◌∙◌, ◌+◌, ◌-◌, ℕ, ap, sym, length, subst, arith, drop, take}
use Rattle.cg_value.specs.declared.Entry.{Entry}
use Rattle.std.proofs.lemmas.List.{length-map, length-take, length-drop, take-map, drop-map}
use Rattle.std.specs.Prelude.{slice_index_or}
use Rattle.cg_graph.specs.Value.{references}
use Rattle.cg_kind.specs.declared.notes.TheConstants.{AT_ONCE}
use Rattle.cg_kind.proofs.References.{take_again}
use Rattle.cg_kinds.specs.Pairs.{pair_entry, pairs_of, ordered, picked, nothing, unboxed, IsOrderOf}
use Rattle.cg_kinds.proofs.table.Table.note_from.Goals as goal

pub returns-in-Some-clause-next : goal.returns-in-Some-clause-next
returns-in-Some-clause-next c =
    let pairs = c.self.inside.map.entries in
    let order = c.in-Some.order.value in
    let is = ap unboxed c.in-Some.is in
    let view : picked (pairs_of pairs) order ≡ c.args.self.now = sym (ap (ordered pairs) is) ∙ c.self.view_is in
    let long : length order ≡ length pairs = subst (IsOrderOf (length pairs)) is c.self.invariant in
    let all = sym (ap length view) ∙ length-map order (λ index. slice_index_or (pairs_of pairs) index nothing) ∙ long in
    omega (arith, all, c.len.ensures.len, c.min.ensures, length-take AT_ONCE (drop c.args.from c.args.self.now), length-drop c.args.from c.args.self.now)

pub returns-in-Some-clause-references : goal.returns-in-Some-clause-references
returns-in-Some-clause-references c =
    let pairs = c.self.inside.map.entries in
    let order = c.in-Some.order.value in
    let is = ap unboxed c.in-Some.is in
    let view : picked (pairs_of pairs) order ≡ c.args.self.now = sym (ap (ordered pairs) is) ∙ c.self.view_is in
    let pick : ℕ → Entry = λ index. slice_index_or (pairs_of pairs) index nothing in
    c.note_at-references.ensures.references
    ∙ ap (λ l. references (picked (pairs_of pairs) l)) (c.as_slice.ensures.value ∙ c.some_from-some.ensures.indexes ∙ ap (λ l. take AT_ONCE (drop c.args.from l)) c.deref.ensures)
    ∙ ap references (sym (take-map pick AT_ONCE (drop c.args.from order)) ∙ ap (take AT_ONCE) (sym (drop-map pick c.args.from order)) ∙ ap (λ es. take AT_ONCE (drop c.args.from es)) view)

pub returns-in-None-clause-next : goal.returns-in-None-clause-next
returns-in-None-clause-next c =
    let pairs = c.self.inside.map.entries in
    let view : pairs_of pairs ≡ c.args.self.now = sym (ap (λ order. ordered pairs (unboxed order)) c.in-None.is) ∙ c.self.view_is in
    omega (arith, sym (ap length view) ∙ length-map pairs pair_entry, c.len.ensures.len, c.min.ensures, length-take AT_ONCE (drop c.args.from c.args.self.now), length-drop c.args.from c.args.self.now)

pub returns-in-None-clause-references : goal.returns-in-None-clause-references
returns-in-None-clause-references c =
    let pairs = c.self.inside.map.entries in
    let from = c.args.from in
    let n = from + c.min.result - from in
    let view : pairs_of pairs ≡ c.args.self.now = sym (ap (λ order. ordered pairs (unboxed order)) c.in-None.is) ∙ c.self.view_is in
    let long = sym (ap length view) ∙ length-map pairs pair_entry in
    c.note_between-references.ensures.references
    ∙ ap references (ap (λ es. take n (drop from es)) view
    ∙ take_again (drop from c.args.self.now) n AT_ONCE (omega (
      arith,
      c.requires.within,
      long,
      c.len.ensures.len,
      c.min.ensures,
      length-take AT_ONCE (drop from c.args.self.now),
      length-drop from c.args.self.now,
    )))
