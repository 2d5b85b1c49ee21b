use Rattle.std.proofs.Common.{◌∙◌, ◌++◌, ◌-◌, List, ℕ, ap, sym, arith, drop, take}
use Rattle.std.proofs.lemmas.List.{length-drop, length-take}
use Rattle.cg_graph.specs.Value.{entry_references, references}
use Rattle.cg_kind.specs.declared.notes.TheConstants.{AT_ONCE}
use Rattle.cg_kind.proofs.References.{note_more, take_again}
use Rattle.cg_kinds.proofs.contents.Contents.note_from.Goals as goal

pub returns-clause-references : goal.returns-clause-references
returns-clause-references g c =
    let all = (g.Self.Contents.body c.args.self.now).entries in
    let rest = drop c.args.from all in
    let n = c.entries.i - c.args.from in
    ◌∙◌ {b = references (take n rest)} c.entries.invariant.noted
    (ap references (take_again rest n AT_ONCE
    (omega (arith, c.entries-test.false, c.entries.auto.i-end, c.min.ensures, c.len.ensures, length-take AT_ONCE rest, length-drop c.args.from all))))

pub entries-preserved : goal.entries-preserved
entries-preserved g c = record {
  noted =
      c.note_entry-references.ensures.noted
      ∙ ap (λ (l : List ℕ). l ++ entry_references c.entry_at.result) c.entries.invariant.noted
      ∙ sym (note_more (g.Self.Contents.body c.args.self.now).entries c.args.from c.entries.i c.entry_at.result (omega arith) c.entry_at.ensures);
  few = omega (arith, c.entries.invariant.few, c.note_entry-references.ensures.few);
  room = c.note_entry-references.ensures.room ∙ c.entries.invariant.room;
}

pub returns-clause-next : goal.returns-clause-next
returns-clause-next g c =
    let all = (g.Self.Contents.body c.args.self.now).entries in
    omega (arith, c.min.ensures, c.len.ensures, length-take AT_ONCE (drop c.args.from all), length-drop c.args.from all)
