use Rattle.std.proofs.Common.{arith}
use Rattle.cg_graph.specs.Store.{entries_of}
use Rattle.cg_collect.proofs.Moving.{value_lives, key_lives}
use Rattle.cg_interp.proofs.GraphText.{given_err, entry_more, value_cut, key_cut}
use Rattle.cg_interp.proofs.graphs.write_references.Goals as goal

pub write_reference-requires : goal.write_reference-requires
write_reference-requires g c = value_lives c.args.heap.now c.sound.ensures.live c.args.object c.entries.i c.entry_near-entry.result c.entry_near-entry.ensures

pub write_reference-requires-in-entries : goal.write_reference-requires-in-entries
write_reference-requires-in-entries g c = key_lives c.args.heap.now c.sound.ensures.live c.args.object c.entries.i c.entry_near-entry.result c.entry_near-entry.ensures

pub returns-in_err-write_reference-clause-err : goal.returns-in_err-write_reference-clause-err
returns-in_err-write_reference-clause-err g c =
    given_err _ _ (value_cut c.args.heap.now c.args.detection (entries_of c.args.heap.now c.args.object) c.entries.i c.entry_near-entry.result
    c.entry_near-entry.ensures _ _ _ c.entries.invariant.wrote c.in_err-write_reference.ensures.err)

pub returns-in_err-write_reference-2-clause-err : goal.returns-in_err-write_reference-2-clause-err
returns-in_err-write_reference-2-clause-err g c =
    given_err _ _
    (key_cut c.args.heap.now c.args.detection (entries_of c.args.heap.now c.args.object) c.entries.i c.entry_near-entry.result c.entry_near-entry.ensures _ _ _
    _ c.entries.invariant.wrote c.in_ok-write_reference.ensures.ok c.in_err-write_reference-2.ensures.err)

pub entries-preserved : goal.entries-preserved
entries-preserved g c = record {
  wrote =
      entry_more c.args.heap.now c.args.detection (entries_of c.args.heap.now c.args.object) c.entries.i c.entry_near-entry.result c.entry_near-entry.ensures _
      _ _ _ c.entries.invariant.wrote c.in_ok-write_reference.ensures.ok
      c.in_ok-write_reference-2.ensures.ok;
  later = omega (arith, c.entries.invariant.later, c.write_reference.ensures.cause.later, c.write_reference-in-entries.ensures.cause.later);
}
