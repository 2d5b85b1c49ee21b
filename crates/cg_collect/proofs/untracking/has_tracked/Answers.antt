use Rattle.std.proofs.Common.{sym, ◌∙◌, arith}
use Rattle.cg_collect.proofs.Moving.{value_lives, key_lives}
use Rattle.cg_collect.proofs.Untracked.{none_first, none_more, found_value, found_key}
use Rattle.cg_collect.proofs.untracking.has_tracked.Goals.{then-may_be_tracked-via-then-may_be_tracked, then-may_be_tracked-via-else-may_be_tracked+then-may_be_tracked-2}
use Rattle.cg_collect.proofs.untracking.has_tracked.Goals as goal

pub may_be_tracked-requires : goal.may_be_tracked-requires
may_be_tracked-requires g c = value_lives c.args.heap.now c.sound.ensures.live c.args.object c.entries.i c.look_near-entry.result c.look_near-entry.ensures.entry

pub may_be_tracked-requires-else-may_be_tracked : goal.may_be_tracked-requires-else-may_be_tracked
may_be_tracked-requires-else-may_be_tracked g c = key_lives c.args.heap.now c.sound.ensures.live c.args.object c.entries.i c.look_near-entry.result c.look_near-entry.ensures.entry

pub entries-init : goal.entries-init
entries-init g c = record { so_far = none_first c.args.heap.now c.args.object; looked = omega arith }

pub returns-then-may_be_tracked-clause-found : goal.returns-then-may_be_tracked-clause-found
returns-then-may_be_tracked-clause-found g c =
    elim c.then-may_be_tracked.branch [
      | then-may_be_tracked-via-then-may_be_tracked w ↦
          found_value c.args.heap.now c.args.object c.entries.i c.look_near-entry.result c.look_near-entry.ensures.entry (sym c.may_be_tracked.ensures ∙ w.if-may_be_tracked.true)
      | then-may_be_tracked-via-else-may_be_tracked+then-may_be_tracked-2 w ↦
          found_key c.args.heap.now c.args.object c.entries.i c.look_near-entry.result c.look_near-entry.ensures.entry (sym w.may_be_tracked-else-may_be_tracked.ensures ∙ w.if-may_be_tracked-2.true)
    ]

pub entries-preserved : goal.entries-preserved
entries-preserved g c = record {
  so_far = none_more c.args.heap.now c.args.object c.entries.i c.look_near-entry.result c.entries.invariant.so_far c.look_near-entry.ensures.entry
      (sym c.may_be_tracked.ensures ∙ c.if-may_be_tracked.false) (sym c.may_be_tracked-else-may_be_tracked.ensures ∙ c.if-may_be_tracked-2.false);
  looked = omega (arith, c.entries.invariant.looked, c.look_near-entry.ensures.steps);
}
