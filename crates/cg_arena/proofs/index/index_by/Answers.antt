use Rattle.std.proofs.Common.{◌+◌, ◌≤◌, length, refl, sym, subst, arith}
use Rattle.cg_arena.specs.declared.index.SlotIndex.{SlotIndex}
use Rattle.cg_arena.proofs.Indexes.{FindsBelow, reserved_found, vacant_found, noted_found, all_found}
use Rattle.cg_arena.proofs.index.index_by.Goals as goal
use Rattle.cg_arena.proofs.index.index_by.Goals.{in-Some+in_ok-reserve, in_default}

pub slots-preserved : goal.slots-preserved
slots-preserved c = elim c.match-get.branch [
  | in-Some+in_ok-reserve w ↦
      let reserved : SlotIndex = record { hints = c.slots.index.hints; rows = w.reserve.new.self; most = c.slots.index.most } in
      subst (λ x. FindsBelow c.args.slots.now x (c.slots.at + 1)) (sym w.index-is)
      (noted_found c.args.slots.now reserved c.slots.at
      (reserved_found c.args.slots.now c.slots.index reserved c.slots.at refl w.reserve.ensures.entries refl c.slots.invariant)
      c.requires.named w.note.new.self w.note.ensures.below w.in-Some.slot.now (sym w.in-Some.ensures) w.note.ensures.noted w.note.ensures.others w.note.ensures.rows)
  | in_default w ↦
      subst (λ x. FindsBelow c.args.slots.now x (c.slots.at + 1)) (sym w.index-is)
      (vacant_found c.args.slots.now c.slots.index c.slots.at c.slots.invariant (sym w.in_default.ensures))
]

pub returns-clause-index : goal.returns-clause-index
returns-clause-index c =
    let reserved : SlotIndex = record { hints = c.slots.index.hints; rows = c.reserve-2.new.self; most = c.slots.index.most } in
    let end = c.slots-test.false in
    let enough = c.capacity-at-end.ensures.slots in
    let all : length c.args.slots.now.slots ≤ c.slots.at = omega (arith, end, enough) in
    all_found c.args.slots.now reserved c.slots.at c.requires.named all
    (reserved_found c.args.slots.now c.slots.index reserved c.slots.at refl c.reserve-2.ensures.entries refl c.slots.invariant)
