use Rattle.std.proofs.Common.{◌+◌, ◌/◌, arith}
use Rattle.std.specs.FinMap as fin
use Rattle.cg_heap.specs.Keeps.{CanSave, CanSaveOneMore}
use Rattle.cg_heap.proofs.Saves.{body_told, told_body}
use Rattle.cg_heap.proofs.heap.objects.reserve_to_save_many.Goals as goal

pub reserve_total-requires-clause-held : goal.reserve_total-requires-clause-held
reserve_total-requires-clause-held g c = (told_body (λ b. CanSave c.args.boxes.now c.args.objects b) (fin.get c.args.arena.now.nodes 1) c.body_of-garbage.result
    c.requires.has c.body_of-garbage.ensures c.requires.can).held

pub reserve_total-requires-clause-more : goal.reserve_total-requires-clause-more
reserve_total-requires-clause-more g c =
    omega (
      arith,
      (told_body (λ b. CanSave c.args.boxes.now c.args.objects b) (fin.get c.args.arena.now.nodes 1) c.body_of-garbage.result
          c.requires.has c.body_of-garbage.ensures c.requires.can).few,
    )

pub returns-clause-ok : goal.returns-clause-ok
returns-clause-ok g c =
    body_told (λ b. CanSaveOneMore c.args.boxes.now c.reserve_total.new.self c.args.objects.live (c.args.objects.live + c.args.objects.live / 2 + 64) b)
    (fin.get c.args.arena.now.nodes 1) c.body_of-garbage.result c.body_of-garbage.ensures
    (record {
      same = c.in_ok-reserve_total.ensures.ok;
      more = omega arith;
      ready = omega (arith, c.in_ok-reserve_total.ensures.room);
    })
