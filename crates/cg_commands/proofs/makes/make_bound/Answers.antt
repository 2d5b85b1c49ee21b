use Rattle.std.proofs.Common.{refl, sym, subst, Err}
use Rattle.cg_machine.specs.Effects.{makes}
use Rattle.cg_commands.specs.Answers.{PerformsOnHeap}
use Rattle.cg_commands.proofs.MakeLemmas.{makes-performs, makes-refused}
use Rattle.cg_commands.proofs.makes.make_bound.Goals as goal

pub returns-in-Ok : goal.returns-in-Ok
returns-in-Ok g c = record {
  performs = λ locals.
      makes-performs c.args.heap.now c.sound.ensures locals c.args.name c.args.object.code c.args.object.class c.args.parts.now c.args.object.referent
      c.in-Ok.serial c.in-Ok.ensures.serial c.in-Ok.old c.in-Ok.ensures.old c.given_up.result c.given_up.ensures c.make_where_room.new.heap c.in-Ok.ensures.ok
      (c.in-Ok.serial, c.in-Ok.old) c.in-Ok.ensures.object_limit c.in-Ok.ensures.entry_limit;
  room = c.in-Ok.ensures.room;
}

pub returns-in-Err : goal.returns-in-Err
returns-in-Err g c = record {
  performs = λ locals.
      subst (λ r. PerformsOnHeap c.args.heap.now locals (λ w. makes w c.args.name c.args.object.code c.args.object.class c.args.parts.now
      c.args.object.referent) c.make_where_room.new.heap (Err r)) (sym c.refusal_by.ensures)
      (makes-refused c.args.heap.now c.sound.ensures locals c.args.name c.args.object.code c.args.object.class c.args.parts.now c.args.object.referent
      c.in-Err.fault (Err c.in-Err.fault) refl c.in-Err.ensures.object_limit c.in-Err.ensures.entry_limit c.make_where_room.new.heap c.in-Err.ensures.err);
  room = tt;
}
