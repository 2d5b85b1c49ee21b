use Rattle.std.proofs.Common.{sym, ◌∙◌}
use Rattle.cg_interp.proofs.RunLemmas.{told_printable}
use Rattle.cg_interp.proofs.run.turn_and_write.Goals as goal

pub write_turn-requires : goal.write_turn-requires
write_turn-requires g c =
    let at = c.requires.may.at in
    told_printable c.args.script.now _ at.world at.left _ _ c.turn-answer.result (c.turn-answer.ensures.turns at.world at.left at.stands at.kept) c.requires.may.printable

pub returns-in-Ok-clause-ok : goal.returns-in-Ok-clause-ok
returns-in-Ok-clause-ok g c = λ w left stands kept. record {
  waits = c.turn-answer.new.waiting.items;
  answer = c.turn-answer.result;
  is = sym c.standing.ensures;
  turns = c.turn-answer.ensures.turns w
      left stands kept;
  gathered = c.in-Ok.ensures.ok;
  all = λ over. c.in-Ok.ensures.all (λ runs. over (c.standing.ensures ∙ runs));
}

pub returns-clause-err : goal.returns-clause-err
returns-clause-err g c = λ w left stands kept. record { waits = c.turn-answer.new.waiting.items; answer = c.turn-answer.result; turns = c.turn-answer.ensures.turns w left stands kept; written = c.in-Err.ensures.err }
