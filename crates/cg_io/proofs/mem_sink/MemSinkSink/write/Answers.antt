use Rattle.std.proofs.Common.{[], arith, drop, is_ok, take-append-drop}
use Rattle.std.proofs.lemmas.Grind.{common_steps}
use Rattle.cg_io.proofs.Fronts.{grown_or_not}
use Rattle.cg_io.proofs.mem_sink.MemSinkSink.write.Goals as goal
use Rattle.cg_io.proofs.mem_sink.MemSinkSink.write.Goals.{then-fails, else-fails}

pub returns-then-is_err-clause-err : goal.returns-then-is_err-clause-err
returns-then-is_err-clause-err c = elim c.if-fails.branch [
  | then-fails w ↦ grown_or_not _ _ _ c.if-fails.wanted.now (drop c.self.inside.keep c.args.bytes.now) (is_ok c.extend_from_slice.result)
      (grind (arith, common_steps, take-append-drop c.self.inside.keep c.args.bytes.now)) (grind (arith, common_steps))
  | else-fails w ↦ grown_or_not _ _ _ c.if-fails.wanted.now [] (is_ok c.extend_from_slice.result) (grind (arith, common_steps)) (grind (arith, common_steps))
]
