use Rattle.cg_interp.proofs.KeptLines.{answer_kept}
use Rattle.cg_interp.proofs.run.run_script.Goals as goal

pub open_and_run-requires-clause-may : goal.open_and_run-requires-clause-may
open_and_run-requires-clause-may g c = record { spelled = c.requires.spelled; known = c.requires.known; empty = c.requires.heap; allowed = c.requires.budget }

pub returns-clause-promises : goal.returns-clause-promises
returns-clause-promises g c =
    let e = c.open_and_run.ensures in
    answer_kept c.one_finalizer_each.ensures c.no_dead_lines.ensures c.args.script.now _ _ _ c.open_and_run.result e.done e.spent e.part e.memory
