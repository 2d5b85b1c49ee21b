use Rattle.cg_weakcoll.specs.Expansion.{exit_lines, watch_lines}
use Rattle.cg_weakcoll.proofs.LinesAsBytes.{both_written}
use Rattle.cg_weakcoll.proofs.write.write_finalize.Goals as goal

pub returns : goal.returns
returns c =
    both_written c.args.out.now.items c.write_exit.new.out.items c.write_watch.new.out.items (exit_lines c.args.number) (watch_lines c.args.number c.args.object.now c.args.function.now)
    c.in_ok-write_exit.ensures c.in_ok-write_watch.ensures
