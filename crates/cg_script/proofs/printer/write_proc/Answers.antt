use Rattle.cg_script.specs.declared.part.Said.TheVariants.{Begins, Ends}
use Rattle.cg_script.specs.Canonical.{command_words, said_words, names_by, line_of_words}
use Rattle.cg_script.proofs.Written.{proc_written}
use Rattle.cg_script.proofs.printer.write_proc.Goals as goal

pub returns : goal.returns
returns c =
    proc_written line_of_words (command_words (names_by c.args.naming.now)) c.args.body.now (said_words (names_by c.args.naming.now) (Begins c.args.name))
    (said_words (names_by c.args.naming.now) Ends) c.args.out.now.items
    c.opening.new.out.items c.write_body.new.out.items c.opening-2.new.out.items c.in_ok-opening.ensures c.in_ok-write_body.ensures c.in_ok-opening-2.ensures
