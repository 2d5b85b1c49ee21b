use Rattle.cg_script.proofs.ReadScripts.{read_known, read_short}
use Rattle.cg_laws.proofs.PrintableRuns.{lines_printable}
use Rattle.cg_laws.proofs.laws.lines_are_printable.Goals as goal

pub returns : goal.returns
returns c = record { known = lines_printable; read = λ script budget steps was. lines_printable script budget steps (read_known script was) (read_short script was) }
