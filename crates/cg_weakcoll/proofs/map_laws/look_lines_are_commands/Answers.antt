use Rattle.cg_weakcoll.proofs.StoreLines.{look_lines}
use Rattle.cg_weakcoll.proofs.map_laws.look_lines_are_commands.Goals as goal

pub returns : goal.returns
returns c = look_lines
