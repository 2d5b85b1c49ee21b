use Rattle.cg_weakcoll.proofs.StoreLines.{store_lines}
use Rattle.cg_weakcoll.proofs.map_laws.store_lines_are_commands.Goals as goal

pub returns : goal.returns
returns c = store_lines
