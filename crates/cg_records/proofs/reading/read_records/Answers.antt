use Rattle.cg_records.proofs.Read.{only_these}
use Rattle.cg_records.proofs.reading.read_records.Goals as goal

pub returns-clause-only : goal.returns-clause-only
returns-clause-only c = only_these c.args.bytes.now c.read_lines.result c.read_lines.ensures.found c.read_lines.ensures.none
