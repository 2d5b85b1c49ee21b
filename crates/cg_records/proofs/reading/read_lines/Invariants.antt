use Rattle.std.proofs.Common.{length}
use Rattle.cg_records.proofs.Read.{HasRead}
use Rattle.cg_records.proofs.reading.read_lines.Given as goal

-- the bytes so far are lines that give the draft
abbrev pub invariant-lines : goal.invariant-lines
invariant-lines l = HasRead l.bytes l.rest l.draft

abbrev pub decreases-lines : goal.decreases-lines
decreases-lines l = length l.rest
