use Rattle.std.proofs.Common.{length}
use Rattle.cg_snapshot.proofs.Read.{HasRead}
use Rattle.cg_snapshot.proofs.reading.read_snapshot.Given as goal

-- the bytes so far are lines that give the draft
abbrev pub invariant-lines : goal.invariant-lines
invariant-lines l = HasRead l.bytes l.rest l.draft l.number

abbrev pub decreases-lines : goal.decreases-lines
decreases-lines l = length l.rest
