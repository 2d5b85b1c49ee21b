use Rattle.cg_arena.proofs.Indexes.{FindsBelow}
use Rattle.cg_arena.proofs.index.index_by.Given as goal

abbrev pub invariant-slots : goal.invariant-slots
invariant-slots l = FindsBelow l.slots l.index l.at
