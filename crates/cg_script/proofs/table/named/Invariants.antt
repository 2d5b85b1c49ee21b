use Rattle.std.proofs.Common.{◌≡◌, map, drop, List, ℕ, Bor}
use Rattle.cg_script.specs.Tables.{named}
use Rattle.cg_script.proofs.table.named.Given as goal

-- no row before this one has the word
abbrev pub invariant-rows : goal.invariant-rows
invariant-rows g l = named (map {A = Bor (List ℕ) × g.row.T.Denot} {B = List ℕ × g.row.T.Denot} (λ row. (row.0.now, row.1)) (drop l.row-index l.table)) l.word
    ≡ named (map {A = Bor (List ℕ) × g.row.T.Denot} {B = List ℕ × g.row.T.Denot} (λ row. (row.0.now, row.1)) l.table) l.word
