use Rattle.std.proofs.Common.{◌≡◌, ◌∙◌, ◌-◌, ◌++◌, ◌∷◌, [], ap, sym, length, arith}
use Rattle.cg_kinds.specs.Pairs.{unboxed}
use Rattle.cg_kinds.proofs.TableLemmas.{last_taken, length-ordered}
use Rattle.cg_kinds.proofs.table.Table.detach.Goals as goal

pub returns-else-count-eq0-clause-pairs : goal.returns-else-count-eq0-clause-pairs
returns-else-count-eq0-clause-pairs c =
    let n : length c.args.self.now ≡ length c.self.inside.map.entries = sym (ap length c.self.view_is) ∙ length-ordered c.self.inside.map.entries (unboxed c.self.inside.order) c.self.invariant in
    last_taken c.args.self.now c.take.result (c.len-count.result - 1) (omega (arith, n, c.len-count.ensures.len, c.if-count-eq0.false)) c.take.ensures.entry
    ∙ ap (λ l. l ++ c.take.result ∷ []) (sym c.take.ensures.rest)
