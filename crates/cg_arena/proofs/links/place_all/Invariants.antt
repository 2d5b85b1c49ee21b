use Rattle.std.proofs.Common.{◌≡◌, ◌-◌}
use Rattle.cg_arena.specs.Links.{all_placed, chain_from}
use Rattle.cg_arena.proofs.links.place_all.Given as goal

abbrev pub invariant-nodes : goal.invariant-nodes
invariant-nodes l =
    all_placed (chain_from l.slots (l.size - l._done) l.at) l.place l.slots
    ≡ all_placed (chain_from l.fn.slots l.fn.size l.fn.first) l.fn.place l.fn.slots
