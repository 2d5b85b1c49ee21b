use Rattle.std.proofs.Common.{◌≡◌, ◌-◌, sym, ap, ◌∙◌, arith}
use Rattle.cg_arena.specs.Links.{all_placed, chain_from}
use Rattle.cg_arena.proofs.Writes.{placed_turn, placed_none}
use Rattle.cg_arena.proofs.links.place_all.Goals as goal

pub nodes-init : goal.nodes-init
nodes-init c =
    let all : c.args.size - 0 ≡ c.args.size = omega arith in
    ap (λ n. all_placed (chain_from c.args.slots.now n c.args.first) c.args.place c.args.slots.now) all

pub nodes-preserved : goal.nodes-preserved
nodes-preserved c =
    placed_turn c.args.place c.nodes.slots c.place_one-at.new.slots c.args.size c.nodes._done c.nodes.at c.place_one-at.result c.nodes-test.true
    c.place_one-at.ensures.slots c.place_one-at.ensures.after
    ∙ c.nodes.invariant

pub returns : goal.returns
returns c =
    sym (placed_none c.args.place c.nodes.slots c.args.size c.nodes._done c.nodes.at c.nodes-test.false)
    ∙ c.nodes.invariant
