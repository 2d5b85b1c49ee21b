use Rattle.std.proofs.Common.{◌≡◌, Some, true, false, not, sym, ◌∙◌, ap, subst}
use Rattle.std.specs.Prelude.{nat_eq, if◌then◌else◌}
use Rattle.cg_weak.specs.declared.nodes.Node.{Node}
use Rattle.cg_weak.specs.declared.chains.Chains.{Chains}
use Rattle.cg_weak.specs.Nodes.{Chain, chain_in}
use Rattle.cg_weak.specs.Chains.{ends_without, ends_joined}
use Rattle.cg_weak.specs.Table.{node_in, chain_at, below, above, IsLast}
use Rattle.cg_weak.proofs.Moves.{same_value}
use Rattle.cg_weak.proofs.RowLists.{found_there}
use Rattle.cg_weak.proofs.Newest.{node_there, not_waiting}
use Rattle.cg_weak.proofs.Fields.{tied}
use Rattle.cg_weak.proofs.Steps.{chains_there, moved_rows, moved_fields}
use Rattle.cg_weak.proofs.table.WeakTable.set_waiting.Goals as goal

pub node_at-node-requires : goal.node_at-node-requires
node_at-node-requires c =
    node_there c.self.inside.nodes.entries c.args.self.now.rows (ap (λ t. t.rows) c.self.view_is) c.args.weak
    (found_there (λ r. not r.waits) c.args.self.now.rows c.args.weak c.requires)

pub neighbours-newer-requires-clause-apart : goal.neighbours-newer-requires-clause-apart
neighbours-newer-requires-clause-apart c = λ waits.
    let stays = not_waiting c.self.inside.nodes.entries c.args.self.now.rows (ap (λ t. t.rows) c.self.view_is) c.args.weak c.node_at-node.result c.node_at-node.ensures c.requires in
    let same : c.node_at-node.result.waits ≡ true =
    ap (λ (k : Chain). k.1) (same_value (c.node_at-node.result.referent, c.node_at-node.result.waits) (c.node_at-node.result.referent, true) (sym (ap chain_in c.node_at-node.ensures) ∙ waits)) in
    absurd (let e : false ≡ true = sym stays ∙ same in cc)

pub neighbours-newer-requires-clause-newest : goal.neighbours-newer-requires-clause-newest
neighbours-newer-requires-clause-newest c =
    subst (λ (k : Chains). IsLast below (λ v. chain_at c.self.inside.nodes.entries v ≡ Some (c.node_at-node.result.referent, true)) k.waiting.newest) (sym c.chains_at-chains.ensures)
    (c.self.invariant.newest (c.node_at-node.result.referent, true))

pub neighbours-newer-requires-clause-oldest : goal.neighbours-newer-requires-clause-oldest
neighbours-newer-requires-clause-oldest c =
    subst (λ (k : Chains). IsLast above (λ v. chain_at c.self.inside.nodes.entries v ≡ Some (c.node_at-node.result.referent, true)) k.waiting.oldest) (sym c.chains_at-chains.ensures)
    (c.self.invariant.oldest (c.node_at-node.result.referent, true))

pub write_chains-requires : goal.write_chains-requires
write_chains-requires c =
    chains_there (node_in c.self.inside.nodes.entries) c.self.inside.chains.entries c.self.invariant c.args.weak c.node_at-node.result c.node_at-node.ensures

pub invariant_of-self : goal.invariant_of-self
invariant_of-self c =
    let n = c.node_at-node.result in
    let newer = c.neighbours-newer.result.0 in
    let older = c.neighbours-newer.result.1 in
    let m : Node = record { referent = n.referent; waits = true; newer = newer; older = older } in
    let stays = not_waiting c.self.inside.nodes.entries c.args.self.now.rows (ap (λ t. t.rows) c.self.view_is) c.args.weak n c.node_at-node.ensures c.requires in
    let moved : Chains = record { current = c.without.result; waiting = c.joined.result } in
    moved_fields c.self.inside.nodes.entries c.join.new.nodes.entries c.args.weak n.referent n.newer n.older newer older
    (c.node_at-node.ensures ∙ (λ i. Some (record n { waits = stays i })))
    (λ v. c.join.ensures.nodes v ∙ ap (tied newer (Some c.args.weak) older (Some c.args.weak) v) (c.write_node.ensures.nodes v
    ∙ ap (λ o. if nat_eq c.args.weak v then Some m else o) (c.tie.ensures.nodes v)))
    c.self.inside.chains.entries c.write_chains.new.chains.entries moved c.self.invariant
    c.neighbours-newer.ensures.above c.neighbours-newer.ensures.below
    (λ i. record {
      current = (c.without.ensures ∙ ap (λ (k : Chains). ends_without n.newer n.older k.current) c.chains_at-chains.ensures) i;
      waiting = (c.joined.ensures ∙ ap (λ (k : Chains). ends_joined newer c.args.weak older k.waiting) c.chains_at-chains.ensures) i;
    })
    c.write_chains.ensures.chains

pub returns-clause-rows : goal.returns-clause-rows
returns-clause-rows c =
    let n = c.node_at-node.result in
    let newer = c.neighbours-newer.result.0 in
    let older = c.neighbours-newer.result.1 in
    let m : Node = record { referent = n.referent; waits = true; newer = newer; older = older } in
    let stays = not_waiting c.self.inside.nodes.entries c.args.self.now.rows (ap (λ t. t.rows) c.self.view_is) c.args.weak n c.node_at-node.ensures c.requires in
    moved_rows c.self.inside.nodes.entries c.join.new.nodes.entries c.args.weak n.referent n.newer n.older newer older
    (c.node_at-node.ensures ∙ (λ i. Some (record n { waits = stays i })))
    (λ v. c.join.ensures.nodes v ∙ ap (tied newer (Some c.args.weak) older (Some c.args.weak) v) (c.write_node.ensures.nodes v
    ∙ ap (λ o. if nat_eq c.args.weak v then Some m else o) (c.tie.ensures.nodes v)))
    c.args.self.now.rows (ap (λ t. t.rows) c.self.view_is)
