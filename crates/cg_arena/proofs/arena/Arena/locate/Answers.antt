use Rattle.std.proofs.Common.{◌≡◌, refl, sym, subst, IfSome}
use Rattle.indexmap.specs.IndexMap.{spare}
use Rattle.cg_arena.specs.Table.{rows_of}
use Rattle.cg_arena.proofs.Sound.{found, node_here}
use Rattle.cg_arena.proofs.arena.Arena.locate.Goals as goal

pub slot_near-at-requires : goal.slot_near-at-requires
slot_near-at-requires c = found c.self.inside.slots c.self.inside.ends c.self.inside.index c.self.invariant (spare c.self.inside.index.rows) c.args.self.now c.self.view_is c.args.serial c.requires

pub returns : goal.returns
returns c =
    subst (λ x. IfSome x (λ n. c.slot_near-at.result.1.code ≡ n.code))
    (sym (node_here c.self.inside.slots c.self.inside.ends (rows_of c.self.inside.slots) (spare c.self.inside.index.rows) c.args.self.now c.self.view_is
    c.args.serial c.slot_near-at.result.0 c.slot_near-at.result.1 c.slot_near-at.ensures.at c.slot_near-at.ensures.slot))
    refl
