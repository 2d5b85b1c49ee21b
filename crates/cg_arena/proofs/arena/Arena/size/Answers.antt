use Rattle.std.proofs.Common.{length, ap, ◌∙◌}
use Rattle.indexmap.specs.IndexMap.{spare}
use Rattle.cg_arena.specs.Table.{rows_of}
use Rattle.cg_graph.specs.Places.{list_of}
use Rattle.cg_arena.specs.Links.{ListEnds}
use Rattle.cg_arena.proofs.Sizes.{end_read}
use Rattle.cg_arena.proofs.Lookups.{size_is, listed_is}
use Rattle.cg_arena.proofs.arena.Arena.size.Goals as goal

pub returns-clause-size : goal.returns-clause-size
returns-clause-size c =
    c.size.ensures
    ∙ ap (λ (e : ListEnds). e.size) (end_read c.self.inside.ends c.self.invariant.sound.ten c.number_of.result c.number_of.ensures.below _)
    ∙ size_is c.self.inside.slots c.self.inside.ends (rows_of c.self.inside.slots) (spare c.self.inside.index.rows) c.args.self.now c.self.view_is
    c.self.invariant.sound c.number_of.result c.number_of.ensures.below
    ∙ ap (λ p. length (list_of c.args.self.now.lists p)) c.number_of.ensures.number

pub returns-clause-listed : goal.returns-clause-listed
returns-clause-listed c = listed_is c.self.inside.slots c.self.inside.ends (rows_of c.self.inside.slots) (spare c.self.inside.index.rows) c.args.self.now c.self.view_is c.self.invariant.sound
