use Rattle.std.proofs.Common.{ap, ◌∙◌}
use Rattle.std.specs.Prelude.{slice_get}
use Rattle.indexmap.specs.IndexMap.{spare}
use Rattle.cg_arena.specs.Table.{rows_of}
use Rattle.cg_graph.specs.Places.{list_of}
use Rattle.cg_arena.specs.Links.{ListEnds}
use Rattle.cg_arena.proofs.Sizes.{end_read}
use Rattle.cg_arena.proofs.Lookups.{serial_of_slot, first_is}
use Rattle.cg_arena.proofs.arena.Arena.first.Goals as goal

pub returns : goal.returns
returns c =
    c.serial_at.ensures
    ∙ ap (serial_of_slot c.self.inside.slots) (c.first.ensures
    ∙ ap (λ (e : ListEnds). e.first) (end_read c.self.inside.ends c.self.invariant.sound.ten c.number_of.result c.number_of.ensures.below _))
    ∙ first_is c.self.inside.slots c.self.inside.ends (rows_of c.self.inside.slots) (spare c.self.inside.index.rows) c.args.self.now c.self.view_is
    c.self.invariant.sound c.number_of.result c.number_of.ensures.below
    ∙ ap (λ p. slice_get (list_of c.args.self.now.lists p) 0) c.number_of.ensures.number
