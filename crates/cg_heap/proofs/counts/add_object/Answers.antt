use Rattle.std.proofs.Common.{refl, ap, sym, subst, ◌∙◌, ◌∷◌, []}
use Rattle.cg_graph.specs.Holdings.{occurrences}
use Rattle.cg_graph.specs.Value.{references}
use Rattle.cg_arena.specs.Nodes.{IsPlace, new_node, with_node, with_room, counted_up}
use Rattle.cg_heap.proofs.CountAll.{others_live, others_room, is_place-first}
use Rattle.cg_heap.proofs.counts.add_object.Goals as goal

pub add_held-near-requires-clause-place : goal.add_held-near-requires-clause-place
add_held-near-requires-clause-place c = subst IsPlace (sym c.first_place.ensures) (is_place-first c.args.code)

pub count_all-requires-clause-live : goal.count_all-requires-clause-live
count_all-requires-clause-live c =
    λ s there. others_live c.args.arena.now c.add_held-near.new.self c.args.serial _ _ refl c.add_held-near.ensures.adds s (c.requires.live s there)

pub count_all-requires-clause-room : goal.count_all-requires-clause-room
count_all-requires-clause-room c = λ s. others_room c.args.arena.now c.add_held-near.new.self c.args.serial _ _ refl c.add_held-near.ensures.adds s
    (occurrences s (references c.args.parts.now)) (c.requires.room s)

pub returns : goal.returns
returns c = (
  c.add_held-near.new.self.room,
  c.count_all.ensures ∙ ap (counted_up (references c.args.parts.now)) (c.add_held-near.ensures.adds
      ∙ ap (λ p. counted_up (c.args.serial ∷ []) (with_node c.args.serial (new_node c.args.code c.args.class c.args.body p)
      (with_room c.add_held-near.new.self.room c.args.arena.now))) c.first_place.ensures),
)
