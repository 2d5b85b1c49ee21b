use Rattle.std.proofs.Common.{◌≡◌, refl, sym, ap, ◌∙◌, subst, arith}
use Rattle.std.specs.Prelude.{IfSome, slice_index_or}
use Rattle.slab.specs.Slab.{ContainsKey}
use Rattle.indexmap.specs.IndexMap.{spare}
use Rattle.cg_arena.specs.Links.{ListEnds, no_ends, ends_joined, tied, all_placed, chain_from}
use Rattle.cg_arena.specs.Table.{ends_at, rows_of}
use Rattle.cg_arena.proofs.Sizes.{end_read}
use Rattle.cg_arena.proofs.Merges.{sizes_fit, seam_there, merged_kept, merged_view}
use Rattle.cg_arena.proofs.arena.Arena.merge.Goals as goal
use Rattle.cg_arena.proofs.arena.Arena.merge.Goals.{After-place_all}

-- the ends that the two places have
abbrev leaving : After-place_all → ListEnds
leaving c = ends_at c.self.inside.ends c.number_of-leaving.result

abbrev joined : After-place_all → ListEnds
joined c = ends_at c.self.inside.ends c.number_of-joined.result

read_leaving : (c : After-place_all) (e : ListEnds) → slice_index_or c.self.inside.ends c.number_of-leaving.result e ≡ leaving c
read_leaving c = end_read c.self.inside.ends c.self.invariant.sound.ten c.number_of-leaving.result c.number_of-leaving.ensures.below

read_joined : (c : After-place_all) (e : ListEnds) → slice_index_or c.self.inside.ends c.number_of-joined.result e ≡ joined c
read_joined c = end_read c.self.inside.ends c.self.invariant.sound.ten c.number_of-joined.result c.number_of-joined.ensures.below

placed_is : (c : After-place_all) → c.place_all.new.slots
    ≡ all_placed (chain_from c.self.inside.slots (leaving c).size (leaving c).first) c.args.to c.self.inside.slots
placed_is c =
    let size = c.size.ensures ∙ ap (λ (e : ListEnds). e.size) (read_leaving c _) in
    let first = c.first.ensures ∙ ap (λ (e : ListEnds). e.first) (read_leaving c _) in
    c.place_all.ensures
    ∙ ap (λ n. all_placed (chain_from c.self.inside.slots n c.first.result) c.args.to c.self.inside.slots) size
    ∙ ap (λ at. all_placed (chain_from c.self.inside.slots (leaving c).size at) c.args.to c.self.inside.slots) first

-- what holds of the ends that were read holds of those two
both_read : (c : After-place_all) (P : ListEnds → ListEnds → Type 0) (d e : ListEnds) → P (slice_index_or c.self.inside.ends c.number_of-joined.result d)
    (slice_index_or c.self.inside.ends c.number_of-leaving.result e) → P (joined c) (leaving c)
both_read c P d e = subst (λ i. i) (λ i. P (read_joined c d i) (read_leaving c e i))

pub join-requires : goal.join-requires
join-requires c =
    let at = (goal.at.join-requires c).After-place_all in
    let fit = sizes_fit c.self.inside.slots c.self.inside.ends (rows_of c.self.inside.slots) c.self.invariant.sound c.number_of-leaving.result c.number_of-joined.result
    c.number_of-leaving.ensures.below c.number_of-joined.ensures.below
    (λ same. c.requires.differ (sym c.number_of-leaving.ensures.number ∙ same ∙ c.number_of-joined.ensures.number)) in
    let there = seam_there c.self.inside.slots c.place_all.new.slots (tied (joined at).last (leaving at).first c.place_all.new.slots) c.self.inside.ends
    c.self.inside.index c.self.invariant (spare c.self.inside.index.rows) c.args.self.now c.self.view_is
    c.args.from c.args.to c.number_of-leaving.result c.number_of-joined.result c.number_of-leaving.ensures.number c.number_of-joined.ensures.number
    c.number_of-leaving.ensures.below c.number_of-joined.ensures.below c.requires.differ
    (placed_is at) refl (ends_joined (joined at) (leaving at)) refl no_ends refl in
    record {
      size = omega (arith, fit, ap (λ (e : ListEnds). e.size) (read_leaving at c.index-self-leaving.result), ap (λ (e : ListEnds). e.size) (read_joined at c.index-self-joined.result));
      last = subst (λ (e : ListEnds). IfSome e.last (ContainsKey c.place_all.new.slots)) (sym (read_joined at _)) there.0;
      first = subst (λ (e : ListEnds). IfSome e.first (ContainsKey c.place_all.new.slots)) (sym (read_leaving at _)) there.1;
    }

pub invariant_of-self : goal.invariant_of-self
invariant_of-self c =
    let at = (goal.at.invariant_of-self c).After-place_all in
    merged_kept c.self.inside.slots c.place_all.new.slots c.join.new.slots c.self.inside.ends c.self.inside.index c.self.invariant (spare c.self.inside.index.rows) c.args.self.now c.self.view_is
    c.args.from c.args.to c.number_of-leaving.result c.number_of-joined.result c.number_of-leaving.ensures.number c.number_of-joined.ensures.number
    c.number_of-leaving.ensures.below c.number_of-joined.ensures.below c.requires.differ
    (placed_is at) (both_read at (λ d e. c.join.new.slots ≡ tied d.last e.first c.place_all.new.slots) _ _ c.join.ensures.slots)
    c.join.new.front (both_read at (λ d e. c.join.new.front ≡ ends_joined d e) _ _ c.join.ensures.ends) c.none.result c.none.ensures

pub returns : goal.returns
returns c =
    let at = (goal.at.returns c).After-place_all in
    merged_view c.self.inside.slots c.place_all.new.slots c.join.new.slots c.self.inside.ends c.self.inside.index c.self.invariant (spare c.self.inside.index.rows) c.args.self.now c.self.view_is
    c.args.from c.args.to c.number_of-leaving.result c.number_of-joined.result c.number_of-leaving.ensures.number c.number_of-joined.ensures.number
    c.number_of-leaving.ensures.below c.number_of-joined.ensures.below c.requires.differ
    (placed_is at) (both_read at (λ d e. c.join.new.slots ≡ tied d.last e.first c.place_all.new.slots) _ _ c.join.ensures.slots)
    c.join.new.front (both_read at (λ d e. c.join.new.front ≡ ends_joined d e) _ _ c.join.ensures.ends) c.none.result c.none.ensures
