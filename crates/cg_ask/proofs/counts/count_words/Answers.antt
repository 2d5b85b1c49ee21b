use Rattle.std.proofs.Common.{length, arith, ◌<◌}
use Rattle.std.proofs.lemmas.List.{length-map}
use Rattle.cg_snapshot.specs.declared.heap.Member.{Member}
use Rattle.cg_ask.specs.Asked.{words_of}
use Rattle.cg_ask.proofs.Counting.{so_first, so_room, so_more, so_all, words_row}
use Rattle.cg_ask.proofs.counts.count_words.Goals as goal

pub members-init : goal.members-init
members-init c = so_first (length c.args.members.now) (words_of c.args.members.now) c.in_ok-counts.counts.items (c.in_ok-counts.ensures.items_if_clones_equal (λ y e. e))

pub add_row-requires : goal.add_row-requires
add_row-requires c =
    let within : c.members.member-index < length (words_of c.args.members.now) = omega (arith, c.members-test.true, length-map c.args.members.now (λ (m : Member). m.untold)) in
    so_room (length c.args.members.now) (words_of c.args.members.now) c.members.member-index c.members.counts.items c.as_slice.result.now within
    (words_row c.args.members.now c.members.member-index c.member-item.result c.as_slice.result.now c.members-test.true c.member-item.is c.as_slice.ensures)
    c.requires c.members.invariant

pub members-preserved : goal.members-preserved
members-preserved c =
    let within : c.members.member-index < length (words_of c.args.members.now) = omega (arith, c.members-test.true, length-map c.args.members.now (λ (m : Member). m.untold)) in
    so_more (length c.args.members.now) (words_of c.args.members.now) c.members.member-index c.members.counts.items c.add_row.new.counts.items
    c.as_slice.result.now within (words_row c.args.members.now c.members.member-index c.member-item.result c.as_slice.result.now c.members-test.true
    c.member-item.is c.as_slice.ensures) c.members.invariant c.add_row.ensures

pub returns : goal.returns
returns c = so_all (length c.args.members.now) (words_of c.args.members.now) c.members.member-index c.members.counts.items
    (omega (arith, c.members-test.false, length-map c.args.members.now (λ (m : Member). m.untold))) c.members.invariant
