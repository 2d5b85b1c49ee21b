use Rattle.std.proofs.Common.{take, get_or, length, ◌≡◌, ◌<◌, arith, refl}
use Rattle.std.proofs.lemmas.List.{length-take-le, get_or_read_under}
use Rattle.cg_search.proofs.Counting.{few_occurrences}
use Rattle.cg_search.proofs.count.add_row.Goals as goal

pub overflow_add-index_mut : goal.overflow_add-index_mut
overflow_add-index_mut c =
    let at = get_or c.args.row.now c.targets.target-index 0 in
    let done = take c.targets.target-index c.args.row.now in
    let room = c.requires at in
    let within : at < length c.args.counts.now.items = omega (arith, c.if-target-len.true, c.len.ensures, c.targets.invariant.len) in
    let here : at < length c.targets.counts.items = omega (arith, c.if-target-len.true, c.len.ensures) in
    let now = c.targets.invariant.adds at within in
    let few = few_occurrences at done in
    let short : length done ≡ c.targets.target-index = length-take-le c.targets.target-index c.args.row.now (omega (arith, c.targets-test.true)) in
    let value : c.index_mut.result.now ≡ get_or c.targets.counts.items at 0 = get_or_read_under c.targets.counts.items at (length c.targets.counts.items)
    c.index_mut.result.now 0 c.index_mut.ensures.value here refl in
    omega (arith, room, now, few, short, value, c.targets-test.true)
