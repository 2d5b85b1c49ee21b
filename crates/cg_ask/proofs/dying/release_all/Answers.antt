use Rattle.std.proofs.Common.{get_or, arith}
use Rattle.cg_search.proofs.Places.{includes_next}
use Rattle.cg_ask.proofs.Released.{releases_none, releases_next, releases_all, one_left}
use Rattle.cg_ask.proofs.dying.release_all.Goals as goal

pub targets-init : goal.targets-init
targets-init c = releases_none c.args.left.now.items c.args.dead.now.items c.args.waits.now.items

pub release-requires-clause-within : goal.release-requires-clause-within
release-requires-clause-within c =
    let below = c.requires.within _ (includes_next c.args.row.now c.targets.target-index 0 c.targets-test.true) in
    omega (arith, below, c.targets.invariant.len)

pub release-requires-clause-long : goal.release-requires-clause-long
release-requires-clause-long c = omega (arith, c.requires.long, c.targets.invariant.len, c.targets.invariant.long)

pub release-requires-clause-some : goal.release-requires-clause-some
release-requires-clause-some c =
    one_left c.args.row.now c.args.left.now.items c.targets.left.items c.targets.target-index c.targets-test.true
    (c.requires.some (get_or c.args.row.now c.targets.target-index 0)) (c.targets.invariant.leaves (get_or c.args.row.now c.targets.target-index 0))

pub targets-preserved : goal.targets-preserved
targets-preserved c =
    releases_next c.args.row.now c.args.left.now.items c.targets.left.items c.release.new.left.items c.args.dead.now.items c.targets.dead.items
    c.release.new.dead.items c.args.waits.now.items c.targets.waits.items c.release.new.waits.items c.targets.target-index c.targets-test.true
    c.targets.invariant c.in_ok-release.ensures

pub returns : goal.returns
returns c = releases_all c.args.row.now c.args.left.now.items c.targets.left.items c.args.dead.now.items c.targets.dead.items c.args.waits.now.items
    c.targets.waits.items c.targets.target-index c.targets-test.false c.targets.invariant
