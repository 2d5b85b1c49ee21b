use Rattle.std.proofs.Common.{arith}
use Rattle.cg_ask.proofs.Released.{released_new, released_dead, released_still}
use Rattle.cg_ask.proofs.dying.release.Goals as goal
use Rattle.cg_ask.proofs.dying.release.Goals.{else-number-eq0-via-then-number-eq0+else-not-index, else-number-eq0-via-else-number-eq0}

pub returns-in_ok-push : goal.returns-in_ok-push
returns-in_ok-push c =
    released_new c.args.left.now.items c.args.dead.now.items c.args.waits.now.items c.args.target c.index.result.now c.requires.within c.requires.long
    c.requires.some c.index.ensures c.push.new.self.items c.index-then-number-eq0.result.now c.if-number-eq0.true c.index-then-number-eq0.ensures
    c.if-not-index.true c.in_ok-push.ensures.items

pub returns-else-number-eq0 : goal.returns-else-number-eq0
returns-else-number-eq0 c = elim c.else-number-eq0.branch [
  | else-number-eq0-via-then-number-eq0+else-not-index w ↦ released_dead c.args.left.now.items c.args.dead.now.items c.args.waits.now.items c.args.target
      c.index.result.now c.requires.within c.requires.long c.requires.some c.index.ensures w.index-then-number-eq0.result.now w.index-then-number-eq0.ensures
      w.if-not-index.false
  | else-number-eq0-via-else-number-eq0 w ↦ released_still c.args.left.now.items c.args.dead.now.items c.args.waits.now.items c.args.target c.index.result.now
      c.requires.within c.requires.long c.requires.some c.index.ensures (omega (arith, w.if-number-eq0.false))
]
