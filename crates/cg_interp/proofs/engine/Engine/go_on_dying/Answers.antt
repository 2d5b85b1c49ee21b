use Rattle.std.proofs.Common.{refl}
use Rattle.cg_death.specs.declared.answer.DeathStep.TheVariants as answer_of
use Rattle.cg_interp.proofs.ActivityLemmas.{given_sound}
use Rattle.cg_interp.proofs.RoomStays.{keeps_then}
use Rattle.cg_interp.proofs.ReleaseLemmas.{death_begun}
use Rattle.cg_interp.proofs.DeathActions.{calls_none}
use Rattle.cg_interp.proofs.DeathTurns.{tells_on_top, ends_on_top, hands_on_top, calls_on_top}
use Rattle.cg_interp.proofs.engine.Engine.go_on_dying.Goals as goal

pub unreachable-requires : goal.unreachable-requires
unreachable-requires g c = c.act_on_top.ensures.more c.in-Continue.is

pub returns-in-Gone-clause-turns : goal.returns-in-Gone-clause-turns
returns-in-Gone-clause-turns g c = λ w stands kept.
    ends_on_top c.args.script.now w c.args.self.now c.act_on_top.new.self answer_of.Gone c.in-Gone.ensures.acts stands kept refl

pub returns-in-Emit-clause-turns : goal.returns-in-Emit-clause-turns
returns-in-Emit-clause-turns g c = λ w stands kept.
    tells_on_top c.args.script.now w c.args.self.now c.act_on_top.new.self (answer_of.Emit c.in-Emit.event) c.in-Emit.ensures.acts stands kept c.in-Emit.event
    c.count_freed.new.self refl c.count_freed.ensures.store c.count_freed.ensures.activities c.count_freed.ensures.budget c.count_freed.ensures.counts

pub start-requires-clause-few : goal.start-requires-clause-few
start-requires-clause-few g c = λ call. let cause = c.in-Frame.ensures.cause in absurd (calls_none cause.0.phase c.in-Frame.spec.sort cause.1 call)

pub start-requires-clause-live : goal.start-requires-clause-live
start-requires-clause-live g c = λ some call. let cause = c.in-Frame.ensures.cause in absurd (calls_none cause.0.phase c.in-Frame.spec.sort cause.1 call)

pub returns-in-Frame-clause-turns : goal.returns-in-Frame-clause-turns
returns-in-Frame-clause-turns g c = λ w stands kept.
    calls_on_top c.args.script.now w c.args.self.now c.act_on_top.new.self (answer_of.Frame c.in-Frame.spec) c.in-Frame.ensures.acts stands kept c.in-Frame.spec
    c.start.new.self c.start.result refl (λ u standing. c.start.ensures.starts c.args.script.now u standing)

pub die-requires-clause-stands : goal.die-requires-clause-stands
die-requires-clause-stands g c =
    let at = c.requires.stands in
    let gives = hands_on_top c.args.script.now at.world c.args.self.now c.act_on_top.new.self (answer_of.Died c.in-Died.object) c.in-Died.ensures.acts at.stands at.kept c.in-Died.object refl in
    (c.args.script.now, gives.before, gives.stands, given_sound c.args.script.now at.world c.in-Died.object c.args.self.now.first_budget c.act_on_top.new.self at.kept gives)

pub returns-in-Died-clause-turns : goal.returns-in-Died-clause-turns
returns-in-Died-clause-turns g c = λ w stands kept.
    let gives = hands_on_top c.args.script.now w c.args.self.now c.act_on_top.new.self (answer_of.Died c.in-Died.object) c.in-Died.ensures.acts stands kept c.in-Died.object refl in
    death_begun c.args.script.now w c.in-Died.object c.act_on_top.new.self c.die.new.self gives (c.die.ensures.begins c.args.script.now gives.before gives.stands)

pub returns-in-Emit-clause-keeps : goal.returns-in-Emit-clause-keeps
returns-in-Emit-clause-keeps g c = keeps_then _ _ _ c.act_on_top.ensures.keeps c.count_freed.ensures.keeps

pub returns-in-Frame-clause-keeps : goal.returns-in-Frame-clause-keeps
returns-in-Frame-clause-keeps g c = keeps_then _ _ _ c.act_on_top.ensures.keeps c.start.ensures.keeps

pub returns-in-Died-clause-keeps : goal.returns-in-Died-clause-keeps
returns-in-Died-clause-keeps g c = keeps_then _ _ _ c.act_on_top.ensures.keeps c.die.ensures.keeps
