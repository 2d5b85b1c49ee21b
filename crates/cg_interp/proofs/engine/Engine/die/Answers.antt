use Rattle.std.proofs.Common.{sym, subst, refl}
use Rattle.cg_interp.specs.Engines.{StandsFor}
use Rattle.cg_interp.proofs.DeathLemmas.{none_waits, dies}
use Rattle.cg_interp.proofs.RoomStays.{keeps_pushed}
use Rattle.cg_interp.proofs.engine.Engine.die.Goals as goal

pub begin-death-requires-clause-none_waits : goal.begin-death-requires-clause-none_waits
begin-death-requires-clause-none_waits g c =
    let s = c.requires.stands in
    none_waits s.0 _ c.args.object s.1 (subst (λ e. StandsFor s.0 e s.1) (sym c.self.view_is) s.2) s.3

pub returns-clause-begins : goal.returns-clause-begins
returns-clause-begins g c = λ script w stands.
    let before = subst (λ e. StandsFor script e w) (sym c.self.view_is) stands in
    dies script _ _ c.args.object c.begin-death.result w before (c.begin-death.ensures.begins w before.represents) c.begin-death.ensures.stack
    c.begin-death.ensures.settled refl c.push.ensures.top refl

pub returns-clause-keeps : goal.returns-clause-keeps
returns-clause-keeps g c = keeps_pushed _ _ _ _ c.self.view_is c.begin-death.ensures.objects c.push.ensures.top c.push.ensures.room refl
