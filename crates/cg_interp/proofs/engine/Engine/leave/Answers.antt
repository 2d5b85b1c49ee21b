use Rattle.cg_interp.proofs.FrameLemmas.{leaves}
use Rattle.cg_interp.proofs.engine.Engine.leave.Goals as goal

pub returns-clause-leaves : goal.returns-clause-leaves
returns-clause-leaves g c =
    λ script procedure next w none stands. leaves script c.args.self.now c.push_if.new.self c.args.locals procedure next w none stands c.given_up_by.result
    c.given_up_by.ensures.world c.given_up_by.ensures.holds c.push_if.ensures.top c.push_if.ensures.alone.store c.push_if.ensures.alone.policy
    c.push_if.ensures.alone.budget
