use Rattle.cg_commands.proofs.BindingLemmas.{unbinds-performs, unbinds-refused}
use Rattle.cg_commands.proofs.bindings.unbind.Goals as goal

pub returns-in-Some : goal.returns-in-Some
returns-in-Some g c = unbinds-performs _ c.sound.ensures _ _ _ c.in-Some.ensures.old _ _ c.in-Some.ensures.rest c.given_up.ensures

pub returns-in-None : goal.returns-in-None
returns-in-None g c = unbinds-refused _ _ _ c.in-None.ensures.old _ c.in-None.ensures.rest
