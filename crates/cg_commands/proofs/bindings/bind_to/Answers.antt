use Rattle.cg_commands.proofs.BindingLemmas.{binds-performs}
use Rattle.cg_commands.proofs.bindings.bind_to.Goals as goal

pub returns : goal.returns
returns g c = binds-performs _ c.sound.ensures _ _ _ c.bind-old.ensures.old _ _ _ c.bind-old.ensures.rest c.given_up.ensures
