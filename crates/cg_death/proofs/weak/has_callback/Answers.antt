use Rattle.std.proofs.Common.{◌∙◌, ap}
use Rattle.std.specs.Prelude.{is_some}
use Rattle.cg_death.proofs.weak.has_callback.Goals as goal

pub returns : goal.returns
returns g c = c.is_some.ensures ∙ ap is_some c.callback_of.ensures
