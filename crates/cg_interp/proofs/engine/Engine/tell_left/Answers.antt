use Rattle.std.proofs.Common.{◌∙◌, ap}
use Rattle.cg_heap.specs.Calls.{object_number}
use Rattle.cg_interp.specs.Engines.{State}
use Rattle.cg_interp.proofs.ShutdownTurns.{tells_left}
use Rattle.cg_interp.proofs.engine.Engine.tell_left.Goals as goal

pub returns : goal.returns
returns g c = record { left = λ script w stands. tells_left script c.args.self.now w c.live.result stands c.requires.sound (c.live.ensures ∙ ap (λ (e : State). object_number e.store) c.self.view_is) }
