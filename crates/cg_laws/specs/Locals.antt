-- The locals of frames live. The layers that run frames need this. (Ours.)
use Rattle.std.specs.Prelude.{◌≡◌, ℕ, List, Some}
use Rattle.cg_script.specs.declared.Script.{Script}
use Rattle.cg_graph.specs.Member.{Includes}
use Rattle.cg_graph.specs.Object.{serials}
use Rattle.cg_machine.specs.World.{World, Framed, Frame}
use Rattle.cg_machine.specs.Run.{StepTaken, IsRun, world_after}
use Rattle.cg_represents.specs.Orderly.{HasFunction}

-- The subject of each frame lives. So does its function, which is a function.
pub record HasLivingLocals (w : World) : Type 0 where
  pub subjects : (f : Frame) → Includes w.stack (Framed f) → Includes (serials w.objects) f.subject
  pub functions : (f : Frame) → Includes w.stack (Framed f) → (g : ℕ) → f.function ≡ Some g → HasFunction w.objects g

-- This holds in every world of a run.
abbrev pub LocalsLive : Type 0
LocalsLive = (script : Script) (budget : ℕ) (steps : List StepTaken) → IsRun script budget steps → HasLivingLocals (world_after script budget steps)
