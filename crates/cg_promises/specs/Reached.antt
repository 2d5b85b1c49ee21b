-- What stays reachable in a full collection in which no frame begins.
use Rattle.std.specs.Prelude.{◌≡◌, ℕ, ◌<◌, List, ◌++◌, ◌∷◌, [], count_by}
use Rattle.cg_script.specs.declared.Script.{Script}
use Rattle.cg_graph.specs.Member.{Includes}
use Rattle.cg_graph.specs.Object.{serials}
use Rattle.cg_graph.specs.Holdings.{graph_of}
use Rattle.cg_graph.specs.Reach.{Reach, edges}
use Rattle.cg_machine.specs.World.{World}
use Rattle.cg_machine.specs.Run.{StepTaken, IsRun, events_of, world_after}
use Rattle.cg_laws.specs.Laws.{IsRooted, StartsFull, is_enter, is_stop}

-- reachable from an object that is dying or held by a root
abbrev pub IsReached : World → ℕ → Type 0
IsReached w o = Reach (IsRooted w) (Includes (serials w.objects)) (edges (graph_of w.objects)) o

-- What is reachable when a full collection starts is reachable when it stops, if no frame began.
abbrev pub ReachedIsKept : Type 0
ReachedIsKept = (script : Script) (budget : ℕ) (before during : List StepTaken) (stop : StepTaken) → IsRun script budget (before ++ during ++ stop ∷ [])
    → StartsFull (world_after script budget before) → count_by is_enter (events_of during ++ stop.events) ≡ 0 → count_by is_stop (events_of during) ≡ 0 → 0 < count_by is_stop stop.events
    → (o : ℕ) → IsReached (world_after script budget before) o → IsReached stop.world o
