-- Each line of a run can be printed. (Ours.)
use Rattle.std.specs.Prelude.{ℕ, ◌≤◌, List, length}
use Rattle.std.specs.List.{All}
use Rattle.cg_script.specs.declared.Script.{Script}
use Rattle.cg_script.specs.ReadScripts.{WasRead}
use Rattle.cg_script.specs.Texts.{TextsAreKnown}
use Rattle.cg_graph.specs.Member.{Includes}
use Rattle.cg_machine.specs.declared.event.Event.{Event}
use Rattle.cg_machine.specs.Lines.{IsPrintable}
use Rattle.cg_machine.specs.Run.{StepTaken, IsRun, events_of}

-- If a script uses only its own texts, each of at most 1,024 bytes, every line of every run can be printed.
abbrev pub LinesArePrintable : Type 0
LinesArePrintable = (script : Script) (budget : ℕ) (steps : List StepTaken) → TextsAreKnown script → All (λ text. length text ≤ 1024) script.names → IsRun script budget steps
    → (event : Event) → Includes (events_of steps) event → IsPrintable script.names event

-- This holds for each script that was read.
abbrev pub ReadLinesArePrintable : Type 0
ReadLinesArePrintable = (script : Script) (budget : ℕ) (steps : List StepTaken) → WasRead script → IsRun script budget steps
    → (event : Event) → Includes (events_of steps) event → IsPrintable script.names event
