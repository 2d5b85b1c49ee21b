-- A run whose records are written: its turns, and what was written so far. (Ours.)
use Rattle.std.specs.Prelude.{◌≡◌, ◌⊎◌, ℕ, Bool, false, List, [], ◌∷◌, ◌++◌, codes, cond, flat_map, Option, None, Some}
use Rattle.std.specs.List.{list_any}
use Rattle.std.specs.Io.KnownBytes.{Appends}
use Rattle.cg_io.specs.Causes.{AppendsFront}
use Rattle.cg_script.specs.declared.Script.{Script}
use Rattle.cg_graph.specs.Store.{Store}
use Rattle.cg_machine.specs.declared.event.Event.{Event}
use Rattle.cg_machine.specs.World.{World, opening}
use Rattle.cg_records.specs.Text.{graph_text, numbered}
use Rattle.cg_records.specs.declared.graph.Graph.{Graph}
use Rattle.cg_interp.specs.declared.graphs.Detection.{Detection}
use Rattle.cg_interp.specs.declared.graphs.Detection.TheVariants.{First, Second}
use Rattle.cg_interp.specs.declared.turned.Turned.{Turned}
use Rattle.cg_interp.specs.declared.turned.Standing.{Standing}
use Rattle.cg_interp.specs.Engines.{State}
use Rattle.cg_interp.specs.Telling.{TurnsAfter, Advances}
use Rattle.cg_interp.specs.Running.{Ran, events_told, standing_after}
use Rattle.cg_interp.specs.Recorded.{Picture, RunShows, wants_memory}
use Rattle.cg_interp.specs.Graphs.{taken, unfinished_after, begins_record, taken_while, heading, text_before, text_after, detection_on}

-- the state of the run after a turn; None if a command was refused for memory
abbrev pub told_after : List Event → Turned → Option Standing
told_after waits answer = cond (list_any wants_memory (waits ++ events_told answer)) None (Some (standing_after answer))

-- the recorded pass of the next turn
abbrev pub recorded_next : Bool → State → Option Detection
recorded_next unfinished e = taken unfinished (detection_on e.activities)

-- what is recorded of a turn
abbrev pub text_of_turn : Script → Store → Store → Bool → Option Detection → List ℕ
text_of_turn script before after unfinished d = text_before script before unfinished d ++ text_after after d

-- A turn, and its records were written.
pub record RecordsTurn (script : Script) (old : State) (unfinished : Bool) (w : World) (left : List Event) (e : State) (then : Bool) (told : Option Standing)
    (before now : Option (List ℕ)) : Type 0 where
  pub waits : List Event
  pub answer : Turned
  pub is : told ≡ told_after waits answer
  pub turns : TurnsAfter script (Advances old left e) w left e waits answer
  pub still : then ≡ unfinished_after unfinished (recorded_next unfinished old)
  pub written : Appends before now (text_of_turn script old.store e.store unfinished (recorded_next unfinished old))

-- A turn, and a prefix of its records was written.
pub record CutsFindings (script : Script) (old : State) (unfinished : Bool) (w : World) (left : List Event) (e : State) (before now : Option (List ℕ)) : Type 0 where
  pub waits : List Event
  pub answer : Turned
  pub turns : TurnsAfter script (Advances old left e) w left e waits answer
  pub written : AppendsFront before now (text_of_turn script old.store e.store unfinished (recorded_next unfinished old))

-- A prefix of a turn's records was written, before the turn or after it.
abbrev pub CutsRecord : Script → State → Bool → World → List Event → State → Option (List ℕ) → Option (List ℕ) → Type 0
CutsRecord script old unfinished w left e before now = AppendsFront before now (text_before script old.store unfinished (recorded_next unfinished old))
    ⊎ CutsFindings script old unfinished w left e before now

-- the text of a graph, if it is recorded
abbrev pub graph_of_record : Detection → Graph → List ℕ
graph_of_record (First g) graph = graph_text graph ++ flat_map (numbered (codes "legacy")) graph.legacy
graph_of_record Second graph = graph_text graph ++ codes "stop\n"

-- what is written of a graph, if a record is unfinished or if none is
abbrev pub picture_text : Bool → Detection → Graph → List ℕ
picture_text unfinished d graph = heading unfinished d ++ graph_of_record d graph

abbrev pub text_if_taken : Bool → Option Detection → Graph → List ℕ
text_if_taken unfinished None graph = []
text_if_taken unfinished (Some d) graph = picture_text unfinished d graph

-- what is written of the graphs so far, and whether a record is unfinished then
abbrev pub text_so_far : Bool → List Picture → List ℕ
text_so_far unfinished [] = []
text_so_far unfinished (p ∷ pictures) = text_if_taken unfinished (taken_while unfinished p.detection) p.graph ++ text_so_far (begins_record p.detection) pictures

abbrev pub unfinished_so_far : Bool → List Picture → Bool
unfinished_so_far unfinished [] = unfinished
unfinished_so_far unfinished (p ∷ pictures) = unfinished_so_far (begins_record p.detection) pictures

-- A run of the machine so far, whose lines are dropped and whose records were written. No command of it was refused for
-- memory.
pub record RecordedSo (script : Script) (budget : ℕ) (before : Option (List ℕ)) (e : State) (unfinished : Bool) (now : Option (List ℕ)) : Type 0 where
  pub ran : Ran script budget None e None []
  pub pictures : List Picture
  pub shows : RunShows script (opening script budget) ran.steps pictures
  pub unrefused : list_any wants_memory ran.told ≡ false
  pub is : unfinished ≡ unfinished_so_far false pictures
  pub written : Appends before now (text_so_far false pictures)
