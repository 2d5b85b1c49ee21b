-- The records of a run: for each collection what it examined, and what it found, in each of its two reachability passes. (Ours.
-- Their data and their text are those of `cg_records`.)
use Rattle.std.specs.Prelude.{◌≡◌, ℕ, ◌==◌, Bool, false, List, [], ◌∷◌, ◌++◌, map, filter, Option, None, Some}
use Rattle.std.specs.List.{list_any}
use Rattle.std.specs.Io.KnownBytes.{Appends}
use Rattle.cg_io.specs.Causes.{AppendsFront}
use Rattle.cg_value.specs.declared.Place.TheVariants.{Gen, Cand, Legacy}
use Rattle.cg_script.specs.declared.Script.{Script}
use Rattle.cg_graph.specs.Member.{includes}
use Rattle.cg_graph.specs.Value.{references}
use Rattle.cg_graph.specs.Object.{entries_of, serials_at}
use Rattle.cg_machine.specs.declared.event.Event.{Event}
use Rattle.cg_machine.specs.declared.event.Event.TheVariants.{Refused}
use Rattle.cg_machine.specs.Refusals.{no_memory}
use Rattle.cg_machine.specs.World.{World, Outcome, Activity, TopLevel, Framed, Releasing, Dying, Collecting, ShuttingDown, CollectPhase, Start, Split, opening}
use Rattle.cg_machine.specs.Holdings.{in_degree}
use Rattle.cg_machine.specs.Collect.{SameMembers, merged, has_legacy}
use Rattle.cg_machine.specs.Run.{StepTaken, IsWholeRun, events_of}
use Rattle.cg_records.specs.declared.graph.Member.{Member}
use Rattle.cg_records.specs.declared.graph.Graph.{Graph}
use Rattle.cg_records.specs.declared.graph.Rec.{Rec}
use Rattle.cg_records.specs.Members.{member}
use Rattle.cg_records.specs.Reading.{recorded}
use Rattle.cg_records.specs.Text.{text}
use Rattle.cg_interp.specs.declared.graphs.Detection.{Detection}
use Rattle.cg_interp.specs.declared.graphs.Detection.TheVariants.{First, Second}

-- the pass in the step of a collection, by its generation and its phase
abbrev pub detection_at : ℕ → CollectPhase → Option Detection
detection_at g Start = Some (First g)
detection_at g Split = Some Second
detection_at g phase = None

-- the pass in the step of an activity
abbrev pub detection_of : Activity → Option Detection
detection_of (TopLevel commands) = None
detection_of (Framed f) = None
detection_of (Releasing references) = None
detection_of (Dying d) = None
detection_of (Collecting c) = detection_at c.generation c.phase
detection_of (ShuttingDown started) = None

-- the pass in the next step, with these activities
abbrev pub next_detection : List Activity → Option Detection
next_detection [] = None
next_detection (top ∷ below) = detection_of top

-- what it examines: the objects of the generation and the younger ones; or the condemned objects
abbrev pub candidates : Detection → World → List ℕ
candidates (First g) w = serials_at (merged g w).objects (Gen g)
candidates Second w = serials_at w.objects Cand

-- What it finds unreachable, after its step: first the condemned and uncollectable objects, and then the final set.
abbrev pub lost_at : Detection → World → List ℕ
lost_at (First g) after = serials_at after.objects Cand ++ serials_at after.objects Legacy
lost_at Second after = serials_at after.objects Cand

-- the uncollectable ones among them
abbrev pub legacy_at : Detection → World → List ℕ
legacy_at (First g) after = serials_at after.objects Legacy
legacy_at Second after = []

-- An object among these: how often it is held, whether its class has a legacy finalizer, and its references to these.
abbrev pub member_among : Script → World → List ℕ → ℕ → Member
member_among script w objects o = member o (in_degree w o) (has_legacy script w o) (filter (includes objects) (references (entries_of w.objects o)))

-- The graph of a pass whose step leads from one world to another. Members and sets may be in any order.
pub record IsGraphOf (script : Script) (d : Detection) (w after : World) (g : Graph) : Type 0 where
  pub order : List ℕ
  pub all : SameMembers order (candidates d w)
  pub members : g.members ≡ map (member_among script w (candidates d w)) order
  pub lost : SameMembers g.lost (lost_at d after)
  pub legacy : SameMembers g.legacy (legacy_at d after)

-- a pass, and its graph
pub record Picture : Type 0 where
  pub detection : Detection
  pub graph : Graph

-- a pass and its graph
abbrev pub picture : Detection → Graph → Picture
picture d g = record { detection = d; graph = g }

-- what a step shows: the graph of its pass, if it makes one
abbrev pub ShowsStep : Script → World → World → Option Detection → List Picture → Type 0
ShowsStep script w after None pictures = pictures ≡ []
ShowsStep script w after (Some d) pictures = (g : Graph) × (pictures ≡ picture d g ∷ []) × IsGraphOf script d w after g

-- what a run from a world shows, step by step
abbrev pub RunShows : Script → World → List StepTaken → List Picture → Type 0
RunShows script w [] pictures = pictures ≡ []
RunShows script w (step ∷ steps) pictures = (now later : List Picture) × (pictures ≡ now ++ later) × ShowsStep script w step.world (next_detection w.stack) now × RunShows script step.world steps later

-- the second graph of a record is the next one
abbrev pub second_in : Detection → Graph → Option Graph
second_in (First g) graph = None
second_in Second graph = Some graph

-- if it is a second one
abbrev pub second_of : List Picture → Option Graph
second_of [] = None
second_of (p ∷ later) = second_in p.detection p.graph

-- a first graph begins a record
abbrev pub begins : Detection → Graph → Option Graph → List Rec
begins (First g) graph second = recorded g graph second ∷ []
begins Second graph second = []

-- A record of each collection: its first graph, and the second one if the run reached it.
abbrev pub records_of : List Picture → List Rec
records_of [] = []
records_of (p ∷ later) = begins p.detection p.graph (second_of later) ++ records_of later

-- These are records of a run. (A run has several lists of records, since members and sets may be in any order.)
pub record HasRecords (script : Script) (budget : ℕ) (steps : List StepTaken) (records : List Rec) : Type 0 where
  pub pictures : List Picture
  pub shows : RunShows script (opening script budget) steps pictures
  pub are : records ≡ records_of pictures

-- whether an event reports a command refused for memory
abbrev pub wants_memory : Event → Bool
wants_memory (Refused reason) = reason == no_memory
wants_memory event = false

-- The text of records of a whole run of the script was written. The run ended with this answer, and no command was refused for
-- memory.
pub record WroteRecords (script : Script) (budget : ℕ) (outcome : Outcome) (before now : Option (List ℕ)) : Type 0 where
  pub steps : List StepTaken
  pub whole : IsWholeRun script budget outcome steps
  pub unrefused : list_any wants_memory (events_of steps) ≡ false
  pub records : List Rec
  pub has : HasRecords script budget steps records
  pub written : Appends before now (text records)

-- A prefix of the text of records of a whole run of the script was written.
pub record WroteRecordsPart (script : Script) (budget : ℕ) (before now : Option (List ℕ)) : Type 0 where
  pub steps : List StepTaken
  pub outcome : Outcome
  pub whole : IsWholeRun script budget outcome steps
  pub records : List Rec
  pub has : HasRecords script budget steps records
  pub written : AppendsFront before now (text records)
