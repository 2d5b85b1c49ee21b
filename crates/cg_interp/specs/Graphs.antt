-- The graphs of records, by the heap. (Ours; their text is that of `cg_records`.)
use Rattle.std.specs.Prelude.{ℕ, zero, suc, ◌+◌, ◌≤◌, Bool, true, false, List, [], ◌∷◌, ◌++◌, map, filter, flat_map, codes, decimal, Option, None, Some}
use Rattle.cg_value.specs.declared.Place.{Place}
use Rattle.cg_value.specs.declared.Place.TheVariants.{Gen, Cand, Legacy}
use Rattle.cg_script.specs.declared.Script.{Script}
use Rattle.cg_graph.specs.Value.{references}
use Rattle.cg_graph.specs.Object.{same_place}
use Rattle.cg_graph.specs.Store.{Store, entries_of, place_of, count_of, list_at}
use Rattle.cg_machine.specs.Collect.{merged_place}
use Rattle.cg_collect.specs.Starting.{has_legacy_in}
use Rattle.cg_collect.specs.Stages.{stage_of}
use Rattle.cg_collect.specs.declared.stage.Stage.{Stage}
use Rattle.cg_collect.specs.declared.stage.Stage.TheVariants as stage
use Rattle.cg_records.specs.declared.graph.Member.{Member}
use Rattle.cg_records.specs.declared.graph.Graph.{Graph}
use Rattle.cg_records.specs.Members.{member}
use Rattle.cg_records.specs.Reading.{graph}
use Rattle.cg_records.specs.Text.{numbered, flag, member_text}
use Rattle.cg_interp.specs.declared.graphs.Detection.{Detection}
use Rattle.cg_interp.specs.declared.graphs.Detection.TheVariants.{First, Second}
use Rattle.cg_interp.specs.declared.activity.Activity.{Activity}
use Rattle.cg_interp.specs.declared.activity.Activity.TheVariants as activity

-- a generation is 0, 1 or 2
abbrev pub IsOfGenerations : Detection → Type 0
IsOfGenerations (First g) = g ≤ 2
IsOfGenerations Second = Unit {0}

-- whether a pass examines the objects in a place: in the generation or a younger one, or among the condemned
abbrev pub is_candidate_at : Detection → Place → Bool
is_candidate_at (First g) p = same_place (merged_place g p) (Gen g)
is_candidate_at Second p = same_place p Cand

-- the objects of the generations below one, youngest first
abbrev pub generations_below : Store → ℕ → List ℕ
generations_below store zero = []
generations_below store (suc g) = generations_below store g ++ list_at store (Gen g)

-- the objects that a pass examines
abbrev pub candidates_in : Store → Detection → List ℕ
candidates_in store (First g) = generations_below store (g + 1)
candidates_in store Second = list_at store Cand

-- those of some references that refer to such objects
abbrev pub among : Store → Detection → List ℕ → List ℕ
among store d references = filter (λ o. is_candidate_at d (place_of store o)) references

-- an object as a member of a graph
abbrev pub member_in : Script → Store → Detection → ℕ → Member
member_in script store d o = member o (count_of store o) (has_legacy_in script store o) (among store d (references (entries_of store o)))

-- the unreachable objects, and the uncollectable ones
abbrev pub lost_in : Store → Detection → List ℕ
lost_in store (First g) = list_at store Cand ++ list_at store Legacy
lost_in store Second = list_at store Cand

abbrev pub legacy_in : Store → Detection → List ℕ
legacy_in store (First g) = list_at store Legacy
legacy_in store Second = []

-- the graph of a pass, by the heaps before and after its step
abbrev pub graph_in : Script → Detection → Store → Store → Graph
graph_in script d before after = graph (map (member_in script before d) (candidates_in before d)) (lost_in after d) (legacy_in after d)

-- the line of a member
abbrev pub member_line : ℕ → ℕ → Bool → List ℕ
member_line serial degree legacy = codes "m " ++ decimal serial ++ 32 ∷ decimal degree ++ 32 ∷ flag legacy ++ 10 ∷ []

-- some objects as members
abbrev pub members_text : Script → Store → Detection → List ℕ → List ℕ
members_text script store d objects = flat_map (λ o. member_text (member_in script store d o)) objects

-- an unfinished record ends without a second graph
abbrev pub closing : Bool → List ℕ
closing true = codes "cut\n"
closing false = []

-- the beginning of a record, with its first graph
abbrev pub record_heading : Bool → ℕ → List ℕ
record_heading unfinished g = closing unfinished ++ (numbered (codes "record") g ++ codes "graph 1\n")

-- the heading of a pass's graph; a first one begins a record
abbrev pub heading : Bool → Detection → List ℕ
heading unfinished (First g) = record_heading unfinished g
heading unfinished Second = codes "graph 2\n"

-- a line with a word for each object of a place
abbrev pub all_at : Store → Place → List ℕ → List ℕ
all_at store p word = flat_map (numbered word) (list_at store p)

-- what a first pass found: the unreachable objects, and the uncollectable ones among them
abbrev pub sorted_text : Store → List ℕ
sorted_text store = all_at store Cand (codes "lost") ++ (all_at store Legacy (codes "lost") ++ all_at store Legacy (codes "legacy"))

-- what a second pass found, and that the record ends
abbrev pub final_text : Store → List ℕ
final_text store = all_at store Cand (codes "lost") ++ codes "stop\n"

-- what is written of a pass after its step
abbrev pub findings : Store → Detection → List ℕ
findings store (First g) = sorted_text store
findings store Second = final_text store

-- The recorded passes: each first one, and the second one of an unfinished record.
abbrev pub taken_while : Bool → Detection → Option Detection
taken_while unfinished (First g) = Some (First g)
taken_while true Second = Some Second
taken_while false Second = None

-- if any
abbrev pub taken : Bool → Option Detection → Option Detection
taken unfinished None = None
taken unfinished (Some d) = taken_while unfinished d

-- whether a record is unfinished after a pass: a first one begins one
abbrev pub begins_record : Detection → Bool
begins_record (First g) = true
begins_record Second = false

-- or as before, without a pass
abbrev pub unfinished_after : Bool → Option Detection → Bool
unfinished_after unfinished None = unfinished
unfinished_after unfinished (Some d) = begins_record d

-- what is written of a pass before its step
abbrev pub begun_text : Script → Store → Bool → Detection → List ℕ
begun_text script store unfinished d = heading unfinished d ++ members_text script store d (candidates_in store d)

-- if any
abbrev pub text_before : Script → Store → Bool → Option Detection → List ℕ
text_before script store unfinished None = []
text_before script store unfinished (Some d) = begun_text script store unfinished d

-- and after it
abbrev pub text_after : Store → Option Detection → List ℕ
text_after store None = []
text_after store (Some d) = findings store d

-- the pass in the next turn, by what is on top
abbrev pub detection_by : ℕ → Stage → Option Detection
detection_by g stage.BeforeFirst = Some (First g)
detection_by g stage.BeforeSecond = Some Second
detection_by g stage = None

abbrev pub detection_of : Activity → Option Detection
detection_of (activity.Collecting asked c) = detection_by c.generation (stage_of c)
detection_of top = None

abbrev pub detection_on : List Activity → Option Detection
detection_on [] = None
detection_on (top ∷ rest) = detection_of top

-- an optional pass has a generation 0, 1 or 2
abbrev pub AreOfGenerations : Option Detection → Type 0
AreOfGenerations None = Unit {0}
AreOfGenerations (Some d) = IsOfGenerations d
