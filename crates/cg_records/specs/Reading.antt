-- What a line adds to the records read so far, if it is allowed there. (Ours.)
use Rattle.std.specs.Prelude.{ℕ, cond, ◌&&◌, List, [], ◌∷◌, ◌++◌, Option, Some, None, option_map}
use Rattle.cg_records.specs.Lists.{none_in}
use Rattle.cg_records.specs.Members.{member, with_reference}
use Rattle.cg_records.specs.declared.graph.Member.{Member}
use Rattle.cg_records.specs.declared.graph.Graph.{Graph}
use Rattle.cg_records.specs.declared.graph.Rec.{Rec}
use Rattle.cg_records.specs.declared.line.Line.{Line}
use Rattle.cg_records.specs.declared.line.Line.TheVariants as lines
use Rattle.cg_records.specs.declared.draft.Stage.{Stage}
use Rattle.cg_records.specs.declared.draft.Stage.TheVariants.{Between, Opened, Within, Ended}
use Rattle.cg_records.specs.declared.draft.Draft.{Draft}

abbrev pub graph : List Member → List ℕ → List ℕ → Graph
graph members lost legacy = record { members = members; lost = lost; legacy = legacy }

abbrev pub recorded : ℕ → Graph → Option Graph → Rec
recorded generation first second = record { generation = generation; first = first; second = second }

abbrev pub draft : List Rec → Stage → Draft
draft records stage = record { records = records; stage = stage }

-- a line in a graph: members first, then the unreachable ones, then the legacy ones
abbrev pub in_graph : Graph → Line → Option Graph
in_graph g (lines.Member serial degree legacy) = cond (none_in g.lost && none_in g.legacy) (Some (graph (g.members ++ member serial degree legacy [] ∷ []) g.lost g.legacy)) None
in_graph g (lines.Reference n) = cond (none_in g.lost && none_in g.legacy) (option_map (λ members. graph members g.lost g.legacy) (with_reference g.members n)) None
in_graph g (lines.Lost n) = cond (none_in g.legacy) (Some (graph g.members (g.lost ++ n ∷ []) g.legacy)) None
in_graph g (lines.Legacy n) = Some (graph g.members g.lost (g.legacy ++ n ∷ []))
in_graph g line = None

-- after the first graph
abbrev pub at_second : List Rec → ℕ → Option Graph → Graph → Option Draft
at_second records generation None g = Some (draft records (Within generation (Some g) (graph [] [] [])))
at_second records generation (Some first) g = None

abbrev pub at_cut : List Rec → ℕ → Option Graph → Graph → Option Draft
at_cut records generation None g = Some (draft (records ++ recorded generation g None ∷ []) Between)
at_cut records generation (Some first) g = None

-- after the second graph
abbrev pub at_stop : List Rec → ℕ → Option Graph → Graph → Option Draft
at_stop records generation None g = None
at_stop records generation (Some first) g = Some (draft (records ++ recorded generation first (Some g) ∷ []) Between)

-- in one of the graphs
abbrev pub at_graph : List Rec → ℕ → Option Graph → Graph → Line → Option Draft
at_graph records generation first g line = option_map (λ grown. draft records (Within generation first grown)) (in_graph g line)

-- only a first graph has a legacy set
abbrev pub at_legacy : List Rec → ℕ → Option Graph → Graph → ℕ → Option Draft
at_legacy records generation None g n = at_graph records generation None g (lines.Legacy n)
at_legacy records generation (Some first) g n = None

abbrev pub within : List Rec → ℕ → Option Graph → Graph → Line → Option Draft
within records generation first g lines.Second = at_second records generation first g
within records generation first g lines.Cut = at_cut records generation first g
within records generation first g lines.Stop = at_stop records generation first g
within records generation first g (lines.Legacy n) = at_legacy records generation first g n
within records generation first g line = at_graph records generation first g line

abbrev pub between : List Rec → Line → Option Draft
between records (lines.Record generation) = Some (draft records (Opened generation))
between records lines.End = Some (draft records Ended)
between records line = None

abbrev pub opened : List Rec → ℕ → Line → Option Draft
opened records generation lines.First = Some (draft records (Within generation None (graph [] [] [])))
opened records generation line = None

-- the draft after the line, if the line is allowed there
abbrev pub step_at : List Rec → Stage → Line → Option Draft
step_at records Between line = between records line
step_at records (Opened generation) line = opened records generation line
step_at records (Within generation first g) line = within records generation first g line
step_at records Ended line = None

abbrev pub step : Draft → Line → Option Draft
step d line = step_at d.records d.stage line
