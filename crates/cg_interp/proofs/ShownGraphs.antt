-- The graphs that a run shows, for longer and longer runs.
use Rattle.std.proofs.Common.{◌≡◌, ◌≢◌, refl, sym, ◌∙◌, ap, subst, ℕ, false, List, [], ◌∷◌, ◌++◌, map, Option, None, Some, append_assoc}
use Rattle.cg_script.specs.declared.Script.{Script}
use Rattle.cg_machine.specs.World.{World, Activity, Collecting, CollectPhase, Start, Split}
use Rattle.cg_machine.specs.Collect.{SameMembers}
use Rattle.cg_machine.specs.Run.{StepTaken, last_world}
use Rattle.cg_represents.specs.Represents.{detects, is_detection, MakesNoDetection, MakesDetectionsAlone}
use Rattle.cg_records.specs.declared.graph.Graph.{Graph}
use Rattle.cg_records.specs.Reading.{graph}
use Rattle.cg_interp.specs.declared.graphs.Detection.{Detection}
use Rattle.cg_interp.specs.Recorded.{Picture, picture, detection_at, next_detection, candidates, lost_at, legacy_at, member_among, IsGraphOf, ShowsStep, RunShows}

pub shows-append : (script : Script) (w : World) (steps more : List StepTaken) (ps qs : List Picture) → RunShows script w steps ps
    → RunShows script (last_world w steps) more qs → RunShows script w (steps ++ more) (ps ++ qs)
shows-append script w [] more ps qs none then = subst (λ (l : List Picture). RunShows script w more (l ++ qs)) (sym none) then
shows-append script w (step ∷ steps) more ps qs (now, later, is, shown, rest) then =
    (now, later ++ qs, ap (λ (l : List Picture). l ++ qs) is ∙ append_assoc now later qs, shown, shows-append script step.world steps more later qs rest then)

-- a graph of each pass, with its members in any order
pub graph_by : (script : Script) (d : Detection) (w after : World) (order : List ℕ) → SameMembers order (candidates d w)
    → IsGraphOf script d w after (graph (map (member_among script w (candidates d w)) order) (lost_at d after) (legacy_at d after))
graph_by script d w after order all = record { order = order; all = all; members = refl; lost = λ o. refl; legacy = λ o. refl }

-- each step shows some graphs
step_shown : (script : Script) (w after : World) (d : Option Detection) → (ps : List Picture) × ShowsStep script w after d ps
step_shown script w after None = ([], refl)
step_shown script w after (Some d) =
    let g : Graph = graph (map (member_among script w (candidates d w)) (candidates d w)) (lost_at d after) (legacy_at d after) in
    (picture d g ∷ [], (g, refl, graph_by script d w after (candidates d w) (λ o. refl)))

-- and each run
pub some_shown : (script : Script) (w : World) (steps : List StepTaken) → (ps : List Picture) × RunShows script w steps ps
some_shown script w [] = ([], refl)
some_shown script w (step ∷ steps) =
    let now = step_shown script w step.world (next_detection w.stack) in
    let later = some_shown script step.world steps in
    (now.0 ++ later.0, (now.0, later.0, refl, now.1, later.1))

-- where no pass is made, nothing is shown
phase_none : (g : ℕ) (phase : CollectPhase) → is_detection phase ≡ false → detection_at g phase ≡ None
phase_none g Start e = absurd (cc)
phase_none g Split e = absurd (cc)
phase_none g _ e = refl

pub none_next : (stack : List Activity) → detects stack ≡ false → next_detection stack ≡ None
none_next (Collecting c ∷ below) e = phase_none c.generation c.phase e
none_next _ e = refl

step_none : (script : Script) (w after : World) (d : Option Detection) → d ≡ None → ShowsStep script w after d []
step_none script w after None e = refl
step_none script w after (Some d) e = absurd (cc)

pub shows_none : (script : Script) (w : World) (steps : List StepTaken) → MakesNoDetection w steps → RunShows script w steps []
shows_none script w [] none = refl
shows_none script w (step ∷ steps) (here, later) = ([], [], refl, step_none script w step.world (next_detection w.stack) (none_next w.stack here), shows_none script step.world steps later)

-- Steps with at most one pass, made alone, from a world that makes none next, show nothing.
pub alone_none : (script : Script) (w : World) (steps : List StepTaken) → MakesDetectionsAlone w steps → next_detection w.stack ≡ None → RunShows script w steps []
alone_none script w [] alone next = refl
alone_none script w (step ∷ []) alone next = ([], [], refl, step_none script w step.world (next_detection w.stack) next, refl)
alone_none script w (step ∷ one ∷ steps) alone next = shows_none script w (step ∷ one ∷ steps) alone

-- From a world that makes a pass next, such steps are just that one.
pub one_alone : (w : World) (steps : List StepTaken) (d : Detection) → MakesDetectionsAlone w steps → next_detection w.stack ≡ Some d → steps ≢ [] → (step : StepTaken) × (steps ≡ step ∷ [])
one_alone w [] d alone next some = absurd (some refl)
one_alone w (step ∷ []) d alone next some = (step, refl)
one_alone w (step ∷ one ∷ steps) d alone next some = absurd (let none : next_detection w.stack ≡ None = none_next w.stack alone.0 in let e : Some d ≡ None = sym next ∙ none in cc)

-- what it shows
step_of : (script : Script) (w after : World) (d : Detection) (o : Option Detection) → o ≡ Some d → (g : Graph) → IsGraphOf script d w after g → ShowsStep script w after o (picture d g ∷ [])
step_of script w after d None e g is = absurd (cc)
step_of script w after d (Some k) e g is = let same : k ≡ d = cc in (g, ap (λ (x : Detection). picture x g ∷ []) (sym same), subst (λ (x : Detection). IsGraphOf script x w after g) (sym same) is)

pub shows_one : (script : Script) (w : World) (step : StepTaken) (d : Detection) → next_detection w.stack ≡ Some d → (g : Graph)
    → IsGraphOf script d w step.world g → RunShows script w (step ∷ []) (picture d g ∷ [])
shows_one script w step d next g is = (picture d g ∷ [], [], refl, step_of script w step.world d (next_detection w.stack) next g is, refl)

-- and more steps
pub shows_first : (script : Script) (w : World) (step : StepTaken) (more : List StepTaken) (d : Detection) → next_detection w.stack ≡ Some d → (g : Graph)
    → IsGraphOf script d w step.world g → (ps : List Picture) → RunShows script step.world more ps
    → RunShows script w (step ∷ more) (picture d g ∷ ps)
shows_first script w step more d next g is ps then = (picture d g ∷ [], ps, refl, step_of script w step.world d (next_detection w.stack) next g is, then)
