-- The top of an engine determines the machine's next reachability pass.
use Rattle.std.proofs.Common.{◌≡◌, ◌≢◌, refl, sym, ◌∙◌, ap, subst, ℕ, Bool, true, false, ◌||◌, inl, inr, List, [], ◌∷◌, ◌++◌, Option, None, Some, length, arith}
use Rattle.cg_script.specs.declared.Script.{Script}
use Rattle.cg_graph.specs.Store.{Store, list_at}
use Rattle.cg_value.specs.declared.Place.TheVariants.{Pend}
use Rattle.cg_machine.specs.declared.event.Event.{Event}
use Rattle.cg_machine.specs.World as machine
use Rattle.cg_machine.specs.World.{World}
use Rattle.cg_death.specs.declared.release.Release.{Release}
use Rattle.cg_death.specs.declared.death.Death.{Death}
use Rattle.cg_death.specs.declared.phase.Phase.{Phase as DeathPhase}
use Rattle.cg_death.specs.declared.phase.Phase.TheVariants as death_phase
use Rattle.cg_death.specs.Activities.{death_activities}
use Rattle.cg_collect.specs.declared.collection.Collection.{Collection}
use Rattle.cg_collect.specs.declared.phase.Phase.{Phase}
use Rattle.cg_collect.specs.declared.phase.Phase.TheVariants as phase_of
use Rattle.cg_collect.specs.declared.stage.Detection.{Detection as Detected}
use Rattle.cg_collect.specs.declared.stage.Detection.TheVariants as detected_of
use Rattle.cg_collect.specs.Stages.{stage_of, stage_at, stage_after}
use Rattle.cg_collect.specs.Turns.{ComesNearer}
use Rattle.cg_interp.specs.Telling.{Advances, IsNearer}
use Rattle.cg_represents.specs.Represents.{Represents}
use Rattle.cg_collect.specs.Phases.{lines_left, store_after, machine_phase, collecting, released_over, shown_with}
use Rattle.cg_collect.specs.Ready.{MayRun, MayGiveUp, GivesUpIn}
use Rattle.cg_interp.specs.declared.graphs.Detection.{Detection}
use Rattle.cg_interp.specs.declared.graphs.Detection.TheVariants.{First, Second}
use Rattle.cg_interp.specs.declared.activity.Activity.{Activity}
use Rattle.cg_interp.specs.declared.activity.Activity.TheVariants as activity
use Rattle.cg_interp.specs.Engines.{State, ShowsTop, ShowsAll, released_first, death_shown, is_collecting, any_collecting}
use Rattle.cg_interp.specs.Collecting.{StandsWith, CollectsOnTop}
use Rattle.cg_interp.specs.Graphs.{detection_by, detection_on}
use Rattle.cg_interp.specs.Recorded.{detection_at, next_detection}

-- after a pass none comes next
pub none_after : (g : ℕ) (detected : Option Detected) → detection_by g (stage_after detected) ≡ None
none_after g None = refl
none_after g (Some detected_of.First) = refl
none_after g (Some detected_of.Second) = refl

-- the pass of a phase of the machine, if any
abbrev shown_next : ℕ → Option machine.CollectPhase → Option Detection
shown_next g None = None
shown_next g (Some phase) = detection_at g phase

by_phase : (g : ℕ) (phase : Phase) (detected : Option Detected) (pending : List ℕ) → detection_by g (stage_at phase detected) ≡ shown_next g (machine_phase phase pending)
by_phase g phase_of.Start detected pending = refl
by_phase g phase_of.Split detected pending = refl
by_phase g phase detected pending = none_after g detected

-- when something is given up, there is none
none_giving : (g : ℕ) (phase : Phase) (detected : Option Detected) → MayGiveUp phase → detection_by g (stage_at phase detected) ≡ None
none_giving g phase_of.Start detected may = absurd may
none_giving g phase_of.Split detected may = absurd may
none_giving g phase detected may = none_after g detected

-- nor when frames and deaths run
none_running : (g : ℕ) (phase : Phase) (detected : Option Detected) → MayRun phase → detection_by g (stage_at phase detected) ≡ None
none_running g phase_of.Start detected may = absurd may
none_running g phase_of.Split detected may = absurd may
none_running g phase detected may = none_after g detected

-- A collection on top determines it, where what it represents is there.
module _ (asked : Bool) (c : Collection) (pending : List ℕ) (below : List machine.Activity) where
  of_phase : (m : Option machine.CollectPhase) → (collecting asked c m ≡ [] → next_detection below ≡ None) → shown_next c.generation m ≡ next_detection (collecting asked c m ++ below)
  of_phase None none = sym (none refl)
  of_phase (Some phase) none = refl

  of_release : (release : Option Release) → GivesUpIn c.phase release → (released_over release (collecting asked c (machine_phase c.phase pending)) ≡ [] → next_detection below ≡ None)
      → detection_by c.generation (stage_of c) ≡ next_detection (released_over release (collecting asked c (machine_phase c.phase pending)) ++ below)
  of_release None may none = by_phase c.generation c.phase c.detected pending ∙ of_phase (machine_phase c.phase pending) none
  of_release (Some release) may none = none_giving c.generation c.phase c.detected may

  pub collection_next : GivesUpIn c.phase c.release → (shown_with asked c pending ≡ [] → next_detection below ≡ None) → detection_by c.generation (stage_of c)
      ≡ next_detection (shown_with asked c pending ++ below)
  collection_next may none = of_release c.release may none

-- other activities make none
dying_none : (o : ℕ) (phase : DeathPhase) (waiting : List ℕ) (below : List machine.Activity) → death_activities o phase waiting ≢ [] → next_detection (death_activities o phase waiting ++ below) ≡ None
dying_none o death_phase.Over waiting below some = absurd (some refl)
dying_none o phase waiting below some = refl

death_none : (d : Death) (waiting : List ℕ) (below : List machine.Activity) → death_shown d waiting ≢ [] → next_detection (death_shown d waiting ++ below) ≡ None
death_none d waiting below some = go d.release some
  where
    go : (release : Option Release) → released_first release (death_activities d.object d.phase waiting) ≢ []
        → next_detection (released_first release (death_activities d.object d.phase waiting) ++ below) ≡ None
    go None some = dying_none d.object d.phase waiting below some
    go (Some release) some = refl

module _ (script : Script) (rest : List machine.Activity → Type 0) (stack : List machine.Activity) where
  top_none : (top : Activity) → is_collecting top ≡ false → ShowsTop script top rest stack → next_detection stack ≡ None
  top_none (activity.Dying d) other t =
      ap next_detection (t.is ∙ ap (λ l. l ++ t.below) t.shows.1)
      ∙ death_none d t.shows.0 t.below (λ e. t.some (t.shows.1 ∙ e))
  top_none (activity.Collecting asked c) other t = absurd (cc)
  top_none _ other t = ap next_detection (t.is ∙ ap (λ l. l ++ t.below) t.shows)

-- without a collection there is none
pub none_below : (script : Script) (activities : List Activity) (stack : List machine.Activity) → ShowsAll script activities stack → any_collecting activities ≡ false → next_detection stack ≡ None
none_below script [] stack none other = ap next_detection none
none_below script (top ∷ rest) stack shown other = top_none script (ShowsAll script rest) stack top (first_false (is_collecting top) (any_collecting rest) other) shown
  where
    first_false : (a b : Bool) → (a || b) ≡ false → a ≡ false
    first_false false b e = refl
    first_false true b e = absurd (cc)

-- one that answered a frame or a death makes none
handed_none : (script : Script) (asked : Bool) (c : Collection) (rest : List machine.Activity → Type 0) (stack : List machine.Activity) → ShowsTop script (activity.Collecting asked c) rest stack
    → (detection_by c.generation (stage_of c) ≡ None) × (next_detection stack ≡ None)
handed_none script asked c rest stack t =
    let h = t.shows in
    let none : detection_by c.generation (stage_of c) ≡ None = none_running c.generation c.phase c.detected h.handing.runs in
    (none, ap next_detection (t.is ∙ ap (λ l. l ++ t.below) h.shown) ∙ sym (collection_next asked c (list_at h.then Pend) t.below h.handing.gives_up (λ e. absurd (t.some (h.shown ∙ e)))) ∙ none)

-- What comes next by the engine's top comes next in the world that it represents.
module _ (script : Script) (e : State) (left : List Event) (w : World) where
  in_stack : (activities : List Activity) (stack : List machine.Activity) → ShowsAll script activities stack → detection_on activities ≡ next_detection stack
  in_stack [] stack none = sym (ap next_detection none)
  in_stack (activity.Collecting asked c ∷ rest) stack t = let n = handed_none script asked c (ShowsAll script rest) stack t in n.0 ∙ sym n.1
  in_stack (top ∷ rest) stack t = sym (top_none script (ShowsAll script rest) stack top refl t)

  on_top : (t : CollectsOnTop script e left w) → detection_by t.collection.generation (stage_of t.collection) ≡ next_detection w.stack
  on_top t =
      let s = t.collects in
      collection_next t.asked t.collection (list_at e.store Pend) s.below s.ready.gives_up (λ none. none_below script t.rest s.below s.over s.alone)
      ∙ ap next_detection (sym s.shows.top)

  pub same_next : StandsWith script e left w → detection_on e.activities ≡ next_detection w.stack
  same_next (inl s) = in_stack e.activities w.stack s.0.shows
  same_next (inr t) = ap detection_on t.top ∙ on_top t

-- no pass comes next if the collection on top, if any, answered a frame or a death
pub standing_none : (script : Script) (activities : List Activity) (stack : List machine.Activity) → ShowsAll script activities stack → detection_on activities ≡ None
standing_none script (activity.Collecting asked c ∷ rest) stack t = (handed_none script asked c (ShowsAll script rest) stack t).0
standing_none script _ stack t = refl

-- the phase whose step makes it
abbrev pub phase_for : Detection → Phase
phase_for (First g) = phase_of.Start
phase_for Second = phase_of.Split

by_stage : (g : ℕ) (phase : Phase) (detected : Option Detected) (d : Detection) → detection_by g (stage_at phase detected) ≡ Some d → phase ≡ phase_for d
by_stage g phase_of.Start detected d e = let same : First g ≡ d = cc in ap phase_for same
by_stage g phase_of.Split detected d e = let same : Second ≡ d = cc in ap phase_for same
by_stage g phase detected d e = absurd (let f : Some d ≡ None = sym e ∙ none_after g detected in cc)

none_given : (d : Detection) (phase : Phase) (release : Option Release) → phase ≡ phase_for d → GivesUpIn phase release → release ≡ None
none_given d phase None is may = refl
none_given d phase (Some release) is may = absurd (never d (subst MayGiveUp is may))
  where
    never : (k : Detection) → MayGiveUp (phase_for k) → ⊥
    never (First g) may = may
    never Second may = may

none_told : (script : Script) (asked : Bool) (c : Collection) (store : Store) (d : Detection) → lines_left script asked c (phase_for d) store ≡ []
none_told script asked c store (First g) = refl
none_told script asked c store Second = refl

same_after : (store : Store) (d : Detection) → store_after (phase_for d) store ≡ store
same_after store (First g) = refl
same_after store Second = refl

-- A collection on top is about to make a pass: nothing is given up, and no line is left.
pub record AtDetection (e : State) (d : Detection) (left : List Event) (w : World) : Type 0 where
  pub asked : Bool
  pub collection : Collection
  pub rest : List Activity
  pub top : e.activities ≡ activity.Collecting asked collection ∷ rest
  pub phase : collection.phase ≡ phase_for d
  pub release : collection.release ≡ None
  pub none : left ≡ []
  pub represents : Represents e.store w

pub at_detection : (script : Script) (e : State) (left : List Event) (w : World) (d : Detection) → StandsWith script e left w → detection_on e.activities ≡ Some d → AtDetection e d left w
at_detection script e left w d (inl s) next = absurd (let f : Some d ≡ None = sym next ∙ standing_none script e.activities w.stack s.0.shows in cc)
at_detection script e left w d (inr t) next =
    let c = t.collection in
    let is : c.phase ≡ phase_for d = by_stage c.generation c.phase c.detected d (sym (ap detection_on t.top) ∙ next) in
    record {
      asked = t.asked;
      collection = c;
      rest = t.rest;
      top = t.top;
      phase = is;
      release = none_given d c.phase c.release is t.collects.ready.gives_up;
      none = t.collects.lines ∙ ap (λ (p : Phase). lines_left script t.asked c p e.store) is ∙ none_told script t.asked c e.store d;
      represents = subst (λ (s : Store). Represents s w) (ap (λ (p : Phase). store_after p e.store) is ∙ same_after e.store d) t.collects.shows.represents;
    }

-- If the two are equal, the machine has moved.
nearer_no : (d : Detection) (store now : Store) → ComesNearer store (phase_for d) None now (phase_for d) None → ⊥
nearer_no (First g) store now (inl less) = absurd (omega (arith, less))
nearer_no (First g) store now (inr (same, less)) = absurd (omega (arith, less))
nearer_no Second store now (inl less) = absurd (omega (arith, less))
nearer_no Second store now (inr (same, less)) = absurd (omega (arith, less))

pub no_advance : (e e' : State) (d : Detection) (left still : List Event) (w after : World) → AtDetection e d left w → AtDetection e' d still after → Advances e left e' still → ⊥
no_advance e e' d left still w after a b (inl less) = let none = ap (λ (l : List Event). length l) a.none in absurd (omega (arith, less, none))
no_advance e e' d left still w after a b (inr (same, near)) =
    let first : IsNearer e.activities e.store (activity.Collecting b.asked b.collection ∷ b.rest) e'.store = subst (λ (l : List Activity). IsNearer e.activities e.store l e'.store) b.top near in
    let falls : ComesNearer e.store a.collection.phase a.collection.release e'.store b.collection.phase b.collection.release =
    subst (λ (l : List Activity). IsNearer l e.store (activity.Collecting b.asked b.collection ∷ b.rest) e'.store) a.top first in
    let old : ComesNearer e.store (phase_for d) None e'.store b.collection.phase b.collection.release =
    subst (λ (x : Phase × Option Release). ComesNearer e.store x.0 x.1 e'.store b.collection.phase b.collection.release) (λ i. (a.phase i, a.release i))
    falls in
    nearer_no d e.store e'.store (subst (λ (x : Phase × Option Release). ComesNearer e.store (phase_for d) None e'.store x.0 x.1) (λ i. (b.phase i, b.release i)) old)
