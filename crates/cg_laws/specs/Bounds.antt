-- Bounds the stack of a run by the budget and the number of objects, for layers that keep a stack in memory. (Ours:
-- the machine itself has no limit.)
use Rattle.std.specs.Prelude.{◌≡◌, ℕ, ◌+◌, ◌*◌, ◌≤◌, Bool, true, false, List, [], ◌∷◌, ◌++◌, length, count_by, flat_map}
use Rattle.cg_script.specs.declared.Script.{Script}
use Rattle.cg_machine.specs.World.{World, Activity, TopLevel, Framed, Releasing, Dying, ShuttingDown}
use Rattle.cg_machine.specs.Holdings.{holds, is_collection}
use Rattle.cg_machine.specs.Run.{StepTaken, IsRun, world_after}
use Rattle.cg_represents.specs.Orderly.{all_waits}

-- the script's own commands, or the shutdown that follows them
abbrev pub is_top_level : Activity → Bool
is_top_level (TopLevel commands) = true
is_top_level (ShuttingDown started) = true
is_top_level activity = false

-- a frame
abbrev pub is_frame : Activity → Bool
is_frame (Framed f) = true
is_frame activity = false

-- a release
abbrev pub is_release : Activity → Bool
is_release (Releasing references) = true
is_release activity = false

-- a death
abbrev pub is_death : Activity → Bool
is_death (Dying d) = true
is_death activity = false

-- The script's own commands, or its shutdown, are at the bottom and nowhere else.
pub record IsOverTopLevel (stack : List Activity) : Type 0 where
  pub others : List Activity
  pub lowest : Activity
  pub is : is_top_level lowest ≡ true
  pub bottom : stack ≡ others ++ lowest ∷ []
  pub nowhere_else : count_by is_top_level others ≡ 0

-- no release is on top
abbrev pub HasNoRelease : List Activity → Type 0
HasNoRelease (Releasing references ∷ below) = ⊥
HasNoRelease stack = Unit {0}

-- A release has at most two references: those of an entry, or a weak reference and its callback. Only a death lies
-- directly on a release.
abbrev pub AreReleasesApart : List Activity → Type 0
AreReleasesApart [] = Unit {0}
AreReleasesApart (Releasing references ∷ below) = (length references ≤ 2) × HasNoRelease below × AreReleasesApart below
AreReleasesApart (Dying d ∷ below) = AreReleasesApart below
AreReleasesApart (activity ∷ below) = HasNoRelease below × AreReleasesApart below

-- For a run with budget b: what is on the stack of one of its worlds, how high the stack is, and how many references it
-- holds.
pub record IsBounded (b : ℕ) (w : World) : Type 0 where
  pub top_level : IsOverTopLevel w.stack
  pub frames : count_by is_frame w.stack + w.budget ≤ b
  pub deaths : count_by is_death w.stack ≤ length w.objects
  pub apart : AreReleasesApart w.stack
  pub releases : count_by is_release w.stack ≤ count_by is_death w.stack + 1
  pub collections : count_by is_collection w.stack ≤ 1
  pub waiting : length (all_waits w.stack) ≤ length w.objects
  pub height : length w.stack ≤ b + 2 * length w.objects + 3
  pub holds : length (flat_map holds w.stack) ≤ b + 5 * length w.objects + 3

-- This holds in every world of a run.
abbrev pub StacksAreBounded : Type 0
StacksAreBounded = (script : Script) (budget : ℕ) (steps : List StepTaken) → IsRun script budget steps → IsBounded budget (world_after script budget steps)
