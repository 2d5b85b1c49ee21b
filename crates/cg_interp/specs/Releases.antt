-- An optional release. (Ours.)
use Rattle.std.specs.Prelude.{ℕ, List, [], ◌∷◌, Option, None, Some}
use Rattle.cg_machine.specs.World.{World, Releasing, push}
use Rattle.cg_death.specs.declared.release.Release.{Release}
use Rattle.cg_death.specs.Activities.{references_left}
use Rattle.cg_interp.specs.declared.activity.Activity.{Activity}
use Rattle.cg_interp.specs.declared.activity.Activity.TheVariants as activity

-- the references that it gives up
abbrev pub released_by : Option Release → List ℕ
released_by None = []
released_by (Some release) = references_left release

-- a world with it on top
abbrev pub with_release : Option Release → World → World
with_release None w = w
with_release (Some release) w = push (Releasing (references_left release)) w

-- the same of an engine's activities
abbrev pub with_release_on : Option Release → List Activity → List Activity
with_release_on None activities = activities
with_release_on (Some release) activities = activity.Releasing release ∷ activities
