-- The same by places, in terms of `cg_ask`'s question `drop`: the objects of a world are members, and the release is
-- one more member. (Ours.)
use Rattle.std.specs.Prelude.{◌≡◌, ◌↔◌, ℕ, suc, ◌==◌, true, false, List, [], ◌∷◌, ◌++◌, if◌then◌else◌, length, map}
use Rattle.cg_script.specs.declared.Script.{Script}
use Rattle.cg_script.specs.Texts.{TextsAreKnown}
use Rattle.cg_graph.specs.Member.{Includes}
use Rattle.cg_graph.specs.Value.{references}
use Rattle.cg_graph.specs.Object.{Object}
use Rattle.cg_snapshot.specs.declared.heap.Member.{Member}
use Rattle.cg_snapshot.specs.Members.{member}
use Rattle.cg_ask.specs.Dying.{Dies}
use Rattle.cg_machine.specs.declared.event.Event.TheVariants.{Free}
use Rattle.cg_machine.specs.World.{World, Activity}
use Rattle.cg_machine.specs.Holdings.{in_degree}
use Rattle.cg_machine.specs.Run.{StepTaken, events_of, world_after}
use Rattle.cg_release.specs.Release.{IsRelease}

-- the place of an object among others
abbrev pub place_of : List Object → ℕ → ℕ
place_of [] o = 0
place_of (x ∷ objects) o = if x.serial == o then 0 else suc (place_of objects o)

-- a member by its in-degree and its references
abbrev pub member_with : ℕ → List ℕ → Member
member_with degree refs = member degree 0 true false refs []

-- the objects in order, then the release, which nothing refers to and whose references are the released ones
abbrev pub members_of : World → List ℕ → List Member
members_of w given = map (λ x. member_with (in_degree w x.serial) (map (place_of w.objects) (references x.entries))) w.objects ++ member_with 0 (map (place_of w.objects) given) ∷ []

abbrev pub IsTheRelease : World → ℕ → Type 0
IsTheRelease w place = place ≡ length w.objects

-- A release in which no frame begins frees exactly the objects that die by count when the release is dropped, for each
-- script of a class.
abbrev pub ReleasesFreeWhatDropTellsIn : (Script → Type 0) → Type 0
ReleasesFreeWhatDropTellsIn Fit = (script : Script) (budget : ℕ) (before during : List StepTaken) (given : List ℕ) (below : List Activity)
    → Fit script → IsRelease script budget before during given below
    → (x : Object) → Includes (world_after script budget before).objects x
    → Includes (events_of during) (Free x.serial) ↔ Dies (members_of (world_after script budget before) given) (IsTheRelease (world_after script budget before))
    (place_of (world_after script budget before).objects x.serial)

-- the same for each script that names only its own texts
abbrev pub ReleasesFreeWhatDropTells : Type 0
ReleasesFreeWhatDropTells = ReleasesFreeWhatDropTellsIn TextsAreKnown
