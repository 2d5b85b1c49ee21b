-- Which objects are untracked. (Developer guide, "optimization: delay tracking containers". That this never hides a cycle
-- is ours.)
use Rattle.std.specs.Prelude.{◌≡◌, ◌≢◌, ℕ, true, false, List, ◌⊎◌}
use Rattle.cg_value.specs.declared.Place.TheVariants.{Untracked}
use Rattle.cg_script.specs.declared.Script.{Script}
use Rattle.cg_graph.specs.Member.{Includes}
use Rattle.cg_graph.specs.Value.{references}
use Rattle.cg_graph.specs.Object.{Object, is_tuple}
use Rattle.cg_machine.specs.Operands.{is_dict}
use Rattle.cg_machine.specs.Holdings.{is_dying}
use Rattle.cg_machine.specs.Run.{StepTaken, IsRun, world_after}

-- an untracked tuple
pub record IsLooseTuple (objects : List Object) (o : ℕ) : Type 0 where
  pub object : Object
  pub member : Includes objects object
  pub serial : object.serial ≡ o
  pub tuple : is_tuple object ≡ true
  pub untracked : object.place ≡ Untracked

-- a tuple or a dictionary that refers only to untracked tuples
pub record IsSlack (objects : List Object) (x : Object) : Type 0 where
  pub kind : (is_tuple x ≡ true) ⊎ (is_dict x ≡ true)
  pub refers : (o : ℕ) → Includes (references x.entries) o → IsLooseTuple objects o

-- This holds for each untracked object, except the garbage list and dying objects.
abbrev pub UntrackedAreSlack : Type 0
UntrackedAreSlack = (script : Script) (budget : ℕ) (steps : List StepTaken) → IsRun script budget steps
    → (x : Object) → Includes (world_after script budget steps).objects x → x.place ≡ Untracked → x.serial ≢ 1 → is_dying (world_after script budget steps)
    x.serial ≡ false → IsSlack (world_after script budget steps).objects x
