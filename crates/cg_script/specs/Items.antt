-- The lines of a script by kind: its commands outside procedures, its procedures and its classes, each found by its number.
-- (Ours.)
use Rattle.std.specs.Prelude.{◌≡◌, ℕ, Bool, true, false, List, [], ◌∷◌, map, Option, Some, None, unwrap_or, slice_get}
use Rattle.cg_script.specs.declared.command.Command.{Command}
use Rattle.cg_script.specs.declared.item.ClassDef.{ClassDef}
use Rattle.cg_script.specs.declared.item.Proc.{Proc}
use Rattle.cg_script.specs.declared.item.Item.{Item}
use Rattle.cg_script.specs.declared.item.Item.TheVariants.{Profile, Shutdown, Budget, Class, Def, Run}
use Rattle.cg_script.specs.declared.index.Index.{Index}
use Rattle.cg_script.specs.declared.index.Declared.{Declared}

-- the commands outside procedures
abbrev pub commands_of : List Item → List Command
commands_of [] = []
commands_of (Run c ∷ items) = c ∷ commands_of items
commands_of (item ∷ items) = commands_of items

-- the procedures, in order: procedures and classes are numbered by their position among their kind
abbrev pub procedures : List Item → List Proc
procedures [] = []
procedures (Def p ∷ items) = p ∷ procedures items
procedures (item ∷ items) = procedures items

-- the classes, in order
abbrev pub classes : List Item → List ClassDef
classes [] = []
classes (Class c ∷ items) = c ∷ classes items
classes (item ∷ items) = classes items

-- the first declared profile, if any
abbrev pub declared_profile : List Item → Option ℕ
declared_profile [] = None
declared_profile (Profile n ∷ items) = Some n
declared_profile (item ∷ items) = declared_profile items

-- the profile, by default 1
abbrev pub profile_of : List Item → ℕ
profile_of items = unwrap_or (declared_profile items) 1

-- the first declared budget, if any
abbrev pub declared_budget : List Item → Option ℕ
declared_budget [] = None
declared_budget (Budget n ∷ items) = Some n
declared_budget (item ∷ items) = declared_budget items

-- whether a shutdown is declared
abbrev pub declares_shutdown : List Item → Bool
declares_shutdown [] = false
declares_shutdown (Shutdown ∷ items) = true
declares_shutdown (item ∷ items) = declares_shutdown items

-- The lines at these positions are these, in order.
abbrev pub StandAt : {A : Type 0} → (A → Item) → List Item → List ℕ → List A → Type 0
StandAt line items positions those = map (slice_get items) positions ≡ map (λ x. Some (line x)) those

-- These are the profile and the budget that some lines declare, and whether they declare a shutdown.
pub record AreDeclared (items : List Item) (declared : Declared) : Type 0 where
  pub profile : declared.profile ≡ declared_profile items
  pub budget : declared.budget ≡ declared_budget items
  pub shutdown : declared.shutdown ≡ declares_shutdown items

-- It has the classes of some lines, and the positions of their procedures and of their commands outside procedures.
pub record IsIndexOf (items : List Item) (index : Index) : Type 0 where
  pub classes : index.classes.items ≡ classes items
  pub procedures : StandAt Def items index.procedures.items (procedures items)
  pub commands : StandAt Run items index.commands.items (commands_of items)

abbrev pub IsIndexIfAny : List Item → Option Index → Type 0
IsIndexIfAny items None = Unit {0}
IsIndexIfAny items (Some index) = IsIndexOf items index
