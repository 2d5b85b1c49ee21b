-- A worked script with a weak value map: one look-up while the object lives, and one after it has died. It shows that the laws in
-- `Maps` are not vacuous: some run satisfies their premises, with both answers. (Ours.)
use Rattle.std.specs.Prelude.{◌≡◌, ℕ, pos, List, [], ◌∷◌, ◌++◌, None, Some, codes}
use Rattle.cg_value.specs.declared.Val.{Val}
use Rattle.cg_value.specs.declared.Val.TheVariants.{None as Nothing, Ref}
use Rattle.cg_script.specs.declared.Script.{Script}
use Rattle.cg_script.specs.declared.Operand.TheVariants.{None as NoneWord, Int as IntWord, Name}
use Rattle.cg_script.specs.declared.Item.TheVariants.{Run as Line, Class}
use Rattle.cg_script.specs.declared.Command.TheVariants.{MakeDict, MakeInst, MakeRef, Bind, Del, Put, Get, Deref, Print}
use Rattle.cg_script.specs.Reading.{reading, spells}
use Rattle.cg_machine.specs.Operands.{value_of}
use Rattle.cg_machine.specs.Run.{StepTaken, IsRun, world_after}
use Rattle.cg_weakcoll.specs.Expansion.{expansion}
use Rattle.cg_weakcoll.specs.Maps.{IsUnder, Look, Looks, MapStore, Stores, before_second, since_making, steps_of}

-- the extended script
abbrev pub a_cache : List ℕ
a_cache = codes "class C\nm = wmap\na = new C\nwset m 1 a\nx = wget m 1\nprint x\ndel x\ndel a\nx = wget m 1\nprint x\n"

-- what its expansion spells; the variables m, a, wv_4 and x have the numbers 1 to 4
abbrev pub its_script : Script
its_script = record {
  names = codes "C" ∷ codes "m" ∷ codes "a" ∷ codes "wv_4" ∷ codes "x" ∷ [];
  items = Class (record { name = 0; del = None; legacy = None }) ∷ Line (MakeDict 1) ∷ Line (MakeInst 2 0)
      ∷ Line (MakeRef 3 (Name 2) NoneWord) ∷ Line (Put (Name 1) (IntWord (pos 1)) (Name 3)) ∷ Line (Del 3)
      ∷ Line (Bind 4 NoneWord) ∷ Line (Get 4 (Name 1) (IntWord (pos 1))) ∷ Line (Deref 4 (Name 4)) ∷ Line (Print (Name 4)) ∷ Line (Del 4) ∷ Line (Del 2)
      ∷ Line (Bind 4 NoneWord) ∷ Line (Get 4 (Name 1) (IntWord (pos 1))) ∷ Line (Deref 4 (Name 4)) ∷ Line (Print (Name 4)) ∷ [];
}

-- a run of it in which the `wset` makes the weak reference #4 of #3, and a `wget` finds it under the key and answers
-- this
pub record HasLookWith (answer : Val) : Type 0 where
  pub before : List StepTaken
  pub store : MapStore
  pub between : List StepTaken
  pub look : Look
  pub run : IsRun its_script 100 (before ++ store.first ∷ since_making store between ++ steps_of look)
  pub stores : Stores (world_after its_script 100 before) 3 (Name 1) (IntWord (pos 1)) (Name 2) store 4 3
  pub looks : Looks (world_after its_script 100 (before ++ store.first ∷ since_making store between)) 4 (Name 1) (IntWord (pos 1)) look
  pub under : IsUnder (before_second look) (Name 1) (IntWord (pos 1)) 4
  pub answers : value_of look.third.world (Name 4) ≡ Some answer

-- The expansion spells the script. The first look-up answers the object, and the second none.
pub record AnswersBoth : Type 0 where
  pub spelled : reading (expansion a_cache) ≡ spells its_script.names its_script.items
  pub alive : HasLookWith (Ref 3)
  pub gone : HasLookWith Nothing
