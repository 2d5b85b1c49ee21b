-- Worked scripts with exit finalizers. The expansion of the first spells a script with two, as the laws in `Exits` require,
-- although one of its strings is spelled like a name of the first finalizer. In a run of the second, the procedure finds its
-- object alive and calls the function. (Ours.)
use Rattle.std.specs.Prelude.{◌≡◌, ℕ, pos, List, [], ◌∷◌, ◌++◌, None, codes}
use Rattle.cg_script.specs.declared.Script.{Script}
use Rattle.cg_script.specs.declared.Operand.TheVariants.{Int as IntWord, Name, Str as StrWord}
use Rattle.cg_script.specs.declared.Item.TheVariants.{Run as Line, Class, Def}
use Rattle.cg_script.specs.declared.Command.TheVariants.{Bind, Call, Del, MakeFunc, MakeInst, MakeRef, Print}
use Rattle.cg_script.specs.Reading.{reading, spells}
use Rattle.cg_script.specs.Texts.{TextsAreKnown}
use Rattle.cg_weakcoll.specs.Expansion.{expansion}
use Rattle.cg_machine.specs.World.{Activity, Frame}
use Rattle.cg_machine.specs.Run.{StepTaken, IsRun, world_after}
use Rattle.cg_weakcoll.specs.Exits.{AreExits, Exit, FindsAlive, IsExit, NoneRefused, calls_from, exit_body}

-- the extended script
abbrev pub two_finalizers : List ℕ
two_finalizers = codes "def p\nprint 5\nend\nclass C\nf = func p\na = new C\nb = new C\nfinalize a f\nfinalize b f\ndel a\nprint 'wv_o_8\n"

-- its two exit finalizers
abbrev pub the_first : Exit
the_first = record { proc = 1; object = 6; exit = 9; function = 8; watch = 7; source = Name 2; target = Name 3 }

abbrev pub the_second : Exit
the_second = record { proc = 2; object = 11; exit = 14; function = 13; watch = 12; source = Name 2; target = Name 4 }

-- what its expansion spells; the string has number 6, and so has the name
abbrev pub their_script : Script
their_script = record {
  names = codes "p" ∷ codes "C" ∷ codes "f" ∷ codes "a" ∷ codes "b" ∷ codes "wv_p_8" ∷ codes "wv_o_8" ∷ codes "wv_w_8" ∷ codes "wv_f_8" ∷ codes "wv_g_8"
      ∷ codes "wv_p_9" ∷ codes "wv_o_9" ∷ codes "wv_w_9" ∷ codes "wv_f_9" ∷ codes "wv_g_9" ∷ [];
  items = Def (record { name = 0; body = Print (IntWord (pos 5)) ∷ [] }) ∷ Class (record { name = 1; del = None; legacy = None }) ∷ Line (MakeFunc 2 0 []) ∷ Line (MakeInst 3 0) ∷ Line (MakeInst 4 0)
      ∷ Def (record { name = 5; body = exit_body the_first }) ∷ Line (MakeFunc 9 1 []) ∷ Line (Bind 8 (Name 2)) ∷ Line (MakeRef 7 (Name 3) (Name 8))
      ∷ Def (record { name = 10; body = exit_body the_second }) ∷ Line (MakeFunc 14 2 []) ∷ Line (Bind 13 (Name 2)) ∷ Line (MakeRef 12 (Name 4) (Name 13))
      ∷ Line (Del 3) ∷ Line (Print (StrWord 6)) ∷ Line (Call (Name 14)) ∷ Line (Call (Name 9)) ∷ [];
}

-- The expansion spells the script, and these are its exit finalizers.
pub record HasBoth : Type 0 where
  pub spelled : reading (expansion two_finalizers) ≡ spells their_script.names their_script.items
  pub exits : AreExits their_script (the_first ∷ the_second ∷ [])

-- the extended script with one exit finalizer
abbrev pub one_finalizer : List ℕ
one_finalizer = codes "def p\nprint 5\nend\nclass C\nf = func p\na = new C\nfinalize a f\n"

abbrev pub the_exit : Exit
the_exit = record { proc = 1; object = 5; exit = 8; function = 7; watch = 6; source = Name 2; target = Name 3 }

-- what its expansion spells
abbrev pub one_script : Script
one_script = record {
  names = codes "p" ∷ codes "C" ∷ codes "f" ∷ codes "a" ∷ codes "wv_p_7" ∷ codes "wv_o_7" ∷ codes "wv_w_7" ∷ codes "wv_f_7" ∷ codes "wv_g_7" ∷ [];
  items = Def (record { name = 0; body = Print (IntWord (pos 5)) ∷ [] }) ∷ Class (record { name = 1; del = None; legacy = None }) ∷ Line (MakeFunc 2 0 []) ∷ Line (MakeInst 3 0)
      ∷ Def (record { name = 4; body = exit_body the_exit }) ∷ Line (MakeFunc 8 1 []) ∷ Line (Bind 7 (Name 2)) ∷ Line (MakeRef 6 (Name 3) (Name 7))
      ∷ Line (Call (Name 8)) ∷ [];
}

-- A run of it satisfies the premises of `ExitsBeginAlive`: the procedure finds its object alive, and none of its commands is
-- refused. The function's frame begins there.
pub record FindsAliveAndCalls : Type 0 where
  pub spelled : reading (expansion one_finalizer) ≡ spells one_script.names one_script.items
  pub known : TextsAreKnown one_script
  pub exit : IsExit one_script the_exit
  pub before : List StepTaken
  pub during : List StepTaken
  pub run : IsRun one_script 100 (before ++ during)
  pub frame : Frame
  pub below : List Activity
  pub alive : FindsAlive the_exit (world_after one_script 100 before) frame below
  pub none_refused : NoneRefused below (world_after one_script 100 before) during
  pub calls : calls_from the_exit.function (world_after one_script 100 before) during ≡ 1
