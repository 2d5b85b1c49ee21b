-- The stage of a run with an exit finalizer: its last call is still to come, its procedure's frame is on the script's own
-- commands, or neither.
use Rattle.std.proofs.Common.{◌≡◌, ◌≢◌, refl, sym, ◌∙◌, ap, subst, ℕ, ◌+◌, ◌≤◌, Bool, true, false, inl, inr, ◌⊎◌, List, [], ◌∷◌, ◌++◌, arith}
use Rattle.std.specs.Prelude.{if◌then◌else◌}
use Rattle.cg_script.specs.declared.Script.{Script}
use Rattle.cg_script.specs.declared.Command.{Command}
use Rattle.cg_script.specs.declared.Command.TheVariants.{Bind, Call, Del, Deref, MakeFunc, Quit}
use Rattle.cg_script.specs.declared.Operand.{Operand}
use Rattle.cg_script.specs.declared.Operand.TheVariants.{Name}
use Rattle.cg_script.specs.Texts.{command_names, operand_names}
use Rattle.cg_graph.specs.Member.{Includes}
use Rattle.cg_graph.proofs.Members.{either, Includes-append_cases, Includes-append_right}
use Rattle.cg_machine.specs.Program.{commands_of}
use Rattle.cg_machine.specs.World.{Activity, TopLevel, Framed, Collecting, Frame}
use Rattle.cg_laws.specs.Origins.{commands_on}
use Rattle.cg_laws.proofs.Invariants.{FromFrame, FromTop, Takes}
use Rattle.cg_weakcoll.specs.Exits.{AllOther, AreOthers, Exit, IsExit, IsOther, exit_commands, watch_command}
use Rattle.cg_weakcoll.proofs.OtherCommands.{AllHigh, IsHigh, other_exit, same_top}

-- what is left of the procedure before its last call is done
pub data IsTail (e : Exit) : List Command → Type 0 where
  AtDeref : IsTail e (Deref e.object (Name e.watch) ∷ Quit (Name e.object) ∷ Del e.watch ∷ Del e.object ∷ Call (Name e.function) ∷ [])
  AtQuit : IsTail e (Quit (Name e.object) ∷ Del e.watch ∷ Del e.object ∷ Call (Name e.function) ∷ [])
  AtWatch : IsTail e (Del e.watch ∷ Del e.object ∷ Call (Name e.function) ∷ [])
  AtObject : IsTail e (Del e.object ∷ Call (Name e.function) ∷ [])
  AtCall : IsTail e (Call (Name e.function) ∷ [])

-- where a command of the script is: in another line, or in one of the finalizer's
pub data Position (script : Script) (e : Exit) (ex : IsExit script e) (command : Command) (rest : List Command) : Type 0 where
  InOther : IsOther e command → Position script e ex command rest
  InFirst : command ≡ MakeFunc e.exit e.proc [] → Position script e ex command rest
  InSecond : command ≡ Bind e.function e.source → Position script e ex command rest
  InThird : command ≡ watch_command e → rest ≡ ex.middle ++ Call (Name e.exit) ∷ ex.back → Position script e ex command rest
  InLast : command ≡ Call (Name e.exit) → rest ≡ ex.back → Position script e ex command rest

-- two joined lists, cut at a member
cut : (done rest xs ys : List Command) (c : Command) → done ++ c ∷ rest ≡ xs ++ ys → Includes xs c ⊎ ((later : List Command) × (ys ≡ later ++ c ∷ rest))
cut done rest [] ys c is = inr (done, sym is)
cut [] rest (x ∷ xs) ys c is = inl (let same : c ≡ x = cc in inl (sym same))
cut (d ∷ done) rest (x ∷ xs) ys c is = either (cut done rest xs ys c (let tail : done ++ c ∷ rest ≡ xs ++ ys = cc in tail)) (λ m. inl (inr m)) (λ k. inr k)

pub heads : (x y : Command) (xs ys : List Command) → x ∷ xs ≡ y ∷ ys → (x ≡ y) × (xs ≡ ys)
heads x y xs ys is = (let same : x ≡ y = cc in same, let rest : xs ≡ ys = cc in rest)

module _ (script : Script) (e : Exit) (ex : IsExit script e) where
  abbrev tail_lines : List Command
  tail_lines = ex.middle ++ Call (Name e.exit) ∷ ex.back

  at_end : (later rest : List Command) (c : Command) → Call (Name e.exit) ∷ ex.back ≡ later ++ c ∷ rest → Position script e ex c rest
  at_end [] rest c is = let h = heads (Call (Name e.exit)) c ex.back rest is in InLast (sym h.0) (sym h.1)
  at_end (l ∷ later) rest c is = let h = heads (Call (Name e.exit)) l ex.back (later ++ c ∷ rest) is
      in InOther (ex.back_other c (subst (λ xs. Includes xs c) (sym h.1) (Includes-append_right later (c ∷ rest) c (inl refl))))

  at_tail : (later rest : List Command) (c : Command) → tail_lines ≡ later ++ c ∷ rest → Position script e ex c rest
  at_tail later rest c is = either (cut later rest ex.middle (Call (Name e.exit) ∷ ex.back) c (sym is)) (λ m. InOther (ex.middle_other c m)) (λ k. at_end k.0 rest c k.1)

  at_lines : (later rest : List Command) (c : Command) → exit_commands e ++ tail_lines ≡ later ++ c ∷ rest → Position script e ex c rest
  at_lines [] rest c is = InFirst (sym (heads _ c _ rest is).0)
  at_lines (x ∷ []) rest c is = let h = heads _ x _ (c ∷ rest) is in InSecond (sym (heads _ c _ rest h.1).0)
  at_lines (x ∷ y ∷ []) rest c is = let h = heads _ x _ (y ∷ c ∷ rest) is in let i = heads _ y _ (c ∷ rest) h.1 in let j = heads (watch_command e) c tail_lines rest i.1 in InThird (sym j.0) (sym j.1)
  at_lines (x ∷ y ∷ z ∷ later) rest c is = let h = heads _ x _ (y ∷ z ∷ (later ++ c ∷ rest)) is in let i = heads _ y _ (z ∷ (later ++ c ∷ rest)) h.1 in let j =
      heads (watch_command e) z tail_lines (later ++ c ∷ rest) i.1 in at_tail later rest c j.1

  pub positioned : (done rest : List Command) (c : Command) → commands_of script.items ≡ done ++ c ∷ rest → Position script e ex c rest
  positioned done rest c is = either (cut done rest ex.front (exit_commands e ++ tail_lines) c (sym is ∙ ex.commands)) (λ m. InOther (ex.front_other c m)) (λ k. at_lines k.0 rest c k.1)

-- only commands of other lines are left
abbrev pub AreTame : Exit → List Activity → Type 0
AreTame e stack = (a : Activity) → Includes stack a → AllOther e (commands_on a)

-- the stage of a run after this many calls, and what is known while the procedure's frame is on the stack
pub data Stage (script : Script) (e : Exit) (Q : List Command → Type 0) (calls : ℕ) (stack : List Activity) : Type 0 where
  Before : (tops : List Activity) (done commands : List Command) → stack ≡ tops ++ TopLevel commands ∷ [] → AllHigh e tops → commands_of script.items ≡ done
      ++ commands → calls ≡ 0 → Stage script e Q calls stack
  During : (tops : List Activity) (f : Frame) (commands : List Command) → stack ≡ tops ++ Framed f ∷ TopLevel commands ∷ [] → AllHigh e tops
      → IsTail e f.commands → AllOther e commands → Q f.commands → calls ≡ 0 → Stage script e Q calls stack
  After : AreTame e stack → calls ≤ 1 → Stage script e Q calls stack

-- what a taken command may be
pub data IsTold (e : Exit) (command : Command) : Type 0 where
  Quiet : ¬ Includes (command_names command) e.exit → ((name : ℕ) (cells : List Operand) → command ≢ MakeFunc name e.proc cells) → IsTold e command
  MakesIt : command ≡ MakeFunc e.exit e.proc [] → IsTold e command
  CallsIt : command ≡ Call (Name e.exit) → IsTold e command

pub high_tame : (e : Exit) (a : Activity) → IsHigh e a → AllOther e (commands_on a)
high_tame e (TopLevel commands) h = absurd h
high_tame e (Framed f) h = h
high_tame e (Collecting c) h = λ c m. absurd m
high_tame e a h = λ c m. absurd m

pub joined_tame : (e : Exit) (tops below : List Activity) → AllHigh e tops → AreTame e below → AreTame e (tops ++ below)
joined_tame e tops below h k a m = either (Includes-append_cases tops below a m) (λ i. high_tame e a (h a i)) (k a)

pub counted : (calls n : ℕ) (b : Bool) → b ≡ false → calls + (if b then n else 0) ≡ calls
counted calls n true is = cc
counted calls n false is = omega arith

pub frame_is : (f g : Frame) → Framed f ≡ Framed g → f ≡ g
frame_is f g is = cc

pub top_is : (xs ys : List Command) → TopLevel xs ≡ TopLevel ys → xs ≡ ys
top_is xs ys is = cc

module _ (script : Script) (budget : ℕ) (e : Exit) (ex : IsExit script e) where
  -- the commands of the procedure
  abbrev pub IsQuiet : Command → Type 0
  IsQuiet c = (¬ Includes (command_names c) e.exit) × ((name : ℕ) (cells : List Operand) → c ≢ MakeFunc name e.proc cells)

  pub tail_quiet : (commands rest : List Command) (c : Command) → IsTail e commands → commands ≡ c ∷ rest → IsQuiet c × (IsTail e rest ⊎ (rest ≡ []))
  tail_quiet commands rest c AtDeref is = let h = heads _ c _ rest is
      in (
        subst IsQuiet h.0 (λ m. either m (λ i. ex.exit_object (sym i)) (λ k. either k (λ i. ex.watch_exit i) (λ none. none)), λ n cs i. cc),
        inl (subst (IsTail e) h.1 AtQuit),
      )
  tail_quiet commands rest c AtQuit is = let h = heads _ c _ rest is in (
    subst IsQuiet h.0 (
      λ m. either m (λ i. ex.exit_object (sym i)) (λ none. none),
      λ n cs i. cc,
    ),
    inl (subst (IsTail e) h.1 AtWatch),
  )
  tail_quiet commands rest c AtWatch is = let h = heads _ c _ rest is in (subst IsQuiet h.0 (λ m. either m (λ i. ex.watch_exit i) (λ none. none), λ n cs i. cc), inl (subst (IsTail e) h.1 AtObject))
  tail_quiet commands rest c AtObject is = let h = heads _ c _ rest is in (
    subst IsQuiet h.0 (
      λ m. either m (λ i. ex.exit_object (sym i)) (λ none. none),
      λ n cs i. cc,
    ),
    inl (subst (IsTail e) h.1 AtCall),
  )
  tail_quiet commands rest c AtCall is = let h = heads _ c _ rest is in (subst IsQuiet h.0 (λ m. either m (λ i. ex.exit_function (sym i)) (λ none. none), λ n cs i. cc), inr (sym h.1))

  other_told : (c : Command) → IsOther e c → IsTold e c
  other_told c h = Quiet (other_exit script budget e ex c h) h.makes

  not_exit : (names : List ℕ) → AreOthers e names → ¬ Includes names e.exit
  not_exit names h m = h e.exit m (inr (inl refl))

  pub position_told : (c : Command) (rest : List Command) → Position script e ex c rest → IsTold e c
  position_told c rest (InOther h) = other_told c h
  position_told c rest (InFirst is) = MakesIt is
  position_told c rest (InSecond is) = subst (IsTold e) (sym is) (Quiet (λ m. either m (λ i. ex.exit_function (sym i)) (not_exit (operand_names e.source) ex.source_other)) (λ n cs i. cc))
  position_told c rest (InThird is at) = subst (IsTold e) (sym is)
      (Quiet (λ m. either m (λ i. ex.watch_exit i) (λ k. either (Includes-append_cases (operand_names e.target) (e.function ∷ []) e.exit k)
      (not_exit (operand_names e.target) ex.target_other) (λ l. either l (λ i. ex.exit_function (sym i)) (λ none. none)))) (λ n cs i. cc))
  position_told c rest (InLast is at) = CallsIt is

  high_told : (c : Command) (a b : Activity) → Takes c a b → AllOther e (commands_on a) → IsTold e c
  high_told c a b (FromTop commands) h = other_told c (h c (inl refl))
  high_told c a b (FromFrame f commands left) h = other_told c (h c (subst (λ cs. Includes cs c) (sym left) (inl refl)))

  frame_told : (f : Frame) (c : Command) (a b : Activity) → Takes c a b → Framed f ≡ a → IsTail e f.commands → IsTold e c
  frame_told f c a b (FromTop commands) is t = absurd (cc)
  frame_told f c a b (FromFrame g commands left) is t = let q = tail_quiet f.commands commands c t (ap (λ (q : Frame). q.commands) (frame_is f g is) ∙ left) in Quiet q.0.0 q.0.1

  top_told : (cs done : List Command) (c : Command) (a b : Activity) → Takes c a b → TopLevel cs ≡ a → commands_of script.items ≡ done ++ cs → IsTold e c
  top_told cs done c a b (FromTop commands) is at = position_told c commands (positioned script e ex done commands c (at ∙ ap (λ xs. done ++ xs) (top_is cs (c ∷ commands) is)))
  top_told cs done c a b (FromFrame g commands left) is at = absurd (cc)

  -- what is taken from the top of the stack
  pub stage_told : (Q : List Command → Type 0) (calls : ℕ) (stack : List Activity) (c : Command) (a b : Activity) (below : List Activity)
      → Stage script e Q calls stack → stack ≡ a ∷ below → Takes c a b → IsTold e c
  stage_told Q calls stack c a b below (Before [] done commands is high at none) top takes = top_told commands done c a b takes
      (same_top script budget e ex (TopLevel commands) a [] below stack is top).0 at
  stage_told Q calls stack c a b below (Before (t ∷ tops) done commands is high at none) top takes =
      high_told c a b takes (subst (λ (x : Activity). AllOther e (commands_on x)) (same_top script budget e ex t a (tops ++ TopLevel commands ∷ []) below stack
      is top).0 (high_tame e t (high t (inl refl))))
  stage_told Q calls stack c a b below (During [] f commands is high tail other q none) top takes =
      frame_told f c a b takes (same_top script budget e ex (Framed f) a (TopLevel commands ∷ []) below stack is top).0 tail
  stage_told Q calls stack c a b below (During (t ∷ tops) f commands is high tail other q none) top takes =
      high_told c a b takes (subst (λ (x : Activity). AllOther e (commands_on x)) (same_top script budget e ex t a (tops ++ Framed f ∷ TopLevel commands ∷ [])
      below stack is top).0 (high_tame e t (high t (inl refl))))
  stage_told Q calls stack c a b below (After tame few) top takes = high_told c a b takes (tame a (subst (λ st. Includes st a) (sym top) (inl refl)))
