-- The worlds of the machine that a heap and the locals of a frame represent. (Ours.)
use Rattle.std.specs.Prelude.{◌≡◌, ℕ, Option, IfSome, option_map, Result, Ok}
use Rattle.cg_graph.specs.Store.{Store, IsLive}
use Rattle.cg_machine.specs.World.{World, Frame}
use Rattle.cg_value.specs.declared.Val.{Val}
use Rattle.cg_script.specs.declared.command.Operand.{Operand}
use Rattle.cg_machine.specs.Operands.{frame_on, value_of}
use Rattle.cg_represents.specs.Represents.{Represents}
use Rattle.cg_commands.specs.declared.done.Refusal.{Refusal}
use Rattle.cg_commands.specs.declared.locals.Locals.{Locals}
use Rattle.cg_commands.specs.Refusals.{Declines}

-- the locals of a frame
abbrev pub locals_of : Frame → Locals
locals_of f = record { sort = f.sort; subject = f.subject; func = f.function }

-- the top frame of the world has these locals, or no frame is on top
abbrev pub HasLocals : Option Locals → World → Type 0
HasLocals locals w = option_map locals_of (frame_on w.stack) ≡ locals

-- the objects among the locals live
abbrev pub LocalsLive : Store → Option Locals → Type 0
LocalsLive store locals = IfSome locals (λ l. IsLive store l.subject × IfSome l.func (λ f. IsLive store f))

-- The heap represents the world, and the locals are those of its top frame.
pub record HeapAndLocalsStandFor (store : Store) (locals : Option Locals) (w : World) : Type 0 where
  pub represents : Represents store w
  pub locals_are : HasLocals locals w

-- in each such world the machine answers x
abbrev pub Reads : {A : Type 0} → Store → Option Locals → (World → Result A ℕ) → A → Type 0
Reads store locals read x = (w : World) → HeapAndLocalsStandFor store locals w → read w ≡ Ok x

-- in each such world the machine gives this refusal
abbrev pub IsRefused : {A : Type 0} → Store → Option Locals → (World → Result A ℕ) → Refusal → Type 0
IsRefused store locals read refusal = (w : World) → HeapAndLocalsStandFor store locals w → Declines refusal (read w)

-- in each such world the operand has this value, or none
abbrev pub ReadsValue : Store → Option Locals → Operand → Option Val → Type 0
ReadsValue store locals operand v = (w : World) → HeapAndLocalsStandFor store locals w → value_of w operand ≡ v
