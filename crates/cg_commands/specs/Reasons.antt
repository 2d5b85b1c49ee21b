-- The lines that explain why an object is alive. (Ours.)
use Rattle.std.specs.Prelude.{◌≡◌, ℕ, List, [], ◌∷◌, Result, Ok}
use Rattle.cg_graph.specs.Store.{Store}
use Rattle.cg_inspect.specs.declared.reason.Why.{Why}
use Rattle.cg_inspect.specs.declared.reason.Why.TheVariants as reason
use Rattle.cg_inspect.specs.Inspection.{IsReason}
use Rattle.cg_machine.specs.declared.event.Event.{Event}
use Rattle.cg_machine.specs.declared.event.Event.TheVariants.{Unreachable}
use Rattle.cg_machine.specs.Effects.{Effect, Explains}
use Rattle.cg_machine.specs.Commands.{path_lines}

-- the lines of a path, or of none
abbrev pub reason_lines : Why → List Event
reason_lines (reason.Path path) = path_lines path.items
reason_lines reason.Unreachable = Unreachable ∷ []

-- The effect explains why an object is alive, with these lines: a shortest path, or that there is none.
pub record Explained (effect : Result Effect ℕ) (store : Store) (lines : List Event) : Type 0 where
  pub object : ℕ
  pub is : effect ≡ Ok (Explains object)
  pub reason : Why
  pub is_reason : IsReason store object reason
  pub tells : lines ≡ reason_lines reason
