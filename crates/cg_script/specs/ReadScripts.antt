-- A parsed script. (Ours.)
use Rattle.std.specs.Prelude.{◌≡◌, ℕ, List}
use Rattle.cg_script.specs.declared.item.Script.{Script}
use Rattle.cg_script.specs.Reading.{reading, spells}

-- some bytes spell it
abbrev pub WasRead : Script → Type 0
WasRead script = (bytes : List ℕ) × (reading bytes ≡ spells script.names script.items)
