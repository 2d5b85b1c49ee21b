-- What a fault of reading means. (Ours.)
use Rattle.std.specs.Prelude.{◌≡◌}
use Rattle.cg_script.specs.declared.fault.ScriptFault.{ScriptFault}
use Rattle.cg_script.specs.declared.fault.ScriptFault.TheVariants.{Bad, OutOfMemory}
use Rattle.cg_script.specs.Reading.{Reading, faulty}

-- a fault is what the reading says, unless memory ran out
abbrev pub IsFault : ScriptFault → Reading → Type 0
IsFault (Bad line code) whole = whole ≡ faulty line code
IsFault OutOfMemory whole = Unit {0}
