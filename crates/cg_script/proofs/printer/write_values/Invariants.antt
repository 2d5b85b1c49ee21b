use Rattle.std.proofs.Common.{◌≡◌, ◌++◌, take}
use Rattle.std.specs.Prelude.{flat_map}
use Rattle.cg_script.specs.Canonical.{behind_space, value_word}
use Rattle.cg_script.proofs.printer.write_values.Given as goal

-- the values so far are written
abbrev pub invariant-values : goal.invariant-values
invariant-values l = l.out.items ≡ l.fn.out.items ++ flat_map (λ value. behind_space (value_word l.names value)) (take l.value-index l.values)
