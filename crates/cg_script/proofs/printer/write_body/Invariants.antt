use Rattle.std.proofs.Common.{◌≡◌, ◌++◌, take}
use Rattle.std.specs.Prelude.{flat_map}
use Rattle.cg_script.specs.Canonical.{command_words, line_of_words, names_by}
use Rattle.cg_script.proofs.printer.write_body.Given as goal

-- the commands so far are written
abbrev pub invariant-commands : goal.invariant-commands
invariant-commands l = l.out.items ≡ l.fn.out.items ++ flat_map (λ command. line_of_words (command_words (names_by l.naming) command)) (take l.command-index l.body)
