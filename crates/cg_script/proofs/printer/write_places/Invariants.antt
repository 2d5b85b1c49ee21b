use Rattle.std.proofs.Common.{◌≡◌, ◌+◌, ◌++◌, drop}
use Rattle.std.specs.Prelude.{flat_map}
use Rattle.cg_script.specs.Canonical.{behind_space, words_from, names_by}
use Rattle.cg_script.proofs.printer.write_places.Given as goal

-- the words so far, and those of the parts that are left
abbrev pub invariant-parts : goal.invariant-parts
invariant-parts l = l.out.items ++ flat_map behind_space (words_from (names_by l.naming) l.form (l.place + l.at) (drop l.at l.parts))
    ≡ l.fn.out.items ++ flat_map behind_space (words_from (names_by l.naming) l.form l.place l.parts)
