-- What a contract sees of a `Flagset`: its bits, as a number. (`gc.set_debug`.)
use Rattle.std.specs.Prelude.{ℕ, ◌+◌, List, [], ◌∷◌, codes}
use Rattle.bitflags.specs.Sets.{Row}
use Rattle.cg_machine.specs.Collect.{stats, collectable, uncollectable, save_all}
use Rattle.cg_policy.specs.declared.flagset.Flagset.{Flagset}

abbrev pub bits_of : Flagset → ℕ
bits_of flags = flags.0

-- the name and the bits of each flag
abbrev pub flag_table : List Row
flag_table =
    (codes "STATS", stats)
    ∷ (codes "COLLECTABLE", collectable)
    ∷ (codes "UNCOLLECTABLE", uncollectable)
    ∷ (codes "SAVEALL", save_all)
    ∷ (codes "LEAK", collectable + uncollectable + save_all)
    ∷ []
