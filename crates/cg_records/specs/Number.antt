-- How decimal numbers are written. (Ours.)
use Rattle.std.specs.Prelude.{ℕ, List, Bool, not, length, slice_index, ◌==◌, ◌&&◌, ◌||◌}

-- a nonempty word without leading zeros
abbrev pub is_plain : List ℕ → Bool
is_plain word = not (length word == 0) && ((length word == 1) || not (slice_index word 0 == 48))
