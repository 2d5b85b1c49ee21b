use Rattle.std.proofs.Common.{◌≡◌, ◌≤◌, ◌-◌, ◌+◌, ◌++◌, map, drop, length}
use Rattle.cg_script.proofs.Places.{value_of_part}
use Rattle.cg_script.proofs.said.values_from.Given as goal

-- the values so far and those of the remaining parts, for which there is room
abbrev pub invariant-places : goal.invariant-places
invariant-places l = record {
  values : l.values.items ++ map value_of_part (drop l.at l.parts) ≡ map value_of_part (drop l.place l.parts);
  room : length l.values.items + (length l.parts - l.at) ≤ l.values.capacity;
}
