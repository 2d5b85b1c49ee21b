use Rattle.std.proofs.Common.{◌≡◌, ◌<◌, ◌≤◌, take}
use Rattle.std.specs.List.{All}
use Rattle.cg_kinds.proofs.values.are_references.Given as goal

abbrev pub invariant-sorts : goal.invariant-sorts
invariant-sorts l = record {
  least : l.least ≤ 3;
  all : l.least ≡ 3 → All (λ sort. 2 < sort) (take l.sort-index l.sorts);
}
