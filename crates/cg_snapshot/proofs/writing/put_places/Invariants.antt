use Rattle.std.proofs.Common.{◌≡◌, ◌++◌, take}
use Rattle.cg_snapshot.specs.Rows.{all_spaced}
use Rattle.cg_snapshot.proofs.writing.put_places.Given as goal

abbrev pub invariant-places : goal.invariant-places
invariant-places l = l.out.items ≡ l.fn.out.items ++ all_spaced (take l.place-index l.places)
