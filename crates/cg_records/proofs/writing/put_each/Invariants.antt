use Rattle.std.proofs.Common.{◌≡◌, ◌++◌, take}
use Rattle.std.specs.Prelude.{flat_map}
use Rattle.cg_records.specs.Text.{numbered}
use Rattle.cg_records.proofs.writing.put_each.Given as goal

abbrev pub invariant-numbers : goal.invariant-numbers
invariant-numbers l = l.out.items ≡ l.fn.out.items ++ flat_map (numbered l.word) (take l.number-index l.numbers)
