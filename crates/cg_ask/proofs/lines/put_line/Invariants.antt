use Rattle.std.proofs.Common.{◌≡◌, ◌++◌, take}
use Rattle.cg_snapshot.specs.Rows.{all_spaced}
use Rattle.cg_ask.proofs.lines.put_line.Given as goal

abbrev pub invariant-numbers : goal.invariant-numbers
invariant-numbers l = l.out.items ≡ l.fn.out.items ++ (l.word ++ all_spaced (take l.number-index l.numbers))
