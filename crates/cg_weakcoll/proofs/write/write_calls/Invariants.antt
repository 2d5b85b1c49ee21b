use Rattle.std.proofs.Common.{◌≡◌, ◌++◌, length}
use Rattle.cg_weakcoll.specs.Expansion.{with_feeds, call_lines}
use Rattle.cg_weakcoll.proofs.write.write_calls.Given as goal

-- what is written so far, then the lines of the remaining numbers, is what is to be written
abbrev pub invariant-calls : goal.invariant-calls
invariant-calls l = l.out.items ++ with_feeds (call_lines l.numbers.items) ≡ l.fn.out.items ++ with_feeds (call_lines l.fn.numbers.items)

abbrev pub decreases-calls : goal.decreases-calls
decreases-calls l = length l.numbers.items
