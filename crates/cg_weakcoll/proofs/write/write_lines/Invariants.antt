use Rattle.std.proofs.Common.{◌≡◌, ◌++◌, take, map}
use Rattle.cg_weakcoll.specs.Words.{line_of}
use Rattle.cg_weakcoll.specs.Expansion.{with_feeds}
use Rattle.cg_weakcoll.proofs.write.write_lines.Given as goal

-- the lines so far are written
abbrev pub invariant-lines : goal.invariant-lines
invariant-lines l = l.out.items ≡ l.fn.out.items ++ with_feeds (map line_of (take l.line-index l.lines))
