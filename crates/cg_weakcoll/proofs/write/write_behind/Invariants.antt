use Rattle.std.proofs.Common.{◌≡◌, ◌++◌, take, map}
use Rattle.std.specs.Prelude.{flat_map}
use Rattle.cg_script.specs.Canonical.{behind_space}
use Rattle.cg_weakcoll.specs.Words.{word_bytes}
use Rattle.cg_weakcoll.proofs.write.write_behind.Given as goal

-- the words so far are written
abbrev pub invariant-words : goal.invariant-words
invariant-words l = l.out.items ≡ l.fn.out.items ++ flat_map behind_space (map word_bytes (take l.word-index l.words))
