use Rattle.std.proofs.Common.{◌≡◌, ◌++◌}
use Rattle.cg_generator.specs.Generated.{blocks_to}
use Rattle.cg_generator.proofs.script.push_blocks.Given as goal

-- the blocks so far were pushed
abbrev pub invariant-numbers : goal.invariant-numbers
invariant-numbers l = record { pushed : l.items.items ≡ l.fn.items.items ++ blocks_to l.before }
