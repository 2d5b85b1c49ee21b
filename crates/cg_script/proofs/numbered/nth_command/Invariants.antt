use Rattle.std.proofs.Common.{◌≡◌, ◌+◌, ◌≤◌, drop, slice_get}
use Rattle.cg_script.specs.Items.{commands_of}
use Rattle.cg_script.proofs.numbered.nth_command.Given as goal

-- this many of those from the next line on come before it
abbrev pub invariant-items : goal.invariant-items
invariant-items l = (slice_get (commands_of l.items) l.number ≡ slice_get (commands_of (drop l.at l.items)) l.left) × (l.number ≤ l.at + l.left)
