use Rattle.std.proofs.Common.{◌≡◌, drop, slice_get}
use Rattle.cg_script.specs.Items.{classes}
use Rattle.cg_script.proofs.numbered.nth_class.Given as goal

-- this many of those from the next line on come before it
abbrev pub invariant-items : goal.invariant-items
invariant-items l = slice_get (classes l.items) l.number ≡ slice_get (classes (drop l.at l.items)) l.left
