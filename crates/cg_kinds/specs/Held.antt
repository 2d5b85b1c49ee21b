-- The pairs of a dictionary or an instance, in any form. (Ours.)
use Rattle.std.specs.Prelude.{List, option_to_list}
use Rattle.cg_value.specs.declared.Entry.{Entry}
use Rattle.cg_kinds.specs.declared.held.Held.{Held}
use Rattle.cg_kinds.specs.declared.held.Held.TheVariants.{One, Few, Many}

-- at most one in place, few in a list, or any number in a map
abbrev pub entries_held : Held → List Entry
entries_held (One one) = option_to_list one.kept
entries_held (Few few) = few
entries_held (Many table) = table.value
