-- The values of a list, wherever they stand. (Ours.)
use Rattle.std.specs.Prelude.{ℕ, ◌-◌, List, length, option_to_list, vec_len, vec_capacity}
use Rattle.cg_value.specs.declared.Val.{Val}
use Rattle.cg_kinds.specs.declared.listed.Listed.{Listed}
use Rattle.cg_kinds.specs.declared.listed.Listed.TheVariants.{One, Few, Many}

-- at most one in place, a few in one vector, or any number in columns
abbrev pub items_listed : Listed → List Val
items_listed (One one) = option_to_list one.kept
items_listed (Few few) = few.items
items_listed (Many columns) = columns.value.items

-- how many more fit without allocating
abbrev pub room_listed : Listed → ℕ
room_listed (One one) = 1 - length (option_to_list one.kept)
room_listed (Few few) = vec_capacity few - vec_len few
room_listed (Many columns) = columns.value.room
