-- The bodies of objects' contents. (Ours.)
use Rattle.std.specs.Prelude.{◌≡◌, ℕ, pos, List, map}
use Rattle.cg_value.specs.declared.Val.{Val}
use Rattle.cg_value.specs.declared.Val.TheVariants as val
use Rattle.cg_graph.specs.Value.{item}
use Rattle.cg_kind.specs.Bodies.{Body, body_of}
use Rattle.cg_kinds.specs.declared.listed.Listed.{Listed}
use Rattle.cg_kinds.specs.Listed.{items_listed, room_listed}

-- the items of a list, and its room for more
abbrev pub list_body : Listed → Body
list_body values = body_of (map item (items_listed values)) (room_listed values)

-- these items, and no room
abbrev pub fixed_body : List Val → Body
fixed_body values = body_of (map item values) 0

-- the key is a non-negative integer
abbrev pub IsIndex : Val → Type 0
IsIndex key = (i : ℕ) × (key ≡ val.Int (pos i))
