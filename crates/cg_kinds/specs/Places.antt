-- The bodies at the keys of a slab. (Ours.)
use Rattle.std.specs.Prelude.{map}
use Rattle.std.specs.FinMap as fin
use Rattle.slab.specs.Slab.{Slab, entries}
use Rattle.cg_kind.specs.Bodies.{Body, Bodies}

-- the body of each value, at the value's key
unfoldable pub bodies_of : {T : Type 0} → (T → Body) → Slab T → Bodies
bodies_of body slab = fin.from_entries (map (λ e. (e.0, body e.1)) (entries slab))
