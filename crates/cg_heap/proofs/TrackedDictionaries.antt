-- What makes a dictionary tracked.
use Rattle.std.proofs.Common.{◌≡◌, Option, Some, None, IsSome}
use Rattle.cg_value.specs.declared.Place.{Place}
use Rattle.cg_value.specs.declared.KindCode.{KindCode}
use Rattle.cg_graph.specs.Store.{Node, place_in}
use Rattle.cg_heap.specs.Calls.{code_in, is_dict_at, is_untracked_dict}

pub dict_here : (x : Option Node) (code : KindCode) (place : Place) → IsSome x → code ≡ code_in x → place ≡ place_in x → is_dict_at code place ≡ is_untracked_dict x
dict_here None code place live c p = absurd (cc)
dict_here (Some n) code place live c p = λ i. is_dict_at (c i) (p i)
