-- What the calls of a heap do to its store. (Ours.)
use Rattle.std.specs.Prelude.{replicate, false, ℕ, ◌+◌, ◌-◌, List, [], Option, None, slice_set}
use Rattle.std.specs.FinMap as fin
use Rattle.cg_value.specs.declared.Val.{Val}
use Rattle.cg_value.specs.declared.Entry.{Entry}
use Rattle.cg_value.specs.declared.KindCode.{KindCode}
use Rattle.cg_value.specs.declared.KindCode.TheVariants.{List as ListKind}
use Rattle.cg_value.specs.declared.Place.{Place}
use Rattle.cg_value.specs.declared.Place.TheVariants.{Untracked}
use Rattle.cg_graph.specs.Maps.{mapped, changed}
use Rattle.cg_graph.specs.Object.{first_place}
use Rattle.cg_graph.specs.Holdings.{occurrences}
use Rattle.cg_graph.specs.Places.{place_number, move_between, leaves_list, joins_list}
use Rattle.cg_graph.specs.Store.{Store, Node, place_of}

-- one more outside hold for each reference
abbrev pub more : ℕ → Node → Node
more k n = record n { outside = n.outside + k }

-- these references are held from outside
abbrev pub held : List ℕ → Store → Store
held refs store = record store { nodes = mapped (λ s n. more (occurrences s refs) n) store.nodes }

-- one outside hold fewer for each reference
abbrev pub less : ℕ → Node → Node
less k n = record n { outside = n.outside - k }

-- these references are no longer held from outside
abbrev pub unheld : List ℕ → Store → Store
unheld refs store = record store { nodes = mapped (λ s n. less (occurrences s refs) n) store.nodes }

-- one object with other entries
abbrev pub with_entries : List Entry → Node → Node
with_entries es n = record n { entries = es }

-- one object's entries replaced
abbrev pub rewritten : ℕ → List Entry → Store → Store
rewritten o es store = record store { nodes = changed (with_entries es) o store.nodes }

-- a name bound to a value, or unbound
abbrev pub named : ℕ → Option Val → Store → Store
named i v store = record store { names = slice_set store.names i v }

abbrev pub with_place : Place → Node → Node
with_place p n = record n { place = p }

-- one object moved to the end of a place
abbrev pub moved : ℕ → Place → Store → Store
moved o p store = record store {
  nodes = changed (with_place p) o store.nodes;
  lists = move_between store.lists o (place_number (place_of store o)) (place_number p);
}

-- one object removed
abbrev pub gone : ℕ → Store → Store
gone o store = record store {
  nodes = fin.remove store.nodes o;
  lists = leaves_list store.lists o (place_number (place_of store o));
}

-- a new object, with one outside hold
abbrev pub new_node : KindCode → Option ℕ → List Entry → Node
new_node code class parts = record {
  code = code;
  class = class;
  entries = parts;
  finalized = false;
  place = first_place code;
  number = 0;
  outside = 1;
}

-- a new object, whose serial is one above the last
abbrev pub made : KindCode → Option ℕ → List Entry → Store → Store
made code class parts store = record store {
  nodes = fin.insert store.nodes (store.last + 1) (new_node code class parts);
  last = store.last + 1;
  lists = joins_list store.lists (store.last + 1) (place_number (first_place code));
}

-- the garbage list, held by the garbage root (`gc` manual, `gc.garbage`)
abbrev pub garbage_node : Node
garbage_node = record {
  code = ListKind;
  class = None;
  entries = [];
  finalized = false;
  place = Untracked;
  number = 0;
  outside = 0;
}

-- the garbage list alone, with no name bound
abbrev pub opening_store : ℕ → Store
opening_store names = record {
  nodes = fin.insert fin.empty 1 garbage_node;
  last = 1;
  names = replicate names None;
  lists = joins_list (replicate 10 []) 1 (place_number Untracked);
  rows = [];
}
