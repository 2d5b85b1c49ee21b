-- What trial subtraction sees of a heap, and how its calls change that. (Ours.)
use Rattle.std.specs.Prelude.{◌≡◌, ◌≢◌, ℕ, ◌+◌, ◌≤◌, Bool, IsTrue, List, [], ◌∷◌, ◌++◌, ◌==◌, cond, Option, Some, None, is_some, option_map, option_to_list, flat_map, slice_get}
use Rattle.std.specs.FinMap as fin
use Rattle.cg_value.specs.declared.Val.{Val}
use Rattle.cg_value.specs.declared.Entry.{Entry}
use Rattle.cg_value.specs.declared.Place.{Place}
use Rattle.cg_value.specs.declared.Place.TheVariants.{Untracked}
use Rattle.cg_graph.specs.Member.{Includes}
use Rattle.cg_graph.specs.Value.{references, reference_in}
use Rattle.cg_graph.specs.Holdings.{occurrences}
use Rattle.cg_graph.specs.Places.{without_serial}
use Rattle.cg_graph.specs.Rows.{Row}
use Rattle.cg_graph.specs.Store.{Store, Node, list_at, entries_of, count_of}

-- what a heap has besides objects and lists
pub record Beside : Type 0 where
  pub last : ℕ
  pub names : List (Option Val)
  pub rows : List Row

pub record View : Type 0 where
  -- the objects of a place, in order
  pub listed : Place → List ℕ
  pub live : ℕ → Bool
  pub entries : ℕ → List Entry
  -- how often an object is held
  pub degree : ℕ → ℕ
  -- the collector's number
  pub number : ℕ → ℕ
  -- an object without its place and number
  pub bare : ℕ → Option Node
  pub beside : Beside

-- a node without its place and number
abbrev pub bare_node : Node → Node
bare_node n = record n { place = Untracked; number = 0 }

-- the number of an optional node
abbrev pub number_in : Option Node → ℕ
number_in None = 0
number_in (Some n) = n.number

abbrev pub view_of : Store → View
view_of store = record {
  listed = λ p. list_at store p;
  live = λ s. is_some (fin.get store.nodes s);
  entries = λ s. entries_of store s;
  degree = λ s. count_of store s;
  number = λ s. number_in (fin.get store.nodes s);
  bare = λ s. option_map bare_node (fin.get store.nodes s);
  beside = record { last = store.last; names = store.names; rows = store.rows };
}

-- Objects are unchanged except for places and numbers, and each is held as often as before.
pub record IsSame (old new : View) : Type 0 where
  pub lives : new.live ≡ old.live
  pub hold : new.entries ≡ old.entries
  pub degrees : new.degree ≡ old.degree
  pub bares : new.bare ≡ old.bare
  pub besides : new.beside ≡ old.beside

pub record IsSameButNumbers (old new : View) : Type 0 where
  pub same : IsSame old new
  pub places : new.listed ≡ old.listed

-- one object has another number
pub record Numbered (object n : ℕ) (old new : View) : Type 0 where
  pub rest : IsSameButNumbers old new
  pub numbers : (p : ℕ) → new.number p ≡ cond (p == object) n (old.number p)

-- one object is last in a place
pub record Moved (object : ℕ) (place : Place) (old new : View) : Type 0 where
  pub same : IsSame old new
  pub numbers : new.number ≡ old.number
  pub last : new.listed place ≡ without_serial object (old.listed place) ++ object ∷ []
  pub others : (q : Place) → q ≢ place → new.listed q ≡ without_serial object (old.listed q)

-- all objects of one place come after those of another
pub record Merged (from to : Place) (old new : View) : Type 0 where
  pub same : IsSame old new
  pub numbers : new.number ≡ old.number
  pub joined : new.listed to ≡ old.listed to ++ old.listed from
  pub emptied : new.listed from ≡ []
  pub others : (q : Place) → q ≢ from → q ≢ to → new.listed q ≡ old.listed q

-- the first of a list
abbrev pub head_of : List ℕ → Option ℕ
head_of xs = slice_get xs 0

-- the successor of an object in its list
abbrev pub IsNext : View → ℕ → Option ℕ → Type 0
IsNext v o result = (place : Place) (front back : List ℕ) → v.listed place ≡ front ++ o ∷ back → result ≡ head_of back

-- the reference of a value, if it is one
abbrev pub targets : Val → List ℕ
targets value = option_to_list (reference_in value)

-- what the entries of some objects hold
abbrev pub held_by : View → List ℕ → List ℕ
held_by v members = flat_map (λ o. references (v.entries o)) members

-- Each member of a place is in its list once, and references lead to live objects.
pub record IsReadyView (members : Place) (v : View) : Type 0 where
  pub once : (o : ℕ) → occurrences o (v.listed members) ≤ 1
  pub alive : (o : ℕ) → Includes (v.listed members) o → IsTrue (v.live o)
  pub closed : (o p : ℕ) → IsTrue (v.live o) → Includes (references (v.entries o)) p → IsTrue (v.live p)

-- Each member's number falls by its occurrences among the references.
pub record Lowered (members : Place) (refs : List ℕ) (old new : View) : Type 0 where
  pub rest : IsSameButNumbers old new
  pub lower : (o : ℕ) → Includes (old.listed members) o → new.number o + occurrences o refs ≡ old.number o
