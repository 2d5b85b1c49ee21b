-- The text of records: one line for each object, reference and member of a set. (Ours.)
use Rattle.std.specs.Prelude.{◌≡◌, ℕ, ◌^◌, ◌<◌, ◌≤◌, Bool, true, false, List, [], ◌∷◌, ◌++◌, flat_map, codes, decimal, Option, None, Some, IfSome}
use Rattle.std.specs.List.{All}
use Rattle.cg_records.specs.declared.graph.Member.{Member}
use Rattle.cg_records.specs.declared.graph.Graph.{Graph}
use Rattle.cg_records.specs.declared.graph.Rec.{Rec}

-- a line with a word and a number
abbrev pub numbered : List ℕ → ℕ → List ℕ
numbered word n = word ++ 32 ∷ decimal n ++ 10 ∷ []

-- 1 for a legacy finalizer, else 0
abbrev pub flag : Bool → List ℕ
flag true = codes "1"
flag false = codes "0"

-- a member, and its references to members
abbrev pub member_text : Member → List ℕ
member_text m = codes "m " ++ decimal m.serial ++ 32 ∷ decimal m.degree ++ 32 ∷ flag m.legacy ++ 10 ∷ flat_map (numbered (codes "r")) m.refs

-- the members of a graph, and those found unreachable
abbrev pub graph_text : Graph → List ℕ
graph_text g = flat_map member_text g.members ++ flat_map (numbered (codes "lost")) g.lost

-- the second graph of a record, or a mark that the run ended before it
abbrev pub rest_text : Option Graph → List ℕ
rest_text None = codes "cut\n"
rest_text (Some g) = codes "graph 2\n" ++ graph_text g ++ codes "stop\n"

-- a record
abbrev pub record_text : Rec → List ℕ
record_text r = numbered (codes "record") r.generation ++ codes "graph 1\n" ++ graph_text r.first ++ flat_map (numbered (codes "legacy")) r.first.legacy ++ rest_text r.second

-- all records
abbrev pub text : List Rec → List ℕ
text records = flat_map record_text records ++ codes "end\n"

-- A record can be written if its generation is 0, 1 or 2 and its second graph has no legacy set.
pub record IsWritable (r : Rec) : Type 0 where
  pub generation : r.generation ≤ 2
  pub second : IfSome r.second (λ g. g.legacy ≡ [])

-- Each number of a member is below 2 ^ 64.
pub record IsSmallMember (m : Member) : Type 0 where
  pub serial : m.serial < 2 ^ 64
  pub degree : m.degree < 2 ^ 64
  pub refs : All (λ n. n < 2 ^ 64) m.refs

-- Each number of a graph is below 2 ^ 64.
pub record IsSmallGraph (g : Graph) : Type 0 where
  pub members : All IsSmallMember g.members
  pub lost : All (λ n. n < 2 ^ 64) g.lost
  pub legacy : All (λ n. n < 2 ^ 64) g.legacy

-- Each number of a record is below 2 ^ 64.
pub record IsSmall (r : Rec) : Type 0 where
  pub first : IsSmallGraph r.first
  pub second : IfSome r.second IsSmallGraph

-- The bytes are the text of records.
pub record Spells (bytes : List ℕ) (records : List Rec) : Type 0 where
  pub writable : All IsWritable records
  pub text : bytes ≡ text records
