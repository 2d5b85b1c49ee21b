-- When a recorded graph is right, and the verdict on the bytes of records. (Developer guide, "identifying reference
-- cycles"; the `gc` manual on `gc.garbage`. The order of the faults is ours.)
use Rattle.std.specs.Prelude.{◌≡◌, ℕ, ◌+◌, ◌<◌, ◌≤◌, Bool, true, false, List, [], ◌∷◌, ◌++◌, length, map, flat_map, Option, None, Some, ◌↔◌}
use Rattle.std.specs.List.{All}
use Rattle.cg_graph.specs.declared.Edge.{Edge}
use Rattle.cg_graph.specs.Member.{Includes}
use Rattle.cg_graph.specs.Holdings.{occurrences}
use Rattle.cg_graph.specs.Reach.{Reach, Unreachable}
use Rattle.cg_records.specs.declared.graph.Member.{Member}
use Rattle.cg_records.specs.declared.graph.Graph.{Graph}
use Rattle.cg_records.specs.declared.graph.Rec.{Rec}
use Rattle.cg_records.specs.Text.{Spells, IsSmall}
use Rattle.cg_cert.specs.declared.check.Verdict.{Verdict}
use Rattle.cg_cert.specs.declared.check.Verdict.TheVariants.{Yes, No}

-- the serials of members, in order
abbrev pub serials_of : List Member → List ℕ
serials_of members = map (λ m. m.serial) members

-- all references that members have
abbrev pub references_of : List Member → List ℕ
references_of members = flat_map (λ m. m.refs) members

-- one edge for each reference of a member
abbrev pub edges_of : List Member → List Edge
edges_of members = flat_map (λ m. map (λ r. record { from = m.serial; to = r }) m.refs) members

-- a member has the serial
abbrev pub IsMember : List Member → ℕ → Type 0
IsMember members o = Includes (serials_of members) o

-- A member is held from outside if its in-degree exceeds its occurrences among the members' references.
pub record IsHeld (members : List Member) (o : ℕ) : Type 0 where
  pub member : Member
  pub among : Includes members member
  pub serial : member.serial ≡ o
  pub exceeds : occurrences o (references_of members) < member.degree

-- the class of a member has a legacy finalizer
pub record IsMarked (members : List Member) (o : ℕ) : Type 0 where
  pub member : Member
  pub among : Includes members member
  pub serial : member.serial ≡ o
  pub marked : member.legacy ≡ true

-- no path of members leads to it from one held from outside
abbrev pub IsLost : List Member → ℕ → Type 0
IsLost members o = Unreachable (IsHeld members) (IsMember members) (edges_of members) o

-- it is lost and has a legacy finalizer, or a path of lost members leads to it from such a member
abbrev pub IsSetAside : List Member → ℕ → Type 0
IsSetAside members o = Reach (IsMarked members) (IsLost members) (edges_of members) o

-- no serial occurs twice
abbrev pub IsOnceEach : List ℕ → Type 0
IsOnceEach serials = (o : ℕ) → occurrences o serials < 2

-- each serial names a member
abbrev pub NamesMembers : List Member → List ℕ → Type 0
NamesMembers members serials = (o : ℕ) → Includes serials o → IsMember members o

-- The names are right: members have distinct serials, sets have no duplicates, and all serials name members.
pub record IsWellNamed (g : Graph) : Type 0 where
  pub members : IsOnceEach (serials_of g.members)
  pub references : NamesMembers g.members (references_of g.members)
  pub lost_once : IsOnceEach g.lost
  pub lost : NamesMembers g.members g.lost
  pub legacy_once : IsOnceEach g.legacy
  pub legacy : NamesMembers g.members g.legacy

-- No in-degree is below the member's occurrences among the references.
abbrev pub CoversReferences : List Member → Type 0
CoversReferences members = (m : Member) → Includes members m → occurrences m.serial (references_of members) ≤ m.degree

-- the set found unreachable is exactly the lost members
abbrev pub FindsLost : Graph → Type 0
FindsLost g = (o : ℕ) → Includes g.lost o ↔ IsLost g.members o

-- the legacy set is exactly the members to set aside
abbrev pub FindsSetAside : Graph → Type 0
FindsSetAside g = (o : ℕ) → Includes g.legacy o ↔ IsSetAside g.members o

-- A recorded graph, and whether it is the first of its record.
pub record Part : Type 0 where
  pub is_first : Bool
  pub graph : Graph

abbrev pub part : Bool → Graph → Part
part is_first graph = record { is_first = is_first; graph = graph }

-- the second graph, if there is one
abbrev pub second_part : Option Graph → List Part
second_part None = []
second_part (Some g) = part false g ∷ []

-- the graphs of a record
abbrev pub parts_of : Rec → List Part
parts_of r = part true r.first ∷ second_part r.second

-- the graphs of all records, in order
abbrev pub all_parts : List Rec → List Part
all_parts records = flat_map parts_of records

-- A graph is right. Only a first graph has a legacy set.
pub record IsRight (p : Part) : Type 0 where
  pub names : IsWellNamed p.graph
  pub degrees : CoversReferences p.graph.members
  pub lost : FindsLost p.graph
  pub set_aside : p.is_first ≡ true → FindsSetAside p.graph

-- The least code of a fault: all earlier conditions in this order hold.
pub data HasFault (p : Part) : ℕ → Type 0 where
  misnamed : ¬ IsWellNamed p.graph → HasFault p 2
  too_low : IsWellNamed p.graph → ¬ CoversReferences p.graph.members → HasFault p 3
  loses : IsWellNamed p.graph → CoversReferences p.graph.members → ¬ FindsLost p.graph → HasFault p 4
  sets_aside : IsWellNamed p.graph → CoversReferences p.graph.members → FindsLost p.graph → p.is_first ≡ true → ¬ FindsSetAside p.graph → HasFault p 5

-- the first graph with a fault, by its position from 1, and its least code
pub record IsFirstFault (parts : List Part) (position code : ℕ) : Type 0 where
  pub front : List Part
  pub faulty : Part
  pub back : List Part
  pub parts_are : parts ≡ front ++ faulty ∷ back
  pub position_is : position ≡ length front + 1
  pub right : All IsRight front
  pub fault : HasFault faulty code

-- the bytes are the text of no records
abbrev pub SpellsNone : List ℕ → Type 0
SpellsNone bytes = (records : List Rec) → All IsSmall records → ¬ Spells bytes records

-- they are the text of these records, whose numbers are below 2 ^ 64
pub record IsTextOf (records : List Rec) (bytes : List ℕ) : Type 0 where
  pub spells : Spells bytes records
  pub small : All IsSmall records

-- the verdict on bytes
pub data Judges (bytes : List ℕ) : Verdict → Type 0 where
  unreadable : SpellsNone bytes → Judges bytes (No 0 1)
  faulty : (records : List Rec) → IsTextOf records bytes → (position code : ℕ) → IsFirstFault (all_parts records) position code → Judges bytes (No position code)
  right : (records : List Rec) → IsTextOf records bytes → All IsRight (all_parts records) → Judges bytes (Yes (length records))
