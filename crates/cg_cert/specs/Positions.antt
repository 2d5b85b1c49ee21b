-- A recorded graph by the positions of its members: marks, rows of positions, and counts. (Ours.)
use Rattle.std.specs.Prelude.{◌≡◌, ℕ, ◌<◌, Bool, List, length, map, Option, Some, ◌↔◌, slice_get, slice_index}
use Rattle.std.specs.List.{All, concat}
use Rattle.std.specs.List.Sorted.{IsStrictlyIncreasing}
use Rattle.std.specs.Ordering.{nat_cmp}
use Rattle.std.specs.BTreeMap.{BTreeMap, get}
use Rattle.std.specs.Global.{Vec}
use Rattle.cg_graph.specs.Member.{Includes}
use Rattle.cg_graph.specs.Holdings.{occurrences}
use Rattle.cg_search.specs.Places.{Marks}
use Rattle.cg_records.specs.declared.graph.Member.{Member}
use Rattle.cg_records.specs.declared.graph.Graph.{Graph}
use Rattle.cg_records.specs.declared.graph.Rec.{Rec}
use Rattle.cg_cert.specs.Judged.{serials_of, references_of, IsOnceEach, IsWellNamed, IsRight, IsFirstFault, all_parts}
use Rattle.cg_cert.specs.declared.check.Verdict.{Verdict}
use Rattle.cg_cert.specs.declared.check.Verdict.TheVariants.{Yes, No}
use Rattle.cg_cert.specs.declared.graph.Located.{Located}
use Rattle.cg_cert.specs.declared.table.Places.{Places}
use Rattle.cg_cert.specs.declared.table.Places.TheVariants.{Ascending, Listed}

-- the table has exactly the position of each name
abbrev pub Locates : List ℕ → BTreeMap ℕ ℕ → Type 0
Locates names table = (o i : ℕ) → (get nat_cmp table o ≡ Some i) ↔ (slice_get names i ≡ Some o)

-- `Places` gives the position of each name: the names ascend, or a table has it
abbrev pub Tells : List ℕ → Places → Type 0
Tells names Ascending = IsStrictlyIncreasing names
Tells names (Listed table) = Locates names table

-- the position of a name, `None` if it is not a name
abbrev pub IsPositionOf : List ℕ → ℕ → Option ℕ → Type 0
IsPositionOf names o at = (i : ℕ) → (at ≡ Some i) ↔ (slice_get names i ≡ Some o)

-- no name is at two positions
abbrev pub ArePlacedOnce : List ℕ → Type 0
ArePlacedOnce names = (o i j : ℕ) → slice_get names i ≡ Some o → slice_get names j ≡ Some o → i ≡ j

-- each of the serials is a name
abbrev pub AreNames : List ℕ → List ℕ → Type 0
AreNames names serials = (o : ℕ) → Includes serials o → Includes names o

-- a set of names, without duplicates
pub record IsSetOf (names serials : List ℕ) : Type 0 where
  pub once : IsOnceEach serials
  pub named : AreNames names serials

-- the name at each position of a row
abbrev pub names_in : List ℕ → List ℕ → List (Option ℕ)
names_in names row = map (slice_get names) row

-- a row of positions represents these serials
abbrev pub IsRowOf : List ℕ → List ℕ → List ℕ → Type 0
IsRowOf names serials row = names_in names row ≡ map Some serials

-- each row of positions represents the references of its member
abbrev pub AreRowsOf : List ℕ → List Member → List (List ℕ) → Type 0
AreRowsOf names members rows = map (names_in names) rows ≡ map (λ m. map Some m.refs) members

-- vectors as lists
abbrev pub rows_in : List (Vec ℕ) → List (List ℕ)
rows_in rows = map (λ v. v.items) rows

-- exactly the positions of these serials are marked
pub record MarksAll (names serials : List ℕ) (marks : List Bool) : Type 0 where
  pub len : length marks ≡ length names
  pub marked : (i o : ℕ) → slice_get names i ≡ Some o → (Marks marks i ↔ Includes serials o)

-- a well-named graph, by positions
pub record IsLocated (g : Graph) (l : Located) : Type 0 where
  pub names : IsWellNamed g
  pub once : ArePlacedOnce (serials_of g.members)
  pub rows : AreRowsOf (serials_of g.members) g.members (rows_in l.rows.items)
  pub lost : MarksAll (serials_of g.members) g.lost l.lost.items
  pub legacy : MarksAll (serials_of g.members) g.legacy l.legacy.items

-- how often each position occurs in rows
pub record CountTargets (rows : List (List ℕ)) (counts : List ℕ) : Type 0 where
  pub len : length counts ≡ length rows
  pub each : (i : ℕ) → i < length rows → slice_index counts i ≡ occurrences i (concat rows)

-- how often each member occurs among the references
pub record CountReferences (members : List Member) (counts : List ℕ) : Type 0 where
  pub len : length counts ≡ length members
  pub each : (i : ℕ) (m : Member) → slice_get members i ≡ Some m → slice_index counts i ≡ occurrences m.serial (references_of members)

-- for each member, whether its in-degree exceeds its occurrences among the references
pub record ExceedEach (members : List Member) (marks : List Bool) : Type 0 where
  pub len : length marks ≡ length members
  pub each : (i : ℕ) (m : Member) → slice_get members i ≡ Some m → (Marks marks i ↔ occurrences m.serial (references_of members) < m.degree)

-- the verdict on records that were read
abbrev pub JudgesRecords : List Rec → Verdict → Type 0
JudgesRecords records (Yes n) = (n ≡ length records) × All IsRight (all_parts records)
JudgesRecords records (No position code) = IsFirstFault (all_parts records) position code
