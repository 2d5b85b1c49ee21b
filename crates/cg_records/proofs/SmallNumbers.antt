-- The numbers in the lines of records are in range exactly if the records can be written and have small numbers.
use Rattle.std.proofs.Common.{◌≡◌, ℕ, ◌^◌, ◌<◌, List, [], ◌∷◌, ◌++◌, map, Option, Some, None, sym, subst, arith}
use Rattle.std.specs.Prelude.{flat_map, IfSome}
use Rattle.std.specs.List.{All, AllByRecursion}
use Rattle.std.proofs.lemmas.List.Elements.{All-from_recursion, recursion_from_All}
use Rattle.cg_records.specs.declared.graph.Member.{Member}
use Rattle.cg_records.specs.declared.graph.Graph.{Graph}
use Rattle.cg_records.specs.declared.graph.Rec.{Rec}
use Rattle.cg_records.specs.declared.line.Line.{Line}
use Rattle.cg_records.specs.declared.line.Line.TheVariants as lines
use Rattle.cg_records.specs.Text.{IsWritable, IsSmallMember, IsSmallGraph, IsSmall}
use Rattle.cg_records.specs.Lines.{IsLine}
use Rattle.cg_records.specs.RecordLines.{member_lines, graph_lines, rest_lines, record_lines, all_lines}
use Rattle.cg_records.proofs.Machine.{ArePlain}
use Rattle.cg_records.proofs.Spelled.{AreLines}

abbrev AreNumbers : List ℕ → Type 0
AreNumbers ns = All (λ n. n < 2 ^ 64) ns

lines_append : (xs ys : List Line) → AreLines xs → AreLines ys → AreLines (xs ++ ys)
lines_append [] ys p q = q
lines_append (x ∷ xs) ys p q = (p.0, lines_append xs ys p.1 q)

lines_split : (xs ys : List Line) → AreLines (xs ++ ys) → AreLines xs × AreLines ys
lines_split [] ys h = (tt, h)
lines_split (x ∷ xs) ys h = let more = lines_split xs ys h.1 in ((h.0, more.0), more.1)

-- a line for each of some numbers
module _ (f : ℕ → Line) where
  each_fits : ((n : ℕ) → n < 2 ^ 64 → IsLine (f n)) → (ns : List ℕ) → AllByRecursion (λ n. n < 2 ^ 64) ns → AreLines (map f ns)
  each_fits fits [] h = tt
  each_fits fits (n ∷ ns) h = (fits n h.0, each_fits fits ns h.1)

  each_back : ((n : ℕ) → IsLine (f n) → n < 2 ^ 64) → (ns : List ℕ) → AreLines (map f ns) → AllByRecursion (λ n. n < 2 ^ 64) ns
  each_back back [] h = tt
  each_back back (n ∷ ns) h = (back n h.0, each_back back ns h.1)

  all_fit : ((n : ℕ) → n < 2 ^ 64 → IsLine (f n)) → (ns : List ℕ) → AreNumbers ns → AreLines (map f ns)
  all_fit fits ns h = each_fits fits ns (recursion_from_All (λ n. n < 2 ^ 64) ns h)

  all_back : ((n : ℕ) → IsLine (f n) → n < 2 ^ 64) → (ns : List ℕ) → AreLines (map f ns) → AreNumbers ns
  all_back back ns h = All-from_recursion (λ n. n < 2 ^ 64) ns (each_back back ns h)

member_fits : (m : Member) → IsSmallMember m → AreLines (member_lines m)
member_fits m h = ((h.serial, h.degree), all_fit lines.Reference (λ n k. k) m.refs h.refs)

member_back : (m : Member) → AreLines (member_lines m) → IsSmallMember m
member_back m h = record { serial = h.0.0; degree = h.0.1; refs = all_back lines.Reference (λ n k. k) m.refs h.1 }

members_fit : (ms : List Member) → AllByRecursion IsSmallMember ms → AreLines (flat_map member_lines ms)
members_fit [] h = tt
members_fit (m ∷ ms) h = lines_append (member_lines m) (flat_map member_lines ms) (member_fits m h.0) (members_fit ms h.1)

members_back : (ms : List Member) → AreLines (flat_map member_lines ms) → AllByRecursion IsSmallMember ms
members_back [] h = tt
members_back (m ∷ ms) h = let parts = lines_split (member_lines m) (flat_map member_lines ms) h in (member_back m parts.0, members_back ms parts.1)

graph_fits : (g : Graph) → IsSmallGraph g → AreLines (graph_lines g)
graph_fits g h = lines_append (flat_map member_lines g.members) (map lines.Lost g.lost)
    (members_fit g.members (recursion_from_All IsSmallMember g.members h.members)) (all_fit lines.Lost (λ n k. k) g.lost h.lost)

graph_back : (g : Graph) → AreLines (graph_lines g) → AreNumbers g.legacy → IsSmallGraph g
graph_back g h legacy =
    let parts = lines_split (flat_map member_lines g.members) (map lines.Lost g.lost) h in
    record { members = All-from_recursion IsSmallMember g.members (members_back g.members parts.0); lost = all_back lines.Lost (λ n k. k) g.lost parts.1; legacy = legacy }

rest_fits : (second : Option Graph) → IfSome second IsSmallGraph → AreLines (rest_lines second)
rest_fits None h = (tt, tt)
rest_fits (Some g) h = (tt, lines_append (graph_lines g) (lines.Stop ∷ []) (graph_fits g h) (tt, tt))

no_numbers : AreNumbers []
no_numbers k d h = absurd (omega arith)

rest_back : (second : Option Graph) → AreLines (rest_lines second) → IfSome second (λ g. g.legacy ≡ []) → IfSome second IsSmallGraph
rest_back None h plain = tt
rest_back (Some g) h plain = graph_back g (lines_split (graph_lines g) (lines.Stop ∷ []) h.1).0 (subst AreNumbers (sym plain) no_numbers)

record_fits : (r : Rec) → IsWritable r → IsSmall r → AreLines (record_lines r)
record_fits r w h = (
  w.generation,
  (
    tt,
    lines_append (graph_lines r.first) (map lines.Legacy r.first.legacy ++ rest_lines r.second) (graph_fits r.first h.first)
        (lines_append (map lines.Legacy r.first.legacy) (rest_lines r.second) (all_fit lines.Legacy (λ n k. k) r.first.legacy h.first.legacy) (rest_fits r.second h.second)),
  ),
)

record_back : (r : Rec) → AreLines (record_lines r) → IfSome r.second (λ g. g.legacy ≡ []) → IsWritable r × IsSmall r
record_back r h plain =
    let parts = lines_split (graph_lines r.first) (map lines.Legacy r.first.legacy ++ rest_lines r.second) h.1.1 in
    let more = lines_split (map lines.Legacy r.first.legacy) (rest_lines r.second) parts.1 in
    (record { generation = h.0; second = plain }, record { first = graph_back r.first parts.0 (all_back lines.Legacy (λ n k. k) r.first.legacy more.0); second = rest_back r.second more.1 plain })

records_fit : (rs : List Rec) → AllByRecursion IsWritable rs → AllByRecursion IsSmall rs → AreLines (flat_map record_lines rs)
records_fit [] w h = tt
records_fit (r ∷ rs) w h = lines_append (record_lines r) (flat_map record_lines rs) (record_fits r w.0 h.0) (records_fit rs w.1 h.1)

records_back : (rs : List Rec) → AreLines (flat_map record_lines rs) → ArePlain rs → AllByRecursion IsWritable rs × AllByRecursion IsSmall rs
records_back [] h plain = (tt, tt)
records_back (r ∷ rs) h plain =
    let parts = lines_split (record_lines r) (flat_map record_lines rs) h in
    let one = record_back r parts.0 plain.0 in
    let more = records_back rs parts.1 plain.1 in
    ((one.0, more.0), (one.1, more.1))

pub lines_fit : (rs : List Rec) → All IsWritable rs → All IsSmall rs → AreLines (all_lines rs)
lines_fit rs w h = lines_append (flat_map record_lines rs) (lines.End ∷ []) (records_fit rs (recursion_from_All IsWritable rs w) (recursion_from_All IsSmall rs h)) (tt, tt)

pub lines_back : (rs : List Rec) → AreLines (all_lines rs) → ArePlain rs → All IsWritable rs × All IsSmall rs
lines_back rs h plain =
    let back = records_back rs (lines_split (flat_map record_lines rs) (lines.End ∷ []) h).0 plain in (All-from_recursion IsWritable rs back.0, All-from_recursion IsSmall rs back.1)

plain_by_recursion : (rs : List Rec) → AllByRecursion IsWritable rs → ArePlain rs
plain_by_recursion [] w = tt
plain_by_recursion (r ∷ rs) w = (w.0.second, plain_by_recursion rs w.1)

pub are_plain : (rs : List Rec) → All IsWritable rs → ArePlain rs
are_plain rs w = plain_by_recursion rs (recursion_from_All IsWritable rs w)
