-- The text of a snapshot is the text of its lines, and other lines have another text.
use Rattle.std.proofs.Common.{◌≡◌, refl, sym, ◌∙◌, ap, ℕ, ◌<◌, ◌^◌, List, [], ◌∷◌, ◌++◌, length, map, arith, append_assoc, append-nil}
use Rattle.std.specs.Prelude.{flat_map, codes}
use Rattle.std.specs.List.{AllByRecursion}
use Rattle.std.proofs.lemmas.List.Concat.{flat_map-append}
use Rattle.std.proofs.lemmas.List.{map-append}
use Rattle.cg_snapshot.specs.declared.heap.Member.{Member}
use Rattle.cg_snapshot.specs.declared.question.Question.{Question}
use Rattle.cg_snapshot.specs.declared.question.Question.TheVariants.{Why, Referrers, Dropped}
use Rattle.cg_snapshot.specs.declared.reading.Snapshot.{Snapshot}
use Rattle.cg_snapshot.specs.declared.line.Line.{Line}
use Rattle.cg_snapshot.specs.declared.line.Line.TheVariants as lines
use Rattle.cg_snapshot.specs.Rows.{spaced, all_spaced, but_text, AreSmall}
use Rattle.cg_snapshot.specs.Text.{member_numbers, untold_text, member_text, question_text, text, IsSmallMember, AreMembers, IsAsked, IsWritable, HasNoFeed, ended}
use Rattle.cg_snapshot.specs.Lines.{row_of, raw_line, IsLine, IsSmallQuestion, untold_lines, member_lines, lines_of}
use Rattle.cg_snapshot.proofs.CutBytes.{cut_once}
use Rattle.cg_snapshot.proofs.DistinctRows.{row_lacks}
use Rattle.cg_snapshot.proofs.MeaningOfLines.{line_row, one_line}

-- the text of lines
abbrev pub lines_text : List Line → List ℕ
lines_text ls = ended (map raw_line ls)

pub lines_text-append : (xs ys : List Line) → lines_text (xs ++ ys) ≡ lines_text xs ++ lines_text ys
lines_text-append xs ys = ap ended (map-append raw_line xs ys) ∙ flat_map-append (λ l. l ++ 10 ∷ []) (map raw_line xs) (map raw_line ys)

untold_spelled : (words : List ℕ) → untold_text words ≡ lines_text (untold_lines words)
untold_spelled [] = refl
untold_spelled (n ∷ ns) =
    ap (λ t. (codes "u" ++ t) ++ 10 ∷ []) (sym (append-nil (all_spaced (n ∷ ns)))) ∙ sym (append-nil ((codes "u" ++ (all_spaced (n ∷ ns) ++ [])) ++ 10 ∷ []))

member_spelled : (m : Member) → member_text m ≡ lines_text (member_lines m)
member_spelled m =
    ap (λ t. ((codes "m" ++ t) ++ 10 ∷ []) ++ untold_text m.untold) (sym (append-nil (all_spaced (member_numbers m))))
    ∙ ap (λ t. ((codes "m" ++ (all_spaced (member_numbers m) ++ [])) ++ 10 ∷ []) ++ t) (untold_spelled m.untold)

members_spelled : (ms : List Member) → flat_map member_text ms ≡ lines_text (flat_map member_lines ms)
members_spelled [] = refl
members_spelled (m ∷ ms) =
    ap (λ t. t ++ flat_map member_text ms) (member_spelled m) ∙ ap (λ t. lines_text (member_lines m) ++ t) (members_spelled ms) ∙ sym (lines_text-append (member_lines m) (flat_map member_lines ms))

question_spelled : (q : Question) → question_text q ≡ raw_line (lines.Asks q) ++ 10 ∷ []
question_spelled (Why n but) = ap (λ t. t ++ 10 ∷ []) (append_assoc (codes "why") (spaced n) (but_text but) ∙ ap (λ t. codes "why" ++ (t ++ (but_text but))) (sym (append-nil (spaced n))))
question_spelled (Referrers n) = ap (λ t. (codes "referrers" ++ t) ++ 10 ∷ []) (sym (append-nil (spaced n)) ∙ sym (append-nil (spaced n ++ [])))
question_spelled (Dropped ns) = ap (λ t. (codes "drop" ++ t) ++ 10 ∷ []) (sym (append-nil (all_spaced ns)))
question_spelled other = refl

questions_spelled : (qs : List Question) → flat_map question_text qs ≡ lines_text (map lines.Asks qs)
questions_spelled [] = refl
questions_spelled (q ∷ qs) = ap (λ t. t ++ flat_map question_text qs) (question_spelled q) ∙ ap (λ t. (raw_line (lines.Asks q) ++ 10 ∷ []) ++ t) (questions_spelled qs)

grouped : (m q : List ℕ) → ((codes "heap\n" ++ m) ++ codes "end\n") ++ q ≡ codes "heap\n" ++ (m ++ (codes "end\n" ++ q))
grouped m q = append_assoc (codes "heap\n" ++ m) (codes "end\n") q ∙ append_assoc (codes "heap\n") m (codes "end\n" ++ q)

pub spelled : (s : Snapshot) → text s ≡ lines_text (lines_of s)
spelled s =
    grouped (flat_map member_text s.members) (flat_map question_text s.questions)
    ∙ ap (λ t. codes "heap\n" ++ (t ++ (codes "end\n" ++ flat_map question_text s.questions))) (members_spelled s.members)
    ∙ ap (λ t. codes "heap\n" ++ (lines_text (flat_map member_lines s.members) ++ (codes "end\n" ++ t))) (questions_spelled s.questions)
    ∙ ap (λ t. codes "heap\n" ++ t) (sym (lines_text-append (flat_map member_lines s.members) (lines.Closes ∷ map lines.Asks s.questions)))

-- the numbers of each line are in range
abbrev pub AreLines : List Line → Type 0
AreLines ls = AllByRecursion IsLine ls

pub lines_append : (xs ys : List Line) → AreLines xs → AreLines ys → AreLines (xs ++ ys)
lines_append [] ys p q = q
lines_append (x ∷ xs) ys p q = (p.0, lines_append xs ys p.1 q)

small_places : (count : ℕ) (ns : List ℕ) → count < 2 ^ 64 → AreMembers count ns → AreSmall ns
small_places count [] few h = tt
small_places count (n ∷ ns) few h = (omega (arith, h.0, few), small_places count ns few h.1)

asked_fits : (count : ℕ) (q : Question) → count < 2 ^ 64 → IsAsked count q → IsSmallQuestion q
asked_fits count (Why n but) few h = (omega (arith, h.0, few), small_places count but few h.1)
asked_fits count (Referrers n) few h = omega (arith, h, few)
asked_fits count (Dropped ns) few h = (h.0, small_places count ns few h.1)
asked_fits count other few h = tt

questions_fit : (count : ℕ) (qs : List Question) → count < 2 ^ 64 → AllByRecursion (IsAsked count) qs → AreLines (map lines.Asks qs)
questions_fit count [] few h = tt
questions_fit count (q ∷ qs) few h = (asked_fits count q few h.0, questions_fit count qs few h.1)

untold_fits : (words : List ℕ) → AreSmall words → AreLines (untold_lines words)
untold_fits [] h = tt
untold_fits (n ∷ ns) h = ((omega arith, h), tt)

members_fit : (ms : List Member) → AllByRecursion IsSmallMember ms → AreLines (flat_map member_lines ms)
members_fit [] h = tt
members_fit (m ∷ ms) h = lines_append (member_lines m) (flat_map member_lines ms) ((h.0.degree, h.0.size, h.0.refs), untold_fits m.untold h.0.untold) (members_fit ms h.1)

pub lines_fit : (s : Snapshot) → IsWritable s → AreLines (lines_of s)
lines_fit s w = (
  tt,
  lines_append (flat_map member_lines s.members) (lines.Closes ∷ map lines.Asks s.questions) (members_fit s.members w.members)
      (tt, questions_fit (length s.members) s.questions w.few w.questions),
)

-- a line contains no line feed
pub line_lacks : (l : Line) → IsLine l → HasNoFeed (raw_line l)
line_lacks l h = row_lacks (row_of l) (line_row l h)

pub raws_lack : (ls : List Line) → AreLines ls → AllByRecursion HasNoFeed (map raw_line ls)
raws_lack [] h = tt
raws_lack (l ∷ ls) h = (line_lacks l h.0, raws_lack ls h.1)

pub nothing : (xs ys : List ℕ) → [] ≡ xs ++ 10 ∷ ys → ⊥
nothing [] ys e = absurd (cc)
nothing (x ∷ xs) ys e = absurd (cc)

-- a line at the front
pub first_line : (raw x y : List ℕ) (l : Line) → HasNoFeed raw → IsLine l → raw ++ 10 ∷ x ≡ raw_line l ++ 10 ∷ y → (raw ≡ raw_line l) × (x ≡ y)
first_line raw x y l lacks line e =
    let parts = cut_once 10 raw (raw_line l) (10 ∷ x) (10 ∷ y) lacks (line_lacks l line) refl refl e in
    (parts.0, behind parts.1)
  where
    behind : 10 ∷ x ≡ 10 ∷ y → x ≡ y
    behind f = cc

pub one_more : (l : Line) (ls : List Line) → lines_text (l ∷ ls) ≡ raw_line l ++ 10 ∷ lines_text ls
one_more l ls = append_assoc (raw_line l) (10 ∷ []) (lines_text ls)

-- if the text of lines starts with that of others, they continue after those
pub follows : (front ls : List Line) (rest : List ℕ) → AreLines front → AreLines ls → lines_text ls ≡ lines_text front ++ rest → (more : List Line)
    × (ls ≡ front ++ more) × (lines_text more ≡ rest) × AreLines more
follows [] ls rest p q e = (ls, refl, e, q)
follows (a ∷ front) [] rest p q e = absurd (nothing (raw_line a) (lines_text front ++ rest) (e ∙ ap (λ t. t ++ rest) (one_more a front) ∙ append_assoc (raw_line a) (10 ∷ lines_text front) rest))
follows (a ∷ front) (b ∷ ls) rest p q e =
    let one = first_line (raw_line b) (lines_text ls) (lines_text front ++ rest) a (line_lacks b q.0) p.0 (sym (one_more b ls) ∙ e
    ∙ ap (λ t. t ++ rest) (one_more a front) ∙ append_assoc (raw_line a) (10 ∷ lines_text front) rest) in
    let same : b ≡ a = one_line b a q.0 p.0 one.0 in
    let more = follows front ls rest p.1 q.1 one.1 in
    (more.0, ap (λ l. l ∷ ls) same ∙ ap (λ t. a ∷ t) more.1, more.2, more.3)
