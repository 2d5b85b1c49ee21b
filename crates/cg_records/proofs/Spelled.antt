-- The text of records is the text of their lines, and other lines have another text.
use Rattle.std.proofs.Common.{◌≡◌, ℕ, ◌<◌, Bool, true, false, List, [], ◌∷◌, ◌++◌, map, length, Option, Some, None, refl, sym, ap, ◌∙◌, arith, append_assoc, append-nil, length-append}
use Rattle.std.specs.Prelude.{flat_map, codes, decimal}
use Rattle.std.proofs.lemmas.Fmt.{decimal_digit}
use Rattle.std.proofs.lemmas.List.Concat.{flat_map-append}
use Rattle.cg_records.specs.declared.graph.Member.{Member}
use Rattle.cg_records.specs.declared.graph.Graph.{Graph}
use Rattle.cg_records.specs.declared.graph.Rec.{Rec}
use Rattle.cg_records.specs.declared.line.Word.{Word}
use Rattle.cg_records.specs.declared.line.Word.TheVariants as words
use Rattle.cg_records.specs.declared.line.Line.{Line}
use Rattle.cg_records.specs.declared.line.Line.TheVariants as lines
use Rattle.cg_records.specs.Text.{numbered, flag, member_text, graph_text, rest_text, record_text, text}
use Rattle.cg_records.specs.Lines.{word_text, word_of, numbers_text, line_text, mark_of, IsLine}
use Rattle.cg_records.specs.RecordLines.{member_lines, graph_lines, rest_lines, record_lines, all_lines}
use Rattle.cg_records.proofs.Lines.{one_line}
use Rattle.cg_records.proofs.Runs.{each_spelled}

abbrev pub lines_text : List Line → List ℕ
lines_text ls = flat_map line_text ls

lines_text-append : (xs ys : List Line) → lines_text (xs ++ ys) ≡ lines_text xs ++ lines_text ys
lines_text-append xs ys = flat_map-append line_text xs ys

each_line : (f : ℕ → Line) (g : ℕ → List ℕ) → ((n : ℕ) → line_text (f n) ≡ g n) → (ns : List ℕ) → lines_text (map f ns) ≡ flat_map g ns
each_line f g same [] = refl
each_line f g same (n ∷ ns) = ap (λ t. t ++ lines_text (map f ns)) (same n) ∙ ap (λ t. g n ++ t) (each_line f g same ns)

flag_is : (b : Bool) → flag b ≡ decimal (mark_of b)
flag_is true = sym (decimal_digit 1 (omega arith))
flag_is false = sym (decimal_digit 0 (omega arith))

member_grouped : (s d f x : List ℕ) → (((codes "m " ++ s) ++ 32 ∷ d) ++ 32 ∷ f) ++ 10 ∷ x ≡ (codes "m " ++ (s ++ 32 ∷ (d ++ 32 ∷ (f ++ 10 ∷ [])))) ++ x
member_grouped s d f x = simp append_assoc

member_spelled : (m : Member) → member_text m ≡ lines_text (member_lines m)
member_spelled m =
    ap (λ f. (((codes "m " ++ decimal m.serial) ++ 32 ∷ decimal m.degree) ++ 32 ∷ f) ++ 10 ∷ flat_map (numbered (codes "r")) m.refs) (flag_is m.legacy)
    ∙ member_grouped (decimal m.serial) (decimal m.degree) (decimal (mark_of m.legacy)) (flat_map (numbered (codes "r")) m.refs)
    ∙ ap (λ t. line_text (lines.Member m.serial m.degree m.legacy) ++ t) (sym (each_line lines.Reference (numbered (codes "r")) (λ n. refl) m.refs))

graph_spelled : (g : Graph) → graph_text g ≡ lines_text (graph_lines g)
graph_spelled g =
    ap (λ t. t ++ flat_map (numbered (codes "lost")) g.lost) (each_spelled member_text member_lines line_text member_spelled g.members)
    ∙ ap (λ t. lines_text (flat_map member_lines g.members) ++ t) (sym (each_line lines.Lost (numbered (codes "lost")) (λ n. refl) g.lost))
    ∙ sym (lines_text-append (flat_map member_lines g.members) (map lines.Lost g.lost))

second_grouped : (g : List ℕ) → (codes "graph 2\n" ++ g) ++ codes "stop\n" ≡ codes "graph 2\n" ++ (g ++ (codes "stop\n" ++ []))
second_grouped g = simp append_assoc

rest_spelled : (second : Option Graph) → rest_text second ≡ lines_text (rest_lines second)
rest_spelled None = refl
rest_spelled (Some g) =
    ap (λ t. (codes "graph 2\n" ++ t) ++ codes "stop\n") (graph_spelled g) ∙ second_grouped (lines_text (graph_lines g)) ∙ ap (λ t. codes "graph 2\n" ++ t)
    (sym (lines_text-append (graph_lines g) (lines.Stop ∷ [])))

record_grouped : (n g l r : List ℕ) → ((((codes "record " ++ (n ++ 10 ∷ [])) ++ codes "graph 1\n") ++ g) ++ l) ++ r ≡ (codes "record " ++ (n ++ 10 ∷ [])) ++ (codes "graph 1\n" ++ (g ++ (l ++ r)))
record_grouped n g l r = simp append_assoc

three_texts : (xs ys zs : List Line) → lines_text (xs ++ (ys ++ zs)) ≡ lines_text xs ++ (lines_text ys ++ lines_text zs)
three_texts xs ys zs = lines_text-append xs (ys ++ zs) ∙ ap (λ t. lines_text xs ++ t) (lines_text-append ys zs)

record_spelled : (r : Rec) → record_text r ≡ lines_text (record_lines r)
record_spelled r =
    record_grouped (decimal r.generation) (graph_text r.first) (flat_map (numbered (codes "legacy")) r.first.legacy) (rest_text r.second)
    ∙ ap (λ t. (codes "record " ++ (decimal r.generation ++ 10 ∷ [])) ++ (codes "graph 1\n" ++ t)) behind
  where
    behind : graph_text r.first ++ (flat_map (numbered (codes "legacy")) r.first.legacy ++ rest_text r.second)
        ≡ lines_text (graph_lines r.first ++ (map lines.Legacy r.first.legacy ++ rest_lines r.second))
    behind =
        ap (λ t. t ++ (flat_map (numbered (codes "legacy")) r.first.legacy ++ rest_text r.second)) (graph_spelled r.first)
        ∙ ap (λ t. lines_text (graph_lines r.first) ++ (t ++ rest_text r.second)) (sym (each_line lines.Legacy (numbered (codes "legacy")) (λ n. refl) r.first.legacy))
        ∙ ap (λ t. lines_text (graph_lines r.first) ++ (lines_text (map lines.Legacy r.first.legacy) ++ t)) (rest_spelled r.second)
        ∙ sym (three_texts (graph_lines r.first) (map lines.Legacy r.first.legacy) (rest_lines r.second))

pub spelled : (rs : List Rec) → text rs ≡ lines_text (all_lines rs)
spelled rs = ap (λ t. t ++ codes "end\n") (each_spelled record_text record_lines line_text record_spelled rs) ∙ sym (lines_text-append (flat_map record_lines rs) (lines.End ∷ []))

-- the numbers of each line are in range
abbrev pub AreLines : List Line → Type 0
AreLines [] = Unit {0}
AreLines (l ∷ ls) = IsLine l × AreLines ls

pub are_more : (ls : List Line) (l : Line) → AreLines ls → IsLine l → AreLines (ls ++ l ∷ [])
are_more [] l h k = (k, tt)
are_more (m ∷ ls) l h k = (h.0, are_more ls l h.1 k)

pub text_more : (bytes rest after : List ℕ) (ls : List Line) (l : Line) → bytes ≡ lines_text ls ++ rest → rest ≡ line_text l ++ after → bytes ≡ lines_text (ls ++ l ∷ []) ++ after
text_more bytes rest after ls l p q =
    p ∙ ap (λ t. lines_text ls ++ t) q ∙ sym (append_assoc (lines_text ls) (line_text l) after) ∙ ap (λ t. (lines_text ls ++ t) ++ after)
    (sym (append-nil (line_text l))) ∙ ap (λ t. t ++ after) (sym (lines_text-append ls (l ∷ [])))

some_text : (w : Word) → 0 < length (word_text w)
some_text words.Record = omega arith
some_text word = omega arith

pub line_takes : (l : Line) (bytes after : List ℕ) → bytes ≡ line_text l ++ after → length after < length bytes
line_takes l bytes after e =
    let some = some_text (word_of l) in
    omega (arith, ap length e, length-append (line_text l) after, length-append (word_text (word_of l)) (numbers_text l))

-- if the text of lines starts with that of others, they continue after those
pub follows : (front ls : List Line) (rest : List ℕ) → AreLines front → AreLines ls → lines_text ls ≡ lines_text front ++ rest → (more : List Line)
    × (ls ≡ front ++ more) × (lines_text more ≡ rest) × AreLines more
follows [] ls rest p q e = (ls, refl, e, q)
follows (a ∷ front) [] rest p q e =
    let some = line_takes a (lines_text (a ∷ front) ++ rest) (lines_text front ++ rest) (append_assoc (line_text a) (lines_text front) rest) in absurd (omega (arith, ap length e))
follows (a ∷ front) (b ∷ ls) rest p q e =
    let one = one_line b a (lines_text ls) (lines_text front ++ rest) q.0 p.0 (e ∙ append_assoc (line_text a) (lines_text front) rest) in
    let more = follows front ls rest p.1 q.1 one.1 in
    (more.0, ap (λ l. l ∷ ls) one.0 ∙ ap (λ t. a ∷ t) more.1, more.2, more.3)
