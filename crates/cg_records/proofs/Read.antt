-- Reading line by line: the part read is a text of lines, and no records have a line that cannot follow.
use Rattle.std.proofs.Common.{◌≡◌, ◌≢◌, ℕ, ◌<◌, List, [], ◌∷◌, ◌++◌, length, Option, Some, None, Result, Ok, Err, refl, sym, ap, subst, ◌∙◌, arith, append-nil}
use Rattle.std.specs.Prelude.{IfOk, IfSome, IfNone}
use Rattle.std.specs.List.{All}
use Rattle.std.proofs.lemmas.List.{nil_from_length}
use Rattle.cg_records.specs.declared.graph.Rec.{Rec}
use Rattle.cg_records.specs.declared.line.Line.{Line}
use Rattle.cg_records.specs.declared.draft.Stage.TheVariants.{Ended}
use Rattle.cg_records.specs.declared.draft.Draft.{Draft}
use Rattle.cg_records.specs.Text.{text, IsWritable, IsSmall, Spells}
use Rattle.cg_records.specs.Lines.{line_text, IsLine}
use Rattle.cg_records.specs.Reading.{draft, step}
use Rattle.cg_records.specs.RecordLines.{all_lines}
use Rattle.cg_records.proofs.Lines.{one_line}
use Rattle.cg_records.proofs.Runs.{run, is_stuck}
use Rattle.cg_records.proofs.Machine.{start, run-all_lines}
use Rattle.cg_records.proofs.SmallNumbers.{lines_fit, lines_back, are_plain}
use Rattle.cg_records.proofs.Sound.{Holds, holds_more, ended_says}
use Rattle.cg_records.proofs.Spelled.{lines_text, spelled, AreLines, are_more, text_more, line_takes, follows}

-- the bytes up to a rest are lines that give the draft
pub record HasRead (bytes rest : List ℕ) (d : Draft) : Type 0 where
  pub done : List Line
  pub says : bytes ≡ lines_text done ++ rest
  pub fits : AreLines done
  pub holds : Holds done d

pub read_more : (bytes rest after : List ℕ) (d e : Draft) (l : Line) → HasRead bytes rest d → IsLine l → rest ≡ line_text l ++ after → step d l ≡ Some e → HasRead bytes after e
read_more bytes rest after d e l h fits says s =
    record { done = h.done ++ l ∷ []; says = text_more bytes rest after h.done l h.says says; fits = are_more h.done l h.fits fits; holds = holds_more h.done d e l h.holds s }

no_lines : (ls : List Line) → lines_text ls ≡ [] → ls ≡ []
no_lines [] e = refl
no_lines (l ∷ ls) e = absurd (let some = line_takes l (lines_text (l ∷ ls)) (lines_text ls) refl in omega (arith, ap length e))

-- after some lines were read, the lines of records with this text continue after them
module _ (bytes rest : List ℕ) (d : Draft) (h : HasRead bytes rest d) (rs : List Rec) (small : All IsSmall rs) (is : Spells bytes rs) where
  rest_of : (more : List Line) × (all_lines rs ≡ h.done ++ more) × (lines_text more ≡ rest) × AreLines more
  rest_of = follows h.done (all_lines rs) rest h.fits (lines_fit rs is.writable small) (sym (spelled rs) ∙ sym is.text ∙ h.says)

  whole : run step start (all_lines rs) ≡ Some (draft rs Ended)
  whole = run-all_lines rs (are_plain rs is.writable)

  pub no_line : 0 < length rest → ((l : Line) (x : List ℕ) → IsLine l → rest ≢ line_text l ++ x) → ⊥
  no_line some none = by rest_of.0 rest_of.2 rest_of.3
    where
      by : (more : List Line) → lines_text more ≡ rest → AreLines more → ⊥
      by [] e fits = omega (arith, ap length e)
      by (m ∷ ms) e fits = none m (lines_text ms) fits.0 (sym e)

  pub no_step : (l : Line) (after : List ℕ) → IsLine l → rest ≡ line_text l ++ after → step d l ≡ None → ⊥
  no_step l after fit says none = by rest_of.0 rest_of.1 rest_of.2 rest_of.3
    where
      by : (more : List Line) → all_lines rs ≡ h.done ++ more → lines_text more ≡ rest → AreLines more → ⊥
      by [] p e fits = let some = line_takes l rest after says in omega (arith, ap length e)
      by (m ∷ ms) p e fits =
          let one = one_line m l (lines_text ms) after fits.0 fit (e ∙ says) in
          let stuck : run step start (all_lines rs) ≡ None = ap (run step start) (p ∙ ap (λ k. h.done ++ k ∷ ms) one.0) ∙ is_stuck step start d h.done ms l h.holds.reached none in
          let ended = whole in
          absurd (cc)

  pub no_end : length rest ≡ 0 → (d.stage ≡ Ended → ⊥) → ⊥
  no_end empty open_still =
      let nothing : rest_of.0 ≡ [] = no_lines rest_of.0 (rest_of.2 ∙ nil_from_length rest empty) in
      let all : all_lines rs ≡ h.done = rest_of.1 ∙ ap (λ t. h.done ++ t) nothing ∙ append-nil h.done in
      let same : Some (draft rs Ended) ≡ Some d = sym whole ∙ ap (run step start) all ∙ h.holds.reached in
      let one : draft rs Ended ≡ d = cc in
      open_still (sym (ap (λ (e : Draft). e.stage) one))

-- after the end line the records are complete
read_end : (bytes rest : List ℕ) (d : Draft) (rs : List Rec) → HasRead bytes rest d → length rest ≡ 0 → d ≡ draft rs Ended → Spells bytes rs × All IsSmall rs
read_end bytes rest d rs h empty ended =
    let ends = ended_says h.done rs d h.holds ended in
    let back = lines_back rs (subst AreLines (sym ends.0) h.fits) ends.1 in (
      record {
        writable = back.0;
        text = h.says ∙ ap (λ t. lines_text h.done ++ t) (nil_from_length rest empty) ∙ append-nil (lines_text h.done)
            ∙ ap lines_text (sym ends.0) ∙ sym (spelled rs);
      },
      back.1,
    )

-- what holds of the draft at the end holds of the bytes
module _ (bytes rest : List ℕ) (d : Draft) (h : HasRead bytes rest d) (empty : length rest ≡ 0) where
  pub found_end : (o : Option (List Rec)) → IfSome o (λ rs. d ≡ draft rs Ended) → IfSome o (λ rs. Spells bytes rs × All IsSmall rs)
  found_end None found = tt
  found_end (Some rs) found = read_end bytes rest d rs h empty found

  pub none_end : (o : Option (List Rec)) → IfNone o (d.stage ≡ Ended → ⊥) → IfNone o ((rs : List Rec) → All IsSmall rs → Spells bytes rs → ⊥)
  none_end None none = λ rs small is. no_end bytes rest d h rs small is empty none
  none_end (Some rs) none = tt

some_is : (a b : Draft) → Some a ≡ Some b → a ≡ b
some_is a b e = cc

pub same_records : (a b : List Rec) → All IsWritable a → All IsSmall a → All IsWritable b → All IsSmall b → text a ≡ text b → a ≡ b
same_records a b p q u v e =
    let more = follows (all_lines a) (all_lines b) [] (lines_fit a p q) (lines_fit b u v) (sym (spelled b) ∙ sym e ∙ spelled a ∙ sym (append-nil (lines_text (all_lines a)))) in
    let nothing : more.0 ≡ [] = no_lines more.0 more.2 in
    let all : all_lines b ≡ all_lines a = more.1 ∙ ap (λ t. all_lines a ++ t) nothing ∙ append-nil (all_lines a) in
    let same : Some (draft a Ended) ≡ Some (draft b Ended) = sym (run-all_lines a (are_plain a p)) ∙ ap (run step start) (sym all) ∙ run-all_lines b (are_plain b u) in
    ap (λ (d : Draft). d.records) (some_is (draft a Ended) (draft b Ended) same)

-- bytes that spell some records are read as them
pub only_these : {E : Type 0} (bytes : List ℕ) (r : Result (Option (List Rec)) E) → IfOk r (λ read. IfSome read (λ records. Spells bytes records × All IsSmall records))
    → IfOk r (λ read. IfNone read ((records : List Rec) → All IsSmall records → Spells bytes records → ⊥))
    → (rs : List Rec) → Spells bytes rs → All IsSmall rs → IfOk r (λ read. read ≡ Some rs)
only_these bytes (Err e) found none rs is small = tt
only_these bytes (Ok None) found none rs is small = absurd (none rs small is)
only_these bytes (Ok (Some a)) found none rs is small = ap Some (same_records a rs found.0.writable found.1 is.writable small (sym found.0.text ∙ is.text))
