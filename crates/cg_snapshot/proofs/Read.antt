-- Reading line by line: the part read is a text of lines, and no text continues with a line that cannot follow.
use Rattle.std.proofs.Common.{◌≡◌, ◌≢◌, refl, sym, ◌∙◌, ap, subst, ℕ, ◌+◌, ◌<◌, ◌≤◌, ◌^◌, List, [], ◌∷◌, ◌++◌, length, map, Some, None, arith, append_assoc, append-nil, length-append}
use Rattle.std.proofs.lemmas.List.{nil_from_length, length-map}
use Rattle.std.proofs.lemmas.Option.{same_Some}
use Rattle.cg_snapshot.specs.declared.reading.Snapshot.{Snapshot}
use Rattle.cg_snapshot.specs.declared.line.Line.{Line}
use Rattle.cg_snapshot.specs.declared.draft.Stage.TheVariants.{Behind}
use Rattle.cg_snapshot.specs.declared.draft.Draft.{Draft}
use Rattle.cg_snapshot.specs.Lines.{raw_line, IsLine, lines_of}
use Rattle.cg_snapshot.specs.Reading.{draft, step}
use Rattle.cg_snapshot.specs.Text.{text, IsWritable, Spells, Begins, HasNoFeed, Leaves, by_line, at_end, IsBadLine}
use Rattle.cg_snapshot.proofs.CutBytes.{lacks_not}
use Rattle.cg_records.proofs.Runs.{run, is_stuck}
use Rattle.cg_snapshot.proofs.Machine.{start, run-lines_of}
use Rattle.cg_snapshot.proofs.MeaningOfLines.{one_line}
use Rattle.cg_snapshot.proofs.Sound.{snapshot, Holds, holds_more, completes, few_members}
use Rattle.cg_snapshot.proofs.Spelled.{lines_text, lines_text-append, spelled, AreLines, lines_append, lines_fit, raws_lack, first_line, one_more, follows, nothing}

-- the bytes up to a rest are lines that give the draft
pub record HasRead (bytes rest : List ℕ) (d : Draft) (number : ℕ) : Type 0 where
  pub done : List Line
  pub says : bytes ≡ lines_text done ++ rest
  pub fits : AreLines done
  pub holds : Holds done d
  pub count : number ≡ length done + 1
  pub room : length done + length rest ≤ length bytes

last_line : (l : Line) → lines_text (l ∷ []) ≡ raw_line l ++ 10 ∷ []
last_line l = append-nil (raw_line l ++ 10 ∷ [])

pub read_more : (bytes rest raw after : List ℕ) (d e : Draft) (number : ℕ) (l : Line) → HasRead bytes rest d number → IsLine l → rest ≡ raw ++ 10 ∷ after → raw
    ≡ raw_line l → step d l ≡ Some e → HasRead bytes after e (number + 1)
read_more bytes rest raw after d e number l h fits cut is s = record {
  done = h.done ++ l ∷ [];
  says = h.says ∙ ap (λ t. lines_text h.done ++ t) (cut ∙ ap (λ t. t ++ 10 ∷ after) is ∙ sym (append_assoc (raw_line l) (10 ∷ []) after))
      ∙ sym (append_assoc (lines_text h.done) (raw_line l ++ 10 ∷ []) after)
      ∙ ap (λ t. (lines_text h.done ++ t) ++ after) (sym (last_line l)) ∙ ap (λ t. t ++ after) (sym (lines_text-append h.done (l ∷ [])));
  fits = lines_append h.done (l ∷ []) h.fits (fits, tt);
  holds = holds_more h.done d e l h.holds fits s;
  count = omega (arith, h.count, length-append h.done (l ∷ []));
  room = omega (arith, h.room, length-append h.done (l ∷ []), ap (λ (t : List ℕ). length t) cut, length-append raw (10 ∷ after));
}

-- a text begins with the part read
module _ (bytes rest : List ℕ) (d : Draft) (number : ℕ) (h : HasRead bytes rest d number) (small : number < 2 ^ 64) where
  goes : Begins (lines_text h.done)
  goes =
      let more = completes h.done d.members d.questions d.stage h.holds.says h.holds.fit in
      let few = few_members h.done d.members d.questions d.stage h.holds.says h.holds.fit in (
        snapshot d.members more.0,
        lines_text more.1,
        record {
          writable = record { members = more.3; few = omega (arith, few, h.count, small); questions = more.4 };
          text = sym (lines_text-append h.done more.1) ∙ ap lines_text (sym more.2) ∙ sym (spelled (snapshot d.members more.0));
        },
      )

  -- after some lines were read, the lines of a snapshot with this text continue after them
  rest_of : (s : Snapshot) (x : List ℕ) → Spells (lines_text h.done ++ x) s → (more : List Line) × (lines_of s ≡ h.done ++ more) × (lines_text more ≡ x) × AreLines more
  rest_of s x is = follows h.done (lines_of s) x h.fits (lines_fit s is.writable) (sym (spelled s) ∙ sym is.text)

  bad : Leaves (lines_text h.done) rest → IsBadLine bytes number
  bad leaves = record {
    before = map raw_line h.done;
    rest = rest;
    whole = h.says;
    lines = raws_lack h.done h.fits;
    number_is = h.count ∙ ap (λ n. n + 1) (sym (length-map h.done raw_line));
    begins = goes;
    leaves = leaves;
  }

  -- no line has this text
  pub no_line : (raw after : List ℕ) → rest ≡ raw ++ 10 ∷ after → HasNoFeed raw → ((l : Line) → IsLine l → raw ≢ raw_line l) → IsBadLine bytes number
  no_line raw after cut lacks none = bad (by_line raw after cut lacks (λ b. clash b.0 b.1 b.2))
    where
      clash : (s : Snapshot) (more : List ℕ) → Spells ((lines_text h.done ++ (raw ++ 10 ∷ [])) ++ more) s → ⊥
      clash s more is =
          let found = rest_of s ((raw ++ 10 ∷ []) ++ more) (subst (λ (t : List ℕ). Spells t s) (append_assoc (lines_text h.done) (raw ++ 10 ∷ []) more) is) in
          by found.0 found.2 found.3
        where
          by : (ls : List Line) → lines_text ls ≡ (raw ++ 10 ∷ []) ++ more → AreLines ls → ⊥
          by [] e are = nothing raw more (e ∙ append_assoc raw (10 ∷ []) more)
          by (l ∷ ls) e are = none l are.0 (first_line raw more (lines_text ls) l lacks are.0 (sym (append_assoc raw (10 ∷ []) more) ∙ sym e ∙ one_more l ls)).0

  -- a line that may not follow
  pub no_step : (raw after : List ℕ) (l : Line) → rest ≡ raw ++ 10 ∷ after → HasNoFeed raw → IsLine l → raw ≡ raw_line l → step d l ≡ None → IsBadLine bytes number
  no_step raw after l cut lacks line is none = bad (by_line raw after cut lacks (λ b. clash b.0 b.1 b.2))
    where
      clash : (s : Snapshot) (more : List ℕ) → Spells ((lines_text h.done ++ (raw ++ 10 ∷ [])) ++ more) s → ⊥
      clash s more spells =
          let found = rest_of s ((raw ++ 10 ∷ []) ++ more) (subst (λ (t : List ℕ). Spells t s) (append_assoc (lines_text h.done) (raw ++ 10 ∷ []) more) spells) in
          by found.0 found.1 found.2 found.3
        where
          by : (ls : List Line) → lines_of s ≡ h.done ++ ls → lines_text ls ≡ (raw ++ 10 ∷ []) ++ more → AreLines ls → ⊥
          by [] p e are = nothing raw more (e ∙ append_assoc raw (10 ∷ []) more)
          by (m ∷ ms) p e are =
              let first = first_line raw more (lines_text ms) m lacks are.0 (sym (append_assoc raw (10 ∷ []) more) ∙ sym e ∙ one_more m ms) in
              let same : m ≡ l = one_line m l are.0 line (sym first.0 ∙ is) in
              let stuck : run step start (lines_of s) ≡ None = ap (run step start) (p ∙ ap (λ k. h.done ++ k ∷ ms) same) ∙ is_stuck step start d h.done ms l h.holds.reached none in
              let ended_at : run step start (lines_of s) ≡ Some (draft s.members s.questions Behind) = run-lines_of s spells.writable.questions in
              absurd (cc)

  -- the rest has no line feed
  pub no_feed : 0 < length rest → HasNoFeed rest → IsBadLine bytes number
  no_feed some lacks = bad (at_end lacks (λ s spells. let found = rest_of s rest spells in by found.0 found.2))
    where
      by : (ls : List Line) → lines_text ls ≡ rest → ⊥
      by [] e = omega (arith, ap (λ (t : List ℕ). length t) e, some)
      by (l ∷ ls) e = lacks_not 10 (raw_line l) (lines_text ls) (subst HasNoFeed (sym e ∙ one_more l ls) lacks)

  -- nothing remains, and the text may not end here
  pub no_end : length rest ≡ 0 → (d.stage ≡ Behind → ⊥) → IsBadLine bytes number
  no_end empty open_still = bad (at_end (subst HasNoFeed (sym nil) tt) (λ s spells. let found = rest_of s rest spells in by s spells found.0 found.1 found.2))
    where
      nil : rest ≡ []
      nil = nil_from_length rest empty

      by : (s : Snapshot) → Spells (lines_text h.done ++ rest) s → (ls : List Line) → lines_of s ≡ h.done ++ ls → lines_text ls ≡ rest → ⊥
      by s spells [] p e =
          let same : Some (draft s.members s.questions Behind) ≡ Some d = sym (run-lines_of s spells.writable.questions) ∙ ap (run step start) (p ∙ append-nil h.done) ∙ h.holds.reached in
          let one : draft s.members s.questions Behind ≡ d = cc in
          open_still (sym (ap (λ (k : Draft). k.stage) one))
      by s spells (l ∷ ls) p e = nothing (raw_line l) (lines_text ls) (sym nil ∙ sym e ∙ one_more l ls)

  -- after the end the snapshot is complete
  pub read_end : length rest ≡ 0 → (s : Snapshot) → d ≡ draft s.members s.questions Behind → Spells bytes s
  read_end empty s is =
      let holds : Holds h.done (draft s.members s.questions Behind) = subst (λ (k : Draft). Holds h.done k) is h.holds in
      let few = few_members h.done s.members s.questions Behind holds.says holds.fit in
      record {
        writable = record { members = holds.fit.0; few = omega (arith, few, h.count, small); questions = holds.fit.1 };
        text = h.says ∙ ap (λ t. lines_text h.done ++ t) (nil_from_length rest empty) ∙ append-nil (lines_text h.done) ∙ ap lines_text holds.says ∙ sym (spelled s);
      }

no_lines : (ls : List Line) → lines_text ls ≡ [] → ls ≡ []
no_lines [] e = refl
no_lines (l ∷ ls) e = absurd (nothing (raw_line l) (lines_text ls) (sym e ∙ one_more l ls))

-- no two snapshots share a text
pub same_snapshot : (a b : Snapshot) → IsWritable a → IsWritable b → text a ≡ text b → a ≡ b
same_snapshot a b p q e =
    let more = follows (lines_of a) (lines_of b) [] (lines_fit a p) (lines_fit b q) (sym (spelled b) ∙ sym e ∙ spelled a ∙ sym (append-nil (lines_text (lines_of a)))) in
    let nothing : more.0 ≡ [] = no_lines more.0 more.2 in
    let all : lines_of b ≡ lines_of a = more.1 ∙ ap (λ t. lines_of a ++ t) nothing ∙ append-nil (lines_of a) in
    let same : Some (draft a.members a.questions Behind) ≡ Some (draft b.members b.questions Behind) = sym (run-lines_of a p.questions) ∙ ap (run step start) (sym all) ∙ run-lines_of b q.questions in
    ap (λ (d : Draft). snapshot d.members d.questions) (same_Some (draft a.members a.questions Behind) (draft b.members b.questions Behind) same)
