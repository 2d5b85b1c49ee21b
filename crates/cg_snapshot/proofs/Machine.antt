-- Reading the lines of a snapshot one by one gives this snapshot.
use Rattle.std.proofs.Common.{◌≡◌, refl, sym, ◌∙◌, ap, ℕ, ◌<◌, Bool, true, false, cond, not, nat_lt, ◌&&◌, List, [], ◌∷◌, ◌++◌, length, map, Some, None, append_assoc, append-nil}
use Rattle.std.specs.Prelude.{flat_map, option_map}
use Rattle.std.specs.List.{AllByRecursion}
use Rattle.std.proofs.lemmas.Bool.{ltb-true, lt-ltb}
use Rattle.cg_records.specs.Lists.{none_in}
use Rattle.cg_records.proofs.Runs.{then, run, chain}
use Rattle.cg_graph.specs.Member.{includes}
use Rattle.cg_graph.proofs.Members.{Includes-of, includes-of, true_and}
use Rattle.cg_snapshot.specs.declared.heap.Member.{Member}
use Rattle.cg_snapshot.specs.declared.question.Question.{Question}
use Rattle.cg_snapshot.specs.declared.question.Question.TheVariants.{Why, Referrers, Dropped}
use Rattle.cg_snapshot.specs.declared.reading.Snapshot.{Snapshot}
use Rattle.cg_snapshot.specs.declared.line.Line.TheVariants as lines
use Rattle.cg_snapshot.specs.declared.draft.Stage.TheVariants.{Before, Inside, Behind}
use Rattle.cg_snapshot.specs.declared.draft.Draft.{Draft}
use Rattle.cg_snapshot.specs.Members.{member, told_more, with_untold}
use Rattle.cg_snapshot.specs.Reading.{draft, are_below, is_asked, step}
use Rattle.cg_snapshot.specs.Lines.{untold_lines, member_lines, lines_of}
use Rattle.cg_snapshot.specs.Text.{AreMembers, IsAsked}

abbrev pub start : Draft
start = draft [] [] Before

untold-last : (ms : List Member) (d s : ℕ) (t l : Bool) (refs words : List ℕ) → with_untold (ms ++ member d s t l refs [] ∷ []) words ≡ Some (ms ++ member d s t l refs words ∷ [])
untold-last (m ∷ k ∷ ms) d s t l refs words = ap (option_map (λ rest. m ∷ rest)) (untold-last (k ∷ ms) d s t l refs words)
untold-last xs d s t l refs words = refl

-- the last member had untold words
pub untold_had : (ms : List Member) (m : Member) (words : List ℕ) → none_in m.untold ≡ false → with_untold (ms ++ m ∷ []) words ≡ None
untold_had [] m words some = ap (option_map (λ k. k ∷ [])) (by m.untold some)
  where
    by : (told : List ℕ) → none_in told ≡ false → told_more m told words ≡ None
    by [] e = absurd (cc)
    by (n ∷ ns) e = refl
untold_had (k ∷ []) m words some = ap (option_map (λ rest. k ∷ rest)) (untold_had [] m words some)
untold_had (k ∷ l ∷ ms) m words some = ap (option_map (λ rest. k ∷ rest)) (untold_had (l ∷ ms) m words some)

-- the last member had none
pub untold_given : (ms : List Member) (m : Member) (words : List ℕ) → none_in m.untold ≡ true → with_untold (ms ++ m ∷ []) words
    ≡ Some (ms ++ member m.degree m.size m.tracked m.legacy m.refs words ∷ [])
untold_given [] m words none = ap (option_map (λ k. k ∷ [])) (by m.untold none)
  where
    by : (told : List ℕ) → none_in told ≡ true → told_more m told words ≡ Some (member m.degree m.size m.tracked m.legacy m.refs words)
    by [] e = refl
    by (n ∷ ns) e = absurd (cc)
untold_given (k ∷ []) m words none = ap (option_map (λ rest. k ∷ rest)) (untold_given [] m words none)
untold_given (k ∷ l ∷ ms) m words none = ap (option_map (λ rest. k ∷ rest)) (untold_given (l ∷ ms) m words none)

run_untold : (ms : List Member) (qs : List Question) (d s : ℕ) (t l : Bool) (refs words : List ℕ) → run step (draft (ms ++ member d s t l refs [] ∷ []) qs Inside)
    (untold_lines words) ≡ Some (draft (ms ++ member d s t l refs words ∷ []) qs Inside)
run_untold ms qs d s t l refs [] = refl
run_untold ms qs d s t l refs (n ∷ ns) = ap (λ o. then (option_map (λ ks. draft ks qs Inside) o) (λ e. Some e)) (untold-last ms d s t l refs (n ∷ ns))

run_members : (done ms : List Member) (qs : List Question) → run step (draft done qs Inside) (flat_map member_lines ms) ≡ Some (draft (done ++ ms) qs Inside)
run_members done [] qs = ap (λ l. Some (draft l qs Inside)) (sym (append-nil done))
run_members done (m ∷ ms) qs =
    chain step (draft (done ++ member m.degree m.size m.tracked m.legacy m.refs [] ∷ []) qs Inside) (draft (done ++ m ∷ []) qs Inside) (untold_lines m.untold)
    (flat_map member_lines ms) (Some (draft (done ++ m ∷ ms) qs Inside))
    (run_untold done qs m.degree m.size m.tracked m.legacy m.refs m.untold)
    (run_members (done ++ m ∷ []) ms qs ∙ ap (λ l. Some (draft l qs Inside)) (append_assoc done (m ∷ []) ms))

pub are_true : (a b : Bool) → a ≡ true → b ≡ true → (a && b) ≡ true
are_true true b p q = q
are_true false b p q = absurd (cc)

-- the test decides whether the numbers are those of members
pub below_of : (count : ℕ) (ns : List ℕ) → AreMembers count ns → are_below count ns ≡ true
below_of count [] h = refl
below_of count (n ∷ ns) h = are_true (nat_lt n count) (are_below count ns) (lt-ltb n count h.0) (below_of count ns h.1)

pub of_below : (count : ℕ) (ns : List ℕ) → are_below count ns ≡ true → AreMembers count ns
of_below count [] h = tt
of_below count (n ∷ ns) h = let parts = true_and (nat_lt n count) (are_below count ns) h in (ltb-true n count parts.0, of_below count ns parts.1)

absent : (b : Bool) → (b ≡ true → ⊥) → not b ≡ true
absent true h = absurd (h refl)
absent false h = refl

is_absent : (b : Bool) → not b ≡ true → b ≡ true → ⊥
is_absent b h e = let f : not true ≡ true = ap not (sym e) ∙ h in absurd (cc)

pub asked_of : (count : ℕ) (q : Question) → IsAsked count q → is_asked count q ≡ true
asked_of count (Why n but) h =
    are_true (nat_lt n count) (are_below count but && not (includes but n)) (lt-ltb n count h.0)
    (are_true (are_below count but) (not (includes but n)) (below_of count but h.1) (absent (includes but n) (λ e. h.2 (Includes-of but n e))))
asked_of count (Referrers n) h = lt-ltb n count h
asked_of count (Dropped ns) h = below_of count ns h.1
asked_of count other h = refl

-- a question with members to drop
abbrev pub HasNumbers : Question → Type 0
HasNumbers (Dropped ns) = 0 < length ns
HasNumbers other = Unit {0}

pub of_asked : (count : ℕ) (q : Question) → HasNumbers q → is_asked count q ≡ true → IsAsked count q
of_asked count (Why n but) some h =
    let parts = true_and (nat_lt n count) (are_below count but && not (includes but n)) h in
    let rest = true_and (are_below count but) (not (includes but n)) parts.1 in
    (ltb-true n count parts.0, of_below count but rest.0, λ m. is_absent (includes but n) rest.1 (includes-of but n m))
of_asked count (Referrers n) some h = ltb-true n count h
of_asked count (Dropped ns) some h = (some, of_below count ns h)
of_asked count other some h = tt

run_questions : (ms : List Member) (done qs : List Question) → AllByRecursion (IsAsked (length ms)) qs → run step (draft ms done Behind) (map lines.Asks qs) ≡ Some (draft ms (done ++ qs) Behind)
run_questions ms done [] h = ap (λ l. Some (draft ms l Behind)) (sym (append-nil done))
run_questions ms done (q ∷ qs) h =
    ap (λ b. then (cond b (Some (draft ms (done ++ q ∷ []) Behind)) None) (λ e. run step e (map lines.Asks qs))) (asked_of (length ms) q h.0)
    ∙ run_questions ms (done ++ q ∷ []) qs h.1 ∙ ap (λ l. Some (draft ms l Behind)) (append_assoc done (q ∷ []) qs)

-- the lines of a snapshot give it
pub run-lines_of : (s : Snapshot) → AllByRecursion (IsAsked (length s.members)) s.questions → run step start (lines_of s) ≡ Some (draft s.members s.questions Behind)
run-lines_of s h =
    chain step (draft [] [] Inside) (draft s.members [] Inside) (flat_map member_lines s.members) (lines.Closes ∷ map lines.Asks s.questions) (Some (draft s.members s.questions Behind))
    (run_members [] s.members []) (run_questions s.members [] s.questions h)
