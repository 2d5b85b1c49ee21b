-- What was read is what the lines say: an allowed line extends the draft by one line.
use Rattle.std.proofs.Common.{◌≡◌, refl, sym, ◌∙◌, ap, subst, ℕ, ◌<◌, ◌≤◌, Bool, true, false, cond, List, [], ◌∷◌, ◌++◌, length, map, Option, Some, None, arith, append_assoc, append-nil, length-append}
use Rattle.std.specs.Prelude.{flat_map, option_map}
use Rattle.std.specs.List.{AllByRecursion}
use Rattle.std.proofs.lemmas.List.{map_push}
use Rattle.std.proofs.lemmas.Grind.{flat_map-append}
use Rattle.std.proofs.lemmas.Option.{same_Some}
use Rattle.cg_snapshot.specs.declared.heap.Member.{Member}
use Rattle.cg_snapshot.specs.declared.question.Question.{Question}
use Rattle.cg_snapshot.specs.declared.question.Question.TheVariants.{Dropped}
use Rattle.cg_snapshot.specs.declared.reading.Snapshot.{Snapshot}
use Rattle.cg_snapshot.specs.declared.line.Line.{Line}
use Rattle.cg_snapshot.specs.declared.line.Line.TheVariants as lines
use Rattle.cg_snapshot.specs.declared.draft.Stage.{Stage}
use Rattle.cg_snapshot.specs.declared.draft.Stage.TheVariants.{Before, Inside, Behind}
use Rattle.cg_snapshot.specs.declared.draft.Draft.{Draft}
use Rattle.cg_snapshot.specs.Members.{member, told_more, with_untold}
use Rattle.cg_snapshot.specs.Reading.{draft, is_asked, step}
use Rattle.cg_snapshot.specs.Lines.{untold_lines, member_lines, lines_of, IsLine, IsSmallQuestion}
use Rattle.cg_snapshot.specs.Rows.{AreSmall}
use Rattle.cg_snapshot.specs.Text.{IsSmallMember, IsAsked}
use Rattle.cg_records.proofs.Runs.{run, goes_on}
use Rattle.cg_snapshot.proofs.Machine.{start, of_asked, HasNumbers}

-- a snapshot of these members and questions
abbrev pub snapshot : List Member → List Question → Snapshot
snapshot members questions = record { members = members; questions = questions }

-- the lines that a draft was read from
abbrev pub lines_in : Stage → List Member → List Question → List Line
lines_in Before members questions = []
lines_in Inside members questions = lines.Opens ∷ flat_map member_lines members
lines_in Behind members questions = lines_of (snapshot members questions)

-- its members and questions are in range
abbrev pub IsFit : Stage → List Member → List Question → Type 0
IsFit Before members questions = (members ≡ []) × (questions ≡ [])
IsFit Inside members questions = AllByRecursion IsSmallMember members × (questions ≡ [])
IsFit Behind members questions = AllByRecursion IsSmallMember members × AllByRecursion (IsAsked (length members)) questions

-- The lines so far give the draft.
pub record Holds (done : List Line) (d : Draft) : Type 0 where
  pub reached : run step start done ≡ Some d
  pub says : done ≡ lines_in d.stage d.members d.questions
  pub fit : IsFit d.stage d.members d.questions

all_push : {X : Type 0} (P : X → Type 0) (xs : List X) (x : X) → AllByRecursion P xs → P x → AllByRecursion P (xs ++ x ∷ [])
all_push P [] x h p = (p, tt)
all_push P (y ∷ xs) x h p = (h.0, all_push P xs x h.1 p)

-- The effect of a line on a draft.
record Grows (done : List Line) (l : Line) (e : Draft) : Type 0 where
  pub says : done ++ l ∷ [] ≡ lines_in e.stage e.members e.questions
  pub fit : IsFit e.stage e.members e.questions

grown : (done : List Line) (l : Line) (e f : Draft) → Some e ≡ Some f → Grows done l e → Grows done l f
grown done l e f is h = subst (λ (d : Draft). Grows done l d) (same_Some e f is) h

one_member : (ms : List Member) (m : Member) → flat_map member_lines (ms ++ m ∷ []) ≡ flat_map member_lines ms ++ member_lines m
one_member ms m = flat_map-append member_lines ms (m ∷ []) ∙ ap (λ t. flat_map member_lines ms ++ t) (append-nil (member_lines m))

-- the members with untold words added
record Adds (old : List Member) (words : List ℕ) (new : List Member) : Type 0 where
  pub says : flat_map member_lines new ≡ flat_map member_lines old ++ lines.Adds words ∷ []
  pub fit : AllByRecursion IsSmallMember old → AllByRecursion IsSmallMember new

some_untold : (words : List ℕ) → 0 < length words → untold_lines words ≡ lines.Adds words ∷ []
some_untold [] h = absurd (omega (arith, h))
some_untold (n ∷ ns) h = refl

added_one : (m : Member) (told words : List ℕ) (new : List Member) → m.untold ≡ told → 0 < length words → AreSmall words → option_map (λ k. k ∷ [])
    (told_more m told words) ≡ Some new → Adds (m ∷ []) words new
added_one m (n ∷ ns) words new is some small e = absurd (cc)
added_one m [] words new is some small e = subst (λ (ks : List Member). Adds (m ∷ []) words ks) (same_Some (member m.degree m.size m.tracked m.legacy m.refs words ∷ []) new e) (record {
  says = append-nil (lines.Tells m.degree m.size m.tracked m.legacy m.refs ∷ untold_lines words) ∙ ap (λ t. lines.Tells m.degree m.size m.tracked m.legacy m.refs ∷ t) (some_untold words some)
      ∙ sym (ap (λ t. (lines.Tells m.degree m.size m.tracked m.legacy m.refs ∷ t) ++ lines.Adds words ∷ []) (append-nil (untold_lines m.untold) ∙ ap untold_lines is));
  fit = λ h. (record { degree = h.0.degree; size = h.0.size; refs = h.0.refs; untold = small }, tt);
})

added_more : (m : Member) (old : List Member) (words : List ℕ) (o : Option (List Member)) (new : List Member) → ((rest : List Member) → o ≡ Some rest
    → Adds old words rest) → option_map (λ rest. m ∷ rest) o ≡ Some new → Adds (m ∷ old) words new
added_more m old words None new ih e = absurd (cc)
added_more m old words (Some rest) new ih e =
    let h = ih rest refl in
    subst (λ (ks : List Member). Adds (m ∷ old) words ks) (same_Some (m ∷ rest) new e) (record {
      says = ap (λ t. member_lines m ++ t) h.says ∙ sym (append_assoc (member_lines m) (flat_map member_lines old) (lines.Adds words ∷ []));
      fit = λ all. (all.0, h.fit all.1);
    })

added : (ms : List Member) (words : List ℕ) (new : List Member) → 0 < length words → AreSmall words → with_untold ms words ≡ Some new → Adds ms words new
added [] words new some small e = absurd (cc)
added (m ∷ []) words new some small e = added_one m m.untold words new refl some small e
added (m ∷ k ∷ ms) words new some small e = added_more m (k ∷ ms) words (with_untold (k ∷ ms) words) new (λ rest is. added (k ∷ ms) words rest some small is) e

inside_adds : (done : List Line) (ms : List Member) (qs : List Question) (words : List ℕ) (e : Draft) (o : Option (List Member)) → done ≡ lines.Opens
    ∷ flat_map member_lines ms → AllByRecursion IsSmallMember ms → qs ≡ []
    → ((new : List Member) → o ≡ Some new → Adds ms words new) → option_map (λ ks. draft ks qs Inside) o ≡ Some e → Grows done (lines.Adds words) e
inside_adds done ms qs words e None says fit none h is = absurd (cc)
inside_adds done ms qs words e (Some new) says fit none h is =
    let more = h new refl in
    grown done (lines.Adds words) (draft new qs Inside) e is (record {
      says = ap (λ t. t ++ lines.Adds words ∷ []) says ∙ ap (λ t. lines.Opens ∷ t) (sym more.says);
      fit = (more.fit fit, none);
    })

numbers_of : (q : Question) → IsSmallQuestion q → HasNumbers q
numbers_of (Dropped ns) h = h.0
numbers_of other h = tt

asks_more : (ms : List Member) (qs : List Question) (q : Question) → lines_of (snapshot ms qs) ++ lines.Asks q ∷ [] ≡ lines_of (snapshot ms (qs ++ q ∷ []))
asks_more ms qs q =
    ap (λ t. lines.Opens ∷ t) (append_assoc (flat_map member_lines ms) (lines.Closes ∷ map lines.Asks qs) (lines.Asks q ∷ [])
    ∙ ap (λ t. flat_map member_lines ms ++ lines.Closes ∷ t) (sym (map_push lines.Asks qs q)))

behind_asks : (done : List Line) (ms : List Member) (qs : List Question) (q : Question) (e : Draft) (b : Bool) → is_asked (length ms) q ≡ b → done
    ≡ lines_of (snapshot ms qs) → AllByRecursion IsSmallMember ms → AllByRecursion (IsAsked (length ms)) qs → IsSmallQuestion q
    → cond b (Some (draft ms (qs ++ q ∷ []) Behind)) None ≡ Some e → Grows done (lines.Asks q) e
behind_asks done ms qs q e false asked says fit all small is = absurd (cc)
behind_asks done ms qs q e true asked says fit all small is =
    grown done (lines.Asks q) (draft ms (qs ++ q ∷ []) Behind) e is (record {
      says = ap (λ t. t ++ lines.Asks q ∷ []) says ∙ asks_more ms qs q;
      fit = (fit, all_push (IsAsked (length ms)) qs q all (of_asked (length ms) q (numbers_of q small) asked));
    })

grows : (done : List Line) (ms : List Member) (qs : List Question) (s : Stage) (l : Line) (e : Draft) → done ≡ lines_in s ms qs → IsFit s ms qs → IsLine l
    → step (draft ms qs s) l ≡ Some e → Grows done l e
grows done ms qs Before lines.Opens e says fit line is = grown done lines.Opens (draft ms qs Inside) e is (record {
  says = ap (λ t. t ++ lines.Opens ∷ []) says ∙ ap (λ (ks : List Member). lines.Opens ∷ flat_map member_lines ks) (sym fit.0);
  fit = (subst (λ (ks : List Member). AllByRecursion IsSmallMember ks) (sym fit.0) tt, fit.1);
})
grows done ms qs Inside (lines.Tells d z t l refs) e says fit line is =
    grown done (lines.Tells d z t l refs) (draft (ms ++ member d z t l refs [] ∷ []) qs Inside) e is (record {
      says = ap (λ k. k ++ lines.Tells d z t l refs ∷ []) says ∙ ap (λ k. lines.Opens ∷ k) (sym (one_member ms (member d z t l refs [])));
      fit = (all_push IsSmallMember ms (member d z t l refs []) fit.0 (record { degree = line.0; size = line.1; refs = line.2; untold = tt }), fit.1);
    })
grows done ms qs Inside (lines.Adds words) e says fit line is = inside_adds done ms qs words e (with_untold ms words) says fit.0 fit.1 (λ new p. added ms words new line.0 line.1 p) is
grows done ms qs Inside lines.Closes e says fit line is =
    grown done lines.Closes (draft ms qs Behind) e is (record {
      says = ap (λ k. k ++ lines.Closes ∷ []) says ∙ ap (λ (ks : List Question). lines_of (snapshot ms ks)) (sym fit.1);
      fit = (fit.0, subst (λ (ks : List Question). AllByRecursion (IsAsked (length ms)) ks) (sym fit.1) tt);
    })
grows done ms qs Behind (lines.Asks q) e says fit line is = behind_asks done ms qs q e (is_asked (length ms) q) refl says fit.0 fit.1 line is
grows done ms qs other said e says fit line is = absurd (cc)

pub holds_more : (done : List Line) (d e : Draft) (l : Line) → Holds done d → IsLine l → step d l ≡ Some e → Holds (done ++ l ∷ []) e
holds_more done d e l h line is =
    let more = grows done d.members d.questions d.stage l e h.says h.fit line is in
    record { reached = goes_on step start d e done l h.reached is; says = more.says; fit = more.fit }

-- every draft can be completed to a text
pub completes : (done : List Line) (ms : List Member) (qs : List Question) (s : Stage) → done ≡ lines_in s ms qs → IsFit s ms qs
    → (rs : List Question) × (more : List Line) × (lines_of (snapshot ms rs) ≡ done ++ more) × AllByRecursion IsSmallMember ms × AllByRecursion (IsAsked (length ms)) rs
completes done ms qs Before says fit = (
  [],
  lines_of (snapshot ms []),
  ap (λ t. t ++ lines_of (snapshot ms [])) (sym says),
  subst (λ (ks : List Member). AllByRecursion IsSmallMember ks) (sym fit.0) tt,
  tt,
)
completes done ms qs Inside says fit = ([], lines.Closes ∷ [], ap (λ t. t ++ lines.Closes ∷ []) (sym says), fit.0, tt)
completes done ms qs Behind says fit = (qs, [], sym says ∙ sym (append-nil done), fit.0, fit.1)

-- there are at least as many lines as members
members_lines : (ms : List Member) → length ms ≤ length (flat_map member_lines ms)
members_lines [] = omega arith
members_lines (m ∷ ms) = omega (arith, members_lines ms, length-append (member_lines m) (flat_map member_lines ms))

pub few_members : (done : List Line) (ms : List Member) (qs : List Question) (s : Stage) → done ≡ lines_in s ms qs → IsFit s ms qs → length ms ≤ length done
few_members done ms qs Before says fit = omega (arith, ap (λ (ks : List Member). length ks) fit.0)
few_members done ms qs Inside says fit = omega (arith, ap (λ (ks : List Line). length ks) says, members_lines ms)
few_members done ms qs Behind says fit = omega (arith, ap (λ (ks : List Line). length ks) says, members_lines ms, length-append (flat_map member_lines ms) (lines.Closes ∷ map lines.Asks qs))
