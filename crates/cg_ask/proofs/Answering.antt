-- Answers that are appended.
use Rattle.std.proofs.Common.{◌≡◌, refl, sym, ◌∙◌, ap, subst, ℕ, Bool, List, [], ◌∷◌, ◌++◌, length, append_assoc, append-nil}
use Rattle.std.specs.Prelude.{codes}
use Rattle.cg_graph.specs.Member.{Includes}
use Rattle.cg_search.specs.Places.{Marks}
use Rattle.cg_snapshot.specs.declared.heap.Member.{Member}
use Rattle.cg_snapshot.specs.declared.question.Question.{Question}
use Rattle.cg_snapshot.specs.declared.question.Question.TheVariants as questions
use Rattle.cg_snapshot.specs.Text.{question_text}
use Rattle.cg_ask.specs.Dying.{Dies}
use Rattle.cg_ask.specs.Asked.{outside_at, IsGone, IsShortest}
use Rattle.cg_ask.specs.Answers.{rows_text, line, totals_of, nothing_more, way_text, IsReason, by_path, IsTold, TellsReferrer, TellsHidden, TellsLost, TellsGone, TellsKept}
use Rattle.cg_ask.specs.Marked.{AppendsRows, MarkJust, flags_of}
use Rattle.cg_ask.specs.Told.{AppendsReason, AppendsTold, AppendsAnswer, AppendsWhole}
use Rattle.cg_ask.specs.Totals.{AppendsGone}
use Rattle.cg_ask.specs.declared.sets.Totals.{Totals}
use Rattle.cg_ask.proofs.Rows.{tells_same, flag_of, of_flag}

-- rows, with nothing after them
told_rows : (P : ℕ → List ℕ → Type 0) (word old new : List ℕ) → AppendsRows P word old new → (text : List ℕ) × IsTold P word nothing_more text × (new ≡ old ++ text)
told_rows P word old new h = (rows_text word h.rows, (h.rows, h.tells, sym (append-nil (rows_text word h.rows))), h.text)

pub answer_hidden : (ms : List Member) (old new : List ℕ) → AppendsRows (TellsHidden ms) (codes "hidden") old new → AppendsAnswer ms questions.Hidden old new
answer_hidden ms old new h = let t = told_rows (TellsHidden ms) (codes "hidden") old new h in record { text = t.0; answer = t.1; appended = t.2 }

pub answer_lost : (ms : List Member) (old new : List ℕ) → AppendsRows (TellsLost ms) (codes "lost") old new → AppendsAnswer ms questions.Lost old new
answer_lost ms old new h = let t = told_rows (TellsLost ms) (codes "lost") old new h in record { text = t.0; answer = t.1; appended = t.2 }

pub answer_kept : (ms : List Member) (old new : List ℕ) → AppendsRows (TellsKept ms) (codes "kept") old new → AppendsAnswer ms questions.Untold old new
answer_kept ms old new h = let t = told_rows (TellsKept ms) (codes "kept") old new h in record { text = t.0; answer = t.1; appended = t.2 }

pub answer_why : (ms : List Member) (object : ℕ) (but seen : List ℕ) (old new : List ℕ) → seen ≡ but → AppendsReason ms seen object old new → AppendsAnswer ms (questions.Why object but) old new
answer_why ms object but seen old new is h = record { text = h.text; answer = subst (λ (ns : List ℕ). IsReason ms ns object h.text) is h.reason; appended = h.appended }

pub answer_referrers : (ms : List Member) (object : ℕ) (old new : List ℕ) → AppendsTold (TellsReferrer ms object) (codes "referrer")
    (λ rows. line (codes "outside") (outside_at ms object ∷ [])) old new → AppendsAnswer ms (questions.Referrers object) old new
answer_referrers ms object old new h = record { text = h.text; answer = h.told; appended = h.appended }

pub answer_dropped : (ms : List Member) (places seen : List ℕ) (old new : List ℕ) → seen ≡ places → AppendsTold (TellsGone ms seen) (codes "gone")
    (λ rows. line (codes "total") (totals_of ms rows)) old new → AppendsAnswer ms (questions.Dropped places) old new
answer_dropped ms places seen old new is h = record {
  text = h.text;
  answer = subst (λ (ns : List ℕ). IsTold (TellsGone ms ns) (codes "gone")
      (λ rows. line (codes "total") (totals_of ms rows)) h.text) is h.told;
  appended = h.appended;
}

-- the question, the lines and the end
pub whole_answer : (ms : List Member) (q : Question) (old asked lined new : List ℕ) → asked ≡ old ++ question_text q → AppendsAnswer ms q asked lined → new
    ≡ lined ++ codes "done\n" → AppendsWhole ms q old new
whole_answer ms q old asked lined new asks h ends = record {
  text = question_text q ++ h.text ++ codes "done\n";
  answers = record { lines = h.text; is_answer = h.answer; whole = refl };
  appended = ends ∙ ap (λ t. t ++ codes "done\n") (h.appended ∙ ap (λ t. t ++ h.text) asks ∙ append_assoc old (question_text q) h.text) ∙ append_assoc old (question_text q ++ h.text) (codes "done\n");
}

-- the rows of referrers, then the outside holds
pub referrers_told : (ms : List Member) (object holds : ℕ) (old mid new : List ℕ) → AppendsRows (TellsReferrer ms object) (codes "referrer") old mid → holds
    ≡ outside_at ms object → new ≡ mid ++ line (codes "outside") (holds ∷ [])
    → AppendsTold (TellsReferrer ms object) (codes "referrer") (λ rows. line (codes "outside") (outside_at ms object ∷ [])) old new
referrers_told ms object holds old mid new h is put = record {
  text = rows_text (codes "referrer") h.rows ++ line (codes "outside") (outside_at ms object ∷ []);
  told = (h.rows, h.tells, refl);
  appended = put ∙ ap (λ n. mid ++ line (codes "outside") (n ∷ [])) is ∙ ap (λ t. t ++ line (codes "outside") (outside_at ms object ∷ [])) h.text
      ∙ append_assoc old (rows_text (codes "referrer") h.rows) (line (codes "outside") (outside_at ms object ∷ []));
}

-- the rows of what would go, then the totals
pub gone_told : (ms : List Member) (places : List ℕ) (gone dead : List Bool) (old mid new : List ℕ) (t : Totals) → MarkJust (length ms) (IsGone ms places) gone
    → MarkJust (length ms) (Dies ms (Includes places)) dead → AppendsGone ms gone dead old mid t
    → new ≡ mid ++ line (codes "total") (t.members ∷ t.bytes ∷ t.dead ∷ t.dead_bytes ∷ []) → AppendsTold (TellsGone ms places) (codes "gone") (λ rows. line (codes "total") (totals_of ms rows)) old new
gone_told ms places gone dead old mid new t g d h put = record {
  text = rows_text (codes "gone") h.rows ++ line (codes "total") (totals_of ms h.rows);
  told = (
    h.rows,
    tells_same (λ m ns. Marks gone m × (ns ≡ flags_of dead m)) (TellsGone ms places) h.rows h.tells
        (λ m ns p. record { gone = (g.just m).0 p.0; by_count = flag_of (Dies ms (Includes places) m) dead m ns (d.just m) p.1 })
        (λ m ns r. ((g.just m).1 r.gone, of_flag (Dies ms (Includes places) m) dead m ns (d.just m) r.by_count)),
    refl,
  );
  appended = put ∙ ap (λ ns. mid ++ line (codes "total") ns) h.totals ∙ ap (λ u. u ++ line (codes "total") (totals_of ms h.rows)) h.text
      ∙ append_assoc old (rows_text (codes "gone") h.rows) (line (codes "total") (totals_of ms h.rows));
}

pub reason_path : (ms : List Member) (without path : List ℕ) (object : ℕ) (old new : List ℕ) → IsShortest ms without path object → new ≡ old ++ way_text ms path
    → AppendsReason ms without object old new
reason_path ms without path object old new shortest put = record { text = way_text ms path; reason = by_path path shortest refl; appended = put }
